-- Scenarios in which wrong drives go wrong: two drives, both in the core, that propose 7 and 5, and perhaps a third
-- that listens.
use Rattle.std.specs.Prelude.{[], ◌∷◌, ℕ, zero, suc}
use Rattle.runs.specs.Scenario.{Crash, stays, crashes, Scenario}

abbrev pub proposals : ℕ → ℕ
proposals zero = 0
proposals (suc zero) = 7
proposals (suc (suc d)) = 5

-- each of the first two drives is a survivor set, so that both are in the core
abbrev pub two_sets : ℕ → (ℕ → Crash) → Scenario
two_sets n crash = record { n = n; sets = 1 ∷ 2 ∷ []; proposal = proposals; crash = crash }

-- nobody crashes
abbrev pub pair : Scenario
pair = two_sets 2 (λ d. stays)

-- drive 2 is gone in round 1 after so many sends
abbrev pub second_gone : ℕ → ℕ → Crash
second_gone sends zero = stays
second_gone sends (suc zero) = stays
second_gone sends (suc (suc zero)) = crashes 1 sends
second_gone sends (suc (suc (suc d))) = stays

-- two drives, of which one is gone at once; and three, of which one is gone after a send
abbrev pub half_gone : Scenario
half_gone = two_sets 2 (second_gone 0)

abbrev pub listened : Scenario
listened = two_sets 3 (second_gone 1)
