-- How a run refutes agreement: in the end a drive that stays up stands undecided, or two of them stand decided on two
-- numbers.
use mathlib.Core.Path.{◌≡◌, refl, ap}
use mathlib.Core.Bool.{true, false}
use mathlib.Core.List.{List, ◌++◌}
use Prim.Native.Nat.{ℕ, suc}
use native.Mathlib.Omega.{arith}
use lib.ListN.{length}
use Rattle.drive_sets.specs.Masks.{size}
use Rattle.drive_states.specs.declared.Decision.{Decision}
use Rattle.drive_states.specs.declared.Decision.TheVariants.{Undecided, Decided}
use Rattle.runs.specs.Protocol.{Protocol}
use Rattle.runs.specs.World.{Call, nothing_open, apply_all, decision_of}
use Rattle.runs.specs.Scenario.{Scenario, core_of}
use Rattle.runs.specs.Runs.{Run, joined, opening_part, round_parts}
use Rattle.runs.specs.Statement.{Valid, Untouched, Up, Agreement}

-- 0 for none, else one more than the number
unfoldable pub number_on : Decision → ℕ
number_on Undecided = 0
number_on (Decided v) = suc v.0

-- the parts of a list of calls that is a run of these drives
pub record Parts (P : Protocol) (s : Scenario) : Type 0 where
  pub first : List Call
  pub rounds : List (List Call)
  pub many : length rounds ≡ size (core_of s)
  pub opens_all : opening_part P s (λ d. false) nothing_open first ≡ true
  pub keeps_rounds : round_parts P s 1 (apply_all P nothing_open first) rounds ≡ true

module _ {P : Protocol} {s : Scenario} (ok : Valid s) (untouched : Untouched s) (p : Parts P s) where
  abbrev pub calls_of : List Call
  calls_of = p.first ++ joined p.rounds

  pub run_of : Run P s calls_of
  run_of = record { first = p.first; rounds = p.rounds; whole = refl; many = p.many; opens_all = p.opens_all; keeps_rounds = p.keeps_rounds }

  -- what a drive stands on in the end
  abbrev pub stands : ℕ → ℕ
  stands d = number_on (decision_of (apply_all P nothing_open calls_of d))

  agreed_stands : (a : Agreement P) → (v : ℕ) × ((d : ℕ) → Up s d → stands d ≡ suc v)
  unfolding Agreement number_on
  agreed_stands a = let g = a s ok untouched calls_of run_of in (g.value, λ d u. ap number_on (g.final d u))

  pub undecided_refutes : (d : ℕ) → Up s d → stands d ≡ 0 → Agreement P → ⊥
  undecided_refutes d u h a = let g = agreed_stands a in absurd (omega (arith, h, g.1 d u))

  pub apart_refutes : (d e v w : ℕ) → Up s d → Up s e → stands d ≡ suc v → stands e ≡ suc w → (v ≡ w → ⊥) → Agreement P → ⊥
  apart_refutes d e v w u u' h h' other a = let g = agreed_stands a in other (omega (arith, h, h', g.1 d u, g.1 e u'))
