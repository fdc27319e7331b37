-- The frame of a scenario has at most 64 drives and holds its core: so the tests of the code refuse no scenario.
use mathlib.Core.Path.{subst}
use mathlib.Core.List.{List}
use Prim.Native.Nat.{ℕ, ◌^◌, ◌≤◌, ◌<◌}
use Rattle.drive_sets.specs.declared.Pattern.{Pattern}
use Rattle.survivor_tables.specs.Order.{normal}
use Rattle.survivor_tables.specs.Tables.{Accepted}
use Rattle.survivor_tables.proofs.Tables.Laws.{table_accepted, chosen_core_law}
use Rattle.runs.specs.Scenario.{Scenario, core_of}
use Rattle.drive_crashes.specs.declared.Crashes.{Crashes}
use Rattle.simulated_decisions.specs.Arguments.{Told}

module _ {n core : ℕ} {numbers : List Pattern} {c : Crashes} {s : Scenario} (g : Told n core numbers c s) where
  accepted : Accepted s.n s.sets
  accepted = (table_accepted s.n s.sets (normal s.sets) g.valid.accepted).0

  pub frame_bound : n ≤ 64
  frame_bound = subst (λ (m : ℕ). m ≤ 64) g.says.frame_is accepted.high

  pub core_bound : core < 2 ^ n
  unfolding core_of
  core_bound =
      subst (λ (m : ℕ). core < 2 ^ m) g.says.frame_is (subst (λ (k : ℕ). k < 2 ^ s.n) g.says.core_is (chosen_core_law s.n s.sets accepted).within)
