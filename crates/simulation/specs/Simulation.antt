-- The simulated exchange as a call: from n and sets, pattern numbers, any for a listener, and CR records the refusals,
-- or how each drive ends by the rounds, the core and f. Every run of the scenario gives the same.
use Rattle.std.specs.Prelude.{List, [], ◌∷◌, ℕ, is_none}
use Rattle.drive_sets.specs.declared.Refusal.TheVariants.{NoneUntouched}
use Rattle.drive_sets.specs.Refusals.{Outcome, yields, refuse_if, and_then}
use Rattle.survivor_tables.specs.Hitting.{first_missed}
use Rattle.survivor_tables.specs.Tables.{chosen, normal_table}
use Rattle.runs.specs.Scenario.{Scenario, core_of}
use Rattle.runs.specs.CrashRecords.{CrashRecord, crashed, checked_crash, scenario}
use Rattle.runs.specs.Statement.{core_crashes}
use Rattle.agreement.specs.RoundEndings.{Ending, endings}
pub mod Laws

-- ---- the CR records: 8, 9, 10 of each

-- the records from one on, where the last drive is given: the first refusal, or what comes next
module _ {A : Type 0} where
  unfoldable pub checked_crashes : ℕ → ℕ → ℕ → List CrashRecord → Outcome A → Outcome A
  checked_crashes n core last [] next = next
  checked_crashes n core last (c ∷ cs) next =
      and_then (checked_crash n core last c) (λ passed. checked_crashes n core c.drive cs next)

-- ---- the call: the table's, then each CR's, then 11

-- how each drive ends, the core, and f, the number of core drives with a CR
pub record Simulated : Type 0 where
  pub endings : List Ending
  pub core : ℕ
  pub stops : ℕ

abbrev pub simulated_of : Scenario → Simulated
simulated_of s = record { endings = endings s; core = core_of s; stops = core_crashes s }

-- 11, every survivor set has a drive with a CR: none is missed by these drives; else what the scenario gives
abbrev pub unless_touched : ℕ → List ℕ → List ℕ → List CrashRecord → Outcome Simulated
unless_touched n sets numbers crs =
    refuse_if (is_none (first_missed sets (crashed crs))) NoneUntouched (yields (simulated_of (scenario n sets numbers crs)))

unfoldable pub simulated : ℕ → List ℕ → List ℕ → List CrashRecord → Outcome Simulated
simulated n sets numbers crs =
    and_then (normal_table n sets) (λ table. checked_crashes n (chosen table) 0 crs (unless_touched n sets numbers crs))
