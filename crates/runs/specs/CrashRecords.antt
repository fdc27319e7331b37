-- CR records: what passes 8, 9 and 10; and a scenario from lists, the pattern numbers by drive and CR records.
use Rattle.std.specs.Prelude.{Bool, not, ◌&&◌, cond, List, [], ◌∷◌, map, ℕ, ◌-◌, eqb, ltb, get_or}
use Rattle.drive_sets.specs.declared.Refusal.TheVariants.{DriveNumber, CrashRound, CrashSends}
use Rattle.drive_sets.specs.Masks.{has, of_drives}
use Rattle.drive_sets.specs.Refusals.{Outcome, yields, refuse_if}
use Rattle.drive_sets.specs.Counts.{is_drive, is_round}
use Rattle.runs.specs.Scenario.{Crash, stays, crashes, Scenario}
pub mod Laws

-- a CR record: drive, round, sends
pub record CrashRecord : Type 0 where
  pub drive : ℕ
  pub round : ℕ
  pub sends : ℕ

-- the drives that the records name, in their order and as a set: the drives with a CR
abbrev pub drives_of : List CrashRecord → List ℕ
drives_of crs = map (λ (c : CrashRecord). c.drive) crs

unfoldable pub crashed : List CrashRecord → ℕ
crashed crs = of_drives (drives_of crs)

-- ---- CR: 8, 9, 10

-- a drive of the frame, above the last
unfoldable pub is_next : ℕ → ℕ → ℕ → Bool
is_next n last d = is_drive n d && ltb last d

-- how many sends a CR may have: n − 1 for a core drive, none for a listener
unfoldable pub most_sends : ℕ → ℕ → ℕ → ℕ
most_sends n core d = cond (has d core) (n - 1) 0

-- 9, the round; 10, the sends
abbrev pub checked_stop : ℕ → ℕ → CrashRecord → Outcome CrashRecord
checked_stop n core c =
    refuse_if (not (is_round core c.round)) CrashRound
    (refuse_if (ltb (most_sends n core c.drive) c.sends) CrashSends
    (yields c))

-- a CR after that of the last drive: 8, then 9 and 10
unfoldable pub checked_crash : ℕ → ℕ → ℕ → CrashRecord → Outcome CrashRecord
checked_crash n core last c = refuse_if (not (is_next n last c.drive)) DriveNumber (checked_stop n core c)

-- ---- a scenario

-- the CR of a drive: the first of its records
unfoldable pub crash_in : List CrashRecord → ℕ → Crash
crash_in [] d = stays
crash_in (c ∷ cs) d = cond (eqb c.drive d) (crashes c.round c.sends) (crash_in cs d)

-- a scenario from n, the sets, the pattern numbers, drive 1 first, and the CR records
unfoldable pub scenario : ℕ → List ℕ → List ℕ → List CrashRecord → Scenario
scenario n sets numbers crs = record { n = n; sets = sets; proposal = λ d. get_or numbers (d - 1) 0; crash = crash_in crs }
