-- What the code's record of decisions says: how a drive ends, as far as it is known.
use Rattle.std.specs.Prelude.{Bool, cond, List, ℕ, ◌-◌, Option, None, Some, get_or, replicate}
use Rattle.drive_sets.specs.Masks.{has}
use Rattle.agreement.specs.RoundEndings.{Ending, decides, undecided, stopped}
use Rattle.simulated_decisions.specs.declared.noting.First.{First}

-- from a drive's first decision, if it has decided
unfoldable pub ending_by : Option First → Ending
ending_by None = undecided
ending_by (Some first) = decides first.number.0 first.round.0

-- a drive's first decision, from those of all drives, drive 1 first
unfoldable pub first_of : List (Option First) → ℕ → Option First
first_of found d = get_or found (d - 1) None

unfoldable pub found_of : List (Option First) → ℕ → Ending
found_of found d = ending_by (first_of found d)

-- nothing found of any drive
abbrev pub nothing_found : List (Option First)
nothing_found = replicate 64 None

-- the first decision counts
unfoldable pub or_later : Ending → Ending → Ending
or_later (decides v r) later = decides v r
or_later undecided later = later
or_later stopped later = stopped

-- ---- with the drives that stop

-- how a drive ends, from whether it has a CR, and its first decision
unfoldable pub ending_for : Bool → Option First → Ending
ending_for crashes first = cond crashes stopped (ending_by first)

-- the same from the drives with a CR, and the first decisions by drive
unfoldable pub ending_at : ℕ → List (Option First) → ℕ → Ending
ending_at crashed found d = ending_for (has d crashed) (first_of found d)
