-- The parts of a drive's state, and the rules that a state keeps: refusal 28.
use Rattle.std.specs.Prelude.{Bool, true, false, not, ◌&&◌, ◌||◌, List, map, ℕ, ◌-◌, get_or}
use Rattle.drive_sets.specs.declared.Pattern.{Pattern}
use Rattle.drive_sets.specs.Counts.{is_drive, is_round}
use Rattle.drive_sets.specs.Masks.{has, subset}
use Rattle.survivor_tables.specs.Tables.{is_frame, is_set}
use Rattle.drive_states.specs.declared.Exchange.{Exchange}
use Rattle.drive_states.specs.declared.Decision.{Decision}
use Rattle.drive_states.specs.declared.Decision.TheVariants.{Undecided, Decided}
pub mod Laws

-- the drive is in the core: core drives talk, the others listen
unfoldable pub in_core : Exchange → Bool
in_core x = has x.own.0 x.core

-- the pattern number that is v
abbrev pub pattern : ℕ → Pattern
pattern v = record { 0 = v }

-- the numbers of an array of pattern numbers
abbrev pub values : List Pattern → List ℕ
values numbers = map (λ (v : Pattern). v.0) numbers

-- what a list of pattern numbers, drive 1 first, has for a drive; 0 past its end
unfoldable pub number_in : List Pattern → ℕ → ℕ
number_in numbers d = (get_or numbers (d - 1) (pattern 0)).0

-- the pattern number held for a drive; it counts where the drive is known
unfoldable pub number_of : Exchange → ℕ → ℕ
number_of x d = number_in x.numbers d

unfoldable pub is_decided : Decision → Bool
is_decided Undecided = false
is_decided (Decided v) = true

-- 28, the state breaks a rule: n outside 1 to 64, core empty or above n, a core drive not knowing its own number now or
-- at the round's start, own number above n or 0, round outside 1 to core size, a heard or known set outside the core
unfoldable pub broken : Exchange → Bool
broken x =
    not (is_frame x.n)
    || not (is_set x.n x.core)
    || (in_core x && not (has x.own.0 x.known && has x.own.0 x.start))
    || not (is_drive x.n x.own.0)
    || not (is_round x.core x.round.0)
    || not (subset x.before x.core && subset x.heard x.core && subset x.known x.core && subset x.start x.core)
