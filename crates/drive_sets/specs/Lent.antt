-- A list for a lent slice, of bytes or of sets, from a starting place on: how many places are written, and the slice
-- afterwards. 14 where it does not fit, last.
use Rattle.std.specs.Prelude.{not, cond, List, ◌++◌, ℕ, ◌+◌, leb, length, take, drop}
use Rattle.drive_sets.specs.declared.Refusal.TheVariants.{NoRoom}
use Rattle.drive_sets.specs.Refusals.{Outcome, refused, yields, refuse_if, and_then}
pub mod Laws

-- a slice with a list over its first places; as it was where the list does not fit
unfoldable pub written : List ℕ → List ℕ → List ℕ
written new old = cond (leb (length new) (length old)) (new ++ drop (length new) old) old

-- a slice with a list from a starting place on
unfoldable pub written_at : ℕ → List ℕ → List ℕ → List ℕ
written_at start new old = take start old ++ written new (drop start old)

-- the list, where a slice of so many places has room for it from the starting place on
unfoldable pub fitting : ℕ → ℕ → List ℕ → Outcome (List ℕ)
fitting start room list = refuse_if (not (leb (start + length list) room)) NoRoom (yields list)

-- how many places are written
abbrev pub size_written : Outcome (List ℕ) → Outcome ℕ
size_written due = and_then due (λ list. yields (length list))

-- the slice afterwards: only the own places change, and on a refusal none
abbrev pub buffer_after : Outcome (List ℕ) → ℕ → List ℕ → List ℕ
buffer_after (refused r) start old = old
buffer_after (yields list) start old = written_at start list old
