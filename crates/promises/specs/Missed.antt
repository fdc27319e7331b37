-- The first set that a group of drives misses, of the call that is given n, sets and the group. Document 02: "the first
-- set of the normal table that is missed, by its position, and none exactly where the drives meet them all."
use Rattle.std.specs.Prelude.{◌≡◌, true, false, ◌↔◌, List, ℕ, ◌≤◌, ◌<◌, length, None, Some}
use Rattle.drive_sets.specs.Positions.{Position}
use Rattle.drive_sets.specs.Lists.{elem}
use Rattle.drive_sets.specs.Masks.{has, subset}
use Rattle.drive_sets.specs.Refusals.{yields}
use Rattle.survivor_tables.specs.Order.{normal}
use Rattle.survivor_tables.specs.Tables.{is_set, cores, missed_set, Accepted}
use Rattle.verdict_search.specs.Verdicts.{set_at}

-- a drive of the set is in the group
abbrev pub Meet : ℕ → ℕ → Type 0
Meet set group = (d : ℕ) × (has d set ≡ true) × (has d group ≡ true)

-- p is a position of the table, no drive of its set is in the group, and one of each set before it is
pub record FirstMissed (table : List ℕ) (group p : ℕ) : Type 0 where
  pub low : 1 ≤ p
  pub high : p ≤ length table
  pub missed : (d : ℕ) → has d (set_at table p) ≡ true → has d group ≡ false
  pub before : (q : ℕ) → 1 ≤ q → q < p → Meet (set_at table q) group

-- a position that is given is that of the first set of the normal table that the group misses
unfoldable pub MissedOfCall : Type 0
MissedOfCall = (n : ℕ) (sets : List ℕ) (group p : ℕ) → missed_set n sets group ≡ yields (Some p) → FirstMissed (normal sets) group p

-- none is given exactly where the group meets every set of the normal table, and exactly where it meets every set that
-- was handed over, and exactly where it holds a core
unfoldable pub NoneOfCall : Type 0
NoneOfCall = (n : ℕ) (sets : List ℕ) (group : ℕ) → Accepted n sets → is_set n group ≡ true
    → (missed_set n sets group ≡ yields None) ↔ ((set : ℕ) → elem set (normal sets) ≡ true → Meet set group)

unfoldable pub NoneOfListed : Type 0
NoneOfListed = (n : ℕ) (sets : List ℕ) (group : ℕ) → Accepted n sets → is_set n group ≡ true
    → (missed_set n sets group ≡ yields None) ↔ ((set : ℕ) → elem set sets ≡ true → Meet set group)

unfoldable pub NoneHoldsCore : Type 0
NoneHoldsCore = (n : ℕ) (sets : List ℕ) (group : ℕ) → Accepted n sets → is_set n group ≡ true
    → (missed_set n sets group ≡ yields None) ↔ ((core : ℕ) × (elem core (cores (normal sets)) ≡ true) × (subset core group ≡ true))

-- a table and a group that meet no refusal get an answer, and no others do
unfoldable pub MissedGiven : Type 0
MissedGiven = (n : ℕ) (sets : List ℕ) (group : ℕ)
    → ((p : Position) × (missed_set n sets group ≡ yields p)) ↔ (Accepted n sets × (is_set n group ≡ true))
