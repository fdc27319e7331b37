-- What the verdict of the call on k says, and which calls get one. Document 01: "Verdict on k, 2 to 4: yes if any k
-- sets of the normal table, repeats allowed, share a drive. Otherwise no, with the first k positions (..) that share
-- none, and k blocks (..). No block holds a core, and yes means that every split into k blocks has one that does."
-- Document 02: "By document 004 a partition's blocks are not empty and the frame has more than k drives. After 01's
-- blocks are formed, while one is empty, the lowest drive of the first block with two or more moves to the first empty
-- block. (..) For a frame of k drives or fewer (..) the agreement with k-Partition covers larger frames only. It
-- refuses with 33 a verdict on such a frame, after 12 and the table's own checks."
use Rattle.std.specs.Prelude.{◌≡◌, List, ◌↔◌, ℕ, ◌≤◌, ◌<◌}
use Rattle.drive_sets.specs.Refusals.{refused, yields}
use Rattle.survivor_tables.specs.Order.{normal}
use Rattle.survivor_tables.specs.Tables.{Accepted}
use Rattle.verdict_search.specs.Verdicts.{Verdict, yes, no}
use Rattle.verdicts.specs.Calls.{verdict}
use Rattle.verdict_search.specs.Meaning.{Intersection}
use Rattle.verdicts.specs.Partitions.{Partition, NoWitness}

pub record VerdictSays (k n : ℕ) (table : List ℕ) (v : Verdict) : Type 0 where
  -- yes exactly if every k sets of the table, repeats allowed, share a drive
  pub intersection : (v ≡ yes) ↔ Intersection k n table
  -- yes exactly if every split of the drives into k blocks, none empty, has one that holds a core
  pub partition : (v ≡ yes) ↔ Partition k n table
  -- a no names the first k positions whose sets share no drive, and k blocks that split the drives, none of which is
  -- empty or holds a core
  pub witness : (ps blocks : List ℕ) → v ≡ no ps blocks → NoWitness k n table ps blocks

-- of every verdict that the call gives
unfoldable pub VerdictOfCall : Type 0
VerdictOfCall = (k n : ℕ) (sets : List ℕ) (v : Verdict) → verdict k n sets ≡ yields v → VerdictSays k n (normal sets) v

-- a frame of more than k drives gets a verdict, for k 2 to 4 and an accepted table, and no other does
unfoldable pub VerdictGiven : Type 0
VerdictGiven = (k n : ℕ) (sets : List ℕ) → ((v : Verdict) × (verdict k n sets ≡ yields v)) ↔ ((2 ≤ k) × (k ≤ 4) × Accepted n sets × (k < n))

-- a frame of k drives or fewer meets 33, for k 2 to 4 and an accepted table, and no other does
unfoldable pub FewRefused : Type 0
FewRefused = (k n : ℕ) (sets : List ℕ) → (verdict k n sets ≡ refused 33) ↔ ((2 ≤ k) × (k ≤ 4) × Accepted n sets × (n ≤ k))
