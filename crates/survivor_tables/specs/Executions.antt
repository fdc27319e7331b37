-- Cores and survivor sets read from executions: Junqueira and Marzullo, document 004, Definitions 1 and 2. In plain
-- words: an algorithm is run by the processes 1 to n, here drives. Correct(φ) is the set of processes that are not
-- faulty in execution φ.
-- 1. A set C of processes is a core if in every execution some process of C is correct, and if for every process p of C
--    there is an execution in which no process of C other than p is correct.
-- 2. A set S of processes is a survivor set if there is an execution whose correct processes are S, and if in no
--    execution the correct processes lie within S without one of its processes.
use Rattle.std.specs.Prelude.{◌≡◌, true, false, List, ℕ, ◌^◌, ◌<◌}
use Rattle.drive_sets.specs.Lists.{any, elem}
use Rattle.drive_sets.specs.Masks.{has, single, minus, meets, subset}
pub mod Laws

-- Definition 1, for executions Φ of which `correct` gives the correct processes
pub record Core {Φ : Type 0} (n : ℕ) (correct : Φ → ℕ) (c : ℕ) : Type 0 where
  pub within : c < 2 ^ n
  pub some_correct : (φ : Φ) → meets (correct φ) c ≡ true
  pub none_to_spare : (p : ℕ) → has p c ≡ true → (φ : Φ) × (meets (correct φ) (minus c (single p)) ≡ false)

-- Definition 2
pub record Survivor {Φ : Type 0} (correct : Φ → ℕ) (s : ℕ) : Type 0 where
  pub occurs : (φ : Φ) × (correct φ ≡ s)
  pub smallest : (φ : Φ) (p : ℕ) → has p s ≡ true → subset (correct φ) (minus s (single p)) ≡ false

-- the executions that a list of sets stands for: the correct processes of each hold one of the sets, and each of the
-- sets occurs
pub record Describes {Φ : Type 0} (n : ℕ) (sets : List ℕ) (correct : Φ → ℕ) : Type 0 where
  pub within : (φ : Φ) → correct φ < 2 ^ n
  pub holds_set : (φ : Φ) → any (λ s. subset s (correct φ)) sets ≡ true
  pub occurs : (s : ℕ) → elem s sets ≡ true → (φ : Φ) × (correct φ ≡ s)

-- such executions: all that leave some set of the list correct
abbrev pub Tolerated : ℕ → List ℕ → Type 0
Tolerated n sets = (m : ℕ) × (m < 2 ^ n) × (any (λ s. subset s m) sets ≡ true)
