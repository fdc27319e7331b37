-- Failure models: document 002, section 3. In plain words: a failure model says which sets of processes, here drives,
-- can fail together in a run.
-- 1. A model is monotone if with a set each part of it can fail too.
-- 2. A set that can fail is maximal if it is no proper part of another that can (Definition 3, a maximal adversary
--    class). A fail-prone system is a monotone model, given by the list of all its maximal sets.
-- 3. A set of processes is a core if in each set that can fail one of its processes is missing, and if for every process
--    p of it some set that can fail has all its others (Definition 4).
-- 4. A set of processes is a survivor if it meets each core, and each process p of it is alone in it in some core
--    (Definition 5).
-- A fault list gives the sets that lie within one of its groups; document 002 shows that form to be equivalent to
-- survivor sets.
use Rattle.std.specs.Prelude.{◌≡◌, true, false, List, ◌↔◌, ℕ, ◌^◌, ◌<◌}
use Rattle.drive_sets.specs.Lists.{any, elem}
use Rattle.drive_sets.specs.Masks.{has, single, common, minus, outside, meets, subset}

-- a model, as the sets that can fail
abbrev pub Model : Type 1
Model = ℕ → Type 0

-- Definition 3
pub record Maximal (F : Model) (a : ℕ) : Type 0 where
  pub can_fail : F a
  pub no_larger : (f : ℕ) → F f → subset a f ≡ true → f ≡ a

pub record FailProne (F : Model) (list : List ℕ) : Type 0 where
  pub monotone : (f part : ℕ) → F f → subset part f ≡ true → F part
  pub maximal : (a : ℕ) → (elem a list ≡ true) ↔ Maximal F a

-- Definition 4
pub record CoreFor (n : ℕ) (F : Model) (c : ℕ) : Type 0 where
  pub within : c < 2 ^ n
  pub some_missing : (f : ℕ) → F f → subset c f ≡ false
  pub none_to_spare : (p : ℕ) → has p c ≡ true → (f : ℕ) × F f × (subset (minus c (single p)) f ≡ true)

-- Definition 5, of the list of all cores: p lies in some core, and no other process of s does
pub record SurvivorFor (n : ℕ) (cores : List ℕ) (s : ℕ) : Type 0 where
  pub within : s < 2 ^ n
  pub all_met : (c : ℕ) → elem c cores ≡ true → meets c s ≡ true
  pub alone : (p : ℕ) → has p s ≡ true → (c : ℕ) × (elem c cores ≡ true) × (common c s ≡ single p)

-- the model of a fault list: some drives can fail together if they lie within one of its groups
abbrev pub CanFail : List ℕ → Model
CanFail groups f = any (subset f) groups ≡ true

-- the model of survivor sets: some drives of the frame can fail together if the rest of it holds a survivor set
abbrev pub RestHolds : ℕ → List ℕ → Model
RestHolds n sets f = (f < 2 ^ n) × (any (λ s. subset s (outside n f)) sets ≡ true)

-- the executions of which a fault list tells: the faulty processes of each lie within one of the groups, and each of
-- the groups fails in some execution
pub record FailsAs {Φ : Type 0} (n : ℕ) (groups : List ℕ) (faulty : Φ → ℕ) : Type 0 where
  pub within : (φ : Φ) → faulty φ < 2 ^ n
  pub in_group : (φ : Φ) → CanFail groups (faulty φ)
  pub occurs : (g : ℕ) → elem g groups ≡ true → (φ : Φ) × (faulty φ ≡ g)
