-- The minimal hitting sets of a list, put in an order: exactly they are listed, each once, and no other list is such.
use Rattle.std.specs.Prelude.{◌≡◌, Bool, true, List, ℕ}
use Rattle.std.proofs.Common.{sym, ◌∙◌}
use Rattle.drive_sets.specs.Bools.Laws.{same_test}
use Rattle.drive_sets.specs.Lists.{elem, ordered}
use Rattle.drive_sets.specs.Lists.Laws.{ordered_unique}
use Rattle.survivor_tables.specs.Hitting.{hits, Minimal, minimals}
use Rattle.survivor_tables.specs.Hitting.Laws.{minimal_same_hits}
use Rattle.drive_sets.specs.Masks.{Below}
use Rattle.survivor_tables.proofs.Hitting.SearchLaws.{minimals_minimal, minimal_found}
use Rattle.survivor_tables.proofs.Hitting.Distinct.{minimals_distinct}
use Rattle.survivor_tables.specs.Order.{sort}
use Rattle.survivor_tables.specs.Order.Strict.{Strict}
use Rattle.survivor_tables.specs.Order.Sort.{elem_sort, ordered_sort}

module _ (before : ℕ → ℕ → Bool) (sets : List ℕ) (word : Below 64 sets) where
  pub listed_minimal : (m : ℕ) → elem m (sort before (minimals sets)) ≡ true → Minimal sets m
  listed_minimal m h = minimals_minimal sets m word (sym (elem_sort before m (minimals sets)) ∙ h)

  pub minimal_listed : (m : ℕ) → Minimal sets m → elem m (sort before (minimals sets)) ≡ true
  minimal_listed m h = elem_sort before m (minimals sets) ∙ minimal_found sets m word h

  module _ (strict : Strict before) where
    pub listed_ordered : ordered before (sort before (minimals sets)) ≡ true
    listed_ordered = ordered_sort before strict (minimals sets) (minimals_distinct sets word)

    pub listed_unique : (l : List ℕ) → ordered before l ≡ true → ((m : ℕ) → elem m l ≡ true → Minimal sets m) → ((m : ℕ) → Minimal sets m → elem m l ≡ true)
        → l ≡ sort before (minimals sets)
    listed_unique l o sound complete =
        ordered_unique before strict.asym l (sort before (minimals sets)) o listed_ordered
        (λ m. same_test (elem m l) (elem m (sort before (minimals sets))) (λ h. minimal_listed m (sound m h)) (λ h. complete m (listed_minimal m h)))

-- lists that the same sets hit have the same list, whatever the order of their sets
pub listed_same : (before : ℕ → ℕ → Bool) → Strict before → (l k : List ℕ) → Below 64 l → Below 64 k → ((m : ℕ) → hits l m ≡ hits k m)
    → sort before (minimals l) ≡ sort before (minimals k)
listed_same before strict l k p q f =
    listed_unique before k q strict (sort before (minimals l)) (listed_ordered before l p strict)
    (λ m h. minimal_same_hits l k m f (listed_minimal before l p m h))
    (λ m h. minimal_listed before l p m (minimal_same_hits k l m (λ x. sym (f x)) h))
