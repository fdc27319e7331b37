-- Searches that take turns: what one of the same sets in another order finds, and one of a copy of them.
use mathlib.Core.Path.{◌≡◌, refl, sym, ap, ap₂, ◌∙◌, subst}
use mathlib.Core.Bool.{Bool}
use mathlib.Core.List.{List, ◌++◌}
use Prim.Native.Nat.{ℕ, suc, ◌-◌, ◌≤◌, min}
use native.Mathlib.Nat.{sub-zero}
use lib.ListN.{length, take, drop}
use lib.Seq.{take_all, take_at}
use Rattle.drive_sets.specs.Lists.{elem}
use Rattle.drive_sets.specs.Lists.Times.{elem_same_times}
use Rattle.survivor_tables.specs.Hitting.{minimals}
use Rattle.survivor_tables.specs.Hitting.Laws.{hits_same_elements}
use Rattle.drive_sets.specs.Masks.{Below}
use Rattle.search_attempts.specs.Attempts.{Attempted}
use Rattle.search_orders.specs.Rearranged.{Permuted}
use Rattle.survivor_tables.specs.Order.{sort}
use Rattle.survivor_tables.specs.Order.Strict.{Strict}
use Rattle.survivor_tables.proofs.Hitting.Listed.{listed_same}
use Rattle.survivor_tables.specs.Order.Sort.{length_sort}

-- the same sets in another order
module _ (before : ℕ → ℕ → Bool) (strict : Strict before) (sets other : List ℕ) (below : Below 64 sets) (same : Permuted sets other) where
  same_elem : (x : ℕ) → elem x other ≡ elem x sets
  same_elem = elem_same_times other sets same

  same_list_law : sort before (minimals other) ≡ sort before (minimals sets)
  same_list_law = listed_same before strict other sets (λ x h. below x (sym (same_elem x) ∙ h)) below (λ m. hits_same_elements other sets m same_elem)

  same_count : length (minimals other) ≡ length (minimals sets)
  same_count = sym (length_sort before (minimals other)) ∙ (ap length same_list_law ∙ length_sort before (minimals sets))

  pub tried_other : {room : ℕ} {list : List ℕ} {r : ℕ} → Attempted before other room list r → Attempted before sets room list r
  tried_other {room} a = record {
    total = a.total ∙ ap (min (suc room)) same_count;
    listed = λ p q. a.listed p q ∙ same_list_law;
  }

-- a list that earlier searches wrote into has as much room
pub same_room : {before : ℕ → ℕ → Bool} {sets list : List ℕ} {k room : ℕ} {r : ℕ} → k ≡ room → Attempted before sets k list r
    → Attempted before sets room list r
same_room {before} {sets} {list} {r = r} e a = subst (λ (n : ℕ). Attempted before sets n list r) e a

-- the sets copied into longer memory, and searched there as a part from the start on
pub tried_copy : {before : ℕ → ℕ → Bool} (sets old copy : List ℕ) {room : ℕ} {list : List ℕ} {r : ℕ} → length sets ≤ length old
    → copy ≡ take (length old) sets ++ drop (length sets) old → Attempted before (take (length sets - 0) copy) room list r → Attempted before sets room list r
tried_copy {before} sets old copy {room} {list} {r} h e a = subst (λ (l : List ℕ). Attempted before l room list r) same a
  where
    same : take (length sets - 0) copy ≡ sets
    same =
        ap₂ take (sub-zero (length sets)) (e ∙ ap (λ (l : List ℕ). l ++ drop (length sets) old) (take_all (length old) sets h))
        ∙ take_at sets (drop (length sets) old) (length sets) refl
