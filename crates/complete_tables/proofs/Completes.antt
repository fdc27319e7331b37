-- The normal table and its cores, as the code finds them, are those of the definitions.
use Rattle.std.specs.Prelude.{◌≡◌, refl, Bool, List, [], ◌∷◌, ℕ, ◌+◌, ◌≤◌, ◌<◌, ◌==◌, true, false, ltb, length, get_or, take, drop}
use Rattle.std.proofs.Common.{sym, ap, ◌∙◌, arith, ne_eqb, le-ltb, lt-ltb, length-drop}
use Rattle.std.proofs.lemmas.List.{at_drop_more}
use Rattle.drive_sets.specs.Lent.{size_written, buffer_after}
use Rattle.drive_sets.specs.Lent.Laws.{first_places}
use Rattle.drive_sets.specs.Limits.{max_sets, max_cores}
use Rattle.drive_sets.specs.Refusals.{Outcome, refused, yields, and_then, number}
use Rattle.drive_sets.specs.Refusals.Laws.{refused_no_result, same_result, then_refuse}
use Rattle.drive_sets.specs.declared.Refusal.TheVariants.{TooManyCores}
use Rattle.normal_forms.specs.NormalForms.{normal_list}
use Rattle.normal_forms.specs.NormalForms.Laws.{normal_list_result}
use Rattle.core_search.specs.Found.{Found}
use Rattle.core_search.specs.Found.Laws.{found_listed}
use Rattle.set_orders.specs.Sorting.{precedes}
use Rattle.set_orders.specs.declared.sorting.Order.TheVariants.{BySize}
use Rattle.survivor_tables.specs.Hitting.{minimals}
use Rattle.survivor_tables.specs.Order.{by_size, sort, normal}
use Rattle.survivor_tables.specs.Order.Normal.{length_normal}
use Rattle.survivor_tables.specs.Order.Sort.{length_sort}
use Rattle.survivor_tables.specs.Tables.{is_empty, cores, within_core_limit, checked_mask, each_mask}
use Rattle.survivor_tables.specs.declared.frames.MaskKind.{MaskKind}
use Rattle.complete_tables.specs.Complete.{with_cores, complete_normal, complete_sets}

-- ---- the normal table

-- the normal form of at most 128 sets has room in an array of 128
module _ {room : ℕ} (sets : List ℕ) (most : length sets ≤ max_sets) (e : room ≡ max_sets) where
  is_normal : normal_list room sets ≡ yields (normal sets)
  is_normal = normal_list_result room sets most (omega arith)

  pub form_given : {q : ℕ} → refused q ≡ size_written (normal_list room sets) → ⊥
  form_given says = refused_no_result (says ∙ ap size_written is_normal)

  pub normal_taken : {count : ℕ} (old : List ℕ) {new : List ℕ} → yields count ≡ size_written (normal_list room sets)
      → length old ≡ room → new ≡ buffer_after (normal_list room sets) 0 old → take count new ≡ normal sets
  normal_taken {count} old says f after =
      let count_is = same_result (says ∙ ap size_written is_normal) in
      ap (take count) (after ∙ ap (λ (o : Outcome (List ℕ)). buffer_after o 0 old) is_normal)
      ∙ first_places old (normal sets) count (sym count_is) (omega (arith, length_normal sets))

-- ---- the cores

by_size_law : precedes BySize ≡ by_size
unfolding precedes
by_size_law = refl

module _ (n : ℕ) {table out out' : List ℕ} {found : ℕ} (room : length out ≡ max_cores)
    (f : Found (precedes BySize) table out out' found) where
  core_count : length (cores table) ≡ length (minimals table)
  unfolding cores
  core_count = length_sort by_size (minimals table)

  pub too_many : max_cores < found → refused (number TooManyCores) ≡ complete_normal n table
  unfolding complete_normal
  too_many h = rw (lt-ltb max_cores (length (cores table)) (omega (arith, f.total, core_count)))

  pub completed : found ≤ max_cores → yields (record { n = n; sets = table; cores = take found out' }) ≡ complete_normal n table
  unfolding complete_normal with_cores cores
  completed h =
      ap (λ (c : List ℕ). yields (record { n = n; sets = table; cores = c }))
      (found_listed f (omega arith) ∙ ap (λ (b : ℕ → ℕ → Bool). sort b (minimals table)) by_size_law)
      ∙ rw (le-ltb max_cores (length (cores table)) (omega (arith, f.total, core_count)))

pub complete_normal_law : (n : ℕ) (sets : List ℕ) → complete_normal n (normal sets) ≡ complete_sets n sets
unfolding complete_normal complete_sets within_core_limit
complete_normal_law n sets =
    sym (then_refuse (ltb max_cores (length (cores (normal sets)))) TooManyCores (normal sets) (λ table. yields (with_cores n table)))

-- ---- masks, one after the other

-- what the masks from a place on meet is what the one at the place meets, and then the others
pub each_next : {A : Type 0} (kind : MaskKind) (n : ℕ) (masks : List ℕ) (next : Outcome A) (i : ℕ) → i < length masks
    → each_mask kind n (drop i masks) next
    ≡ and_then (checked_mask kind n (get_or masks i 0)) (λ good. each_mask kind n (drop (i + 1) masks) next)
unfolding each_mask
each_next kind n masks next i h = at_drop_more (λ l. each_mask kind n l next) masks i 0 h

-- ---- is there any

pub no_elements : (l : List ℕ) → length l ≡ 0 → is_empty l ≡ true
unfolding is_empty
no_elements [] e = refl
no_elements (x ∷ l) e = absurd (omega arith)

pub some_elements : (l : List ℕ) → (length l ≡ 0 → ⊥) → is_empty l ≡ false
unfolding is_empty
some_elements [] ne = absurd (ne refl)
some_elements (x ∷ l) ne = refl

-- as a slice's own test says
pub empty_law : (l : List ℕ) → is_empty l ≡ (length l == 0)
unfolding is_empty
empty_law [] = refl
empty_law (x ∷ l) = sym (ne_eqb _ 0 (λ e. omega arith))

-- ---- nothing behind, or something

pub rest_none : (s : List ℕ) (k : ℕ) → length s ≤ k → is_empty (drop k s) ≡ true
rest_none s k h = no_elements (drop k s) (omega (arith, length-drop k s))

pub rest_some : (s : List ℕ) (k : ℕ) → k < length s → is_empty (drop k s) ≡ false
rest_some s k h = some_elements (drop k s) (λ e. omega (arith, length-drop k s))
