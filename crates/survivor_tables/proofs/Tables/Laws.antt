-- Theorems of tables: the list of cores is THE list of Junqueira and Marzullo's cores, Back lists what it should and of
-- a table's cores is the table, and what holds of the chosen core of every accepted table.
use Rattle.std.specs.Prelude.{◌≡◌, true, false, not, ◌⊎◌, ℕ, ◌^◌, ◌≤◌, ◌<◌, eqb, leb, ltb, length}
use Rattle.std.proofs.Math.Path.{refl, subst}
use Rattle.std.proofs.Common.{sym, ap, ◌∙◌, lt_of_lt_of_le, arith, pow_mono}
use Rattle.std.proofs.Math.Logic.{⊎_elim}
use mathlib.Core.List.{List, [], ◌∷◌}
use borrow.Author.Tests.{leb-true, le-leb, ltb-false, le-ltb, eqb-false, ne_eqb, not-true, not-false}
use Rattle.drive_sets.specs.declared.Refusal.TheVariants.{WrongMark, FrameSize, BadSet, TooManySets, TooManyCores, AllDrives}
use Rattle.drive_sets.specs.Bools.Laws.{clash, by_test, and_intro, and_left, and_right, cond_false}
use Rattle.drive_sets.specs.Lists.{all, elem, ordered}
use Rattle.drive_sets.specs.Lists.Laws.{elem_some, elem_head, elem_tail, elem_none, elem_cases, all_elem, ordered_first}
use Rattle.drive_sets.specs.Lists.Places.{get_or_elem}
use Rattle.drive_sets.specs.Masks.{has, single, full, common, subset, meets, Below}
use Rattle.drive_sets.specs.Masks.Laws.{full_lt, full_has, full_subset, has_some, has_bounds, has_meets}
use Rattle.drive_sets.specs.Refusals.{Outcome, refused, yields, refuse_if}
use Rattle.drive_sets.specs.Refusals.Laws.{refused_no_result, passed, refused_by_law, same_result, first_result, first_refused}
use Rattle.survivor_tables.specs.declared.frames.MaskKind.{MaskKind}
use Rattle.survivor_tables.specs.declared.frames.MaskKind.TheVariants.{SurvivorSet, FaultGroup}
use Rattle.survivor_tables.specs.Hitting.{hits, Minimal}
use Rattle.survivor_tables.specs.Hitting.Laws.{hits_meets, meets_hits, hits_same_elements, minimal_lt, minimal_same_hits}
use Rattle.survivor_tables.specs.Hitting.Critical.{critical_all}
use Rattle.survivor_tables.specs.Hitting.Minimality.{minimal_critical, hitting_contains}
use Rattle.survivor_tables.proofs.Hitting.Duality.{back_of_minimals}
use Rattle.survivor_tables.specs.Order.{by_mask, by_size, normal}
use Rattle.survivor_tables.specs.Order.Strict.{by_mask_strict, by_size_strict}
use Rattle.survivor_tables.proofs.Hitting.Listed.{listed_minimal, minimal_listed, listed_ordered, listed_unique, listed_same}
use Rattle.survivor_tables.specs.Order.Normal.{normal_elem, ordered_normal, antichain_normal, normal_idempotent, normal_some, length_normal}
use Rattle.survivor_tables.specs.Hitting.Normal.{hits_normal}
use Rattle.drive_sets.specs.Limits.{max_drives, max_sets, max_cores}
use Rattle.survivor_tables.specs.Tables.{Accepted, is_frame, is_set, is_empty, core_order, cores, chosen, dual, within_core_limit, checked_mask, each_mask, checked_masks, checked_sets, normal_table, survivor_sets, chosen_core}

-- ---- n and the number of masks

pub frame_high : (n : ℕ) → is_frame n ≡ true → n ≤ max_drives
unfolding is_frame
frame_high n e = leb-true n max_drives (and_right (leb 1 n) (leb n max_drives) e)

not_empty : (l : List ℕ) → is_empty l ≡ false → 1 ≤ length l
unfolding is_empty
not_empty [] e = absurd (clash refl e)
not_empty (x ∷ l) e = omega arith

pub some_not_empty : (l : List ℕ) → 1 ≤ length l → is_empty l ≡ false
unfolding is_empty
some_not_empty [] h = absurd (omega arith)
some_not_empty (x ∷ l) h = refl

-- ---- what it is for n and masks to meet nothing before 13

-- a mask that meets nothing is given as it is
mask_same : (kind : MaskKind) (n m : ℕ) {x : ℕ} → checked_mask kind n m ≡ yields x → m ≡ x
unfolding checked_mask
mask_same SurvivorSet n m e = same_result (passed (not (is_set n m)) BadSet (yields m) e).1
mask_same FaultGroup n m e = let within = passed (not (subset m (full n))) BadSet _ e in same_result (passed (eqb m (full n)) AllDrives (yields m) within.1).1

pub mask_result : (kind : MaskKind) (n m : ℕ) {x : ℕ} → checked_mask kind n m ≡ yields x → checked_mask kind n x ≡ yields x
mask_result kind n m e = ap (checked_mask kind n) (sym (mask_same kind n m e)) ∙ e

pub set_lt : (n s : ℕ) → is_set n s ≡ true → s < 2 ^ n
unfolding is_set
set_lt n s e = full_subset n s (and_right (not (eqb s 0)) (subset s (full n)) e)

-- a survivor set that meets nothing is a set of the frame, and the other way round
mask_set : (n s : ℕ) {x : ℕ} → checked_mask SurvivorSet n s ≡ yields x → is_set n s ≡ true
unfolding checked_mask
mask_set n s e = not-false (is_set n s) (passed (not (is_set n s)) BadSet (yields s) e).0

pub set_mask : (n s : ℕ) → is_set n s ≡ true → checked_mask SurvivorSet n s ≡ yields s
unfolding checked_mask
set_mask n s e = cond_false _ _ (ap not e)

-- a fault group that meets nothing lies within the frame and is not all of it, and the other way round
pub mask_group : (n g : ℕ) {x : ℕ} → checked_mask FaultGroup n g ≡ yields x → (subset g (full n) ≡ true) × (g ≡ full n → ⊥)
unfolding checked_mask
mask_group n g e =
    let within = passed (not (subset g (full n))) BadSet _ e in
    (not-false (subset g (full n)) within.0, eqb-false g (full n) (passed (eqb g (full n)) AllDrives (yields g) within.1).0)

pub group_mask : (n g : ℕ) → subset g (full n) ≡ true → (g ≡ full n → ⊥) → checked_mask FaultGroup n g ≡ yields g
unfolding checked_mask
group_mask n g e ne = cond_false _ _ (ap not e) ∙ cond_false _ _ (ne_eqb g (full n) ne)

-- either lies within the frame
pub mask_lt : (kind : MaskKind) (n m : ℕ) {x : ℕ} → checked_mask kind n m ≡ yields x → m < 2 ^ n
mask_lt SurvivorSet n m e = set_lt n m (mask_set n m e)
mask_lt FaultGroup n m e = full_subset n m (mask_group n m e).0

-- each of the masks
module _ {A : Type 0} (kind : MaskKind) (n : ℕ) (next : Outcome A) where
  abbrev Good : List ℕ → Type 0
  Good masks = (m : ℕ) → elem m masks ≡ true → checked_mask kind n m ≡ yields m

  each_good : (masks : List ℕ) → Good masks → each_mask kind n masks next ≡ next
  unfolding each_mask
  each_good [] good = refl
  each_good (m ∷ masks) good = rw (good m (elem_head m masks)) (each_good masks (λ x h. good x (elem_tail x m masks h)))

  each_passed : (masks : List ℕ) {a : A} → each_mask kind n masks next ≡ yields a → Good masks × (next ≡ yields a)
  unfolding each_mask
  each_passed [] e = ((λ m h. absurd (clash h (elem_none m))), e)
  each_passed (m ∷ masks) e =
      let first = first_result (checked_mask kind n m) (λ good. each_mask kind n masks next) e in
      let rest = each_passed masks first.2 in
      ((λ x h. ⊎_elim (λ same. subst (λ (y : ℕ). checked_mask kind n y ≡ yields y) (sym (same ∙ mask_same kind n m first.1)) (mask_result kind n m first.1)) (rest.0 x) (elem_cases x m masks h)), rest.1)

-- of survivor sets, that is 4 unless each is a set of the frame
pub each_set : {A : Type 0} (n : ℕ) (sets : List ℕ) (next : Outcome A) → each_mask SurvivorSet n sets next ≡ refuse_if (not (all (is_set n) sets)) BadSet next
unfolding each_mask checked_mask all
each_set n [] next = refl
each_set n (s ∷ sets) next = by_test (is_set n s) (λ t. rw t (each_set n sets next)) (λ t. rw t)

pub record Checked (kind : MaskKind) (n : ℕ) (masks : List ℕ) : Type 0 where
  pub frame : is_frame n ≡ true
  pub some : 1 ≤ length masks
  pub most : length masks ≤ max_sets
  pub good : (m : ℕ) → elem m masks ≡ true → checked_mask kind n m ≡ yields m

module _ (kind : MaskKind) (n : ℕ) (masks : List ℕ) where
  pub masks_checked : {l : List ℕ} → checked_masks kind n masks ≡ yields l → Checked kind n masks × (masks ≡ l)
  unfolding checked_masks
  masks_checked e =
      let frame = passed (not (is_frame n)) FrameSize _ e in
      let some = passed (is_empty masks) WrongMark _ frame.1 in
      let most = passed (ltb max_sets (length masks)) TooManySets _ some.1 in
      let good = each_passed kind n (yields masks) masks most.1 in (
        record {
          frame = not-false (is_frame n) frame.0;
          some = not_empty masks some.0;
          most = ltb-false max_sets (length masks) most.0;
          good = good.0;
        },
        same_result good.1,
      )

  pub checked_masks_law : Checked kind n masks → checked_masks kind n masks ≡ yields masks
  unfolding checked_masks
  checked_masks_law c =
      rw (c.frame, some_not_empty masks c.some, le-ltb max_sets (length masks) c.most) (each_good kind n (yields masks) masks c.good)

-- ---- what it is for n and sets to meet no refusal

pub frame_low : (n : ℕ) → is_frame n ≡ true → 1 ≤ n
unfolding is_frame
frame_low n e = leb-true 1 n (and_left (leb 1 n) (leb n max_drives) e)

-- sets that meet nothing before 13, and have few cores
pub checked_accepted : (n : ℕ) (sets : List ℕ) → Checked SurvivorSet n sets → length (cores (normal sets)) ≤ max_cores → Accepted n sets
checked_accepted n sets c few = record {
  low = frame_low n c.frame;
  high = frame_high n c.frame;
  some = c.some;
  most = c.most;
  good = λ s h. mask_set n s (c.good s h);
  few_cores = few;
}

-- where the normal table is given, it is that of the sets, and they have few cores
pub within_limit : (sets : List ℕ) {table : List ℕ} → within_core_limit sets ≡ yields table → (length (cores (normal sets)) ≤ max_cores) × (table ≡ normal sets)
unfolding within_core_limit
within_limit sets e =
    let few = passed (ltb max_cores (length (cores (normal sets)))) TooManyCores _ e in
    (ltb-false max_cores (length (cores (normal sets))) few.0, sym (same_result few.1))

pub table_accepted : (n : ℕ) (sets table : List ℕ) → normal_table n sets ≡ yields table → Accepted n sets × (table ≡ normal sets)
unfolding normal_table
table_accepted n sets table e =
    let first = first_result (checked_sets n sets) within_core_limit e in
    let checked = masks_checked SurvivorSet n sets first.1 in
    let few = within_limit first.0 first.2 in
    let same = checked.1 in
    (checked_accepted n sets checked.0 (rw same few.0), few.1 ∙ ap normal (sym same))

-- the numbers with which n and sets are refused go up to 13
pub table_refused : (n : ℕ) (sets : List ℕ) {q : ℕ} → normal_table n sets ≡ refused q → q ≤ 13
unfolding normal_table checked_masks within_core_limit
table_refused n sets e =
    ⊎_elim
    (λ h. ⊎_elim (λ w. omega arith) (λ w.
    ⊎_elim (λ x. omega arith) (λ x.
    ⊎_elim (λ y. omega arith) (λ y.
    ⊎_elim (λ z. omega arith) (λ z. absurd (refused_no_result (sym z.1)))
    (refused_by_law (not (all (is_set n) sets)) BadSet _ (sym (each_set n sets (yields sets)) ∙ y.1)))
    (refused_by_law (ltb max_sets (length sets)) TooManySets _ x.1))
    (refused_by_law (is_empty sets) WrongMark _ w.1))
    (refused_by_law (not (is_frame n)) FrameSize _ h))
    (λ w. ⊎_elim (λ h. omega arith) (λ h. absurd (refused_no_result (sym h.1)))
    (refused_by_law (ltb max_cores (length (cores (normal w.0)))) TooManyCores _ w.2))
    (first_refused (checked_sets n sets) within_core_limit e)

pub accepted_within_limit : (n : ℕ) (sets : List ℕ) → Accepted n sets → within_core_limit sets ≡ yields (normal sets)
unfolding within_core_limit
accepted_within_limit n sets a = cond_false _ _ (le-ltb max_cores (length (cores (normal sets))) a.few_cores)

pub accepted_frame : (n : ℕ) (sets : List ℕ) → Accepted n sets → is_frame n ≡ true
unfolding is_frame
accepted_frame n sets a = and_intro (le-leb 1 n a.low) (le-leb n max_drives a.high)

pub accepted_checked : (n : ℕ) (sets : List ℕ) → Accepted n sets → Checked SurvivorSet n sets
accepted_checked n sets a = record { frame = accepted_frame n sets a; some = a.some; most = a.most; good = λ s h. set_mask n s (a.good s h) }

pub accepted_table : (n : ℕ) (sets : List ℕ) → Accepted n sets → normal_table n sets ≡ yields (normal sets)
unfolding normal_table
accepted_table n sets a = rw (checked_masks_law SurvivorSet n sets (accepted_checked n sets a)) (accepted_within_limit n sets a)

-- a chosen core that is given is that of an accepted table
pub core_given : (n : ℕ) (sets : List ℕ) {core : ℕ} → chosen_core n sets ≡ yields core → Accepted n sets × (chosen (normal sets) ≡ core)
unfolding chosen_core
core_given n sets e =
    let first = first_result (normal_table n sets) (λ table. yields (chosen table)) e in
    let table = table_accepted n sets first.0 first.1 in
    (table.0, ap chosen (sym table.1) ∙ same_result first.2)

-- ---- sets of the frame

pub set_some : (n s : ℕ) → is_set n s ≡ true → s ≡ 0 → ⊥
unfolding is_set
set_some n s e = eqb-false s 0 (not-true (eqb s 0) (and_left (not (eqb s 0)) (subset s (full n)) e))

module _ (n : ℕ) (sets : List ℕ) (a : Accepted n sets) where
  pub sets_below : Below n sets
  sets_below s h = set_lt n s (a.good s h)

  pub sets_word : Below 64 sets
  sets_word s h = lt_of_lt_of_le (sets_below s h) (pow_mono {i = n} {j = 64} a.high)

  -- the normal table is accepted, and is its own normal table
  pub accepted_normal : Accepted n (normal sets)
  accepted_normal = record {
    low = a.low;
    high = a.high;
    some = normal_some sets sets_word a.some;
    most = omega (arith, length_normal sets, a.most);
    good = λ s h. a.good s (normal_elem s sets h);
    few_cores = subst (λ (l : List ℕ). length (cores l) ≤ max_cores) (sym (normal_idempotent sets)) a.few_cores;
  }

-- ---- the list of cores

module _ (sets : List ℕ) (word : Below 64 sets) where
  pub core_minimal : (c : ℕ) → elem c (cores sets) ≡ true → Minimal sets c
  unfolding cores
  core_minimal = listed_minimal by_size sets word

  pub minimal_core : (c : ℕ) → Minimal sets c → elem c (cores sets) ≡ true
  unfolding cores
  minimal_core = minimal_listed by_size sets word

  -- strictly in their order: each core once
  pub cores_ordered : ordered by_size (cores sets) ≡ true
  unfolding cores
  cores_ordered = listed_ordered by_size sets word by_size_strict

  -- it is the only such list
  pub cores_unique : (l : List ℕ) → ordered by_size l ≡ true → ((c : ℕ) → elem c l ≡ true → Minimal sets c) → ((c : ℕ) → Minimal sets c → elem c l ≡ true)
      → l ≡ cores sets
  unfolding cores
  cores_unique = listed_unique by_size sets word by_size_strict

-- lists that the same sets hit have the same cores
pub cores_same_hits : (l k : List ℕ) → Below 64 l → Below 64 k → ((m : ℕ) → hits l m ≡ hits k m) → cores l ≡ cores k
unfolding cores
cores_same_hits = listed_same by_size by_size_strict

-- the order in which the sets are listed does not matter
pub cores_same_elements : (l k : List ℕ) → Below 64 l → Below 64 k → ((x : ℕ) → elem x l ≡ elem x k) → cores l ≡ cores k
cores_same_elements l k p q f = cores_same_hits l k p q (λ m. hits_same_elements l k m f)

-- nor do the sets that the normal table drops
pub cores_normal : (sets : List ℕ) → Below 64 sets → cores (normal sets) ≡ cores sets
cores_normal sets word = cores_same_hits (normal sets) sets (λ s h. word s (normal_elem s sets h)) word (hits_normal sets word)

-- ---- the way back

-- Back of any groups: exactly the minimal sets of drives that meet each group, each once, by mask
module _ (groups : List ℕ) (word : Below 64 groups) where
  pub dual_minimal : (s : ℕ) → elem s (dual groups) ≡ true → Minimal groups s
  unfolding dual
  dual_minimal = listed_minimal by_mask groups word

  pub minimal_dual : (s : ℕ) → Minimal groups s → elem s (dual groups) ≡ true
  unfolding dual
  minimal_dual = minimal_listed by_mask groups word

  pub dual_ordered : ordered by_mask (dual groups) ≡ true
  unfolding dual
  dual_ordered = listed_ordered by_mask groups word by_mask_strict

  pub dual_unique : (l : List ℕ) → ordered by_mask l ≡ true → ((s : ℕ) → elem s l ≡ true → Minimal groups s) → ((s : ℕ) → Minimal groups s → elem s l ≡ true)
      → l ≡ dual groups
  unfolding dual
  dual_unique = listed_unique by_mask groups word by_mask_strict

-- where the call is accepted, it gives that list
pub survivor_sets_dual : (n : ℕ) (groups sets : List ℕ) → survivor_sets n groups ≡ yields sets → Below 64 groups × (sets ≡ dual groups)
unfolding survivor_sets is_frame
survivor_sets_dual n groups sets e =
    let frame = passed (not (is_frame n)) FrameSize _ e in
    let some = passed (is_empty groups) TooManyCores _ frame.1 in
    let few = passed (ltb max_cores (length groups)) TooManyCores _ some.1 in
    let good = passed (not (all (is_set n) groups)) BadSet _ few.1 in
    let found = passed (ltb max_sets (length (dual groups))) TooManySets _ good.1 in
    let high = frame_high n (not-false (is_frame n) frame.0) in (
      (λ s h. lt_of_lt_of_le (set_lt n s (all_elem (is_set n) groups s (not-false (all (is_set n) groups) good.0) h)) (pow_mono {i = n} {j = 64} high)),
      sym (same_result found.1),
    )

-- Back of a table's cores is the table
pub dual_cores : (n : ℕ) (sets : List ℕ) → Accepted n sets → dual (cores (normal sets)) ≡ normal sets
unfolding dual cores
dual_cores n sets a =
    back_of_minimals n (normal sets) a.high (sets_below n (normal sets) (accepted_normal n sets a)) by_size (ordered_normal sets) (antichain_normal sets)

-- ---- the chosen core

-- every accepted table has a core
pub some_core : (n : ℕ) (sets : List ℕ) → Accepted n sets → 1 ≤ length (cores sets)
some_core n sets a =
    let c = hitting_contains sets (full n) (lt_of_lt_of_le (full_lt n) (pow_mono {i = n} {j = 64} a.high)) (meets_hits sets (full n) every) in
    elem_some c.0 (cores sets) (minimal_core sets (sets_word n sets a) c.0 c.2)
  where
    every : (s : ℕ) → elem s sets ≡ true → meets s (full n) ≡ true
    every s h =
        let lt = sets_below n sets a s h in
        let d = has_some n s lt (set_some n s (a.good s h)) in
        let b = has_bounds n d.0 s lt d.1 in
        has_meets d.0 s (full n) d.1 (full_has d.0 n a.high b.0 b.1)

-- and the chosen one stands before all others
pub chosen_first : (sets : List ℕ) → Below 64 sets → (c : ℕ) → elem c (cores sets) ≡ true → (chosen sets ≡ c) ⊎ (core_order (chosen sets) c ≡ true)
unfolding chosen
chosen_first sets word c = ordered_first core_order (cores sets) c (cores_ordered sets word)

-- what the exchange rests on: the chosen core of an accepted table lies within the frame, meets every listed set, and
-- each of its drives is alone in it in some listed set
pub record ChosenCore (n : ℕ) (sets : List ℕ) (core : ℕ) : Type 0 where
  pub within : core < 2 ^ n
  pub meets_all : (s : ℕ) → elem s sets ≡ true → meets s core ≡ true
  pub alone : (d : ℕ) → has d core ≡ true → (s : ℕ) × (elem s sets ≡ true) × (common s core ≡ single d)

pub chosen_core_law : (n : ℕ) (sets : List ℕ) → Accepted n sets → ChosenCore n sets (chosen (normal sets))
unfolding chosen
chosen_core_law n sets a = record {
  within = lt;
  meets_all = λ s h. hits_meets sets core s minimal.all_met h;
  alone = λ d h. critical_all sets core word (minimal_critical sets core word minimal) d h;
}
  where
    core : ℕ
    core = chosen (normal sets)

    below : Below 64 (normal sets)
    below s h = sets_word n sets a s (normal_elem s sets h)

    minimal : Minimal sets core
    minimal =
        minimal_same_hits (normal sets) sets core (hits_normal sets (sets_word n sets a))
        (core_minimal (normal sets) below core (get_or_elem (cores (normal sets)) 0 (some_core n (normal sets) (accepted_normal n sets a))))

    lt : core < 2 ^ n
    lt = minimal_lt n sets core a.high (sets_below n sets a) minimal

    word : core < 2 ^ 64
    word = lt_of_lt_of_le lt (pow_mono {i = n} {j = 64} a.high)
