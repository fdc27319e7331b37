-- Theorems of the table from n and t: it says that at most t of the n drives drop out; it is its own normal table; its
-- cores are all groups of t + 1 drives; and the numbers of groups tell 32 and 13.
use Rattle.std.specs.Prelude.{◌≡◌, refl, Bool, false, ℕ, ◌+◌, ◌-◌, ◌^◌, ◌≤◌, ◌<◌, leb, length}
use Rattle.std.proofs.Math.Path.{sym, ap}
use Rattle.std.proofs.Common.{◌∙◌, lt_of_lt_of_le, arith, pow_mono}
use Rattle.std.proofs.Math.Bool.{true, not}
use mathlib.Core.List.{List}
use Rattle.std.proofs.Math.Logic.{⊎_elim}
use Rattle.std.proofs.Math.Dec.{ltb}
use borrow.Author.Tests.{ne_eqb, lt-ltb, ltb-true, ltb-false, le-leb, leb-true, leb-false, not-false}
use Rattle.drive_sets.specs.Bools.Laws.{clash, by_test, same_test, and_intro, true_of}
use Rattle.drive_sets.specs.Lists.{any, elem}
use Rattle.drive_sets.specs.Lists.Laws.{elem_some, any_elem, any_intro}
use Rattle.drive_sets.specs.Lists.Distinct.{ordered_distinct}
use Rattle.drive_sets.specs.Lists.Places.{get_or_elem}
use Rattle.drive_sets.specs.declared.Refusal.TheVariants.{FrameSize, TooManyCores, Threshold, TooManyGroups}
use Rattle.drive_sets.specs.Refusals.{yields, refuse_if, and_then}
use Rattle.drive_sets.specs.Refusals.Laws.{passed, same_result, then_refuse}
use Rattle.drive_sets.specs.Limits.{max_drives, max_sets, max_cores}
use Rattle.drive_sets.specs.Masks.{full, outside, meets, subset, size, Below}
use Rattle.drive_sets.specs.Masks.Laws.{subset_lt, subset_full}
use Rattle.drive_sets.specs.Masks.Frames.{below_more}
use Rattle.drive_sets.specs.Masks.Outside.{outside_lt, subset_outside, size_outside}
use Rattle.drive_sets.specs.Masks.Sizes.{part_of_size, size_none, size_full, size_subset, subset_size}
use Rattle.survivor_tables.specs.Executions.{Core, Describes}
use Rattle.survivor_tables.specs.Executions.Laws.{core_hitting, hitting_core}
use Rattle.survivor_tables.specs.Hitting.{hits, Minimal}
use Rattle.survivor_tables.specs.Hitting.Laws.{hits_meets, meets_hits, minimal_lt}
use Rattle.survivor_tables.specs.Order.{by_mask, sort, normal}
use Rattle.survivor_tables.specs.Order.Lowest.{full_lowest}
use Rattle.survivor_tables.specs.Order.Normal.{normal_fixed}
use Rattle.survivor_tables.specs.Order.Sort.{elem_sort, length_sort, ordered_sort}
use Rattle.survivor_tables.specs.Order.Strict.{by_mask_strict, by_size_strict, by_size_cases, strict_irr}
use Rattle.survivor_tables.specs.declared.frames.MaskKind.TheVariants.{SurvivorSet}
use Rattle.survivor_tables.specs.Tables.{is_frame, is_set, core_order, cores, chosen, within_core_limit, normal_table}
use Rattle.survivor_tables.proofs.Tables.Laws.{frame_high, core_minimal, minimal_core, cores_unique, chosen_first, set_mask, Checked, checked_masks_law}
use Rattle.complete_tables.specs.Complete.{with_cores, complete_table}
use Rattle.threshold.specs.Groups.{groups, group_count}
use Rattle.threshold.specs.Groups.Laws.{groups_sound, groups_complete, groups_ordered, full_group, some_groups, count_others}
use Rattle.threshold.specs.Threshold.{AtMost, threshold_sets, threshold_table, threshold_cores, threshold_complete, threshold_list}

-- ---- sets by their sizes

module _ (n : ℕ) (frame : n ≤ 64) (m : ℕ) (lt : m < 2 ^ n) where
  word : m < 2 ^ 64
  word = lt_of_lt_of_le lt (pow_mono {i = n} {j = 64} frame)

  -- m holds a group of k drives exactly if it has k or more
  holds_group : (k : ℕ) → any (λ s. subset s m) (groups k n) ≡ leb k (size m)
  holds_group k =
      same_test (any (λ s. subset s m) (groups k n)) (leb k (size m))
      (λ h.
      let s = any_elem (λ s. subset s m) (groups k n) h in
      le-leb k (size m) (omega (arith, size_subset s.0 m s.2, (groups_sound k n s.0 frame s.1).1)))
      (λ h.
      let g = part_of_size (size m - k) k m word (omega (arith, leb-true k (size m) h)) in
      any_intro (λ s. subset s m) (groups k n) g.0 (groups_complete k n g.0 frame (subset_lt n g.0 m g.1 lt) g.2) g.1)

  -- the drives that stay up hold a survivor set exactly if at most t of the n drop out
  pub at_most_drop_out : (t : ℕ) → t < n → any (λ s. subset s m) (threshold_sets n t) ≡ leb (size (outside n m)) t
  unfolding threshold_sets
  at_most_drop_out t below =
      holds_group (n - t)
      ∙ same_test (leb (n - t) (size m)) (leb (size (outside n m)) t)
      (λ h. le-leb (size (outside n m)) t (omega (arith, size_outside n m frame lt, leb-true (n - t) (size m) h)))
      (λ h. le-leb (n - t) (size m) (omega (arith, size_outside n m frame lt, leb-true (size (outside n m)) t h)))

module _ (n : ℕ) (frame : n ≤ 64) (t : ℕ) (below : t < n) where
  -- m meets every group of n - t drives exactly if it has more than t
  more_than_hits : (m : ℕ) → m < 2 ^ n → hits (threshold_sets n t) m ≡ ltb t (size m)
  unfolding threshold_sets
  more_than_hits m lt =
      same_test (hits (threshold_sets n t) m) (ltb t (size m))
      (λ h. true_of (ltb t (size m)) (λ few.
      let left = any_elem (λ s. subset s (outside n m)) (groups (n - t) n)
      (holds_group n frame (outside n m) (outside_lt n m) (n - t)
      ∙ le-leb (n - t) (size (outside n m)) (omega (arith, size_outside n m frame lt, ltb-false t (size m) few))) in
      let inside = (groups_sound (n - t) n left.0 frame left.1).0 in
      clash (sym (subset_outside n left.0 m frame inside) ∙ left.2) (ap not (hits_meets (groups (n - t) n) m left.0 h left.1))))
      (λ h. meets_hits (groups (n - t) n) m (λ s e. true_of (meets s m) (λ missed.
      let inside = groups_sound (n - t) n s frame e in
      let left = size_subset s (outside n m) (subset_outside n s m frame inside.0 ∙ ap not missed) in
      absurd (omega (arith, left, inside.1, size_outside n m frame lt, ltb-true t (size m) h)))))

  sets_below : Below n (threshold_sets n t)
  unfolding threshold_sets
  sets_below s e = (groups_sound (n - t) n s frame e).0

  sets_word : Below 64 (threshold_sets n t)
  sets_word = below_more n (threshold_sets n t) frame sets_below

  -- a group of t + 1 drives is a core, and each core is one
  pub group_core : (c : ℕ) → elem c (groups (t + 1) n) ≡ true → Minimal (threshold_sets n t) c
  group_core c e =
      let own = groups_sound (t + 1) n c frame e in record {
        all_met = more_than_hits c own.0 ∙ lt-ltb t (size c) (omega (arith, own.1));
        no_part = λ part p h.
            let more = ltb-true t (size part) (sym (more_than_hits part (subset_lt n part c p own.0)) ∙ h) in
            subset_size part c (word n frame c own.0) p (omega (arith, more, own.1));
      }

  pub core_group : (c : ℕ) → Minimal (threshold_sets n t) c → elem c (groups (t + 1) n) ≡ true
  core_group c min =
      let lt = minimal_lt n (threshold_sets n t) c frame sets_below min in
      let more = ltb-true t (size c) (sym (more_than_hits c lt) ∙ min.all_met) in
      let g = part_of_size (size c - (t + 1)) (t + 1) c (word n frame c lt) (omega (arith, more)) in
      let same = min.no_part g.0 g.1 (more_than_hits g.0 (subset_lt n g.0 c g.1 lt) ∙ lt-ltb t (size g.0) (omega (arith, g.2))) in
      groups_complete (t + 1) n c frame lt (ap size (sym same) ∙ g.2)

  -- so the list of cores is all groups of t + 1 drives, in order
  pub threshold_cores_law : cores (threshold_sets n t) ≡ threshold_cores n t
  unfolding threshold_cores by_mask
  threshold_cores_law =
      sym (cores_unique (threshold_sets n t) sets_word (sort core_order (groups (t + 1) n))
      (ordered_sort core_order by_size_strict (groups (t + 1) n) (ordered_distinct ltb (strict_irr by_mask_strict) (groups (t + 1) n) (groups_ordered (t + 1) n frame)))
      (λ c e. group_core c (sym (elem_sort core_order c (groups (t + 1) n)) ∙ e))
      (λ c min. elem_sort core_order c (groups (t + 1) n) ∙ core_group c min))

  -- The table describes the executions in which at most t of the n drives drop out; so their cores, by Junqueira and
  -- Marzullo's definition, are the groups of t + 1 drives.
  pub at_most_described : Describes n (threshold_sets n t) (λ (φ : AtMost n t). φ.up)
  unfolding threshold_sets
  at_most_described = record {
    within = λ φ. φ.within;
    holds_set = λ φ. at_most_drop_out n frame φ.up φ.within t below ∙ le-leb (size (outside n φ.up)) t φ.out;
    occurs = λ s e.
        let own = groups_sound (n - t) n s frame e in
        (record { up = s; within = own.0; out = omega (arith, size_outside n s frame own.0, own.1) }, refl);
  }

  pub at_most_core : (c : ℕ) → Core n (λ (φ : AtMost n t). φ.up) c → elem c (groups (t + 1) n) ≡ true
  at_most_core c core = core_group c (core_hitting n frame (threshold_sets n t) (λ φ. φ.up) at_most_described c core)

  pub core_at_most : (c : ℕ) → elem c (groups (t + 1) n) ≡ true → Core n (λ (φ : AtMost n t). φ.up) c
  core_at_most c e =
      hitting_core n frame (threshold_sets n t) (λ φ. φ.up) at_most_described c (groups_sound (t + 1) n c frame e).0 (group_core c e)

  -- the table is its own normal table
  pub threshold_normal : normal (threshold_sets n t) ≡ threshold_sets n t
  unfolding threshold_sets by_mask
  threshold_normal =
      normal_fixed (threshold_sets n t) (groups_ordered (n - t) n frame) (λ s u p q e.
      let left = groups_sound (n - t) n s frame p in
      let right = groups_sound (n - t) n u frame q in
      subset_size s u (word n frame u right.0) e (omega (arith, left.1, right.1)))

  -- as many sets as there are groups of t drives
  pub threshold_count : length (threshold_sets n t) ≡ group_count t n
  unfolding threshold_sets group_count
  threshold_count = count_others t n (omega arith)

  threshold_set : (s : ℕ) → elem s (threshold_sets n t) ≡ true → is_set n s ≡ true
  unfolding threshold_sets is_set
  threshold_set s e =
      let own = groups_sound (n - t) n s frame e in
      let some : s ≡ 0 → ⊥ = λ z. omega (arith, own.1, ap size z, size_none, below) in
      and_intro (ap not (ne_eqb s 0 some)) (subset_full n s frame own.0)

  -- the chosen core: drives 1 to t + 1
  pub threshold_chosen : chosen (threshold_sets n t) ≡ full (t + 1)
  unfolding chosen
  threshold_chosen =
      let core = groups_sound (t + 1) n (chosen (threshold_sets n t)) frame (core_group _ (core_minimal (threshold_sets n t) sets_word _ (get_or_elem (cores (threshold_sets n t)) 0 some))) in
      ⊎_elim (λ same. same)
      (λ before.
      let e = core.1 ∙ sym (size_full (t + 1) (omega arith)) in
      ⊎_elim (λ less. absurd (omega (arith, less, e))) (λ same. absurd (full_lowest (t + 1) (chosen (threshold_sets n t)) (omega arith) (word n frame _ core.0) core.1 same.1)) ((by_size_cases _ _).0 before))
      (chosen_first (threshold_sets n t) sets_word (full (t + 1)) first)
    where
      first : elem (full (t + 1)) (cores (threshold_sets n t)) ≡ true
      first = minimal_core (threshold_sets n t) sets_word (full (t + 1)) (group_core (full (t + 1)) (full_group (t + 1) n (omega (arith, below)) frame))

      some : 1 ≤ length (cores (threshold_sets n t))
      some = elem_some (full (t + 1)) (cores (threshold_sets n t)) first

  -- 128 sets at most: the table is accepted, where it has 1024 cores at most
  threshold_complete_law : length (threshold_sets n t) ≤ max_sets
      → complete_table n (threshold_sets n t) ≡ refuse_if (ltb max_cores (group_count (t + 1) n)) TooManyCores (yields (threshold_complete n t))
  unfolding threshold_sets threshold_cores complete_table normal_table within_core_limit is_frame threshold_complete with_cores group_count
  threshold_complete_law few =
      let checked : Checked SurvivorSet n (threshold_sets n t) = record {
        frame = and_intro (le-leb 1 n (omega (arith, below))) (le-leb n max_drives frame);
        some = some_groups (n - t) n (omega arith) frame;
        most = few;
        good = λ s e. set_mask n s (threshold_set s e);
      } in
      rw (checked_masks_law SurvivorSet n (threshold_sets n t) checked, threshold_normal, threshold_cores_law, length_sort)
      (then_refuse (ltb max_cores (length (groups (t + 1) n))) TooManyCores (threshold_sets n t) (λ table. yields (with_cores n table))
      ∙ ap (λ (l : List ℕ). refuse_if (ltb max_cores (length (groups (t + 1) n))) TooManyCores (yields (record { n = n; sets = threshold_sets n t; cores = l }))) threshold_cores_law)

-- The call by the numbers of groups alone: 32 exactly where there are more than 128 groups of t out of n drives, and
-- then 13 exactly where there are more than 1024 of t + 1.
pub threshold_by_counts : (n t : ℕ) → threshold_table n t ≡
    refuse_if (not (is_frame n)) FrameSize
    (refuse_if (leb n t) Threshold
    (refuse_if (ltb max_sets (group_count t n)) TooManyGroups
    (refuse_if (ltb max_cores (group_count (t + 1) n)) TooManyCores
    (yields (threshold_complete n t)))))
unfolding threshold_table
threshold_by_counts n t =
    by_test (is_frame n)
    (λ frame. by_test (leb n t)
    (λ e. rw (frame, e))
    (λ e.
    let high = frame_high n frame in
    let below = leb-false n t e in
    by_test (ltb max_sets (group_count t n))
    (λ many. rw (frame, e, threshold_count n high t below, many))
    (λ few. rw (frame, e, threshold_count n high t below, few)
    (threshold_complete_law n high t below (omega (arith, threshold_count n high t below, ltb-false max_sets (group_count t n) few))))))
    (λ none. rw none)

-- the same of the sets alone
pub threshold_list_law : (n t : ℕ) → threshold_list n t ≡
    refuse_if (not (is_frame n)) FrameSize
    (refuse_if (leb n t) Threshold
    (refuse_if (ltb max_sets (group_count t n)) TooManyGroups
    (refuse_if (ltb max_cores (group_count (t + 1) n)) TooManyCores
    (yields (threshold_sets n t)))))
unfolding threshold_list threshold_complete
threshold_list_law n t = rw (threshold_by_counts n t) (go (not (is_frame n)) (leb n t) (ltb max_sets (group_count t n)) (ltb max_cores (group_count (t + 1) n)))
  where
    go : (a b c d : Bool)
        → and_then (refuse_if a FrameSize (refuse_if b Threshold (refuse_if c TooManyGroups (refuse_if d TooManyCores (yields (threshold_complete n t)))))) (λ table. yields table.sets)
        ≡ refuse_if a FrameSize (refuse_if b Threshold (refuse_if c TooManyGroups (refuse_if d TooManyCores (yields (threshold_sets n t)))))
    go true b c d = refl
    go false true c d = refl
    go false false true d = refl
    go false false false true = refl
    go false false false false = refl

-- a result: there are few enough groups
pub record Few (n t : ℕ) : Type 0 where
  pub high : n ≤ max_drives
  pub below : t < n
  pub cores : group_count (t + 1) n ≤ max_cores
  pub table : threshold_table n t ≡ yields (threshold_complete n t)

pub list_given : (n t : ℕ) (sets : List ℕ) → threshold_list n t ≡ yields sets → Few n t × (sets ≡ threshold_sets n t)
list_given n t sets e =
    let frame = passed (not (is_frame n)) FrameSize _ (sym (threshold_list_law n t) ∙ e) in
    let less = passed (leb n t) Threshold _ frame.1 in
    let few = passed (ltb max_sets (group_count t n)) TooManyGroups _ less.1 in
    let few_cores = passed (ltb max_cores (group_count (t + 1) n)) TooManyCores _ few.1 in (
      record {
        high = frame_high n (not-false (is_frame n) frame.0);
        below = leb-false n t less.0;
        cores = ltb-false max_cores (group_count (t + 1) n) few_cores.0;
        table = threshold_by_counts n t ∙ rw (frame.0, less.0, few.0, few_cores.0);
      },
      sym (same_result few_cores.1),
    )
