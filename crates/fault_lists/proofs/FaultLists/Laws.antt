-- There and back: a fault list made a table and the table a fault list is the fault list in normal form, and a table
-- made a fault list and back is the normal table; a refusal of the first way is one of both. What the calls accept, and
-- what they give, as the rests of a normal table.
use Rattle.std.specs.Prelude.{◌≡◌, refl, true, ℕ}
use Rattle.std.proofs.Common.{sym, ap, ◌∙◌, subst, arith, ne_eqb}
use Rattle.std.proofs.Math.Bool.{not}
use mathlib.Core.List.{List}
use Rattle.drive_sets.specs.Bools.Laws.{and_intro}
use Rattle.drive_sets.specs.Lists.{elem}
use Rattle.drive_sets.specs.Masks.{full, outside, Below}
use Rattle.drive_sets.specs.Masks.Laws.{full_subset, subset_full}
use Rattle.drive_sets.specs.Masks.Outside.{outside_lt}
use Rattle.drive_sets.specs.Refusals.{Outcome, refused, yields, and_then}
use Rattle.drive_sets.specs.Refusals.Laws.{first_result, same_result, then_same, then_then}
use Rattle.drive_sets.specs.Refusals.Numbered.{Numbered, result_numbered, then_numbered}
use Rattle.survivor_tables.specs.declared.frames.MaskKind.TheVariants.{SurvivorSet, FaultGroup}
use Rattle.survivor_tables.specs.Order.{normal}
use Rattle.survivor_tables.specs.Order.Normal.{normal_elem, normal_idempotent}
use Rattle.survivor_tables.specs.Tables.{is_set, within_core_limit, checked_masks, normal_table, Accepted}
use Rattle.survivor_tables.proofs.Tables.Laws.{Checked, masks_checked, checked_masks_law, checked_accepted, within_limit, frame_high, mask_group, group_mask, set_mask, set_some, sets_below, table_accepted, accepted_table, accepted_frame, accepted_normal, accepted_within_limit}
use Rattle.survivor_tables.specs.Tables.Numbered.{limit_numbered, masks_numbered, normal_numbered}
use Rattle.complete_tables.specs.Complete.{with_cores, complete_table}
use Rattle.fault_lists.specs.FaultLists.{rests, rests_of, largest, table_from_faults, complete_from_faults, fault_list, faults_from_table}
use Rattle.fault_lists.specs.FaultLists.Rests.{rest_number, length_rests, rests_elem, rests_below, rests_rests}
use Rattle.fault_lists.proofs.FaultLists.Largest.{largest_rests, rests_largest}

-- ---- groups that meet nothing, and their rests

module _ (n : ℕ) (groups : List ℕ) (c : Checked FaultGroup n groups) where
  pub groups_below : Below n groups
  groups_below g e = full_subset n g (mask_group n g (c.good g e)).0

  rest_set : (g : ℕ) → elem g groups ≡ true → is_set n (outside n g) ≡ true
  unfolding is_set
  rest_set g e =
      let whole = rest_number n (frame_high n c.frame) g (groups_below g e) in
      and_intro (ap not (ne_eqb (outside n g) 0 (λ none. (mask_group n g (c.good g e)).1 (omega (arith, whole, none)))))
      (subset_full n (outside n g) (frame_high n c.frame) (outside_lt n g))

  pub rests_checked : Checked SurvivorSet n (rests n groups)
  rests_checked = record {
    frame = c.frame;
    some = omega (arith, length_rests n groups, c.some);
    most = omega (arith, length_rests n groups, c.most);
    good = λ s e. let w = rests_elem n s groups e in rw w.2 (set_mask n (outside n w.0) (rest_set w.0 w.1));
  }

-- the rests of an accepted table are groups that meet nothing
pub sets_checked : (n : ℕ) (sets : List ℕ) → Accepted n sets → Checked FaultGroup n (rests n sets)
sets_checked n sets a = record {
  frame = accepted_frame n sets a;
  some = omega (arith, length_rests n sets, a.some);
  most = omega (arith, length_rests n sets, a.most);
  good = λ g e. group_mask n g (subset_full n g a.high (rests_below n sets g e)) (not_all g e);
}
  where
    not_all : (g : ℕ) → elem g (rests n sets) ≡ true → g ≡ full n → ⊥
    not_all g e all =
        let w = rests_elem n g sets e in
        set_some n w.0 (a.good w.0 w.1) (omega (arith, rest_number n a.high w.0 (sets_below n sets a w.0 w.1), w.2, all))

-- ---- what the calls accept

module _ (n : ℕ) (groups : List ℕ) where
  pub record FromFaults (table : List ℕ) : Type 0 where
    pub checked : Checked FaultGroup n groups
    pub accepted : Accepted n (rests n groups)
    pub is : table ≡ normal (rests n groups)

  pub from_faults : {table : List ℕ} → table_from_faults n groups ≡ yields table → FromFaults table
  unfolding table_from_faults
  from_faults e =
      let first = first_result (checked_masks FaultGroup n groups) (λ faults. within_core_limit (rests n faults)) e in
      let c = masks_checked FaultGroup n groups first.1 in
      let few = within_limit (rests n groups) (ap (λ (l : List ℕ). within_core_limit (rests n l)) c.1 ∙ first.2) in
      record { checked = c.0; accepted = checked_accepted n (rests n groups) (rests_checked n groups c.0) few.0; is = few.1 }

-- groups whose rests are an accepted table give its normal table
pub faults_given : (n : ℕ) (groups : List ℕ) → Checked FaultGroup n groups → Accepted n (rests n groups) → table_from_faults n groups ≡ yields (normal (rests n groups))
unfolding table_from_faults
faults_given n groups c a = rw (checked_masks_law FaultGroup n groups c) (accepted_within_limit n (rests n groups) a)

-- ---- there and back

module _ (n : ℕ) (sets : List ℕ) (a : Accepted n sets) where
  normal_below : Below n (normal sets)
  normal_below s e = sets_below n sets a s (normal_elem s sets e)

  -- the largest groups of a normal table are its rests
  pub normal_largest : largest (rests n (normal sets)) ≡ rests n (normal sets)
  normal_largest = rests_largest n a.high (normal sets) normal_below ∙ ap (rests n) (normal_idempotent sets)

  -- whose table it is
  pub normal_back : table_from_faults n (rests n (normal sets)) ≡ yields (normal sets)
  normal_back =
      let own = rests_rests n a.high (normal sets) normal_below in
      faults_given n (rests n (normal sets)) (sets_checked n (normal sets) (accepted_normal n sets a)) (subst (Accepted n) (sym own) (accepted_normal n sets a))
      ∙ ap yields (ap normal own ∙ normal_idempotent sets)

pub faults_back : (n : ℕ) (groups : List ℕ) → and_then (table_from_faults n groups) (faults_from_table n) ≡ fault_list n groups
unfolding fault_list faults_from_table
faults_back n groups =
    then_same (table_from_faults n groups) (λ table e.
    let w = from_faults n groups e in
    let normal_table_law = accepted_normal n (rests n groups) w.accepted in
    rw w.is
    (ap (λ (o : Outcome (List ℕ)). and_then o (λ t. yields (largest (rests n t)))) (accepted_table n (normal (rests n groups)) normal_table_law ∙ ap yields (normal_idempotent (rests n groups)))
    ∙ ap yields (normal_largest n (rests n groups) w.accepted ∙ sym (largest_rests n w.accepted.high groups (groups_below n groups w.checked)))))

pub table_back : (n : ℕ) (sets : List ℕ) → and_then (faults_from_table n sets) (table_from_faults n) ≡ normal_table n sets
unfolding faults_from_table
table_back n sets = then_then (normal_table n sets) (λ table. largest (rests n table)) (table_from_faults n) ∙ go (normal_table n sets) refl
  where
    go : (o : Outcome (List ℕ)) → normal_table n sets ≡ o → and_then o (λ table. table_from_faults n (largest (rests n table))) ≡ o
    go (refused r) e = refl
    go (yields table) e =
        let w = table_accepted n sets table e in
        rw w.1 (ap (table_from_faults n) (normal_largest n sets w.0) ∙ normal_back n sets w.0)

-- the fault list of a table is in normal form, and the table is its own
pub table_list : (n : ℕ) (sets : List ℕ) {groups : List ℕ} → faults_from_table n sets ≡ yields groups
    → (table_from_faults n groups ≡ normal_table n sets) × (fault_list n groups ≡ yields groups)
unfolding faults_from_table fault_list
table_list n sets {groups} e =
    let first = first_result (normal_table n sets) (λ table. yields (largest (rests n table))) e in
    let w = table_accepted n sets first.0 first.1 in
    let is = ap (λ (l : List ℕ). largest (rests n l)) (sym w.1) ∙ same_result first.2 in
    let own = sym (normal_largest n sets w.0) ∙ is in
    let table = subst (λ (l : List ℕ). table_from_faults n l ≡ yields (normal sets)) own (normal_back n sets w.0) in (
      table ∙ sym (first.1 ∙ ap yields w.1),
      ap (λ (o : Outcome (List ℕ)). and_then o (λ t. yields (largest groups))) table ∙ ap yields (ap largest (sym own) ∙ is),
    )

-- the normal form is its own, and meets nothing
pub list_again : (n : ℕ) (groups : List ℕ) {list : List ℕ} → fault_list n groups ≡ yields list → Checked FaultGroup n list × (fault_list n list ≡ yields list)
unfolding fault_list
list_again n groups e =
    let first = first_result (table_from_faults n groups) (λ table. yields (largest groups)) e in
    let w = from_faults n groups first.1 in
    let sets = rests n groups in
    let is = sym (same_result first.2) ∙ largest_rests n w.accepted.high groups (groups_below n groups w.checked) in
    subst (λ (l : List ℕ). Checked FaultGroup n l × (and_then (table_from_faults n l) (λ table. yields (largest l)) ≡ yields l)) (sym is) (
      sets_checked n (normal sets) (accepted_normal n sets w.accepted),
      ap (λ (o : Outcome (List ℕ)). and_then o (λ table. yields (largest (rests n (normal sets))))) (normal_back n sets w.accepted) ∙ ap yields (normal_largest n sets w.accepted),
    )

-- ---- what is given, by the table with its cores

-- the table of some groups is the one of their rests
pub complete_rests : (n : ℕ) (groups : List ℕ) → and_then (checked_masks FaultGroup n groups) (λ faults. complete_table n (rests n faults)) ≡ complete_from_faults n groups
unfolding complete_from_faults table_from_faults complete_table normal_table
complete_rests n groups =
    then_same (checked_masks FaultGroup n groups) (λ faults e.
    let c = masks_checked FaultGroup n groups e in
    ap (λ (o : Outcome (List ℕ)). and_then (and_then o within_core_limit) (λ table. yields (with_cores n table)))
    (checked_masks_law SurvivorSet n (rests n faults) (subst (λ (l : List ℕ). Checked SurvivorSet n (rests n l)) c.1 (rests_checked n groups c.0))))
    ∙ sym (assoc (checked_masks FaultGroup n groups))
  where
    assoc : (o : Outcome (List ℕ)) → and_then (and_then o (λ faults. within_core_limit (rests n faults))) (λ table. yields (with_cores n table))
        ≡ and_then o (λ faults. and_then (within_core_limit (rests n faults)) (λ table. yields (with_cores n table)))
    assoc (refused r) = refl
    assoc (yields faults) = refl

pub list_rests : (n : ℕ) (groups : List ℕ) → and_then (complete_from_faults n groups) rests_of ≡ fault_list n groups
unfolding complete_from_faults fault_list with_cores
list_rests n groups =
    then_then (table_from_faults n groups) (with_cores n) rests_of
    ∙ then_same (table_from_faults n groups) (λ table e.
    let w = from_faults n groups e in
    ap yields (ap (rests n) w.is ∙ sym (largest_rests n w.accepted.high groups (groups_below n groups w.checked))))

pub table_rests : (n : ℕ) (sets : List ℕ) → and_then (complete_table n sets) rests_of ≡ faults_from_table n sets
unfolding complete_table faults_from_table with_cores
table_rests n sets =
    then_then (normal_table n sets) (with_cores n) rests_of
    ∙ then_same (normal_table n sets) (λ table e.
    let w = table_accepted n sets table e in ap yields (rw w.1 (sym (normal_largest n sets w.0))))

-- ---- refused with a number from 1

pub table_numbered : (n : ℕ) (groups : List ℕ) → Numbered (table_from_faults n groups)
unfolding table_from_faults
table_numbered n groups = then_numbered (checked_masks FaultGroup n groups) _ (masks_numbered FaultGroup n groups) (λ faults. limit_numbered (rests n faults))

pub list_numbered : (n : ℕ) (groups : List ℕ) → Numbered (fault_list n groups)
unfolding fault_list
list_numbered n groups = then_numbered (table_from_faults n groups) _ (table_numbered n groups) (λ table. result_numbered)

pub faults_numbered : (n : ℕ) (sets : List ℕ) → Numbered (faults_from_table n sets)
unfolding faults_from_table
faults_numbered n sets = then_numbered (normal_table n sets) _ (normal_numbered n sets) (λ table. result_numbered)
