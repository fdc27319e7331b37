-- The calls given n and sets, or groups, are refused with a number from 1.
use Rattle.std.specs.Prelude.{refl, not, List, [], ◌∷◌, ℕ, eqb, ltb, length}
use Rattle.drive_sets.specs.Limits.{max_sets, max_cores}
use Rattle.drive_sets.specs.Lists.{all}
use Rattle.drive_sets.specs.Masks.{full, subset}
use Rattle.drive_sets.specs.Refusals.{Outcome, yields}
use Rattle.drive_sets.specs.Refusals.Numbered.{Numbered, result_numbered, if_numbered, then_numbered}
use Rattle.survivor_tables.specs.declared.frames.MaskKind.{MaskKind}
use Rattle.survivor_tables.specs.declared.frames.MaskKind.TheVariants.{SurvivorSet, FaultGroup}
use Rattle.survivor_tables.specs.Order.{normal}
use Rattle.survivor_tables.specs.Tables.{is_frame, is_set, is_empty, cores, dual, checked_mask, each_mask, checked_masks, checked_sets, within_core_limit, normal_table, core_list, survivor_sets}

pub limit_numbered : (sets : List ℕ) → Numbered (within_core_limit sets)
unfolding within_core_limit
limit_numbered sets = if_numbered (ltb max_cores (length (cores (normal sets)))) 13 refl result_numbered

pub mask_numbered : (kind : MaskKind) (n m : ℕ) → Numbered (checked_mask kind n m)
unfolding checked_mask
mask_numbered SurvivorSet n m = if_numbered (not (is_set n m)) 4 refl result_numbered
mask_numbered FaultGroup n m = if_numbered (not (subset m (full n))) 4 refl (if_numbered (eqb m (full n)) 34 refl result_numbered)

each_numbered : {A : Type 0} (kind : MaskKind) (n : ℕ) (masks : List ℕ) {next : Outcome A} → Numbered next → Numbered (each_mask kind n masks next)
unfolding each_mask
each_numbered kind n [] h = h
each_numbered kind n (m ∷ masks) {next} h =
    then_numbered (checked_mask kind n m) (λ good. each_mask kind n masks next) (mask_numbered kind n m) (λ good. each_numbered kind n masks h)

pub masks_numbered : (kind : MaskKind) (n : ℕ) (masks : List ℕ) → Numbered (checked_masks kind n masks)
unfolding checked_masks
masks_numbered kind n masks =
    if_numbered (not (is_frame n)) 3 refl
    (if_numbered (is_empty masks) 2 refl
    (if_numbered (ltb max_sets (length masks)) 5 refl
    (each_numbered kind n masks result_numbered)))

pub normal_numbered : (n : ℕ) (sets : List ℕ) → Numbered (normal_table n sets)
unfolding normal_table
normal_numbered n sets = then_numbered (checked_sets n sets) within_core_limit (masks_numbered SurvivorSet n sets) limit_numbered

pub cores_numbered : (n : ℕ) (sets : List ℕ) → Numbered (core_list n sets)
unfolding core_list
cores_numbered n sets = then_numbered (normal_table n sets) (λ table. yields (cores table)) (normal_numbered n sets) (λ table. result_numbered)

pub back_numbered : (n : ℕ) (groups : List ℕ) → Numbered (survivor_sets n groups)
unfolding survivor_sets
back_numbered n groups =
    if_numbered (not (is_frame n)) 3 refl
    (if_numbered (is_empty groups) 13 refl
    (if_numbered (ltb max_cores (length groups)) 13 refl
    (if_numbered (not (all (is_set n) groups)) 4 refl
    (if_numbered (ltb max_sets (length (dual groups))) 5 refl
    result_numbered))))
