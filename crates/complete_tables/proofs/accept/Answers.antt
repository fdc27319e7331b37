-- What is met before the cores are looked for; the normal form, which has room; the cores, more than there is room for
-- or all of them.
use Rattle.std.specs.Prelude.{◌≡◌, refl, List, ℕ, ◌≤◌, length}
use Rattle.std.proofs.Common.{sym, ap, ◌∙◌}
use Rattle.std.proofs.lemmas.Result.{err_from_is_err_and}
use Rattle.drive_sets.specs.Limits.{max_sets}
use Rattle.drive_sets.specs.Refusals.{yields}
use Rattle.survivor_tables.specs.declared.frames.MaskKind.TheVariants.{SurvivorSet}
use Rattle.survivor_tables.specs.Tables.{checked_masks, normal_table}
use Rattle.survivor_tables.proofs.Tables.Laws.{masks_checked}
use Rattle.complete_tables.specs.Complete.{complete_normal, complete_sets, complete_table}
use Rattle.complete_tables.proofs.Completes.{form_given, normal_taken, too_many, completed, complete_normal_law}
use Rattle.complete_tables.proofs.accept.Goals as goal

few : (n : ℕ) (sets : List ℕ) → yields sets ≡ checked_masks SurvivorSet n sets → length sets ≤ max_sets
few n sets e = (masks_checked SurvivorSet n sets (sym e)).0.most

pub returns-in_err-check_masks : goal.returns-in_err-check_masks
unfolding complete_table normal_table
returns-in_err-check_masks c =
    let p = err_from_is_err_and c.from_residual.result c.from_residual.ensures.1 in
    rw (p.1, p.2, ← c.in_err-check_masks.ensures)

pub returns-in_err-count : goal.returns-in_err-count
returns-in_err-count c =
    let most = few _ _ c.in_ok-check_masks.ensures in
    absurd (form_given c.args.sets.now most refl c.in_err-count.ensures.value)

pub returns-then-found-gt-MAX_CORES : goal.returns-then-found-gt-MAX_CORES
unfolding complete_table complete_sets normal_table
returns-then-found-gt-MAX_CORES c =
    let given = c.args.sets.now in
    let most = few _ _ c.in_ok-check_masks.ensures in
    let form = c.in_ok-count.ensures in
    let table = c.first-sets.ensures ∙ normal_taken given most refl _ form.value refl form.out_after in
    let found = rw c.as_slice.ensures.value at c.minimal_hitting_sets-found.ensures in
    rw (← c.in_ok-check_masks.ensures)
    (too_many c.args.n refl found c.if-found-gt-MAX_CORES.true ∙ (ap (complete_normal c.args.n) table ∙ complete_normal_law c.args.n given))

pub returns : goal.returns
unfolding complete_table complete_sets normal_table
returns c =
    let given = c.args.sets.now in
    let most = few _ _ c.in_ok-check_masks.ensures in
    let form = c.in_ok-count.ensures in
    let table = c.first-sets.ensures ∙ normal_taken given most refl _ form.value refl form.out_after in
    let found = rw c.as_slice.ensures.value at c.minimal_hitting_sets-found.ensures in
    rw (← c.in_ok-check_masks.ensures)
    (rw c.first-cores.ensures (completed c.args.n refl found c.if-found-gt-MAX_CORES.false) ∙ (ap (complete_normal c.args.n) table ∙ complete_normal_law c.args.n given))
