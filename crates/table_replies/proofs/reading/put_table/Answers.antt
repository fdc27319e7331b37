-- 14, or the table.
use Rattle.std.specs.Prelude.{◌≡◌, List, ℕ, length}
use Rattle.std.proofs.Common.{sym, ap, ◌∙◌}
use Rattle.drive_sets.specs.Lent.{fitting, size_written}
use Rattle.drive_sets.specs.Refusals.{yields}
use Rattle.drive_sets.specs.Refusals.Laws.{passed, same_result, first_result}
use Rattle.drive_sets.specs.declared.Refusal.TheVariants.{NoRoom}
use Rattle.complete_tables.proofs.Accepts.{then_refused}
use Rattle.table_replies.specs.Replies.{fitting_table}
use Rattle.table_replies.proofs.reading.put_table.Goals as goal

-- a list that was put
put_given : (room count : ℕ) (l : List ℕ) → yields count ≡ size_written (fitting 0 room l) → (fitting 0 room l ≡ yields l) × (count ≡ length l)
unfolding fitting
put_given room count l e =
    let w = first_result (fitting 0 room l) (λ k. yields (length k)) (sym e) in
    let same = same_result (passed _ NoRoom (yields l) w.1).1 in
    (w.1 ∙ ap yields (sym same), sym (ap length same ∙ same_result w.2))

pub returns-in-Err : goal.returns-in-Err
unfolding fitting_table
returns-in-Err c = λ s t h.
    let none = then_refused (fitting 0 (length c.args.out.now) c.args.sets.now) length (sym c.in-Err.ensures.value) in
    rw (h.masks, none) (c.refused_table.ensures s, rw none at c.in-Err.ensures.out_after)

pub returns-in-Ok : goal.returns-in-Ok
unfolding fitting_table
returns-in-Ok c = λ s t h.
    let w = put_given (length c.args.out.now) c.in-Ok.count c.args.sets.now c.in-Ok.ensures.value in
    rw (h.masks, w.0) (rw (h.drives, ← h.took, w.1), rw w.0 at c.in-Ok.ensures.out_after)
