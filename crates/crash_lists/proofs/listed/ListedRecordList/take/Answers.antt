-- One record: refused, the end, or a CR that is checked. One that is there is whole, so its three fields are bytes.
use mathlib.Core.Path.{refl, sym, ap, ◌∙◌}
use native.Mathlib.Omega.{arith}
use Rattle.std.proofs.Common.{Ok}
use Rattle.std.proofs.lemmas.Result.{err_from_is_err_and}
use Rattle.records.specs.RecordLists.{step_of}
use Rattle.crash_lists.specs.CrashLists.{taken_crash}
use Rattle.drive_crashes.specs.Crashes.{crash_record, crashes_in}
use Rattle.crash_lists.proofs.CrashList.{crash_long, crash_fields_law, crash_bounds, high, one_more, held_more, crash_width}
use Rattle.crash_lists.proofs.listed.ListedRecordList.take.Goals as goal

pub returns-in_err-next_record-clause-taken : goal.returns-in_err-next_record-clause-taken
unfolding step_of
returns-in_err-next_record-clause-taken c =
    let q = err_from_is_err_and c.from_residual.result c.from_residual.ensures.1 in
    rw (q.1, q.2, c.args.self.now.held.counted, ← c.in_err-next_record.ensures)

pub bounds-s-2 : goal.bounds-s-2
bounds-s-2 c = omega (arith, crash_long _ c.args.s.now c.next_record.ensures (c.in_ok-next_record.was ∙ ap Ok c.in-One.is))

pub bounds-s-3 : goal.bounds-s-3
bounds-s-3 c = omega (arith, crash_long _ c.args.s.now c.next_record.ensures (c.in_ok-next_record.was ∙ ap Ok c.in-One.is))

pub bounds-s-4 : goal.bounds-s-4
bounds-s-4 c = omega (arith, crash_long _ c.args.s.now c.next_record.ensures (c.in_ok-next_record.was ∙ ap Ok c.in-One.is))

pub returns-in_err-check_crash-in-One-clause-taken : goal.returns-in_err-check_crash-in-One-clause-taken
unfolding step_of taken_crash crash_record
returns-in_err-check_crash-in-One-clause-taken c =
    let n = c.next_record.ensures in
    let one = c.in_ok-next_record.was ∙ ap Ok c.in-One.is in
    let q = err_from_is_err_and c.from_residual-in_err-check_crash-in-One.result c.from_residual-in_err-check_crash-in-One.ensures.1 in
    rw (q.1, q.2, c.args.self.now.held.counted, ← n, one, crash_fields_law _ (crash_long _ _ n one), ← c.in_err-check_crash-in-One.ensures)

pub note-requires : goal.note-requires
note-requires c =
    let h = c.args.self.now.held in
    ((crash_bounds h _ _ _ _ c.in_ok-check_crash-in-One.ensures).0, high h _ _ _ _ c.in_ok-check_crash-in-One.ensures)

pub invariant_of-self : goal.invariant_of-self
invariant_of-self c = record { held = rw c.note.ensures (held_more c.args.self.now.held _ _ _ _ c.in_ok-check_crash-in-One.ensures) }

pub returns-in-End-clause-taken : goal.returns-in-End-clause-taken
unfolding step_of
returns-in-End-clause-taken c = (rw (c.args.self.now.held.counted, ← c.next_record.ensures, c.in_ok-next_record.was, c.in-End.is), refl)

pub returns-in_ok-check_crash-in-One-clause-taken : goal.returns-in_ok-check_crash-in-One-clause-taken
unfolding step_of taken_crash crash_record
returns-in_ok-check_crash-in-One-clause-taken c =
    let h = c.args.self.now.held in
    let n = c.next_record.ensures in
    let one = c.in_ok-next_record.was ∙ ap Ok c.in-One.is in (
      rw (c.note.ensures, one_more h _ _ _ _ c.in_ok-check_crash-in-One.ensures, h.counted, ← n, one, crash_fields_law _ (crash_long _ _ n one), ← c.in_ok-check_crash-in-One.ensures),
      crash_width c.args.self.now.n c.args.self.now.core (record { crashes = crashes_in c.args.self.now.crashes; last = 0 }) c.args.s.now (rw h.counted (sym n ∙ one)),
    )
