-- The loop over the records: what is left to read gives what the whole gives.
use Rattle.std.proofs.Common.{refl, sym, ap, ◌∙◌, arith}
use Rattle.std.proofs.lemmas.Result.{err_from_is_err_and}
use Rattle.records.proofs.Lists.{reading_start}
use Rattle.record_lists.proofs.Turns.{ended, stopped, end_fits, at_end, turned, goes_far}
use Rattle.record_lists.proofs.read_records.Goals as goal

pub loop-list-init : goal.loop-list-init
loop-list-init g c =
    let list = g.L.RecordList in
    record { kept = refl; reading = reading_start (list.format (list.setting c.args.list.now)) c.args.s.now (list.told c.args.list.now) 0 (omega arith) }

pub returns-in_err-width-clause-value : goal.returns-in_err-width-clause-value
returns-in_err-width-clause-value g c =
    let p = err_from_is_err_and c.from_residual.result c.from_residual.ensures.1 in
    let i = c.loop-list.invariant in
    rw (p.1, p.2) (stopped (ap g.L.RecordList.format i.kept) i.reading (sym c.ends.ensures ∙ c.loop-list-test.true) c.in_err-width.ensures.taken)

pub overflow_add-at : goal.overflow_add-at
overflow_add-at g c =
    let i = c.loop-list.invariant in
    omega (arith, (turned (ap g.L.RecordList.format i.kept) i.reading (sym c.ends.ensures ∙ c.loop-list-test.true) _ c.in_ok-width.ensures.taken c.in-Some.is).within)

pub loop-list-smaller : goal.loop-list-smaller
loop-list-smaller g c =
    let i = c.loop-list.invariant in
    goes_far (ap g.L.RecordList.format i.kept) i.reading (sym c.ends.ensures ∙ c.loop-list-test.true) _ c.in_ok-width.ensures.taken c.in-Some.is

pub loop-list-preserved : goal.loop-list-preserved
loop-list-preserved g c =
    let i = c.loop-list.invariant in
    record {
      kept = c.take.ensures.kept ∙ i.kept;
      reading = turned (ap g.L.RecordList.format i.kept) i.reading (sym c.ends.ensures ∙ c.loop-list-test.true) _ c.in_ok-width.ensures.taken c.in-Some.is;
    }

pub returns-in-None-clause-value : goal.returns-in-None-clause-value
returns-in-None-clause-value g c =
    let i = c.loop-list.invariant in
    at_end (ap g.L.RecordList.format i.kept) i.reading (sym c.ends.ensures ∙ c.loop-list-test.true) _ c.in_ok-width.ensures.taken c.in-None.is

pub returns-in-None-clause-within : goal.returns-in-None-clause-within
returns-in-None-clause-within g c =
    let i = c.loop-list.invariant in
    end_fits (ap g.L.RecordList.format i.kept) i.reading (sym c.ends.ensures ∙ c.loop-list-test.true) _ c.in_ok-width.ensures.taken c.in-None.is

pub returns-clause-value : goal.returns-clause-value
returns-clause-value g c =
    let i = c.loop-list.invariant in
    ended (ap g.L.RecordList.format i.kept) i.reading (sym c.ends.ensures ∙ c.loop-list-test.false)
