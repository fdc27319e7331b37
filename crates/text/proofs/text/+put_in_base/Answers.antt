-- A number in a base: the digits before the last, then the last.
use Rattle.std.proofs.Common.{rules}
use Rattle.drive_sets.specs.Filled.Laws.{filled_same}
use Rattle.text.proofs.Puts.{filled_nothing, filled_both, base_none, base_last, base_more}
use Rattle.text.proofs.text.+put_in_base.Goals as goal

pub returns-then-most-eq0 : goal.returns-then-most-eq0
returns-then-most-eq0 t c = filled_same (base_none _ _ _ c.if-most-eq0.true) (filled_nothing c.place.ensures)

pub returns-then-x-base : goal.returns-then-x-base
returns-then-x-base t c = filled_same (base_last _ _ _ _ c.if-most-eq0.false c.if-x-base.true c.digit.ensures) c.put.ensures

pub returns : goal.returns
returns t c =
    filled_same (base_more _ _ _ _ c.if-most-eq0.false c.if-x-base.false c.digit-last.ensures)
    (filled_both (search rules) c.put_in_base-next.ensures c.put-2.ensures)
