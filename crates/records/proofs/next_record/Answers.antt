-- A record that is not EN is one more.
use mathlib.Core.Path.{sym, ◌∙◌}
use Rattle.records.specs.declared.Kind.TheVariants.{End}
use Rattle.records.specs.RecordLists.Laws.{record_next}
use Rattle.records.proofs.Matches.{kind_same}
use Rattle.records.proofs.next_record.Goals as goal

pub returns : goal.returns
returns c =
    let a = c.args in let k = c.in_ok-kind.kind in
    sym (record_next a.due a.count a.s.now k (sym c.read_head.ensures ∙ c.in_ok-kind.was) (sym (kind_same k End) ∙ (sym c.eq.ensures ∙ c.if-eq.false)))
