-- What the verdict says.
use Rattle.std.proofs.Common.{◌≡◌, ap, arith, rules}
use Rattle.std.proofs.lemmas.Grind.{same_number_lists}
use Rattle.records.specs.Marks.{ascii}
use Rattle.drive_sets.specs.Filled.Laws.{filled_same}
use Rattle.verdict_search.specs.declared.Verdict.{Verdict}
use Rattle.verdict_search.specs.Held.{verdict_of}
use Rattle.verdict_lines.specs.VerdictLines.{verdict_part}
use Rattle.verdict_lines.proofs.put_held.Goals as goal

pub returns-in-Yes : goal.returns-in-Yes
unfolding verdict_part verdict_of ascii
returns-in-Yes c = filled_same (ap (λ (v : Verdict). verdict_part (verdict_of v c.args.k)) c.in-Yes.is) c.put_all.ensures

pub returns-in-No : goal.returns-in-No
unfolding verdict_part verdict_of
returns-in-No c =
    let mapped = c.map-places.ensures.items in
    let places : c.map-places.result ≡ c.in-No.positions = same_number_lists _ _ (search rules) (λ j h. (mapped.at j 0 0 (omega (arith, mapped.long))).2.met) in
    filled_same (ap (λ (v : Verdict). verdict_part (verdict_of v c.args.k)) c.in-No.is) (rw (c.from.ensures, c.from-in-No.ensures, places) at c.put_no.ensures)
