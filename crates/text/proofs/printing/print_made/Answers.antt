-- The whole of the text.
use Rattle.std.proofs.Common.{◌≡◌, ℕ, List, take, length, sym, ap, ◌∙◌, arith, length-take, subst}
use Rattle.text.specs.Printing.{Printed}
use Rattle.text.proofs.printing.print_made.Goals as goal

pub returns : goal.returns
returns c before text fits f =
    let all = f.kept (omega (arith, f.total, fits)) in
    let put = sym (length-take c.args.size c.args.made.now) ∙ ap length all in
    let whole : c.min.result ≡ c.args.size = omega (arith, c.min.ensures, put, f.total, fits) in
    subst (λ (l : List ℕ). Printed l c.args.start c.args.out.now c.print.new.out c.print.result)
    (ap (λ (k : ℕ). take k c.args.made.now) whole ∙ all) c.print.ensures
