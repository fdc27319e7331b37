-- No room, or a copy.
use Rattle.std.proofs.Common.{refl, sym, ◌∙◌, ap, not, leb-true}
use Rattle.lent_bytes.proofs.Buffers.{written_none}
use Rattle.text.proofs.Prints.{prints_all}
use Rattle.text.proofs.printing.print.Goals as goal

pub returns-then-not-fits : goal.returns-then-not-fits
returns-then-not-fits c =
    let a = c.args in
    written_none a.text.now a.start a.out.now _ refl _ c.fits.ensures (ap not c.if-not-fits.true)

pub returns : goal.returns
returns c =
    let a = c.args in
    prints_all a.text.now a.start a.out.now (leb-true _ _ (sym c.fits.ensures ∙ c.if-not-fits.false)) _ c.copy_from_slice.ensures.after
