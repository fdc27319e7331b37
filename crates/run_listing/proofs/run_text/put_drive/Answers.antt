-- The drive, how it ends, the newline.
use mathlib.Core.Path.{sym, ap}
use mathlib.Core.Bool.{Bool}
use Rattle.records.specs.Marks.{ascii}
use Rattle.drive_sets.specs.Filled.Laws.{filled_same}
use Rattle.text.proofs.Puts.{filled_both}
use Rattle.run_listing.specs.RunListing.{ending_text, drive_line}
use Rattle.simulated_decisions.specs.Endings.{ending_for, first_of, ending_at}
use borrow.Author.Rules.{rules}
use Rattle.run_listing.proofs.run_text.put_drive.Goals as goal

pub returns : goal.returns
unfolding drive_line ascii ending_at first_of
returns c =
    let s = c.args.s.now in
    filled_both (search rules) (rw c.from.ensures at c.put_named-headed.ensures)
    (filled_both (search rules) (filled_same (ap (λ (b : Bool). ending_text (ending_for b (first_of s.found c.args.d.0))) (sym c.has.ensures)) c.put_ending-ended.ensures) c.put_all.ensures)
