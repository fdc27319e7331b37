-- Stopped, undecided, or the decision with its round.
use Rattle.records.specs.Marks.{ascii}
use Rattle.simulated_decisions.specs.Endings.{ending_by, ending_for}
use Rattle.text.proofs.Puts.{filled_both}
use Rattle.run_listing.specs.RunListing.{ending_text}
use borrow.Author.Rules.{rules}
use Rattle.run_listing.proofs.run_text.put_ending.Goals as goal

pub returns-then-crashes : goal.returns-then-crashes
unfolding ending_text ending_for ending_by ascii
returns-then-crashes c = rw c.if-crashes.true c.put_all.ensures

pub returns-in-None : goal.returns-in-None
unfolding ending_text ending_for ending_by ascii
returns-in-None c = rw (c.if-crashes.false, c.in-None.is) c.put_all-in-None.ensures

pub returns-in-Some : goal.returns-in-Some
unfolding ending_text ending_for ending_by ascii
returns-in-Some c =
    rw (c.if-crashes.false, c.in-Some.is)
    (filled_both (search rules) (rw c.from.ensures at c.put_named-decided.ensures) (rw c.from-in-Some.ensures at c.put_named.ensures))
