-- The core, then the stops.
use Rattle.records.specs.Marks.{ascii}
use Rattle.text.proofs.Puts.{filled_both}
use Rattle.run_listing.specs.RunListing.{core_line}
use borrow.Author.Rules.{rules}
use Rattle.run_listing.proofs.run_text.put_core_line.Goals as goal

pub returns : goal.returns
unfolding core_line ascii
returns c = filled_both (search rules) c.put_named-cored.ensures (rw c.from.ensures at c.put_line.ensures)
