-- The drives, the sets, the cores, the chosen one, the verdicts.
use mathlib.Core.Path.{sym, ap, ◌∙◌}
use mathlib.Core.List.{List}
use Prim.Native.Nat.{ℕ}
use lib.ListN.{get_or}
use Rattle.records.specs.Marks.{ascii}
use Rattle.drive_sets.specs.Filled.Laws.{filled_same}
use Rattle.survivor_tables.specs.Tables.{chosen}
use Rattle.text.specs.declared.Base.TheVariants.{Hexadecimal}
use Rattle.text.specs.Text.{line, lines}
use Rattle.text.proofs.Puts.{filled_both}
use Rattle.table_listing.specs.TableListing.{listing}
use borrow.Author.Rules.{rules}
use Rattle.table_listing.proofs.table_text.put_listing.Goals as goal

pub returns : goal.returns
unfolding listing chosen ascii
returns c = filled_both (search rules) c.put_line-counted.ensures (filled_both (search rules) c.put_lines-listed.ensures (filled_both (search rules) (filled_same (ap (lines (ascii "core") Hexadecimal) (sym c.requires)) c.put_lines-cored.ensures) (filled_both (search rules) (filled_same (ap (line (ascii "chosen") Hexadecimal) (ap (λ (l : List ℕ). get_or l 0 0) (sym c.requires) ∙ sym c.first_group.ensures)) c.put_line-chosen.ensures) c.put_verdicts.ensures)))
