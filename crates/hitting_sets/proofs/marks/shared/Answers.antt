-- What the sets that are marked in both share of c, word after word.
use borrow.Author.Rules.{rules}
use Rattle.drive_sets.specs.Masks.{common}
use Rattle.hitting_sets.proofs.InMarked.{all_start, all_turn, all_end, all_none}
use Rattle.hitting_sets.proofs.marks.shared.Goals as goal

pub loop-i-init : goal.loop-i-init
loop-i-init c = (search rules, all_start _ _ _)

pub loop-i-preserved : goal.loop-i-preserved
unfolding common
loop-i-preserved c = (search rules, all_turn _ _ _ c.loop-i.invariant.1 _ c.shared_in_word-all.ensures)

pub returns-else-all-ne0 : goal.returns-else-all-ne0
returns-else-all-ne0 c = all_none _ _ _ c.loop-i.invariant.1 c.if-all-ne0.false

pub returns-after-loop-i : goal.returns-after-loop-i
returns-after-loop-i c = all_end _ _ _ c.loop-i.invariant.1 c.loop-i-test.false
