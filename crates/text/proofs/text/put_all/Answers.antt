-- A list of bytes, one after the other.
use mathlib.Core.Path.{refl, sym}
use Rattle.drive_sets.specs.Filled.Laws.{filled_same}
use Rattle.text.proofs.Puts.{putting_start, putting_turn, putting_end, joined_bytes}
use borrow.Author.Rules.{rules}
use Rattle.text.proofs.text.put_all.Goals as goal

pub loop-b-init : goal.loop-b-init
loop-b-init c = putting_start _ c.place-at.ensures

pub loop-b-preserved : goal.loop-b-preserved
loop-b-preserved c = putting_turn c.loop-b.invariant c.loop-b-test.true refl (search rules) c.put-at.ensures

pub shape_of-buf : goal.shape_of-buf
shape_of-buf c = c.loop-b.invariant.long

pub returns : goal.returns
returns c = filled_same (sym (joined_bytes _)) (putting_end c.loop-b.invariant c.loop-b-test.false)
