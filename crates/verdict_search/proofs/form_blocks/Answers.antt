-- The blocks, one for each named set.
use Prim.Native.Nat.{ℕ}
use mathlib.Core.Path.{sym, ap, ◌∙◌}
use lib.ListN.{take}
use native.Mathlib.Omega.{arith}
use Rattle.drive_sets.specs.Masks.{union, outside}
use Rattle.verdict_search.specs.Verdicts.{set_at, sets_at}
use Rattle.verdict_search.proofs.Splitting.{splitting_turn, splitting_end, count_named, is_named, position_within}
use Rattle.verdict_search.proofs.form_blocks.Goals as goal

pub overflow_sub-place : goal.overflow_sub-place
unfolding union
overflow_sub-place c = let a = c.args in omega (arith, position_within a.table.now a.positions a.k (omega arith) c.loop-i.i (omega arith) c.requires.2)

pub bounds-table-place : goal.bounds-table-place
unfolding union
bounds-table-place c = let a = c.args in omega (arith, position_within a.table.now a.positions a.k (omega arith) c.loop-i.i (omega arith) c.requires.2)

pub loop-i-preserved : goal.loop-i-preserved
unfolding union
loop-i-preserved c = let a = c.args in let l = c.loop-i in let named = sets_at a.table.now (take a.k a.positions) in let count = count_named a.table.now a.positions a.k (omega arith) in splitting_turn _ named _ _ _ (omega arith) l.invariant (omega arith) _ (c.outside-block.ensures ∙ ap (λ (p : ℕ). outside a.n (union (set_at a.table.now p) l.taken)) c.from-place.ensures ∙ ap (λ (s : ℕ). outside a.n (union s l.taken)) (sym (is_named a.table.now a.positions a.k (omega arith) l.i (omega arith))))

pub returns : goal.returns
unfolding union
returns c = let a = c.args in let count = count_named a.table.now a.positions a.k (omega arith) in splitting_end _ (sets_at a.table.now (take a.k a.positions)) _ _ _ (omega arith) c.loop-i.invariant (omega arith)
