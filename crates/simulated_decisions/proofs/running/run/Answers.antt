-- The openings, then round after round.
use mathlib.Core.Path.{◌∙◌}
use Prim.Native.Nat.{◌+◌}
use native.Mathlib.Omega.{arith}
use Rattle.drive_sets.specs.Masks.Sizes.{size_le}
use Rattle.simulated_decisions.proofs.Openings.{world_opened}
use Rattle.simulated_decisions.proofs.AllRounds.{Running, run_start, run_turn, run_end, run_decided, all_given}
use Rattle.simulated_decisions.proofs.running.run.Goals as goal
use Rattle.simulated_decisions.proofs.running.run.Goals.{After-note_all}

pub overflow_cast-r-end : goal.overflow_cast-r-end
overflow_cast-r-end c = omega (arith, c.size-r-end.ensures, size_le c.args.core)

pub loop-r-init : goal.loop-r-init
loop-r-init c = let a = c.args in rw c.nothing-found.ensures (run_start a.n a.core a.crashes.now _)

-- one round more is done
turned : (c : After-note_all) → Running c.args.n c.args.core c.args.crashes.now c.open_all-states.result c.one_round.new.states c.note_all.new.found (c.loop-r.r + 1)
turned c = let s = c in let a = s.args in let l = c.loop-r in
    run_turn a.n a.core a.crashes.now _ l.states _ l.found _ l.r l.invariant (omega (arith, c.size-r-end.ensures)) (c.one_round.ensures.value s.requires.0 s.requires.1) c.note_all.ensures

pub loop-r-preserved : goal.loop-r-preserved
loop-r-preserved c = turned (goal.at.loop-r-preserved c).After-note_all

pub overflow_step-r : goal.overflow_step-r
overflow_step-r c = omega (arith, c.loop-r.invariant.up_to, size_le c.args.core)

pub returns : goal.returns
returns c q t d i = let a = c.args in let l = c.loop-r in
    run_end a.n a.core a.crashes.now _ l.states l.found l.r l.invariant (omega (arith, c.size-r-end.ensures)) q t.says d i
    ∙ all_given a.core q d t.says.core_is _ (world_opened a.n a.core a.numbers.now a.crashes.now q t _ c.open_all-states.ensures)

pub returns-else-all_decided : goal.returns-else-all_decided
returns-else-all_decided c q t d i = let a = c.args in
    run_end a.n a.core a.crashes.now _ _ _ _ (turned (goal.at.returns-else-all_decided c).After-note_all) (omega (arith, c.size-r-end.ensures)) q t.says d i
    ∙ all_given a.core q d t.says.core_is _ (world_opened a.n a.core a.numbers.now a.crashes.now q t _ c.open_all-states.ensures)

pub returns-then-all_decided : goal.returns-then-all_decided
returns-then-all_decided c q t d i = let a = c.args in
    run_decided a.n a.core a.crashes.now _ _ _ _ (turned (goal.at.returns-then-all_decided c).After-note_all) q t.says d i (c.all_decided.ensures c.if-all_decided.true d i)
    ∙ all_given a.core q d t.says.core_is _ (world_opened a.n a.core a.numbers.now a.crashes.now q t _ c.open_all-states.ensures)
