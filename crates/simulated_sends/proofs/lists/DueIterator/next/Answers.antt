-- No sends are left; the lowest of the core drives, or else of the listeners.
use native.Mathlib.Omega.{arith}
use Rattle.simulated_sends.specs.States.{due_of}
use Rattle.simulated_sends.proofs.DueLists.{Gives, no_sends, next_of_first, next_of_second, due_progress}
use Rattle.simulated_sends.proofs.lists.DueIterator.next.Goals as goal
use Rattle.simulated_sends.proofs.lists.DueIterator.next.Goals.{After-next-in-None}

pub returns-in_err-self-clause-steps : goal.returns-in_err-self-clause-steps
returns-in_err-self-clause-steps c = rw c.from_residual.ensures (no_sends c.args.self.now (omega (arith, c.in_err-self.ensures)))

pub returns-in-Some-clause-steps : goal.returns-in-Some-clause-steps
unfolding due_of
returns-in-Some-clause-steps c = next_of_first _ (omega (arith, c.in_ok-self.ensures)) c.in-Some.ensures.steps

pub returns-in-Some-clause-goes : goal.returns-in-Some-clause-goes
returns-in-Some-clause-goes c = due_progress _ _ _ (returns-in-Some-clause-steps c)

of_listeners : (c : After-next-in-None) → Gives c.args.self.now c.next-in-None.result (record { others = c.next.new.self; listeners = c.next-in-None.new.self; left = c.in_ok-self.field-0 })
unfolding due_of
of_listeners c = let none = c.in-None.ensures.steps in next_of_second _ _ _ _ _ _ _ (omega (arith, c.in_ok-self.ensures)) none.0 none.1 c.next-in-None.ensures.steps

pub returns-in-None-clause-steps : goal.returns-in-None-clause-steps
returns-in-None-clause-steps c = of_listeners c

pub returns-in-None-clause-goes : goal.returns-in-None-clause-goes
returns-in-None-clause-goes c = due_progress _ _ _ (of_listeners c)
