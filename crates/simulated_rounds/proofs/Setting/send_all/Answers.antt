-- The drives one after the other, each with the drives of its list; one that is no sender changes nothing.
use mathlib.Core.Path.{refl, ap, ◌∙◌}
use Prim.Native.Nat.{◌-◌}
use native.Mathlib.Omega.{arith}
use lib.ListN.{set}
use Rattle.agreement.specs.Document01.{apply_all}
use Rattle.simulated_sends.specs.States.{world_of}
use Rattle.simulated_sends.proofs.DueLists.{due_first, due_last}
use Rattle.simulated_rounds.proofs.Deliveries.{list_drives, deliver_start, deliver_end, deliver_bounds, deliver_turn}
use Rattle.simulated_rounds.proofs.SenderCalls.{send_turn, send_end}
use Rattle.simulated_rounds.proofs.Walks.{walk_start}
use borrow.Author.Rules.{rules}
use Rattle.simulated_rounds.proofs.Setting.send_all.Goals as goal

pub loop-i-init : goal.loop-i-init
loop-i-init c = (walk_start c.args.self.now.n _ c.args.all.now (search rules), refl)

pub loop-to-init : goal.loop-to-init
loop-to-init c = let s = c in rw s.into_iter-to-iterator.ensures.into_iter_gives
    (deliver_start s.loop-i.invariant.0.long (λ e h. list_drives s.args.self.now.n s.args.self.now.core _ s.args.self.now.few s.args.self.now.within e (s.sent_by-sent.ensures.listed e h)))

pub overflow_sub-to : goal.overflow_sub-to
overflow_sub-to c = (deliver_bounds c.loop-to.invariant (due_first _ _ c.in-Some.is c.next.ensures.steps)).0

pub bounds-all-to : goal.bounds-all-to
bounds-all-to c = let b = deliver_bounds c.loop-to.invariant (due_first _ _ c.in-Some.is c.next.ensures.steps) in omega (arith, b.0, b.1, c.args.self.now.few)

pub loop-to-preserved : goal.loop-to-preserved
loop-to-preserved c = let l = c.loop-to in deliver_turn l.invariant (due_first _ _ c.in-Some.is c.next.ensures.steps) c.args.self.now.few (ap (set l.all (c.in-Some.to.0 - 1)) c.message.ensures.state)

pub loop-i-preserved : goal.loop-i-preserved
loop-i-preserved c = let a = c.args in let l = c.loop-i in let each = c.loop-to in let sent = c.sent_by-sent in (
  send_turn a.self.now.n a.self.now.core a.self.now.crashes.now a.self.now.round.0 a.began.now a.all.now l.all l.i each.all l.invariant.0 (omega arith) each.invariant.long
      (deliver_end each.invariant (due_last _ _ c.in-None.is c.next.ensures.steps) ∙ ap (apply_all (world_of a.self.now.n l.all)) sent.ensures.calls),
  omega (arith, sent.auto.buf, l.invariant.1),
)

pub returns : goal.returns
returns c = let a = c.args in let l = c.loop-i in send_end a.self.now.n a.self.now.core a.self.now.crashes.now a.self.now.round.0 a.began.now a.all.now l.all l.i l.invariant.0 (omega arith)
