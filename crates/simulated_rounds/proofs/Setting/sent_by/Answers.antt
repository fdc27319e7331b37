-- No sender, or as many sends as the drive makes in this round.
use mathlib.Core.Path.{sym, ap, ◌∙◌}
use Prim.Native.Nat.{ℕ}
use lib.ListN.{take}
use Rattle.drive_sets.specs.Bools.Laws.{clash}
use Rattle.drive_sets.specs.Lists.{elem}
use Rattle.drive_sets.specs.Lists.Laws.{elem_none}
use Rattle.agreement.specs.Calls.{sending}
use Rattle.agreement.specs.Canonical.{room, deliveries}
use Rattle.simulated_sends.specs.States.{list_for}
use Rattle.simulated_rounds.proofs.SenderCalls.{length_list}
use Rattle.simulated_rounds.proofs.Setting.sent_by.Goals as goal

pub returns-then-not-is_sender-clause-listed : goal.returns-then-not-is_sender-clause-listed
returns-then-not-is_sender-clause-listed c e h = let none = c.nothing.ensures in absurd (clash h (ap (elem e) none.1 ∙ elem_none e))

pub returns-clause-calls : goal.returns-clause-calls
returns-clause-calls c = let s = c in let sent = c.send_from.ensures in let list = list_for s.args.self.now.n s.args.self.now.core s.args.d.0 in
    rw (← c.is_sender.ensures, c.if-not-is_sender.false) (sent.calls
    ∙ (ap (λ (k : ℕ). deliveries (sending s.args.x.now k 0) (take c.sends_made.result list)) s.requires
    ∙ ap (deliveries (sending s.args.x.now room 0)) (sym (c.sends_made.ensures list (length_list s.args.self.now.n s.args.self.now.core s.args.d.0 s.args.self.now.few s.args.self.now.within)))))
