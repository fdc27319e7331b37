-- The other core drives and the listeners.
use Rattle.std.proofs.Common.{sym, ◌∙◌}
use Rattle.drive_states.specs.State.{in_core}
use Rattle.controller.specs.Receivers.{send_list}
use Rattle.controller.proofs.SentLists.{list_given}
use Rattle.controller.proofs.receivers.send_list.Goals as goal

pub returns : goal.returns
unfolding send_list in_core
returns c =
    let a = c.args in
    rw (← c.is_broken.ensures, c.if-is_broken.false, c.if-x.false, ← c.has.ensures, c.if-not-has.false)
    (list_given a.x.now a.out.now (sym c.is_broken.ensures ∙ c.if-is_broken.false) c.remove-others.ensures c.outside-listeners.ensures c.put_both.ensures)
