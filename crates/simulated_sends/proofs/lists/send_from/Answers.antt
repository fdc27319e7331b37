-- The bytes of the send, read back from the buffer.
use mathlib.Core.Path.{sym, ap, ◌∙◌}
use mathlib.Core.List.{map}
use native.Mathlib.Omega.{arith}
use Rattle.drive_sets.specs.Bools.Laws.{clash}
use Rattle.drive_sets.specs.Lists.{elem}
use Rattle.drive_sets.specs.Lists.Laws.{elem_none}
use Rattle.drive_sets.specs.Lists.Takes.{elem_take}
use Rattle.simulated_sends.specs.States.{due_of, list_for}
use Rattle.simulated_sends.proofs.SentBytes.{wrote, wrote_nothing, wrote_calls}
use Rattle.simulated_sends.proofs.lists.send_from.Goals as goal

pub returns-in-Err : goal.returns-in-Err
unfolding due_of list_for
returns-in-Err c = let none = c.nothing.ensures in let a = c.args in record {
  calls = ap (map _) none.1 ∙ sym (wrote_nothing a.x.now _ _ _ c.send.ensures _ c.in-Err.is _);
  listed = λ e h. absurd (clash h (ap (elem e) none.1 ∙ elem_none e));
  within = omega (arith, none.0);
  lent = c.send.ensures.buffer;
}

pub returns-in-Ok : goal.returns-in-Ok
unfolding due_of list_for
returns-in-Ok c = let a = c.args in let w = wrote a.x.now _ _ _ c.send.ensures _ c.in-Ok.is in record {
  calls = rw (c.remove.ensures, c.outside.ensures) (wrote_calls a.x.now _ _ _ w _);
  listed = λ e h. rw (← c.remove.ensures, ← c.outside.ensures) (elem_take e a.sends _ h);
  within = w.fits;
  lent = c.send.ensures.buffer;
}
