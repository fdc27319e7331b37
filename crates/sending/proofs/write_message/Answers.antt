-- No room, or all of it.
use Rattle.std.proofs.Common.{ap, not}
use Rattle.lent_bytes.proofs.Buffers.{written_none, written_all}
use Rattle.drive_states.specs.Messages.{message_bytes}
use Rattle.agreement.specs.Calls.{outgoing}
use Rattle.sending.proofs.write_message.Goals as goal

pub returns-then-not-fits : goal.returns-then-not-fits
returns-then-not-fits c =
    let a = c.args in
    written_none (message_bytes (outgoing a.x.now)) a.start a.buf.now _ c.outgoing_size-size.ensures _ c.fits.ensures (ap not c.if-not-fits.true)

pub returns : goal.returns
returns c =
    let a = c.args in
    written_all (message_bytes (outgoing a.x.now)) a.start a.buf.now _ c.outgoing_size-size.ensures _ c.fits.ensures (ap not c.if-not-fits.false) _ c.put_message.ensures
