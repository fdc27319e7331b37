-- The state of a drive that was never opened breaks a rule, so that a send, a message and a close are refused with 28.
use Rattle.std.specs.Prelude.{◌≡◌, refl, true, List, ℕ}
use Rattle.drive_sets.specs.Bools.Laws.{cond_true}
use Rattle.drive_sets.specs.Refusals.{refused}
use Rattle.survivor_tables.specs.Tables.{is_frame}
use Rattle.drive_states.specs.State.{broken}
use Rattle.agreement.specs.Calls.{initial, sending, receiving, closing}
use Rattle.exchange.specs.Replies.{not_opened}

pub not_opened_broken : broken not_opened ≡ true
unfolding not_opened initial broken is_frame
not_opened_broken = refl

pub not_opened_sending : (room start : ℕ) → sending not_opened room start ≡ refused 28
unfolding sending
not_opened_sending room start = cond_true _ _ not_opened_broken

pub not_opened_receiving : (bytes : List ℕ) → receiving not_opened bytes ≡ refused 28
unfolding receiving
not_opened_receiving bytes = cond_true _ _ not_opened_broken

pub not_opened_closing : closing not_opened ≡ refused 28
unfolding closing
not_opened_closing = cond_true _ _ not_opened_broken
