-- What a send leaves in a buffer: its bytes, or nothing where it is refused.
use Rattle.std.specs.Prelude.{Err, Ok, Result}
use mathlib.Core.Path.{◌≡◌, refl, sym, ap, ◌∙◌}
use mathlib.Core.List.{List, [], map}
use Prim.Native.Nat.{ℕ, ◌+◌, ◌≤◌}
use native.Mathlib.Omega.{arith}
use lib.Dec.{leb}
use lib.ListN.{length, take, drop}
use lib.Seq.{take_at}
use borrow.Author.Tests.{leb-true, le-leb, not-false}
use mathlib.Core.Bool.{not}
use Rattle.drive_sets.specs.declared.Refusal.{Refusal}
use Rattle.drive_sets.specs.declared.Refusal.TheVariants.{BrokenState, Halted, ListenerSends, NoRoom}
use Rattle.drive_sets.specs.Bools.Laws.{cond_true}
use Rattle.drive_sets.specs.Refusals.{Outcome, refused, yields, number, outcome}
use Rattle.drive_sets.specs.Refusals.Laws.{refused_no_result, same_result, passed, first_result}
use Rattle.drive_sets.specs.Lent.{written, written_at, fitting, size_written, buffer_after}
use Rattle.lent_bytes.specs.LentBuffers.{Written}
use Rattle.drive_states.specs.declared.Exchange.{Exchange}
use Rattle.drive_states.specs.State.{in_core, broken}
use Rattle.drive_states.specs.Messages.{message_bytes}
use Rattle.agreement.specs.Calls.{outgoing, sending}
use Rattle.runs.specs.World.{delivers}
use Rattle.agreement.specs.Canonical.{deliveries}

-- the bytes that a send wrote
pub record Wrote (x : Exchange) (room size : ℕ) (new : List ℕ) : Type 0 where
  pub bytes : List ℕ
  pub given : sending x room 0 ≡ yields bytes
  pub fits : size ≤ room
  pub read : take size new ≡ bytes

-- a message that is sent has room
sent_fits : (x : Exchange) (room : ℕ) {bytes : List ℕ} → sending x room 0 ≡ yields bytes → length bytes ≤ room
unfolding sending fitting
sent_fits x room e =
    let sound = passed (broken x) BrokenState _ e in
    let going = passed x.halted Halted _ sound.1 in
    let talks = passed (not (in_core x)) ListenerSends _ going.1 in
    let roomy = passed (not (leb (0 + length (message_bytes (outgoing x))) room)) NoRoom _ talks.1 in
    let long = leb-true (0 + length (message_bytes (outgoing x))) room (not-false _ roomy.0) in
    omega (arith, long, ap length (same_result roomy.1))

module _ (x : Exchange) (old new : List ℕ) (r : Result ℕ Refusal) (sent : Written (sending x (length old) 0) 0 old new r) where
  pub wrote : (size : ℕ) → r ≡ Ok size → Wrote x (length old) size new
  unfolding written_at written
  wrote size e =
      let first = first_result (sending x (length old) 0) (λ bytes. yields (length bytes)) (sym sent.answer ∙ ap outcome e) in
      let fits = sent_fits x (length old) first.1 in
      let long : length first.0 ≡ size = same_result first.2 in
      record {
        bytes = first.0;
        given = first.1;
        fits = omega (arith, fits, long);
        read = ap (take size) (sent.buffer ∙ (ap (λ due. buffer_after due 0 old) first.1 ∙ cond_true _ _ (le-leb (length first.0) (length old) fits)))
            ∙ take_at first.0 (drop (length first.0) old) size long;
      }

  pub wrote_nothing : (q : Refusal) → r ≡ Err q → (es : List ℕ) → deliveries (sending x (length old) 0) es ≡ []
  unfolding deliveries
  wrote_nothing q e es = none (sending x (length old) 0) (sym sent.answer ∙ ap outcome e)
    where
      none : (due : Outcome (List ℕ)) → size_written due ≡ refused (number q) → deliveries due es ≡ []
      none (refused p) h = refl
      none (yields bytes) h = absurd (refused_no_result (sym h))

-- the calls that a send makes due: the bytes read back from the buffer, to each drive of the list
pub wrote_calls : (x : Exchange) (room size : ℕ) (new : List ℕ) → Wrote x room size new → (es : List ℕ)
    → map (λ e. delivers e (take size new)) es ≡ deliveries (sending x room 0) es
unfolding deliveries
wrote_calls x room size new g es = ap (λ (bytes : List ℕ). map (λ d. delivers d bytes) es) g.read ∙ ap (λ due. deliveries due es) (sym g.given)
