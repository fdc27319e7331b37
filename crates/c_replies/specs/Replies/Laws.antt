-- A reply whose refusal is 0 is of a call that was accepted.
use Rattle.std.specs.Prelude.{◌≡◌, refl, List, ℕ, ◌≤◌}
use Rattle.std.proofs.Common.{arith}
use borrow.Author.Tests.{leb-true}
use Rattle.drive_sets.specs.Lent.{size_written}
use Rattle.drive_sets.specs.Refusals.{Outcome, refused, yields}
use Rattle.drive_sets.specs.Refusals.Numbered.{from_one, Numbered}
use Rattle.c_replies.specs.Replies.{refusal_of, size_reply}

module _ {A : Type 0} where
  -- 0 is told of results only
  pub none_refused : (o : Outcome A) → Numbered o → refusal_of o ≡ 0 → (a : A) × (o ≡ yields a)
  unfolding from_one
  none_refused (refused r) h e = absurd (let from : 1 ≤ r = leb-true 1 r h.from in omega (arith, from, e))
  none_refused (yields a) h e = (a, refl)

pub size_refusal : (o : Outcome (List ℕ)) → (size_reply (size_written o)).refusal ≡ refusal_of o
size_refusal (refused r) = refl
size_refusal (yields l) = refl
