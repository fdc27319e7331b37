-- Replies as structs of numbers, from what the library's definitions give: the values of a result with refusal 0, and
-- beside a refusal zeros.
use Rattle.std.specs.Prelude.{Bool, true, false, ℕ, Result, Ok, Err}
use Rattle.drive_sets.specs.declared.Refusal.{Refusal}
use Rattle.drive_sets.specs.Refusals.{Outcome, refused, yields, number}
use Rattle.c_replies.specs.declared.SizeReply.{SizeReply}
pub mod Laws

-- ---- refusals: 0 for none

module _ {A : Type 0} where
  abbrev pub refusal_in : Result A Refusal → ℕ
  refusal_in (Ok a) = 0
  refusal_in (Err r) = number r

  abbrev pub refusal_of : Outcome A → ℕ
  refusal_of (refused r) = r
  refusal_of (yields a) = 0

-- ---- how many sets or bytes

abbrev pub size_reply : Outcome ℕ → SizeReply
size_reply (refused r) = record { size = 0; refusal = r }
size_reply (yields size) = record { size = size; refusal = 0 }

-- ---- flags

abbrev pub flag_of : Bool → ℕ
flag_of true = 1
flag_of false = 0
