-- A refusal's number is never 0, so that 0 can stand for none: of outcomes that are made of refusals and results.
use Rattle.std.specs.Prelude.{◌≡◌, Bool, cond, ℕ, leb}
use Rattle.std.proofs.Math.Path.{refl}
use Rattle.std.proofs.Math.Bool.{true, false}
use Rattle.drive_sets.specs.declared.Refusal.{Refusal}
use Rattle.drive_sets.specs.declared.Refusal.TheVariants.{EndsTooSoon, WrongMark, FrameSize, BadSet, TooManySets, CountDiffers, TrailingBytes, DriveNumber, CrashRound, CrashSends, NoneUntouched, BlockCount, TooManyCores, NoRoom, KnownMask, AlreadyAccepted, OutsideCore, Halted, SenderMissing, PatternDiffers, OtherRound, ListenerSends, BrokenState, Threshold, TooManyGroups, FewDrives, AllDrives}
use Rattle.drive_sets.specs.Refusals.{Outcome, refused, yields, and_then, number}

pub number_from_one : (r : Refusal) → leb 1 (number r) ≡ true
number_from_one EndsTooSoon = refl
number_from_one WrongMark = refl
number_from_one FrameSize = refl
number_from_one BadSet = refl
number_from_one TooManySets = refl
number_from_one CountDiffers = refl
number_from_one TrailingBytes = refl
number_from_one DriveNumber = refl
number_from_one CrashRound = refl
number_from_one CrashSends = refl
number_from_one NoneUntouched = refl
number_from_one BlockCount = refl
number_from_one TooManyCores = refl
number_from_one NoRoom = refl
number_from_one KnownMask = refl
number_from_one AlreadyAccepted = refl
number_from_one OutsideCore = refl
number_from_one Halted = refl
number_from_one SenderMissing = refl
number_from_one PatternDiffers = refl
number_from_one OtherRound = refl
number_from_one ListenerSends = refl
number_from_one BrokenState = refl
number_from_one Threshold = refl
number_from_one TooManyGroups = refl
number_from_one FewDrives = refl
number_from_one AllDrives = refl

module _ {A : Type 0} where
  unfoldable pub from_one : Outcome A → Bool
  from_one (refused r) = leb 1 r
  from_one (yields a) = true

  -- an outcome that is a result, or a refusal with a number from 1
  pub record Numbered (o : Outcome A) : Type 0 where
    pub from : from_one o ≡ true

  pub result_numbered : {a : A} → Numbered (yields a)
  unfolding from_one
  result_numbered = record { from = refl }

  pub if_numbered : (b : Bool) (r : ℕ) {next : Outcome A} → leb 1 r ≡ true → Numbered next → Numbered (cond b (refused r) next)
  unfolding from_one
  if_numbered true r h rest = record { from = h }
  if_numbered false r h rest = rest

  pub either_numbered : (b : Bool) {x y : Outcome A} → Numbered x → Numbered y → Numbered (cond b x y)
  either_numbered true h k = h
  either_numbered false h k = k

module _ {A B : Type 0} where
  pub then_numbered : (o : Outcome A) (f : A → Outcome B) → Numbered o → ((a : A) → Numbered (f a)) → Numbered (and_then o f)
  unfolding from_one
  then_numbered (refused r) f h each = record { from = h.from }
  then_numbered (yields a) f h each = each a
