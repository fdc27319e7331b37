-- The refusals of documents 01 and 02 by number, and what a call gives: a result or a refusal.
use Rattle.std.specs.Prelude.{Bool, cond, ℕ, Result, Ok, Err}
use Rattle.drive_sets.specs.declared.Refusal.{Refusal}
use Rattle.drive_sets.specs.declared.Refusal.TheVariants.{EndsTooSoon, WrongMark, FrameSize, BadSet, TooManySets, CountDiffers, TrailingBytes, DriveNumber, CrashRound, CrashSends, NoneUntouched, BlockCount, TooManyCores, NoRoom, KnownMask, AlreadyAccepted, OutsideCore, Halted, SenderMissing, PatternDiffers, OtherRound, ListenerSends, BrokenState, Threshold, TooManyGroups, FewDrives, AllDrives}
pub mod Laws
pub mod Numbered

-- the number of a refusal
abbrev pub number : Refusal → ℕ
number EndsTooSoon = 1
number WrongMark = 2
number FrameSize = 3
number BadSet = 4
number TooManySets = 5
number CountDiffers = 6
number TrailingBytes = 7
number DriveNumber = 8
number CrashRound = 9
number CrashSends = 10
number NoneUntouched = 11
number BlockCount = 12
number TooManyCores = 13
number NoRoom = 14
number KnownMask = 15
number AlreadyAccepted = 21
number OutsideCore = 22
number Halted = 23
number SenderMissing = 24
number PatternDiffers = 25
number OtherRound = 26
number ListenerSends = 27
number BrokenState = 28
number Threshold = 31
number TooManyGroups = 32
number FewDrives = 33
number AllDrives = 34

-- what a call gives
pub data Outcome (A : Type 0) : Type 0 where
  refused : ℕ → Outcome A  -- by its number
  yields : A → Outcome A

-- the refusal where the condition holds, and else what comes next: so the first refusal is given
module _ {A : Type 0} where
  abbrev pub refuse_if : Bool → Refusal → Outcome A → Outcome A
  refuse_if b r next = cond b (refused (number r)) next

-- what the function makes of a result; a refusal stays
module _ {A B : Type 0} where
  abbrev pub and_then : Outcome A → (A → Outcome B) → Outcome B
  and_then (refused r) f = refused r
  and_then (yields a) f = f a

-- what the result of a call says
module _ {A : Type 0} where
  abbrev pub outcome : Result A Refusal → Outcome A
  outcome (Ok a) = yields a
  outcome (Err r) = refused (number r)

module _ {A B : Type 0} where
  -- the same, of what the function makes of the value
  abbrev pub outcome_by : (A → B) → Result A Refusal → Outcome B
  outcome_by f (Ok a) = yields (f a)
  outcome_by f (Err r) = refused (number r)

  -- the same, where the value stands beside the result
  abbrev pub outcome_of : Result A Refusal → B → Outcome B
  outcome_of (Ok a) b = yields b
  outcome_of (Err r) b = refused (number r)
