-- A state taken across to C and back is the same state.
use Rattle.std.specs.Prelude.{◌≡◌, refl, Bool, true, false, cond, eqb}
use Rattle.std.proofs.Common.{ap, ◌∙◌}
use Rattle.drive_states.specs.declared.Exchange.{Exchange}
use Rattle.drive_states.specs.declared.Announcement.{Announcement}
use Rattle.drive_states.specs.declared.Announcement.TheVariants.{Absent, By}
use Rattle.drive_states.specs.declared.Decision.{Decision}
use Rattle.drive_states.specs.declared.Decision.TheVariants.{Undecided, Decided}
use Rattle.c_replies.specs.Replies.{flag_of}
use Rattle.c_states.specs.Crossing.{is_flagged, exchange_of, announced_flag, announced_drive, announced_number, decided_flag, decided_number, state_of}

announcement_back : (a : Announcement) → cond (eqb (announced_flag a) 0) Absent (By (announced_drive a) (announced_number a)) ≡ a
announcement_back Absent = refl
announcement_back (By d v) = refl

decision_back : (d : Decision) → cond (eqb (decided_flag d) 0) Undecided (Decided (decided_number d)) ≡ d
decision_back Undecided = refl
decision_back (Decided v) = refl

flag_back : (b : Bool) → is_flagged (flag_of b) ≡ b
flag_back true = refl
flag_back false = refl

-- the state with these parts
abbrev with_parts : Exchange → Announcement → Decision → Bool → Exchange
with_parts x a d h = record {
  n = x.n;
  own = x.own;
  core = x.core;
  round = x.round;
  before = x.before;
  heard = x.heard;
  known = x.known;
  start = x.start;
  numbers = x.numbers;
  announced = a;
  decision = d;
  halted = h;
}

pub there_and_back : (x : Exchange) → exchange_of (state_of x) ≡ x
there_and_back x =
    ap (λ (a : Announcement). with_parts x a (exchange_of (state_of x)).decision (is_flagged (flag_of x.halted))) (announcement_back x.announced)
    ∙ ap (λ (d : Decision). with_parts x x.announced d (is_flagged (flag_of x.halted))) (decision_back x.decision)
    ∙ ap (with_parts x x.announced x.decision) (flag_back x.halted)
