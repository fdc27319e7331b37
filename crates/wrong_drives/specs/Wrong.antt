-- Wrong drives: each has document 01's calls but for those that its comment names.
use Rattle.std.specs.Prelude.{Bool, true, not, ◌&&◌, cond, List, ◌++◌, ℕ, ◌+◌, eqb}
use Rattle.drive_sets.specs.declared.Refusal.TheVariants.{BrokenState, NoRoom}
use Rattle.drive_sets.specs.Lists.{filter}
use Rattle.drive_sets.specs.Masks.{has}
use Rattle.drive_sets.specs.Refusals.{Outcome, refused, yields, and_then, number}
use Rattle.drive_states.specs.declared.Exchange.{Exchange}
use Rattle.drive_states.specs.declared.Decision.{Decision}
use Rattle.drive_states.specs.declared.Decision.TheVariants.{Decided}
use Rattle.drive_states.specs.State.{number_of}
use Rattle.agreement.specs.Calls.{opening, sending, receiving, closing}
use Rattle.runs.specs.Protocol.{Protocol}
use Rattle.runs.specs.Scenario.{Scenario, frame, core_of}
use Rattle.agreement.specs.Sends.{cut, reach}

-- the state with another decision, halting and round
unfoldable pub with : Exchange → Decision → Bool → ℕ → Exchange
with x decision halted round = record {
  n = x.n;
  own = x.own;
  core = x.core;
  round = record { 0 = round };
  before = x.before;
  heard = x.heard;
  known = x.known;
  start = x.start;
  numbers = x.numbers;
  announced = x.announced;
  decision = decision;
  halted = halted;
}

-- (a) at every close it decides its own number, whatever it was told
unfoldable pub decide_own : Exchange → Outcome Exchange
decide_own x = and_then (closing x) (λ y. yields (with y (Decided (record { 0 = number_of x x.own.0 })) y.halted y.round.0))

abbrev pub own_number : Protocol
own_number = record { opening = opening; sending = sending; receiving = receiving; closing = decide_own; reach = reach }

-- the same, but it takes no message in and halts at its first close
abbrev pub own_at_once : Protocol
own_at_once = record {
  opening = opening;
  sending = sending;
  receiving = λ x bytes. yields x;
  closing = λ x. yields (with x (Decided (record { 0 = number_of x x.own.0 })) true 1);
  reach = reach;
}

-- (b) it has halted when it is opened
unfoldable pub open_halted : ℕ → List ℕ → ℕ → ℕ → Outcome Exchange
open_halted n sets own number = and_then (opening n sets own number) (λ x. yields (with x x.decision true x.round.0))

abbrev pub halts_at_once : Protocol
halts_at_once = record { opening = open_halted; sending = sending; receiving = receiving; closing = closing; reach = reach }

-- (c) its message goes to the listeners first, then to the core
unfoldable pub listeners_first : Scenario → ℕ → List ℕ
listeners_first s d = filter (λ e. not (has e (core_of s))) (frame s) ++ filter (λ e. has e (core_of s) && not (eqb e d)) (frame s)

abbrev pub core_last : Protocol
core_last = record {
  opening = opening;
  sending = sending;
  receiving = receiving;
  closing = closing;
  reach = λ s r d. cut (s.crash d) r (listeners_first s d);
}

-- (d) it accepts every message and hands its state back
abbrev pub hears_nothing : Protocol
hears_nothing = record { opening = opening; sending = sending; receiving = λ x bytes. yields x; closing = closing; reach = reach }

-- (e) it refuses every call
abbrev pub refuses_all : Protocol
refuses_all = record {
  opening = λ n sets own proposed. refused (number BrokenState);
  sending = λ x room start. refused (number BrokenState);
  receiving = λ x bytes. refused (number BrokenState);
  closing = λ x. refused (number BrokenState);
  reach = reach;
}

-- (f) it closes round 1 as it should, and then only counts the rounds
unfoldable pub close_first : Exchange → Outcome Exchange
close_first x = cond (eqb x.round.0 1) (closing x) (yields (with x x.decision x.halted (x.round.0 + 1)))

abbrev pub first_round_only : Protocol
first_round_only = record { opening = opening; sending = sending; receiving = receiving; closing = close_first; reach = reach }

-- (g) after a close it reports a round further than the one that it closed
unfoldable pub close_two : Exchange → Outcome Exchange
close_two x = and_then (closing x) (λ y. yields (with y y.decision y.halted (y.round.0 + 1)))

abbrev pub skips_rounds : Protocol
skips_rounds = record { opening = opening; sending = sending; receiving = receiving; closing = close_two; reach = reach }

-- (h) a close hands its state back
abbrev pub never_closes : Protocol
never_closes = record { opening = opening; sending = sending; receiving = receiving; closing = λ x. yields x; reach = reach }

-- it opens, never has room for a send, and takes nothing in
abbrev pub never_room : Protocol
never_room = record {
  opening = opening;
  sending = λ x room start. refused (number NoRoom);
  receiving = λ x bytes. refused (number BrokenState);
  closing = λ x. refused (number BrokenState);
  reach = reach;
}
