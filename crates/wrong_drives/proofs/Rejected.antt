-- Agreement is false of the wrong drives.
use mathlib.Core.Path.{refl}
use mathlib.Core.List.{List, [], ◌∷◌}
use Prim.Native.Nat.{ℕ}
use native.Mathlib.Omega.{arith}
use Rattle.drive_sets.specs.Lists.{elem}
use Rattle.agreement.specs.Calls.Evaluated.{evaluated}
use Rattle.drive_states.specs.Messages.{decided, known_of, message_bytes, longest_message}
use Rattle.runs.specs.World.{Call, opens, sends, delivers, closes, drive_of, nothing_open, put, after_call, on_state, apply, apply_all, is_refused, refused_by, refused_in, active, decision_of}
use Rattle.runs.specs.Scenario.{frame, core_of, gone_before, gone_by, sends_none}
use Rattle.agreement.specs.Sends.{list_of, cut, reach}
use Rattle.runs.specs.Runs.{same_list, is_table, due_opening, opening_part, nothing_yet, is_called, wrote_just, settled, sending_of, sent_by, lacks_room, sender, closer, undelivered, arrived, complete, due, noted, round_part, round_parts, joined}
use Rattle.runs.specs.Statement.{Agreement}
use Rattle.wrong_drives.proofs.Refuting.{number_on, Parts, undecided_refutes, apart_refutes}
use Rattle.wrong_drives.specs.Scenarios.{proposals, pair, half_gone, listened}
use Rattle.wrong_drives.proofs.ValidScenarios.{pair_valid, pair_untouched, pair_up, half_gone_valid, half_gone_untouched, listened_valid, listened_untouched}
use Rattle.wrong_drives.specs.Wrong.{with, decide_own, own_number, own_at_once, open_halted, halts_at_once, listeners_first, core_last, hears_nothing, refuses_all, close_first, first_round_only, close_two, skips_rounds, never_closes}

-- all that a run computes with
unfoldable pub runs : Unit {0}
unfolding evaluated elem drive_of nothing_open put after_call on_state apply apply_all is_refused refused_by refused_in active decision_of frame core_of gone_before gone_by sends_none list_of cut reach same_list is_table due_opening opening_part nothing_yet is_called wrote_just settled sending_of sent_by lacks_room sender closer undelivered arrived complete due noted round_part round_parts joined number_on with listeners_first decide_own open_halted close_first close_two
runs = tt

-- both from one table; for drive 2 it is listed in another order, and with a set that holds another
abbrev openings : List Call
openings = opens 1 2 (1 ∷ 2 ∷ []) 1 7 ∷ opens 2 2 (2 ∷ 3 ∷ 1 ∷ []) 2 5 ∷ []

-- a round in which both send, both are told, and both close
abbrev round_of : List ℕ → List ℕ → List Call
round_of a b = sends 1 longest_message 0 ∷ sends 2 longest_message 0 ∷ delivers 2 a ∷ delivers 1 b ∷ closes 1 ∷ closes 2 ∷ []

abbrev known : ℕ → ℕ → ℕ → List ℕ
known d round mask = message_bytes (record { sender = d; round = round; content = known_of mask proposals })

abbrev decides : ℕ → ℕ → ℕ → List ℕ
decides d round v = message_bytes (record { sender = d; round = round; content = decided v })

-- ---- (a)

own_number_run : Parts own_number pair
unfolding runs
own_number_run = record {
  first = openings;
  rounds = round_of (known 1 1 1) (known 2 1 2) ∷ round_of (decides 1 2 7) (decides 2 2 5) ∷ [];
  many = refl;
  opens_all = refl;
  keeps_rounds = refl;
}

pub own_number_rejected : Agreement own_number → ⊥
unfolding runs own_number_run
own_number_rejected = apart_refutes pair_valid pair_untouched own_number_run 1 2 7 5 (pair_up 1 refl) (pair_up 2 refl) refl refl (λ e. absurd (omega (arith, e)))

own_at_once_run : Parts own_at_once pair
unfolding runs
own_at_once_run = record { first = openings; rounds = round_of (known 1 1 1) (known 2 1 2) ∷ [] ∷ []; many = refl; opens_all = refl; keeps_rounds = refl }

pub own_at_once_rejected : Agreement own_at_once → ⊥
unfolding runs own_at_once_run
own_at_once_rejected = apart_refutes pair_valid pair_untouched own_at_once_run 1 2 7 5 (pair_up 1 refl) (pair_up 2 refl) refl refl (λ e. absurd (omega (arith, e)))

-- ---- (b)

halts_at_once_run : Parts halts_at_once pair
unfolding runs
halts_at_once_run = record { first = openings; rounds = [] ∷ [] ∷ []; many = refl; opens_all = refl; keeps_rounds = refl }

pub halts_at_once_rejected : Agreement halts_at_once → ⊥
unfolding runs halts_at_once_run
halts_at_once_rejected = undecided_refutes pair_valid pair_untouched halts_at_once_run 1 (pair_up 1 refl) refl

-- ---- (c): drive 2 is gone after one send, to the listener, which so knows a number that drive 1 does not

core_last_run : Parts core_last listened
unfolding runs
core_last_run = record {
  first = opens 1 3 (1 ∷ 2 ∷ []) 1 7 ∷ opens 2 3 (1 ∷ 2 ∷ []) 2 5 ∷ opens 3 3 (1 ∷ 2 ∷ []) 3 5 ∷ [];
  rounds = (sends 1 longest_message 0 ∷ sends 2 longest_message 0 ∷ delivers 3 (known 1 1 1) ∷ delivers 3 (known 2 1 2) ∷ closes 1 ∷ closes 3 ∷ [])
      ∷ (sends 1 longest_message 0 ∷ closes 1 ∷ [])
      ∷ [];
  many = refl;
  opens_all = refl;
  keeps_rounds = refl;
}

pub core_last_rejected : Agreement core_last → ⊥
unfolding runs core_last_run
core_last_rejected =
    apart_refutes listened_valid listened_untouched core_last_run 1 3 7 5 (record { in_frame = refl; stay = refl }) (record { in_frame = refl; stay = refl }) refl refl
    (λ e. absurd (omega (arith, e)))

-- ---- (d)

hears_nothing_run : Parts hears_nothing pair
unfolding runs
hears_nothing_run = record {
  first = openings;
  rounds = round_of (known 1 1 1) (known 2 1 2) ∷ round_of (known 1 2 1) (known 2 2 2) ∷ [];
  many = refl;
  opens_all = refl;
  keeps_rounds = refl;
}

pub hears_nothing_rejected : Agreement hears_nothing → ⊥
unfolding runs hears_nothing_run
hears_nothing_rejected = apart_refutes pair_valid pair_untouched hears_nothing_run 1 2 7 5 (pair_up 1 refl) (pair_up 2 refl) refl refl (λ e. absurd (omega (arith, e)))

-- ---- (e)

refuses_all_run : Parts refuses_all pair
unfolding runs
refuses_all_run = record { first = openings; rounds = [] ∷ [] ∷ []; many = refl; opens_all = refl; keeps_rounds = refl }

pub refuses_all_rejected : Agreement refuses_all → ⊥
unfolding runs refuses_all_run
refuses_all_rejected = undecided_refutes pair_valid pair_untouched refuses_all_run 1 (pair_up 1 refl) refl

-- ---- (f) and (g), with drive 2 gone in round 1: drive 1 hears fewer than before and has to close round 2

abbrev alone_rounds : List (List Call)
alone_rounds = (sends 1 longest_message 0 ∷ closes 1 ∷ []) ∷ (sends 1 longest_message 0 ∷ closes 1 ∷ []) ∷ []

first_round_only_run : Parts first_round_only half_gone
unfolding runs
first_round_only_run = record { first = openings; rounds = alone_rounds; many = refl; opens_all = refl; keeps_rounds = refl }

pub first_round_only_rejected : Agreement first_round_only → ⊥
unfolding runs first_round_only_run
first_round_only_rejected = undecided_refutes half_gone_valid half_gone_untouched first_round_only_run 1 (record { in_frame = refl; stay = refl }) refl

skips_rounds_run : Parts skips_rounds half_gone
unfolding runs
skips_rounds_run = record { first = openings; rounds = alone_rounds; many = refl; opens_all = refl; keeps_rounds = refl }

pub skips_rounds_rejected : Agreement skips_rounds → ⊥
unfolding runs skips_rounds_run
skips_rounds_rejected = undecided_refutes half_gone_valid half_gone_untouched skips_rounds_run 1 (record { in_frame = refl; stay = refl }) refl

-- ---- (h)

never_closes_run : Parts never_closes pair
unfolding runs
never_closes_run = record {
  first = openings;
  rounds = round_of (known 1 1 1) (known 2 1 2) ∷ round_of (known 1 1 1) (known 2 1 2) ∷ [];
  many = refl;
  opens_all = refl;
  keeps_rounds = refl;
}

pub never_closes_rejected : Agreement never_closes → ⊥
unfolding runs never_closes_run
never_closes_rejected = undecided_refutes pair_valid pair_untouched never_closes_run 1 (pair_up 1 refl) refl
