-- The list of a state is that by which the runs of a scenario send: an opening from the scenario's table gives it, and
-- messages and closes keep it. No refusal has the number 0.
use Rattle.std.specs.Prelude.{◌≡◌, refl, not, List, ℕ, eqb}
use Rattle.std.proofs.Common.{sym, ap, ◌∙◌}
use Rattle.drive_sets.specs.declared.Refusal.TheVariants.{DriveNumber, AlreadyAccepted, OutsideCore, Halted, SenderMissing, PatternDiffers, OtherRound, BrokenState}
use Rattle.drive_sets.specs.Counts.{is_drive}
use Rattle.drive_sets.specs.Lists.{range}
use Rattle.drive_sets.specs.Lent.Laws.{fitting_numbered}
use Rattle.drive_sets.specs.Masks.{has}
use Rattle.drive_sets.specs.Refusals.{yields}
use Rattle.drive_sets.specs.Refusals.Laws.{same_result, passed, first_result}
use Rattle.drive_sets.specs.Refusals.Numbered.{Numbered, if_numbered}
use Rattle.survivor_tables.specs.Tables.{chosen, normal_table}
use Rattle.survivor_tables.proofs.Tables.Laws.{table_accepted}
use Rattle.drive_states.specs.declared.Exchange.{Exchange}
use Rattle.drive_states.specs.State.{in_core, broken}
use Rattle.drive_states.specs.Messages.{entries_in, read_message}
use Rattle.runs.specs.Scenario.{Scenario, frame, core_of}
use Rattle.agreement.specs.Calls.{initial, opening, outside_core, any_differs, accept, admitting, receiving, next, closing}
use Rattle.agreement.specs.Sends.{receivers, list_of}
use Rattle.controller.specs.Receivers.{list_in, send_list}

-- ---- the scenario's list

pub opened_list : (s : Scenario) (own number : ℕ) {x : Exchange} → opening s.n s.sets own number ≡ yields x → list_in x ≡ list_of s own
unfolding opening initial list_of frame core_of
opened_list s own number e =
    let first = first_result (normal_table s.n s.sets) _ e in
    let table = table_accepted s.n s.sets first.0 first.1 in
    let given = same_result (passed (not (is_drive s.n own)) DriveNumber _ first.2).1 in
    sym (ap list_in given) ∙ ap (λ (t : List ℕ). receivers (range 1 s.n) (chosen t) own) table.1

pub received_list : (x : Exchange) (bytes : List ℕ) {y : Exchange} → receiving x bytes ≡ yields y → list_in y ≡ list_in x
unfolding receiving admitting accept
received_list x bytes e =
    let awake = (passed x.halted Halted _ (passed (broken x) BrokenState _ e).1).1 in
    let read = first_result (read_message x.n bytes) (admitting x) awake in
    let m = read.0 in
    let inside = (passed (outside_core x m) OutsideCore _ read.2).1 in
    let now = (passed (not (eqb m.round x.round.0)) OtherRound _ inside).1 in
    let there = (passed (not (has m.sender x.before)) SenderMissing _ now).1 in
    let fresh = (passed (has m.sender x.heard) AlreadyAccepted _ there).1 in
    sym (ap list_in (same_result (passed (any_differs x (entries_in m.content)) PatternDiffers _ fresh).1))

pub closed_list : (x : Exchange) {y : Exchange} → closing x ≡ yields y → list_in y ≡ list_in x
unfolding closing next
closed_list x e = sym (ap list_in (same_result (passed x.halted Halted _ (passed (broken x) BrokenState _ e).1).1))

-- ---- the refusals

pub list_numbered : (x : Exchange) (room : ℕ) → Numbered (send_list x room)
unfolding send_list
list_numbered x room =
    if_numbered (broken x) 28 refl
    (if_numbered x.halted 23 refl
    (if_numbered (not (in_core x)) 27 refl
    (fitting_numbered 0 room (list_in x))))
