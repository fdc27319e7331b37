-- Tight is false of the drives that refuse every call: none of them is ever open, so none decides. And of those that
-- decide their own number in round 1: none is ever in round 2.
use mathlib.Core.Path.{◌≡◌, refl, sym, ap, ◌∙◌}
use mathlib.Core.List.{List}
use Prim.Native.Nat.{ℕ, suc, ◌≤◌}
use native.Mathlib.Omega.{arith}
use Rattle.drive_sets.specs.Refusals.Laws.{refused_no_result, same_result}
use Rattle.drive_states.specs.declared.Exchange.{Exchange}
use Rattle.agreement.specs.Calls.{initial}
use Rattle.agreement.proofs.CallLaws.{opened_initial}
use Rattle.runs.specs.World.{Call, Slot, unopened, World, nothing_open, apply_all, round_in}
use Rattle.runs.specs.World.Laws.{Gives, by_opening, by_message, by_close, call_keeps, calls_filter}
use Rattle.runs.specs.Statement.{Tight}
use Rattle.wrong_drives.specs.Scenarios.{proposals, pair}
use Rattle.wrong_drives.proofs.ValidScenarios.{pair_valid, core_two}
use Rattle.wrong_drives.specs.Wrong.{with, refuses_all, own_at_once}

abbrev Shut : Slot → Type 0
Shut slot = slot ≡ unopened

nothing_given : {w : World} {d : ℕ} {c : Call} {y : Exchange} → Gives refuses_all w d c y → ⊥
nothing_given (by_opening q) = refused_no_result q
nothing_given (by_message there q) = refused_no_result q
nothing_given (by_close there q) = refused_no_result q

never_open : (cs : List Call) (d : ℕ) → Shut (apply_all refuses_all nothing_open cs d)
unfolding nothing_open
never_open cs d =
    calls_filter refuses_all (λ w. Shut (w d)) (λ w c h. call_keeps refuses_all Shut w c d h (λ y g. absurd (nothing_given g))) nothing_open cs refl

in_no_round : (cs : List Call) (d : ℕ) → round_in (apply_all refuses_all nothing_open cs d) ≡ 0
unfolding round_in
in_no_round cs d = ap round_in (never_open cs d)

pub refuses_all_not_tight : Tight refuses_all → ⊥
unfolding Tight
refuses_all_not_tight t =
    let r = t 2 pair.sets pair_valid.accepted proposals pair_valid.patterns 0 (omega (arith, core_two)) in
    let h = sym (in_no_round _ r.drive) ∙ r.decides.in_round in
    absurd (omega (arith, h))

-- ---- deciding in round 1

abbrev Low : Slot → Type 0
Low slot = round_in slot ≤ 1

given_low : {w : World} {d : ℕ} {c : Call} {y : Exchange} → Gives own_at_once w d c y → Low (w d) → y.round.0 ≤ 1
unfolding initial with round_in
given_low (by_opening {n} {sets} {own} {number} q) h = omega (arith, ap (λ (z : Exchange). z.round.0) (opened_initial n sets own number q).1)
given_low (by_message there q) h = omega (arith, ap round_in there, ap (λ (z : Exchange). z.round.0) (same_result q))
given_low (by_close there q) h = omega (arith, ap (λ (z : Exchange). z.round.0) (same_result q))

never_second : (cs : List Call) (d : ℕ) → round_in (apply_all own_at_once nothing_open cs d) ≡ 2 → ⊥
unfolding nothing_open round_in
never_second cs d e =
    let h = calls_filter own_at_once (λ w. Low (w d)) (λ w c h. call_keeps own_at_once Low w c d h (λ y g. given_low g h)) nothing_open cs (omega arith) in
    absurd (omega (arith, h, e))

pub own_at_once_not_tight : Tight own_at_once → ⊥
unfolding Tight
own_at_once_not_tight t =
    let r = t 2 pair.sets pair_valid.accepted proposals pair_valid.patterns 1 (omega (arith, core_two)) in
    never_second _ r.drive (r.decides.in_round ∙ ap suc r.many)
