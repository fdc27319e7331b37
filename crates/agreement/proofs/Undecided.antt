-- A drive is undecided exactly if its closes so far left it undecided: only a close decides, and in a run nothing
-- undoes a decision.
use mathlib.Core.Path.{◌≡◌, refl, sym, ap, ◌∙◌, subst}
use mathlib.Core.Bool.{Bool, true, false, not, ◌||◌, cond}
use mathlib.Core.Logic.{⊎_elim}
use mathlib.Core.List.{List, [], ◌∷◌, ◌++◌, append_assoc}
use Prim.Native.Nat.{ℕ, zero, suc}
use lib.ListN.{take, drop, get_or}
use borrow.Author.Tests.{eq-eqb, not-true}
use Rattle.drive_sets.specs.Bools.Laws.{clash, by_test, and_intro, and_left, and_right, or_second, or_cases, or_right, false_of}
use Rattle.drive_sets.specs.Refusals.{yields}
use Rattle.drive_states.specs.declared.Exchange.{Exchange}
use Rattle.drive_states.specs.declared.Announcement.{Announcement}
use Rattle.drive_states.specs.declared.Decision.{Decision}
use Rattle.drive_states.specs.declared.Decision.TheVariants.{Undecided, Decided}
use Rattle.drive_states.specs.State.{is_decided}
use Rattle.agreement.specs.Calls.{initial, receiving, accept, decide, decision_after, next}
use Rattle.agreement.proofs.CallLaws.{opened_initial, closed_next, received}
use Rattle.runs.specs.World.{Call, opens, drive_of, Slot, opened, World, nothing_open, decision_of}
use Rattle.agreement.specs.Document01.{document01, apply, apply_all, refused_in, opening_part, due, round_part, round_parts, Run, leave_undecided}
use Rattle.runs.specs.World as worlds
use Rattle.runs.specs.World.Laws.{Gives, by_opening, by_message, by_close, call_keeps, refused_keeps}
use Rattle.runs.specs.Scenario.{Scenario}
use Rattle.runs.specs.Runs.{due_opening, RoundProgress, nothing_yet, joined}
use Rattle.runs.specs.Runs as any_runs
use Rattle.runs.specs.Runs.Laws.{due_opens, done_after, NotYet, not_yet}
use Rattle.runs.specs.Statement.{is_close_of, part_at, calls_before}
use Rattle.runs.specs.Statement as statements

abbrev pub NotDecided : Slot → Type 0
NotDecided slot = decision_of slot ≡ Undecided

abbrev HasDecided : Slot → Type 0
HasDecided slot = is_decided (decision_of slot) ≡ true

undecided_is : (o : Decision) → is_decided o ≡ false → o ≡ Undecided
unfolding is_decided
undecided_is Undecided h = refl
undecided_is (Decided v) h = absurd (clash refl h)

message_same : {slot : Slot} {x y : Exchange} (bytes : List ℕ) → slot ≡ opened x → receiving x bytes ≡ yields y → y.decision ≡ decision_of slot
unfolding accept decision_of
message_same {x = x} bytes there q = ap (λ (z : Exchange). z.decision) (received x bytes q).2 ∙ sym (ap decision_of there)

-- ---- only a close decides

module _ (d : ℕ) where
  given_undecided : {w : World} {c : Call} {y : Exchange} → Gives document01 w d c y → is_close_of d c ≡ false → NotDecided (w d) → y.decision ≡ Undecided
  unfolding is_close_of initial
  given_undecided (by_opening {n} {sets} {own} {number} q) i h = ap (λ (z : Exchange). z.decision) (opened_initial n sets own number q).1
  given_undecided (by_message {bytes = bytes} there q) i h = message_same bytes there q ∙ h
  given_undecided (by_close there q) i h = absurd (clash (eq-eqb d d refl) i)

  step_undecided : (w : World) (c : Call) → NotDecided (w d) → (not (is_close_of d c) || not (is_decided (decision_of (apply w c d)))) ≡ true → NotDecided (apply w c d)
  unfolding decision_of
  step_undecided w c h t =
      by_test (is_close_of d c)
      (λ i. undecided_is _ (not-true _ (or_second _ _ (ap not i) ∙ t)))
      (λ i. call_keeps document01 NotDecided w c d h (λ y g. given_undecided g i h))

  undecided_now : (w : World) (calls : List Call) → NotDecided (w d) → leave_undecided d w calls ≡ true → NotDecided (apply_all w calls d)
  unfolding statements.leave_undecided worlds.apply_all
  undecided_now w [] h t = h
  undecided_now w (c ∷ cs) h t =
      let first = not (is_close_of d c) || not (is_decided (decision_of (apply w c d))) in
      undecided_now (apply w c) cs (step_undecided w c h (and_left first _ t)) (and_right first _ t)

  -- the closes so far left the drive undecided, so it is undecided
  pub undecided_so_far : (calls : List Call) → leave_undecided d nothing_open calls ≡ true → NotDecided (apply_all nothing_open calls d)
  unfolding nothing_open decision_of
  undecided_so_far calls t = undecided_now nothing_open calls refl t

-- ---- nothing undoes a decision

-- no call of the list does
abbrev Lasting : World → List Call → Type 0
Lasting w [] = Unit {0}
Lasting w (c ∷ cs) = ((d : ℕ) → HasDecided (w d) → HasDecided (apply w c d)) × Lasting (apply w c) cs

lasting_append : (w : World) (a b : List Call) → Lasting w a → Lasting (apply_all w a) b → Lasting w (a ++ b)
unfolding worlds.apply_all
lasting_append w [] b p q = q
lasting_append w (c ∷ a) b p q = (p.0, lasting_append (apply w c) a b p.1 q)

lasting_before : (w : World) (a b : List Call) → Lasting w (a ++ b) → Lasting w a
lasting_before w [] b p = tt
lasting_before w (c ∷ a) b p = (p.0, lasting_before (apply w c) a b p.1)

decide_keeps : (x : Exchange) (decision : Decision) (announced : Announcement) → is_decided decision ≡ true → is_decided (decide x decision announced) ≡ true
unfolding is_decided decide
decide_keeps x Undecided announced h = absurd (clash h refl)
decide_keeps x (Decided v) announced h = refl

-- a call that opens no decided drive undoes no decision
given_decided : {w : World} {c : Call} {d : ℕ} {y : Exchange} → Gives document01 w d c y
    → ((n : ℕ) (sets : List ℕ) (own number : ℕ) → c ≡ opens d n sets own number → ⊥) → HasDecided (w d) → is_decided y.decision ≡ true
unfolding next decision_after decision_of
given_decided (by_opening {n} {sets} {own} {number} q) none h = absurd (none n sets own number refl)
given_decided (by_message {bytes = bytes} there q) none h = ap is_decided (message_same bytes there q) ∙ h
given_decided (by_close {x} there q) none h =
    ap (λ (z : Exchange). is_decided z.decision) (closed_next x q)
    ∙ decide_keeps x x.decision x.announced (sym (ap (λ (z : Slot). is_decided (decision_of z)) there) ∙ h)

call_lasts : (w : World) (c : Call) (is_due : Bool) → (is_due || refused_in w c) ≡ true
    → (is_due ≡ true → (d n : ℕ) (sets : List ℕ) (own number : ℕ) → HasDecided (w d) → c ≡ opens d n sets own number → ⊥)
    → (d : ℕ) → HasDecided (w d) → HasDecided (apply w c d)
unfolding decision_of
call_lasts w c is_due t none d h =
    ⊎_elim
    (λ i. call_keeps document01 HasDecided w c d h (λ y g. given_decided g (λ n sets own number. none i d n sets own number h) h))
    (λ r. ap (λ (z : Slot). is_decided (decision_of z)) (refused_keeps document01 w c r d) ∙ h)
    (or_cases is_due (refused_in w c) t)

module _ (s : Scenario) where
  round_lasts : (r : ℕ) (w₀ : World) (b : RoundProgress) (w : World) (cs : List Call) → round_part s r w₀ b w cs ≡ true → Lasting w cs
  unfolding any_runs.round_part any_runs.due
  round_lasts r w₀ b w [] t = tt
  round_lasts r w₀ b w (c ∷ cs) t =
      let now = due s r w₀ b w c || refused_in w c in (
        call_lasts w c (due s r w₀ b w c) (and_left now _ t) (λ i d n sets own number h is. clash (sym (ap (due s r w₀ b w) is) ∙ i) refl),
        round_lasts r w₀ (cond (due s r w₀ b w c) (any_runs.noted document01 s r w₀ b w c) b) (apply w c) cs (and_right now _ t),
      )

  rounds_last : (r : ℕ) (w : World) (ps : List (List Call)) → round_parts s r w ps ≡ true → Lasting w (joined ps)
  unfolding any_runs.round_parts joined
  rounds_last r w [] t = tt
  rounds_last r w (p ∷ ps) t =
      let now = round_part s r w nothing_yet w p in
      lasting_append w p (joined ps) (round_lasts r w nothing_yet w p (and_left now _ t)) (rounds_last (suc r) (apply_all w p) ps (and_right now _ t))

  opening_lasts : (done : ℕ → Bool) (w : World) (cs : List Call) → NotYet done w → opening_part s done w cs ≡ true → Lasting w cs
  unfolding any_runs.opening_part decision_of is_decided drive_of
  opening_lasts done w [] none t = tt
  opening_lasts done w (c ∷ cs) none t =
      let now = due_opening s done c || refused_in w c in (
        call_lasts w c (due_opening s done c) (and_left now _ t) (λ i d n sets own number h is.
            let o = due_opens s done c i in
            clash (sym (ap (λ (z : Slot). is_decided (decision_of z)) (none d (ap done (sym (ap drive_of is)) ∙ o.new))) ∙ h) refl),
        opening_lasts (done_after s done c) (apply w c) cs (not_yet document01 s done w c none (and_left now _ t)) (and_right now _ t),
      )

run_lasts : {s : Scenario} {calls : List Call} → Run s calls → Lasting nothing_open calls
unfolding nothing_open
run_lasts {s} run =
    subst (Lasting nothing_open) (sym run.whole)
    (lasting_append nothing_open run.first (joined run.rounds) (opening_lasts s (λ d. false) nothing_open run.first (λ d h. refl) run.opens_all)
    (rounds_last s 1 (apply_all nothing_open run.first) run.rounds run.keeps_rounds))

module _ (d : ℕ) where
  stays_decided : (w : World) (calls : List Call) → Lasting w calls → HasDecided (w d) → HasDecided (apply_all w calls d)
  unfolding worlds.apply_all
  stays_decided w [] t h = h
  stays_decided w (c ∷ cs) t h = stays_decided (apply w c) cs t.1 (t.0 d h)

  -- the drive is undecided, so the closes so far left it so
  left_undecided : (w : World) (calls : List Call) → Lasting w calls → NotDecided (apply_all w calls d) → leave_undecided d w calls ≡ true
  unfolding statements.leave_undecided worlds.apply_all is_decided
  left_undecided w [] t h = refl
  left_undecided w (c ∷ cs) t h =
      and_intro
      (or_right (not (is_close_of d c)) (ap not (false_of _ (λ decided. clash (stays_decided (apply w c) cs t.1 decided) (ap is_decided h)))))
      (left_undecided (apply w c) cs t.1 h)

-- ---- in a run

joined_at : (ps : List (List Call)) (k : ℕ) → joined ps ≡ joined (take k ps) ++ (get_or ps k [] ++ joined (drop (suc k) ps))
unfolding joined
joined_at [] zero = refl
joined_at [] (suc k) = refl
joined_at (p ∷ ps) zero = refl
joined_at (p ∷ ps) (suc k) = ap (λ (l : List Call). p ++ l) (joined_at ps k) ∙ simp append_assoc

module _ {s : Scenario} {calls : List Call} (run : Run s calls) (k : ℕ) (a b : List Call) (split : part_at run k ≡ a ++ b) where
  -- the list, taken apart within the part of round k + 1
  calls_split : calls ≡ (calls_before run k ++ a) ++ (b ++ joined (drop (suc k) run.rounds))
  unfolding calls_before part_at
  calls_split = run.whole ∙ rw (joined_at run.rounds k, split) (simp append_assoc)

  pub undecided_before : (d : ℕ) → decision_of (apply_all nothing_open (calls_before run k ++ a) d) ≡ Undecided
      → leave_undecided d nothing_open (calls_before run k ++ a) ≡ true
  undecided_before d h =
      left_undecided d nothing_open (calls_before run k ++ a)
      (lasting_before nothing_open (calls_before run k ++ a) (b ++ joined (drop (suc k) run.rounds)) (subst (Lasting nothing_open) calls_split (run_lasts run))) h
