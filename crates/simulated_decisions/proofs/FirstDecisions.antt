-- The first decisions: nothing found, and the loop over the drives after a round.
use Rattle.std.specs.Prelude.{Option, None}
use mathlib.Core.Path.{◌≡◌, refl, sym, ap, ◌∙◌, subst}
use mathlib.Core.Bool.{Bool, true, false}
use mathlib.Core.List.{List}
use Prim.Native.Nat.{ℕ, zero, suc, ◌+◌, ◌-◌, ◌≤◌, ◌<◌}
use native.Mathlib.Omega.{arith}
use lib.Dec.{eqb}
use Rattle.std.specs.Bool.{MatchBool}
use Rattle.std.specs.List.{AllWithin}
use lib.ListN.{length, get_or, set, replicate, take, length-set, length-take}
use lib.Seq.{get_or-set_same, get_or-set_other, get_or-take}
use borrow.Author.Tests.{eqb-true, eqb-false}
use Rattle.drive_sets.specs.Bools.Laws.{by_test, clash}
use Rattle.drive_states.specs.declared.Exchange.{Exchange}
use Rattle.drive_states.specs.declared.Decision.{Decision}
use Rattle.drive_sets.specs.Counts.{is_drive}
use Rattle.drive_sets.specs.Counts.Laws.{drive_bounds}
use Rattle.agreement.specs.RoundEndings.{Ending, undecided}
use Rattle.agreement.specs.Canonical.{ending_on}
use Rattle.simulated_sends.specs.States.{blank, state_at}
use Rattle.simulated_decisions.specs.declared.noting.First.{First}
use Rattle.simulated_decisions.specs.Endings.{ending_by, first_of, found_of, nothing_found, or_later}

-- ---- nothing found

module _ {A : Type 0} where
  pub same_at : (k j : ℕ) (a : A) → get_or (replicate k a) j a ≡ a
  same_at zero j a = refl
  same_at (suc k) zero a = refl
  same_at (suc k) (suc j) a = same_at k j a

pub nothing_found_law : (d : ℕ) → found_of nothing_found d ≡ undecided
unfolding found_of first_of ending_by
nothing_found_law d = ap ending_by (same_at 64 (d - 1) None)

-- ---- the loop

module _ (found₀ : List (Option First)) (states : List Exchange) (r : ℕ) where
  -- how the drive at a place ends, with its decision after the round
  abbrev after : ℕ → Decision → Ending
  after place decision = or_later (ending_by (get_or found₀ place None)) (ending_on decision r undecided)

  -- the drives 1 to i have been noted
  pub record Noting (found : List (Option First)) (i : ℕ) : Type 0 where
    pub long : length found ≡ 64
    pub below : (j : ℕ) → j < i → ending_by (get_or found j None) ≡ after j (get_or states j blank).decision
    pub above : (j : ℕ) → i ≤ j → get_or found j None ≡ get_or found₀ j None

  pub note_start : length found₀ ≡ 64 → Noting found₀ 0
  note_start long = record { long = long; below = λ j h. absurd (omega (arith, h)); above = λ j h. refl }

  pub note_turn : (found : List (Option First)) (i : ℕ) (first : Option First) → Noting found i → i < 64
      → ending_by first ≡ or_later (ending_by (get_or found i None)) (ending_on (get_or states i blank).decision r undecided)
      → Noting (set found i first) (i + 1)
  note_turn found i first g h e = record {
    long = length-set found i first ∙ g.long;
    below = below;
    above = λ j a. get_or-set_other found i j first None (λ z. absurd (omega (arith, a, z))) ∙ g.above j (omega (arith, a));
  }
    where
      here : ending_by (get_or (set found i first) i None) ≡ after i (get_or states i blank).decision
      here =
          ap ending_by (get_or-set_same found i first None (omega (arith, h, g.long)))
          ∙ (e ∙ ap (λ (x : Option First). or_later (ending_by x) (ending_on (get_or states i blank).decision r undecided)) (g.above i (omega arith)))

      below : (j : ℕ) → j < i + 1 → ending_by (get_or (set found i first) j None) ≡ after j (get_or states j blank).decision
      below j l =
          by_test (eqb j i)
          (λ t. subst (λ (k : ℕ). ending_by (get_or (set found i first) k None) ≡ after k (get_or states k blank).decision) (sym (eqb-true j i t)) here)
          (λ t. let other = eqb-false j i t in
          ap ending_by (get_or-set_other found i j first None other) ∙ g.below j (omega (arith, l, other)))

  pub note_end : (n : ℕ) (found : List (Option First)) (i : ℕ) → Noting found i → n ≤ i → (d : ℕ) → is_drive n d ≡ true
      → found_of found d ≡ or_later (found_of found₀ d) (ending_on (state_at states d).decision r undecided)
  unfolding found_of first_of state_at
  note_end n found i g h d t = let b = drive_bounds n d t in g.below (d - 1) (omega (arith, b.0, b.1, h))

-- ---- all have decided

abbrev pub Decided : Option First → Type 0
Decided first = first ≡ None → ⊥

pub all_have_decided : (n : ℕ) (found : List (Option First)) (other : Type 0) (r : Bool) → MatchBool r (AllWithin Decided (take n found) 0 (length (take n found))) other
    → n ≤ length found → r ≡ true → (d : ℕ) → is_drive n d ≡ true → first_of found d ≡ None → ⊥
unfolding first_of
all_have_decided n found other true h long e d t z =
    let b = drive_bounds n d t in
    h (d - 1) None (omega arith) (omega (arith, length-take n found, long, b.0, b.1)) (get_or-take n found (d - 1) None (omega (arith, b.0, b.1)) ∙ z)
all_have_decided n found other false h long e d t z = absurd (clash e refl)
