-- Drives that crash in turn: which of them crash, in which rounds and with how many sends.
use mathlib.Core.Path.{◌≡◌, refl, ap, ◌∙◌}
use mathlib.Core.Bool.{true, false, cond}
use mathlib.Core.List.{List, [], ◌∷◌}
use Prim.Native.Nat.{ℕ, zero, suc, ◌+◌, ◌≤◌, ◌<◌}
use native.Mathlib.Omega.{arith}
use lib.Dec.{eqb}
use lib.ListN.{length, get_or}
use borrow.Author.Tests.{eq-eqb, ne_eqb}
use Rattle.drive_sets.specs.Bools.Laws.{clash, by_test}
use Rattle.drive_sets.specs.Lists.{any, elem, distinct}
use Rattle.drive_sets.specs.Lists.Distinct.{distinct_head, distinct_tail}
use Rattle.drive_sets.specs.Lists.Places.{get_or_elem}
use Rattle.runs.specs.Scenario.{Crash, stays, crashes, has_crash}
use Rattle.runs.specs.Scenario.Laws.{stays_crashes, no_crash_stays}

-- the drives of the list crash one after the other, the first in round r, each before it makes any send
unfoldable pub in_turn : ℕ → List ℕ → ℕ → Crash
in_turn r [] d = stays
in_turn r (x ∷ l) d =
    let later = in_turn (suc r) l d in
    cond (eqb d x) (crashes r 0) later

-- the drives of the list crash, and no other
pub turn_crashes : (r : ℕ) (l : List ℕ) (d : ℕ) → has_crash (in_turn r l d) ≡ elem d l
unfolding in_turn has_crash elem any
turn_crashes r [] d = refl
turn_crashes r (x ∷ l) d = by_test (eqb d x) (λ t. rw t refl) (λ t. rw t (turn_crashes (suc r) l d))

pub turn_stays : (r : ℕ) (l : List ℕ) (d : ℕ) → elem d l ≡ false → in_turn r l d ≡ stays
turn_stays r l d h = no_crash_stays (in_turn r l d) (turn_crashes r l d ∙ h)

-- in the rounds r, r + 1, .., with no sends
pub record Turn (r many q m : ℕ) : Type 0 where
  pub from : r ≤ q
  pub up_to : q < r + many
  pub none : m ≡ 0

pub turn_round : (r : ℕ) (l : List ℕ) (d q m : ℕ) → in_turn r l d ≡ crashes q m → Turn r (length l) q m
unfolding in_turn
turn_round r [] d q m h = absurd (stays_crashes h)
turn_round r (x ∷ l) d q m h =
    by_test (eqb d x)
    (λ t. let e = rw t at h in
    let is : r ≡ q = cc in
    record { from = omega arith; up_to = omega arith; none = cc })
    (λ t. let rest = turn_round (suc r) l d q m (rw t at h) in
    record { from = omega (arith, rest.from); up_to = omega (arith, rest.up_to); none = rest.none })

-- the drive at place k crashes in round r + k
pub turn_at : (r : ℕ) (l : List ℕ) (k : ℕ) → distinct l ≡ true → k < length l → in_turn r l (get_or l k 0) ≡ crashes (r + k) 0
unfolding in_turn
turn_at r [] k o h = absurd (omega arith)
turn_at r (x ∷ l) zero o h = rw (eq-eqb x x refl) (ap (λ (q : ℕ). crashes q 0) (omega arith))
turn_at r (x ∷ l) (suc k) o h =
    rw (ne_eqb (get_or l k 0) x (λ e. clash (rw e at (get_or_elem l k (omega arith))) (distinct_head x l o)))
    (turn_at (suc r) l k (distinct_tail x l o) (omega arith) ∙ ap (λ (q : ℕ). crashes q 0) (omega arith))
