-- The search's returns. In the loop over the drives with which it goes on, what is still to be listed, put behind what
-- is there, is the whole, as long as fuel is left.
use mathlib.Core.Path.{◌≡◌, refl, sym, ap, ◌∙◌, subst}
use mathlib.Core.Bool.{Bool, true, false, ◌&&◌}
use mathlib.Core.List.{List, [], ◌∷◌, ◌++◌}
use Prim.Native.Nat.{ℕ, suc, ◌+◌, ◌-◌, ◌*◌, ◌^◌, ◌≤◌, ◌<◌}
use native.Mathlib.Nat.{le_refl}
use native.Mathlib.Omega.{arith}
use lib.Dec.{leb, ltb}
use lib.ListN.{length, get_or, take, drop, set, length-append}
use borrow.Author.Tests.{leb-true, ltb-true, leb-false, ltb-false}
use Rattle.drive_sets.specs.Bools.Laws.{by_test, and_left, and_right, and_not}
use Rattle.drive_sets.specs.Masks.{has, single, union, common, minus, drives}
use Rattle.drive_sets.specs.Masks.Sizes.{drives_none}
use Rattle.drive_sets.specs.Filled.{Filled}
use Rattle.drive_sets.specs.Filled.Laws.{filled_none, filled_one, filled_over, filled_then, filled_same}
use Rattle.survivor_tables.specs.Hitting.{Minimal, for_each}
use Rattle.hitting_sets.specs.declared.search.Tally.{Tally}
use Rattle.hitting_sets.specs.Candidates.{Candidates}
use Rattle.hitting_sets.specs.Fuel.{Searched}
use Rattle.drive_sets.specs.Loops.Drives.{Taken, taken_has, taken_bounds, taken_drives, taken_lt, taken_left}
use Rattle.hitting_sets.specs.Marks.{Tracked}
use Rattle.hitting_sets.proofs.Tracking.{tracked_more}
use Rattle.hitting_sets.proofs.Places.{Met, From, Each, from_end, passed_search}

-- ---- no set is missed: m alone is listed, if there is room

module _ (sets : List ℕ) (m pos : ℕ) (f : Met sets pos m (length sets)) (out : List ℕ) (count : ℕ) (le : count ≤ length out) where
  only : From sets m pos ≡ m ∷ []
  only = passed_search sets m pos (length sets) f ∙ from_end sets m (length sets) (le_refl (length sets))

  filled : Filled out (set out count m) count (count + 1) (From sets m pos)
  filled =
      filled_same only (by_test (ltb count (length out))
      (λ t. filled_one out count m (ltb-true count (length out) t))
      (λ t. filled_over out (set out count m) count (count + 1) (m ∷ []) (omega (arith, ltb-false count (length out) t)) (omega arith)))

  pub end_one : {limited : Bool} {fuel : ℕ} {out' : List ℕ} {found left : ℕ} → found ≡ count + 1 → left ≡ fuel → out' ≡ set out count m
      → Searched limited fuel out out' count found left (From sets m pos)
  end_one p q r = rw (p, q, r) (record {
    bound = omega arith;
    some = omega (arith, ap length only);
    ended = λ _. filled;
    unspent = λ _. refl;
  })

-- ---- a set is missed

-- `rest` is what is left of the drives; `found` are listed so far
pub record Trying (limited : Bool) (fuel : ℕ) (sets : List ℕ) (m i : ℕ) (out₀ out : List ℕ) (count found left rest : ℕ) : Type 0 where
  pub inside : i + 1 ≤ length sets
  pub word : rest < 2 ^ 64
  pub minimal : (d : ℕ) → has d rest ≡ true → Minimal (take (i + 1) sets) (union m (single d))
  pub new : (d : ℕ) → has d rest ≡ true → has d m ≡ false
  pub bound : found ≤ suc (length out)
  pub room : length out ≡ length out₀
  pub some : found + length (Each sets (i + 1) m (drives rest)) ≤ count + length (From sets m i)
  pub whole : 0 < left → (o' : List ℕ) (r : ℕ) → Filled out o' found r (Each sets (i + 1) m (drives rest)) → Filled out₀ o' count r (From sets m i)
  pub unspent : limited ≡ false → left ≡ fuel

pub try_start : {limited : Bool} {sets : List ℕ} {m i : ℕ} (out : List ℕ) {count left rest : ℕ} → i < length sets → Candidates sets i m rest
    → ((d : ℕ) → has d rest ≡ true → has d m ≡ false) → rest < 2 ^ 64 → count ≤ length out → Trying limited left sets m i out out count count left rest
try_start out few c fresh w le = record {
  inside = omega arith;
  word = w;
  minimal = c.minimal;
  new = fresh;
  bound = omega arith;
  room = refl;
  some = omega (arith, ap length c.listed);
  whole = λ _ o' r g. filled_same c.listed g;
  unspent = λ _. refl;
}

module _ {limited : Bool} {fuel : ℕ} {sets : List ℕ} {m i : ℕ} {out₀ out : List ℕ} {count found left rest : ℕ} (y : Trying limited fuel sets m i out₀ out count found left rest) where
  -- t is m with the lowest drive, and `next` has the others
  module _ {d next : ℕ} (w : Taken rest d next) (t : ℕ) (q : t ≡ union m (single d)) where
    pub try_minimal : Minimal (take (i + 1) sets) t
    try_minimal = subst (Minimal (take (i + 1) sets)) (sym q) (y.minimal d (taken_has w))

    -- the marks once the drive is added
    pub try_tracked : m < 2 ^ 64 → {n : ℕ} {columns missed once : List ℕ} → Tracked n columns sets m missed once → (column : List ℕ) → column ≡ drop (16 * (d - 1)) columns
        → (left alone : List ℕ) → n ≤ length left → n ≤ length alone
        → ((i : ℕ) → i < n → get_or left i 0 ≡ minus (get_or missed i 0) (get_or column i 0))
        → ((i : ℕ) → i < n → get_or alone i 0 ≡ union (minus (get_or once i 0) (get_or column i 0)) (common (get_or missed i 0) (get_or column i 0)))
        → Tracked n columns sets t left alone
    try_tracked m_lt k column e left alone room room' l r =
        let b = taken_bounds w in tracked_more k d b.0 b.1 m_lt (y.new d (taken_has w)) column e left alone room room' l r t q

    lists : Each sets (i + 1) m (drives rest) ≡ From sets t (i + 1) ++ Each sets (i + 1) m (drives next)
    unfolding for_each
    lists = ap (Each sets (i + 1) m) (taken_drives w) ∙ ap (λ (x : ℕ). From sets x (i + 1) ++ Each sets (i + 1) m (drives next)) (sym q)

    try_on : 0 < left → {o : List ℕ} {found' left' : ℕ} → Searched limited left out o found found' left' (From sets t (i + 1)) → length o ≡ length out
        → Trying limited fuel sets m i out₀ o count found' left' next
    try_on lt {o} {found'} {left'} s l = record {
      inside = y.inside;
      word = taken_lt w 64 y.word;
      minimal = λ e h. y.minimal e (taken_left w e h);
      new = λ e h. y.new e (taken_left w e h);
      bound = omega (arith, s.bound);
      room = l ∙ y.room;
      some = omega (arith, y.some, s.some, ap length lists, length-append (From sets t (i + 1)) (Each sets (i + 1) m (drives next)));
      whole = λ lt' o' r h. y.whole lt o' r (filled_same lists (filled_then out o o' found found' r (From sets t (i + 1)) (Each sets (i + 1) m (drives next)) l (s.ended lt') h));
      unspent = λ e. s.unspent e ∙ y.unspent e;
    }

    -- the same for the lists and tallies that the arms of a match leave
    pub try_next : 0 < left → {o o' : List ℕ} (r : Tally) {r' : Tally} → Searched limited left out o found r.found r.left (From sets t (i + 1)) → length o ≡ length out → o' ≡ o → r' ≡ r
        → Trying limited fuel sets m i out₀ o' count r'.found r'.left next
    try_next lt {o} {o'} r s l e f =
        subst (λ (k : Tally). Trying limited fuel sets m i out₀ o' count k.found k.left next) (sym f)
        (subst (λ (k : List ℕ). Trying limited fuel sets m i out₀ k count r.found r.left next) (sym e) (try_on lt s l))

  -- the search stops with what is found: all of it if the fuel is not used up
  module _ (all : 0 < left → Filled out₀ out count found (From sets m i)) where
    stop : Searched limited fuel out₀ out count found left (From sets m i)
    stop = record {
      bound = omega (arith, y.bound, y.room);
      some = omega (arith, y.some);
      ended = all;
      unspent = y.unspent;
    }

  pub try_end : rest ≡ 0 → Searched limited fuel out₀ out count found left (From sets m i)
  unfolding for_each
  try_end e = stop (λ lt. y.whole lt out found (filled_same (ap (Each sets (i + 1) m) (ap drives e ∙ drives_none)) (filled_none out found y.bound)))

  -- the fuel is used up, or there is no more room
  pub try_stop : {b : Bool} → b ≡ (leb found (length out₀) && ltb 0 left) → b ≡ false → Searched limited fuel out₀ out count found left (From sets m i)
  try_stop e f =
      stop (λ lt. by_test (leb found (length out₀))
      (λ t. absurd (omega (arith, ltb-false 0 left (and_not (leb found (length out₀)) (ltb 0 left) t (sym e ∙ f)))))
      (λ t. let over = leb-false found (length out₀) t in
      y.whole lt out found (filled_over out out found found (Each sets (i + 1) m (drives rest)) (omega (arith, y.bound, y.room)) (omega arith))))

  pub try_fuel : {b : Bool} → b ≡ (leb found (length out₀) && ltb 0 left) → b ≡ true → (found ≤ length out) × (0 < left)
  try_fuel e f =
      let both = sym e ∙ f in (
        omega (arith, leb-true found (length out₀) (and_left (leb found (length out₀)) (ltb 0 left) both), y.room),
        ltb-true 0 left (and_right (leb found (length out₀)) (ltb 0 left) both),
      )

-- ---- what the whole search began with

pub searched_from : {limited : Bool} {fuel fuel₀ : ℕ} {out out' : List ℕ} {count count₀ found left : ℕ} {l : List ℕ} → count₀ ≡ count → (limited ≡ false → fuel₀ ≡ fuel)
    → Searched limited fuel₀ out out' count₀ found left l → Searched limited fuel out out' count found left l
searched_from {limited} {fuel} {out = out} {out' = out'} {found = found} {left = left} {l = l} e f s =
    subst (λ (k : ℕ). Searched limited fuel out out' k found left l) e (record {
      bound = s.bound;
      some = s.some;
      ended = s.ended;
      unspent = λ u. s.unspent u ∙ f u;
    })

-- from a place on, by what is listed from a later place on, the sets up to which are met
pub searched_passed : {limited : Bool} {fuel : ℕ} {out out' : List ℕ} {count found left : ℕ} (sets : List ℕ) (m pos next : ℕ) → Met sets pos m next
    → Searched limited fuel out out' count found left (From sets m next) → Searched limited fuel out out' count found left (From sets m pos)
searched_passed {limited} {fuel} {out} {out'} {count} {found} {left} sets m pos next f =
    subst (Searched limited fuel out out' count found left) (sym (passed_search sets m pos next f))
