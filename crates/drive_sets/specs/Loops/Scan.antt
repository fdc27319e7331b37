-- A list gone through from the front, `while i < l.len() { .. i += 1 }`: what f makes of the rest is the whole. A turn
-- may change f, as where the loop gathers something; a loop that returns early has found the whole. Tests of all and of
-- some elements, and the first that fails one, are cases of it.
use Rattle.std.specs.Prelude.{◌≡◌, refl, Bool, true, false, ◌&&◌, ◌||◌, List, [], ◌∷◌, ℕ, ◌+◌, ◌≤◌, ◌<◌, length, get_or, drop, None, Some}
use Rattle.std.proofs.Math.Path.{sym}
use Rattle.std.proofs.Common.{ap, ◌∙◌, add-one, drop_of_length-le, drop-cons}
use Rattle.drive_sets.specs.Lists.{all, any, first_failing}
use Rattle.drive_sets.specs.Lists.FirstFailing.{failing_later, failing_here}
use Rattle.drive_sets.specs.Positions.{Position}

-- the next element in front of the rest
pub drop_next : (l : List ℕ) (i : ℕ) → i < length l → drop i l ≡ get_or l i 0 ∷ drop (i + 1) l
drop_next l i h = drop-cons l i 0 h ∙ ap (λ (k : ℕ). get_or l i 0 ∷ drop k l) (sym (add-one i))

pub record Scan {A : Type 0} (whole : A) (f : List ℕ → A) (l : List ℕ) (i : ℕ) : Type 0 where
  pub rest : f (drop i l) ≡ whole

pub scan_from : {A : Type 0} (f : List ℕ → A) (l : List ℕ) (i : ℕ) → Scan (f (drop i l)) f l i
scan_from f l i = record { rest = refl }

pub scan_start : {A : Type 0} (f : List ℕ → A) (l : List ℕ) → Scan (f l) f l 0
scan_start f l = scan_from f l 0

module _ {A : Type 0} {whole : A} {f : List ℕ → A} {l : List ℕ} {i : ℕ} (s : Scan whole f l i) where
  pub scan_next : i < length l → f (get_or l i 0 ∷ drop (i + 1) l) ≡ whole
  scan_next h = ap f (sym (drop_next l i h)) ∙ s.rest

  pub scan_turn : i < length l → (g : List ℕ → A) → f (get_or l i 0 ∷ drop (i + 1) l) ≡ g (drop (i + 1) l) → Scan whole g l (i + 1)
  scan_turn h g e = record { rest = sym e ∙ scan_next h }

  pub scan_end : length l ≤ i → f [] ≡ whole
  scan_end h = ap f (sym (drop_of_length-le l h)) ∙ s.rest

-- ---- does some element pass the test, do all

module _ (p : ℕ → Bool) {whole : Bool} {l : List ℕ} {i : ℕ} where
  module _ (s : Scan whole (any p) l i) where
    pub any_turn : i < length l → p (get_or l i 0) ≡ false → Scan whole (any p) l (i + 1)
    unfolding any
    any_turn h e = scan_turn s h (any p) (ap (λ (b : Bool). b || any p (drop (i + 1) l)) e)

    pub any_found : i < length l → p (get_or l i 0) ≡ true → true ≡ whole
    unfolding any
    any_found h e = sym (ap (λ (b : Bool). b || any p (drop (i + 1) l)) e) ∙ scan_next s h

    pub any_end : length l ≤ i → false ≡ whole
    unfolding any
    any_end h = scan_end s h

  module _ (s : Scan whole (all p) l i) where
    pub all_turn : i < length l → p (get_or l i 0) ≡ true → Scan whole (all p) l (i + 1)
    unfolding all
    all_turn h e = scan_turn s h (all p) (ap (λ (b : Bool). b && all p (drop (i + 1) l)) e)

    pub all_found : i < length l → p (get_or l i 0) ≡ false → false ≡ whole
    unfolding all
    all_found h e = sym (ap (λ (b : Bool). b && all p (drop (i + 1) l)) e) ∙ scan_next s h

    pub all_end : length l ≤ i → true ≡ whole
    unfolding all
    all_end h = scan_end s h

-- ---- the first element that fails the test

module _ (p : ℕ → Bool) {whole : Position} {l : List ℕ} {i : ℕ} (s : Scan whole (first_failing (i + 1) p) l i) where
  pub failing_turn : i < length l → p (get_or l i 0) ≡ true → Scan whole (first_failing (i + 1 + 1) p) l (i + 1)
  failing_turn h e = scan_turn s h (first_failing (i + 1 + 1) p) (failing_later p (i + 1) (get_or l i 0) (drop (i + 1) l) e)

  pub failing_found : i < length l → p (get_or l i 0) ≡ false → Some (i + 1) ≡ whole
  failing_found h e = sym (failing_here p (i + 1) (get_or l i 0) (drop (i + 1) l) e) ∙ scan_next s h

  pub failing_end : length l ≤ i → None ≡ whole
  unfolding first_failing
  failing_end h = scan_end s h
