-- Text put into a buffer: items one after the other, and the digits of a number.
use mathlib.Core.Path.{◌≡◌, refl, sym, ap, ◌∙◌}
use mathlib.Core.List.{List, [], ◌∷◌, ◌++◌, append-nil, append_assoc}
use Prim.Native.Nat.{ℕ, zero, suc, ◌+◌, ◌-◌, ◌/◌, ◌%◌, ◌≤◌, ◌<◌, min}
use native.Mathlib.Omega.{arith}
use native.Mathlib.Numerals.{add-one}
use lib.ListN.{length, get_or, take}
use lib.Seq.{take-suc, take_all}
use borrow.Author.Tests.{lt-ltb, le-ltb}
use Rattle.drive_sets.specs.Bools.Laws.{cond_true, cond_false}
use Rattle.drive_sets.specs.Filled.{Filled}
use Rattle.drive_sets.specs.Filled.Laws.{filled_then, filled_same}
use Rattle.text.specs.Text.{digit, in_base, joined}

-- ---- items one after the other

-- nothing is put, at a place that is not past the end
pub filled_nothing : {old : List ℕ} {start at : ℕ} → at ≡ min (suc (length old)) start → Filled old old start at []
filled_nothing {old} {start} {at} e = record {
  total = omega arith;
  kept = λ h. let same : at ≡ start = omega arith in ap (λ (k : ℕ). take k old) same ∙ sym (append-nil (take start old));
}

-- one list after the other
pub filled_both : {o o₁ o₂ l₁ l₂ : List ℕ} {c r₁ r₂ : ℕ} → length o₁ ≡ length o → Filled o o₁ c r₁ l₁ → Filled o₁ o₂ r₁ r₂ l₂ → Filled o o₂ c r₂ (l₁ ++ l₂)
filled_both e f g = filled_then _ _ _ _ _ _ _ _ e f g

-- the texts of the first i items are put
pub record Putting (text : ℕ → List ℕ) (old items buf : List ℕ) (start at i : ℕ) : Type 0 where
  pub within : i ≤ length items
  pub long : length buf ≡ length old
  pub done : Filled old buf start at (joined text (take i items))

pub joined_last : (text : ℕ → List ℕ) (l : List ℕ) (x : ℕ) → joined text (l ++ (x ∷ [])) ≡ joined text l ++ text x
unfolding joined
joined_last text [] x = append-nil (text x)
joined_last text (y ∷ l) x = ap (λ (r : List ℕ). text y ++ r) (joined_last text l x) ∙ sym (append_assoc (text y) (joined text l) (text x))

-- bytes as they are
pub joined_bytes : (l : List ℕ) → joined (λ x. x ∷ []) l ≡ l
unfolding joined
joined_bytes [] = refl
joined_bytes (x ∷ l) = ap (λ (r : List ℕ). x ∷ r) (joined_bytes l)

pub putting_start : (text : ℕ → List ℕ) {old items : List ℕ} {start at : ℕ} → at ≡ min (suc (length old)) start → Putting text old items old start at 0
unfolding joined
putting_start text e = record { within = omega arith; long = refl; done = filled_nothing e }

pub putting_turn : {text : ℕ → List ℕ} {old items buf next : List ℕ} {start at r i x : ℕ} → Putting text old items buf start at i → i < length items
    → x ≡ get_or items i 0 → length next ≡ length buf → Filled buf next at r (text x) → Putting text old items next start r (i + 1)
putting_turn {text} {items = items} {i = i} {x = x} p h e same f = record {
  within = omega arith;
  long = same ∙ p.long;
  done = filled_same longer (filled_both p.long p.done f);
}
  where
    longer : joined text (take (i + 1) items) ≡ joined text (take i items) ++ text x
    longer =
        ap (λ (k : ℕ). joined text (take k items)) (add-one i)
        ∙ (ap (joined text) (take-suc items i 0 h) ∙ (joined_last text (take i items) (get_or items i 0) ∙ ap (λ (y : ℕ). joined text (take i items) ++ text y) (sym e)))

pub putting_end : {text : ℕ → List ℕ} {old items buf : List ℕ} {start at i : ℕ} → Putting text old items buf start at i → length items ≤ i
    → Filled old buf start at (joined text items)
putting_end {text} {items = items} {i = i} p h = filled_same (ap (joined text) (sym (take_all i items h))) p.done

-- the part of an array from its first place on
pub cut : (l : List ℕ) (k : ℕ) → take (k - 0) l ≡ take k l
cut l k = let same : k - 0 ≡ k = omega arith in ap (λ (j : ℕ). take j l) same

-- ---- digits

pub digit_low : (d : ℕ) → d < 10 → 48 + d ≡ digit d
unfolding digit
digit_low d h = sym (cond_true _ _ (lt-ltb d 10 h))

pub digit_high : (d : ℕ) → 10 ≤ d → 87 + d ≡ digit d
unfolding digit
digit_high d h = sym (cond_false _ _ (le-ltb d 10 h))

-- ---- a number in a base

pub base_none : (base most x : ℕ) → most ≡ 0 → in_base base most x ≡ []
unfolding in_base
base_none base most x e = ap (λ (k : ℕ). in_base base k x) e

pub base_last : (base most x b : ℕ) → (most ≡ 0 → ⊥) → x < base → b ≡ digit (x % base) → in_base base most x ≡ b ∷ []
unfolding in_base
base_last base zero x b ne h e = absurd (ne refl)
base_last base (suc most) x b ne h e = cond_true _ _ (lt-ltb x base h) ∙ ap (λ (y : ℕ). y ∷ []) (sym e)

pub base_more : (base most x b : ℕ) → (most ≡ 0 → ⊥) → base ≤ x → b ≡ digit (x % base) → in_base base most x ≡ in_base base (most - 1) (x / base) ++ (b ∷ [])
unfolding in_base
base_more base zero x b ne h e = absurd (ne refl)
base_more base (suc most) x b ne h e =
    let less : suc most - 1 ≡ most = omega arith in
    cond_false _ _ (le-ltb x base h)
    ∙ (ap (λ (y : ℕ). in_base base most (x / base) ++ (y ∷ [])) (sym e) ∙ ap (λ (k : ℕ). in_base base k (x / base) ++ (b ∷ [])) (sym less))
