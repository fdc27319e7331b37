-- Filling: with nothing, with one, with more than there is room for, and with one list after the other.
use Rattle.std.specs.Prelude.{◌≡◌, List, [], ◌∷◌, ◌++◌, ℕ, suc, ◌+◌, ◌≤◌, ◌<◌, length, take, set}
use Rattle.std.proofs.Common.{sym, ap, ◌∙◌, subst, append_assoc, append-nil, arith, add-one, length-append, take-suc-set}
use Rattle.drive_sets.specs.Filled.{Filled}

pub filled_none : (o : List ℕ) (c : ℕ) → c ≤ suc (length o) → Filled o o c c []
filled_none o c h = record { total = omega arith; kept = λ k. sym (append-nil (take c o)) }

pub filled_one : (o : List ℕ) (c m : ℕ) → c < length o → Filled o (set o c m) c (c + 1) (m ∷ [])
filled_one o c m h = record { total = omega arith; kept = λ k. rw (add-one, take-suc-set o c m) }

pub filled_over : (o o' : List ℕ) (c r : ℕ) (l : List ℕ) → r ≡ suc (length o) → r ≤ c + length l → Filled o o' c r l
filled_over o o' c r l e h = record { total = omega arith; kept = λ k. absurd (omega arith) }

pub filled_then : (o o₁ o₂ : List ℕ) (c r₁ r₂ : ℕ) (l₁ l₂ : List ℕ) → length o₁ ≡ length o → Filled o o₁ c r₁ l₁ → Filled o₁ o₂ r₁ r₂ l₂
    → Filled o o₂ c r₂ (l₁ ++ l₂)
filled_then o o₁ o₂ c r₁ r₂ l₁ l₂ e f g = record {
  total = omega (arith, f.total, g.total, length-append l₁ l₂);
  kept = λ k.
      g.kept (omega arith)
      ∙ (ap (λ (l : List ℕ). l ++ l₂) (f.kept (omega (arith, f.total, g.total))) ∙ append_assoc (take c o) l₁ l₂);
}

pub filled_same : {o o' l k : List ℕ} {c r : ℕ} → l ≡ k → Filled o o' c r k → Filled o o' c r l
filled_same {o} {o'} {c = c} {r = r} e f = subst (Filled o o' c r) (sym e) f
