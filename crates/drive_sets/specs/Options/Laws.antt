-- Laws of optional values: going by the two cases, and what the test says.
use Rattle.std.specs.Prelude.{◌≡◌, refl, true, false}
use Rattle.std.proofs.Common.{sym, ap, ◌∙◌}
use Rattle.std.proofs.Math.Option.{Option, none, some, none-ne-some, some-injective}
use Rattle.drive_sets.specs.Bools.Laws.{clash}
use Rattle.drive_sets.specs.Options.{is_some}

module _ {A : Type 0} where
  pub by_option {ℓ} : {C : Type ℓ} (o : Option A) → (o ≡ none → C) → ((a : A) → o ≡ some a → C) → C
  by_option none f g = f refl
  by_option (some a) f g = g a refl

  pub none_some : {o : Option A} {a : A} → o ≡ none → o ≡ some a → ⊥
  none_some {a = a} p q = none-ne-some a (sym p ∙ q)

  pub same_some : {o : Option A} {a b : A} → o ≡ some a → o ≡ some b → a ≡ b
  same_some {a = a} {b = b} p q = some-injective a b (sym p ∙ q)

  pub is_some_law : {o : Option A} {a : A} → o ≡ some a → is_some o ≡ true
  is_some_law p = ap is_some p

  pub is_none : {o : Option A} → o ≡ none → is_some o ≡ false
  is_none p = ap is_some p

  pub some_of : (o : Option A) → is_some o ≡ true → (a : A) × (o ≡ some a)
  some_of none h = absurd (clash h refl)
  some_of (some a) h = (a, refl)

  pub none_of : (o : Option A) → is_some o ≡ false → o ≡ none
  none_of none h = refl
  none_of (some a) h = absurd (clash refl h)
