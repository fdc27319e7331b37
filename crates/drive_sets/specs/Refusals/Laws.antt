-- Laws of outcomes: what a result says of the refusals before it, and of the steps by which it was made.
use Rattle.std.specs.Prelude.{◌≡◌, refl, Bool, true, false, ◌⊎◌, ℕ}
use Rattle.std.proofs.Common.{sym, ap, inl, inr, arith}
use Rattle.drive_sets.specs.declared.Refusal.{Refusal}
use Rattle.drive_sets.specs.Refusals.{Outcome, refused, yields, refuse_if, and_then, number}

module _ {A : Type 0} where
  pub refused_no_result : {r : ℕ} {a : A} → refused r ≡ yields a → ⊥
  refused_no_result e = let z : ◌≡◌ {A = ℕ} 0 1 = cc in omega arith

  pub same_refused : {q r : ℕ} → ◌≡◌ {A = Outcome A} (refused q) (refused r) → q ≡ r
  same_refused e = cc

  pub same_result : {a b : A} → ◌≡◌ {A = Outcome A} (yields a) (yields b) → a ≡ b
  same_result e = cc

  -- a result was not refused
  pub passed : (b : Bool) (r : Refusal) (next : Outcome A) {a : A} → refuse_if b r next ≡ yields a → (b ≡ false) × (next ≡ yields a)
  passed true r next e = absurd (refused_no_result e)
  passed false r next e = (refl, e)

  -- a refusal is this one, or comes later
  pub refused_by_law : (b : Bool) (r : Refusal) (next : Outcome A) {q : ℕ} → refuse_if b r next ≡ refused q → ((b ≡ true) × (q ≡ number r)) ⊎ ((b ≡ false) × (next ≡ refused q))
  refused_by_law true r next e = inl (refl, sym (same_refused e))
  refused_by_law false r next e = inr (refl, e)

module _ {A B : Type 0} where
  -- a result of two steps has one of the first
  pub first_result : (o : Outcome A) (f : A → Outcome B) {b : B} → and_then o f ≡ yields b → (a : A) × (o ≡ yields a) × (f a ≡ yields b)
  first_result (refused r) f e = absurd (refused_no_result e)
  first_result (yields a) f e = (a, refl, e)

  -- a refusal of two steps is the first's, or comes after its result
  pub first_refused : (o : Outcome A) (f : A → Outcome B) {q : ℕ} → and_then o f ≡ refused q → (o ≡ refused q) ⊎ ((a : A) × (o ≡ yields a) × (f a ≡ refused q))
  first_refused (refused r) f e = inl (ap (λ (x : ℕ). refused x) (same_refused e))
  first_refused (yields a) f e = inr (a, refl, e)

  -- what comes after a refusal
  pub then_refuse : (b : Bool) (r : Refusal) (a : A) (f : A → Outcome B) → and_then (refuse_if b r (yields a)) f ≡ refuse_if b r (f a)
  then_refuse true r a f = refl
  then_refuse false r a f = refl

-- two steps that make the same of a result
pub then_same : {A B : Type 0} (o : Outcome A) {f g : A → Outcome B} → ((a : A) → o ≡ yields a → f a ≡ g a) → and_then o f ≡ and_then o g
then_same (refused r) same = refl
then_same (yields a) same = same a refl

-- a step and the next; and where the first only makes a value
module _ {A B C : Type 0} where
  pub then_assoc : (o : Outcome A) (f : A → Outcome B) (g : B → Outcome C) → and_then (and_then o f) g ≡ and_then o (λ a. and_then (f a) g)
  then_assoc (refused r) f g = refl
  then_assoc (yields a) f g = refl

  pub then_then : (o : Outcome A) (f : A → B) (g : B → Outcome C) → and_then (and_then o (λ a. yields (f a))) g ≡ and_then o (λ a. g (f a))
  then_then (refused r) f g = refl
  then_then (yields a) f g = refl
