-- Laws of tests: going by the two cases of one, how tests combine, and sets with the same numbers.
use Rattle.std.specs.Prelude.{◌≡◌, refl, Bool, true, false, not, ◌&&◌, ◌||◌, cond, ◌⊎◌, ℕ}
use Rattle.std.proofs.Common.{sym, ap, ◌∙◌, true≢false, inl, inr}
use Rattle.std.proofs.Math.Path.{fun_ext}
use Rattle.std.specs.Bool.{beq}
use Rattle.drive_sets.specs.Bools.{◌⊆◌, as_number}

pub clash : {b : Bool} → b ≡ true → b ≡ false → ⊥
clash p q = true≢false (sym p ∙ q)

pub by_test {ℓ} : {C : Type ℓ} (b : Bool) → (b ≡ true → C) → (b ≡ false → C) → C
by_test true f g = f refl
by_test false f g = g refl

-- a test is false if it cannot be true, and true if it cannot be false
pub false_of : (b : Bool) → (b ≡ true → ⊥) → b ≡ false
false_of true f = absurd (f refl)
false_of false f = refl

pub true_of : (b : Bool) → (b ≡ false → ⊥) → b ≡ true
true_of true f = refl
true_of false f = absurd (f refl)

pub same_test : (a b : Bool) → (a ≡ true → b ≡ true) → (b ≡ true → a ≡ true) → a ≡ b
same_test true b f g = sym (f refl)
same_test false b f g = sym (false_of b (λ h. true≢false (sym (g h))))

pub and_intro : {a b : Bool} → a ≡ true → b ≡ true → (a && b) ≡ true
and_intro {a} {b} p q = ap (λ (x : Bool). x && b) p ∙ q

pub and_left : (a b : Bool) → (a && b) ≡ true → a ≡ true
and_left true b h = refl
and_left false b h = h

pub and_right : (a b : Bool) → (a && b) ≡ true → b ≡ true
and_right true b h = h
and_right false b h = absurd (true≢false (sym h))

pub and_not : (a b : Bool) → a ≡ true → (a && b) ≡ false → b ≡ false
and_not true b h e = e
and_not false b h e = absurd (true≢false (sym h))

-- the tests of a chain one after the other, as code makes them
pub and_first : (a b : Bool) → a ≡ false → a ≡ (a && b)
and_first true b h = absurd (true≢false h)
and_first false b h = refl

pub and_second : (a b : Bool) → a ≡ true → b ≡ (a && b)
and_second true b h = refl
and_second false b h = absurd (true≢false (sym h))

pub or_first : (a b : Bool) → a ≡ true → a ≡ (a || b)
or_first true b h = refl
or_first false b h = absurd (true≢false (sym h))

pub or_second : (a b : Bool) → a ≡ false → b ≡ (a || b)
or_second true b h = absurd (true≢false h)
or_second false b h = refl

pub or_left : {a : Bool} (b : Bool) → a ≡ true → (a || b) ≡ true
or_left b p = ap (λ (x : Bool). x || b) p

pub or_right : (a : Bool) {b : Bool} → b ≡ true → (a || b) ≡ true
or_right true p = refl
or_right false p = p

pub or_cases : (a b : Bool) → (a || b) ≡ true → (a ≡ true) ⊎ (b ≡ true)
or_cases true b h = inl refl
or_cases false b h = inr h

pub or_swap : (a b c : Bool) → (a || (b || c)) ≡ (b || (a || c))
or_swap true true c = refl
or_swap true false c = refl
or_swap false b c = refl

pub or_false : (a : Bool) → (a || false) ≡ a
or_false true = refl
or_false false = refl

pub or_and_not : (a b : Bool) → (a || (b && not a)) ≡ (a || b)
or_and_not true b = refl
or_and_not false true = refl
or_and_not false false = refl

-- a disjunction fails where both tests do, a conjunction where one does
pub or_neither : {a b : Bool} → a ≡ false → b ≡ false → (a || b) ≡ false
or_neither {a} {b} p q = ap (λ (x : Bool). x || b) p ∙ q

pub and_fails_left : {a : Bool} (b : Bool) → a ≡ false → (a && b) ≡ false
and_fails_left b p = ap (λ (x : Bool). x && b) p

pub and_fails_right : (a : Bool) {b : Bool} → b ≡ false → (a && b) ≡ false
and_fails_right true p = p
and_fails_right false p = refl

-- what is asked where a test is true holds where it follows from the test
pub unless : (a : Bool) {b : Bool} → (a ≡ true → b ≡ true) → (not a || b) ≡ true
unless true f = f refl
unless false f = refl

pub or_false_left : (a b : Bool) → (a || b) ≡ false → a ≡ false
or_false_left true b h = absurd (true≢false h)
or_false_left false b h = refl

pub or_false_right : (a b : Bool) → (a || b) ≡ false → b ≡ false
or_false_right true b h = absurd (true≢false h)
or_false_right false b h = h

module _ {ℓ} {A : Type ℓ} (x y : A) where
  pub cond_true : {b : Bool} → b ≡ true → cond b x y ≡ x
  cond_true p = ap (λ (t : Bool). cond t x y) p

  pub cond_false : {b : Bool} → b ≡ false → cond b x y ≡ y
  cond_false p = ap (λ (t : Bool). cond t x y) p

-- the test whether two tests agree
pub beq_eq : (a b : Bool) → beq a b ≡ true → a ≡ b
beq_eq true true h = refl
beq_eq true false h = sym h
beq_eq false true h = h
beq_eq false false h = refl

pub eq_beq : (a b : Bool) → a ≡ b → beq a b ≡ true
eq_beq true true h = refl
eq_beq true false h = sym h
eq_beq false true h = h
eq_beq false false h = refl

-- of two tests that differ, where the first implies the second, the second alone is true
pub beq_differ : (a b : Bool) → (a ≡ true → b ≡ true) → beq a b ≡ false → (a ≡ false) × (b ≡ true)
beq_differ true b f h = absurd (clash (eq_beq true b (sym (f refl))) h)
beq_differ false true f h = (refl, refl)
beq_differ false false f h = absurd (clash refl h)

pub same_sets : {p q : ℕ → Bool} → p ⊆ q → q ⊆ p → p ≡ q
same_sets {p} {q} f g = fun_ext (λ x. same_test (p x) (q x) (f x) (g x))

pub true_one : {b : Bool} → b ≡ true → as_number b ≡ 1
true_one e = ap as_number e

pub false_zero : {b : Bool} → b ≡ false → as_number b ≡ 0
false_zero e = ap as_number e
