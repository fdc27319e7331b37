-- Laws of positions: going by the two cases, that these exclude each other, and that a position is one number.
use Rattle.std.specs.Prelude.{◌≡◌, refl, ℕ, None, Some, is_none}
use Rattle.std.proofs.Common.{sym, ap, ◌∙◌}
use Rattle.drive_sets.specs.Positions.{Position, position_number}
use Rattle.drive_sets.specs.Bools.Laws.{clash}

pub by_position {ℓ} : {C : Type ℓ} (o : Position) → (o ≡ None → C) → ((k : ℕ) → o ≡ Some k → C) → C
by_position None f g = f refl
by_position (Some k) f g = g k refl

pub none_at : {o : Position} {k : ℕ} → o ≡ None → o ≡ Some k → ⊥
none_at p q = clash (ap is_none p) (ap is_none q)

pub same_at : {o : Position} {a b : ℕ} → o ≡ Some a → o ≡ Some b → a ≡ b
same_at p q = ap position_number (sym p ∙ q)
