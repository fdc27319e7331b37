-- A list of bytes, one after the other.
use mathlib.Core.List.{[], ◌∷◌}
use Rattle.text.proofs.Puts.{Putting}
use Rattle.text.proofs.text.put_all.Given as goal

abbrev pub invariant-loop-b : goal.invariant-loop-b
invariant-loop-b l = Putting (λ x. x ∷ []) l.initial.buf l.text l.buf l.start l.at l.b-index
