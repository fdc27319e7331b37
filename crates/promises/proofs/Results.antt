-- What the result of a call says: a value excludes a refusal, a refusal is one and has nothing beside it, and what is due
-- where a call that lists or completes a table refuses or gives.
use Rattle.std.specs.Prelude.{◌≡◌, List, ℕ, Result, Ok, Err}
use Rattle.std.proofs.Common.{sym, ap, ◌∙◌, arith}
use Rattle.drive_sets.specs.declared.Refusal.{Refusal}
use Rattle.drive_sets.specs.Refusals.{Outcome, refused, yields, and_then, number}
use Rattle.complete_tables.specs.declared.TableWithCores.{TableWithCores}
use Rattle.complete_tables.specs.Complete.{with_cores, complete_outcome}
use Rattle.complete_tables.proofs.Accepts.{then_refused}
use Rattle.tables.specs.Answers.{list_outcome}

module _ {A : Type 0} where
  abbrev is_given : Result A Refusal → ℕ
  is_given (Ok a) = 1
  is_given (Err r) = 0

  pub accepted_not_refused : {a : A} {r : Refusal} → ◌≡◌ {A = Result A Refusal} (Ok a) (Err r) → ⊥
  accepted_not_refused e = let given : ◌≡◌ {A = ℕ} 1 0 = ap is_given e in omega (arith, given)

  pub same_refusal : {q r : Refusal} → ◌≡◌ {A = Result A Refusal} (Err q) (Err r) → q ≡ r
  same_refusal e = cc

  -- of two results with one refusal nothing differs
  pub refused_alone : {q : Refusal} {r s : Result A Refusal} → r ≡ Err q → s ≡ Err q → r ≡ s
  refused_alone e f = e ∙ sym f

  pub accepted_alone : {a : A} {q : Refusal} {r : Result A Refusal} → r ≡ Ok a → r ≡ Err q → ⊥
  accepted_alone e f = accepted_not_refused (sym e ∙ f)

-- where a table made complete is refused, so is the table that is due
pub due_refused : (n : ℕ) (due : Outcome (List ℕ)) (r : Result TableWithCores Refusal)
    → complete_outcome r ≡ and_then due (λ table. yields (with_cores n table)) → (q : Refusal) → r ≡ Err q → due ≡ refused (number q)
due_refused n due r e q f = then_refused due (with_cores n) (sym e ∙ ap complete_outcome f)

-- what is due of a list is what its result says
pub list_said : (o : Outcome (List ℕ)) (r : Result _ Refusal) → list_outcome r ≡ o → (s : Result _ Refusal) → r ≡ s → list_outcome s ≡ o
list_said o r e s f = ap list_outcome (sym f) ∙ e
