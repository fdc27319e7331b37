-- What the result of a table made complete says of the calls that ask for it.
use Rattle.std.specs.Prelude.{◌≡◌, ℕ, List}
use Rattle.std.proofs.Common.{sym, ap, ◌∙◌, subst}
use Rattle.drive_sets.specs.Refusals.{Outcome, refused, yields, and_then}
use Rattle.drive_sets.specs.Refusals.Laws.{refused_no_result, first_result, same_result}
use Rattle.survivor_tables.specs.Tables.{cores, normal_table, Accepted}
use Rattle.survivor_tables.proofs.Tables.Laws.{table_accepted, accepted_normal}
use Rattle.complete_tables.specs.declared.TableWithCores.{TableWithCores}
use Rattle.complete_tables.specs.Complete.{Complete, sets_of, complete_of, with_cores, complete_table}

module _ {A B : Type 0} where
  -- a refusal of what is made of a result is one of the result
  pub then_refused : (o : Outcome A) (f : A → B) {q : ℕ} → and_then o (λ a. yields (f a)) ≡ refused q → o ≡ refused q
  then_refused (refused r) f e = cc
  then_refused (yields a) f e = absurd (refused_no_result (sym e))

-- a table that is given, whatever table is due
module _ (n : ℕ) (due : Outcome (List ℕ)) where
  pub due_given : (t : TableWithCores) → yields (complete_of t) ≡ and_then due (λ table. yields (with_cores n table))
      → (due ≡ yields (sets_of t.table)) × (t.cores.items ≡ cores (sets_of t.table))
  unfolding with_cores
  due_given t e =
      let w = first_result due (λ table. yields (with_cores n table)) (sym e) in
      let q = same_result w.2 in
      let same = ap (λ (c : Complete). c.sets) q in
      (w.1 ∙ ap (λ (l : List ℕ). yields l) same, sym (ap (λ (c : Complete). c.cores) q) ∙ ap cores same)

module _ (n : ℕ) (sets : List ℕ) where
  pub accept_refused : {q : ℕ} → refused q ≡ complete_table n sets → normal_table n sets ≡ refused q
  unfolding complete_table
  accept_refused e = then_refused (normal_table n sets) (with_cores n) (sym e)

  -- an accepted table: the normal table, and its cores
  pub record Taken (t : TableWithCores) : Type 0 where
    pub table : normal_table n sets ≡ yields (sets_of t.table)
    pub list : t.cores.items ≡ cores (sets_of t.table)
    pub whole : Accepted n (sets_of t.table)

  pub accept_taken : (t : TableWithCores) → yields (complete_of t) ≡ complete_table n sets → Taken t
  unfolding complete_table
  accept_taken t e =
      let w = due_given n (normal_table n sets) t e in
      let a = table_accepted n sets (sets_of t.table) w.0 in
      record { table = w.0; list = w.1; whole = subst (Accepted n) (sym a.1) (accepted_normal n sets a.0) }
