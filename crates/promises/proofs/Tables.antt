-- The tables that the calls and the readers give, with their cores: the normal table of accepted sets.
use mathlib.Core.Path.{◌≡◌, sym, ap, ap₂, ◌∙◌, subst}
use mathlib.Core.List.{List, []}
use Prim.Native.Nat.{ℕ}
use Rattle.drive_sets.specs.Refusals.{Outcome, yields, and_then}
use Rattle.drive_sets.specs.Refusals.Laws.{first_result, same_result}
use Rattle.survivor_tables.specs.Order.{normal}
use Rattle.survivor_tables.specs.Tables.{normal_table, Accepted}
use Rattle.survivor_tables.proofs.Tables.Laws.{table_accepted}
use Rattle.table_files.specs.Files.{ReadTable, read_table, read_whole}
use Rattle.table_files.specs.Files.Laws.{table_read_law, whole_table}
use Rattle.complete_tables.specs.Complete.{Complete, with_cores, complete_table}
use Rattle.table_files.specs.WithCores.{ReadComplete, read_with_cores, read_complete, read_whole_complete}

-- the table beside its cores is the normal table of some accepted sets
pub record TableOf (n : ℕ) (sets : List ℕ) (t : Complete) : Type 0 where
  pub accepted : Accepted n sets
  pub is : t ≡ with_cores n (normal sets)

pub call_table : (n : ℕ) (sets : List ℕ) {t : Complete} → complete_table n sets ≡ yields t → TableOf n sets t
unfolding complete_table
call_table n sets e =
    let first = first_result (normal_table n sets) (λ table. yields (with_cores n table)) e in
    let table = table_accepted n sets first.0 first.1 in
    record { accepted = table.0; is = sym (same_result first.2) ∙ ap (with_cores n) table.1 }

pub read_table_law : (s : List ℕ) {r : ReadComplete} → read_complete s ≡ yields r → (sets : List ℕ) × TableOf r.table.n sets r.table
unfolding read_complete read_with_cores with_cores
read_table_law s e =
    let first = first_result (read_table s) read_with_cores e in
    let table = table_read_law s first.0 first.1 in (
      table.0,
      subst (λ (r : ReadComplete). TableOf r.table.n table.0 r.table) (same_result first.2)
          (record { accepted = table.1; is = ap (with_cores first.0.n) table.2 }),
    )

-- what the reader of whole files gives, the other gives too
pub whole_read : (s : List ℕ) {t : Complete} → read_whole_complete s ≡ yields t → read_complete s ≡ yields (record { table = t; rest = [] })
unfolding read_whole_complete read_complete read_with_cores
whole_read s e =
    let first = first_result (read_whole s) (λ u. yields (with_cores u.n u.sets)) e in
    let whole = whole_table s first.0 first.1 in
    ap (λ (o : Outcome ReadTable). and_then o read_with_cores) whole.0
    ∙ ap₂ (λ (c : Complete) (l : List ℕ). yields (record { table = c; rest = l })) (same_result first.2) whole.1
