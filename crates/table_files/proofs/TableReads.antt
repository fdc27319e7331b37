-- Tables from a file as the code reads them: what is listed, made complete, the bytes behind it, and what a caller
-- learns of both.
use Rattle.std.specs.Prelude.{Result, Ok, Err}
use mathlib.Core.Path.{◌≡◌, sym, ap, ap₂, ◌∙◌}
use mathlib.Core.List.{List}
use Prim.Native.Nat.{ℕ, ◌≤◌, ◌<◌}
use lib.ListN.{length, drop}
use Rattle.drive_sets.specs.declared.Refusal.{Refusal}
use Rattle.drive_sets.specs.declared.Refusal.TheVariants.{TrailingBytes}
use Rattle.drive_sets.specs.Refusals.{Outcome, refused, yields, and_then, number}
use Rattle.drive_sets.specs.Refusals.Laws.{first_result, same_result, then_assoc, then_then}
use Rattle.complete_tables.specs.declared.TableWithCores.{TableWithCores}
use Rattle.survivor_tables.specs.declared.frames.MaskKind.TheVariants.{SurvivorSet}
use Rattle.survivor_tables.specs.Tables.{cores, within_core_limit, normal_table}
use Rattle.survivor_tables.proofs.Tables.Laws.{checked_masks_law}
use Rattle.complete_tables.proofs.Accepts.{then_refused}
use Rattle.complete_tables.proofs.Completes.{rest_none, rest_some}
use Rattle.table_files.specs.Files.{ReadTable, accepted, read_listed, read_table, read_whole}
use Rattle.table_files.specs.Files.Laws.{listed_checked}
use Rattle.complete_tables.specs.Complete.{sets_of, Complete, with_cores, complete_sets, complete_table, complete_of, complete_outcome}
use Rattle.table_files.specs.WithCores.{completed, ReadComplete, read_with_cores, read_complete, table_read, rest_after, read_whole_complete}

-- ---- what is listed is accepted by the call given n and sets, but for its cores

listed_complete : (s : List ℕ) {u : ReadTable} → read_listed SurvivorSet s ≡ yields u → complete_table u.n u.sets ≡ completed u
unfolding complete_table normal_table complete_sets
listed_complete s {u} e =
    ap (λ (o : Outcome (List ℕ)). and_then (and_then o within_core_limit) (λ table. yields (with_cores u.n table)))
    (checked_masks_law SurvivorSet u.n u.sets (listed_checked SurvivorSet s e))

abbrev behind : Outcome Complete → List ℕ → Outcome ReadComplete
behind o rest = and_then o (λ table. yields (record { table = table; rest = rest }))

-- ---- a table: a refusal of the listing, or the table given as n and sets; and where nothing may stand behind it

pub whole_refused : (s : List ℕ) {q : ℕ} → refused q ≡ read_listed SurvivorSet s → refused q ≡ read_whole_complete s
unfolding read_whole_complete read_whole
whole_refused s e = rw (← e)

module _ (s : List ℕ) (n : ℕ) (sets : List ℕ) (used : ℕ) (e : yields (record { n = n; sets = sets; rest = drop used s }) ≡ read_listed SurvivorSet s) where
  -- with anything behind it
  pub table_given : read_complete s ≡ behind (complete_table n sets) (drop used s)
  unfolding read_with_cores read_complete read_table accepted complete_sets
  table_given =
      rw (← e, listed_complete s (sym e))
      (then_then (within_core_limit sets) (λ table. record { n = n; sets = table; rest = drop used s }) read_with_cores
      ∙ sym (then_then (within_core_limit sets) (λ table. with_cores n table) (λ table. yields (record { table = table; rest = drop used s }))))

  pub whole_trailing : used < length s → refused (number TrailingBytes) ≡ read_whole_complete s
  unfolding read_whole_complete read_whole
  whole_trailing more = rw (← e, rest_some s used more)

  pub whole_given : length s ≤ used → complete_table n sets ≡ read_whole_complete s
  unfolding read_whole_complete read_whole accepted complete_sets
  whole_given none =
      rw (← e, rest_none s used none, listed_complete s (sym e))
      (sym (then_then (within_core_limit sets) (λ table. record { n = n; sets = table; rest = drop used s }) (λ (a : ReadTable). yields (with_cores a.n a.sets))))

-- ---- what a caller learns

abbrev pub with_its_cores : ReadTable → Outcome Complete
with_its_cores u = yields (with_cores u.n u.sets)

module _ (r : Result TableWithCores Refusal) (o : Outcome ReadTable) (e : complete_outcome r ≡ and_then o with_its_cores) where
  said : {x : Result TableWithCores Refusal} → r ≡ x → and_then o with_its_cores ≡ complete_outcome x
  said h = sym e ∙ ap complete_outcome h

  pub read_refused : {q : Refusal} → r ≡ Err q → o ≡ refused (number q)
  read_refused h = then_refused o (λ u. with_cores u.n u.sets) (said h)

  pub read_accepted : {t : TableWithCores} → r ≡ Ok t → (u : ReadTable) × (o ≡ yields u) × (with_cores u.n u.sets ≡ complete_of t)
  read_accepted h = let w = first_result o with_its_cores (said h) in (w.0, w.1, same_result w.2)

  pub read_cores : {t : TableWithCores} → r ≡ Ok t → t.cores.items ≡ cores (sets_of t.table)
  unfolding with_cores
  read_cores h = let is = (read_accepted h).2 in ap (λ (c : Complete). c.cores) (sym is) ∙ ap (λ (c : Complete). cores c.sets) is

module _ (r : Result TableWithCores Refusal) (s old rest : List ℕ) (e : complete_outcome r ≡ table_read (read_complete s)) (f : rest ≡ rest_after (read_complete s) old) where
  table_of : complete_outcome r ≡ and_then (read_table s) with_its_cores
  unfolding read_with_cores read_complete
  table_of = e ∙ then_assoc (read_table s) read_with_cores (λ t. yields t.table)

  pub table_refused : {q : Refusal} → r ≡ Err q → read_table s ≡ refused (number q)
  table_refused h = read_refused r (read_table s) table_of h

  pub table_behind : {t : TableWithCores} → r ≡ Ok t → read_table s ≡ yields (record { n = t.table.n; sets = sets_of t.table; rest = rest })
  unfolding read_with_cores read_complete with_cores
  table_behind h =
      let w = read_accepted r (read_table s) table_of h in
      let behind_it = f ∙ ap (λ (o : Outcome ReadTable). rest_after (and_then o read_with_cores) old) w.1 in
      w.1 ∙ ap₂ (λ (c : Complete) (l : List ℕ). yields (record { n = c.n; sets = c.sets; rest = l })) w.2 (sym behind_it)
