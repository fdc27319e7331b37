-- The bytes behind a table that was read.
use Rattle.std.specs.Prelude.{◌≡◌, refl, List, ℕ, ◌-◌, ◌≤◌, leb, length, drop}
use Rattle.std.proofs.Common.{sym, ap, ◌∙◌, arith, length-drop, drop_of_length-le, leb-true, leb-false}
use Rattle.drive_sets.specs.Bools.Laws.{by_test}
use Rattle.drive_sets.specs.Refusals.{Outcome, refused, yields, and_then}
use Rattle.drive_sets.specs.Refusals.Laws.{first_result}
use Rattle.drive_sets.specs.Lent.{fitting}
use Rattle.table_files.specs.Files.{ReadTable, read_table}
use Rattle.table_files.specs.WithCores.{read_with_cores, read_complete, rest_after}
use Rattle.table_files.specs.Files.Rest.{table_rest}
use Rattle.table_replies.specs.Replies.{fitting_table, table_reply}

-- what stands behind it is no longer than the bytes
pub rest_short : (s rest : List ℕ) → rest ≡ rest_after (read_complete s) s → length rest ≤ length s
unfolding read_complete read_with_cores
rest_short s rest e = go (read_table s) refl e
  where
    go : (o : Outcome ReadTable) → read_table s ≡ o → rest ≡ rest_after (and_then o read_with_cores) s → length rest ≤ length s
    go (refused r) f g = omega (arith, ap length g)
    go (yields t) f g = let w = table_rest s f in omega (arith, ap length g, ap length w.1, length-drop w.0 s)

drop_back : (s rest : List ℕ) (k : ℕ) → rest ≡ drop k s → drop (length s - length rest) s ≡ rest
drop_back s rest k e =
    by_test (leb k (length s))
    (λ h. let few = leb-true k (length s) h in
    let used : length s - length rest ≡ k = omega (arith, ap length e, length-drop k s, few) in
    ap (λ (j : ℕ). drop j s) used ∙ sym e)
    (λ h. let many = leb-false k (length s) h in
    let all : length s ≤ length s - length rest = omega (arith, ap length e, length-drop k s, many) in
    let past : length s ≤ k = omega (arith, many) in
    drop_of_length-le s all ∙ sym (e ∙ drop_of_length-le s past))

-- what stands behind it begins where its bytes end, as the reply counts them
pub used_behind : (s old : List ℕ) (t : ReadTable) → fitting_table old (read_table s) ≡ yields t
    → drop (table_reply s (fitting_table old (read_table s))).used s ≡ t.rest
unfolding fitting_table
used_behind s old t e =
    let read = first_result (read_table s) (λ u. and_then (fitting 0 (length old) u.sets) (λ sets. yields u)) e in
    let fits = first_result (fitting 0 (length old) read.0.sets) (λ sets. yields read.0) read.2 in
    let w = table_rest s (read.1 ∙ fits.2) in
    ap (λ (o : Outcome ReadTable). drop (table_reply s o).used s) e ∙ drop_back s t.rest w.0 w.1
