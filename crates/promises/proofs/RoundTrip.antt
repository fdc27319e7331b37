-- Tables read back as written: the writer's bytes stand in the buffer from the starting place on, before what stood
-- there, and reading a normal table's bytes gives the table.
use Rattle.std.specs.Prelude.{Result}
use mathlib.Core.Path.{◌≡◌, refl, sym, ap, ◌∙◌, subst}
use mathlib.Core.Bool.{not}
use mathlib.Core.List.{List, ◌++◌}
use Prim.Native.Nat.{ℕ, ◌+◌, ◌≤◌}
use native.Mathlib.Omega.{arith}
use lib.Dec.{leb}
use lib.ListN.{length, take, drop, length-drop}
use lib.Seq.{length-take-le, drop-drop, take_at, drop_at}
use borrow.Author.Tests.{leb-true, not-false}
use Rattle.drive_sets.specs.declared.Refusal.{Refusal}
use Rattle.drive_sets.specs.declared.Refusal.TheVariants.{NoRoom}
use Rattle.drive_sets.specs.Refusals.{Outcome, yields, and_then, outcome}
use Rattle.drive_sets.specs.Refusals.Laws.{passed, first_result, same_result}
use Rattle.drive_sets.specs.Lent.{written_at, fitting, buffer_after}
use Rattle.drive_sets.specs.Lent.Laws.{written_fits}
use Rattle.lent_bytes.specs.LentBuffers.{WrittenIfRoom}
use Rattle.survivor_tables.specs.Order.{normal}
use Rattle.survivor_tables.specs.Order.Normal.{normal_idempotent}
use Rattle.survivor_tables.specs.Tables.{normal_table, Accepted}
use Rattle.survivor_tables.proofs.Tables.Laws.{table_accepted, accepted_table, accepted_normal}
use Rattle.table_files.specs.Files.{ReadTable, table_bytes}
use Rattle.table_writing.specs.Writing.{write_table}
use Rattle.table_files.specs.Files.Laws.{read_written, whole_written}
use Rattle.complete_tables.specs.Complete.{Complete, with_cores}
use Rattle.table_files.specs.WithCores.{read_with_cores, read_complete, read_whole_complete}
use Rattle.promises.specs.RoundTrip.{ReadsBack, WrittenReadsBack, ReadsAgain, ReadIsWritten}
use Rattle.promises.proofs.Tables.{TableOf, read_table_law}

-- ---- what was written

-- the bytes that are due stand in the buffer from the starting place on, and behind them what stood there before
pub record Stands (due : Outcome (List ℕ)) (start size : ℕ) (old new : List ℕ) : Type 0 where
  pub bytes : List ℕ
  pub are_due : due ≡ yields bytes
  pub many : length bytes ≡ size
  pub from_start : drop start new ≡ bytes ++ drop (start + size) old

written_from : (bytes old : List ℕ) (start : ℕ) → start + length bytes ≤ length old
    → drop start (written_at start bytes old) ≡ bytes ++ drop (start + length bytes) old
unfolding written_at
written_from bytes old start room =
    drop_at (take start old) _ start (length-take-le start old (omega arith))
    ∙ (written_fits bytes (drop start old) (omega (arith, length-drop start old)) ∙ ap (λ (l : List ℕ). bytes ++ l) (drop-drop (length bytes) start old))

pub stands : (due : Outcome (List ℕ)) (start : ℕ) (old new : List ℕ) (r : Result ℕ Refusal) (size : ℕ)
    → WrittenIfRoom due start old new r → outcome r ≡ yields size → Stands due start size old new
unfolding fitting
stands due start old new r size w e =
    let sized = first_result (and_then due (fitting start (length old))) (λ bytes. yields (length bytes)) (sym w.answer ∙ e) in
    let first = first_result due (fitting start (length old)) sized.1 in
    let fits = passed (not (leb (start + length first.0) (length old))) NoRoom (yields first.0) first.2 in
    let same = same_result fits.1 in
    let room = leb-true (start + length first.0) (length old) (not-false _ fits.0) in
    let many = same_result sized.2 in
    record {
      bytes = sized.0;
      are_due = first.1 ∙ ap yields same;
      many = many;
      from_start =
          ap (drop start) (w.buffer ∙ ap (λ (o : Outcome (List ℕ)). buffer_after o start old) sized.1)
          ∙ (written_from sized.0 old start (subst (λ (l : List ℕ). start + length l ≤ length old) same room)
          ∙ ap (λ (k : ℕ). sized.0 ++ drop (start + k) old) many);
    }

-- ---- and read back

-- the bytes of a normal table, with anything behind them
table_back : (n : ℕ) (sets rest : List ℕ) → Accepted n sets
    → read_complete (table_bytes n (normal sets) ++ rest) ≡ yields (record { table = with_cores n (normal sets); rest = rest })
unfolding read_complete read_with_cores
table_back n sets rest a = ap (λ (o : Outcome ReadTable). and_then o read_with_cores) (read_written n sets rest a)

whole_back : (n : ℕ) (sets : List ℕ) → Accepted n sets
    → read_whole_complete (table_bytes n (normal sets)) ≡ yields (with_cores n (normal sets))
unfolding read_whole_complete
whole_back n sets a = ap (λ (o : Outcome ReadTable). and_then o (λ u. yields (with_cores u.n u.sets))) (whole_written n sets a)

-- what the writer writes is the normal table of accepted sets
table_due : (n : ℕ) (sets : List ℕ) {bytes : List ℕ} → write_table n sets ≡ yields bytes → Accepted n sets × (bytes ≡ table_bytes n (normal sets))
unfolding write_table
table_due n sets e =
    let first = first_result (normal_table n sets) (λ table. yields (table_bytes n table)) e in
    let table = table_accepted n sets first.0 first.1 in
    (table.0, sym (same_result first.2) ∙ ap (table_bytes n) table.1)

pub written_reads_back : WrittenReadsBack
unfolding WrittenReadsBack
written_reads_back n sets start old new r size w e =
    let there = stands (write_table n sets) start old new r size w e in
    let table = table_due n sets there.are_due in
    let rest = drop (start + size) old in
    record {
      with_rest = ap read_complete (there.from_start ∙ ap (λ (b : List ℕ). b ++ rest) table.1) ∙ table_back n sets rest table.0;
      alone =
          ap read_whole_complete (ap (take size) there.from_start ∙ (take_at there.bytes rest size there.many ∙ table.1)) ∙ whole_back n sets table.0;
    }

-- ---- a table that was read is its own normal table

normal_table_law : (n : ℕ) (sets : List ℕ) (t : Complete) → TableOf n sets t
    → Accepted t.n t.sets × (normal t.sets ≡ t.sets) × (with_cores t.n t.sets ≡ t)
unfolding with_cores
normal_table_law n sets t table =
    subst (λ (u : Complete). Accepted u.n u.sets × (normal u.sets ≡ u.sets) × (with_cores u.n u.sets ≡ u)) (sym table.is)
    (accepted_normal n sets table.accepted, normal_idempotent sets, refl)

pub reads_again : ReadsAgain
unfolding ReadsAgain WrittenReadsBack
reads_again s t read start old new r size w e =
    let found = read_table_law s read in
    let own = normal_table_law t.table.n found.0 t.table found.1 in
    subst (λ (u : Complete). ReadsBack u start size old new) (ap (with_cores t.table.n) own.1 ∙ own.2)
    (written_reads_back t.table.n t.table.sets start old new r size w e)

pub read_is_written : ReadIsWritten
unfolding ReadIsWritten write_table
read_is_written s t read =
    let found = read_table_law s read in
    let own = normal_table_law t.table.n found.0 t.table found.1 in
    ap (λ (o : Outcome (List ℕ)). and_then o (λ table. yields (table_bytes t.table.n table)))
    (accepted_table t.table.n t.table.sets own.0 ∙ ap yields own.1)
