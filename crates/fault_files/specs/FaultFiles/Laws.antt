-- Fault lists read back as written, and what is read is a fault list in normal form, as the call given n and groups has
-- it.
use Rattle.std.specs.Prelude.{◌≡◌, not, List, [], ℕ}
use Rattle.std.proofs.Common.{sym, ap, ◌∙◌, subst, append-nil}
use Rattle.std.proofs.lemmas.Bool.{not-false}
use Rattle.drive_sets.specs.declared.Refusal.TheVariants.{TrailingBytes}
use Rattle.drive_sets.specs.Refusals.{Outcome, yields, refuse_if, and_then}
use Rattle.drive_sets.specs.Refusals.Laws.{passed, first_result, same_result, then_then}
use Rattle.survivor_tables.specs.declared.frames.MaskKind.TheVariants.{FaultGroup}
use Rattle.survivor_tables.specs.Tables.{is_empty, within_core_limit}
use Rattle.survivor_tables.proofs.Tables.Laws.{Checked, checked_masks_law}
use Rattle.table_files.specs.Files.{ReadTable, read_listed}
use Rattle.table_files.specs.Files.Laws.{empty_is, listed_read, listed_checked}
use Rattle.fault_lists.specs.FaultLists.{rests, largest, table_from_faults, fault_list}
use Rattle.fault_lists.proofs.FaultLists.Laws.{list_again}
use Rattle.fault_files.specs.FaultFiles.{accepted_faults, read_faults, fault_bytes}

-- ---- what is listed meets nothing but 13, and is the fault list of n and groups

abbrev pub list_read : ℕ → List ℕ → List ℕ → Outcome ReadTable
list_read n rest list = yields (record { n = n; sets = list; rest = rest })

pub accepted_list : (n : ℕ) (groups rest : List ℕ) → Checked FaultGroup n groups
    → accepted_faults (record { n = n; sets = groups; rest = rest }) ≡ and_then (fault_list n groups) (list_read n rest)
unfolding accepted_faults fault_list table_from_faults
accepted_list n groups rest c =
    sym (ap (λ (o : Outcome (List ℕ)). and_then (and_then (and_then o (λ faults. within_core_limit (rests n faults))) (λ table. yields (largest groups))) (list_read n rest))
    (checked_masks_law FaultGroup n groups c)
    ∙ then_then (within_core_limit (rests n groups)) (λ table. largest groups) (list_read n rest))

-- ---- read back as written

pub faults_written : (n : ℕ) (groups : List ℕ) {list : List ℕ} → fault_list n groups ≡ yields list
    → read_faults (fault_bytes n list) ≡ yields (record { n = n; sets = list; rest = [] })
unfolding read_faults is_empty
faults_written n groups {list} e =
    let again = list_again n groups e in
    ap (λ (o : Outcome ReadTable). and_then o (λ t. refuse_if (not (is_empty t.rest)) TrailingBytes (accepted_faults t)))
    (ap (read_listed FaultGroup) (sym (append-nil (fault_bytes n list))) ∙ listed_read FaultGroup n list [] again.0)
    ∙ (accepted_list n list [] again.0 ∙ ap (λ (o : Outcome (List ℕ)). and_then o (list_read n [])) again.1)

-- ---- what is read is in normal form, and nothing stands behind

pub faults_read : (s : List ℕ) {t : ReadTable} → read_faults s ≡ yields t → (fault_list t.n t.sets ≡ yields t.sets) × (t.rest ≡ [])
unfolding read_faults
faults_read s {t} e =
    let listed = first_result (read_listed FaultGroup s) (λ u. refuse_if (not (is_empty u.rest)) TrailingBytes (accepted_faults u)) e in
    let u = listed.0 in
    let none = passed (not (is_empty u.rest)) TrailingBytes (accepted_faults u) listed.2 in
    let list = first_result (fault_list u.n u.sets) (list_read u.n u.rest) (sym (accepted_list u.n u.sets u.rest (listed_checked FaultGroup s listed.1)) ∙ none.1) in
    subst (λ (r : ReadTable). (fault_list r.n r.sets ≡ yields r.sets) × (r.rest ≡ [])) (same_result list.2) (
      (list_again u.n u.sets list.1).1,
      empty_is u.rest (not-false (is_empty u.rest) none.0),
    )
