-- Run files whose PR and PW stand in their places: what stands behind them decides, or the record that is missing or
-- out of order is refused.
use mathlib.Core.Path.{◌≡◌, ap, ◌∙◌, subst}
use mathlib.Core.Bool.{true, false, not, ◌&&◌}
use mathlib.Core.List.{List, [], ◌∷◌, ◌++◌}
use mathlib.Core.Logic.{⊎_elim}
use Prim.Native.Nat.{ℕ, suc, ◌<◌}
use native.Mathlib.Omega.{arith}
use lib.Dec.{eqb, leb, ltb}
use lib.ListN.{length, length-replicate}
use borrow.Author.Tests.{eq-eqb, ne_eqb, lt-leb, lt-ltb, ltb-true}
use Rattle.drive_sets.specs.Bools.Laws.{clash, by_test, false_of, and_intro, and_left, and_right, and_fails_left, and_fails_right, or_right}
use Rattle.drive_sets.specs.Counts.{is_drive}
use Rattle.drive_sets.specs.Counts.Laws.{drive_bounds}
use Rattle.drive_sets.specs.Lists.{elem}
use Rattle.drive_sets.specs.Lists.Laws.{elem_cases, all_elem, all_intro}
use Rattle.drive_sets.specs.Masks.{has, lowest}
use Rattle.drive_sets.specs.Masks.Laws.{has_none, has_bounds, none_has}
use Rattle.drive_sets.specs.Masks.Sizes.{lowest_least}
use Rattle.drive_sets.specs.declared.Refusal.TheVariants.{DriveNumber}
use Rattle.drive_sets.specs.Refusals.{Outcome, refused, yields, and_then, number}
use Rattle.survivor_tables.specs.Order.{normal}
use Rattle.survivor_tables.specs.Tables.{chosen, chosen_core, Accepted}
use Rattle.survivor_tables.proofs.Tables.Laws.{accepted_table, chosen_core_law}
use Rattle.records.specs.RecordLists.{ReadList, read_list}
use Rattle.records.specs.RecordLists.Laws.{read_complete_law, read_wrong}
use Rattle.runs.specs.CrashRecords.{is_next}
use Rattle.proposal_lists.specs.ProposalLists.{ProposalList, no_proposal, proposals_end, proposal_list, ProposalRecord, proposal_bytes, record_drives, RecordsFit}
use Rattle.run_files.specs.RunFiles.{read_behind, read_run_file}
use Rattle.run_files.specs.RunFiles.Laws.{behind_records, read_on}
use Rattle.promises.specs.Listeners.{InPlace, NewRunFiles, MissingRecords, OutOfOrder}
use Rattle.promises.proofs.ProposalsWritten.{says, says_all, written_read, file_read}
use Rattle.promises.proofs.ProposalsKept.{kept_all, said_own, said_last}
use Rattle.promises.proofs.ProposalsInPlace.{AllTaken, all_read}

module _ (n : ℕ) (sets : List ℕ) (a : Accepted n sets) (c : ℕ) (ps : List ProposalRecord) (fit : RecordsFit ps) (places : InPlace n (chosen (normal sets)) c ps) where
  abbrev core : ℕ
  core = chosen (normal sets)

  abbrev read : AllTaken n c a.high (no_proposal n core) ps
  read = all_read n core c a.high (chosen_core_law n sets a).within ps places

  -- what stands behind the records
  behind_records_law : (rest : List ℕ) → read_run_file n sets (proposal_bytes ps ++ rest) ≡ read_on n core sets read.end rest
  unfolding read_run_file chosen_core
  behind_records_law rest =
      ap (λ (o : Outcome (List ℕ)). and_then (and_then o (λ table. yields (chosen table))) (λ k. read_behind n k sets (proposal_bytes ps ++ rest))) (accepted_table n sets a)
      ∙ (file_read n core sets ps rest fit ∙ ap (λ (o : Outcome ProposalList). and_then o (λ x. read_on n core sets x rest)) read.says_end)

  -- one record more that is refused
  behind_record : (p : ProposalRecord) → RecordsFit (p ∷ []) → (rest : List ℕ) {q : ℕ} → says n read.end p ≡ refused q → read_run_file n sets (proposal_bytes ps ++ (proposal_bytes (p ∷ []) ++ rest)) ≡ refused q
  unfolding says_all
  behind_record p one rest e =
      behind_records_law (proposal_bytes (p ∷ []) ++ rest)
      ∙ (written_read n core sets (p ∷ []) read.end rest one ∙ ap (λ (o : Outcome ProposalList). and_then (and_then o (λ x. says_all n x [])) (λ x. read_on n core sets x rest)) e)

pub new_run_files : NewRunFiles
unfolding NewRunFiles proposals_end read_list
new_run_files n sets a ps fit places =
    let t = read n sets a (suc n) ps fit places in
    let none_owed = none_has 64 t.end.owed t.word (λ d. false_of (has d t.end.owed) (λ h. let w = t.none_below d h in omega (arith, w.1, has_bounds n d (chosen (normal sets)) (chosen_core_law n sets a).within w.0))) in
    record {
      numbers = t.end.numbers;
      own = (said_own n a.high ps (no_proposal n (chosen (normal sets))) (length-replicate n 0) t.says_end kept_all).0;
      reads = λ rest h.
          behind_records_law n sets a (suc n) ps fit places rest
          ∙ ap (λ (o : Outcome (ReadList ProposalList)). and_then o (behind_records n (chosen (normal sets)) sets))
          (read_complete_law (proposal_list n) (length rest) t.end rest (and_intro (eq-eqb t.end.owed 0 none_owed) (or_right (leb n t.end.last) (ap not h))));
    }

-- a record above one that is owed
above_owed : (n : ℕ) (l : ProposalList) (p : ProposalRecord) → eqb l.owed 0 ≡ false → ltb (lowest l.owed) p.drive ≡ true → says n l p ≡ refused (number DriveNumber)
above_owed n l p some above = by_test (is_next n l.last p.drive) (λ t. rw (some, t, above)) (λ t. rw (some, t))

pub missing_records : MissingRecords
unfolding MissingRecords proposals_end says_all
missing_records n sets a c inside ps fit places =
    let t = read n sets a c ps fit places in
    let owed = t.still_owed c inside (omega arith) in
    let some_owed = ne_eqb t.end.owed 0 (λ e. clash (subst (λ (m : ℕ). has c m ≡ true) e owed) (has_none c)) in
    record {
      mark = λ rest long wrong.
          behind_records_law n sets a c ps fit places rest
          ∙ ap (λ (o : Outcome (ReadList ProposalList)). and_then o (behind_records n (chosen (normal sets)) sets)) (read_wrong (proposal_list n) t.end rest (and_fails_left _ some_owed) long wrong);
      later = λ p one above rest.
          behind_record n sets a c ps fit places p one rest
          (above_owed n t.end p some_owed (lt-ltb (lowest t.end.owed) p.drive (omega (arith, lowest_least c t.end.owed t.word owed))));
    }

pub out_of_order : OutOfOrder
unfolding OutOfOrder is_next
out_of_order n sets a c ps fit places no_n p one place rest =
    let t = read n sets a c ps fit places in
    let k = said_last n a.high ps (no_proposal n (chosen (normal sets))) t.says_end in
    let more : t.end.last < n =
    ⊎_elim (λ e. omega (arith, a.low))
    (λ h. let b = drive_bounds n t.end.last (and_left (is_drive n t.end.last) _ (all_elem (λ d. is_drive n d && ltb d c) (record_drives ps) t.end.last places.in_frame h)) in
    let other : t.end.last ≡ n → ⊥ = λ e. clash (subst (λ (d : ℕ). elem d (record_drives ps) ≡ true) e h) no_n in
    omega (arith, b.1, other))
    (elem_cases t.end.last 0 (record_drives ps) k.0) in
    let not_next : is_next n t.end.last p.drive ≡ false = false_of (is_next n t.end.last p.drive) (λ h.
    let up = ltb-true t.end.last p.drive (and_right (is_drive n p.drive) _ h) in
    clash (and_intro (and_left (is_drive n p.drive) _ h) (all_intro (λ d. ltb d p.drive) (record_drives ps) (λ d i. lt-ltb d p.drive (omega (arith, k.2 d i))))) place) in
    behind_record n sets a c ps fit places p one rest (rw (and_fails_right (eqb t.end.owed 0) (lt-leb n t.end.last more), not_next))
