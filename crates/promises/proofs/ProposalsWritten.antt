-- PR and PW records as they are written: what each says where it is read, one after another.
use mathlib.Core.Path.{◌≡◌, refl, sym, ap, ap₂, ◌∙◌}
use mathlib.Core.Bool.{Bool, true, false, not, ◌&&◌, ◌||◌, cond}
use mathlib.Core.List.{List, [], ◌∷◌, ◌++◌, append_assoc}
use Prim.Native.Nat.{ℕ, suc, ◌+◌, ◌-◌, ◌^◌, ◌≤◌, ◌<◌}
use native.Mathlib.Omega.{arith}
use lib.Dec.{eqb, leb}
use lib.ListN.{length, get_or, drop, length-append}
use lib.Seq.{take_at}
use Rattle.drive_sets.specs.Bools.Laws.{by_test, or_false, cond_true, cond_false}
use Rattle.drive_sets.specs.declared.Refusal.TheVariants.{WrongMark}
use Rattle.drive_sets.specs.Refusals.Laws.{then_same, then_assoc}
use Rattle.drive_sets.specs.Refusals.{Outcome, refused, yields, and_then, number}
use Rattle.records.specs.declared.Due.TheVariants.{AtProposal}
use Rattle.records.specs.declared.Kind.TheVariants.{End}
use Rattle.records.specs.Fields.{from_bytes, to_bytes, field_at}
use Rattle.records.specs.Fields.Laws.{length_to_bytes, field_back}
use Rattle.records.specs.Marks.{ascii, mark_text, mark, Form, narrow, wide, width_in, number_width, body_width, is_kind, is_due, kind_at}
use Rattle.records.specs.Marks.Laws.{head_body, head_present}
use Rattle.records.specs.RecordLists.{ReadList, read_from, read_list}
use Rattle.records.specs.RecordLists.Laws.{read_complete_law, read_enough}
use Rattle.records.specs.RecordLists.Written.{read_body}
use Rattle.proposal_lists.specs.ProposalLists.{ProposalList, no_proposal, placed, taken_proposal, proposals_end, proposal_list, ProposalRecord, proposal_kind, proposal_bytes, record_drives, record_numbers, RecordsFit}
use Rattle.run_files.specs.RunFiles.{read_behind}
use Rattle.run_files.specs.RunFiles.Laws.{behind_records, read_on, behind_is, behind_wrong}

-- ---- one record

proposal_due : (form : Form) → is_due AtProposal (proposal_kind form) ≡ true
unfolding proposal_kind is_due is_kind mark mark_text ascii from_bytes
proposal_due narrow = refl
proposal_due wide = refl

not_end : (form : Form) → is_kind End (proposal_kind form) ≡ false
unfolding proposal_kind is_kind mark mark_text ascii from_bytes
not_end narrow = refl
not_end wide = refl

-- the drive and the number are the body, and the number is as wide as the kind says
proposal_width : (form : Form) → (body_width (proposal_kind form) ≡ 1 + width_in form) × (number_width (proposal_kind form) ≡ width_in form)
unfolding proposal_kind body_width number_width
proposal_width narrow = (refl, refl)
proposal_width wide = (refl, refl)

module _ (p : ProposalRecord) where
  abbrev body : List ℕ
  body = to_bytes 1 p.drive ++ to_bytes (width_in p.form) p.number

  length_body : length body ≡ body_width (proposal_kind p.form)
  unfolding to_bytes
  length_body = omega (arith, length_to_bytes (width_in p.form) p.number, (proposal_width p.form).0)

  module _ (rest : List ℕ) where
    abbrev whole : List ℕ
    whole = to_bytes 2 (mark (proposal_kind p.form)) ++ (body ++ rest)

    length_whole : 3 + length rest ≤ length whole
    unfolding to_bytes
    length_whole = omega (arith, length-append (to_bytes (width_in p.form) p.number) rest)

    is_kind_law : kind_at whole ≡ proposal_kind p.form
    is_kind_law = (head_present AtProposal whole (proposal_kind p.form) (head_body AtProposal (proposal_kind p.form) (body ++ rest) (proposal_due p.form) (omega (arith, length_body, length-append body rest)))).is

    drive_back : p.drive < 256 → field_at 2 1 whole ≡ p.drive
    unfolding to_bytes from_bytes
    drive_back byte = omega arith

    number_back : p.number < 256 ^ width_in p.form → field_at 3 (number_width (kind_at whole)) whole ≡ p.number
    unfolding to_bytes
    number_back small =
        let width = width_in p.form in
        ap (λ (w : ℕ). field_at 3 w whole) (ap number_width is_kind_law ∙ (proposal_width p.form).1)
        ∙ (ap from_bytes (take_at (to_bytes width p.number) rest width (length_to_bytes width p.number)) ∙ field_back width p.number small)

-- ---- records one after another, and what stands behind them

module _ (n : ℕ) where
  -- what a record says: 2 behind drive n's where none is owed
  abbrev pub says : ProposalList → ProposalRecord → Outcome ProposalList
  says l p = cond (eqb l.owed 0 && leb n l.last) (refused (number WrongMark)) (placed n l p.drive p.number)

  unfoldable pub says_all : ProposalList → List ProposalRecord → Outcome ProposalList
  says_all l [] = yields l
  says_all l (p ∷ ps) = and_then (says l p) (λ t. says_all t ps)

  -- PR or PW makes no difference
  pub says_same : (ps qs : List ProposalRecord) (l : ProposalList) → record_drives ps ≡ record_drives qs → record_numbers ps ≡ record_numbers qs → says_all l ps ≡ says_all l qs
  unfolding says_all
  says_same [] [] l d v = refl
  says_same [] (q ∷ qs) l d v = let many = ap length d in absurd (omega arith)
  says_same (p ∷ ps) [] l d v = let many = ap length d in absurd (omega arith)
  says_same (p ∷ ps) (q ∷ qs) l d v =
      ap₂ (λ (x y : ℕ). and_then (cond (eqb l.owed 0 && leb n l.last) (refused (number WrongMark)) (placed n l x y)) (λ t. says_all t ps)) (ap (λ (m : List ℕ). get_or m 0 0) d) (ap (λ (m : List ℕ). get_or m 0 0) v)
      ∙ then_same (says l q) (λ t e. says_same ps qs t (ap (drop 1) d) (ap (drop 1) v))

  module _ (core : ℕ) (sets : List ℕ) where
    record_read : (p : ProposalRecord) (l : ProposalList) (rest : List ℕ) → p.drive < 256 → p.number < 256 ^ width_in p.form
        → read_on n core sets l (whole p rest) ≡ and_then (says l p) (λ t. read_on n core sets t rest)
    unfolding read_list proposals_end taken_proposal
    record_read p l rest byte small =
        by_test (eqb l.owed 0 && leb n l.last)
        (λ t. ap (λ (o : Outcome (ReadList ProposalList)). and_then o (behind_records n core sets)) (read_complete_law (proposal_list n) (length s) l s (ends ∙ t))
        ∙ (behind_wrong n core sets l.numbers s (omega (arith, length_whole p rest)) there
        ∙ sym (ap (λ (o : Outcome ProposalList). and_then o (λ x. read_on n core sets x rest)) (cond_true _ _ t))))
        (λ t. ap (λ (o : Outcome (ReadList ProposalList)). and_then o (behind_records n core sets))
        (ap (λ (k : ℕ). read_from (proposal_list n) k l s) more
        ∙ (read_body (proposal_list n) l rest (proposal_kind p.form) (length s - 1) (body p) (proposal_due p.form) (not_end p.form) (length_body p) (ends ∙ t)
        ∙ ap (λ (o : Outcome ProposalList). and_then o (λ x. read_from (proposal_list n) (length s - 1) x rest)) (ap₂ (placed n l) (drive_back p rest byte) (number_back p rest small))))
        ∙ (then_assoc (placed n l p.drive p.number) (λ x. read_from (proposal_list n) (length s - 1) x rest) (behind_records n core sets)
        ∙ (then_same (placed n l p.drive p.number) (λ x e. ap (λ (o : Outcome (ReadList ProposalList)). and_then o (behind_records n core sets)) (read_enough (proposal_list n) (length s - 1) x rest (omega (arith, length_whole p rest))))
        ∙ sym (ap (λ (o : Outcome ProposalList). and_then o (λ x. read_on n core sets x rest)) (cond_false _ _ t)))))
      where
        s : List ℕ
        s = whole p rest

        more : length s ≡ suc (length s - 1)
        more = omega (arith, length_whole p rest)

        there : is_due AtProposal (kind_at s) ≡ true
        there = ap (is_due AtProposal) (is_kind_law p rest) ∙ proposal_due p.form

        ends : proposals_end n l.last l.owed s ≡ (eqb l.owed 0 && leb n l.last)
        ends = ap (λ (b : Bool). eqb l.owed 0 && (leb n l.last || not b)) there ∙ ap (λ (b : Bool). eqb l.owed 0 && b) (or_false (leb n l.last))

    pub written_read : (ps : List ProposalRecord) (l : ProposalList) (rest : List ℕ) → RecordsFit ps
        → read_on n core sets l (proposal_bytes ps ++ rest) ≡ and_then (says_all l ps) (λ t. read_on n core sets t rest)
    unfolding says_all proposal_bytes
    written_read [] l rest fit = refl
    written_read (p ∷ ps) l rest fit =
        ap (read_on n core sets l)
        (append_assoc (to_bytes 2 (mark (proposal_kind p.form))) (body p ++ proposal_bytes ps) rest
        ∙ ap (λ (s : List ℕ). to_bytes 2 (mark (proposal_kind p.form)) ++ s) (append_assoc (body p) (proposal_bytes ps) rest))
        ∙ (record_read p l (proposal_bytes ps ++ rest) fit.0 fit.1
        ∙ (then_same (says l p) (λ t e. written_read ps t rest fit.2)
        ∙ sym (then_assoc (says l p) (λ t. says_all t ps) (λ t. read_on n core sets t rest))))

    -- a run file that starts with these records
    pub file_read : (ps : List ProposalRecord) (rest : List ℕ) → RecordsFit ps
        → read_behind n core sets (proposal_bytes ps ++ rest) ≡ and_then (says_all (no_proposal n core) ps) (λ t. read_on n core sets t rest)
    file_read ps rest fit = behind_is n core sets (proposal_bytes ps ++ rest) ∙ written_read ps (no_proposal n core) rest fit
