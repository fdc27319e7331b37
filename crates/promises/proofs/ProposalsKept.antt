-- The numbers of records that are taken: what is read later is of higher drives, so each core drive keeps the number of
-- its record to the end.
use mathlib.Core.Path.{◌≡◌, refl, sym, ap, ◌∙◌, subst}
use mathlib.Core.Bool.{true, not, ◌&&◌}
use mathlib.Core.List.{List, [], ◌∷◌}
use mathlib.Core.Logic.{⊎_elim}
use Prim.Native.Nat.{ℕ, ◌-◌, ◌≤◌}
use native.Mathlib.Omega.{arith}
use lib.Dec.{eqb, leb, ltb}
use lib.ListN.{length, get_or}
use borrow.Author.Tests.{ltb-true, lt-ltb, not-false}
use Rattle.drive_sets.specs.Bools.Laws.{clash, by_test, and_intro, and_left, and_right, cond_true, cond_false}
use Rattle.drive_sets.specs.declared.Refusal.TheVariants.{DriveNumber}
use Rattle.drive_sets.specs.Lists.{all, elem}
use Rattle.drive_sets.specs.Lists.Laws.{elem_head, elem_tail, elem_cases, elem_none, all_elem, all_intro}
use Rattle.drive_sets.specs.Masks.{single, minus, lowest}
use Rattle.drive_sets.specs.Masks.OneDrive.{remove_keeps}
use Rattle.drive_sets.specs.Refusals.{yields}
use Rattle.drive_sets.specs.Refusals.Laws.{refused_no_result, same_result, passed, first_result}
use Rattle.records.specs.RecordLists.{ReadList, read_list}
use Rattle.records.specs.RecordLists.Laws.{read_keeps}
use Rattle.runs.specs.CrashRecords.{is_next}
use Rattle.runs.specs.CrashRecords.Laws.{next_bounds}
use Rattle.proposal_lists.specs.ProposalLists.{ProposalList, drive_at, number_at, with_proposal, proposal_list, ProposalRecord, record_drives}
use Rattle.proposal_lists.specs.ProposalLists.Laws.{was_taken, noted_length, noted_own, noted_other}
use Rattle.promises.specs.Listeners.{Own}
use Rattle.promises.proofs.ProposalsWritten.{says, says_all}

-- ---- later records keep what was read

pub record Extends (l t : ProposalList) : Type 0 where
  pub rises : l.last ≤ t.last
  pub stays : (d : ℕ) → 1 ≤ d → d ≤ l.last → get_or t.numbers (d - 1) 0 ≡ get_or l.numbers (d - 1) 0

pub kept_all : {l : ProposalList} → Extends l l
kept_all = record { rises = omega arith; stays = λ d low high. refl }

kept_then : {l t u : ProposalList} → Extends l t → Extends t u → Extends l u
kept_then j k = record {
  rises = omega (arith, j.rises, k.rises);
  stays = λ d low high. k.stays d low (omega (arith, j.rises)) ∙ j.stays d low high;
}

kept_one : (n : ℕ) (l : ProposalList) (d v : ℕ) → is_next n l.last d ≡ true → Extends l (with_proposal l d v)
unfolding with_proposal
kept_one n l d v next =
    let b = next_bounds n l.last d next in
    record { rises = omega (arith, b.2); stays = λ e low high. noted_other l d v e low (omega (arith, b.2)) }

-- so does reading on
pub read_kept : (n : ℕ) (l : ProposalList) (s : List ℕ) {p : ReadList ProposalList} → read_list (proposal_list n) l s ≡ yields p → Extends l p.list
unfolding read_list
read_kept n l s e =
    (read_keeps (proposal_list n) (λ t b. Extends l t) (λ t b u k going q. let w = was_taken n t b q in kept_then k (subst (Extends t) w.is (kept_one n t (drive_at b) (number_at b) w.next))) (length s) l s kept_all e).1

-- ---- records one after another

-- without a drive below them, what is owed is the same for these
own_more : (owed d : ℕ) → 1 ≤ d → d ≤ 64 → (numbers : List ℕ) (ps : List ProposalRecord) → all (ltb d) (record_drives ps) ≡ true → Own (minus owed (single d)) numbers ps → Own owed numbers ps
unfolding all
own_more owed d low high numbers [] above own = tt
own_more owed d low high numbers (p ∷ ps) above own = (
  (λ h. own.0 (remove_keeps d low high p.drive owed h (λ e. omega (arith, ltb-true d p.drive (and_left (ltb d p.drive) _ above))))),
  own_more owed d low high numbers ps (and_right (ltb d p.drive) _ above) own.1,
)

module _ (n : ℕ) (frame : n ≤ 64) where
  says_taken : (l : ProposalList) (p : ProposalRecord) {t : ProposalList} → says n l p ≡ yields t → (is_next n l.last p.drive ≡ true) × (with_proposal l p.drive p.number ≡ t)
  says_taken l p e =
      by_test (eqb l.owed 0 && leb n l.last)
      (λ t. absurd (refused_no_result (sym (cond_true _ _ t) ∙ e)))
      (λ t. let first = passed (not (is_next n l.last p.drive)) DriveNumber _ (sym (cond_false _ _ t) ∙ e) in
      let second = passed (ltb (lowest l.owed) p.drive) DriveNumber _ first.1 in
      (not-false (is_next n l.last p.drive) first.0, same_result second.1))

  -- each is above those before it, and its number stays to the end
  pub said_own : (ps : List ProposalRecord) (l : ProposalList) {t : ProposalList} → length l.numbers ≡ n → says_all n l ps ≡ yields t
      → {u : ProposalList} → Extends t u → Own l.owed u.numbers ps × Extends l u × (all (ltb l.last) (record_drives ps) ≡ true)
  unfolding says_all all with_proposal
  said_own [] l room e {u} k = (tt, subst (λ (x : ProposalList). Extends x u) (sym (same_result e)) k, refl)
  said_own (p ∷ ps) l room e {u} k =
      let w = first_result (says n l p) (λ x. says_all n x ps) e in
      let i = says_taken l p w.1 in
      let b = next_bounds n l.last p.drive i.0 in
      let next = with_proposal l p.drive p.number in
      let later = said_own ps next (noted_length l p.drive p.number ∙ room) (ap (λ (x : ProposalList). says_all n x ps) i.1 ∙ w.2) k in (
        (
          (λ h. later.1.stays p.drive b.0 (omega arith) ∙ noted_own l p.drive p.number h (omega (arith, b.0, b.1, room))),
          own_more l.owed p.drive b.0 (omega (arith, b.1)) u.numbers ps later.2 later.0,
        ),
        kept_then (kept_one n l p.drive p.number i.0) later.1,
        and_intro (lt-ltb l.last p.drive b.2) (all_intro (ltb l.last) (record_drives ps) (λ d h. lt-ltb l.last d (omega (arith, b.2, ltb-true p.drive d (all_elem (ltb p.drive) (record_drives ps) d later.2 h))))),
      )

  -- the last drive is that of a record, and no record's is above it
  pub said_last : (ps : List ProposalRecord) (l : ProposalList) {t : ProposalList} → says_all n l ps ≡ yields t
      → (elem t.last (l.last ∷ record_drives ps) ≡ true) × (l.last ≤ t.last) × ((d : ℕ) → elem d (record_drives ps) ≡ true → d ≤ t.last)
  unfolding says_all with_proposal
  said_last [] l e =
      let same = ap (λ (x : ProposalList). x.last) (same_result e) in
      (subst (λ (d : ℕ). elem d (l.last ∷ []) ≡ true) same (elem_head l.last []), omega (arith, same), λ d h. absurd (clash h (elem_none d)))
  said_last (p ∷ ps) l {t} e =
      let w = first_result (says n l p) (λ x. says_all n x ps) e in
      let i = says_taken l p w.1 in
      let later = said_last ps (with_proposal l p.drive p.number) (ap (λ (x : ProposalList). says_all n x ps) i.1 ∙ w.2) in (
        elem_tail t.last l.last (record_drives (p ∷ ps)) later.0,
        omega (arith, later.1, (next_bounds n l.last p.drive i.0).2),
        λ d h. ⊎_elim (λ q. omega (arith, later.1)) (later.2 d) (elem_cases d p.drive (record_drives ps) h),
      )
