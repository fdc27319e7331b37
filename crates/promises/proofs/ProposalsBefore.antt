-- The PR and PW records of an old file, as they were read before and as they are read now: what was taken is taken,
-- and core drives have the same numbers.
use mathlib.Core.Path.{◌≡◌, refl, sym, ap, ◌∙◌, subst}
use mathlib.Core.Bool.{Bool, true, false, not, ◌&&◌}
use mathlib.Core.List.{List, [], ◌∷◌, ◌++◌}
use mathlib.Core.Option.{Option, none, some}
use Prim.Native.Nat.{ℕ, zero, suc, ◌-◌, ◌^◌, ◌≤◌, ◌<◌}
use native.Mathlib.Nat.{lt_of_lt_of_le}
use native.Mathlib.Omega.{arith}
use lib.Dec.{eqb, leb, ltb}
use lib.Pow.{pow_mono}
use lib.ListN.{length, get_or, drop, length-append, length-replicate, get_or-append}
use lib.Seq.{get_or-append_seam}
use borrow.Author.Tests.{eq-eqb, ne_eqb, eqb-true, eqb-false, le-leb, lt-leb, leb-true, leb-false, lt-ltb, le-ltb, ltb-true, ltb-false, not-false}
use Rattle.drive_sets.specs.Bools.Laws.{clash, by_test, and_intro, and_right, and_fails_right, or_left, or_neither, cond_false}
use Rattle.drive_sets.specs.Masks.{has, single, lowest}
use Rattle.drive_sets.specs.Masks.Laws.{has_bounds, none_has, minus_lt}
use Rattle.drive_sets.specs.Masks.OneDrive.{has_remove}
use Rattle.drive_sets.specs.Masks.Sizes.{lowest_from}
use Rattle.drive_sets.specs.Counts.{is_drive}
use Rattle.drive_sets.specs.declared.Refusal.TheVariants.{DriveNumber}
use Rattle.drive_sets.specs.Refusals.{Outcome, yields, and_then}
use Rattle.drive_sets.specs.Refusals.Laws.{refused_no_result, same_result, passed, first_result}
use Rattle.records.specs.declared.Due.TheVariants.{AtProposal}
use Rattle.records.specs.Fields.{from_bytes}
use Rattle.records.specs.Marks.{ascii, mark_text, mark, is_kind, is_due, width_at}
use Rattle.records.specs.Marks.Laws.{head_present}
use Rattle.records.specs.RecordLists.{ReadList, step_of, following, read_from}
use Rattle.records.specs.RecordLists.Laws.{other_next, one_there, step_end, step_more, read_complete_law}
use Rattle.runs.specs.CrashRecords.{is_next}
use Rattle.proposal_lists.specs.ProposalLists.{ProposalList, drive_at, number_at, no_proposal, placed, with_proposal, taken_proposal, proposals_end, proposal_list}
use Rattle.proposal_lists.specs.ProposalLists.Laws.{noted_length, noted_own, noted_other}
use Rattle.promises.specs.Listeners.{taken_before, list_before}

module _ (n core : ℕ) (frame : n ≤ 64) (within : core < 2 ^ n) where
  -- as many drives were read before as now, and core drives have the same numbers; the core drives above are owed
  pub record Matching (given : List ℕ) (l : ProposalList) : Type 0 where
    pub few : length given ≤ n
    pub last : l.last ≡ length given
    pub room : length l.numbers ≡ n
    pub word : l.owed < 2 ^ 64
    pub owed : (d : ℕ) → has d l.owed ≡ (has d core && ltb (length given) d)
    pub same : (d : ℕ) → has d core ≡ true → d ≤ length given → get_or l.numbers (d - 1) 0 ≡ get_or given (d - 1) 0

  pub alike_start : Matching [] (no_proposal n core)
  alike_start = record {
    few = omega arith;
    last = refl;
    room = length-replicate n 0;
    word = lt_of_lt_of_le within (pow_mono {i = n} {j = 64} frame);
    owed = λ d. by_test (has d core) (λ t. rw (t, lt-ltb 0 d (omega (arith, has_bounds n d core within t)))) (λ t. rw t);
    same = λ d h high. absurd (omega (arith, has_bounds n d core within h));
  }

  module _ {given : List ℕ} {l : ProposalList} (a : Matching given l) where
    -- behind drive n none is owed
    none_left : n ≤ length given → l.owed ≡ 0
    none_left h =
        none_has 64 l.owed a.word (λ d. a.owed d ∙ by_test (has d core) (λ t. rw (t, le-ltb (length given) d (omega (arith, has_bounds n d core within t)))) (λ t. rw t))

    module _ (h : length given < n) where
      -- the next drive's record is in its place
      in_place : (v : ℕ) → placed n l (suc (length given)) v ≡ yields (with_proposal l (suc (length given)) v)
      unfolding is_next is_drive
      in_place v =
          rw (le-leb 1 (suc (length given)) (omega arith), le-leb (suc (length given)) n h, lt-ltb l.last (suc (length given)) (omega (arith, a.last)), le-ltb (lowest l.owed) (suc (length given)) (lowest_from l.owed (suc (length given)) a.word (omega arith) (λ e t. ltb-true (length given) e (and_right (has e core) _ (sym (a.owed e) ∙ t)))))

      alike_more : (v : ℕ) → Matching (given ++ (v ∷ [])) (with_proposal l (suc (length given)) v)
      unfolding with_proposal
      alike_more v =
          let more : length (given ++ (v ∷ [])) ≡ suc (length given) = length-append given (v ∷ []) ∙ omega arith in
          record {
            few = omega (arith, more);
            last = sym more;
            room = noted_length l (suc (length given)) v ∙ a.room;
            word = minus_lt 64 l.owed (single (suc (length given))) a.word;
            owed = λ d.
                has_remove (suc (length given)) (omega arith) (omega arith) d l.owed
                ∙ (ap (λ (b : Bool). b && not (eqb d (suc (length given)))) (a.owed d) ∙ (less d (has d core) ∙ ap (λ (k : ℕ). has d core && ltb k d) (sym more)));
            same = λ d t high.
                by_test (eqb d (suc (length given)))
                (λ e. subst (λ (x : ℕ). get_or (with_proposal l (suc (length given)) v).numbers (x - 1) 0 ≡ get_or (given ++ (v ∷ [])) (x - 1) 0) (sym (eqb-true d (suc (length given)) e))
                (own v (a.owed (suc (length given)) ∙ and_intro (subst (λ (x : ℕ). has x core ≡ true) (eqb-true d (suc (length given)) e) t) (lt-ltb (length given) (suc (length given)) (omega arith)))))
                (λ e. let below : d < suc (length given) = omega (arith, more, eqb-false d (suc (length given)) e) in
                let low = (has_bounds n d core within t).0 in
                noted_other l (suc (length given)) v d low below ∙ (a.same d t (omega arith) ∙ sym (get_or-append given (v ∷ []) 0 (d - 1) (omega arith))));
          }
        where
          less : (d : ℕ) (b : Bool) → ((b && ltb (length given) d) && not (eqb d (suc (length given)))) ≡ (b && ltb (suc (length given)) d)
          less d false = refl
          less d true =
              by_test (ltb (suc (length given)) d)
              (λ t. let up = ltb-true (suc (length given)) d t in rw (t, lt-ltb (length given) d (omega arith), ne_eqb d (suc (length given)) (λ e. omega arith)))
              (λ t. let high = ltb-false (suc (length given)) d t in
              by_test (eqb d (suc (length given))) (λ e. rw (t, e) (and_fails_right (ltb (length given) d) refl)) (λ e. rw (t, le-ltb (length given) d (omega (arith, eqb-false d (suc (length given)) e)))))

          own : (v : ℕ) → has (suc (length given)) l.owed ≡ true → get_or (with_proposal l (suc (length given)) v).numbers (suc (length given) - 1) 0 ≡ get_or (given ++ (v ∷ [])) (suc (length given) - 1) 0
          own v owed =
              let place : suc (length given) - 1 ≡ length given = omega arith in
              noted_own l (suc (length given)) v owed (omega (arith, a.room)) ∙ sym (ap (λ (i : ℕ). get_or (given ++ (v ∷ [])) i 0) place ∙ get_or-append_seam given v [] 0)

  -- ---- reading

  -- what was read is read: the bytes behind it are the same, and all drives were read
  pub record Still (bytes : ℕ) (l : ProposalList) (s : List ℕ) (p : ReadList (List ℕ)) : Type 0 where
    pub now_read : ReadList ProposalList
    pub reads : read_from (proposal_list n) bytes l s ≡ yields now_read
    pub behind : now_read.rest ≡ p.rest
    pub alike : Matching p.list now_read.list
    pub whole : n ≤ length p.list

  -- where drive n was read, both end
  still_ended : (bytes : ℕ) (given : List ℕ) (l : ProposalList) (s : List ℕ) {p : ReadList (List ℕ)} → Matching given l → leb n (length given) ≡ true → read_from (list_before n) bytes given s ≡ yields p → Still bytes l s p
  unfolding proposals_end
  still_ended bytes given l s a t e =
      subst (Still bytes l s) (same_result (sym (read_complete_law (list_before n) bytes given s t) ∙ e)) (record {
        now_read = record { list = l; rest = s };
        reads = read_complete_law (proposal_list n) bytes l s (and_intro (eq-eqb l.owed 0 (none_left a (leb-true n (length given) t))) (or_left _ (le-leb n l.last (omega (arith, a.last, leb-true n (length given) t)))));
        behind = refl;
        alike = a;
        whole = leb-true n (length given) t;
      })

  -- one record that was taken is taken
  module _ {given : List ℕ} {l : ProposalList} (a : Matching given l) (going : leb n (length given) ≡ false) (s : List ℕ) where
    abbrev next : ProposalList
    next = with_proposal l (suc (length given)) (number_at s)

    record Step (t : List ℕ) : Type 0 where
      goes_on : proposals_end n l.last l.owed s ≡ false
      steps : step_of (proposal_list n) l s ≡ yields (some next)
      alike : Matching t next

    step_still : {t : List ℕ} → step_of (list_before n) given s ≡ yields (some t) → Step t
    unfolding step_of taken_before taken_proposal proposals_end is_due is_kind mark mark_text ascii from_bytes
    step_still {t} e =
        let w = step_more (list_before n) given s e in
        let one = one_there AtProposal (length given) s w.0 in
        let there = head_present AtProposal s one.0 one.2 in
        let drive = passed (not (eqb (drive_at s) (suc (length given)))) DriveNumber _ w.1 in
        let few = leb-false n (length given) going in
        record {
          goes_on = and_fails_right (eqb l.owed 0) (or_neither (lt-leb n l.last (omega (arith, a.last))) (ap not (ap (is_due AtProposal) there.is ∙ there.is_due_law)));
          steps = rw (other_next AtProposal 0 s one.0 refl one.2, eqb-true (drive_at s) (suc (length given)) (not-false (eqb (drive_at s) (suc (length given))) drive.0), in_place a few (number_at s));
          alike = subst (λ (x : List ℕ). Matching x next) (same_result drive.1) (alike_more a few (number_at s));
        }

    -- EN was not due
    no_end : step_of (list_before n) given s ≡ yields none → ⊥
    unfolding is_due is_kind mark mark_text ascii from_bytes
    no_end e = clash (step_end (list_before n) given s e).is_due_law refl

  pub still_read : (bytes : ℕ) (given : List ℕ) (l : ProposalList) (s : List ℕ) {p : ReadList (List ℕ)} → Matching given l → read_from (list_before n) bytes given s ≡ yields p → Still bytes l s p
  unfolding read_from
  still_read zero given l s a e = by_test (leb n (length given)) (λ t. still_ended zero given l s a t e) (λ t. absurd (refused_no_result (sym (cond_false _ _ t) ∙ e)))
  still_read (suc bytes) given l s {p} a e =
      by_test (leb n (length given)) (λ t. still_ended (suc bytes) given l s a t e)
      (λ t. let w = first_result (step_of (list_before n) given s) (following (list_before n) (read_from (list_before n) bytes) given s) (sym (cond_false _ _ t) ∙ e) in
      go t w.0 w.1 w.2 (λ x m b. still_read bytes x m (drop (width_at s) s) b))
    where
      go : leb n (length given) ≡ false → (o : Option (List ℕ)) → step_of (list_before n) given s ≡ yields o → following (list_before n) (read_from (list_before n) bytes) given s o ≡ yields p
          → ((x : List ℕ) (m : ProposalList) → Matching x m → read_from (list_before n) bytes x (drop (width_at s) s) ≡ yields p → Still bytes m (drop (width_at s) s) p) → Still (suc bytes) l s p
      go t none step f later = absurd (no_end a t s step)
      go t (some x) step f later =
          let i = step_still a t s step in
          let r = later x (next a t s) i.alike f in
          record {
            now_read = r.now_read;
            reads = cond_false _ _ i.goes_on ∙ (ap (λ (o : Outcome (Option ProposalList)). and_then o (following (proposal_list n) (read_from (proposal_list n) bytes) l s)) i.steps ∙ r.reads);
            behind = r.behind;
            alike = r.alike;
            whole = r.whole;
          }
