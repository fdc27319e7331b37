-- PR and PW records in their places: all are taken, and behind them none is owed of a drive below c.
use mathlib.Core.Path.{◌≡◌, refl, ap, ◌∙◌}
use mathlib.Core.Bool.{true, ◌&&◌}
use mathlib.Core.List.{List, [], ◌∷◌}
use mathlib.Core.Logic.{⊎_elim}
use Prim.Native.Nat.{ℕ, ◌^◌, ◌≤◌, ◌<◌}
use native.Mathlib.Nat.{lt_of_lt_of_le}
use native.Mathlib.Omega.{arith}
use lib.Dec.{eqb, ltb}
use lib.Pow.{pow_mono}
use borrow.Author.Tests.{ltb-true, ltb-false, lt-ltb, le-ltb, lt-leb}
use Rattle.drive_sets.specs.Bools.Laws.{clash, by_test, and_intro, and_left, and_right, and_fails_right}
use Rattle.drive_sets.specs.Counts.{is_drive}
use Rattle.drive_sets.specs.Counts.Laws.{drive_bounds}
use Rattle.drive_sets.specs.Lists.{all, elem, ordered}
use Rattle.drive_sets.specs.Lists.Laws.{elem_cases, elem_none, all_elem, all_intro}
use Rattle.drive_sets.specs.Masks.{has, single, lowest}
use Rattle.drive_sets.specs.Masks.Laws.{minus_lt}
use Rattle.drive_sets.specs.Masks.OneDrive.{remove_keeps, remove_has}
use Rattle.drive_sets.specs.Masks.Sizes.{lowest_from}
use Rattle.drive_sets.specs.Refusals.{Outcome, yields, and_then}
use Rattle.runs.specs.CrashRecords.{is_next}
use Rattle.proposal_lists.specs.ProposalLists.{ProposalList, no_proposal, with_proposal, ProposalRecord, record_drives}
use Rattle.promises.specs.Listeners.{InPlace}
use Rattle.promises.proofs.ProposalsWritten.{says, says_all}

module _ (n c : ℕ) (frame : n ≤ 64) where
  -- the records to come rise from the last, and what is owed of drives below c is among them
  record Ready (l : ProposalList) (ps : List ProposalRecord) : Type 0 where
    word : l.owed < 2 ^ 64
    rising : ordered ltb (l.last ∷ record_drives ps) ≡ true
    in_frame : all (λ d. is_drive n d && ltb d c) (record_drives ps) ≡ true
    owed : (d : ℕ) → has d l.owed ≡ true → d < c → elem d (record_drives ps) ≡ true

  -- all are taken, and what is owed in the end
  pub record AllTaken (l : ProposalList) (ps : List ProposalRecord) : Type 0 where
    pub end : ProposalList
    pub says_end : says_all n l ps ≡ yields end
    pub word : end.owed < 2 ^ 64
    pub none_below : (d : ℕ) → has d end.owed ≡ true → (has d l.owed ≡ true) × (c ≤ d)
    pub still_owed : (d : ℕ) → has d l.owed ≡ true → c ≤ d → has d end.owed ≡ true

  module _ (l : ProposalList) (p : ProposalRecord) (ps : List ProposalRecord) (r : Ready l (p ∷ ps)) where
    above : ltb l.last p.drive ≡ true
    unfolding ordered all
    above = and_left (ltb l.last p.drive) _ (and_left (all (ltb l.last) (record_drives (p ∷ ps))) (ordered ltb (record_drives (p ∷ ps))) r.rising)

    later : ordered ltb (p.drive ∷ record_drives ps) ≡ true
    unfolding ordered
    later = and_right (all (ltb l.last) (record_drives (p ∷ ps))) (ordered ltb (record_drives (p ∷ ps))) r.rising

    behind : all (ltb p.drive) (record_drives ps) ≡ true
    unfolding ordered
    behind = and_left (all (ltb p.drive) (record_drives ps)) (ordered ltb (record_drives ps)) later

    here : is_drive n p.drive ≡ true
    unfolding all
    here = and_left (is_drive n p.drive) _ (and_left (is_drive n p.drive && ltb p.drive c) _ r.in_frame)

    below : p.drive < c
    unfolding all
    below = ltb-true p.drive c (and_right (is_drive n p.drive) _ (and_left (is_drive n p.drive && ltb p.drive c) _ r.in_frame))

    taken : says n l p ≡ yields (with_proposal l p.drive p.number)
    unfolding is_next
    taken =
        rw (
          and_fails_right (eqb l.owed 0) (lt-leb n l.last (omega (arith, ltb-true l.last p.drive above, drive_bounds n p.drive here))),
          here,
          above,
          le-ltb (lowest l.owed) p.drive (lowest_from l.owed p.drive r.word (omega (arith, drive_bounds n p.drive here)) owed_from),
        )
      where
        owed_from : (e : ℕ) → has e l.owed ≡ true → p.drive ≤ e
        owed_from e h =
            by_test (ltb e c)
            (λ t. ⊎_elim (λ q. omega arith) (λ q. omega (arith, ltb-true p.drive e (all_elem (ltb p.drive) (record_drives ps) e behind q))) (elem_cases e p.drive (record_drives ps) (r.owed e h (ltb-true e c t))))
            (λ t. omega (arith, ltb-false e c t, below))

    ready : Ready (with_proposal l p.drive p.number) ps
    unfolding with_proposal all
    ready =
        let b = drive_bounds n p.drive here in
        record {
          word = minus_lt 64 l.owed (single p.drive) r.word;
          rising = later;
          in_frame = and_right (is_drive n p.drive && ltb p.drive c) _ r.in_frame;
          owed = λ d h low.
              let w = remove_has p.drive b.0 (omega (arith, b.1)) d l.owed h in
              ⊎_elim (λ e. absurd (w.1 e)) (λ e. e) (elem_cases d p.drive (record_drives ps) (r.owed d w.0 low));
        }

  all_taken : (ps : List ProposalRecord) (l : ProposalList) → Ready l ps → AllTaken l ps
  unfolding says_all with_proposal
  all_taken [] l r = record {
    end = l;
    says_end = refl;
    word = r.word;
    none_below = λ d h. (h, by_test (ltb d c) (λ t. absurd (clash (r.owed d h (ltb-true d c t)) (elem_none d))) (ltb-false d c));
    still_owed = λ d h low. h;
  }
  all_taken (p ∷ ps) l r =
      let b = drive_bounds n p.drive (here l p ps r) in
      let high : p.drive ≤ 64 = omega (arith, b.1) in
      let t = all_taken ps (with_proposal l p.drive p.number) (ready l p ps r) in
      record {
        end = t.end;
        says_end = ap (λ (o : Outcome ProposalList). and_then o (λ x. says_all n x ps)) (taken l p ps r) ∙ t.says_end;
        word = t.word;
        none_below = λ d h. let w = t.none_below d h in ((remove_has p.drive b.0 high d l.owed w.0).0, w.1);
        still_owed = λ d h from. t.still_owed d (remove_keeps p.drive b.0 high d l.owed h (λ e. omega (arith, below l p ps r))) from;
      }

-- the records of a run file in their places, from the first on
pub all_read : (n core c : ℕ) (frame : n ≤ 64) → core < 2 ^ n → (ps : List ProposalRecord) → InPlace n core c ps → AllTaken n c frame (no_proposal n core) ps
unfolding ordered
all_read n core c frame within ps places =
    all_taken n c frame ps (no_proposal n core) (record {
      word = lt_of_lt_of_le within (pow_mono {i = n} {j = 64} frame);
      rising = and_intro (all_intro (ltb 0) (record_drives ps) (λ d h. lt-ltb 0 d (omega (arith, drive_bounds n d (and_left (is_drive n d) (ltb d c) (all_elem (λ e. is_drive n e && ltb e c) (record_drives ps) d places.in_frame h)))))) places.rising;
      in_frame = places.in_frame;
      owed = places.every_core;
    })
