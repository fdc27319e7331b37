-- Laws of the PR and PW records: what a record that is taken says, that as many numbers as drives are read, each a
-- pattern number, and that a core drive's number is that of its record.
use Rattle.std.specs.Prelude.{◌≡◌, Bool, not, cond, ℕ, zero, suc, ◌-◌, ◌≤◌, ◌<◌, ltb, length, set, drop, replicate}
use Rattle.std.proofs.Math.Path.{refl, ap}
use Rattle.std.proofs.Common.{◌∙◌, subst, arith, length-set, ltb-false}
use Rattle.std.proofs.Math.Bool.{true, false}
use mathlib.Core.List.{List, [], ◌∷◌}
use Rattle.std.proofs.Math.ListN.{get_or}
use Rattle.std.proofs.lemmas.List.{length-replicate}
use Rattle.std.proofs.Math.Seq.{get_or-set_same, get_or-set_other}
use Rattle.std.proofs.lemmas.Bool.{not-false}
use Rattle.drive_sets.specs.Bools.Laws.{cond_true}
use Rattle.drive_sets.specs.declared.Refusal.TheVariants.{DriveNumber}
use Rattle.drive_sets.specs.Masks.{has, lowest}
use Rattle.drive_sets.specs.Limits.{pattern_limit}
use Rattle.drive_sets.specs.Refusals.{yields}
use Rattle.drive_sets.specs.Refusals.Laws.{same_result, passed, first_result}
use Rattle.records.specs.Fields.{Bytes}
use Rattle.records.specs.Fields.Laws.{bytes_drop}
use Rattle.records.specs.Marks.{kind_at, width_at}
use Rattle.records.specs.Marks.Laws.{number_lt}
use Rattle.records.specs.RecordLists.{ReadList, read_list}
use Rattle.records.specs.RecordLists.Laws.{read_keeps}
use Rattle.runs.specs.CrashRecords.{is_next}
use Rattle.proposal_lists.specs.ProposalLists.{ProposalList, drive_at, number_at, no_proposal, with_proposal, taken_proposal, proposal_list, read_proposals}

-- ---- a record that is taken

pub record Placed (n : ℕ) (l : ProposalList) (s : List ℕ) (t : ProposalList) : Type 0 where
  pub next : is_next n l.last (drive_at s) ≡ true
  pub none_passed : drive_at s ≤ lowest l.owed
  pub is : with_proposal l (drive_at s) (number_at s) ≡ t

pub was_taken : (n : ℕ) (l : ProposalList) (s : List ℕ) {t : ProposalList} → taken_proposal n l s ≡ yields t → Placed n l s t
unfolding taken_proposal
was_taken n l s e =
    let first = passed (not (is_next n l.last (drive_at s))) DriveNumber _ e in
    let second = passed (ltb (lowest l.owed) (drive_at s)) DriveNumber _ first.1 in
    record {
      next = not-false (is_next n l.last (drive_at s)) first.0;
      none_passed = ltb-false (lowest l.owed) (drive_at s) second.0;
      is = same_result second.1;
    }

-- ---- the numbers with one record more

pub kept_length : {A : Type 0} (t : Bool) (m : List A) (i : ℕ) (a : A) → length (cond t (set m i a) m) ≡ length m
kept_length true m i a = length-set m i a
kept_length false m i a = refl

module _ (l : ProposalList) (d number : ℕ) where
  pub noted_length : length (with_proposal l d number).numbers ≡ length l.numbers
  unfolding with_proposal
  noted_length = kept_length (has d l.owed) l.numbers (d - 1) number

  pub noted_own : has d l.owed ≡ true → d - 1 < length l.numbers → get_or (with_proposal l d number).numbers (d - 1) 0 ≡ number
  unfolding with_proposal
  noted_own owed room = ap (λ (m : List ℕ). get_or m (d - 1) 0) (cond_true _ _ owed) ∙ get_or-set_same l.numbers (d - 1) number 0 room

  pub noted_other : (e : ℕ) → 1 ≤ e → e < d → get_or (with_proposal l d number).numbers (e - 1) 0 ≡ get_or l.numbers (e - 1) 0
  unfolding with_proposal
  noted_other e from below = go (has d l.owed)
    where
      go : (t : Bool) → get_or (cond t (set l.numbers (d - 1) number) l.numbers) (e - 1) 0 ≡ get_or l.numbers (e - 1) 0
      go true = get_or-set_other l.numbers (d - 1) (e - 1) number 0 (λ same. omega arith)
      go false = refl

-- ---- the numbers that are read: one to each drive, and each a pattern number

pub record Numbers (n : ℕ) (s numbers : List ℕ) : Type 0 where
  pub many : length numbers ≡ n
  pub patterns : Bytes s → (i : ℕ) → get_or numbers i 0 < pattern_limit

pub numbers_read_law : (n core : ℕ) (s : List ℕ) {p : ReadList (List ℕ)} → read_proposals n core s ≡ yields p → Numbers n s p.list
unfolding read_proposals read_list with_proposal
numbers_read_law n core s {p} e =
    let first = first_result (read_list (proposal_list n) (no_proposal n core) s) _ e in
    let w = read_keeps (proposal_list n) Good (λ l b t g going q. kept l b t g q) (length s) (no_proposal n core) s (length-replicate n 0, λ b. (b, none_below n)) first.1 in
    let good = subst (λ (l : List ℕ). (length l ≡ n) × (Bytes s → (i : ℕ) → get_or l i 0 < pattern_limit)) (ap (λ (r : ReadList (List ℕ)). r.list) (same_result first.2))
    (w.1.0, λ b. (w.1.1 b).1) in
    record { many = good.0; patterns = good.1 }
  where
    none_below : (k i : ℕ) → get_or (replicate k 0) i 0 < pattern_limit
    none_below zero i = omega arith
    none_below (suc k) zero = omega arith
    none_below (suc k) (suc i) = none_below k i

    Good : ProposalList → List ℕ → Type 0
    Good l b = (length l.numbers ≡ n) × (Bytes s → Bytes b × ((i : ℕ) → get_or l.numbers i 0 < pattern_limit))

    below : (l : List ℕ) (i v : ℕ) → v < pattern_limit → ((j : ℕ) → get_or l j 0 < pattern_limit) → (t : Bool) (j : ℕ) → get_or (cond t (set l i v) l) j 0 < pattern_limit
    below l i v h all false j = all j
    below [] i v h all true j = omega arith
    below (x ∷ l) zero v h all true zero = h
    below (x ∷ l) zero v h all true (suc j) = all (suc j)
    below (x ∷ l) (suc i) v h all true zero = all 0
    below (x ∷ l) (suc i) v h all true (suc j) = below l i v h (λ k. all (suc k)) true j

    kept : (l : ProposalList) (b : List ℕ) (t : ProposalList) → Good l b → taken_proposal n l b ≡ yields t → Good t (drop (width_at b) b)
    kept l b t g q =
        subst (λ (x : ProposalList). Good x (drop (width_at b) b)) (was_taken n l b q).is (
          noted_length l (drive_at b) (number_at b) ∙ g.0,
          λ bytes. (bytes_drop (width_at b) b (g.1 bytes).0, below l.numbers (drive_at b - 1) (number_at b) (number_lt (kind_at b) 3 b (g.1 bytes).0) (g.1 bytes).1 (has (drive_at b) l.owed)),
        )
