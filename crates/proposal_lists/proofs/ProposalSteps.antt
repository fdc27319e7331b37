-- The PR and PW records: one record, and the numbers once it is taken.
use Rattle.std.specs.Prelude.{Err, Ok, Result}
use mathlib.Core.Path.{◌≡◌, refl, sym, ap, ap₂, ◌∙◌, subst}
use mathlib.Core.Bool.{Bool, true, false, cond}
use mathlib.Core.List.{List, [], ◌∷◌}
use mathlib.Core.Logic.{⊎_elim}
use Prim.Native.Nat.{ℕ, zero, suc, ◌+◌, ◌-◌, ◌≤◌, ◌<◌}
use native.Mathlib.Omega.{arith}
use lib.ListN.{length, get_or, take, drop, set, replicate}
use lib.Seq.{take-set-lt}
use Rattle.drive_sets.specs.Bools.Laws.{or_cases}
use Rattle.drive_sets.specs.declared.Pattern.{Pattern}
use Rattle.drive_sets.specs.declared.Refusal.{Refusal}
use Rattle.drive_sets.specs.Limits.{max_drives}
use Rattle.drive_sets.specs.Masks.{has, single, minus}
use Rattle.drive_sets.specs.Refusals.{Outcome, refused, yields, and_then, number}
use Rattle.records.specs.declared.Due.TheVariants.{AtProposal}
use Rattle.records.specs.declared.Kind.{Kind}
use Rattle.records.specs.declared.Kind.TheVariants as kinds
use Rattle.records.specs.declared.Next.TheVariants as nexts
use Rattle.records.specs.Fields.{from_bytes, field_at}
use Rattle.records.specs.Marks.{ascii, mark_text, mark, body_width, is_kind, is_due, width_at, head_of}
use Rattle.records.specs.Marks.Laws.{Present, head_present, kind_is}
use Rattle.records.specs.RecordLists.{next_of, ReadList, step_of, read_list}
use Rattle.records.specs.RecordLists.Laws.{other_next}
use Rattle.records.proofs.Parts.{rest_is}
use Rattle.records.proofs.Lists.{first_byte, Reading, reading_start, reading_complete, reading_stop, step_taken, reading_turn}
use Rattle.runs.specs.CrashRecords.{is_next}
use Rattle.runs.specs.CrashRecords.Laws.{next_bounds}
use Rattle.drive_states.specs.State.{pattern, values}
use Rattle.proposal_lists.specs.ProposalLists.{ProposalList, no_proposal, with_proposal, proposals_end, proposal_list, numbers_read, read_proposals}
use Rattle.proposal_lists.specs.ProposalLists.Laws.{was_taken, kept_length}

-- ---- one record

module _ (s : List ℕ) {head : Result Kind Refusal} (h : head ≡ head_of AtProposal s) {k : Kind} (e : head ≡ Ok k) where
  -- EN is not due
  pub one : (count : ℕ) → next_of AtProposal count s ≡ Ok nexts.One
  unfolding is_due is_kind mark mark_text ascii from_bytes
  one count = other_next AtProposal count s k refl (sym h ∙ e)

  pub there : Present AtProposal s k
  there = head_present AtProposal s k (sym h ∙ e)

  pub proposal_long : 5 ≤ length s
  unfolding is_due body_width
  proposal_long =
      ⊎_elim (λ p. let same = kind_is kinds.Proposal k p in omega (arith, there.long, ap body_width same))
      (λ p. let same = kind_is kinds.WideProposal k p in omega (arith, there.long, ap body_width same))
      (or_cases (is_kind kinds.Proposal k) (is_kind kinds.WideProposal k) there.is_due_law)

  pub drive_byte : field_at 2 1 s ≡ get_or s 2 0
  drive_byte = sym (first_byte s 2 (omega (arith, proposal_long)))

-- ---- the numbers

values_set : (l : List Pattern) (i : ℕ) (v : Pattern) → values (set l i v) ≡ set (values l) i v.0
values_set [] i v = refl
values_set (x ∷ l) zero v = refl
values_set (x ∷ l) (suc i) v = ap (λ (m : List ℕ). x.0 ∷ m) (values_set l i v)

pub none_given : (n k : ℕ) → n ≤ k → take n (values (replicate k (pattern 0))) ≡ replicate n 0
none_given zero k h = refl
none_given (suc n) zero h = absurd (omega arith)
none_given (suc n) (suc k) h = ap (λ (m : List ℕ). 0 ∷ m) (none_given n k (omega arith))

-- the number of a drive of the frame, kept or dropped
pub noted : (b : Bool) (numbers : List Pattern) (n d : ℕ) (v : Pattern) → 1 ≤ d → d ≤ n
    → take n (values (cond b (set numbers (d - 1) v) numbers)) ≡ cond b (set (take n (values numbers)) (d - 1) v.0) (take n (values numbers))
noted true numbers n d v low high = ap (take n) (values_set numbers (d - 1) v) ∙ take-set-lt n (values numbers) (d - 1) v.0 (omega arith)
noted false numbers n d v low high = refl

pub kept_room : (b : Bool) (numbers : List Pattern) (i : ℕ) (v : Pattern) → length numbers ≡ max_drives → length (cond b (set numbers i v) numbers) ≡ max_drives
kept_room b numbers i v h = kept_length b numbers i v ∙ h
