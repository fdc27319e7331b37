-- A run file as its PR and PW records and what stands behind their numbers; and that a PR or PW there meets 2.
use Rattle.std.specs.Prelude.{◌≡◌, true, List, ℕ, ◌≤◌, length}
use Rattle.std.proofs.Math.Path.{refl, ap}
use Rattle.std.proofs.Common.{◌∙◌, ⊎_elim}
use Rattle.drive_sets.specs.Bools.Laws.{or_cases}
use Rattle.drive_sets.specs.declared.Refusal.TheVariants.{WrongMark}
use Rattle.drive_sets.specs.Refusals.{Outcome, refused, yields, and_then, number}
use Rattle.drive_sets.specs.Refusals.Laws.{then_same, then_assoc, then_then}
use Rattle.records.specs.declared.Due.TheVariants.{AtProposal, AtRecordOrEnd}
use Rattle.records.specs.declared.Kind.TheVariants.{Crash, Proposal, WideProposal}
use Rattle.records.specs.Fields.{from_bytes}
use Rattle.records.specs.Marks.{ascii, mark_text, mark, is_kind, is_due, kind_at}
use Rattle.records.specs.Marks.Laws.{kind_is}
use Rattle.records.specs.RecordLists.{ReadList, read_list}
use Rattle.records.specs.RecordLists.Laws.{read_wrong}
use Rattle.crash_lists.specs.CrashLists.{CrashList, no_crash, crash_list}
use Rattle.proposal_lists.specs.ProposalLists.{ProposalList, no_proposal, proposal_list, numbers_read, read_proposals}
use Rattle.run_files.specs.RunFiles.{RunFile, said, read_records, whole_run, behind_numbers, read_behind}

module _ (n core : ℕ) (sets : List ℕ) where
  -- what is made of the records read
  abbrev pub behind_records : ReadList ProposalList → Outcome RunFile
  behind_records p = behind_numbers n core sets p.list.numbers p.rest

  -- reading on from some records
  abbrev pub read_on : ProposalList → List ℕ → Outcome RunFile
  read_on l s = and_then (read_list (proposal_list n) l s) behind_records

  pub behind_is : (s : List ℕ) → read_behind n core sets s ≡ read_on (no_proposal n core) s
  unfolding read_behind read_records read_proposals behind_numbers
  behind_is s =
      let read = read_list (proposal_list n) (no_proposal n core) s in
      then_assoc (and_then read (λ p. yields (numbers_read p))) (λ p. and_then (read_list (crash_list n core) no_crash p.rest) (λ c. yields (said p.list c))) (whole_run sets)
      ∙ (then_then read numbers_read (λ p. and_then (and_then (read_list (crash_list n core) no_crash p.rest) (λ c. yields (said p.list c))) (whole_run sets))
      ∙ then_same read (λ p e. then_then (read_list (crash_list n core) no_crash p.rest) (said p.list.numbers) (whole_run sets)))

  -- a PR or PW behind the records
  pub behind_wrong : (numbers s : List ℕ) → 2 ≤ length s → is_due AtProposal (kind_at s) ≡ true → behind_numbers n core sets numbers s ≡ refused (number WrongMark)
  unfolding behind_numbers is_due is_kind mark mark_text ascii from_bytes
  behind_wrong numbers s long there =
      ap (λ (o : Outcome (ReadList CrashList)). and_then o (λ c. whole_run sets (said numbers c))) (read_wrong (crash_list n core) no_crash s refl long
      (⊎_elim (λ e. ap (is_due (AtRecordOrEnd Crash)) (kind_is Proposal (kind_at s) e)) (λ e. ap (is_due (AtRecordOrEnd Crash)) (kind_is WideProposal (kind_at s) e))
      (or_cases (is_kind Proposal (kind_at s)) (is_kind WideProposal (kind_at s)) there)))
