-- The verdict of the call is the one on the normal table, of which the theorems on accepted tables speak; and which
-- calls get one, or 33.
use mathlib.Core.Path.{◌≡◌, sym, ◌∙◌, subst}
use mathlib.Core.Bool.{not, ◌&&◌}
use mathlib.Core.List.{List}
use mathlib.Core.Logic.{⊎_elim}
use Prim.Native.Nat.{ℕ, ◌≤◌}
use native.Mathlib.Omega.{arith}
use lib.Dec.{leb}
use borrow.Author.Tests.{leb-true}
use Rattle.drive_sets.specs.declared.Refusal.TheVariants.{BlockCount, FewDrives}
use Rattle.drive_sets.specs.Refusals.{refused}
use Rattle.drive_sets.specs.Refusals.Laws.{refused_no_result, refused_by_law, first_refused}
use Rattle.survivor_tables.specs.Order.{normal}
use Rattle.survivor_tables.specs.Tables.{normal_table, Accepted}
use Rattle.survivor_tables.proofs.Tables.Laws.{accepted_normal, table_accepted, table_refused}
use Rattle.verdict_search.specs.Verdicts.{verdict_on}
use Rattle.verdicts.specs.Calls.{judged, verdict}
use Rattle.verdict_search.specs.Verdicts.BlockCounts.{block_count_within}
use Rattle.verdicts.specs.Calls.Laws.{verdict_answered, given_normal, given_few, given_more}
use Rattle.verdict_search.proofs.Verdicts.Intersection.{yes_intersection}
use Rattle.verdicts.specs.Partitions.Laws.{yes_partition}
use Rattle.verdicts.specs.Partitions.Witness.{no_witness}
use Rattle.promises.specs.Verdict.{VerdictSays, VerdictOfCall, VerdictGiven, FewRefused}

pub verdict_of_call : VerdictOfCall
unfolding VerdictOfCall
verdict_of_call k n sets v e =
    let a = verdict_answered k n sets v e in
    let table = accepted_normal n sets a.accepted in
    subst (VerdictSays k n (normal sets)) (sym a.is) (record {
      intersection = yes_intersection k n (normal sets) table;
      partition = yes_partition k n (normal sets) table a.more;
      witness = λ ps blocks. no_witness n (normal sets) table k ps blocks a.more;
    })

-- ---- which calls get a verdict, and which 33

pub verdict_given_law : VerdictGiven
unfolding VerdictGiven
verdict_given_law k n sets = (
  (λ w. let a = verdict_answered k n sets w.0 w.1 in (a.low, a.high, a.accepted, a.more)),
  (λ w. (verdict_on k n (normal sets), sym (given_normal k n sets w.2) ∙ given_more k n (normal sets) w.0 w.1 (accepted_normal n sets w.2) w.3)),
)

-- what 33 says of k and the table
refused_few : (k n : ℕ) (sets : List ℕ) → verdict k n sets ≡ refused 33 → (2 ≤ k) × (k ≤ 4) × Accepted n sets × (n ≤ k)
unfolding verdict judged
refused_few k n sets e =
    ⊎_elim (λ w. absurd (omega (arith, w.1)))
    (λ w. ⊎_elim (λ h. absurd (omega (arith, table_refused n sets h)))
    (λ h. ⊎_elim
    (λ f. (
      (block_count_within k w.0).0,
      (block_count_within k w.0).1,
      (table_accepted n sets h.0 h.1).0,
      leb-true n k f.0,
    ))
    (λ f. absurd (refused_no_result (sym f.1)))
    (refused_by_law (leb n k) FewDrives _ h.2))
    (first_refused (normal_table n sets) (judged k n) w.1))
    (refused_by_law (not (leb 2 k && leb k 4)) BlockCount _ e)

pub few_refused : FewRefused
unfolding FewRefused
few_refused k n sets = (
  refused_few k n sets,
  (λ w. sym (given_normal k n sets w.2) ∙ given_few k n (normal sets) w.0 w.1 (accepted_normal n sets w.2) w.3),
)
