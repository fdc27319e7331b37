-- What the answer of a call says, and what the arrays of a verdict hold.
use Rattle.std.specs.Prelude.{ℕ, Result}
use Rattle.drive_sets.specs.declared.Refusal.{Refusal}
use Rattle.drive_sets.specs.Refusals.{Outcome, yields, and_then, outcome_by}
use Rattle.verdict_search.specs.declared.Verdict.{Verdict as Answer}
use Rattle.verdict_search.specs.Verdicts.{Verdict}
use Rattle.verdict_search.specs.Held.{verdict_of, answer_of}

-- what the answer of a call on k says
abbrev pub judgement_of : Result Answer Refusal → ℕ → Outcome Verdict
judgement_of r k = outcome_by (λ v. verdict_of v k) r

-- the verdict in its arrays, or the refusal
abbrev pub held_in : Outcome Verdict → Outcome Answer
held_in o = and_then o (λ v. yields (answer_of v))
