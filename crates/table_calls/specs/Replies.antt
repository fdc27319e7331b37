-- The replies of the calls given n and sets as structs of numbers, from what the library's definitions give: the values
-- of a result with refusal 0, and beside a refusal zeros.
use Rattle.std.specs.Prelude.{[], ◌∷◌}
use Rattle.drive_sets.specs.Positions.{Position, position_number}
use Rattle.drive_sets.specs.Refusals.{Outcome, refused, yields}
use Rattle.verdict_search.specs.declared.Verdict.{Verdict as Answer}
use Rattle.verdict_search.specs.declared.Verdict.TheVariants.{Yes, No}
use Rattle.verdict_search.specs.Verdicts.{Verdict}
use Rattle.verdicts.specs.Held.{held_in}
use Rattle.table_calls.specs.declared.calls.MissedReply.{MissedReply}
use Rattle.table_calls.specs.declared.calls.VerdictReply.{VerdictReply}
pub mod Laws

-- ---- the first set that a group misses

abbrev pub missed_reply : Outcome Position → MissedReply
missed_reply (refused r) = record { position = 0; refusal = r }
missed_reply (yields p) = record { position = position_number p; refusal = 0 }

-- ---- verdicts

-- the verdict in the arrays that hold it: for a no the first k positions and blocks, and else zeros
abbrev pub held_reply : Outcome Answer → VerdictReply
held_reply (refused r) = record { blocks = 0 ∷ 0 ∷ 0 ∷ 0 ∷ []; positions = 0 ∷ 0 ∷ 0 ∷ 0 ∷ []; shared = 0; refusal = r }
held_reply (yields Yes) = record { blocks = 0 ∷ 0 ∷ 0 ∷ 0 ∷ []; positions = 0 ∷ 0 ∷ 0 ∷ 0 ∷ []; shared = 1; refusal = 0 }
held_reply (yields (No positions blocks)) = record { blocks = blocks; positions = positions; shared = 0; refusal = 0 }

abbrev pub verdict_reply : Outcome Verdict → VerdictReply
verdict_reply o = held_reply (held_in o)
