-- No call given n and sets is refused with the number 0: so a reply has refusal 0 exactly where the call is accepted.
use Rattle.std.specs.Prelude.{◌≡◌, refl, not, ◌&&◌, List, ℕ, leb, ltb, length}
use Rattle.drive_sets.specs.Positions.{Position}
use Rattle.drive_sets.specs.Lent.{fitting}
use Rattle.drive_sets.specs.Lent.Laws.{put_numbered}
use Rattle.drive_sets.specs.Limits.{max_sets}
use Rattle.drive_sets.specs.Refusals.{Outcome, refused, yields, and_then}
use Rattle.drive_sets.specs.Refusals.Numbered.{Numbered, result_numbered, if_numbered, then_numbered}
use Rattle.survivor_tables.specs.Tables.{is_frame, is_set, normal_table, core_list, missed_set, survivor_sets}
use Rattle.survivor_tables.specs.Tables.Numbered.{normal_numbered, cores_numbered, back_numbered}
use Rattle.table_files.specs.Files.{table_bytes}
use Rattle.table_writing.specs.Writing.{write_table}
use Rattle.complete_tables.specs.Complete.{complete_table}
use Rattle.threshold.specs.Threshold.{threshold_sets, threshold_table, threshold_list}
use Rattle.verdict_search.specs.Held.{answer_of, with_blocks}
use Rattle.verdict_search.specs.Verdicts.{Verdict, yes, no}
use Rattle.verdicts.specs.Calls.{judged, verdict}
use Rattle.c_replies.specs.Replies.{refusal_of}
use Rattle.table_calls.specs.Replies.{missed_reply, verdict_reply}

-- ---- a reply's refusal is the outcome's

pub missed_refusal : (o : Outcome Position) → (missed_reply o).refusal ≡ refusal_of o
missed_refusal (refused r) = refl
missed_refusal (yields p) = refl

pub verdict_refusal : (o : Outcome Verdict) → (verdict_reply o).refusal ≡ refusal_of o
unfolding answer_of with_blocks
verdict_refusal (refused r) = refl
verdict_refusal (yields yes) = refl
verdict_refusal (yields (no positions blocks)) = refl

-- ---- the calls given n and sets, or groups

pub cores_put_numbered : (n : ℕ) (sets old : List ℕ) → Numbered (and_then (core_list n sets) (fitting 0 (length old)))
cores_put_numbered n sets old = put_numbered (core_list n sets) (cores_numbered n sets) 0 (length old)

pub back_put_numbered : (n : ℕ) (groups old : List ℕ) → Numbered (and_then (survivor_sets n groups) (fitting 0 (length old)))
back_put_numbered n groups old = put_numbered (survivor_sets n groups) (back_numbered n groups) 0 (length old)

pub threshold_numbered : (n t : ℕ) (old : List ℕ) → Numbered (and_then (threshold_list n t) (fitting 0 (length old)))
unfolding threshold_list threshold_table complete_table
threshold_numbered n t old =
    put_numbered (threshold_list n t)
    (then_numbered (threshold_table n t) _
    (if_numbered (not (is_frame n)) 3 refl
    (if_numbered (leb n t) 31 refl
    (if_numbered (ltb max_sets (length (threshold_sets n t))) 32 refl
    (then_numbered (normal_table n (threshold_sets n t)) _ (normal_numbered n (threshold_sets n t)) (λ table. result_numbered)))))
    (λ table. result_numbered))
    0 (length old)

pub write_numbered : (n : ℕ) (sets : List ℕ) (start room : ℕ) → Numbered (and_then (write_table n sets) (fitting start room))
unfolding write_table
write_numbered n sets start room =
    put_numbered (write_table n sets)
    (then_numbered (normal_table n sets) (λ table. yields (table_bytes n table)) (normal_numbered n sets) (λ table. result_numbered))
    start room

pub missed_numbered : (n : ℕ) (sets : List ℕ) (group : ℕ) → Numbered (missed_set n sets group)
unfolding missed_set
missed_numbered n sets group =
    then_numbered (normal_table n sets) _ (normal_numbered n sets) (λ table. if_numbered (not (is_set n group)) 4 refl result_numbered)

pub verdict_numbered : (k n : ℕ) (sets : List ℕ) → Numbered (verdict k n sets)
unfolding verdict judged
verdict_numbered k n sets =
    if_numbered (not (leb 2 k && leb k 4)) 12 refl
    (then_numbered (normal_table n sets) (judged k n) (normal_numbered n sets) (λ table. if_numbered (leb n k) 33 refl result_numbered))
