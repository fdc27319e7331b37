-- No call about fault lists is refused with the number 0: so a reply has refusal 0 exactly where the call is accepted.
use Rattle.std.specs.Prelude.{List, ℕ, length}
use Rattle.drive_sets.specs.Lent.{fitting}
use Rattle.drive_sets.specs.Lent.Laws.{put_numbered}
use Rattle.drive_sets.specs.Refusals.{and_then}
use Rattle.drive_sets.specs.Refusals.Numbered.{Numbered, result_numbered, then_numbered}
use Rattle.survivor_tables.specs.declared.frames.MaskKind.TheVariants.{FaultGroup}
use Rattle.survivor_tables.specs.Tables.{within_core_limit}
use Rattle.survivor_tables.specs.Tables.Numbered.{limit_numbered}
use Rattle.table_files.specs.Files.{ReadTable}
use Rattle.table_replies.specs.Replies.{fitting_table}
use Rattle.table_replies.specs.Replies.Laws.{all_numbered, table_numbered}
use Rattle.fault_lists.specs.FaultLists.{rests, table_from_faults, fault_list, faults_from_table}
use Rattle.fault_lists.proofs.FaultLists.Laws as lists
use Rattle.fault_files.specs.FaultFiles.{accepted_faults, read_faults, write_faults}

accepted_numbered : (t : ReadTable) → Numbered (accepted_faults t)
unfolding accepted_faults
accepted_numbered t = then_numbered (within_core_limit (rests t.n t.sets)) _ (limit_numbered (rests t.n t.sets)) (λ table. result_numbered)

pub read_numbered : (s old : List ℕ) → Numbered (fitting_table old (read_faults s))
unfolding read_faults
read_numbered s old = table_numbered old (read_faults s) (all_numbered FaultGroup accepted_faults accepted_numbered s)

pub write_numbered : (n : ℕ) (groups : List ℕ) (start room : ℕ) → Numbered (and_then (write_faults n groups) (fitting start room))
unfolding write_faults
write_numbered n groups start room =
    put_numbered (write_faults n groups) (then_numbered (fault_list n groups) _ (lists.list_numbered n groups) (λ list. result_numbered)) start room

pub table_put_numbered : (n : ℕ) (groups old : List ℕ) → Numbered (and_then (table_from_faults n groups) (fitting 0 (length old)))
table_put_numbered n groups old = put_numbered (table_from_faults n groups) (lists.table_numbered n groups) 0 (length old)

pub faults_put_numbered : (n : ℕ) (sets old : List ℕ) → Numbered (and_then (faults_from_table n sets) (fitting 0 (length old)))
faults_put_numbered n sets old = put_numbered (faults_from_table n sets) (lists.faults_numbered n sets) 0 (length old)
