-- The loop over the records: what is left to read gives what the whole gives.
use Rattle.std.proofs.Common.{◌≡◌, ◌-◌, length}
use Rattle.records.specs.RecordLists.{read_list}
use Rattle.records.proofs.Lists.{Reading}
use Rattle.record_lists.proofs.read_records.Given as goal

abbrev pub invariant-loop-list : goal.invariant-loop-list
invariant-loop-list g l =
    let list = g.L.RecordList in
    record {
      kept : list.setting l.list ≡ list.setting l.fn.list;
      reading : Reading (list.format (list.setting l.fn.list)) (read_list (list.format (list.setting l.fn.list)) (list.told l.fn.list) l.s) l.s (list.told l.list) l.at;
    }

abbrev pub decreases-loop-list : goal.decreases-loop-list
decreases-loop-list g l = length l.s - l.at
