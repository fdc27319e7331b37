-- 14, or the sets in front of the places behind them.
use Rattle.std.proofs.Common.{length, arith}
use Rattle.drive_sets.specs.Lent.Laws.{has_room, no_room, written_fits, written_at_start}
use Rattle.table_replies.proofs.lists.put.Goals as goal

pub returns-then-out-sets : goal.returns-then-out-sets
returns-then-out-sets c =
    let none = no_room 0 (length c.args.out.now) c.args.sets.now (omega (arith, c.if-out-sets.true)) in record { value = rw none; out_after = rw none }

pub returns : goal.returns
returns c =
    let all = has_room 0 (length c.args.out.now) c.args.sets.now (omega (arith, c.if-out-sets.false)) in record {
      value = rw all;
      out_after = rw (all, written_at_start, written_fits _ _ c.if-out-sets.false, c.copy_from_slice.ensures.after);
    }
