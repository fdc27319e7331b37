-- The refusals in their order, by the numbers of groups; then the groups of n - t drives.
use Rattle.std.proofs.Common.{◌+◌, ◌≤◌, sym, ◌∙◌, ap, arith, le-leb, le-ltb}
use Rattle.std.proofs.lemmas.Bool.{lt-leb}
use Rattle.drive_sets.specs.Limits.{max_drives, max_sets, max_cores}
use Rattle.drive_sets.specs.Refusals.{yields}
use Rattle.survivor_tables.proofs.Tables.Laws.{frame_high}
use Rattle.threshold.specs.Counts.Laws.{count_above_limit, count_within}
use Rattle.threshold.specs.Groups.Laws.{count_others}
use Rattle.threshold.specs.Threshold.{threshold_sets}
use Rattle.threshold.specs.Threshold.Laws.{threshold_list_law}
use Rattle.threshold.proofs.threshold_sets.Goals as goal

pub returns-then-not-is_frame : goal.returns-then-not-is_frame
returns-then-not-is_frame c = rw (threshold_list_law, ← c.is_frame.ensures, c.if-not-is_frame.true)

pub returns-then-n-t : goal.returns-then-n-t
returns-then-n-t c = rw (threshold_list_law, ← c.is_frame.ensures, c.if-not-is_frame.false, le-leb _ _ c.if-n-t.true)

pub group_count-requires : goal.group_count-requires
group_count-requires c =
    let high = frame_high _ (sym c.is_frame.ensures ∙ c.if-not-is_frame.false) in
    (high, omega (arith, high, c.if-n-t.false))

pub returns-then-group_count-gt-MAX_SETS : goal.returns-then-group_count-gt-MAX_SETS
returns-then-group_count-gt-MAX_SETS c =
    let high = frame_high _ (sym c.is_frame.ensures ∙ c.if-not-is_frame.false) in
    let low : c.args.t ≤ max_drives = omega (arith, high, c.if-n-t.false) in
    let many =
    count_above_limit _ _ high low c.group_count.ensures max_sets (omega arith) c.if-group_count-gt-MAX_SETS.true in
    rw (threshold_list_law, ← c.is_frame.ensures, c.if-not-is_frame.false, lt-leb _ _ c.if-n-t.false, many)

pub group_count-requires-2 : goal.group_count-requires-2
group_count-requires-2 c =
    let high = frame_high _ (sym c.is_frame.ensures ∙ c.if-not-is_frame.false) in
    (high, omega (arith, high, c.if-n-t.false))

pub returns-then-group_count-gt-MAX_CORES : goal.returns-then-group_count-gt-MAX_CORES
returns-then-group_count-gt-MAX_CORES c =
    let high = frame_high _ (sym c.is_frame.ensures ∙ c.if-not-is_frame.false) in
    let low : c.args.t ≤ max_drives = omega (arith, high, c.if-n-t.false) in
    let few =
    count_within _ _ high low c.group_count.ensures max_sets (omega arith) c.if-group_count-gt-MAX_SETS.false in
    let next : c.args.t + 1 ≤ max_drives = omega (arith, high, c.if-n-t.false) in
    let many =
    count_above_limit _ _ high next c.group_count-2.ensures max_cores (omega arith) c.if-group_count-gt-MAX_CORES.true in
    rw (threshold_list_law, ← c.is_frame.ensures, c.if-not-is_frame.false, lt-leb _ _ c.if-n-t.false, le-ltb max_sets _ few, many)

pub fill_groups-count-requires : goal.fill_groups-count-requires
fill_groups-count-requires c =
    let a = c.args in
    let high = frame_high _ (sym c.is_frame.ensures ∙ c.if-not-is_frame.false) in
    let low : a.t ≤ max_drives = omega (arith, high, c.if-n-t.false) in
    let few =
    count_within _ _ high low c.group_count.ensures max_sets (omega arith) c.if-group_count-gt-MAX_SETS.false in
    (omega arith, high, omega (arith, count_others a.t a.n (omega (arith, c.if-n-t.false)), few))

pub returns : goal.returns
unfolding threshold_sets
returns c =
    let high = frame_high _ (sym c.is_frame.ensures ∙ c.if-not-is_frame.false) in
    let low : c.args.t ≤ max_drives = omega (arith, high, c.if-n-t.false) in
    let few =
    count_within _ _ high low c.group_count.ensures max_sets (omega arith) c.if-group_count-gt-MAX_SETS.false in
    let next : c.args.t + 1 ≤ max_drives = omega (arith, high, c.if-n-t.false) in
    let few_cores =
    count_within _ _ high next c.group_count-2.ensures max_cores (omega arith) c.if-group_count-gt-MAX_CORES.false in
    rw (threshold_list_law, ← c.is_frame.ensures, c.if-not-is_frame.false, lt-leb _ _ c.if-n-t.false)
    (rw (le-ltb max_sets _ few, le-ltb max_cores _ few_cores) (ap yields (c.first.ensures ∙ c.fill_groups-count.ensures.1)))
