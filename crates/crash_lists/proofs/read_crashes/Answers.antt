-- The records behind the last PR or PW, from none listed on.
use mathlib.Core.Path.{refl}
use borrow.Author.Tests.{lt-ltb, le-ltb}
use Rattle.std.proofs.lemmas.Result.{err_from_is_err_and}
use Rattle.drive_crashes.specs.Crashes.{no_crashes}
use Rattle.drive_crashes.specs.Crashes.Laws.{none_listed}
use Rattle.crash_lists.specs.Reading.{crashes_outcome}
use Rattle.crash_lists.proofs.CrashList.{held_none}
use Rattle.crash_lists.proofs.read_crashes.Goals as goal

pub returns-then-n-gt-MAX_DRIVES-clause-value : goal.returns-then-n-gt-MAX_DRIVES-clause-value
unfolding crashes_outcome
returns-then-n-gt-MAX_DRIVES-clause-value c = rw (lt-ltb _ _ c.if-n-gt-MAX_DRIVES.true)

pub invariant_of-listed : goal.invariant_of-listed
invariant_of-listed c = record { held = rw c.no_crashes.ensures (held_none _ c.if-n-gt-MAX_DRIVES.false) }

pub returns-in_err-used-clause-value : goal.returns-in_err-used-clause-value
unfolding crashes_outcome
returns-in_err-used-clause-value c =
    let q = err_from_is_err_and c.from_residual.result c.from_residual.ensures.1 in
    rw (q.1, q.2, le-ltb _ _ c.if-n-gt-MAX_DRIVES.false)
    (rw (c.no_crashes.ensures, none_listed no_crashes refl) at c.in_err-used.ensures.value)

pub returns-clause-value : goal.returns-clause-value
unfolding crashes_outcome
returns-clause-value c =
    rw (le-ltb _ _ c.if-n-gt-MAX_DRIVES.false)
    (rw (c.no_crashes.ensures, none_listed no_crashes refl) at c.in_ok-used.ensures.value)
