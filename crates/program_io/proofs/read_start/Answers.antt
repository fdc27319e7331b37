-- What was read before and what is read now stand one behind the other in the buffer, as they did in the input.
use Rattle.std.proofs.Common.{◌+◌, ◌-◌, ◌++◌, List, ℕ, rules, arith, ap, sym, ◌∙◌, subst, length, take, le_refl}
use Rattle.std.proofs.lemmas.Slice.{take-put_mid_below}
use Rattle.std.specs.Io.KnownBytes.{Consumes}
use Rattle.program_io.proofs.KnownBytes.{consumes_then, take_then, read_behind}
use borrow.Rule.Slice.PartMut.{put_mid}
use Rattle.program_io.proofs.read_start.Goals as goal

pub loop-done-preserved : goal.loop-done-preserved
loop-done-preserved g c =
    let done = c.loop-done.done in
    let room = length c.loop-done.buf - done in
    let within = c.loop-done.invariant.1 in
    let kept = take-put_mid_below _ _ _ _ _ (le_refl _) within in
    let read = read_behind done room c.in_ok-n.n c.loop-done.buf c.read.new.buf within c.in_ok-n.ensures.bound.0 in
    let joined = take_then done (done + c.in_ok-n.n) c.loop-done.buf (put_mid done room c.loop-done.buf c.read.new.buf) (omega arith) kept in
    (search rules, search rules, subst (Consumes _ _) (ap (λ (l : List ℕ). take done c.loop-done.buf ++ l) (sym read) ∙ joined) (consumes_then _ _ _ _ _ c.loop-done.invariant.2 c.in_ok-n.ensures.bytes.0))
