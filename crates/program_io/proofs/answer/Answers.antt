-- The text of what was read, which has room, and no byte of the input behind that changes it.
use Rattle.std.specs.Prelude.{◌≡◌, ◌≤◌, ℕ, min, length, take, replicate}
use Rattle.std.proofs.Common.{◌∙◌, arith, length-take-le}
use Rattle.drive_sets.specs.Limits.{max_input}
use Rattle.program_io.proofs.Texts.{text_written, whole_printed}
use Rattle.program_io.proofs.answer.Goals as goal

pub returns : goal.returns
returns g c reads =
    let within : c.min.result ≤ max_input = omega (arith, c.min.ensures) in
    let places = replicate {A = ℕ} max_input 0 in
    let room : length (take c.min.result places) ≡ min c.args.most max_input = length-take-le c.min.result places within ∙ c.min.ensures in
    whole_printed g.P.Program.prints (min c.args.most max_input) _ _ _ _ (rw room at c.in_ok-n.ensures.start) (λ input. (reads input).1)
    (text_written _ c.text-w.ensures (reads _).0) c.write_written.ensures
