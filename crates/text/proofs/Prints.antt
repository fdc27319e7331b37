-- A text printed into a lent buffer: the copy over its places from the starting place on, a text that was put into a
-- buffer of its own first, and a file that was written there or refused.
use Rattle.std.specs.Prelude.{Err, Ok, Result}
use mathlib.Core.Path.{◌≡◌, refl, sym, ap, ap₂, ◌∙◌, subst}
use mathlib.Core.List.{List, ◌++◌}
use Prim.Native.Nat.{ℕ, ◌+◌, ◌-◌, ◌≤◌}
use native.Mathlib.Omega.{arith}
use lib.ListN.{length, take, drop, length-drop}
use borrow.Rule.Slice.PartMut.{put_mid}
use Rattle.drive_sets.specs.declared.Refusal.{Refusal}
use Rattle.drive_sets.specs.Filled.{Filled}
use Rattle.drive_sets.specs.Filled.Laws.{filled_same}
use Rattle.drive_sets.specs.Refusals.{Outcome, refused, yields}
use Rattle.drive_sets.specs.Refusals.Laws.{refused_no_result, same_refused, same_result}
use Rattle.drive_sets.specs.Lent.{written, written_at, size_written, buffer_after}
use Rattle.drive_sets.specs.Lent.Laws.{has_room, written_fits, first_places}
use Rattle.lent_bytes.specs.LentBuffers.{WrittenIfRoom}
use Rattle.lent_bytes.proofs.Buffers.{written_as}
use Rattle.text.specs.Text.{refusal_line}
use Rattle.text.specs.Printing.{Printed, AnswerPut, printed}
use Rattle.text.proofs.Puts.{cut}

pub prints_all : (text : List ℕ) (start : ℕ) (old : List ℕ) → start + length text ≤ length old → (back : List ℕ) → back ≡ text
    → Printed text start old (put_mid start (start + length text - start) old back) (Ok (length text))
unfolding written_at
prints_all text start old h back f =
    written_as (sym (has_room start (length old) text h)) (record { answer = refl; buffer = ap (λ (l : List ℕ). take start old ++ l) copied })
  where
    room : length text ≤ length (drop start old)
    room = omega (arith, length-drop start old)

    size : start + length text - start ≡ length text
    size = omega arith

    copied : back ++ drop (start + length text - start) (drop start old) ≡ written text (drop start old)
    copied = ap₂ (λ (l : List ℕ) (k : ℕ). l ++ drop k (drop start old)) f size ∙ sym (written_fits text (drop start old) room)

-- a text that fits, put into a buffer from its first place on and handed over
pub prints_put : (start : ℕ) {buf old text out back : List ℕ} {size : ℕ} {r : Result ℕ Refusal} → Filled buf old 0 size text → length text ≤ length buf
    → Printed (take (size - 0) old) start out back r → Printed text start out back r
prints_put start {buf} {old} {text} {out} {back} {size} {r} f h p =
    subst (λ (l : List ℕ). Printed l start out back r) (cut old size ∙ f.kept (omega (arith, f.total))) p

-- ---- what was written, or refused, where there is room

-- so what is left of the answer is what is printed
pub answer_printed : (o : Outcome (List ℕ)) {old mid new : List ℕ} {w : Result ℕ Refusal} {count : ℕ} → length (printed o) ≤ length old → length mid ≡ length old
    → WrittenIfRoom o 0 old mid w → AnswerPut w mid new count → Filled old new 0 count (printed o)
answer_printed (refused r) {w = Ok size} fits long put left = absurd (refused_no_result (sym put.answer))
answer_printed (yields file) {old} {w = Ok size} {count} fits long put left =
    let room : 0 + length file ≤ length old = omega (arith, fits) in
    let roomy = has_room 0 (length old) file room in
    let many = sym (left.1 ∙ same_result (put.answer ∙ ap size_written roomy)) in record {
      total = omega (arith, many, fits);
      kept = λ k. ap (take count) (left.0 ∙ (put.buffer ∙ ap (λ (o : Outcome (List ℕ)). buffer_after o 0 old) roomy)) ∙ first_places old file count many fits;
    }
answer_printed (refused r) {w = Err q} fits long put line =
    filled_same (ap refusal_line (same_refused (sym put.answer))) (record { total = omega (arith, line.total, long); kept = λ k. line.kept (omega (arith, long)) })
answer_printed (yields file) {old} {w = Err q} fits long put line =
    let room : 0 + length file ≤ length old = omega (arith, fits) in
    absurd (refused_no_result (put.answer ∙ ap size_written (has_room 0 (length old) file room)))
