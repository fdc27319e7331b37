-- What a program prints, from what an answer says of its buffer, and from what is known of its input.
use Rattle.std.specs.Prelude.{Err, Ok, Result}
use Rattle.std.proofs.Common.{◌≡◌, sym, ap, ap₂, ◌∙◌, subst, ℕ, List, ◌+◌, ◌≤◌, min, arith, length, take, Option, Some, None, Result, Ok, Err, IfSome, OnOk}
use Rattle.std.specs.Io.KnownBytes.{Appends}
use Rattle.drive_sets.specs.declared.Refusal.{Refusal}
use Rattle.drive_sets.specs.Refusals.{Outcome}
use Rattle.drive_sets.specs.Refusals.Laws.{refused_no_result, same_result}
use Rattle.drive_sets.specs.Lent.{written_at, size_written, buffer_after}
use Rattle.drive_sets.specs.Lent.Laws.{has_room, first_places, length_written_at}
use Rattle.text.specs.Printing.{Printed, bytes_in}

-- a text that was put into a lent buffer from its first place on, and fits there, is what the answer says was written
pub text_written : (text : List ℕ) {old new : List ℕ} {w : Result ℕ Refusal} → Printed text 0 old new w → length text ≤ length old
    → take (min (bytes_in w) (length new)) new ≡ text
text_written text {old} {new} {w = Ok size} put fits =
    let room : 0 + length text ≤ length old = omega (arith, fits) in
    let roomy = has_room 0 (length old) text room in
    let many : size ≡ length text = same_result (put.answer ∙ ap size_written roomy) in
    let placed : new ≡ written_at 0 text old = put.buffer ∙ ap (λ (o : Outcome (List ℕ)). buffer_after o 0 old) roomy in
    let long : length new ≡ length old = ap length placed ∙ length_written_at 0 text old in
    let all : min size (length new) ≡ size = omega (arith, many, long, fits) in
    ap₂ take all placed ∙ first_places old text size (sym many) fits
text_written text {old} {w = Err q} put fits =
    let room : 0 + length text ≤ length old = omega (arith, fits) in
    absurd (refused_no_result (put.answer ∙ ap size_written (has_room 0 (length old) text room)))

-- so what is printed for the start of a known input, and is no other for the whole of it, is what the whole gives
pub whole_printed : {T E : Type 0} (program : List ℕ → List ℕ) (room : ℕ) (r : Result T E) (known before after : Option (List ℕ)) {taken printed : List ℕ}
    → IfSome known (λ (input : List ℕ). taken ≡ take room input) → ((input : List ℕ) → program (take room input) ≡ program input) → printed ≡ program taken
    → OnOk r (Appends before after printed) → OnOk r (IfSome known (λ (input : List ℕ). Appends before after (program input)))
whole_printed program room (Err e) known before after start prefix same put = tt
whole_printed program room (Ok x) None before after start prefix same put = tt
whole_printed program room (Ok x) (Some input) before after start prefix same put =
    subst (Appends before after) (same ∙ ap program start ∙ prefix input) put
