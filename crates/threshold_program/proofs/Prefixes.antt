-- What stands behind the third byte of the input changes nothing: the third is refused.
use Rattle.std.proofs.Common.{◌≡◌, refl, sym, ap, ◌∙◌, ℕ, suc, ◌+◌, ◌≤◌, ◌<◌, List, [], ◌∷◌, arith, length, take, lt-ltb, le-ltb}
use Rattle.drive_sets.specs.Bools.Laws.{cond_true, cond_false}
use Rattle.drive_sets.specs.declared.Refusal.TheVariants.{TrailingBytes}
use Rattle.drive_sets.specs.Refusals.{Outcome, refused, number}
use Rattle.text.specs.Printing.{printed}
use Rattle.threshold_files.specs.ThresholdFiles.{asked, threshold_program}

third_refused : (x y z : ℕ) (rest : List ℕ) → asked (x ∷ y ∷ z ∷ rest) ≡ refused (number TrailingBytes)
unfolding asked
third_refused x y z rest =
    let many : 2 < length (x ∷ y ∷ z ∷ rest) = omega arith in
    cond_false _ _ (le-ltb (length (x ∷ y ∷ z ∷ rest)) 2 (omega (arith, many))) ∙ cond_true _ _ (lt-ltb 2 (length (x ∷ y ∷ z ∷ rest)) many)

pub threshold_program_prefix : (s : List ℕ) → threshold_program (take 3 s) ≡ threshold_program s
unfolding threshold_program
threshold_program_prefix [] = refl
threshold_program_prefix (x ∷ []) = refl
threshold_program_prefix (x ∷ y ∷ []) = refl
threshold_program_prefix (x ∷ y ∷ z ∷ rest) = ap printed (third_refused x y z [] ∙ sym (third_refused x y z rest))
