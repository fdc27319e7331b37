-- A slice filled from a place on, `out[k] = v; k += 1`: what stands before k, followed by what is still to come, is the
-- whole, and behind it nothing has changed.
use Rattle.std.specs.Prelude.{◌≡◌, refl, List, [], ◌∷◌, ◌++◌, ℕ, ◌+◌, ◌-◌, ◌≤◌, ◌<◌, length, take, drop, set}
use Rattle.std.proofs.Common.{sym, ap, ap₂, ◌∙◌, append-nil, arith, add-one, length-take, length-set, take-append-drop, take-suc-set, drop-set-lt, drop-drop}
use Rattle.std.proofs.Math.Seq.{append_snoc}

pub record Filling {A : Type 0} (old out : List A) (k : ℕ) (rest whole : List A) : Type 0 where
  pub within : k ≤ length old
  pub same : length out ≡ length old
  pub front : take k out ++ rest ≡ whole
  pub behind : drop k out ≡ drop k old

pub filling_start : {A : Type 0} (old whole : List A) → Filling old old 0 whole whole
filling_start old whole = record { within = omega arith; same = refl; front = refl; behind = refl }

module _ {A : Type 0} {old out whole rest : List A} {k : ℕ} (f : Filling old out k rest whole) where
  pub filling_turn : k < length old → (v : A) (more : List A) → rest ≡ v ∷ more → Filling old (set out k v) (k + 1) more whole
  filling_turn h v more e = record {
    within = omega arith;
    same = length-set out k v ∙ f.same;
    front =
        ap (λ (n : ℕ). take n (set out k v) ++ more) (add-one k)
        ∙ (ap (λ (l : List A). l ++ more) (take-suc-set out k v (omega (arith, f.same)))
        ∙ (append_snoc (take k out) v more ∙ (ap (λ (l : List A). take k out ++ l) (sym e) ∙ f.front)));
    behind = drop-set-lt (k + 1) out k v (omega arith) ∙ (sym (drop-drop 1 k out) ∙ (ap (drop 1) f.behind ∙ drop-drop 1 k old));
  }

  pub filling_done : rest ≡ [] → take k out ≡ whole
  filling_done e = sym (append-nil (take k out)) ∙ (ap (λ (l : List A). take k out ++ l) (sym e) ∙ f.front)

  pub filling_end : rest ≡ [] → out ≡ whole ++ drop (length whole) old
  filling_end e =
      let all_filled : k ≡ length whole = omega (arith, ap length (filling_done e), length-take k out, f.same, f.within) in
      sym (take-append-drop k out) ∙ ap₂ (λ (l m : List A). l ++ m) (filling_done e) (f.behind ∙ ap (λ (n : ℕ). drop n old) all_filled)

  pub filling_behind : (n : ℕ) → k ≤ n → drop n out ≡ drop n old
  filling_behind n h =
      let e : k + (n - k) ≡ n = omega arith in
      ap (λ (m : ℕ). drop m out) (sym e)
      ∙ (sym (drop-drop (n - k) k out) ∙ (ap (drop (n - k)) f.behind ∙ (drop-drop (n - k) k old ∙ ap (λ (m : ℕ). drop m old) e)))
