-- A list gone through from its end, `while 0 < i { i -= 1; .. }`: x is what f gives of the elements passed, those from
-- i on.
use Rattle.std.specs.Prelude.{◌≡◌, List, [], ◌∷◌, ℕ, suc, ◌-◌, ◌≤◌, ◌<◌, length, get_or, drop}
use Rattle.std.proofs.Common.{sym, ap, ◌∙◌, le_refl, arith, drop-cons}
use Rattle.std.proofs.Math.Seq.{drop-length}

pub record Back {A : Type 0} (f : List ℕ → A) (l : List ℕ) (i : ℕ) (x : A) : Type 0 where
  pub within : i ≤ length l
  pub rest : x ≡ f (drop i l)

pub back_start : {A : Type 0} (f : List ℕ → A) (l : List ℕ) (x : A) → x ≡ f [] → Back f l (length l) x
back_start f l x e = record { within = le_refl (length l); rest = e ∙ sym (ap f (drop-length l)) }

module _ {A : Type 0} {f : List ℕ → A} {l : List ℕ} {i : ℕ} {x : A} (b : Back f l i x) where
  pub back_turn : 0 < i → (y : A) → ((r : List ℕ) → x ≡ f r → y ≡ f (get_or l (i - 1) 0 ∷ r)) → Back f l (i - 1) y
  back_turn h y step =
      let next : i ≡ suc (i - 1) = omega arith in
      record {
        within = omega (arith, b.within);
        rest = step (drop i l) b.rest
            ∙ (ap (λ (k : ℕ). f (get_or l (i - 1) 0 ∷ drop k l)) next ∙ sym (ap f (drop-cons l (i - 1) 0 (omega (arith, b.within)))));
      }

  pub back_end : i ≤ 0 → x ≡ f l
  back_end h = let none : i ≡ 0 = omega arith in b.rest ∙ ap (λ (k : ℕ). f (drop k l)) none
