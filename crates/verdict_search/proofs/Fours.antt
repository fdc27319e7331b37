-- Lists in arrays of four, with zeros behind them.
use mathlib.Core.Path.{◌≡◌, refl, sym, ap, ap₂, ◌∙◌}
use mathlib.Core.List.{List, [], ◌∷◌, ◌++◌}
use Prim.Native.Nat.{ℕ, zero, suc, ◌+◌, ◌-◌, ◌≤◌}
use native.Mathlib.Omega.{arith}
use lib.ListN.{length, get_or, take, drop, replicate, length-take, length-append}
use lib.Seq.{drop-cons, take-take, take_at, drop_at, take-append-add}
use borrow.Rule.Slice.PartMut.{post_of}
use Rattle.verdict_search.specs.Held.{in_four}

abbrev pub zeros : ℕ → List ℕ
zeros j = replicate j 0

fewer : (k : ℕ) → k ≤ 4 → take (4 - k) (zeros 4) ≡ drop k (zeros 4)
fewer zero h = refl
fewer (suc zero) h = refl
fewer (suc (suc zero)) h = refl
fewer (suc (suc (suc zero))) h = refl
fewer (suc (suc (suc (suc zero)))) h = refl
fewer (suc (suc (suc (suc (suc k))))) h = absurd (omega arith)

module _ (l : List ℕ) where
  pub length_four : length (in_four l) ≡ 4
  unfolding in_four
  length_four = length-take 4 (l ++ zeros 4) ∙ omega (arith, length-append l (zeros 4))

  -- the list comes back
  pub take_four : (k : ℕ) → length l ≡ k → k ≤ 4 → take k (in_four l) ≡ l
  unfolding in_four
  take_four k count few = take-take k 4 (l ++ zeros 4) few ∙ take_at l (zeros 4) k count

  pub zeros_behind : length l ≤ 4 → l ++ drop (length l) (zeros 4) ≡ in_four l
  unfolding in_four
  zeros_behind few =
      let room : 4 ≡ length l + (4 - length l) = omega arith in
      sym (ap (λ (j : ℕ). take j (l ++ zeros 4)) room ∙ (take-append-add l (zeros 4) (4 - length l) ∙ ap (λ (r : List ℕ). l ++ r) (fewer (length l) few)))

-- a list changed within its array, where no more and no fewer than its elements are
pub changed_in : (f : List ℕ → List ℕ) (l : List ℕ) (k : ℕ) → length l ≡ k → k ≤ 4 → length (f l) ≡ k → (r back : List ℕ) {stop : ℕ} → stop ≡ k → r ≡ in_four l → back ≡ f (take stop r)
    → back ++ post_of 0 stop r ≡ in_four (f l)
changed_in f l k count few same r back whole e g =
    let front = g ∙ ap f (ap₂ take whole e ∙ take_four l k count few) in
    let behind = ap₂ drop whole (e ∙ sym (zeros_behind l (omega arith))) ∙ (drop_at l (drop (length l) (zeros 4)) k count ∙ ap (λ (j : ℕ). drop j (zeros 4)) (count ∙ sym same)) in
    ap₂ (λ (a b : List ℕ). a ++ b) front behind ∙ zeros_behind (f l) (omega arith)

first_three : (l : List ℕ) → 3 ≤ length l → take 3 l ≡ get_or l 0 0 ∷ get_or l 1 0 ∷ get_or l 2 0 ∷ []
first_three l h =
    ap (take 3)
    (drop-cons l 0 0 (omega arith)
    ∙ ap (λ (t : List ℕ). get_or l 0 0 ∷ t) (drop-cons l 1 0 (omega arith) ∙ ap (λ (t : List ℕ). get_or l 1 0 ∷ t) (drop-cons l 2 0 (omega arith))))

-- an element in front of those of an array, of which the last has no room
pub in_front : (p : ℕ) (ps q : List ℕ) → q ≡ in_four ps → p ∷ get_or q 0 0 ∷ get_or q 1 0 ∷ get_or q 2 0 ∷ [] ≡ in_four (p ∷ ps)
unfolding in_four
in_front p ps q e =
    ap (λ (l : List ℕ). p ∷ l)
    (sym (first_three q (omega (arith, ap length e, length_four ps))) ∙ (ap (take 3) e ∙ take-take 3 4 (ps ++ zeros 4) (omega arith)))
