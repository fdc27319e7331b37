-- The turns of `for s in sets.iter().rev()`: each has the last of the sets that are left.
use mathlib.Core.Path.{◌≡◌, sym, ap, ◌∙◌, subst}
use mathlib.Core.List.{List, ◌∷◌, ◌++◌, []}
use Prim.Native.Nat.{ℕ, ◌-◌, ◌<◌, ◌≤◌}
use native.Mathlib.Nat.{sub-zero}
use native.Mathlib.Omega.{arith}
use denote.Ref.{Bor}
use lib.ListN.{length, get_or}
use Rattle.std.specs.Prelude.{Option, Some, None}
use Rattle.std.specs.Iterator.{Yields}
use Rattle.std.specs.Iterator.Adapters.{rev_source, rev_steps}
use Rattle.std.specs.Slice.Iter.{iter_rest, iter_steps_back}
use Rattle.std.specs.declared.iter.Rev.{Rev}
use Rattle.std.specs.declared.slice.Iter.{Iter}
use Rattle.std.proofs.lemmas.Grind.{get_or_default_zero}
use Rattle.std.proofs.lemmas.List.{get_or-reverse, length-reverse, length_push}
use Rattle.std.proofs.lemmas.Iterator.Adapters.{YieldsList-from_rev_slice}
use Rattle.std.proofs.lemmas.Iterator.Consumers.{YieldsList-turn, YieldsList-end}
use Rattle.drive_sets.specs.Loops.Back.{Back, back_start, back_turn, back_end}

-- how many are left
abbrev pub remaining : List ℕ → List (Bor ℕ) → ℕ
remaining sets yielded = length sets - length yielded

-- x is the last of those that are left
pub record Last (sets : List ℕ) (yielded : List (Bor ℕ)) (x : Bor ℕ) : Type 0 where
  pub some : 0 < remaining sets yielded
  pub item : x.now ≡ get_or sets (remaining sets yielded - 1) 0

module _ (sets : List ℕ) (s : Rev (Iter ℕ)) (e : iter_rest (rev_source s) ≡ sets) (yielded : List (Bor ℕ)) (t : Rev (Iter ℕ)) (y : Yields (rev_steps iter_steps_back) s yielded t)
    (r : Option (Bor ℕ)) (u : Rev (Iter ℕ)) (h : rev_steps iter_steps_back t r u) where
  pub last_item : (x : Bor ℕ) → r ≡ Some x → Last sets yielded x
  last_item x q =
      let k = length yielded in
      let w = YieldsList-turn (YieldsList-from_rev_slice sets e) yielded t y r u x q h in
      let lt : k < length sets = omega (arith, w.0, length-reverse sets) in
      let at : length sets - 1 - k ≡ remaining sets yielded - 1 = omega arith in
      record {
        some = omega arith;
        item =
            w.1
            ∙ (get_or-reverse sets k x.now lt
            ∙ (get_or_default_zero sets (length sets - 1 - k) x.now (omega arith) ∙ ap (λ (n : ℕ). get_or sets n 0) at));
      }

  pub none_left : r ≡ None → remaining sets yielded ≤ 0
  none_left q = let w = YieldsList-end (YieldsList-from_rev_slice sets e) yielded t y r u q h in omega (arith, w.1, length-reverse sets)

-- what f gives of the sets passed
abbrev pub Passed : (List ℕ → ℕ) → List ℕ → List (Bor ℕ) → ℕ → Type 0
Passed f sets yielded x = Back f sets (remaining sets yielded) x

pub passed_start : (f : List ℕ → ℕ) (sets : List ℕ) (x : ℕ) → x ≡ f [] → Passed f sets [] x
passed_start f sets x e = subst (λ (n : ℕ). Back f sets n x) (sym (sub-zero (length sets))) (back_start f sets x e)

module _ {f : List ℕ → ℕ} {sets : List ℕ} {yielded : List (Bor ℕ)} {x : ℕ} (p : Passed f sets yielded x) where
  pub passed_turn : {s : Bor ℕ} → Last sets yielded s → (y : ℕ) → ((r : List ℕ) → x ≡ f r → y ≡ f (s.now ∷ r)) → Passed f sets (yielded ++ s ∷ []) y
  passed_turn {s} l y step =
      subst (λ (n : ℕ). Back f sets n y) (omega (arith, length_push yielded s)) (back_turn p l.some y (λ r e. step r e ∙ ap (λ (k : ℕ). f (k ∷ r)) l.item))

pub passed_end : {f : List ℕ → ℕ} {sets : List ℕ} {x : ℕ} (yielded : List (Bor ℕ)) → Passed f sets yielded x → remaining sets yielded ≤ 0 → x ≡ f sets
passed_end yielded p h = back_end p h
