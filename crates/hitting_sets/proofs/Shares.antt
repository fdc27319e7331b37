-- For each drive, what its private sets share: the sets from the last to the first, of which one with one drive of m
-- counts for that drive.
use mathlib.Core.Path.{◌≡◌, refl, sym, ap, ◌∙◌, subst}
use mathlib.Core.List.{List, [], ◌∷◌, ◌++◌}
use Prim.Native.Nat.{ℕ, ◌-◌, ◌^◌, ◌≤◌, ◌<◌}
use native.Mathlib.Omega.{arith}
use denote.Ref.{Bor}
use lib.Dec.{eqb}
use lib.ListN.{length, get_or, set, replicate, length-set, get_or-replicate}
use lib.Seq.{get_or-set_same, get_or-set_other}
use borrow.Author.Tests.{eqb-true, eqb-false, eq-eqb, ne_eqb}
use Rattle.drive_sets.specs.Bools.Laws.{by_test}
use Rattle.drive_sets.specs.Lists.{filter}
use Rattle.drive_sets.specs.Masks.{has, single, full, common, size, lowest}
use Rattle.drive_sets.specs.Masks.Laws.{has_bounds, common_lt_right}
use Rattle.drive_sets.specs.Masks.Sizes.{size_single}
use Rattle.drive_sets.specs.Masks.OneDrive.{lone_has, lone_single, single_has, has_one}
use Rattle.hitting_sets.specs.LookAhead.{in_all, privates}
use Rattle.hitting_sets.proofs.Backwards.{remaining, Last, Passed, passed_start, passed_turn, passed_end}
use Rattle.hitting_sets.proofs.OneMore.{kept_more, kept_skip}

-- what the private sets of d share
abbrev pub Shared : ℕ → ℕ → List ℕ → ℕ
Shared m d l = in_all (privates l m d)

pub record Sharing (sets : List ℕ) (m : ℕ) (yielded : List (Bor ℕ)) (all : List ℕ) : Type 0 where
  pub places : length all ≡ 64
  pub each : (d : ℕ) → 1 ≤ d → d ≤ 64 → Passed (Shared m d) sets yielded (get_or all (d - 1) 0)

pub sharing_start : (sets : List ℕ) (m : ℕ) → Sharing sets m [] (replicate 64 0xffff_ffff_ffff_ffff)
unfolding in_all privates filter full
sharing_start sets m = record {
  places = refl;
  each = λ d low high. passed_start (Shared m d) sets (get_or (replicate 64 0xffff_ffff_ffff_ffff) (d - 1) 0)
      (get_or-replicate 64 (d - 1) 0xffff_ffff_ffff_ffff 0 (omega arith));
}

module _ {sets : List ℕ} {m : ℕ} {yielded : List (Bor ℕ)} {all : List ℕ} (h : Sharing sets m yielded all) {s : Bor ℕ} (l : Last sets yielded s) where
  -- the set shares one drive with m: the lowest that they share
  module _ (word : m < 2 ^ 64) (e : size (common s.now m) ≡ 1) (k : ℕ) (p : k ≡ lowest (common s.now m)) where
    private_to : common s.now m ≡ single k
    private_to = lone_single (common s.now m) (common_lt_right 64 s.now m word) e ∙ ap single (sym p)

    pub shared_bounds : (1 ≤ k) × (k ≤ 64)
    shared_bounds =
        let x = common s.now m in
        let x_lt = common_lt_right 64 s.now m word in
        has_bounds 64 k x x_lt (ap (λ (y : ℕ). has y x) p ∙ lone_has x x_lt e)

    -- y is put at its place j
    pub sharing_one : (j y : ℕ) → j ≡ k - 1 → y ≡ common s.now (get_or all j 0) → Sharing sets m (yielded ++ s ∷ []) (set all j y)
    unfolding privates in_all
    sharing_one j y j_is q = record {
      places = length-set all j y ∙ h.places;
      each = λ d low high.
          by_test (eqb d k)
          (λ t. here d (eqb-true d k t))
          (λ t. other d low high (eqb-false d k t));
    }
      where
        low_k : 1 ≤ k
        low_k = shared_bounds.0

        high_k : k ≤ 64
        high_k = shared_bounds.1

        here : (d : ℕ) → d ≡ k → Passed (Shared m d) sets (yielded ++ s ∷ []) (get_or (set all j y) (d - 1) 0)
        here d t =
            let same : d - 1 ≡ j = omega arith in
            let bound : j < length all = omega (arith, h.places, low_k, high_k) in
            subst (Passed (Shared m d) sets (yielded ++ s ∷ [])) (sym (ap (λ (x : ℕ). get_or (set all j y) x 0) same ∙ get_or-set_same all j y 0 bound))
            (passed_turn (h.each d (omega (arith, low_k)) (omega (arith, high_k))) l y
            (kept_more in_all (λ s. eqb (common s m) (single d)) s.now (get_or all (d - 1) 0)
            (eq-eqb _ _ (private_to ∙ ap single (sym t))) y
            (λ l r. q ∙ ap (common s.now) (ap (λ (x : ℕ). get_or all x 0) (sym same) ∙ r))))

        other : (d : ℕ) → 1 ≤ d → d ≤ 64 → (d ≡ k → ⊥) → Passed (Shared m d) sets (yielded ++ s ∷ []) (get_or (set all j y) (d - 1) 0)
        other d low high t =
            subst (Passed (Shared m d) sets (yielded ++ s ∷ [])) (sym (get_or-set_other all j (d - 1) y 0 (λ z. t (omega (arith, low_k)))))
            (passed_turn (h.each d low high) l (get_or all (d - 1) 0)
            (kept_skip in_all (λ s. eqb (common s m) (single d)) s.now (get_or all (d - 1) 0)
            (ne_eqb _ _ (λ z. t (has_one k low_k high_k d (ap (has d) (sym private_to ∙ z) ∙ single_has d low high))))))

  pub sharing_none : (size (common s.now m) ≡ 1 → ⊥) → Sharing sets m (yielded ++ s ∷ []) all
  unfolding privates
  sharing_none ne = record {
    places = h.places;
    each = λ d low high.
        passed_turn (h.each d low high) l (get_or all (d - 1) 0)
        (kept_skip in_all (λ s. eqb (common s m) (single d)) s.now (get_or all (d - 1) 0)
        (ne_eqb _ _ (λ z. ne (ap size z ∙ size_single d low high))));
  }

pub sharing_end : {sets : List ℕ} {m : ℕ} {yielded : List (Bor ℕ)} {all : List ℕ} → Sharing sets m yielded all → remaining sets yielded ≤ 0
    → (d : ℕ) → 1 ≤ d → d ≤ 64 → get_or all (d - 1) 0 ≡ in_all (privates sets m d)
sharing_end {yielded = yielded} h none d low high = passed_end yielded (h.each d low high) none
