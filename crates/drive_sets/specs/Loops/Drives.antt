-- The drives of a mask gone through from the lowest on, `while m != 0 { let d = lowest(m); .. m = without_lowest(m);
-- }`: what f makes of the drives that are left is the whole. A turn may change f, as where the loop gathers something.
use Rattle.std.specs.Prelude.{◌≡◌, refl, true, List, [], ◌∷◌, ℕ, ◌^◌, ◌≤◌, ◌<◌}
use Rattle.std.proofs.Common.{sym, ap, ap₂, ◌∙◌, subst}
use Rattle.drive_sets.specs.Masks.{has, single, minus, size, lowest, drives}
use Rattle.drive_sets.specs.Masks.Laws.{has_bounds, minus_lt, subset_has, subset_minus}
use Rattle.drive_sets.specs.Masks.OneDrive.{remove_keeps}
use Rattle.drive_sets.specs.Masks.Sizes.{lowest_has, drives_lowest, drives_none, lowest_removed}

-- d is the lowest drive of m, and `others` has the others
pub record Taken (m d others : ℕ) : Type 0 where
  pub word : m < 2 ^ 64
  pub some : m ≡ 0 → ⊥
  pub first : d ≡ lowest m
  pub left : others ≡ minus m (single (lowest m))

pub taken : {m d others : ℕ} → m < 2 ^ 64 → (m ≡ 0 → ⊥) → d ≡ lowest m → others ≡ minus m (single (lowest m)) → Taken m d others
taken h ne p q = record { word = h; some = ne; first = p; left = q }

pub lowest_bounds : {m d : ℕ} → m < 2 ^ 64 → (m ≡ 0 → ⊥) → d ≡ lowest m → (1 ≤ d) × (d ≤ 64)
lowest_bounds {m} h ne p = subst (λ (k : ℕ). (1 ≤ k) × (k ≤ 64)) (sym p) (has_bounds 64 (lowest m) m h (lowest_has m h ne))

module _ {m d others : ℕ} (t : Taken m d others) where
  pub taken_has : has d m ≡ true
  taken_has = ap (λ (k : ℕ). has k m) t.first ∙ lowest_has m t.word t.some

  pub taken_bounds : (1 ≤ d) × (d ≤ 64)
  taken_bounds = lowest_bounds t.word t.some t.first

  pub taken_drives : drives m ≡ d ∷ drives others
  taken_drives = drives_lowest m t.word t.some ∙ ap₂ (λ (k n : ℕ). k ∷ drives n) (sym t.first) (sym t.left)

  pub taken_fewer : size others < size m
  taken_fewer = subst (λ (k : ℕ). size k < size m) (sym t.left) (lowest_removed m t.word t.some)

  -- in every frame
  pub taken_lt : (n : ℕ) → m < 2 ^ n → others < 2 ^ n
  taken_lt n h = subst (λ (k : ℕ). k < 2 ^ n) (sym t.left) (minus_lt n m (single (lowest m)) h)

  pub taken_left : (e : ℕ) → has e others ≡ true → has e m ≡ true
  taken_left e h =
      subset_has e (minus m (single (lowest m))) m (subset_minus 64 m (single (lowest m)) t.word) (ap (has e) (sym t.left) ∙ h)

  -- every drive but the one taken is left
  pub taken_other : (e : ℕ) → has e m ≡ true → (e ≡ d → ⊥) → has e others ≡ true
  taken_other e h ne =
      let b = taken_bounds in
      ap (has e) (t.left ∙ ap (λ (k : ℕ). minus m (single k)) (sym t.first)) ∙ remove_keeps d b.0 b.1 e m h ne

-- ---- the invariant

pub record Walk {A : Type 0} (whole : A) (f : List ℕ → A) (m : ℕ) : Type 0 where
  pub word : m < 2 ^ 64
  pub rest : f (drives m) ≡ whole

pub walk_start : {A : Type 0} (f : List ℕ → A) (m : ℕ) → m < 2 ^ 64 → Walk (f (drives m)) f m
walk_start f m h = record { word = h; rest = refl }

module _ {A : Type 0} {whole : A} {f : List ℕ → A} {m : ℕ} (w : Walk whole f m) where
  module _ {d others : ℕ} (t : Taken m d others) where
    pub walk_next : f (d ∷ drives others) ≡ whole
    walk_next = ap f (sym (taken_drives t)) ∙ w.rest

    pub walk_turn : (g : List ℕ → A) → f (d ∷ drives others) ≡ g (drives others) → Walk whole g others
    walk_turn g e = record { word = taken_lt t 64 w.word; rest = sym e ∙ walk_next }

  pub walk_end : m ≡ 0 → f [] ≡ whole
  walk_end z = ap f (sym (ap drives z ∙ drives_none)) ∙ w.rest
