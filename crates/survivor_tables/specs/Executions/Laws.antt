-- The cores are the minimal hitting sets of the survivor sets; more widely, of any list of sets of which the correct
-- processes of each execution hold one, and each of which occurs.
use Rattle.std.specs.Prelude.{◌≡◌, refl, Bool, List, ℕ, zero, suc, ◌^◌, ◌≤◌, ◌<◌}
use Rattle.std.proofs.Common.{sym, ap, ◌∙◌, arith}
use Rattle.std.proofs.Math.Path.{subst}
use Rattle.std.proofs.Math.Bool.{true, false}
use Rattle.drive_sets.specs.Bools.Laws.{clash, false_of, true_of}
use Rattle.drive_sets.specs.Lists.{any, elem}
use Rattle.drive_sets.specs.Lists.Laws.{all_not, any_elem, any_intro}
use Rattle.drive_sets.specs.Masks.{has, single, minus, meets, subset, size, Below}
use Rattle.drive_sets.specs.Masks.Laws.{has_bounds, subset_has, has_subset, subset_refl, subset_trans, subset_antisym, subset_lt, subset_minus, subset_not, meets_sym, meets_subset}
use Rattle.drive_sets.specs.Masks.OneDrive.{remove_keeps, remove_has}
use Rattle.drive_sets.specs.Masks.Sizes.{size_remove, size_subset}
use Rattle.survivor_tables.specs.Hitting.{hits, Minimal}
use Rattle.survivor_tables.specs.Hitting.Laws.{hits_meets, meets_hits}
use Rattle.survivor_tables.specs.Order.Normal.{Antichain}
use Rattle.survivor_tables.specs.Executions.{Core, Survivor, Describes, Tolerated}

-- ---- a set without one of its drives

module _ (n : ℕ) (frame : n ≤ 64) (m p : ℕ) (lt : m < 2 ^ n) (own : has p m ≡ true) where
  low : 1 ≤ p
  low = (has_bounds n p m lt own).0

  high : p ≤ 64
  high = omega (arith, (has_bounds n p m lt own).1)

  rest_misses : has p (minus m (single p)) ≡ false
  rest_misses = false_of (has p (minus m (single p))) (λ h. (remove_has p low high p m h).1 refl)

  part_of_rest : (a : ℕ) → subset a m ≡ true → has p a ≡ false → subset a (minus m (single p)) ≡ true
  part_of_rest a part none =
      has_subset n a (minus m (single p)) (subset_lt n a m part lt) (λ d h.
      remove_keeps p low high d m (subset_has d a m part h) (λ e. clash (ap (λ (x : ℕ). has x a) (sym e) ∙ h) none))

  rest_smaller : (a : ℕ) → subset a (minus m (single p)) ≡ true → size a < size m
  rest_smaller a part = omega (arith, size_subset a (minus m (single p)) part, size_remove p m low high own)

-- ---- the cores are the minimal hitting sets

module _ {Φ : Type 0} (n : ℕ) (frame : n ≤ 64) (sets : List ℕ) (correct : Φ → ℕ) where
  module _ (described : Describes n sets correct) where
    -- a set of drives that meets every set of the list meets the correct processes of every execution
    meets_correct : (m : ℕ) → hits sets m ≡ true → (φ : Φ) → meets (correct φ) m ≡ true
    meets_correct m h φ =
        let s = any_elem (λ s. subset s (correct φ)) sets (described.holds_set φ) in
        meets_sym (correct φ) m
        ∙ meets_subset n m s.0 (correct φ) (subset_lt n s.0 (correct φ) s.2 (described.within φ)) s.2
        (meets_sym m s.0 ∙ hits_meets sets m s.0 h s.1)

    pub core_hitting : (c : ℕ) → Core n correct c → Minimal sets c
    core_hitting c core =
        record {
          all_met = meets_hits sets c (λ s e.
              let w = described.occurs s e in subst (λ (x : ℕ). meets x c ≡ true) w.1 (core.some_correct w.0));
          no_part = λ part p h. subset_antisym part c p (true_of (subset c part) (λ q.
              let d = subset_not n c part core.within q in
              let w = core.none_to_spare d.0 d.1 in
              clash
              (meets_subset n (correct w.0) part (minus c (single d.0)) (subset_lt n part c p core.within)
              (part_of_rest n frame c d.0 core.within d.1 part p d.2) (meets_correct part h w.0))
              w.1));
        }

    pub hitting_core : (c : ℕ) → c < 2 ^ n → Minimal sets c → Core n correct c
    unfolding hits
    hitting_core c lt min =
        record {
          within = lt;
          some_correct = meets_correct c min.all_met;
          none_to_spare = λ p e.
              let missed = all_not (λ s. meets s (minus c (single p))) sets (rest_fails p e) in
              let w = described.occurs missed.0 missed.1 in
              (w.0, subst (λ (x : ℕ). meets x (minus c (single p)) ≡ false) (sym w.1) missed.2);
        }
      where
        rest_fails : (p : ℕ) → has p c ≡ true → hits sets (minus c (single p)) ≡ false
        rest_fails p e =
            false_of (hits sets (minus c (single p))) (λ h.
            clash (ap (has p) (min.no_part (minus c (single p)) (subset_minus n c (single p) lt) h) ∙ e) (rest_misses n frame c p lt e))

    -- ---- the survivor sets are in the list, and an antichain has no others

    set_lt : (s : ℕ) → elem s sets ≡ true → s < 2 ^ n
    set_lt s e = let w = described.occurs s e in subst (λ (x : ℕ). x < 2 ^ n) w.1 (described.within w.0)

    pub survivor_set : (s : ℕ) → Survivor correct s → elem s sets ≡ true
    survivor_set s survivor = subst (λ (x : ℕ). elem x sets ≡ true) same t.1
      where
        φ : (φ : Φ) × (correct φ ≡ s)
        φ = survivor.occurs

        t : (t : ℕ) × (elem t sets ≡ true) × (subset t (correct φ.0) ≡ true)
        t = any_elem (λ t. subset t (correct φ.0)) sets (described.holds_set φ.0)

        lt : s < 2 ^ n
        lt = subst (λ (x : ℕ). x < 2 ^ n) φ.1 (described.within φ.0)

        part : subset t.0 s ≡ true
        part = subst (λ (x : ℕ). subset t.0 x ≡ true) φ.1 t.2

        same : t.0 ≡ s
        same =
            subset_antisym t.0 s part (true_of (subset s t.0) (λ q.
            let p = subset_not n s t.0 lt q in
            let ψ = described.occurs t.0 t.1 in
            clash
            (ap (λ (x : ℕ). subset x (minus s (single p.0))) ψ.1 ∙ part_of_rest n frame s p.0 lt p.1 t.0 part p.2)
            (survivor.smallest ψ.0 p.0 p.1)))

    pub set_survivor : Antichain sets → (s : ℕ) → elem s sets ≡ true → Survivor correct s
    set_survivor antichain s e =
        record {
          occurs = described.occurs s e;
          smallest = λ φ p own. false_of (subset (correct φ) (minus s (single p))) (λ q.
              let t = any_elem (λ t. subset t (correct φ)) sets (described.holds_set φ) in
              let part = subset_trans n t.0 (correct φ) (minus s (single p)) (set_lt t.0 t.1) t.2 q in
              let same = antichain t.0 s t.1 e (subset_trans n t.0 (minus s (single p)) s (set_lt t.0 t.1) part (subset_minus n s (single p) (set_lt s e))) in
              clash (subset_has p t.0 (minus s (single p)) part (ap (has p) same ∙ own)) (rest_misses n frame s p (set_lt s e) own));
        }

  -- ---- the list of the survivor sets describes the executions

  -- By falling size: correct processes that held no survivor set would be one, since no smaller ones are without.
  pub survivors_describe : ((φ : Φ) → correct φ < 2 ^ n) → ((s : ℕ) → elem s sets ≡ true → Survivor correct s)
      → ((s : ℕ) → Survivor correct s → elem s sets ≡ true) → Describes n sets correct
  survivors_describe lt sound complete =
      record { within = lt; holds_set = λ φ. go (suc (size (correct φ))) φ (omega arith); occurs = λ s e. (sound s e).occurs }
    where
      holds : Φ → Bool
      holds φ = any (λ s. subset s (correct φ)) sets

      step : (φ : Φ) → ((ψ : Φ) → size (correct ψ) < size (correct φ) → holds ψ ≡ true) → holds φ ≡ true
      step φ smaller =
          true_of (holds φ) (λ none.
          clash
          (any_intro (λ s. subset s (correct φ)) sets (correct φ)
          (complete (correct φ) (record {
            occurs = (φ, refl);
            smallest = λ ψ p e. false_of (subset (correct ψ) (minus (correct φ) (single p))) (λ q.
                let s = any_elem (λ s. subset s (correct ψ)) sets (smaller ψ (rest_smaller n frame (correct φ) p (lt φ) e (correct ψ) q)) in
                let part = subset_trans n (correct ψ) (minus (correct φ) (single p)) (correct φ) (lt ψ) q (subset_minus n (correct φ) (single p) (lt φ)) in
                clash
                (any_intro (λ s. subset s (correct φ)) sets s.0 s.1
                (subset_trans n s.0 (correct ψ) (correct φ) (subset_lt n s.0 (correct ψ) s.2 (lt ψ)) s.2 part))
                none);
          }))
          (subset_refl (correct φ)))
          none)

      go : (k : ℕ) (φ : Φ) → size (correct φ) < k → holds φ ≡ true
      go zero φ h = absurd (omega arith)
      go (suc k) φ h = step φ (λ ψ less. go k ψ (omega arith))

-- ---- such executions: all that leave some set of the list correct

pub tolerated_described : (n : ℕ) (sets : List ℕ) → Below n sets → Describes {Φ = Tolerated n sets} n sets (λ w. w.0)
tolerated_described n sets lt =
    record {
      within = λ w. w.1;
      holds_set = λ w. w.2;
      occurs = λ s e. ((s, lt s e, any_intro (λ t. subset t s) sets s e (subset_refl s)), refl);
    }
