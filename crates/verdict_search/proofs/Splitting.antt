-- The loop over the named sets: the blocks so far, with those of the sets to come, are all the blocks.
use mathlib.Core.Path.{◌≡◌, sym, ap, ◌∙◌, subst}
use mathlib.Core.Bool.{true}
use mathlib.Core.List.{List, ◌∷◌}
use Prim.Native.Nat.{ℕ, ◌+◌, ◌≤◌, ◌<◌}
use native.Mathlib.Omega.{arith}
use lib.ListN.{length, get_or, take, drop, set, length-map, drop_of_length-le}
use lib.Seq.{get_or-take, length-take-le}
use Rattle.drive_sets.specs.Lists.{elem}
use Rattle.drive_sets.specs.Lists.Places.{get_or_elem, get_or_map}
use Rattle.drive_sets.specs.Loops.Filling.{Filling, filling_turn, filling_end}
use Rattle.drive_sets.specs.Loops.Scan.{drop_next}
use Rattle.drive_sets.specs.Masks.{union, outside}
use Rattle.verdict_search.specs.Verdicts.{set_at, sets_at, blocks_of}
use Rattle.verdict_search.specs.Held.{in_four}
use Rattle.verdict_search.proofs.Verdicts.Blocks.{length_blocks}
use Rattle.verdict_search.proofs.Fours.{zeros, zeros_behind}

-- ---- the named sets

module _ (table positions : List ℕ) (k : ℕ) (room : k ≤ length positions) where
  pub count_named : length (sets_at table (take k positions)) ≡ k
  count_named = length-map (take k positions) (set_at table) ∙ length-take-le k positions room

  module _ (i : ℕ) (h : i < k) where
    pub is_named : get_or (sets_at table (take k positions)) i 0 ≡ set_at table (get_or positions i 0)
    is_named =
        get_or_map (set_at table) (take k positions) i (omega (arith, length-take-le k positions room))
        ∙ ap (set_at table) (get_or-take k positions i 0 h)

    named_elem : elem (get_or positions i 0) (take k positions) ≡ true
    named_elem =
        subst (λ (p : ℕ). elem p (take k positions) ≡ true) (get_or-take k positions i 0 h)
        (get_or_elem (take k positions) i (omega (arith, length-take-le k positions room)))

    -- a position of the table, where each of the first k is one
    pub position_within : ((p : ℕ) → elem p (take k positions) ≡ true → (1 ≤ p) × (p ≤ length table))
        → (1 ≤ get_or positions i 0) × (get_or positions i 0 ≤ length table)
    position_within each = each (get_or positions i 0) named_elem

-- ---- the loop

-- the blocks of the sets before i are put, and those of the sets from i on are still to come
abbrev pub Splitting : ℕ → List ℕ → List ℕ → ℕ → ℕ → Type 0
Splitting n named blocks taken i = Filling (zeros 4) blocks i (blocks_of n taken (drop i named)) (blocks_of n 0 named)

module _ (n : ℕ) (named blocks : List ℕ) (taken i : ℕ) (few : length named ≤ 4) (f : Splitting n named blocks taken i) where
  pub splitting_turn : i < length named → (b : ℕ) → b ≡ outside n (union (get_or named i 0) taken) → Splitting n named (set blocks i b) (union taken b) (i + 1)
  unfolding blocks_of
  splitting_turn h b e =
      filling_turn f (omega arith) b (blocks_of n (union taken b) (drop (i + 1) named))
      (ap (blocks_of n taken) (drop_next named i h) ∙ ap (λ (x : ℕ). x ∷ blocks_of n (union taken x) (drop (i + 1) named)) (sym e))

  pub splitting_end : length named ≤ i → blocks ≡ in_four (blocks_of n 0 named)
  unfolding blocks_of
  splitting_end h =
      filling_end f (ap (blocks_of n taken) (drop_of_length-le named h))
      ∙ zeros_behind (blocks_of n 0 named) (omega (arith, length_blocks n 0 named))
