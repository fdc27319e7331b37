-- The answers of the verdict on a normal table, from what the search found.
use mathlib.Core.Path.{◌≡◌, refl, sym, ap, ap₂, ◌∙◌}
use mathlib.Core.Bool.{Bool, true, false, not, ◌&&◌}
use mathlib.Core.List.{List}
use mathlib.Core.Option.{none, some}
use Rattle.std.specs.Prelude.{None, Some}
use Prim.Native.Nat.{ℕ, ◌≤◌}
use native.Mathlib.Omega.{arith}
use lib.Dec.{leb}
use lib.ListN.{length, take}
use Rattle.drive_sets.specs.Lists.{elem}
use Rattle.drive_sets.specs.Masks.{full}
use Rattle.drive_sets.specs.Masks.Laws.{full_word, has_some}
use Rattle.verdict_search.specs.declared.Verdict.{Verdict as Answer}
use Rattle.splits.specs.Splits.{fill_empty}
use Rattle.verdict_search.specs.Verdicts.{Verdict, yes, no, sets_at, disjoint, blocks_of, verdict_on}
use Rattle.verdict_search.proofs.Verdicts.Firsts.{First, disjoint_first}
use Rattle.verdict_search.proofs.Verdicts.Intersection.{none_yes, some_no, no_counts}
use Rattle.verdict_search.specs.Verdicts.BlockCounts.{block_count_within}
use Rattle.verdict_search.specs.Verdicts.CommonPart.{every_lt, in_every_law}
use Rattle.verdict_search.specs.Meaning.{in_every}
use Rattle.verdict_search.specs.Held.{verdict_of, answer_of, with_blocks, in_four, Found, found_in}
use Rattle.verdict_search.proofs.Branches.{share_none}
use Rattle.verdict_search.proofs.Fours.{length_four, take_four}
use Rattle.verdict_search.proofs.Loops.{found_none, found_some}

-- where the number of blocks passed its test
pub count_bounds : (k : ℕ) {good : Bool} → good ≡ (leb 2 k && leb k 4) → not good ≡ false → (2 ≤ k) × (k ≤ 4)
count_bounds k is h = block_count_within k (ap not (sym is) ∙ h)

-- ---- an answer says the verdict that it holds

says_yes : (k : ℕ) → verdict_of (answer_of yes) k ≡ yes
unfolding verdict_of answer_of
says_yes k = refl

says_no : (k : ℕ) (ps blocks : List ℕ) → k ≤ 4 → length ps ≡ k → length blocks ≡ k → verdict_of (answer_of (no ps blocks)) k ≡ no ps blocks
unfolding verdict_of answer_of with_blocks
says_no k ps blocks few p q = ap₂ no (take_four ps k p few) (take_four blocks k q few)

module _ (k n : ℕ) (table : List ℕ) (few : k ≤ 4) where
  first_found : (ps : List ℕ) → disjoint k 1 table (full n) ≡ some ps → First k 1 table (full n) ps
  first_found ps e = disjoint_first k table 1 (full n) ps (full_word n) e

  says : verdict_of (answer_of (verdict_on k n table)) k ≡ verdict_on k n table
  says = go (verdict_on k n table) refl
    where
      go : (v : Verdict) → verdict_on k n table ≡ v → verdict_of (answer_of v) k ≡ v
      go yes e = says_yes k
      go (no ps blocks) e = let counts = no_counts k n table e in says_no k ps blocks few counts.0 counts.1

  -- an answer that holds the verdict says it
  pub held_says : (r : Answer) → r ≡ answer_of (verdict_on k n table) → (verdict_of r k ≡ verdict_on k n table) × (r ≡ answer_of (verdict_on k n table))
  held_says r e = (ap (λ (x : Answer). verdict_of x k) e ∙ says, e)

  -- ---- yes

  answer_none : disjoint k 1 table (full n) ≡ none → answer_of yes ≡ answer_of (verdict_on k n table)
  answer_none e = ap answer_of (sym (none_yes k n table e))

  module _ (m : ℕ) (is_full : m ≡ full n) where
    -- a drive that every set has is in any sets named
    pub answer_every : (c : ℕ) → c ≡ in_every m table → (c ≡ 0 → ⊥) → answer_of yes ≡ answer_of (verdict_on k n table)
    answer_every c e ne =
        let d = has_some 64 (in_every (full n) table) (every_lt 64 (full n) table (full_word n)) (λ z. ne (e ∙ (ap (λ (x : ℕ). in_every x table) is_full ∙ z))) in
        let all = in_every_law d.0 (full n) table d.1 in
        answer_none (share_none table k 0 (full n) (full_word n) (λ sets count from. (d.0, all.0, λ s i. all.1 s (from s i))))

    module _ (found : Found) (is_found : found ≡ found_in (disjoint k 1 table m)) where
      search_is : found ≡ found_in (disjoint k 1 table (full n))
      search_is = is_found ∙ ap (λ (x : ℕ). found_in (disjoint k 1 table x)) is_full

      pub answer_yes : found ≡ None → answer_of yes ≡ answer_of (verdict_on k n table)
      answer_yes a = answer_none (found_none (disjoint k 1 table (full n)) search_is a)

      -- ---- no

      module _ {positions : List ℕ} (a : found ≡ Some positions) where
        at : (ps : List ℕ) × (disjoint k 1 table (full n) ≡ some ps) × (positions ≡ in_four ps)
        at = found_some (disjoint k 1 table (full n)) search_is a

        taken : take k positions ≡ at.0
        taken = ap (take k) at.2 ∙ take_four at.0 k (first_found at.0 at.1).names.count few

        -- the positions found are positions of the table
        pub found_within : (k ≤ 4) × (length positions ≡ 4) × ((p : ℕ) → elem p (take k positions) ≡ true → (1 ≤ p) × (p ≤ length table))
        found_within = (
          few,
          ap length at.2 ∙ length_four at.0,
          λ p i.
              let b = (first_found at.0 at.1).names.within p (ap (elem p) (sym taken) ∙ i) in
              (b.0, omega arith),
        )

        pub answer_no : (r : Answer) → r ≡ with_blocks positions (fill_empty (blocks_of n 0 (sets_at table (take k positions))))
            → r ≡ answer_of (verdict_on k n table)
        unfolding answer_of
        answer_no r e =
            e
            ∙ (ap₂ (λ (l r : List ℕ). with_blocks l (fill_empty (blocks_of n 0 (sets_at table r)))) at.2 taken
            ∙ ap answer_of (sym (some_no k n table at.1)))
