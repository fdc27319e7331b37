-- Groups put into a lent slice: one, and those without a drive followed by those with it; and put in order there.
use mathlib.Core.Path.{◌≡◌, refl, sym, ap, ◌∙◌, subst}
use mathlib.Core.List.{List, [], ◌∷◌, ◌++◌, map, map-append, map-map, map-id}
use Prim.Native.Nat.{ℕ, zero, suc, ◌+◌, ◌-◌, ◌≤◌, ◌<◌}
use native.Mathlib.Omega.{arith}
use lib.Bits.{or_zero_l}
use lib.ListN.{length, take, set, length-map}
use Rattle.drive_sets.specs.Filled.{Filled}
use Rattle.drive_sets.specs.Filled.Laws.{filled_one, filled_then, filled_same}
use Rattle.drive_sets.specs.Lists.Places.{map_same}
use Rattle.drive_sets.specs.Masks.{single, full, union}
use Rattle.drive_sets.specs.Masks.Laws.{union_none, union_assoc}
use Rattle.drive_sets.specs.Limits.{max_cores}
use Rattle.survivor_tables.specs.Order.{sort}
use Rattle.survivor_tables.specs.Tables.{core_order}
use Rattle.set_orders.specs.declared.sorting.Order.TheVariants.{BySize}
use Rattle.set_orders.specs.Sorting.{precedes, sort_first}
use Rattle.set_orders.specs.Sorting.Laws.{take_sort_first}
use Rattle.threshold.specs.Groups.{groups, group_count}
use Rattle.threshold.specs.Groups.Laws.{count_zero, count_sum, count_all, all_group}

both_added : (a b : ℕ) (l : List ℕ) → map (union a) (map (union b) l) ≡ map (union (union a b)) l
both_added a b l = map-map (union a) (union b) l ∙ map_same (λ g. union a (union b g)) (union (union a b)) l (λ g h. sym (union_assoc a b g))

-- the groups of k out of n drives, each with the drives of a set, and their number: those without drive n, then the
-- others
pub groups_with : (with n k : ℕ) → (k ≡ 0 → ⊥) → k ≤ n
    → map (union with) (groups k n) ≡ map (union with) (groups k (n - 1)) ++ map (union (union with (single n))) (groups (k - 1) (n - 1))
unfolding groups
groups_with with n zero some most = absurd (some refl)
groups_with with zero (suc k) some most = absurd (omega arith)
groups_with with (suc n) (suc k) some most =
    let last : suc n - 1 ≡ n = omega arith in
    let fewer : suc k - 1 ≡ k = omega arith in
    rw (last, fewer)
    (map-append (union with) (groups (suc k) n) (map (union (single (suc n))) (groups k n))
    ∙ ap (λ (l : List ℕ). map (union with) (groups (suc k) n) ++ l) (both_added with (single (suc n)) (groups k n)))

pub parts : (n k : ℕ) → (k ≡ 0 → ⊥) → k ≤ n → group_count k n ≡ group_count k (n - 1) + group_count (k - 1) (n - 1)
parts n zero some most = absurd (some refl)
parts zero (suc k) some most = absurd (omega arith)
parts (suc n) (suc k) some most =
    let last : suc n - 1 ≡ n = omega arith in
    let fewer : suc k - 1 ≡ k = omega arith in
    rw (last, fewer) (count_sum k n)

-- no drive to choose: one group
pub with_none : (with n k : ℕ) → k ≡ 0 → map (union with) (groups k n) ≡ with ∷ []
unfolding groups
with_none with n k e = ap (λ (j : ℕ). map (union with) (groups j n)) e ∙ ap (λ (g : ℕ). g ∷ []) (union_none with)

-- none to leave out: one group too
pub with_all : (with n k : ℕ) → n ≤ 64 → k ≡ n → map (union with) (groups k n) ≡ union with (full n) ∷ []
with_all with n k frame e = ap (λ (j : ℕ). map (union with) (groups j n)) e ∙ ap (map (union with)) (all_group n frame)

-- no drives beside those of a group
pub with_no_drives : (l : List ℕ) → map (union 0) l ≡ l
unfolding union
with_no_drives l = map_same (union 0) (λ g. g) l (λ g h. or_zero_l g) ∙ map-id l

-- ---- room: for the one group, or for those without drive n, which come first

module _ (n k at places : ℕ) (room : at + group_count k n ≤ places) where
  pub none_room : k ≡ 0 → at < places
  none_room e = omega (arith, room, ap (λ (j : ℕ). group_count j n) e, count_zero n)

  pub all_room : k ≡ n → at < places
  all_room e = omega (arith, room, ap (λ (j : ℕ). group_count j n) e, count_all n)

  pub first_room : (k ≡ 0 → ⊥) → k ≤ n → at + group_count k (n - 1) ≤ places
  first_room some most = omega (arith, room, parts n k some most)

-- ---- what is put

module _ (n k with at : ℕ) (out : List ℕ) (room : at + group_count k n ≤ length out) where
  pub fill_none : k ≡ 0 → Filled out (set out at with) at (at + 1) (map (union with) (groups k n))
  fill_none e = filled_same (with_none with n k e) (filled_one out at with (none_room n k at (length out) room e))

  pub fill_all : n ≤ 64 → k ≡ n → Filled out (set out at (union with (full n))) at (at + 1) (map (union with) (groups k n))
  fill_all frame e =
      filled_same (with_all with n k frame e) (filled_one out at (union with (full n)) (all_room n k at (length out) room e))

  module _ (some : k ≡ 0 → ⊥) (most : k ≤ n) (next : ℕ) (out' : List ℕ) (same : length out' ≡ length out)
      (first : Filled out out' at next (map (union with) (groups k (n - 1)))) where
    next_is : next ≡ at + group_count k (n - 1)
    unfolding group_count
    next_is = omega (arith, first.total, first_room n k at (length out) room some most, length-map (groups k (n - 1)) (union with))

    pub second_room : next + group_count (k - 1) (n - 1) ≤ length out'
    second_room = omega (arith, room, parts n k some most, next_is, same)

    pub fill_both : {out'' : List ℕ} {r with' : ℕ} → with' ≡ union with (single n)
        → Filled out' out'' next r (map (union with') (groups (k - 1) (n - 1))) → Filled out out'' at r (map (union with) (groups k n))
    fill_both {out''} {r} e second =
        filled_same (groups_with with n k some most)
        (filled_then out out' out'' at next r _ _ same first
        (subst (λ (w : ℕ). Filled out' out'' next r (map (union w) (groups (k - 1) (n - 1)))) e second))

-- all of them, from the first place on
pub filled_groups : (n k : ℕ) (out out' : List ℕ) (r : ℕ) → group_count k n ≤ length out → Filled out out' 0 r (map (union 0) (groups k n))
    → (r ≡ group_count k n) × (take r out' ≡ groups k n)
unfolding group_count
filled_groups n k out out' r room filled =
    let count : r ≡ length (groups k n) = omega (arith, filled.total, room, length-map (groups k n) (union 0)) in
    (count, filled.kept (omega (arith, count, room)) ∙ with_no_drives (groups k n))

-- and put in the order of cores
pub sorted_groups : (n k r : ℕ) (out sorted : List ℕ) → r ≤ max_cores → r ≤ length out → take r out ≡ groups k n → sorted ≡ sort_first (precedes BySize) r out
    → take r sorted ≡ sort core_order (groups k n)
unfolding precedes
sorted_groups n k r out sorted few room e s = ap (take r) s ∙ (take_sort_first core_order r out few room ∙ ap (sort core_order) e)
