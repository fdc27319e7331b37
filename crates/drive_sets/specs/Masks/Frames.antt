-- Sets of the drives of a frame, 1 to n: their drives are those of the frame that they have, and so many is their size;
-- lists of such sets.
use Rattle.std.specs.Prelude.{◌≡◌, true, ◌&&◌, List, [], ◌∷◌, ◌++◌, ℕ, suc, ◌^◌, ◌≤◌, ◌<◌, length, get_or, ltb}
use Rattle.std.proofs.Common.{sym, ap, ◌∙◌, subst, ⊎_elim, lt_of_lt_of_le, arith, pow_mono}
use Rattle.drive_sets.specs.Bools.Laws.{clash, same_test, and_intro, and_right}
use Rattle.drive_sets.specs.Lists.{range, filter, elem}
use Rattle.drive_sets.specs.Lists.Laws.{elem_none, elem_cases, elem_append_left, elem_filter, range_elem, ordered_filter, ordered_range}
use Rattle.drive_sets.specs.Masks.{has, size, drives, Below}
use Rattle.drive_sets.specs.Masks.Laws.{has_bounds}
use Rattle.drive_sets.specs.Masks.Sizes.{elem_drives, drives_rising, rising_unique, length_drives}

module _ (n m : ℕ) (lt : m < 2 ^ n) where
  pub has_range : (d : ℕ) → has d m ≡ true → elem d (range 1 n) ≡ true
  has_range d h = let b = has_bounds n d m lt h in range_elem d 1 n b.0 (omega arith)

  module _ (le : n ≤ 64) where
    pub drives_frame : drives m ≡ filter (λ d. has d m) (range 1 n)
    drives_frame =
        rising_unique (drives m) (filter (λ d. has d m) (range 1 n)) (drives_rising m)
        (ordered_filter ltb (λ d. has d m) (range 1 n) (ordered_range 1 n))
        (λ d. elem_drives d m (lt_of_lt_of_le lt (pow_mono {i = n} {j = 64} le))
        ∙ sym (elem_filter (λ d. has d m) d (range 1 n)
        ∙ same_test (elem d (range 1 n) && has d m) (has d m) (and_right (elem d (range 1 n)) (has d m)) (λ h. and_intro (has_range d h) h)))

    pub size_frame : size m ≡ length (filter (λ d. has d m) (range 1 n))
    size_frame = sym (length_drives m) ∙ ap length drives_frame

-- ---- lists of such sets

-- where no place has a drive above n
pub below_places : (n : ℕ) (sets : List ℕ) → ((i : ℕ) → get_or sets i 0 < 2 ^ n) → Below n sets
below_places n [] f s e = absurd (clash e (elem_none s))
below_places n (x ∷ sets) f s e =
    ⊎_elim (λ q. subst (λ (y : ℕ). y < 2 ^ n) (sym q) (f 0)) (below_places n sets (λ i. f (suc i)) s) (elem_cases s x sets e)

pub below_left : (n : ℕ) (l k : List ℕ) → Below n (l ++ k) → Below n l
below_left n l k f s e = f s (elem_append_left s l k e)

pub below_more : (n : ℕ) (sets : List ℕ) → n ≤ 64 → Below n sets → Below 64 sets
below_more n sets le f s e = lt_of_lt_of_le (f s e) (pow_mono {i = n} {j = 64} le)
