-- Laws of the crashes by drive: one more of a drive above the others is one more at the end of the list.
use Rattle.std.specs.Prelude.{◌≡◌, refl, Bool, ◌||◌, ℕ, ◌-◌, ◌^◌, ◌≤◌, ◌<◌, eqb, ltb, length, set}
use Rattle.std.proofs.Math.Path.{sym, ap, ap₂}
use Rattle.std.proofs.Common.{◌∙◌, arith, get_or-set_same, lt-ltb}
use Rattle.std.proofs.Math.Bool.{true}
use mathlib.Core.List.{List, [], ◌∷◌, ◌++◌, map, map-append}
use Rattle.std.proofs.Math.ListN.{get_or}
use Rattle.std.proofs.Math.Seq.{get_or-set_other}
use Rattle.drive_sets.specs.declared.Round.{Round}
use Rattle.drive_sets.specs.Lists.{all, elem, ordered}
use Rattle.drive_sets.specs.Lists.Places.{map_same}
use Rattle.drive_sets.specs.Lists.Laws.{elem_one, elem_last, ordered_append}
use Rattle.drive_sets.specs.Masks.{has, single, union, drives, of_drives}
use Rattle.drive_sets.specs.Masks.Laws.{has_bounds}
use Rattle.drive_sets.specs.Masks.OneDrive.{has_insert, insert_lt}
use Rattle.drive_sets.specs.Masks.Sizes.{elem_drives, drives_rising, drives_none, rising_unique, of_drives_drives}
use Rattle.drive_crashes.specs.declared.Crashes.{Crashes}
use Rattle.runs.specs.CrashRecords.{CrashRecord, crashed}
use Rattle.drive_crashes.specs.Crashes.{no_round, round_at, crash_of_drive, crashes_in, with_crash}

-- ---- lists

ordered_last : (l : List ℕ) (d : ℕ) → ordered ltb l ≡ true → ((x : ℕ) → elem x l ≡ true → x < d) → ordered ltb (l ++ (d ∷ [])) ≡ true
unfolding ordered all
ordered_last l d h below =
    ordered_append ltb l (d ∷ []) h refl (λ x y i k. lt-ltb x y (omega (arith, below x i, elem_one y d k)))

-- ---- the drives of a mask with one more above them

module _ (m d : ℕ) (word : m < 2 ^ 64) (low : 1 ≤ d) (high : d ≤ 64) (above : (e : ℕ) → has e m ≡ true → e < d) where
  pub drives_above : drives (union m (single d)) ≡ drives m ++ (d ∷ [])
  drives_above =
      rising_unique (drives (union m (single d))) (drives m ++ (d ∷ [])) (drives_rising (union m (single d)))
      (ordered_last (drives m) d (drives_rising m) (λ x h. above x (sym (elem_drives x m word) ∙ h)))
      (λ x. elem_drives x (union m (single d)) (insert_lt d low high m word)
      ∙ (has_insert d low high x m ∙ sym (elem_last x (drives m) d ∙ ap (λ (b : Bool). b || eqb x d) (elem_drives x m word))))

-- ---- the crashes

pub none_listed : (c : Crashes) → c.crashed ≡ 0 → crashes_in c ≡ []
unfolding crashes_in
none_listed c e = ap (λ (m : ℕ). map (crash_of_drive c) (drives m)) e ∙ ap (map (crash_of_drive c)) drives_none

map_drives : (c : Crashes) (l : List ℕ) → map (λ (x : CrashRecord). x.drive) (map (crash_of_drive c) l) ≡ l
unfolding crash_of_drive
map_drives c [] = refl
map_drives c (d ∷ l) = ap (λ (m : List ℕ). d ∷ m) (map_drives c l)

-- the drives with a CR are those of the mask
pub crashed_in : (c : Crashes) → c.crashed < 2 ^ 64 → crashed (crashes_in c) ≡ c.crashed
unfolding crashed crashes_in
crashed_in c word = ap of_drives (map_drives c (drives c.crashed)) ∙ of_drives_drives c.crashed word

module _ (c : Crashes) (d : ℕ) (q : Round) (m : ℕ) (word : c.crashed < 2 ^ 64) (rounds : length c.rounds ≡ 64) (sends : length c.sends ≡ 64)
    (low : 1 ≤ d) (high : d ≤ 64) (above : (e : ℕ) → has e c.crashed ≡ true → e < d) where
  other : (e : ℕ) → elem e (drives c.crashed) ≡ true → crash_of_drive (with_crash c d q m) e ≡ crash_of_drive c e
  unfolding crash_of_drive with_crash
  other e h =
      let i : has e c.crashed ≡ true = sym (elem_drives e c.crashed word) ∙ h in
      let b = has_bounds 64 e c.crashed word i in
      let l = above e i in
      let r : round_at (set c.rounds (d - 1) q) e ≡ round_at c.rounds e = ap (λ (x : Round). x.0) (get_or-set_other c.rounds (d - 1) (e - 1) q no_round (λ f. omega (arith, b.0))) in
      let s : get_or (set c.sends (d - 1) m) (e - 1) 0 ≡ get_or c.sends (e - 1) 0 = get_or-set_other c.sends (d - 1) (e - 1) m 0 (λ f. omega (arith, b.0)) in
      ap₂ (λ (x y : ℕ). record { drive = e; round = x; sends = y }) r s

  itself : crash_of_drive (with_crash c d q m) d ≡ record { drive = d; round = q.0; sends = m }
  unfolding crash_of_drive with_crash
  itself =
      ap₂ (λ (x y : ℕ). record { drive = d; round = x; sends = y })
      (ap (λ (x : Round). x.0) (get_or-set_same c.rounds (d - 1) q no_round (omega arith))) (get_or-set_same c.sends (d - 1) m 0 (omega arith))

  pub with_crash_listed : crashes_in (with_crash c d q m) ≡ crashes_in c ++ (record { drive = d; round = q.0; sends = m } ∷ [])
  unfolding crashes_in with_crash
  with_crash_listed =
      ap (map (crash_of_drive (with_crash c d q m))) mask
      ∙ (map-append (crash_of_drive (with_crash c d q m)) (drives c.crashed) (d ∷ [])
      ∙ ap₂ (λ (l : List CrashRecord) (x : CrashRecord). l ++ (x ∷ [])) (map_same (crash_of_drive (with_crash c d q m)) (crash_of_drive c) (drives c.crashed) other) itself)
    where
      mask : drives (with_crash c d q m).crashed ≡ drives c.crashed ++ (d ∷ [])
      mask = drives_above c.crashed d word low high above
