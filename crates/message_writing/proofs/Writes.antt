-- The two messages written field by field, each over the part behind what is already there.
use mathlib.Core.Path.{◌≡◌, refl, sym, ap, ◌∙◌}
use mathlib.Core.List.{List, [], ◌∷◌, ◌++◌, map}
use Prim.Native.Nat.{ℕ, ◌+◌, ◌*◌, ◌-◌, ◌/◌, ◌^◌, ◌≤◌, ◌<◌}
use native.Mathlib.Omega.{arith}
use lib.ListN.{length, take, drop, take-append-drop}
use borrow.Rule.Slice.PartMut.{put_mid}
use Rattle.drive_sets.specs.Limits.{pattern_width}
use Rattle.drive_sets.specs.Masks.{single, minus, size, lowest, drives}
use Rattle.drive_sets.specs.Masks.Sizes.{drives_none, length_drives}
use Rattle.drive_sets.specs.Loops.Drives.{Taken, taken, taken_lt, taken_drives}
use Rattle.records.specs.declared.Kind.TheVariants.{WideKnown, WideDecide}
use Rattle.records.specs.Fields.{to_bytes}
use Rattle.drive_sets.specs.Lent.{written, written_at}
use Rattle.records.specs.Fields.Laws.{length_to_bytes}
use Rattle.drive_sets.specs.Lent.Laws.{length_written_at, written_fits, written_none, written_at_start, written_at_then}
use Rattle.records.specs.Marks.{mark, wide, record_bytes}
use Rattle.records.specs.Marks.Laws.{length_record}
use Rattle.lent_bytes.proofs.Parts.{part_written, part_then}
use Rattle.drive_states.specs.Messages.{decided, message, entry_of, known_of, entry_bytes, content_bytes, length_in, kind_in, bytes_in, message_bytes}
use Rattle.drive_states.specs.Messages.Laws.{length_entries, length_known, length_decided}

-- ---- the pattern numbers

module _ (number : ℕ → ℕ) where
  -- the bytes of the numbers of a mask's drives
  abbrev pub told : ℕ → List ℕ
  told mask = entry_bytes pattern_width (map (entry_of number) (drives mask))

  length_of : (mask : ℕ) → length (told mask) ≡ pattern_width * size mask
  length_of mask = length_entries pattern_width number (drives mask) ∙ ap (λ (k : ℕ). pattern_width * k) (length_drives mask)

  -- the numbers of the drives of m are still to be written, from the place on
  pub record Telling (mask : ℕ) (old part : List ℕ) (at m : ℕ) : Type 0 where
    pub word : m < 2 ^ 64
    pub fits : at + pattern_width * size m ≤ length old
    pub long : length part ≡ length old
    pub same : written_at at (told m) part ≡ written (told mask) old

  pub numbers_none : (mask : ℕ) (old : List ℕ) (k : ℕ) → k ≡ size mask → length old / pattern_width < k → old ≡ written (told mask) old
  numbers_none mask old k e h = sym (written_none (told mask) old (omega (arith, length_of mask)))

  pub telling_start : (mask : ℕ) (old : List ℕ) (k : ℕ) → mask < 2 ^ 64 → k ≡ size mask → k ≤ length old / pattern_width → Telling mask old old 0 mask
  telling_start mask old k word e h = record {
    word = word;
    fits = omega arith;
    long = refl;
    same = written_at_start (told mask) old;
  }

  pub telling_turn : {mask : ℕ} {old part : List ℕ} {at m : ℕ} (d m' v : ℕ) (back : List ℕ) → Telling mask old part at m → (m ≡ 0 → ⊥) → d ≡ lowest m → v ≡ number d
      → back ≡ written (to_bytes pattern_width v) (take (length part - at) (drop at part)) → m' ≡ minus m (single (lowest m))
      → Telling mask old (put_mid at (length part - at) part back) (at + pattern_width) m'
  unfolding entry_bytes
  telling_turn {mask} {old} {part} {at} {m} d m' v back t ne e w f g = record {
    word = taken_lt one 64 t.word;
    fits = omega (arith, t.fits, less);
    long = ap length is ∙ (length_written_at at (to_bytes pattern_width v) part ∙ t.long);
    same =
        ap (written_at (at + pattern_width) rest) is
        ∙ (ap (λ (k : ℕ). written_at (at + k) rest (written_at at (to_bytes pattern_width v) part)) (sym (length_to_bytes pattern_width v))
        ∙ (written_at_then at (to_bytes pattern_width v) rest part (omega (arith, t.fits, t.long, less, length_to_bytes pattern_width v, length_of m'))
        ∙ (ap (λ (bytes : List ℕ). written_at at bytes part) (sym more) ∙ t.same)));
  }
    where
      one : Taken m d m'
      one = taken t.word ne e g

      rest : List ℕ
      rest = told m'

      first : drives m ≡ d ∷ drives m'
      first = taken_drives one

      less : size m ≡ 1 + size m'
      less = omega (arith, length_drives m, ap length first, length_drives m')

      is : put_mid at (length part - at) part back ≡ written_at at (to_bytes pattern_width v) part
      is = part_written part back (to_bytes pattern_width v) at f

      more : told m ≡ to_bytes pattern_width v ++ rest
      more = ap (λ (l : List ℕ). entry_bytes pattern_width (map (entry_of number) l)) first ∙ ap (λ (x : ℕ). to_bytes pattern_width x ++ rest) (sym w)

  pub telling_end : {mask : ℕ} {old part : List ℕ} {at m : ℕ} → Telling mask old part at m → m ≡ 0 → part ≡ written (told mask) old
  unfolding entry_bytes written_at
  telling_end {mask} {old} {part} {at} {m} t z =
      sym (take-append-drop at part)
      ∙ (ap (λ (l : List ℕ). take at part ++ l) (sym (written_fits [] (drop at part) (omega arith)))
      ∙ (ap (λ (l : List ℕ). written_at at (entry_bytes pattern_width (map (entry_of number) l)) part) (sym (ap drives z ∙ drives_none)) ∙ t.same))

-- ---- the mark, the sender and the round

module _ (m sender round : ℕ) where
  abbrev pub start_bytes : List ℕ
  start_bytes = record_bytes m 1 sender ++ to_bytes 1 round

  pub length_start : length start_bytes ≡ 4
  unfolding record_bytes to_bytes
  length_start = refl

  pub start_none : (old : List ℕ) → length old < 4 → old ≡ written start_bytes old
  start_none old h = sym (written_none start_bytes old (omega (arith, length_start)))

  pub start_written : (old first back : List ℕ) → 4 ≤ length old → first ≡ written (record_bytes m 1 sender) old
      → back ≡ written (to_bytes 1 round) (take (length first - 3) (drop 3 first))
      → put_mid 3 (length first - 3) first back ≡ written start_bytes old
  start_written old first back h e f =
      part_then old (record_bytes m 1 sender) (to_bytes 1 round) first back 3 e (sym (length_record m 1 sender))
      (omega (arith, length_record m 1 sender, length_to_bytes 1 round)) f

-- ---- KW

module _ (sender round mask : ℕ) (number : ℕ → ℕ) where
  known_front : (m : ℕ) → length (start_bytes m sender round ++ to_bytes 8 mask) ≡ 12
  unfolding record_bytes to_bytes
  known_front m = refl

  known_parts : start_bytes (mark WideKnown) sender round ++ to_bytes 8 mask ++ told number mask ≡ message_bytes (message sender round (known_of mask number))
  unfolding record_bytes to_bytes bytes_in content_bytes kind_in
  known_parts = refl

  pub known_none : (old : List ℕ) (k : ℕ) → k ≡ size mask → length old < 12 + pattern_width * k → old ≡ written (message_bytes (message sender round (known_of mask number))) old
  unfolding length_in
  known_none old k e h = sym (written_none (message_bytes (message sender round (known_of mask number))) old (omega (arith, length_known wide sender round mask number)))

  -- the start, the mask behind it, the numbers behind that
  pub known_written : (old first second back third : List ℕ) (m k : ℕ) → m ≡ mark WideKnown → k ≡ size mask → 12 + pattern_width * k ≤ length old
      → first ≡ written (start_bytes m sender round) old → back ≡ written (to_bytes 8 mask) (take (length first - 4) (drop 4 first))
      → second ≡ put_mid 4 (length first - 4) first back
      → third ≡ written (told number mask) (take (length second - 12) (drop 12 second))
      → put_mid 12 (length second - 12) second third ≡ written (message_bytes (message sender round (known_of mask number))) old
  known_written old first second back third m k p q h e f g f₂ =
      part_then old (start_bytes m sender round ++ to_bytes 8 mask) (told number mask) second third 12
      (g ∙ part_then old (start_bytes m sender round) (to_bytes 8 mask) first back 4 e (sym (length_start m sender round))
      (omega (arith, length_start m sender round, length_to_bytes 8 mask)) f)
      (sym (known_front m)) (omega (arith, known_front m, length_of number mask)) f₂
      ∙ ap (λ (l : List ℕ). written l old)
      (ap (λ (x : ℕ). start_bytes x sender round ++ to_bytes 8 mask ++ told number mask) p ∙ known_parts)

-- ---- DW

module _ (sender round pattern : ℕ) where
  decide_parts : start_bytes (mark WideDecide) sender round ++ to_bytes pattern_width pattern ≡ message_bytes (message sender round (decided pattern))
  unfolding record_bytes to_bytes bytes_in content_bytes kind_in
  decide_parts = refl

  pub decide_none : (old : List ℕ) → length old < 4 + pattern_width → old ≡ written (message_bytes (message sender round (decided pattern))) old
  unfolding length_in
  decide_none old h = sym (written_none (message_bytes (message sender round (decided pattern))) old (omega (arith, length_decided wide sender round pattern)))

  pub decide_written : (old first back : List ℕ) (m : ℕ) → m ≡ mark WideDecide → 4 + pattern_width ≤ length old → first ≡ written (start_bytes m sender round) old
      → back ≡ written (to_bytes pattern_width pattern) (take (length first - 4) (drop 4 first))
      → put_mid 4 (length first - 4) first back ≡ written (message_bytes (message sender round (decided pattern))) old
  decide_written old first back m p h e f =
      part_then old (start_bytes m sender round) (to_bytes pattern_width pattern) first back 4 e (sym (length_start m sender round))
      (omega (arith, length_start m sender round, length_to_bytes pattern_width pattern)) f
      ∙ ap (λ (l : List ℕ). written l old) (ap (λ (x : ℕ). start_bytes x sender round ++ to_bytes pattern_width pattern) p ∙ decide_parts)
