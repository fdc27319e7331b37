-- The list of a drive's sends in lent memory: the drives of a mask put one behind the other, those of two masks, and
-- the list as those of two masks.
use Rattle.std.specs.Prelude.{Err, Ok, Result}
use mathlib.Core.Path.{◌≡◌, sym, ap, ap₂, ◌∙◌}
use mathlib.Core.Bool.{false, not, ◌&&◌, ◌||◌}
use mathlib.Core.List.{List, ◌++◌}
use Prim.Native.Nat.{ℕ, ◌+◌, ◌-◌, ◌^◌, ◌≤◌, ◌<◌}
use native.Mathlib.Omega.{arith}
use lib.Dec.{leb}
use lib.ListN.{length, take, drop, set, length-append}
use borrow.Author.Tests.{leb-true, not-false}
use borrow.Rule.Slice.PartMut.{put_mid}
use Rattle.drive_sets.specs.declared.Refusal.TheVariants.{NoRoom}
use Rattle.drive_sets.specs.Bools.Laws.{and_right, or_false_left, or_false_right}
use Rattle.drive_sets.specs.Counts.{is_drive, is_round}
use Rattle.drive_sets.specs.Lent.{written, fitting}
use Rattle.drive_sets.specs.Lent.Laws.{written_fits, written_none, written_at_start, has_room, no_room}
use Rattle.drive_sets.specs.Lists.{range}
use Rattle.drive_sets.specs.Loops.Drives.{taken, taken_lt, taken_drives}
use Rattle.drive_sets.specs.Loops.Filling.{Filling, filling_start, filling_turn, filling_end}
use Rattle.drive_sets.specs.Masks.{has, single, minus, outside, subset, size, lowest, drives}
use Rattle.drive_sets.specs.Masks.Sizes.{size_none, none_size, length_drives, drives_none}
use Rattle.drive_sets.specs.Refusals.{yields}
use Rattle.drive_sets.specs.declared.Refusal.{Refusal}
use Rattle.lent_bytes.specs.LentBuffers.{Written}
use Rattle.lent_bytes.proofs.Buffers.{written_as, written_refused}
use Rattle.lent_bytes.proofs.Parts.{part_then}
use Rattle.survivor_tables.specs.Tables.{is_frame, is_set}
use Rattle.survivor_tables.proofs.Tables.Laws.{set_lt}
use Rattle.drive_states.specs.declared.Exchange.{Exchange}
use Rattle.drive_states.specs.State.{in_core, broken}
use Rattle.agreement.specs.Sends.{receivers}
use Rattle.agreement.proofs.SendLists.{receivers_masks}

-- ---- the drives of a mask over the first places

-- those of rest are still to be put, from place i on
pub record Placing (m : ℕ) (old part : List ℕ) (rest i : ℕ) : Type 0 where
  pub word : rest < 2 ^ 64
  pub count : i + size rest ≡ size m
  pub room : size m ≤ length old
  pub filling : Filling old part i (drives rest) (drives m)

pub placing_none : (m : ℕ) (old : List ℕ) (k : ℕ) → k ≡ size m → length old < k → old ≡ written (drives m) old
placing_none m old k e h = sym (written_none (drives m) old (omega (arith, length_drives m)))

pub placing_start : (m : ℕ) (old : List ℕ) (k : ℕ) → m < 2 ^ 64 → k ≡ size m → k ≤ length old → Placing m old old m 0
placing_start m old k word e h = record {
  word = word;
  count = omega arith;
  room = omega arith;
  filling = filling_start old (drives m);
}

module _ {m : ℕ} {old part : List ℕ} {rest i : ℕ} (p : Placing m old part rest i) where
  pub placing_turn : i < size m → (d others : ℕ) → d ≡ lowest rest → others ≡ minus rest (single (lowest rest))
      → Placing m old (set part i d) others (i + 1)
  placing_turn h d others e g =
      let t = taken p.word (λ z. omega (arith, p.count, ap size z, size_none)) e g in
      record {
        word = taken_lt t 64 p.word;
        count = omega (arith, p.count, length_drives rest, ap length (taken_drives t), length_drives others);
        room = p.room;
        filling = filling_turn p.filling (omega (arith, p.room)) d (drives others) (taken_drives t);
      }

  pub placing_end : size m ≤ i → part ≡ written (drives m) old
  placing_end h =
      filling_end p.filling (ap drives (none_size rest p.word (omega (arith, p.count))) ∙ drives_none)
      ∙ sym (written_fits (drives m) old (omega (arith, p.room, length_drives m)))

-- ---- those of two masks, one behind the other

module _ (a b k l : ℕ) (old : List ℕ) (e : k ≡ size a) (f : l ≡ size b) where
  abbrev both : List ℕ
  both = drives a ++ drives b

  length_both : length both ≡ k + l
  length_both = omega (arith, length-append (drives a) (drives b), length_drives a, length_drives b)

  pub both_full : length old < k + l → Written (fitting 0 (length old) both) 0 old old (Err NoRoom)
  both_full h = written_refused 0 old (no_room 0 (length old) both (omega (arith, length_both)))

  pub both_put : k + l ≤ length old → (first back : List ℕ) → first ≡ written (drives a) old
      → back ≡ written (drives b) (take (length first - k) (drop k first))
      → Written (fitting 0 (length old) both) 0 old (put_mid k (length first - k) first back) (Ok (k + l))
  both_put h first back g p =
      written_as (sym (has_room 0 (length old) both (omega (arith, length_both)))) (record {
        answer = ap (λ (n : ℕ). yields n) (sym length_both);
        buffer = part_then old (drives a) (drives b) first back k g (e ∙ sym (length_drives a)) (omega (arith, length_drives a, length_drives b)) p
            ∙ sym (written_at_start both old);
      })

-- ---- the list of a state that keeps the rules

pub unbroken_list : (x : Exchange) → broken x ≡ false
    → receivers (range 1 x.n) x.core x.own.0 ≡ drives (minus x.core (single x.own.0)) ++ drives (outside x.n x.core)
unfolding broken is_frame
unbroken_list x h =
    let frame = is_frame x.n in
    let core = is_set x.n x.core in
    let own = in_core x && not (has x.own.0 x.known && has x.own.0 x.start) in
    let drive = is_drive x.n x.own.0 in
    let rounds = is_round x.core x.round.0 in
    let sets = subset x.before x.core && subset x.heard x.core && subset x.known x.core && subset x.start x.core in
    let two = not frame || not core in
    let four = two || own || not drive in
    let to_four = or_false_left four (not rounds) (or_false_left (four || not rounds) (not sets) h) in
    let to_two = or_false_left two own (or_false_left (two || own) (not drive) to_four) in
    let in_frame = not-false frame (or_false_left (not frame) (not core) to_two) in
    receivers_masks x.n x.core x.own.0
    (leb-true x.n 64 (and_right (leb 1 x.n) (leb x.n 64) in_frame))
    (set_lt x.n x.core (not-false core (or_false_right (not frame) (not core) to_two)))
    (not-false drive (or_false_right (two || own) (not drive) to_four))

-- what is put of the two masks is the list
pub list_given : (x : Exchange) (old : List ℕ) → broken x ≡ false → {others listeners : ℕ} → others ≡ minus x.core (single x.own.0) → listeners ≡ outside x.n x.core
    → {new : List ℕ} {r : Result ℕ Refusal} → Written (fitting 0 (length old) (drives others ++ drives listeners)) 0 old new r
    → Written (fitting 0 (length old) (receivers (range 1 x.n) x.core x.own.0)) 0 old new r
list_given x old h e f p =
    written_as (ap (fitting 0 (length old)) (ap₂ (λ (a b : ℕ). drives a ++ drives b) e f ∙ sym (unbroken_list x h))) p
