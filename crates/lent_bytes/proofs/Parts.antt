-- The part of a buffer from a place on, lent to a writer and come back: the bytes are written from that place on, and
-- no other changes.
use mathlib.Core.Path.{◌≡◌, sym, ap, ◌∙◌}
use mathlib.Core.List.{List, ◌++◌, append-nil}
use Prim.Native.Nat.{ℕ, ◌+◌, ◌-◌, ◌≤◌, ◌<◌}
use native.Mathlib.Nat.{le_of_eq}
use native.Mathlib.Omega.{arith}
use lib.ListN.{length, take, drop, length-drop, drop_of_length-le}
use borrow.Rule.Slice.PartMut.{put_mid}
use Rattle.records.specs.Fields.{to_bytes}
use Rattle.drive_sets.specs.Lent.{written, written_at}
use Rattle.records.specs.Fields.Laws.{length_to_bytes}
use Rattle.drive_sets.specs.Lent.Laws.{written_none, written_then}
use Rattle.records.specs.Marks.{record_bytes}
use Rattle.records.specs.Marks.Laws.{length_record}
use Rattle.records.proofs.Parts.{rest_is}

pub part_written : (old back new : List ℕ) (start : ℕ) → back ≡ written new (take (length old - start) (drop start old))
    → put_mid start (length old - start) old back ≡ written_at start new old
unfolding written_at
part_written old back new start e =
    ap (λ (t : List ℕ). take start old ++ (back ++ t)) (drop_of_length-le (drop start old) (le_of_eq (length-drop start old)))
    ∙ ap (λ (t : List ℕ). take start old ++ t) (append-nil back ∙ (e ∙ ap (written new) (rest_is old start)))

-- bytes over the part behind those already written
pub part_then : (old a b part back : List ℕ) (start : ℕ) → part ≡ written a old → start ≡ length a → length a + length b ≤ length old
    → back ≡ written b (take (length part - start) (drop start part)) → put_mid start (length part - start) part back ≡ written (a ++ b) old
part_then old a b part back start p e h f =
    part_written part back b start f
    ∙ (ap (written_at start b) p ∙ (ap (λ (k : ℕ). written_at k b (written a old)) e ∙ written_then a b old h))

-- a mark, and then its field
pub record_written : (m width x : ℕ) (old first back : List ℕ) → 2 + width ≤ length old → first ≡ written (to_bytes 2 m) old
    → back ≡ written (to_bytes width x) (take (length first - 2) (drop 2 first))
    → put_mid 2 (length first - 2) first back ≡ written (record_bytes m width x) old
unfolding record_bytes
record_written m width x old first back h e f =
    part_then old (to_bytes 2 m) (to_bytes width x) first back 2 e (sym (length_to_bytes 2 m)) (omega (arith, length_to_bytes 2 m, length_to_bytes width x)) f

pub record_none : (m width x : ℕ) (old : List ℕ) → length old < 2 + width → old ≡ written (record_bytes m width x) old
record_none m width x old h = sym (written_none (record_bytes m width x) old (omega (arith, length_record m width x)))
