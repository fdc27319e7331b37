-- Laws of lists in lent slices: written one part after the other, a list that has room and one that has not, and what a
-- copy leaves.
use Rattle.std.specs.Prelude.{◌≡◌, refl, List, ◌++◌, ℕ, ◌+◌, ◌≤◌, ◌<◌, leb, take, drop}
use Rattle.std.proofs.Common.{sym, ap, ap₂, ◌∙◌, append_assoc, arith, length-append, length-take, length-drop, take_at, drop_at, drop-drop, length-take-le, take_all, le-leb, leb-true, leb-false}
use Rattle.std.proofs.Math.Bool.{not}
use Rattle.std.proofs.Math.ListN.{length}
use Rattle.std.proofs.Math.Seq.{take-append-add, drop-append-add}
use Rattle.std.proofs.lemmas.Bool.{lt-leb}
use Rattle.drive_sets.specs.Bools.Laws.{by_test, cond_true, cond_false}
use Rattle.drive_sets.specs.declared.Refusal.TheVariants.{NoRoom}
use Rattle.drive_sets.specs.Refusals.{Outcome, refused, yields, and_then, number}
use Rattle.drive_sets.specs.Refusals.Numbered.{Numbered, result_numbered, if_numbered, then_numbered}
use Rattle.drive_sets.specs.Lent.{written, written_at, fitting, buffer_after}

pub written_fits : (new old : List ℕ) → length new ≤ length old → written new old ≡ new ++ drop (length new) old
unfolding written
written_fits new old h = cond_true _ _ (le-leb (length new) (length old) h)

pub written_none : (new old : List ℕ) → length old < length new → written new old ≡ old
unfolding written
written_none new old h = cond_false _ _ (lt-leb (length new) (length old) h)

pub length_written : (new old : List ℕ) → length (written new old) ≡ length old
length_written new old =
    by_test (leb (length new) (length old))
    (λ e. let h = leb-true (length new) (length old) e in
    ap length (written_fits new old h) ∙ (length-append new (drop (length new) old) ∙ omega (arith, length-drop (length new) old)))
    (λ e. ap length (written_none new old (leb-false (length new) (length old) e)))

pub written_at_start : (new old : List ℕ) → written_at 0 new old ≡ written new old
unfolding written_at
written_at_start new old = refl

pub length_written_at : (start : ℕ) (new old : List ℕ) → length (written_at start new old) ≡ length old
unfolding written_at
length_written_at start new old =
    length-append (take start old) (written new (drop start old))
    ∙ omega (arith, length_written new (drop start old), length-take start old, length-drop start old)

-- the parts one after the other are the whole at once
pub written_then : (a b old : List ℕ) → length a + length b ≤ length old → written_at (length a) b (written a old) ≡ written (a ++ b) old
unfolding written_at
written_then a b old h =
    ap (λ (x : List ℕ). take (length a) x ++ written b (drop (length a) x)) (written_fits a old (omega arith))
    ∙ (ap₂ (λ (x y : List ℕ). x ++ written b y) (take_at a tail (length a) refl) (drop_at a tail (length a) refl)
    ∙ (ap (λ (x : List ℕ). a ++ x) (written_fits b tail (omega (arith, length-drop (length a) old)) ∙ ap (λ (x : List ℕ). b ++ x) (drop-drop (length b) (length a) old))
    ∙ (sym (append_assoc a b (drop (length a + length b) old))
    ∙ (ap (λ (k : ℕ). a ++ b ++ drop k old) (sym (length-append a b)) ∙ sym (written_fits (a ++ b) old (omega (arith, length-append a b)))))))
  where
    tail : List ℕ
    tail = drop (length a) old

-- what stands before the starting place stays
pub written_at_behind : (front rest new : List ℕ) (k : ℕ) → written_at (length front + k) new (front ++ rest) ≡ front ++ written_at k new rest
unfolding written_at
written_at_behind front rest new k =
    ap₂ (λ (x y : List ℕ). x ++ written new y) (take-append-add front rest k) (drop-append-add front rest k)
    ∙ append_assoc front (take k rest) (written new (drop k rest))

pub written_at_then : (start : ℕ) (a b old : List ℕ) → start + (length a + length b) ≤ length old
    → written_at (start + length a) b (written_at start a old) ≡ written_at start (a ++ b) old
unfolding written_at
written_at_then start a b old h =
    ap (λ (k : ℕ). written_at (k + length a) b (written_at start a old)) (sym front_length)
    ∙ (written_at_behind (take start old) (written a (drop start old)) b (length a)
    ∙ ap (λ (x : List ℕ). take start old ++ x) (written_then a b (drop start old) (omega (arith, length-drop start old))))
  where
    front_length : length (take start old) ≡ start
    front_length = length-take-le start old (omega arith)

-- ---- room, and none

module _ (start room : ℕ) (list : List ℕ) where
  pub has_room : start + length list ≤ room → fitting start room list ≡ yields list
  unfolding fitting
  has_room h = cond_false _ _ (ap not (le-leb (start + length list) room h))

  pub no_room : room < start + length list → fitting start room list ≡ refused (number NoRoom)
  unfolding fitting
  no_room h = cond_true _ _ (ap not (lt-leb (start + length list) room h))

-- 14 is a number too
pub fitting_numbered : (start room : ℕ) (list : List ℕ) → Numbered (fitting start room list)
unfolding fitting
fitting_numbered start room list = if_numbered (not (leb (start + length list) room)) 14 refl result_numbered

pub put_numbered : (o : Outcome (List ℕ)) → Numbered o → (start room : ℕ) → Numbered (and_then o (fitting start room))
put_numbered o h start room = then_numbered o (fitting start room) h (fitting_numbered start room)

module _ (old list : List ℕ) where
  -- the first places of a slice with a list over them
  pub first_places : (k : ℕ) → length list ≡ k → length list ≤ length old → take k (buffer_after (yields list) 0 old) ≡ list
  first_places k e h = ap (take k) (written_at_start list old ∙ written_fits list old h) ∙ take_at list (drop (length list) old) k e

module _ (old list : List ℕ) (room : ℕ) where
  -- a list that has room, copied over the first places
  pub after_copy : (new : List ℕ) → length list ≤ room → room ≤ length old → new ≡ take (length old) list ++ drop (length list) old
      → new ≡ buffer_after (fitting 0 room list) 0 old
  after_copy new h k e =
      e ∙ (ap (λ (l : List ℕ). l ++ drop (length list) old) (take_all (length old) list (omega arith))
      ∙ (sym (written_at_start list old ∙ written_fits list old (omega arith)) ∙ ap (λ (o : Outcome (List ℕ)). buffer_after o 0 old) (sym (has_room 0 room list (omega arith)))))

  -- one that has not leaves the slice as it was
  pub after_none : room < length list → old ≡ buffer_after (fitting 0 room list) 0 old
  after_none h = ap (λ (o : Outcome (List ℕ)). buffer_after o 0 old) (sym (no_room 0 room list (omega arith)))
