-- Bytes in a lent buffer: a refusal, no room, or all of them over the part from the starting place on.
use Rattle.std.specs.Prelude.{Err, Ok, Result}
use mathlib.Core.Path.{◌≡◌, refl, sym, ap, ◌∙◌, subst}
use mathlib.Core.Bool.{Bool, true, false, not}
use mathlib.Core.List.{List}
use Prim.Native.Nat.{ℕ, ◌+◌, ◌-◌}
use lib.Dec.{leb}
use lib.ListN.{length, take, drop}
use borrow.Rule.Slice.PartMut.{put_mid}
use Rattle.drive_sets.specs.Bools.Laws.{cond_true, cond_false}
use Rattle.drive_sets.specs.declared.Refusal.{Refusal}
use Rattle.drive_sets.specs.declared.Refusal.TheVariants.{NoRoom}
use Rattle.drive_sets.specs.Refusals.{Outcome, refused, yields, number}
use Rattle.drive_sets.specs.Lent.{written, fitting}
use Rattle.lent_bytes.specs.LentBuffers.{Written}
use Rattle.lent_bytes.proofs.Parts.{part_written}

-- what is due may be said otherwise
pub written_as : {due due' : Outcome (List ℕ)} {start : ℕ} {old new : List ℕ} {r : Result ℕ Refusal} → due ≡ due' → Written due start old new r → Written due' start old new r
written_as {start = start} {old = old} {new = new} {r = r} e w = subst (λ (o : Outcome (List ℕ)). Written o start old new r) e w

pub written_refused : (start : ℕ) (old : List ℕ) {due : Outcome (List ℕ)} {q : Refusal} → due ≡ refused (number q) → Written due start old old (Err q)
written_refused start old e = written_as (sym e) (record { answer = refl; buffer = refl })

-- the test for room, made on the number of the bytes
module _ (bytes : List ℕ) (start : ℕ) (old : List ℕ) (size : ℕ) (same : size ≡ length bytes) (t : Bool) (e : t ≡ leb (start + size) (length old)) where
  fits_is : leb (start + length bytes) (length old) ≡ t
  fits_is = ap (λ (k : ℕ). leb (start + k) (length old)) (sym same) ∙ sym e

  pub written_none : not t ≡ true → Written (fitting start (length old) bytes) start old old (Err NoRoom)
  unfolding fitting
  written_none h = written_refused start old (cond_true _ _ (ap not fits_is ∙ h))

  pub written_all : not t ≡ false → (back : List ℕ) → back ≡ written bytes (take (length old - start) (drop start old))
      → Written (fitting start (length old) bytes) start old (put_mid start (length old - start) old back) (Ok size)
  unfolding fitting
  written_all h back f =
      written_as (sym (cond_false _ _ (ap not fits_is ∙ h))) (record { answer = ap (λ (k : ℕ). yields k) same; buffer = part_written old back bytes start f })
