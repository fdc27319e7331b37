-- The loop that reads a field, from its last byte to its first.
use mathlib.Core.Path.{◌≡◌, refl, sym, ap, ◌∙◌, subst}
use mathlib.Core.List.{List, [], ◌∷◌, ◌++◌, append-nil, append_assoc}
use Prim.Native.Nat.{ℕ, ◌+◌, ◌*◌, ◌^◌, ◌<◌}
use native.Mathlib.Omega.{arith}
use lib.ListN.{length, take, drop, length-take, length-append}
use Rattle.std.proofs.Common.{drop_at}
use Rattle.records.specs.Fields.{Bytes, from_bytes}
use Rattle.records.specs.Fields.Laws.{from_bytes_lt, bytes_take, bytes_drop}

-- of the first 8 bytes or fewer, the last are read, and their number is x
pub record Reading (s rest : List ℕ) (x : ℕ) : Type 0 where
  pub read : List ℕ
  pub parts : rest ++ read ≡ take 8 s
  pub number : x ≡ from_bytes read

module _ (s : List ℕ) where
  pub reading_start : {rest : List ℕ} → rest ≡ take 8 s → Reading s rest 0
  unfolding from_bytes
  reading_start {rest} e = record { read = []; parts = append-nil rest ∙ e; number = refl }

  module _ {rest : List ℕ} {x : ℕ} (left : List ℕ) (b : ℕ) (r : Reading s rest x) (e : rest ≡ left ++ (b ∷ [])) where
    parts : left ++ (b ∷ r.read) ≡ take 8 s
    parts = sym (append_assoc left (b ∷ []) r.read) ∙ (ap (λ (l : List ℕ). l ++ r.read) (sym e) ∙ r.parts)

    pub reading_turn : Reading s left (x * 256 + b)
    unfolding from_bytes
    reading_turn = record { read = b ∷ r.read; parts = parts; number = omega (arith, r.number) }

    -- the next sum fits
    pub reading_fits : Bytes s → x * 256 + 255 < 2 ^ 64
    reading_fits bytes =
        let whole = bytes_drop (length rest) (take 8 s) (bytes_take 8 s bytes) in
        let own : Bytes r.read = subst Bytes (ap (drop (length rest)) (sym r.parts) ∙ drop_at rest r.read (length rest) refl) whole in
        omega (arith, r.number, ap length parts, length-append left (b ∷ r.read), length-take 8 s, from_bytes_lt 7 r.read (omega (arith, ap length parts, length-append left (b ∷ r.read), length-take 8 s)) own)

  pub reading_end : {rest : List ℕ} {x : ℕ} → Reading s rest x → length rest ≡ 0 → x ≡ from_bytes (take 8 s)
  reading_end {rest} {x} r h = at rest r h
    where
      at : (rest : List ℕ) → Reading s rest x → length rest ≡ 0 → x ≡ from_bytes (take 8 s)
      at [] r h = r.number ∙ ap from_bytes r.parts
      at (b ∷ rest) r h = absurd (omega arith)
