-- The walk over the entries of a message: the lowest drive of what is left of the mask, with the next of the bytes that
-- are left.
use mathlib.Core.Path.{◌≡◌, sym, ap, ◌∙◌}
use mathlib.Core.List.{List, [], ◌∷◌}
use Prim.Native.Nat.{ℕ}
use lib.ListN.{drop}
use Rattle.drive_sets.specs.Masks.{drives}
use Rattle.drive_sets.specs.Loops.Drives.{Taken, Walk, walk_next, walk_turn, walk_end}
use Rattle.records.specs.Fields.{field_at}
use Rattle.drive_states.specs.Messages.{Entry, entries_from}

module _ {A : Type 0} (width : ℕ) where
  -- what f makes of the entries that are left is the whole
  abbrev pub Entries : A → (List Entry → A) → List ℕ → ℕ → Type 0
  Entries whole f values m = Walk whole (λ ds. f (entries_from width ds values)) m

  module _ {whole : A} (f : List Entry → A) (values : List ℕ) {m : ℕ} (w : Entries whole f values m) where
    pub entries_end : m ≡ 0 → f [] ≡ whole
    unfolding entries_from
    entries_end z = walk_end w z

    -- one drive taken
    module _ {d m' : ℕ} (t : Taken m d m') (v : ℕ) (number : v ≡ field_at 0 width values) where
      first : f (record { drive = d; number = v } ∷ entries_from width (drives m') (drop width values)) ≡ f (entries_from width (d ∷ drives m') values)
      unfolding entries_from
      first = ap (λ (n : ℕ). f (record { drive = d; number = n } ∷ entries_from width (drives m') (drop width values))) number

      pub entries_next : f (record { drive = d; number = v } ∷ entries_from width (drives m') (drop width values)) ≡ whole
      entries_next = first ∙ walk_next w t

      pub entries_turn : (g : List Entry → A) → ((rest : List Entry) → f (record { drive = d; number = v } ∷ rest) ≡ g rest)
          → {values' : List ℕ} → values' ≡ drop width values → Entries whole g values' m'
      entries_turn g e same = rw same (walk_turn w t (λ ds. g (entries_from width ds (drop width values))) (sym first ∙ e (entries_from width (drives m') (drop width values))))
