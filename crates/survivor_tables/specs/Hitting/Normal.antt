-- The normal form of a list of sets has the same hitting sets: each set that it drops holds one that it keeps.
use Rattle.std.specs.Prelude.{◌≡◌, List, ℕ}
use Rattle.std.proofs.Common.{◌∙◌}
use Rattle.drive_sets.specs.Bools.Laws.{same_test}
use Rattle.drive_sets.specs.Masks.{Below}
use Rattle.drive_sets.specs.Masks.Laws.{meets_sym, meets_subset}
use Rattle.survivor_tables.specs.Order.{normal}
use Rattle.survivor_tables.specs.Order.Normal.{normal_elem, holds_normal}
use Rattle.survivor_tables.specs.Hitting.{hits}
use Rattle.survivor_tables.specs.Hitting.Laws.{hits_meets, meets_hits}

pub hits_normal : (sets : List ℕ) → Below 64 sets → (m : ℕ) → hits (normal sets) m ≡ hits sets m
hits_normal sets small m =
    same_test (hits (normal sets) m) (hits sets m)
    (λ h. meets_hits sets m (λ s e.
    let w = holds_normal sets small s e in
    meets_sym s m
    ∙ meets_subset 64 m w.0 s (small w.0 (normal_elem w.0 sets w.1)) w.2 (meets_sym m w.0 ∙ hits_meets (normal sets) m w.0 h w.1)))
    (λ h. meets_hits (normal sets) m (λ s e. hits_meets sets m s h (normal_elem s sets e)))
