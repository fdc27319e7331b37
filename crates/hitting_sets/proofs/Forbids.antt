-- The forbidden drives, collected drive by drive of m: what those passed forbid, with what the rest forbids, is the
-- whole.
use mathlib.Core.Path.{◌≡◌, sym, ap, ◌∙◌}
use mathlib.Core.List.{List}
use Prim.Native.Nat.{ℕ, ◌-◌, ◌^◌, ◌≤◌, ◌<◌}
use lib.ListN.{get_or}
use lib.Bits.{or_zero_l}
use Rattle.drive_sets.specs.Masks.{union, minus, drives}
use Rattle.drive_sets.specs.Masks.Laws.{union_assoc, union_none}
use Rattle.drive_sets.specs.Loops.Drives.{Taken, taken_bounds, Walk, walk_turn, walk_end}
use Rattle.hitting_sets.specs.LookAhead.{in_all, privates, forbidden}

module _ (sets : List ℕ) (m : ℕ) where
  abbrev pub Forbidding : ℕ → ℕ → Type 0
  Forbidding rest bar = Walk (forbidden sets m (drives m)) (λ l. union bar (forbidden sets m l)) rest

  pub forbidding_start : m < 2 ^ 64 → Forbidding m 0
  unfolding union
  forbidding_start h = record { word = h; rest = or_zero_l (forbidden sets m (drives m)) }

  -- `own` has at its place k what the private sets of d share, and x is what d forbids
  pub forbidding_turn : {rest d others : ℕ} (bar k x : ℕ) (own : List ℕ) → Forbidding rest bar → Taken rest d others → k ≡ d - 1 → x ≡ minus (get_or own k 0) m
      → ((d : ℕ) → 1 ≤ d → d ≤ 64 → get_or own (d - 1) 0 ≡ in_all (privates sets m d)) → Forbidding others (union bar x)
  unfolding forbidden
  forbidding_turn {d = d} {others = others} bar k x own w t r e each =
      let b = taken_bounds t in
      let forbids = e ∙ ap (λ (y : ℕ). minus y m) (ap (λ (i : ℕ). get_or own i 0) r ∙ each d b.0 b.1) in
      walk_turn w t (λ l. union (union bar x) (forbidden sets m l))
      (sym (union_assoc bar x (forbidden sets m (drives others)) ∙ ap (λ (y : ℕ). union bar (union y (forbidden sets m (drives others)))) forbids))

  pub forbidding_end : (rest bar : ℕ) → Forbidding rest bar → rest ≡ 0 → bar ≡ forbidden sets m (drives m)
  unfolding forbidden
  forbidding_end rest bar w e = sym (union_none bar) ∙ walk_end w e
