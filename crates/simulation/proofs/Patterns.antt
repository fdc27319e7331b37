-- What owning an array of pattern numbers tells: each is below the limit.
use mathlib.Core.List.{List, [], ◌∷◌}
use Prim.Native.Nat.{ℕ, zero, suc, ◌<◌}
use native.Mathlib.Omega.{arith}
use lib.ListN.{get_or}
use mir.Val.{Val}
use denote.Array.{each}
use denote.Shadow.{shadow}
use Rattle.drive_sets.specs.declared.Pattern.{Pattern}
use Rattle.drive_sets.specs.contracts.Pattern as patterns
use Rattle.drive_states.specs.State.{pattern}
use Rattle.drive_sets.specs.Limits.{pattern_limit}

pub patterns_below : (numbers : List Pattern) (us : List Val) → shadow (each Pattern (patterns.the_row).own_val numbers us) → (i : ℕ) → (get_or numbers i (pattern 0)).0 < pattern_limit
patterns_below [] us p i = omega arith
patterns_below (v ∷ numbers) [] p i = absurd p
patterns_below (v ∷ numbers) (u ∷ us) p zero = p.0.1.1.0.1
patterns_below (v ∷ numbers) (u ∷ us) p (suc i) = patterns_below numbers us p.1 i
