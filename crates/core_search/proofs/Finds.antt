-- What is found in a list of one's own, with the room of the lent slice, copied into that slice.
use mathlib.Core.Path.{◌≡◌, ap, ◌∙◌}
use mathlib.Core.Bool.{Bool}
use mathlib.Core.List.{List, ◌++◌}
use Prim.Native.Nat.{ℕ, ◌-◌, ◌≤◌, ◌<◌}
use native.Mathlib.Nat.{sub-zero}
use native.Mathlib.Omega.{arith}
use lib.ListN.{length, take, drop}
use Rattle.drive_sets.specs.Lent.Laws.{after_copy, after_none}
use Rattle.survivor_tables.specs.Hitting.{minimals}
use Rattle.survivor_tables.specs.Order.{sort}
use Rattle.survivor_tables.specs.Order.Sort.{length_sort}
use Rattle.search_attempts.specs.Attempts.{Attempted}
use Rattle.core_search.specs.Found.{room_in, Found}

module _ {before : ℕ → ℕ → Bool} {sets list : List ℕ} {room r : ℕ} (out : List ℕ) (a : Attempted before sets room list r)
    (e : room ≡ room_in out) where
  count : length (sort before (minimals sets)) ≡ length (minimals sets)
  count = length_sort before (minimals sets)

  pub found_more : room < r → Found before sets out out r
  found_more h = record {
    total = omega (arith, a.total);
    list = after_none out (sort before (minimals sets)) (room_in out) (omega (arith, a.total, count));
  }

  pub found_all : (new : List ℕ) → r ≤ room → new ≡ take (length out) (take (r - 0) list) ++ drop (length (take (r - 0) list)) out → Found before sets out new r
  found_all new h f =
      let part : take (r - 0) list ≡ sort before (minimals sets) = ap (λ (k : ℕ). take k list) (sub-zero r) ∙ a.listed h (omega arith) in
      record {
        total = omega (arith, a.total);
        list = after_copy out (sort before (minimals sets)) (room_in out) new (omega (arith, a.total, count)) (omega arith)
            (f ∙ ap (λ (l : List ℕ). take (length out) l ++ drop (length l) out) part);
      }
