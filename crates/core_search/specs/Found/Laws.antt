-- Where there is room, the first places hold what was found.
use Rattle.std.specs.Prelude.{◌≡◌, Bool, List, ℕ, ◌≤◌, length, take}
use Rattle.std.proofs.Common.{ap, ◌∙◌, arith}
use Rattle.survivor_tables.specs.Hitting.{minimals}
use Rattle.survivor_tables.specs.Order.{sort}
use Rattle.survivor_tables.specs.Order.Sort.{length_sort}
use Rattle.drive_sets.specs.Lent.{buffer_after}
use Rattle.drive_sets.specs.Lent.Laws.{has_room, first_places}
use Rattle.drive_sets.specs.Refusals.{Outcome}
use Rattle.core_search.specs.Found.{room_in, Found}

pub found_listed : {before : ℕ → ℕ → Bool} {sets out out' : List ℕ} {r : ℕ} → Found before sets out out' r → r ≤ room_in out
    → take r out' ≡ sort before (minimals sets)
found_listed {before} {sets} {out} {out'} {r} f h =
    let count : length (sort before (minimals sets)) ≡ r = omega (arith, f.total, length_sort before (minimals sets)) in
    let all = has_room 0 (room_in out) (sort before (minimals sets)) (omega arith) in
    ap (take r) (f.list ∙ ap (λ (o : Outcome (List ℕ)). buffer_after o 0 out) all) ∙ first_places out (sort before (minimals sets)) r count (omega arith)
