-- The cores and survivor sets that the calls list are those of the executions that the table describes: the normal
-- table describes them too, and its minimal hitting sets are their cores.
use mathlib.Core.Path.{◌≡◌, refl, sym, ap, subst}
use mathlib.Core.Bool.{true}
use mathlib.Core.List.{List}
use mathlib.Core.Logic.{◌⊎◌, inl, inr, ⊎_elim, ◌↔◌}
use Prim.Native.Nat.{ℕ, ◌≤◌}
use native.Mathlib.Omega.{arith}
use Rattle.drive_sets.specs.Bools.Laws.{same_test}
use Rattle.drive_sets.specs.Lists.{elem}
use Rattle.drive_sets.specs.Lists.Laws.{any_elem, any_intro, ordered_unique}
use Rattle.drive_sets.specs.Lists.Distinct.{ordered_distinct}
use Rattle.drive_sets.specs.Lists.Places.{get_or_elem}
use Rattle.drive_sets.specs.Masks.{subset, size}
use Rattle.drive_sets.specs.Masks.Laws.{subset_trans}
use Rattle.survivor_tables.specs.Executions.{Core, Survivor, Describes}
use Rattle.survivor_tables.specs.Executions.Laws.{core_hitting, hitting_core, survivor_set, set_survivor, survivors_describe}
use Rattle.survivor_tables.specs.Hitting.Laws.{minimal_lt}
use Rattle.survivor_tables.specs.Order.{by_size, normal}
use Rattle.survivor_tables.specs.Order.Lowest.{lowest_first, first_lowest}
use Rattle.survivor_tables.specs.Order.Strict.{by_size_strict, by_size_cases, strict_irr}
use Rattle.survivor_tables.specs.Order.Normal.{normal_elem, antichain_normal, holds_normal}
use Rattle.survivor_tables.specs.Tables.{core_order, cores, chosen, Accepted}
use Rattle.survivor_tables.proofs.Tables.Laws.{core_given, sets_below, sets_word, accepted_normal, core_minimal, minimal_core, cores_ordered, chosen_first, some_core}
use Rattle.complete_tables.specs.Complete.{Complete, with_cores}
use Rattle.promises.specs.Cores.{OrderOfCores, StrictOrder, TableSays, FirstCore, ListingDescribes, CoresOfCall, ChosenOfCall, CoresOfRead, CoresOfWhole, CoresOfSurvivors}
use Rattle.promises.proofs.Tables.{call_table, read_table_law, whole_read}

-- ---- the order of cores

pub order_of_cores : OrderOfCores
unfolding OrderOfCores
order_of_cores x y = (
  λ h. ⊎_elim (λ less. inl less) (λ same. inr (same.0, lowest_first x y same.1)) ((by_size_cases x y).0 h),
  ⊎_elim (λ less. (by_size_cases x y).1 (inl less)) (λ same. (by_size_cases x y).1 (inr (same.0, first_lowest x y same.1.0 same.1.1))),
)

pub strict_order : StrictOrder
unfolding StrictOrder
strict_order = by_size_strict

size_le : (x y : ℕ) → core_order x y ≡ true → size x ≤ size y
size_le x y h = ⊎_elim (λ less. omega (arith, less)) (λ same. omega (arith, same.0)) ((by_size_cases x y).0 h)

-- ---- the normal table describes the executions that the sets describe

module _ {Φ : Type 0} (n : ℕ) (sets : List ℕ) (a : Accepted n sets) (correct : Φ → ℕ) where
  pub described_normal : Describes n sets correct → Describes n (normal sets) correct
  described_normal d = record {
    within = d.within;
    holds_set = λ φ.
        let s = any_elem (λ s. subset s (correct φ)) sets (d.holds_set φ) in
        let t = holds_normal sets (sets_word n sets a) s.0 s.1 in
        any_intro (λ s. subset s (correct φ)) (normal sets) t.0 t.1
        (subset_trans n t.0 s.0 (correct φ) (sets_below n sets a t.0 (normal_elem t.0 sets t.1)) t.2 s.2);
    occurs = λ s e. d.occurs s (normal_elem s sets e);
  }

  -- ---- cores and survivor sets by executions

  module _ (described : Describes n (normal sets) correct) where
    table : Accepted n (normal sets)
    table = accepted_normal n sets a

    listed_core : (c : ℕ) → elem c (cores (normal sets)) ≡ true → Core n correct c
    listed_core c e =
        let min = core_minimal (normal sets) (sets_word n (normal sets) table) c e in
        hitting_core n a.high (normal sets) correct described c (minimal_lt n (normal sets) c a.high (sets_below n (normal sets) table) min) min

    core_listed : (c : ℕ) → Core n correct c → elem c (cores (normal sets)) ≡ true
    core_listed c core = minimal_core (normal sets) (sets_word n (normal sets) table) c (core_hitting n a.high (normal sets) correct described c core)

    says : TableSays n correct (with_cores n (normal sets))
    unfolding with_cores
    says =
        let order = cores_ordered (normal sets) (sets_word n (normal sets) table) in
        record {
          drives = refl;
          cores = λ c. (listed_core c, core_listed c);
          in_order = order;
          once = ordered_distinct by_size (strict_irr by_size_strict) (cores (normal sets)) order;
          only = λ l exactly o.
              ordered_unique by_size by_size_strict.asym l (cores (normal sets)) o order
              (λ c. same_test (elem c l) (elem c (cores (normal sets))) (λ h. core_listed c ((exactly c).0 h)) (λ h. (exactly c).1 (listed_core c h)));
          sets = λ s. (
            set_survivor n a.high (normal sets) correct described (antichain_normal sets) s,
            survivor_set n a.high (normal sets) correct described s,
          );
        }

    -- ---- the first of them

    first : (c : ℕ) → Core n correct c → (chosen (normal sets) ≡ c) ⊎ (core_order (chosen (normal sets)) c ≡ true)
    first c core = chosen_first (normal sets) (sets_word n (normal sets) table) c (core_listed c core)

    first_core : FirstCore n correct (chosen (normal sets))
    unfolding chosen
    first_core = record {
      is_core = listed_core (chosen (normal sets)) (get_or_elem (cores (normal sets)) 0 (some_core n (normal sets) table));
      first = first;
      smallest = λ c core. ⊎_elim (λ e. omega (arith, ap size e)) (size_le (chosen (normal sets)) c) (first c core);
    }

-- ---- the promises

pub listing_describes : ListingDescribes
unfolding ListingDescribes
listing_describes n sets a Φ correct d = described_normal n sets a correct d

pub cores_of_call : CoresOfCall
unfolding CoresOfCall with_cores
cores_of_call n sets t e Φ correct d =
    let w = call_table n sets e in
    subst (TableSays n correct) (sym w.is)
    (says n sets w.accepted correct (subst (λ (u : Complete). Describes n u.sets correct) w.is d))

pub chosen_of_call : ChosenOfCall
unfolding ChosenOfCall
chosen_of_call n sets core e Φ correct d =
    let w = core_given n sets e in
    subst (FirstCore n correct) w.1 (first_core n sets w.0 correct d)

pub cores_of_read : CoresOfRead
unfolding CoresOfRead with_cores
cores_of_read s r e Φ correct d =
    let w = read_table_law s e in
    let is = w.1.is in
    subst (TableSays r.table.n correct) (sym is)
    (says r.table.n w.0 w.1.accepted correct (subst (λ (t : Complete). Describes r.table.n t.sets correct) is d))

pub cores_of_whole : CoresOfWhole
unfolding CoresOfWhole CoresOfRead
cores_of_whole s t e = cores_of_read s _ (whole_read s e)

pub cores_of_survivors : CoresOfSurvivors
unfolding CoresOfSurvivors with_cores
cores_of_survivors n sets t e Φ correct within are =
    let w = call_table n sets e in
    let exactly : (s : ℕ) → (elem s (normal sets) ≡ true) ↔ Survivor correct s =
    subst (λ (u : Complete). (s : ℕ) → (elem s u.sets ≡ true) ↔ Survivor correct s) w.is are in
    subst (TableSays n correct) (sym w.is)
    (says n sets w.accepted correct
    (survivors_describe n w.accepted.high (normal sets) correct within (λ s. (exactly s).0) (λ s. (exactly s).1)))
