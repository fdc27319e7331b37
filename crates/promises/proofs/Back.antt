-- Back of a table's cores is the table: the cores meet none of Back's refusals, and what it lists is the table.
use mathlib.Core.Path.{◌≡◌, sym, ap, subst}
use mathlib.Core.Bool.{true, not}
use mathlib.Core.List.{List}
use Prim.Native.Nat.{ℕ}
use native.Mathlib.Omega.{arith}
use lib.ListN.{length}
use borrow.Author.Tests.{ne_eqb, le-ltb}
use Rattle.drive_sets.specs.Bools.Laws.{clash, and_intro}
use Rattle.drive_sets.specs.Lists.{elem}
use Rattle.drive_sets.specs.Lists.Laws.{some_elem, all_intro}
use Rattle.drive_sets.specs.Masks.{has}
use Rattle.drive_sets.specs.Masks.Laws.{has_none, subset_full, meets_has}
use Rattle.drive_sets.specs.Limits.{max_sets, max_cores}
use Rattle.survivor_tables.specs.Hitting.Laws.{hits_meets, minimal_lt}
use Rattle.survivor_tables.specs.Order.{normal}
use Rattle.survivor_tables.specs.Tables.{is_set, cores, survivor_sets, Accepted}
use Rattle.survivor_tables.proofs.Tables.Laws.{accepted_frame, sets_below, sets_word, accepted_normal, core_minimal, dual_cores, some_core}
use Rattle.complete_tables.specs.Complete.{Complete, with_cores}
use Rattle.complete_tables.proofs.Completes.{some_elements}
use Rattle.promises.specs.Back.{BackFromCores, BackOf, BackFromCall, BackFromRead, BackFromWhole}
use Rattle.promises.proofs.Tables.{TableOf, call_table, read_table_law, whole_read}

-- a core is a group of the frame's drives, not empty: it meets some set
core_set : (n : ℕ) (sets : List ℕ) → Accepted n sets → (c : ℕ) → elem c (cores sets) ≡ true → is_set n c ≡ true
unfolding is_set
core_set n sets a c e =
    let core = core_minimal sets (sets_word n sets a) c e in
    let s = some_elem sets a.some in
    let d = meets_has n s.0 c (sets_below n sets a s.0 s.1) (hits_meets sets c s.0 core.all_met s.1) in
    and_intro (ap not (ne_eqb c 0 (λ none. clash (subst (λ (m : ℕ). has d.0 m ≡ true) none d.2) (has_none d.0))))
    (subset_full n c a.high (minimal_lt n sets c a.high (sets_below n sets a) core))

pub back_from_cores : BackFromCores
unfolding BackFromCores survivor_sets
back_from_cores n sets a =
    let table = accepted_normal n sets a in
    let some : length (cores (normal sets)) ≡ 0 → ⊥ = λ none. omega (arith, some_core n (normal sets) table) in
    rw (
      accepted_frame n sets a,
      some_elements (cores (normal sets)) some,
      le-ltb max_cores (length (cores (normal sets))) a.few_cores,
      all_intro (is_set n) (cores (normal sets)) (core_set n (normal sets) table),
      dual_cores n sets a,
      le-ltb max_sets (length (normal sets)) table.most,
    )

-- ---- the tables that are given

table_back : (n : ℕ) (sets : List ℕ) {t : Complete} → TableOf n sets t → BackOf t
unfolding BackFromCores with_cores
table_back n sets table = subst BackOf (sym table.is) (back_from_cores n sets table.accepted)

pub back_from_call : BackFromCall
unfolding BackFromCall
back_from_call n sets t e = table_back n sets (call_table n sets e)

pub back_from_read : BackFromRead
unfolding BackFromRead
back_from_read s r e = let w = read_table_law s e in table_back r.table.n w.0 w.1

pub back_from_whole : BackFromWhole
unfolding BackFromWhole BackFromRead
back_from_whole s t e = back_from_read s _ (whole_read s e)
