-- When any k sets of a table, repeats allowed, share a drive of m: they lack too few drives of it together; or, for
-- some drive of m, any k - 1 share one of what each set without it has. Where they share one, the search finds none.
use mathlib.Core.Path.{◌≡◌, sym, ap, ◌∙◌, subst}
use mathlib.Core.Bool.{true, false, not}
use mathlib.Core.List.{List, [], ◌∷◌, map}
use mathlib.Core.Option.{none}
use Rattle.std.specs.Prelude.{Option, None, Some, IfSome}
use Rattle.std.proofs.Common.{Bor}
use Prim.Native.Nat.{ℕ, suc, ◌+◌, ◌*◌, ◌^◌, ◌≤◌, ◌<◌}
use native.Mathlib.Nat.{suc-mul}
use native.Mathlib.Omega.{arith}
use lib.Dec.{eqb}
use lib.ListN.{length, get_or, drop, take, length-map, take-append-drop}
use borrow.Author.Tests.{eqb-true, eqb-false}
use Rattle.drive_sets.specs.Bools.Laws.{clash, by_test, true_of, and_intro, and_left, and_right}
use Rattle.drive_sets.specs.Options.Laws.{by_option}
use Rattle.drive_sets.specs.Lists.{elem, all}
use Rattle.drive_sets.specs.Lists.Laws.{elem_head, elem_tail, elem_cases, elem_none, elem_one, elem_append_right, all_elem, all_not}
use Rattle.drive_sets.specs.Lists.Places.{elem_get_or, without_one}
use Rattle.drive_sets.specs.Limits.{max_sets}
use Rattle.drive_sets.specs.Masks.{has, common, minus, size}
use Rattle.drive_sets.specs.Masks.Laws.{has_some, has_common, has_minus, has_subset, common_lt, minus_lt}
use Rattle.drive_sets.specs.Masks.Sizes.{size_none, size_minus, size_subset}
use Rattle.verdict_search.specs.Verdicts.{disjoint}
use Rattle.verdict_search.proofs.Verdicts.Search.{shared_more}
use Rattle.verdict_search.proofs.Verdicts.Firsts.{set_from, named_from, disjoint_first}
use Rattle.verdict_search.specs.Meaning.{AllFrom}
use Rattle.verdict_search.specs.declared.columns.Lacking.{Lacking}
use Rattle.verdict_search.specs.Columns.{Columns, LackingOf, EachMet}
use Rattle.verdict_search.specs.Sharing.{AllShare, Shared}

-- ---- a part of m

common_has : (d m s : ℕ) → has d (common m s) ≡ true → has d m ≡ true
common_has d m s h = and_left (has d m) (has d s) (sym (has_common d m s) ∙ h)

-- a part of m has no more drives outside a set than m
outside_part : (m s x : ℕ) → m < 2 ^ 64 → size (minus (common m s) x) ≤ size (minus m x)
outside_part m s x lt =
    size_subset (minus (common m s) x) (minus m x)
    (has_subset 64 (minus (common m s) x) (minus m x) (minus_lt 64 (common m s) x (common_lt 64 m s lt))
    (λ d h. let both = sym (has_minus d (common m s) x) ∙ h in
    has_minus d m x ∙ and_intro (common_has d m s (and_left (has d (common m s)) (not (has d x)) both)) (and_right (has d (common m s)) (not (has d x)) both)))

pub columns_part : {table columns : List ℕ} {most m : ℕ} (s : ℕ) → m < 2 ^ 64 → Columns table columns most m → Columns table columns most (common m s)
columns_part {m = m} s lt w = record {
  room = w.room;
  lacking = λ i j h. w.lacking i j (common_has (suc i) m s h);
  few = λ x i. omega (arith, outside_part m s x lt, w.few x i);
}

-- the same of columns that there may be
pub lacking_part : (table : List ℕ) (s : ℕ) {m : ℕ} (o : Option (Bor Lacking)) → m < 2 ^ 64 → IfSome o (λ l. LackingOf table l.now m) → IfSome o (λ l. LackingOf table l.now (common m s))
lacking_part table s None lt w = w
lacking_part table s (Some l) lt w = columns_part s lt w

module _ (table : List ℕ) where
  -- ---- sets that lack few drives

  lack_few : (most : ℕ) (sets : List ℕ) (m : ℕ) → m < 2 ^ 64 → ((s : ℕ) → elem s table ≡ true → size (minus m s) ≤ most) → length sets * most < size m → AllFrom table sets → Shared m sets
  lack_few most [] m lt few h from = let d = has_some 64 m lt (λ z. omega (arith, h, ap size z ∙ size_none)) in (d.0, d.1, λ s i. absurd (clash i (elem_none s)))
  lack_few most (s ∷ sets) m lt few h from =
      shared_more m s (s ∷ sets) sets (λ x i. elem_cases x s sets i)
      (lack_few most sets (common m s) (common_lt 64 m s lt) (λ x i. omega (arith, outside_part m s x lt, few x i))
      (omega (arith, h, suc-mul (length sets) most, size_minus m s, few s (from s (elem_head s sets)))) (λ x i. from x (elem_tail x s sets i)))

  pub few_share : {columns : List ℕ} {most k m : ℕ} → m < 2 ^ 64 → Columns table columns most m → k * most < size m → AllShare k table m
  few_share {most = most} {m = m} lt w h sets count from = lack_few most sets m lt w.few (subst (λ (j : ℕ). j * most < size m) (sym count) h) from

  -- ---- one set: each has a drive of m

  pub each_share : {columns : List ℕ} {most k m : ℕ} → length table ≤ max_sets → Columns table columns most m → k ≡ 1 → EachMet columns m → AllShare k table m
  each_share small w one met [] count from = absurd (omega arith)
  each_share {m = m} small w one met (s ∷ []) count from =
      let at = elem_get_or s table (from s (elem_head s [])) in
      let d = met at.0 (omega (arith, at.1)) in (
        suc d.0,
        d.1,
        λ x i. ap (has (suc d.0)) (elem_one x s i ∙ sym at.2)
            ∙ true_of (has (suc d.0) (get_or table at.0 0)) (λ e. clash (w.lacking d.0 at.0 d.1 at.1 e) d.2),
      )
  each_share small w one met (s ∷ t ∷ sets) count from = absurd (omega arith)

  -- ---- branching on a drive of m

  by_drive : (k m d : ℕ) → has d m ≡ true → ((s : ℕ) → elem s table ≡ true → has d s ≡ false → AllShare k table (common m s)) → AllShare (suc k) table m
  by_drive k m d h rest sets count from =
      by_test (all (has d) sets)
      (λ e. (d, h, λ s i. all_elem (has d) sets s e i))
      (λ e. let s = all_not (has d) sets e in
      let w = without_one s.0 sets s.1 in
      shared_more m s.0 sets w.0 w.1.others
      (rest s.0 (from s.0 s.1) s.2 w.0 (omega (arith, w.1.shorter)) (λ x i. from x (w.1.kept x i))))

  -- the search finds none
  pub share_none : (k from m : ℕ) → m < 2 ^ 64 → AllShare k table m → disjoint k (suc from) (drop from table) m ≡ none
  share_none k from m lt share =
      by_option (disjoint k (suc from) (drop from table) m) (λ e. e)
      (λ ps e. let w = (disjoint_first k (drop from table) (suc from) m ps lt e).names in
      absurd (w.share_none (share (map (set_from (suc from) (drop from table)) ps) (length-map ps (set_from (suc from) (drop from table)) ∙ w.count)
      (λ s i. ap (elem s) (sym (take-append-drop from table)) ∙ elem_append_right s (take from table) (drop from table) (named_from k (suc from) (drop from table) m ps w s i)))))

-- the sets before the place that lack the drive are done
pub record Branching (k : ℕ) (table : List ℕ) (m d place : ℕ) : Type 0 where
  pub done : (j : ℕ) → j < place → has d (get_or table j 0) ≡ false → AllShare k table (common m (get_or table j 0))

module _ (k : ℕ) (table : List ℕ) (m d : ℕ) where
  pub branching_turn : {place : ℕ} → Branching k table m d place → (has d (get_or table place 0) ≡ false → AllShare k table (common m (get_or table place 0))) → Branching k table m d (place + 1)
  branching_turn {place} b here = record {
    done = λ j lt lacks.
        by_test (eqb j place)
        (λ e. let q = eqb-true j place e in
        subst (λ (x : ℕ). AllShare k table (common m (get_or table x 0))) (sym q) (here (subst (λ (x : ℕ). has d (get_or table x 0) ≡ false) q lacks)))
        (λ e. b.done j (let ne = eqb-false j place e in omega (arith, lt)) lacks);
  }

  pub branching_end : {place k' : ℕ} → k' ≡ suc k → has d m ≡ true → Branching k table m d place → length table ≤ place → AllShare k' table m
  branching_end is h b end =
      subst (λ (x : ℕ). AllShare x table m) (sym is)
      (by_drive table k m d h (λ s e lacks. let at = elem_get_or s table e in
      subst (λ (x : ℕ). AllShare k table (common m x)) at.2 (b.done at.0 (omega (arith, at.1)) (ap (has d) at.2 ∙ lacks))))
