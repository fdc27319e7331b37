-- The call on an accepted table and a set of the frame gives the first set of the normal table that the group misses.
use mathlib.Core.Path.{◌≡◌, sym, ap, ◌∙◌}
use mathlib.Core.Bool.{true, not}
use mathlib.Core.Logic.{◌↔◌}
use mathlib.Core.List.{List}
use Prim.Native.Nat.{ℕ, ◌-◌, ◌<◌}
use native.Mathlib.Omega.{arith}
use lib.ListN.{get_or}
use borrow.Author.Tests.{not-false}
use Rattle.drive_sets.specs.Positions.{Position}
use Rattle.std.specs.Prelude.{None}
use Rattle.drive_sets.specs.Lists.{any, elem}
use Rattle.drive_sets.specs.Lists.Laws.{any_elem, any_intro}
use Rattle.drive_sets.specs.Lists.Places.{get_or_elem}
use Rattle.drive_sets.specs.Masks.{meets, subset}
use Rattle.drive_sets.specs.Masks.Laws.{has_meets, meets_has, meets_not}
use Rattle.drive_sets.specs.Refusals.{yields}
use Rattle.drive_sets.specs.Refusals.Laws.{first_result, same_result, passed}
use Rattle.drive_sets.specs.declared.Refusal.TheVariants.{BadSet}
use Rattle.survivor_tables.specs.Hitting.{first_missed, hits}
use Rattle.survivor_tables.specs.Hitting.Laws.{none_missed, missed_at, hits_meets, meets_hits}
use Rattle.survivor_tables.specs.Hitting.Normal.{hits_normal}
use Rattle.survivor_tables.proofs.Hitting.Duality.{holds_core_law, cores_minimals}
use Rattle.survivor_tables.specs.Order.{normal}
use Rattle.survivor_tables.specs.Tables.{is_set, cores, normal_table, missed_set, Accepted}
use Rattle.survivor_tables.proofs.Tables.Laws.{table_accepted, accepted_table, accepted_normal, sets_below, sets_word, set_lt}
use Rattle.promises.specs.Missed.{Meet, MissedOfCall, NoneOfCall, NoneOfListed, NoneHoldsCore, MissedGiven}

-- ---- what the call gives

module _ (n : ℕ) (sets : List ℕ) (group : ℕ) where
  given : Accepted n sets → is_set n group ≡ true → missed_set n sets group ≡ yields (first_missed (normal sets) group)
  unfolding missed_set
  given a s = rw (accepted_table n sets a, s)

  taken : {p : Position} → missed_set n sets group ≡ yields p → Accepted n sets × (is_set n group ≡ true) × (first_missed (normal sets) group ≡ p)
  unfolding missed_set
  taken e =
      let first = first_result (normal_table n sets) _ e in
      let table = table_accepted n sets first.0 first.1 in
      let left = passed (not (is_set n group)) BadSet _ first.2 in
      (table.0, not-false (is_set n group) left.0, ap (λ (l : List ℕ). first_missed l group) (sym table.1) ∙ same_result left.1)

pub missed_given : MissedGiven
unfolding MissedGiven
missed_given n sets group = ((λ w. let t = taken n sets group w.1 in (t.0, t.1)), (λ w. (first_missed (normal sets) group, given n sets group w.0 w.1)))

-- ---- a position

pub missed_of_call : MissedOfCall
unfolding MissedOfCall
missed_of_call n sets group p e =
    let t = taken n sets group e in
    let table = accepted_normal n sets t.0 in
    let f = missed_at (normal sets) group p t.2 in
    let place : p - 1 ≡ f.place = omega (arith, f.at) in
    record {
      low = omega (arith, f.at);
      high = omega (arith, f.at, f.within);
      missed = λ d h. meets_not d _ group (ap (λ (i : ℕ). meets (get_or (normal sets) i 0) group) place ∙ f.there) h;
      before = λ q low lt.
          let in_front : q - 1 < f.place = omega (arith, f.at) in
          meets_has n _ group (sets_below n (normal sets) table _ (get_or_elem (normal sets) (q - 1) (omega (arith, f.within)))) (f.before (q - 1) in_front);
    }

-- ---- none

module _ (n : ℕ) (sets : List ℕ) (group : ℕ) (a : Accepted n sets) (s : is_set n group ≡ true) where
  none_hits : missed_set n sets group ≡ yields None → hits (normal sets) group ≡ true
  none_hits e = (none_missed (normal sets) group).0 (taken n sets group e).2

  hits_none : hits (normal sets) group ≡ true → missed_set n sets group ≡ yields None
  hits_none h = given n sets group a s ∙ ap (λ (p : Position). yields p) ((none_missed (normal sets) group).1 h)

-- of a list of accepted sets
hits_each : (n : ℕ) (sets : List ℕ) (group : ℕ) → Accepted n sets → (hits sets group ≡ true) ↔ ((set : ℕ) → elem set sets ≡ true → Meet set group)
hits_each n sets group a = (
  (λ h set i. meets_has n set group (sets_below n sets a set i) (hits_meets sets group set h i)),
  (λ f. meets_hits sets group (λ set i. let w = f set i in has_meets w.0 set group w.1 w.2)),
)

pub none_of_call : NoneOfCall
unfolding NoneOfCall
none_of_call n sets group a s =
    let each = hits_each n (normal sets) group (accepted_normal n sets a) in
    ((λ e. each.0 (none_hits n sets group a s e)), (λ f. hits_none n sets group a s (each.1 f)))

pub none_of_listed : NoneOfListed
unfolding NoneOfListed
none_of_listed n sets group a s =
    let each = hits_each n sets group a in
    let same = hits_normal sets (sets_word n sets a) group in
    ((λ e. each.0 (sym same ∙ none_hits n sets group a s e)), (λ f. hits_none n sets group a s (same ∙ each.1 f)))

pub none_holds_core : NoneHoldsCore
unfolding NoneHoldsCore cores
none_holds_core n sets group a s = (
  (λ e. any_elem (λ c. subset c group) (cores (normal sets)) (holds ∙ none_hits n sets group a s e)),
  (λ w. hits_none n sets group a s (sym holds ∙ any_intro (λ c. subset c group) (cores (normal sets)) w.0 w.1 w.2)),
)
  where
    holds : any (λ c. subset c group) (cores (normal sets)) ≡ hits (normal sets) group
    holds = holds_core_law n (normal sets) (cores (normal sets)) (cores_minimals n (normal sets) a.high (sets_below n (normal sets) (accepted_normal n sets a)) _) group (set_lt n group s)
