-- Laws of the list of a sender: who is on it, and how far it gets. The other core drives come before the listeners, so
-- a sender that reaches a listener reaches all of them; and a drive with no CR up to a round gets through its list. The
-- list is also that of two masks.
use mathlib.Core.Path.{◌≡◌, refl, sym, ap, ap₂, ◌∙◌}
use mathlib.Core.Bool.{Bool, true, false, not, ◌&&◌}
use mathlib.Core.Logic.{◌≢◌, ⊎_elim}
use mathlib.Core.List.{List, ◌++◌}
use Prim.Native.Nat.{ℕ, ◌^◌, ◌≤◌, ◌<◌}
use native.Mathlib.Omega.{arith}
use lib.Dec.{eqb}
use lib.ListN.{take}
use borrow.Author.Tests.{eq-eqb, ne_eqb, le-leb, not-true}
use Rattle.drive_sets.specs.Bools.Laws.{clash, by_test, false_of, and_intro, and_left, and_right}
use Rattle.drive_sets.specs.Counts.{is_drive}
use Rattle.drive_sets.specs.Counts.Laws.{drive_bounds}
use Rattle.drive_sets.specs.Lists.{range, filter, elem, distinct}
use Rattle.drive_sets.specs.Lists.Laws.{elem_append_left, elem_append_right, elem_append_cases, elem_filter, elem_range, filter_same}
use Rattle.drive_sets.specs.Lists.Distinct.{distinct_append}
use Rattle.drive_sets.specs.Lists.Takes.{elem_take, take_past, distinct_take}
use Rattle.drive_sets.specs.Masks.{has, single, minus, outside, drives}
use Rattle.drive_sets.specs.Masks.Laws.{has_minus, has_single, full_has, minus_lt}
use Rattle.drive_sets.specs.Masks.Outside.{outside_lt, has_outside}
use Rattle.drive_sets.specs.Masks.Frames.{drives_frame}
use Rattle.runs.specs.Scenario.{Crash, stays, crashes, Scenario, frame, core_of, gone_by}
use Rattle.runs.specs.Scenario.Laws.{kept_distinct}
use Rattle.agreement.specs.Sends.{receivers, list_of, cut, reach}

-- what holds of a list and of its first parts holds of how far it gets
cut_keeps : (K : List ℕ → Type 0) (c : Crash) (r : ℕ) (l : List ℕ) → K l → ((m : ℕ) → K (take m l)) → K (cut c r l)
unfolding cut
cut_keeps K stays r l whole part = whole
cut_keeps K (crashes q m) r l whole part = by_test (eqb q r) (λ t. rw t (part m)) (λ t. rw t whole)

-- a drive with no CR up to the round gets through its list
pub cut_up : (c : Crash) (r : ℕ) (l : List ℕ) → gone_by c r ≡ false → cut c r l ≡ l
unfolding cut gone_by
cut_up stays r l h = refl
cut_up (crashes q m) r l h = rw (ne_eqb q r (λ e. clash (le-leb q r (omega arith)) h))

-- ---- the list as the drives of two masks, as code finds them

pub receivers_masks : (n core d : ℕ) → n ≤ 64 → core < 2 ^ n → is_drive n d ≡ true
    → receivers (range 1 n) core d ≡ drives (minus core (single d)) ++ drives (outside n core)
receivers_masks n core d few within h = ap₂ (λ (a b : List ℕ). a ++ b) others listeners
  where
    others : filter (λ e. has e core && not (eqb e d)) (range 1 n) ≡ drives (minus core (single d))
    others =
        let b = drive_bounds n d h in
        filter_same (λ e. has e core && not (eqb e d)) (λ e. has e (minus core (single d))) (range 1 n)
        (λ e i. sym (has_minus e core (single d) ∙ ap (λ (x : Bool). has e core && not x) (has_single e d b.0 (omega (arith, b.1, few)))))
        ∙ sym (drives_frame n (minus core (single d)) (minus_lt n core (single d) within) few)

    listeners : filter (λ e. not (has e core)) (range 1 n) ≡ drives (outside n core)
    listeners =
        filter_same (λ e. not (has e core)) (λ e. has e (outside n core)) (range 1 n)
        (λ e i. let b = elem_range e 1 n i in
        sym (has_outside e n core ∙ ap (λ (x : Bool). x && not (has e core)) (full_has e n few b.0 (omega (arith, b.1)))))
        ∙ sym (drives_frame n (outside n core) (outside_lt n core) few)

-- ---- the list of a sender

module _ (s : Scenario) (d : ℕ) where
  -- the other core drives, which come first, and the listeners
  abbrev to_core : List ℕ
  to_core = filter (λ e. has e (core_of s) && not (eqb e d)) (frame s)

  abbrev to_listeners : List ℕ
  to_listeners = filter (λ e. not (has e (core_of s))) (frame s)

  in_to_core : (e : ℕ) → elem e (frame s) ≡ true → has e (core_of s) ≡ true → e ≢ d → elem e to_core ≡ true
  in_to_core e f c ne = elem_filter _ e (frame s) ∙ and_intro f (and_intro c (ap not (ne_eqb e d ne)))

  to_core_core : (e : ℕ) → elem e to_core ≡ true → has e (core_of s) ≡ true
  to_core_core e h = and_left (has e (core_of s)) _ (and_right (elem e (frame s)) _ (sym (elem_filter _ e (frame s)) ∙ h))

  pub in_list_of : (e : ℕ) → elem e (frame s) ≡ true → e ≢ d → elem e (list_of s d) ≡ true
  unfolding list_of
  in_list_of e f ne =
      by_test (has e (core_of s))
      (λ c. elem_append_left e to_core to_listeners (in_to_core e f c ne))
      (λ c. elem_append_right e to_core to_listeners (elem_filter _ e (frame s) ∙ and_intro f (ap not c)))

  list_of_frame : (e : ℕ) → elem e (list_of s d) ≡ true → elem e (frame s) ≡ true
  unfolding list_of
  list_of_frame e h =
      ⊎_elim
      (λ t. and_left (elem e (frame s)) _ (sym (elem_filter _ e (frame s)) ∙ t))
      (λ t. and_left (elem e (frame s)) _ (sym (elem_filter _ e (frame s)) ∙ t))
      (elem_append_cases e to_core to_listeners h)

  list_of_other : has d (core_of s) ≡ true → elem d (list_of s d) ≡ false
  unfolding list_of
  list_of_other c =
      false_of (elem d (list_of s d)) (λ h. ⊎_elim
      (λ t. clash (eq-eqb d d refl) (not-true (eqb d d) (and_right (has d (core_of s)) _ (and_right (elem d (frame s)) _ (sym (elem_filter _ d (frame s)) ∙ t)))))
      (λ t. clash c (not-true (has d (core_of s)) (and_right (elem d (frame s)) _ (sym (elem_filter _ d (frame s)) ∙ t))))
      (elem_append_cases d to_core to_listeners h))

  list_of_distinct : distinct (list_of s d) ≡ true
  unfolding list_of
  list_of_distinct =
      distinct_append to_core to_listeners (kept_distinct s _) (kept_distinct s _)
      (λ x a b. clash (to_core_core x a) (not-true _ (and_right (elem x (frame s)) _ (sym (elem_filter _ x (frame s)) ∙ b))))

  -- ---- the drives that a sender reaches

  -- who reaches a listener reaches all the other core drives, which come before it
  pub reach_core : (r e c : ℕ) → elem c (frame s) ≡ true → elem e (reach s r d) ≡ true → has e (core_of s) ≡ false → has c (core_of s) ≡ true → c ≢ d → elem c (reach s r d) ≡ true
  unfolding reach list_of
  reach_core r e c f h l i ne =
      cut_keeps (λ m. elem e m ≡ true → elem c m ≡ true) (s.crash d) r (list_of s d) (λ t. in_list_of c f ne)
      (λ m t. take_past e c m to_core to_listeners t (false_of (elem e to_core) (λ u. clash (to_core_core e u) l)) (in_to_core c f i ne)) h

  pub reach_distinct : (r : ℕ) → distinct (reach s r d) ≡ true
  unfolding reach
  reach_distinct r = cut_keeps (λ m. distinct m ≡ true) (s.crash d) r (list_of s d) list_of_distinct (λ m. distinct_take m (list_of s d) list_of_distinct)

  reach_list : (r e : ℕ) → elem e (reach s r d) ≡ true → elem e (list_of s d) ≡ true
  unfolding reach
  reach_list r e = cut_keeps (λ m. elem e m ≡ true → elem e (list_of s d) ≡ true) (s.crash d) r (list_of s d) (λ h. h) (λ m. elem_take e m (list_of s d))

  pub reach_frame : (r e : ℕ) → elem e (reach s r d) ≡ true → elem e (frame s) ≡ true
  reach_frame r e h = list_of_frame e (reach_list r e h)

  pub reach_other : (r : ℕ) → has d (core_of s) ≡ true → elem d (reach s r d) ≡ false
  reach_other r c = false_of (elem d (reach s r d)) (λ h. clash (reach_list r d h) (list_of_other c))
