-- The loop of the openings, and the world that it leaves.
use mathlib.Core.Path.{◌≡◌, sym, ap, ap₂, ◌∙◌, fun_ext}
use mathlib.Core.Bool.{true, false, cond}
use mathlib.Core.List.{List, [], ◌∷◌, map}
use mathlib.Core.Logic.{⊎_elim}
use Prim.Native.Nat.{ℕ, ◌+◌, ◌-◌, ◌≤◌, ◌<◌}
use native.Mathlib.Omega.{arith}
use lib.Dec.{eqb}
use lib.ListN.{length, get_or, set, length-set}
use lib.Seq.{get_or-set_same, get_or-set_other}
use borrow.Author.Tests.{eqb-true, eqb-false}
use Rattle.drive_sets.specs.declared.Pattern.{Pattern}
use Rattle.drive_sets.specs.Lists.{elem, range}
use Rattle.drive_sets.specs.Lists.Laws.{elem_none, elem_head, elem_tail, elem_cases}
use Rattle.drive_sets.specs.Refusals.{yields}
use Rattle.drive_sets.specs.Bools.Laws.{clash, by_test, false_of}
use Rattle.drive_states.specs.declared.Exchange.{Exchange}
use Rattle.drive_sets.specs.Counts.{is_drive}
use Rattle.drive_sets.specs.Counts.Laws.{drive_bounds, is_drive_range}
use Rattle.survivor_tables.specs.Order.{normal}
use Rattle.agreement.specs.Calls.{initial, opening}
use Rattle.agreement.proofs.CallLaws.{opening_accepted}
use Rattle.runs.specs.World.{opens, Slot, opened, World, nothing_open, put, after_call}
use Rattle.agreement.specs.Document01.{apply_all}
use Rattle.runs.specs.World as worlds
use Rattle.runs.specs.World.Laws.{put_same, put_other}
use Rattle.runs.specs.Scenario.{Scenario, frame, core_of}
use Rattle.agreement.specs.Canonical.{opening_calls}
use Rattle.drive_crashes.specs.declared.Crashes.{Crashes}
use Rattle.drive_states.specs.State.{pattern, number_in}
use Rattle.simulated_sends.specs.States.{blank, state_at, world_of}
use Rattle.simulated_decisions.specs.Arguments.{Told}

-- ---- the loop

module _ (n core : ℕ) (numbers : List Pattern) where
  -- the drives 1 to i are open
  pub record Opening (all : List Exchange) (i : ℕ) : Type 0 where
    pub long : length all ≡ 64
    pub same : (d : ℕ) → 1 ≤ d → d ≤ i → state_at all d ≡ initial n core d (number_in numbers d)

  pub open_start : (all : List Exchange) → length all ≡ 64 → Opening all 0
  open_start all long = record { long = long; same = λ d low high. absurd (omega (arith, low, high)) }

  pub open_turn : (all : List Exchange) (i : ℕ) (x : Exchange) → Opening all i → i < 64 → x ≡ initial n core (i + 1) (get_or numbers i (pattern 0)).0 → Opening (set all i x) (i + 1)
  unfolding number_in state_at
  open_turn all i x g h e = record { long = length-set all i x ∙ g.long; same = same }
    where
      same : (d : ℕ) → 1 ≤ d → d ≤ i + 1 → state_at (set all i x) d ≡ initial n core d (number_in numbers d)
      same d low high =
          by_test (eqb (d - 1) i)
          (λ t. let here : d - 1 ≡ i = eqb-true (d - 1) i t in
          let is : i + 1 ≡ d = omega (arith, here, low) in
          ap (λ (k : ℕ). get_or (set all i x) k blank) here
          ∙ (get_or-set_same all i x blank (omega (arith, h, g.long))
          ∙ (e ∙ ap₂ (λ (k j : ℕ). initial n core k (get_or numbers j (pattern 0)).0) is (sym here))))
          (λ t. let other = eqb-false (d - 1) i t in
          get_or-set_other all i (d - 1) x blank other ∙ g.same d low (less other))
        where
          less : (d - 1 ≡ i → ⊥) → d ≤ i
          less other = omega (arith, other, low, high)

  pub open_end : (all : List Exchange) (i : ℕ) → Opening all i → n ≤ i → (d : ℕ) → is_drive n d ≡ true → state_at all d ≡ initial n core d (number_in numbers d)
  open_end all i g h d t = let b = drive_bounds n d t in g.same d b.0 (omega (arith, b.1, h))

-- ---- the world

module _ (n core : ℕ) (numbers : List Pattern) (c : Crashes) (s : Scenario) (g : Told n core numbers c s) where
  -- the state of a drive at opening
  abbrev first : ℕ → Exchange
  first d = initial n core d (number_in numbers d)

  in_frame : (d : ℕ) → is_drive n d ≡ true → is_drive s.n d ≡ true
  in_frame d h = ap (λ (m : ℕ). is_drive m d) g.says.frame_is ∙ h

  -- each opening is accepted
  opening_gives : (d : ℕ) → is_drive n d ≡ true → opening s.n s.sets d (s.proposal d) ≡ yields (first d)
  unfolding core_of
  opening_gives d h =
      opening_accepted s.n s.sets (normal s.sets) d (s.proposal d) g.valid.accepted (in_frame d h)
      ∙ (ap₂ (λ (m k : ℕ). yields (initial m k d (s.proposal d))) g.says.frame_is g.says.core_is
      ∙ ap (λ (v : ℕ). yields (initial n core d v)) (g.proposal_is d h))

  after_openings : List ℕ → World → World
  after_openings ds w = apply_all w (map (λ d. opens d s.n s.sets d (s.proposal d)) ds)

  openings_of : (ds : List ℕ) (w : World) → ((d : ℕ) → elem d ds ≡ true → is_drive n d ≡ true) → (e : ℕ)
      → after_openings ds w e ≡ cond (elem e ds) (opened (first e)) (w e)
  unfolding after_openings worlds.apply_all worlds.apply after_call
  openings_of [] w h e = rw (elem_none e)
  openings_of (d ∷ ds) w h e =
      openings_of ds (put w d slot) (λ x i. h x (elem_tail x d ds i)) e
      ∙ by_test (elem e ds) (λ t. rw (t, elem_tail e d ds t)) (λ t. rw t (by_test (eqb e d) (λ q. here (eqb-true e d q)) (λ q. there t q)))
    where
      slot : Slot
      slot = after_call (w d) (opening s.n s.sets d (s.proposal d))

      here : e ≡ d → put w d slot e ≡ cond (elem e (d ∷ ds)) (opened (first e)) (w e)
      here q = rw (q, elem_head d ds, put_same w d slot) (ap (after_call (w d)) (opening_gives d (h d (elem_head d ds))))

      there : elem e ds ≡ false → eqb e d ≡ false → put w d slot e ≡ cond (elem e (d ∷ ds)) (opened (first e)) (w e)
      there t q = rw (put_other w d slot e q, false_of (elem e (d ∷ ds)) (λ i. ⊎_elim (λ x. eqb-false e d q x) (λ x. clash x t) (elem_cases e d ds i)))

  pub world_opened : (states : List Exchange) → ((d : ℕ) → is_drive n d ≡ true → state_at states d ≡ first d) → world_of n states ≡ apply_all nothing_open (opening_calls s)
  unfolding world_of opening_calls frame nothing_open after_openings
  world_opened states same = fun_ext (λ e. by_drive e ∙ sym (openings_of (range 1 s.n) nothing_open from_frame e))
    where
      from_frame : (d : ℕ) → elem d (range 1 s.n) ≡ true → is_drive n d ≡ true
      from_frame d i = is_drive_range n d ∙ (ap (λ (m : ℕ). elem d (range 1 m)) (sym g.says.frame_is) ∙ i)

      listed : (e : ℕ) → elem e (range 1 s.n) ≡ is_drive n e
      listed e = ap (λ (m : ℕ). elem e (range 1 m)) g.says.frame_is ∙ sym (is_drive_range n e)

      by_drive : (e : ℕ) → world_of n states e ≡ cond (elem e (range 1 s.n)) (opened (first e)) (nothing_open e)
      by_drive e =
          by_test (is_drive n e)
          (λ t. rw (t, listed e ∙ t) (ap opened (same e t)))
          (λ t. rw (t, listed e ∙ t))
