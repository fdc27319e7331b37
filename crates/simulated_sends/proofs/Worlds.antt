-- The world of the array of states: storing a state is putting it into the world, and a call on the drive is a store.
use mathlib.Core.Path.{◌≡◌, refl, sym, ap, ◌∙◌, fun_ext}
use mathlib.Core.Bool.{true, false}
use mathlib.Core.List.{List}
use Prim.Native.Nat.{ℕ, ◌-◌, ◌≤◌}
use native.Mathlib.Omega.{arith}
use lib.Dec.{eqb}
use lib.ListN.{length, set}
use lib.Seq.{get_or-set_same, get_or-set_other}
use borrow.Author.Tests.{eqb-true, eqb-false}
use Rattle.drive_sets.specs.Bools.Laws.{by_test, cond_true}
use Rattle.drive_sets.specs.Refusals.{Outcome, refused, yields}
use Rattle.drive_states.specs.declared.Exchange.{Exchange}
use Rattle.drive_sets.specs.Counts.{is_drive}
use Rattle.drive_sets.specs.Counts.Laws.{drive_bounds}
use Rattle.agreement.specs.Calls.{receiving}
use Rattle.exchange.specs.Replies.{state_after}
use Rattle.runs.specs.World.{opened, put, after_call, on_state, delivers}
use Rattle.agreement.specs.Document01.{apply}
use Rattle.runs.specs.World as worlds
use Rattle.runs.specs.World.Laws.{put_same, put_other}
use Rattle.simulated_sends.specs.States.{blank, state_at, world_of}

after_call_law : (x : Exchange) (o : Outcome Exchange) → after_call (opened x) o ≡ opened (state_after x o)
unfolding after_call
after_call_law x (refused r) = refl
after_call_law x (yields y) = refl

module _ (n : ℕ) (states : List Exchange) (d : ℕ) (g : is_drive n d ≡ true) where
  pub world_at : world_of n states d ≡ opened (state_at states d)
  unfolding world_of
  world_at = cond_true _ _ g

  module _ (long : n ≤ length states) where
    -- a state stored at the drive's place
    world_set : (x : Exchange) → world_of n (set states (d - 1) x) ≡ put (world_of n states) d (opened x)
    unfolding world_of state_at
    world_set x = fun_ext (λ e. by_test (eqb e d) (λ t. here e (eqb-true e d t)) (λ t. there e (eqb-false e d t) t))
      where
        here : (e : ℕ) → e ≡ d → world_of n (set states (d - 1) x) e ≡ put (world_of n states) d (opened x) e
        here e h =
            rw (h, g, put_same (world_of n states) d (opened x))
            (ap opened (get_or-set_same states (d - 1) x blank (omega (arith, (drive_bounds n d g).0, (drive_bounds n d g).1, long))))

        there : (e : ℕ) → (e ≡ d → ⊥) → eqb e d ≡ false → world_of n (set states (d - 1) x) e ≡ put (world_of n states) d (opened x) e
        there e h t =
            rw (put_other (world_of n states) d (opened x) e t) (by_test (is_drive n e)
            (λ b. rw b (ap opened (get_or-set_other states (d - 1) (e - 1) x blank (λ q. h (omega (arith, (drive_bounds n d g).0, (drive_bounds n e b).0))))))
            (λ b. rw b))

    -- so a call on the drive's state is the call in the world
    pub by_call : (call : Exchange → Outcome Exchange)
        → world_of n (set states (d - 1) (state_after (state_at states d) (call (state_at states d)))) ≡ put (world_of n states) d (on_state call (world_of n states d))
    unfolding on_state
    by_call call =
        world_set (state_after (state_at states d) (call (state_at states d)))
        ∙ ap (put (world_of n states) d) (sym (ap (on_state call) world_at ∙ after_call_law (state_at states d) (call (state_at states d))))

    pub world_deliver : (bytes : List ℕ)
        → world_of n (set states (d - 1) (state_after (state_at states d) (receiving (state_at states d) bytes))) ≡ apply (world_of n states) (delivers d bytes)
    unfolding worlds.apply
    world_deliver bytes = by_call (λ y. receiving y bytes)
