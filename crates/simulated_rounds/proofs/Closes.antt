-- The closes of a round: the loop over the drives.
use mathlib.Core.Path.{◌≡◌, sym, ap, ◌∙◌}
use mathlib.Core.Bool.{Bool, true, false, not, ◌&&◌}
use mathlib.Core.List.{List, [], ◌∷◌, map}
use Prim.Native.Nat.{ℕ, ◌+◌, ◌≤◌, ◌<◌}
use native.Mathlib.Omega.{arith}
use lib.ListN.{length, get_or, set, length-set}
use Rattle.drive_sets.specs.Lists.{range, filter}
use Rattle.drive_states.specs.declared.Exchange.{Exchange}
use Rattle.agreement.specs.Calls.{closing}
use Rattle.exchange.specs.Replies.{state_after}
use Rattle.runs.specs.World.{Call, opened, closes, active}
use Rattle.agreement.specs.Document01.{apply_all}
use Rattle.runs.specs.World as worlds
use Rattle.runs.specs.Scenario.{gone_by}
use Rattle.drive_crashes.specs.declared.Crashes.{Crashes}
use Rattle.simulated_sends.specs.States.{blank, state_at, world_of}
use Rattle.simulated_rounds.specs.Rounds.{crash_at, closers}
use Rattle.simulated_rounds.proofs.Places.{state_place, close_place}
use Rattle.simulated_rounds.proofs.Walks.{Walking, calls_if, walk_turn, walk_end, calls_kept, calls_single}

-- ---- the loop

-- the drive closes
abbrev pub closes_now : Crashes → ℕ → List Exchange → ℕ → Bool
closes_now c r began d = active (opened (state_at began d)) && not (gone_by (crash_at c d) r)

abbrev pub close_calls : Crashes → ℕ → List Exchange → ℕ → List Call
close_calls c r began = calls_if (closes_now c r began) (λ d. closes d ∷ [])

abbrev pub Closing : ℕ → Crashes → ℕ → List Exchange → List Exchange → List Exchange → ℕ → Type 0
Closing n c r began states all i = Walking n (close_calls c r began) states all i

module _ (n : ℕ) (c : Crashes) (r : ℕ) (began states : List Exchange) where
  module _ (all new : List Exchange) (i : ℕ) (g : Closing n c r began states all i) (h : i < n) {b : Bool}
      (e : b ≡ (active (opened (get_or began i blank)) && not (gone_by (crash_at c (i + 1)) r))) where
    closes_here : closes_now c r began (i + 1) ≡ b
    closes_here = ap (λ (x : Exchange). active (opened x) && not (gone_by (crash_at c (i + 1)) r)) (state_place began i) ∙ sym e

    pub close_made : n ≤ 64 → b ≡ true → new ≡ set all i (state_after (get_or all i blank) (closing (get_or all i blank))) → Closing n c r began states new (i + 1)
    unfolding worlds.apply_all
    close_made few t f =
        walk_turn n (close_calls c r began) states all new i g h (ap length f ∙ (length-set all i _ ∙ g.long))
        (rw (closes_here, t) (ap (world_of n) f ∙ close_place n all i h (omega (arith, few, g.long))))

    pub close_kept : b ≡ false → new ≡ all → Closing n c r began states new (i + 1)
    unfolding worlds.apply_all
    close_kept t f = walk_turn n (close_calls c r began) states all new i g h (ap length f ∙ g.long) (rw (closes_here, t) (ap (world_of n) f))

  pub close_end : (all : List Exchange) (i : ℕ) → Closing n c r began states all i → n ≤ i
      → world_of n all ≡ apply_all (world_of n states) (map closes (closers n began c r))
  unfolding closers
  close_end all i g h =
      walk_end n (close_calls c r began) states all i g h
      ∙ ap (apply_all (world_of n states)) (calls_kept (closes_now c r began) (λ d. closes d ∷ []) (range 1 n) ∙ calls_single closes (filter (closes_now c r began) (range 1 n)))
