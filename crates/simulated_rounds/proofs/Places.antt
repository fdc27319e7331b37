-- The drive whose state is at place i of the array: its state, and a close of it; and the place of a drive's CR.
use mathlib.Core.Path.{◌≡◌, sym, ap, ap₂, ◌∙◌}
use mathlib.Core.Bool.{Bool, true}
use mathlib.Core.List.{List}
use Prim.Native.Nat.{ℕ, ◌+◌, ◌-◌, ◌^◌, ◌≤◌, ◌<◌}
use native.Mathlib.Omega.{arith}
use lib.ListN.{length, get_or, set}
use Rattle.drive_sets.specs.Masks.{has}
use Rattle.drive_sets.specs.Masks.Laws.{has_bounds}
use Rattle.drive_sets.specs.Counts.{is_drive}
use Rattle.drive_sets.specs.Counts.Laws.{is_drive_law}
use Rattle.drive_states.specs.declared.Exchange.{Exchange}
use Rattle.agreement.specs.Calls.{closing}
use Rattle.exchange.specs.Replies.{state_after}
use Rattle.runs.specs.World.{closes}
use Rattle.agreement.specs.Document01.{apply}
use Rattle.runs.specs.World as worlds
use Rattle.simulated_sends.specs.States.{blank, state_at, world_of}
use Rattle.simulated_sends.proofs.Worlds.{by_call}

place : (i : ℕ) → i + 1 - 1 ≡ i
place i = omega arith

pub state_place : (states : List Exchange) (i : ℕ) → state_at states (i + 1) ≡ get_or states i blank
unfolding state_at
state_place states i = ap (λ (k : ℕ). get_or states k blank) (place i)

place_drive : (n i : ℕ) → i < n → is_drive n (i + 1) ≡ true
place_drive n i h = is_drive_law n (i + 1) (omega arith) (omega arith)

pub close_place : (n : ℕ) (states : List Exchange) (i : ℕ) → i < n → n ≤ length states
    → world_of n (set states i (state_after (get_or states i blank) (closing (get_or states i blank)))) ≡ apply (world_of n states) (closes (i + 1))
unfolding worlds.apply
close_place n states i h long =
    sym (ap₂ (λ (k : ℕ) (x : Exchange). world_of n (set states k (state_after x (closing x)))) (place i) (state_place states i))
    ∙ by_call n states (i + 1) (place_drive n i h) long closing

-- a drive that a test found among those with a CR has a place in the arrays
pub crash_place : (d m : ℕ) {b : Bool} → m < 2 ^ 64 → b ≡ has d m → b ≡ true → (1 ≤ d) × (d - 1 < 64)
crash_place d m word e t = let b = has_bounds 64 d m word (sym e ∙ t) in (b.0, omega (arith, b.0, b.1))
