-- The length of a sender's list, and the loop of the sends over the drives.
use mathlib.Core.Path.{◌≡◌, ap}
use mathlib.Core.Bool.{not, ◌&&◌, cond}
use mathlib.Core.List.{List, []}
use Prim.Native.Nat.{ℕ, ◌+◌, ◌^◌, ◌≤◌, ◌<◌}
use native.Mathlib.Omega.{arith}
use lib.ListN.{length, get_or, length-append}
use Rattle.drive_sets.specs.Masks.{has, single, full, minus, outside, size, drives}
use Rattle.drive_sets.specs.Masks.Laws.{subset_full}
use Rattle.drive_sets.specs.Masks.Sizes.{size_minus, size_full, common_subset, length_drives}
use Rattle.drive_states.specs.declared.Exchange.{Exchange}
use Rattle.agreement.specs.Calls.{sending}
use Rattle.runs.specs.World.{opened, active}
use Rattle.agreement.specs.Document01.{apply_all}
use Rattle.runs.specs.Scenario.{gone_before}
use Rattle.agreement.specs.Sends.{cut}
use Rattle.agreement.specs.Canonical.{room, deliveries}
use Rattle.drive_crashes.specs.declared.Crashes.{Crashes}
use Rattle.simulated_sends.specs.States.{blank, world_of, list_for}
use Rattle.simulated_rounds.specs.Rounds.{crash_at, sends_now, messages_by, messages_of}
use Rattle.simulated_rounds.proofs.Places.{state_place}
use Rattle.simulated_rounds.proofs.Walks.{Walking, walk_turn, walk_end}

-- a list has at most 64 drives
pub length_list : (n core own : ℕ) → n ≤ 64 → core < 2 ^ n → length (list_for n core own) ≤ 64
unfolding list_for outside
length_list n core own few within =
    let others = minus core (single own) in
    let listeners = minus (full n) core in
    omega (
      arith,
      length-append (drives others) (drives listeners),
      length_drives others,
      length_drives listeners,
      size_minus core (single own),
      size_minus (full n) core,
      ap size (common_subset core (full n) (subset_full n core few within)),
      size_full n few,
    )

-- ---- the loop

module _ (n core : ℕ) (c : Crashes) (r : ℕ) (began states : List Exchange) where
  abbrev pub Sending : List Exchange → ℕ → Type 0
  Sending all i = Walking n (messages_by n core began c r) states all i

  pub send_turn : (all : List Exchange) (i : ℕ) (new : List Exchange) → Sending all i → i < n → length new ≡ 64
      → world_of n new ≡ apply_all (world_of n all) (cond (has (i + 1) core && active (opened (get_or began i blank)) && not (gone_before (crash_at c (i + 1)) r))
      (deliveries (sending (get_or began i blank) room 0) (cut (crash_at c (i + 1)) r (list_for n core (i + 1)))) [])
      → Sending new (i + 1)
  unfolding messages_by sends_now
  send_turn all i new g h long e =
      walk_turn n (messages_by n core began c r) states all new i g h long
      (rw (state_place began i) e)

  pub send_end : (all : List Exchange) (i : ℕ) → Sending all i → n ≤ i → world_of n all ≡ apply_all (world_of n states) (messages_of n core began c r)
  unfolding messages_of
  send_end all i g h = walk_end n (messages_by n core began c r) states all i g h
