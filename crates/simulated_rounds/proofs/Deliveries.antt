-- The messages of one sender, one drive of its list after the other.
use mathlib.Core.Path.{◌≡◌, refl, sym, ap, ◌∙◌}
use mathlib.Core.Bool.{true}
use mathlib.Core.Logic.{⊎_elim}
use mathlib.Core.List.{List, [], ◌∷◌, map}
use Prim.Native.Nat.{ℕ, ◌-◌, ◌^◌, ◌≤◌, ◌<◌}
use native.Mathlib.Omega.{arith}
use lib.Pow.{pow_mono}
use lib.ListN.{length, get_or, set, length-set}
use Rattle.drive_sets.specs.Lists.{elem}
use Rattle.drive_sets.specs.Lists.Laws.{elem_head, elem_tail, elem_append_cases}
use Rattle.drive_sets.specs.Masks.{single, minus, outside, drives}
use Rattle.drive_sets.specs.Masks.Laws.{has_bounds, minus_lt}
use Rattle.drive_sets.specs.Masks.Outside.{outside_lt}
use Rattle.drive_sets.specs.Masks.Sizes.{elem_drives}
use Rattle.drive_sets.specs.Counts.{is_drive}
use Rattle.drive_sets.specs.Counts.Laws.{is_drive_law, drive_bounds}
use Rattle.drive_states.specs.declared.Exchange.{Exchange}
use Rattle.agreement.specs.Calls.{receiving}
use Rattle.exchange.specs.Replies.{state_after}
use Rattle.runs.specs.World.{Call, delivers, World}
use Rattle.agreement.specs.Document01.{apply, apply_all}
use Rattle.runs.specs.World as worlds
use Rattle.simulated_sends.specs.States.{blank, state_at, world_of, list_for}
use Rattle.simulated_sends.proofs.Worlds.{world_deliver}

-- a list has drives of the frame
pub list_drives : (n core own : ℕ) → n ≤ 64 → core < 2 ^ n → (e : ℕ) → elem e (list_for n core own) ≡ true → is_drive n e ≡ true
unfolding list_for
list_drives n core own few within e h =
    ⊎_elim (inside (minus core (single own)) (minus_lt n core (single own) within)) (inside (outside n core) (outside_lt n core))
    (elem_append_cases e (drives (minus core (single own))) (drives (outside n core)) h)
  where
    inside : (m : ℕ) → m < 2 ^ n → elem e (drives m) ≡ true → is_drive n e ≡ true
    inside m small t = let b = has_bounds n e m small (sym (elem_drives e m (omega (arith, small, pow_mono {i = n} {j = 64} few))) ∙ t) in is_drive_law n e b.0 b.1

-- the messages with these bytes
abbrev messages : List ℕ → List ℕ → List Call
messages bytes es = map (λ e. delivers e bytes) es

-- the drives of `rest` are still to be served
pub record Delivering (n : ℕ) (bytes : List ℕ) (before all : List Exchange) (whole rest : List ℕ) : Type 0 where
  pub long : length all ≡ 64
  pub drives : (e : ℕ) → elem e rest ≡ true → is_drive n e ≡ true
  pub same : apply_all (world_of n all) (messages bytes rest) ≡ apply_all (world_of n before) (messages bytes whole)

pub deliver_start : {n : ℕ} {bytes : List ℕ} {all : List Exchange} {whole : List ℕ} → length all ≡ 64 → ((e : ℕ) → elem e whole ≡ true → is_drive n e ≡ true)
    → Delivering n bytes all all whole whole
deliver_start long drives = record { long = long; drives = drives; same = refl }

module _ {n : ℕ} {bytes : List ℕ} {before all : List Exchange} {whole rest : List ℕ} (g : Delivering n bytes before all whole rest) where
  pub deliver_end : rest ≡ [] → world_of n all ≡ apply_all (world_of n before) (messages bytes whole)
  unfolding worlds.apply_all
  deliver_end e = sym (ap (λ (l : List ℕ). apply_all (world_of n all) (messages bytes l)) e) ∙ g.same

  -- the first drive that is left, and the others
  module _ {d : ℕ} {others : List ℕ} (e : rest ≡ d ∷ others) where
    served : is_drive n d ≡ true
    served = g.drives d (ap (elem d) e ∙ elem_head d others)

    pub deliver_bounds : (1 ≤ d) × (d ≤ n)
    deliver_bounds = drive_bounds n d served

    -- the states once the message is taken
    pub deliver_turn : n ≤ 64 → {told : List Exchange} → told ≡ set all (d - 1) (state_after (get_or all (d - 1) blank) (receiving (get_or all (d - 1) blank) bytes))
        → Delivering n bytes before told whole others
    unfolding worlds.apply_all state_at
    deliver_turn few {told} f = record {
      long = ap length f ∙ (length-set all (d - 1) _ ∙ g.long);
      drives = λ x h. g.drives x (ap (elem x) e ∙ elem_tail x d others h);
      same = ap (λ (w : World). apply_all w (messages bytes others)) put ∙ (sym (ap (λ (l : List ℕ). apply_all (world_of n all) (messages bytes l)) e) ∙ g.same);
    }
      where
        put : world_of n told ≡ apply (world_of n all) (delivers d bytes)
        put = ap (world_of n) f ∙ world_deliver n all d served (omega (arith, few, g.long)) bytes
