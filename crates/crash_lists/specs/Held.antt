-- What holds of the crashes of a list, as far as it was read.
use Rattle.std.specs.Prelude.{◌≡◌, true, ℕ, ◌^◌, ◌≤◌, ◌<◌, length}
use Rattle.drive_sets.specs.Limits.{max_drives}
use Rattle.drive_sets.specs.Masks.{has}
use Rattle.drive_crashes.specs.declared.Crashes.{Crashes}
use Rattle.drive_crashes.specs.Crashes.{crashes_in}

-- of n drives: they are of drives up to the last, and as many as are counted
pub record Held (n : ℕ) (c : Crashes) (last count : ℕ) : Type 0 where
  pub frame : n ≤ max_drives
  pub up_to : last ≤ n
  pub word : c.crashed < 2 ^ 64
  pub rounds : length c.rounds ≡ max_drives
  pub sends : length c.sends ≡ max_drives
  pub below : (e : ℕ) → has e c.crashed ≡ true → e ≤ last
  pub counted : length (crashes_in c) ≡ count
  pub few : count ≤ last
