-- What the code's values say: the world of the array of states, the list of a sender, and what is left of it.
use Rattle.std.specs.Prelude.{false, cond, List, [], ◌++◌, ℕ, ◌-◌, get_or, take}
use Rattle.drive_sets.specs.Counts.{is_drive}
use Rattle.drive_sets.specs.Masks.{single, minus, outside, drives}
use Rattle.drive_states.specs.declared.Exchange.{Exchange}
use Rattle.drive_states.specs.declared.Announcement.TheVariants.{Absent}
use Rattle.drive_states.specs.declared.Decision.TheVariants.{Undecided}
use Rattle.runs.specs.World.{World, unopened, opened}
use Rattle.simulated_sends.specs.declared.lists.Due.{Due}

-- a state for the places that an array does not have
abbrev pub blank : Exchange
blank = record {
  n = 0;
  own = record { 0 = 0 };
  core = 0;
  round = record { 0 = 0 };
  before = 0;
  heard = 0;
  known = 0;
  start = 0;
  numbers = [];
  announced = Absent;
  decision = Undecided;
  halted = false;
}

-- the state of a drive
unfoldable pub state_at : List Exchange → ℕ → Exchange
state_at states d = get_or states (d - 1) blank

-- the world in which the drives 1 to n are open and in these states
unfoldable pub world_of : ℕ → List Exchange → World
world_of n states d = cond (is_drive n d) (opened (state_at states d)) unopened

-- the list of a sender: the other core drives, then the listeners
unfoldable pub list_for : ℕ → ℕ → ℕ → List ℕ
list_for n core own = drives (minus core (single own)) ++ drives (outside n core)

-- the drives that a message has still to go to
unfoldable pub due_of : Due → List ℕ
due_of due = take due.left (drives due.others.0 ++ drives due.listeners.0)
