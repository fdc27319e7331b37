-- The four calls of a drive, and the drives that its message goes to, with a CR as far as that lets it get, as one
-- thing. What is said of worlds and runs is said of any protocol; it is proved of document 01's, and shown to be false
-- of wrong ones.
use Rattle.std.specs.Prelude.{List, ℕ}
use Rattle.drive_sets.specs.Refusals.{Outcome}
use Rattle.drive_states.specs.declared.Exchange.{Exchange}
use Rattle.runs.specs.Scenario.{Scenario}

pub record Protocol : Type 0 where
  pub opening : ℕ → List ℕ → ℕ → ℕ → Outcome Exchange  -- n and sets, a drive number and a pattern number
  pub sending : Exchange → ℕ → ℕ → Outcome (List ℕ)  -- the length of the lent buffer and the starting place in it
  pub receiving : Exchange → List ℕ → Outcome Exchange
  pub closing : Exchange → Outcome Exchange
  pub reach : Scenario → ℕ → ℕ → List ℕ  -- in that round from that drive
