-- What the code's values say: the crashes by drive, the calls of a round, and the scenario that they are of.
use Rattle.std.specs.Prelude.{◌≡◌, Bool, not, ◌&&◌, cond, List, [], map, ℕ, ◌-◌, get_or}
use Rattle.drive_sets.specs.Lists.{range, filter}
use Rattle.drive_sets.specs.Masks.{has}
use Rattle.drive_states.specs.declared.Exchange.{Exchange}
use Rattle.agreement.specs.Calls.{sending}
use Rattle.runs.specs.World.{Call, opened, active}
use Rattle.runs.specs.Scenario.{Crash, stays, crashes, Scenario, core_of, gone_before, gone_by}
use Rattle.agreement.specs.Sends.{cut}
use Rattle.runs.specs.Runs.{joined}
use Rattle.agreement.specs.Canonical.{room, deliveries}
use Rattle.drive_crashes.specs.declared.Crashes.{Crashes}
use Rattle.drive_crashes.specs.Crashes.{round_at}
use Rattle.simulated_sends.specs.States.{state_at, list_for}

-- the CR of a drive
unfoldable pub crash_at : Crashes → ℕ → Crash
crash_at c d = cond (has d c.crashed) (crashes (round_at c.rounds d) (get_or c.sends (d - 1) 0)) stays

-- the drives that close, where they were in these states when the round began
unfoldable pub closers : ℕ → List Exchange → Crashes → ℕ → List ℕ
closers n began c round = filter (λ d. active (opened (state_at began d)) && not (gone_by (crash_at c d) round)) (range 1 n)

-- the drive is called to send, where it was in this state when the round began
unfoldable pub sends_now : ℕ → List Exchange → Crashes → ℕ → ℕ → Bool
sends_now core began c round d = has d core && active (opened (state_at began d)) && not (gone_before (crash_at c d) round)

-- its messages
unfoldable pub messages_by : ℕ → ℕ → List Exchange → Crashes → ℕ → ℕ → List Call
messages_by n core began c round d =
    cond (sends_now core began c round d) (deliveries (sending (state_at began d) room 0) (cut (crash_at c d) round (list_for n core d))) []

-- the messages of the drives 1 to n
unfoldable pub messages_of : ℕ → ℕ → List Exchange → Crashes → ℕ → List Call
messages_of n core began c round = joined (map (messages_by n core began c round) (range 1 n))

-- the frame, the core and the crashes are those of the scenario
pub record Says (n core : ℕ) (c : Crashes) (s : Scenario) : Type 0 where
  pub frame_is : s.n ≡ n
  pub core_is : core_of s ≡ core
  pub crash_is : (d : ℕ) → s.crash d ≡ crash_at c d
