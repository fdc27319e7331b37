-- Demand 3: what is to be proved of every run, as types, for the drives of any protocol. One statement speaks of the
-- whole list of calls.
use Rattle.std.specs.Prelude.{◌≡◌, Bool, true, false, not, ◌&&◌, ◌||◌, List, [], ◌∷◌, ◌++◌, ℕ, zero, suc, ◌-◌, ◌≤◌, ◌<◌, eqb, length, take, get_or}
use Rattle.drive_sets.specs.Lists.{filter, elem}
use Rattle.drive_sets.specs.Masks.{has, size, drives}
use Rattle.drive_sets.specs.Refusals.{yields}
use Rattle.survivor_tables.specs.Order.{normal}
use Rattle.survivor_tables.specs.Tables.{chosen, normal_table}
use Rattle.drive_states.specs.declared.Decision.TheVariants.{Decided}
use Rattle.drive_sets.specs.Counts.{is_drive}
use Rattle.drive_states.specs.State.{is_decided}
use Rattle.drive_sets.specs.Limits.{pattern_limit}
use Rattle.runs.specs.Protocol.{Protocol}
use Rattle.runs.specs.World.{Call, opens, sends, delivers, closes, World, nothing_open, apply, apply_all, decision_of, round_in}
use Rattle.runs.specs.Scenario.{Scenario, stays, crashes, core_of, has_crash}
use Rattle.runs.specs.Runs.{Run, joined}

-- ---- scenarios

-- a CR passes 8, 9 and 10
pub record Passes (s : Scenario) (d round sends : ℕ) : Type 0 where
  pub in_frame : is_drive s.n d ≡ true
  pub from : 1 ≤ round
  pub up_to : round ≤ size (core_of s)
  pub of_core : has d (core_of s) ≡ true → sends ≤ s.n - 1
  pub of_listener : has d (core_of s) ≡ false → sends ≡ 0

-- the table meets no refusal, so it is accepted; the drives propose pattern numbers; each CR passes
pub record Valid (s : Scenario) : Type 0 where
  pub accepted : normal_table s.n s.sets ≡ yields (normal s.sets)
  pub patterns : (d : ℕ) → is_drive s.n d ≡ true → s.proposal d < pattern_limit
  pub passes : (d round sends : ℕ) → s.crash d ≡ crashes round sends → Passes s d round sends

-- a survivor set is untouched if no drive of it has a CR
pub record Untouched (s : Scenario) : Type 0 where
  pub set : ℕ
  pub listed : elem set s.sets ≡ true
  pub stay : (d : ℕ) → has d set ≡ true → s.crash d ≡ stays

-- a drive of the frame stays up if it has no CR
pub record Up (s : Scenario) (d : ℕ) : Type 0 where
  pub in_frame : is_drive s.n d ≡ true
  pub stay : s.crash d ≡ stays

-- v is the proposal of a core drive: the number that it is opened with
pub record Proposed (s : Scenario) (v : ℕ) : Type 0 where
  pub by : ℕ
  pub in_core : has by (core_of s) ≡ true
  pub is : v ≡ s.proposal by

-- f, the number of core drives with a CR
unfoldable pub core_crashes : Scenario → ℕ
core_crashes s = length (filter (λ d. has_crash (s.crash d)) (drives (core_of s)))

-- the round by whose close every drive that stays up decides, and which is reached: f + 1
abbrev pub last_round : Scenario → ℕ
last_round s = suc (core_crashes s)

-- ---- decisions

unfoldable pub is_close_of : ℕ → Call → Bool
is_close_of d (opens e n sets own number) = false
is_close_of d (sends e room start) = false
is_close_of d (delivers e bytes) = false
is_close_of d (closes e) = eqb d e

module _ (P : Protocol) where
  -- the closes of d among the calls leave it undecided
  unfoldable pub leave_undecided : ℕ → World → List Call → Bool
  leave_undecided d w [] = true
  leave_undecided d w (c ∷ cs) =
      (not (is_close_of d c) || not (is_decided (decision_of (apply P w c d)))) && leave_undecided d (apply P w c) cs

module _ {P : Protocol} {s : Scenario} {calls : List Call} (run : Run P s calls) where
  -- the calls of round k + 1, and those before that round
  unfoldable pub part_at : ℕ → List Call
  part_at k = get_or run.rounds k []

  unfoldable pub calls_before : ℕ → List Call
  calls_before k = run.first ++ joined (take k run.rounds)

  -- a drive decides on v in its round k + 1: the close of that round, which is among that round's calls, leaves it
  -- decided on v, and the closes before left it undecided
  pub record DecidesAfter (d v k : ℕ) : Type 0 where
    pub earlier : List Call
    pub later : List Call
    pub among : part_at k ≡ earlier ++ (closes d ∷ later)
    pub in_round : round_in (apply_all P nothing_open (calls_before k ++ earlier) d) ≡ suc k
    pub undecided : leave_undecided P d nothing_open (calls_before k ++ earlier) ≡ true
    pub decided : decision_of (apply_all P nothing_open (calls_before k ++ earlier ++ (closes d ∷ [])) d) ≡ Decided (record { 0 = v })

  -- in round r, from 1
  abbrev pub Decides : ℕ → ℕ → ℕ → Type 0
  Decides d v zero = ⊥
  Decides d v (suc k) = DecidesAfter d v k

  -- ---- agreement

  pub record DecidesSoon (d v : ℕ) : Type 0 where
    pub round : ℕ
    pub up_to : round ≤ last_round s
    pub decides : Decides d v round

  -- there is one number, proposed by a core drive, on which every drive that stays up decides in a round up to f + 1;
  -- none of them decides on another; and after the whole list each stands decided on it
  pub record Agreed : Type 0 where
    pub value : ℕ
    pub proposed : Proposed s value
    pub all : (d : ℕ) → Up s d → DecidesSoon d value
    pub only : (d v r : ℕ) → Up s d → Decides d v r → v ≡ value
    pub final : (d : ℕ) → Up s d → decision_of (apply_all P nothing_open calls d) ≡ Decided (record { 0 = value })

unfoldable pub Agreement : Protocol → Type 0
Agreement P = (s : Scenario) → Valid s → Untouched s → (calls : List Call) (run : Run P s calls) → Agreed run

-- ---- the bound is reached: for every f below the core's size, in some run with f core drives crashing and some
-- survivor set untouched, a drive that stays up decides in round f + 1, whatever is proposed

pub record TightAt (P : Protocol) (n : ℕ) (sets : List ℕ) (proposal : ℕ → ℕ) (f : ℕ) : Type 0 where
  pub scenario : Scenario
  pub frame_is : scenario.n ≡ n
  pub sets_are : scenario.sets ≡ sets
  pub proposal_is : scenario.proposal ≡ proposal
  pub valid : Valid scenario
  pub untouched : Untouched scenario
  pub many : core_crashes scenario ≡ f
  pub calls : List Call
  pub run : Run P scenario calls
  pub drive : ℕ
  pub up : Up scenario drive
  pub value : ℕ
  pub decides : Decides run drive value (last_round scenario)

unfoldable pub Tight : Protocol → Type 0
Tight P = (n : ℕ) (sets : List ℕ) → normal_table n sets ≡ yields (normal sets) → (proposal : ℕ → ℕ) → ((d : ℕ) → is_drive n d ≡ true → proposal d < pattern_limit)
    → (f : ℕ) → f < size (chosen (normal sets)) → TightAt P n sets proposal f

-- ---- every scenario has a run

unfoldable pub RunsExist : Protocol → Type 0
RunsExist P = (s : Scenario) → Valid s → (calls : List Call) × Run P s calls

-- ---- so in two runs of one scenario every drive decides on the same numbers in the same rounds, and those that stay
-- up end the same

pub record Same {P : Protocol} {s : Scenario} {calls calls' : List Call} (run : Run P s calls) (run' : Run P s calls') : Type 0 where
  pub decides : (d v r : ℕ) → Decides run d v r → Decides run' d v r
  pub final : (d : ℕ) → Up s d → decision_of (apply_all P nothing_open calls d) ≡ decision_of (apply_all P nothing_open calls' d)

unfoldable pub SameResult : Protocol → Type 0
SameResult P = (s : Scenario) → Valid s → (calls calls' : List Call) (run : Run P s calls) (run' : Run P s calls') → Same run run'
