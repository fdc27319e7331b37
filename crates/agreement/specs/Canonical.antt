-- The canonical order of calls of a scenario: all openings; in each round all sends, then all messages, then all
-- closes, by drive. And what it gives for a drive, which the code of the simulated exchange gives too.
use Rattle.std.specs.Prelude.{◌≡◌, List, [], ◌∷◌, ◌++◌, map, ℕ, zero, suc}
use Rattle.drive_sets.specs.Lists.{filter}
use Rattle.drive_sets.specs.Masks.{size}
use Rattle.drive_sets.specs.Refusals.{Outcome, refused, yields}
use Rattle.drive_states.specs.declared.Decision.{Decision}
use Rattle.drive_states.specs.declared.Decision.TheVariants.{Undecided, Decided}
use Rattle.drive_states.specs.Messages.{longest_message}
use Rattle.runs.specs.World.{Call, opens, sends, delivers, closes, World, nothing_open, decision_of}
use Rattle.agreement.specs.Document01.{apply_all, sending_of}
use Rattle.runs.specs.Scenario.{Scenario, frame, core_of}
use Rattle.agreement.specs.Sends.{reach}
use Rattle.runs.specs.Runs.{sender, closer, joined}
use Rattle.runs.specs.Statement.{Valid, Up}
use Rattle.agreement.specs.RoundEndings.{Ending, decides, undecided, ending_of}

-- room for the longest message
abbrev pub room : ℕ
room = longest_message

unfoldable pub opening_calls : Scenario → List Call
opening_calls s = map (λ d. opens d s.n s.sets d (s.proposal d)) (frame s)

unfoldable pub deliveries : Outcome (List ℕ) → List ℕ → List Call
deliveries (refused r) es = []
deliveries (yields bytes) es = map (λ e. delivers e bytes) es

-- the messages of these senders in round r
unfoldable pub message_calls : Scenario → ℕ → World → List ℕ → List Call
message_calls s r w [] = []
message_calls s r w (d ∷ ds) = deliveries (sending_of (w d) room 0) (reach s r d) ++ message_calls s r w ds

unfoldable pub round_calls : Scenario → ℕ → World → List Call
round_calls s r w =
    map (λ d. sends d room 0) (filter (sender s r w) (frame s))
    ++ (message_calls s r w (filter (sender s r w) (frame s))
    ++ map closes (filter (closer s r w) (frame s)))

-- the parts of so many rounds from round r on
unfoldable pub rounds_from : Scenario → ℕ → ℕ → World → List (List Call)
rounds_from s zero r w = []
rounds_from s (suc k) r w = round_calls s r w ∷ rounds_from s k (suc r) (apply_all w (round_calls s r w))

unfoldable pub canonical_rounds : Scenario → List (List Call)
canonical_rounds s = rounds_from s (size (core_of s)) 1 (apply_all nothing_open (opening_calls s))

unfoldable pub canonical : Scenario → List Call
canonical s = opening_calls s ++ joined (canonical_rounds s)

-- ---- what it gives

-- by the decision in its state after round r, or later
unfoldable pub ending_on : Decision → ℕ → Ending → Ending
ending_on Undecided r later = later
ending_on (Decided v) r later = decides v.0 r

-- the first of the rounds r, r + 1, .. that leaves the drive decided
unfoldable pub first_decision : ℕ → ℕ → World → List (List Call) → Ending
first_decision d r w [] = undecided
first_decision d r w (p ∷ ps) =
    let later = first_decision d (suc r) (apply_all w p) ps in
    ending_on (decision_of (apply_all w p d)) r later

-- how a drive that stays up ends in it
abbrev pub canonical_ending : Scenario → ℕ → Ending
canonical_ending s d = first_decision d 1 (apply_all nothing_open (opening_calls s)) (canonical_rounds s)

-- it is one of the runs, and gives what the simulated exchange gives
unfoldable pub CanonicalGives : Type 0
CanonicalGives = (s : Scenario) → Valid s → (d : ℕ) → Up s d → canonical_ending s d ≡ ending_of s (s.crash d) d
