-- To whom a message goes: the list of a sender, and how far it gets.
use Rattle.std.specs.Prelude.{not, ◌&&◌, cond, List, ◌++◌, ℕ, eqb, take}
use Rattle.drive_sets.specs.Lists.{filter}
use Rattle.drive_sets.specs.Masks.{has}
use Rattle.runs.specs.Scenario.{Crash, stays, crashes, Scenario, frame, core_of}

-- a sender sends to the other core drives, rising, then to the listeners, rising; drives are those of the frame
abbrev pub receivers : List ℕ → ℕ → ℕ → List ℕ
receivers drives core d = filter (λ e. has e core && not (eqb e d)) drives ++ filter (λ e. not (has e core)) drives

unfoldable pub list_of : Scenario → ℕ → List ℕ
list_of s d = receivers (frame s) (core_of s) d

-- with a CR for this round, the first so many of them
unfoldable pub cut : Crash → ℕ → List ℕ → List ℕ
cut stays r l = l
cut (crashes q sends) r l = cond (eqb q r) (take sends l) l

-- the drives that a sender's message goes to in round r
unfoldable pub reach : Scenario → ℕ → ℕ → List ℕ
reach s r d = cut (s.crash d) r (list_of s d)
