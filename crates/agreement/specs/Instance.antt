-- A scenario as an instance of the rounds: the chosen core of its table, its proposals, and the failure pattern that
-- its CRs make.
use Rattle.std.specs.Prelude.{Bool, not, ℕ, suc}
use Rattle.drive_sets.specs.Lists.{elem}
use Rattle.drive_sets.specs.Masks.{has}
use Rattle.runs.specs.Scenario.{Scenario, core_of, gone_by, has_crash}
use Rattle.agreement.specs.Sends.{reach}
use Rattle.sync_crash.specs.Rounds.{Instance}

abbrev pub instance_of : Scenario → Instance
instance_of s = record {
  n = s.n;
  core = λ d. has d (core_of s);
  proposal = s.proposal;
  alive = λ k d. not (gone_by (s.crash d) k);
  reach = λ k d e. elem e (reach s (suc k) d);
}

-- the drives with no CR
abbrev pub correct : Scenario → ℕ → Bool
correct s d = not (has_crash (s.crash d))
