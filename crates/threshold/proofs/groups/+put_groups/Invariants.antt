-- One group, or those without the last drive and then those with it: a call has one drive less.
use Rattle.threshold.proofs.groups.+put_groups.Given as goal

abbrev pub decreases-put_groups : goal.decreases-put_groups
decreases-put_groups l = l.n
