-- How many digits are left falls.
use Rattle.text.proofs.text.+put_in_base.Given as goal

abbrev pub decreases-put_in_base : goal.decreases-put_in_base
decreases-put_in_base l = l.most
