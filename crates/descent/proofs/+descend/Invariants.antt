-- `descend` ends: the measure is the number of steps that are left.
use Rattle.descent.proofs.+descend.Given as goal

abbrev pub decreases-descend : goal.decreases-descend
decreases-descend l = l.left
