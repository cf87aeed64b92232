-- `put_number` calls itself at a hundredth of the number. Assumes nothing.
use Rattle.desk.proofs.text.+put_number.Given as goal

abbrev pub decreases-put_number : goal.decreases-put_number
decreases-put_number l = l.n
