-- `put_digits` meets its contract: the digits in front are those of a tenth of the number.
use Rattle.line.proofs.+put_digits.Given as goal

abbrev pub decreases-put_digits : goal.decreases-put_digits
decreases-put_digits l = l.n
