-- `scope::lets::test_lets` meets its contract: the count's place is left, then filled in.
use Rattle.scope.proofs.Uses.{lets_listed}
use Rattle.scope.proofs.lets.test_lets.Goals as goal

pub returns : goal.returns
returns c = λ b d. lets_listed c.put.ensures (c.use_test-lets.ensures b d) c.patch.ensures
