-- `scope::classes::join` meets its contract: a merge is one pair more.
use Rattle.scope.proofs.Standing.{joins}
use Rattle.scope.proofs.classes.join.Goals as goal

pub returns : goal.returns
returns c = joins c.args.scope.states _ _ _ _ c.requires.1.0 c.requires.1.1.0 c.requires.1.1.1 c.merge.ensures
