use Rattle.plans.proofs.Refusing.{refuses_as_listed_lem}
use Rattle.plans.proofs.refuses_as_listed.Goals as goal

pub returns : goal.returns
returns c = refuses_as_listed_lem
