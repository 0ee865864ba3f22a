use Rattle.bureau.proofs.Lawful.{desks_keep}
use Rattle.bureau.proofs.bureau.Bureau.perform.Goals as goal

pub returns-clause-law : goal.returns-clause-law
returns-clause-law g c = desks_keep _ _ _ _ _ _ _ _ c.make.ensures
