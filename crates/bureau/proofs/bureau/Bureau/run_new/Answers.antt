use Rattle.bureau.proofs.Runs.{ran_new}
use Rattle.bureau.proofs.bureau.Bureau.run_new.Goals as goal

pub returns-clause-ran : goal.returns-clause-ran
returns-clause-ran g c = ran_new _ _ _ _ _ _ c.new-bureau.ensures c.run-made.ensures.ran
