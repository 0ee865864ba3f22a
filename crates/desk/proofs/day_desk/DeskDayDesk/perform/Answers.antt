use Rattle.std.proofs.Common.{w32, rules}
use Rattle.std.proofs.lemmas.Int.{to_z-of_z}
use Rattle.desk.proofs.Lawful.{lawful}
use Rattle.desk.proofs.day_desk.DeskDayDesk.perform.Goals as goal

pub returns-in-Open : goal.returns-in-Open
unfolding lawful
returns-in-Open g c = lawful (search rules)

pub returns-in-Award : goal.returns-in-Award
unfolding lawful
returns-in-Award g c = lawful (search rules)

pub returns-in-Announce : goal.returns-in-Announce
unfolding lawful
returns-in-Announce g c = lawful (search rules)

pub returns-in-Holding : goal.returns-in-Holding
unfolding lawful
returns-in-Holding g c = lawful (search rules)

pub returns-in-Missing : goal.returns-in-Missing
unfolding lawful
returns-in-Missing g c = lawful (search rules)

pub returns-in-Status : goal.returns-in-Status
unfolding lawful
returns-in-Status g c = lawful (search rules)

-- the minute is one number, as the code and the calls have it
pub returns-in-Gate : goal.returns-in-Gate
unfolding lawful
returns-in-Gate g c =
    let told = simp (to_z-of_z w32 c.in-Gate.minute (search rules)) at c.gate_step.ensures in
    lawful (search rules)
