use Rattle.std.proofs.Common.{arith, length-set, length-take}
use Rattle.std.proofs.Math.Seq.{take-set-lt}
use Rattle.record_list.proofs.list.RecordListRecords.replace.Goals as goal

pub returns-then-found-clause-list : goal.returns-then-found-clause-list
returns-then-found-clause-list g c =
    record {
      contents_are = take-set-lt c.args.self.now.used c.args.self.now.slots.now c.args.place c.args.item (omega (arith, length-take c.args.self.now.used c.args.self.now.slots.now));
      places_stay = length-set c.args.self.now.slots.now c.args.place c.args.item;
    }
