use Rattle.std.proofs.Common.{Some, None, refl, arith}
use Rattle.quantity.specs.Fcr.{volume_of}
use Rattle.quantity.specs.FcrLaws.{tells_once, volume_tells}
use Rattle.quantity.proofs.fcr.Volume.of_tenths.Goals as goal

pub returns-then-tenths-gt10000 : goal.returns-then-tenths-gt10000
returns-then-tenths-gt10000 c = tells_once c.args.tenths None (volume_of c.args.tenths) (omega arith) (volume_tells c.args.tenths)

pub returns : goal.returns
returns c = tells_once c.args.tenths (Some _) (volume_of c.args.tenths) refl (volume_tells c.args.tenths)
