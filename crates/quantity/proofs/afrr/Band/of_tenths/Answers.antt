use Rattle.std.proofs.Common.{Some, None, refl, arith}
use Rattle.quantity.specs.Afrr.{band_of}
use Rattle.quantity.specs.AfrrLaws.{tells_once, band_tells}
use Rattle.quantity.proofs.afrr.Band.of_tenths.Goals as goal

pub returns-then-up-gt10000 : goal.returns-then-up-gt10000
returns-then-up-gt10000 c = tells_once c.args.up c.args.down None (band_of c.args.up c.args.down) (λ h k. omega arith) (band_tells c.args.up c.args.down)

pub returns : goal.returns
returns c = tells_once c.args.up c.args.down (Some _) (band_of c.args.up c.args.down) (refl, refl) (band_tells c.args.up c.args.down)
