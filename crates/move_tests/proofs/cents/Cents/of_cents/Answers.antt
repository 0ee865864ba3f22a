use Rattle.std.proofs.Common.{Some, None, ap, arith, w32}
use Rattle.std.specs.Prelude.{unsigned_abs}
use Rattle.std.proofs.lemmas.Int.{to_z-of_z}
use Rattle.move_tests.specs.Money.{cents_of}
use Rattle.move_tests.specs.MoneyLaws.{tells_once, cents_tells}
use Rattle.move_tests.proofs.cents.Cents.of_cents.Goals as goal

pub returns-then-unsigned_abs-gt1000000 : goal.returns-then-unsigned_abs-gt1000000
returns-then-unsigned_abs-gt1000000 c = tells_once c.args.cents None (cents_of c.args.cents) (omega (arith, ap unsigned_abs (to_z-of_z w32 c.args.cents c.ranges.cents))) (cents_tells c.args.cents)

pub returns : goal.returns
returns c = tells_once c.args.cents (Some _) (cents_of c.args.cents) (to_z-of_z w32 c.args.cents c.ranges.cents) (cents_tells c.args.cents)
