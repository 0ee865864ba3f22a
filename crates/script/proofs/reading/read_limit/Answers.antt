use Rattle.std.proofs.Common.{refl}
use Rattle.script.proofs.Numbers.{parsed_number}
use Rattle.script.proofs.Taking.{taken_then}
use Rattle.script.proofs.reading.read_limit.Goals as goal

pub returns : goal.returns
returns c =
    let p = c.in_ok-provider.ensures in
    let t = c.in_ok-tenths in
    let is = t.ensures.digits in
    let direction = rw c.in_ok-direction.ensures.value at c.in_ok-next_word.ensures in
    (refl, (p.0, _, p.1, (is, parsed_number 32 _ t.tenths t.ensures.value.0 is), taken_then p.2 (taken_then direction c.in_ok-next_word-2.ensures)))
