use Rattle.std.proofs.Common.{rules}
use Rattle.quantity.proofs.WrittenLemmas.{parse_of_number, reads_volume}
use Rattle.quantity.proofs.reading.VolumeFromStr.from_str.Goals as goal

pub returns : goal.returns
returns c = reads_volume c.args.word.now c.in_ok-tenths.tenths c.of_tenths.result c.ok_or.result (search (rules, parse_of_number)) c.of_tenths.ensures c.ok_or.ensures.value
