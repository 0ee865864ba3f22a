use Rattle.std.proofs.Common.{◌≡◌, ℕ, get_or, replicate, arith}
use Rattle.std.proofs.lemmas.List.{get_or-replicate, get_or_past, length-replicate}
use Rattle.limit_layer.specs.Limits.{limit_in, no_limits}
use Rattle.limit_layer.proofs.table.LimitTable.new.Goals as goal

-- within the table and past it
each_none : (n p d : ℕ) → limit_in (get_or (replicate n no_limits) p no_limits) d ≡ 0
each_none n p d = grind (arith, get_or-replicate, get_or_past, length-replicate)

pub returns : goal.returns
returns c = each_none 32
