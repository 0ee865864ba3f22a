-- How a line counts.
use Rattle.std.specs.Prelude.{ℕ, ◌+◌, ◌-◌, ◌^◌, min, Ok, Err, Result}
use Rattle.console.specs.declared.fault.Fault.{Fault}
use Rattle.console.specs.declared.fault.Fault.TheVariants.{Malformed, Refused}
use Rattle.console.specs.declared.session.Tally.{Tally}

-- one more, up to the largest number of 64 bits
abbrev pub one_more : ℕ → ℕ
one_more n = min (n + 1) (2 ^ 64 - 1)

-- a tally with one line more, by what the line came to
abbrev pub counted : {T : Type 0} → Tally → Result T Fault → Tally
counted tally (Ok done) = record tally { taken = one_more tally.taken }
counted tally (Err (Refused not_done)) = record tally { refused = one_more tally.refused }
counted tally (Err (Malformed what)) = record tally { not_understood = one_more tally.not_understood }
