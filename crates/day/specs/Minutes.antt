-- The minutes from which announcing and reconciling are over, and the gates open.
use Rattle.std.specs.Prelude.{ℤ, negsuc}
use Rattle.requests.specs.declared.finding.Joining.{Joining}
use Rattle.requests.specs.declared.finding.Joining.TheVariants.{Unresolved, NotBalanced}
use Rattle.gates.specs.declared.gate.Gate.{Gate}
use Rattle.gates.specs.declared.gate.Gate.TheVariants.{First, Second}

-- 13:30 and 14:00 on the day before
abbrev pub announcing_ends : ℤ
announcing_ends = negsuc 629

abbrev pub reconciling_ends : ℤ
reconciling_ends = negsuc 599

-- in the first stage every unresolved request may be joined, in the second only one that does not balance
abbrev pub deadline_of : Joining → ℤ
deadline_of Unresolved = announcing_ends
deadline_of NotBalanced = reconciling_ends

-- a gate opens when announcing or reconciling is over
abbrev pub opens_at : Gate → ℤ
opens_at First = announcing_ends
opens_at Second = reconciling_ends
