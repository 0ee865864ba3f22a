use Rattle.std.proofs.Common.{◌≡◌, ◌++◌, map, take, drop}
use Rattle.record_list.proofs.slots.fill.Given as goal

abbrev pub invariant-loop-slot : goal.invariant-loop-slot
invariant-loop-slot g l = l.slots ≡ map (λ _. l.e) (take l.slot-index l.initial.slots) ++ drop l.slot-index l.initial.slots
