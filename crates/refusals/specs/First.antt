-- The first refusal of an ordered list of conditions.
use Rattle.std.specs.Prelude.{Bool, true, false, List, [], ◌∷◌, Some, None, Option}
use Rattle.refusals.specs.declared.refusal.Refusal.{Refusal}

abbrev pub first_some : List (Option Refusal) → Option Refusal
first_some [] = None
first_some (None ∷ os) = first_some os
first_some (Some refusal ∷ os) = Some refusal

-- the refusal where a condition holds
abbrev pub when : Bool → Refusal → Option Refusal
when true refusal = Some refusal
when false refusal = None

-- the new value where nothing is refused, else the old one
abbrev pub unless_refused : {A : Type 0} → Option Refusal → A → A → A
unless_refused None new old = new
unless_refused (Some refusal) new old = old
