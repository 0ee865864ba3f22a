-- What it says of the parts of a list that nothing is refused.
use Rattle.std.proofs.Common.{◌≡◌, List, ◌∷◌, ◌++◌, None, Option, sym, ◌∙◌}
use Rattle.refusals.specs.declared.refusal.Refusal.{Refusal}
use Rattle.refusals.specs.First.{first_some}
use Rattle.refusals.proofs.Firsts.{none_both, front_clear, front_passes}

-- neither the front nor the rest refuses
pub fronts_none : (xs ys : List (Option Refusal)) → first_some (xs ++ ys) ≡ None → (first_some xs ≡ None) × (first_some ys ≡ None)
fronts_none xs ys e = let front = front_clear xs ys e in (front, sym (front_passes xs ys front) ∙ e)

-- neither of the first two refuses
pub two_pass : (o p : Option Refusal) (os : List (Option Refusal)) → first_some (o ∷ (p ∷ os)) ≡ None → (o ≡ None) × (p ≡ None)
two_pass o p os e = let w = none_both o (p ∷ os) e in (w.0, (none_both p os w.1).0)
