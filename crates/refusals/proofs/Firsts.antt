-- The first refusal of a list, by its first entry or by its front; and a single condition.
use Rattle.std.proofs.Common.{◌≡◌, Bool, true, false, List, [], ◌∷◌, ◌++◌, Some, None, Option, refl, ap}
use Rattle.refusals.specs.First.{first_some, when}
use Rattle.refusals.specs.declared.refusal.Refusal.{Refusal}

pub pass : (o : Option Refusal) (os : List (Option Refusal)) → o ≡ None → first_some (o ∷ os) ≡ first_some os
pass o os e = ap (λ x. first_some (x ∷ os)) e

pub stop : (o : Option Refusal) (os : List (Option Refusal)) (r : Refusal) → o ≡ Some r → first_some (o ∷ os) ≡ Some r
stop o os r e = ap (λ x. first_some (x ∷ os)) e

pub alone : (o : Option Refusal) → first_some (o ∷ []) ≡ o
alone None = refl
alone (Some r) = refl

-- where nothing is refused, neither the first entry nor the others refuse
pub none_both : (o : Option Refusal) (os : List (Option Refusal)) → first_some (o ∷ os) ≡ None → (o ≡ None) × (first_some os ≡ None)
none_both None os e = (refl, e)
none_both (Some r) os e = (e, cc)

pub front_stops : (xs ys : List (Option Refusal)) (r : Refusal) → first_some xs ≡ Some r → first_some (xs ++ ys) ≡ Some r
front_stops [] ys r e = cc
front_stops (None ∷ xs) ys r e = front_stops xs ys r e
front_stops (Some x ∷ xs) ys r e = e

pub front_passes : (xs ys : List (Option Refusal)) → first_some xs ≡ None → first_some (xs ++ ys) ≡ first_some ys
front_passes [] ys e = refl
front_passes (None ∷ xs) ys e = front_passes xs ys e
front_passes (Some x ∷ xs) ys e = cc

-- where nothing is refused, the front refuses nothing
pub front_clear : (xs ys : List (Option Refusal)) → first_some (xs ++ ys) ≡ None → first_some xs ≡ None
front_clear [] ys e = refl
front_clear (None ∷ xs) ys e = front_clear xs ys e
front_clear (Some x ∷ xs) ys e = e

-- a condition that does not refuse does not hold
pub when_none : (b : Bool) (r : Refusal) → when b r ≡ None → b ≡ false
when_none true r e = cc
when_none false r e = refl
