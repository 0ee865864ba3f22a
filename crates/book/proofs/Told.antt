-- The cause and the admission that their numbers tell.
use Rattle.std.proofs.Common.{◌≡◌, ℕ, cond, eqb, List, [], ◌∷◌, get_or, Some, None, sym, refl, ap, ◌∙◌, arith}
use Rattle.quantity.specs.declared.direction.Direction.TheVariants.{Up, Down}
use Rattle.book.specs.Admissions.{Admission}
use Rattle.book.specs.Numbers.{cause_number, admission_number}
use Rattle.book.specs.declared.answers.Cause.{Cause}
use Rattle.book.specs.declared.answers.Cause.TheVariants.{Limit}

-- the cause that a number with its values tells
abbrev pub cause_of : List ℕ → Cause
cause_of xs = Limit (get_or xs 1 0) (cond (eqb (get_or xs 2 0) 0) Up Down)

pub cause_again : (c : Cause) → cause_of (cause_number c) ≡ c
cause_again (Limit layer Up) = refl
cause_again (Limit layer Down) = refl

pub cause_once : (c d : Cause) → cause_number c ≡ cause_number d → c ≡ d
cause_once c d e = sym (cause_again c) ∙ (ap cause_of e ∙ cause_again d)

pub admission_yes : (a : Admission) → 0 ∷ [] ≡ admission_number a → a ≡ None
admission_yes None e = refl
admission_yes (Some cause) e = grind arith

pub admission_no : (a : Admission) (cause : Cause) → 1 ∷ cause_number cause ≡ admission_number a → (c : Cause) × (a ≡ Some c) × (cause_number cause ≡ cause_number c)
admission_no None cause e = absurd (let z : ◌≡◌ {A = ℕ} 0 1 = cc in omega arith)
admission_no (Some c) cause e = (c, refl, cc)

pub admission_once : (a b : Admission) → admission_number a ≡ admission_number b → a ≡ b
admission_once None None e = refl
admission_once None (Some d) e = grind arith
admission_once (Some c) None e = grind arith
admission_once (Some c) (Some d) e = ap Some (cause_once c d (cc))
