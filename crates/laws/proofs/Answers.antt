-- What the numbers of an answer tell: whether an award was taken, and at which place an announcement was.
use Rattle.std.proofs.Common.{◌≡◌, ℕ, Bool, false, ◌&&◌, eqb, List, get_or, Option, arith}
use Rattle.std.proofs.lemmas.Bool.Decides.{nat_tests}
use Rattle.refusals.specs.declared.refusal.Refusal.{Refusal}
use Rattle.day_calls.specs.Answers.{Said, Outcome, said, unless}
use Rattle.laws.specs.Volumes.{is_awarded, is_placed}

abbrev pub tells_awarded : List ℕ → Bool
tells_awarded ns = eqb (get_or ns 0 1) 0 && eqb (get_or ns 1 0) 2

abbrev pub tells_placed : ℕ → List ℕ → Bool
tells_placed k ns = eqb (get_or ns 0 1) 0 && (eqb (get_or ns 1 0) 3 && eqb (get_or ns 2 0) k)

module _ {Q : Type 0} where
  -- what holds of the numbers that were defined holds of the answer
  pub awarded_by : (r : Outcome Q) (s : Said Q) (b : Bool) → said r ≡ s → tells_awarded s.numbers ≡ b → is_awarded r ≡ b
  awarded_by r s b e t = grind (arith, nat_tests)

  pub placed_by : (k : ℕ) (r : Outcome Q) (s : Said Q) (b : Bool) → said r ≡ s → tells_placed k s.numbers ≡ b → is_placed k r ≡ b
  placed_by k r s b e t = grind (arith, nat_tests)

  -- a call that is refused, or whose answer tells no award, takes no award; and so for a place
  pub unless_award : (o : Option Refusal) (s : Said Q) → tells_awarded s.numbers ≡ false → tells_awarded (unless o s).numbers ≡ false
  unless_award o s t = grind (arith, nat_tests)

  pub unless_place : (k : ℕ) (o : Option Refusal) (s : Said Q) → tells_placed k s.numbers ≡ false → tells_placed k (unless o s).numbers ≡ false
  unless_place k o s t = grind (arith, nat_tests)
