-- Sums of money stand for whole numbers of cents and show the laws of a quantity.
use Rattle.std.specs.Prelude.{◌≡◌, ◌<◌, ◌≤◌, Bool, true, false, leb, ℤ, pos, ◌+ℤ◌, ◌-ℤ◌, Some, None, Option, MatchOption, ◌≢◌, nat_le, unsigned_abs, refl}
use Rattle.std.proofs.Common.{ap, arith, leb-false}
use mathlib.Core.HLevel.{is_prop→PathP}
use Rattle.std.proofs.Math.Bridge.{le_prop}
use Rattle.std.proofs.lemmas.Int.{ints}
use Rattle.std.specs.Option.{unwrap_or}
use Rattle.std.specs.Ordering.{int_eq}
use Rattle.std.specs.Cmp.{signed_Decides}
use Rattle.quantity.specs.Measure.{Measure, Sum, Rest}
use Rattle.move_tests.specs.declared.cents.Cents.{Cents}
use Rattle.move_tests.specs.Money.{cents_by, cents_of, no_cents, cents_sum, cents_left, cents_told}

-- two sums of equal cents are one value
pub same_cents : (v w : Cents) → v.cents ≡ w.cents → v ≡ w
same_cents v w e = λ i. record { cents = e i; bounded = is_prop→PathP (λ j. unsigned_abs (e j) ≤ 1000000) (λ j. le_prop {n = unsigned_abs (e j)} {m = 1000000}) v.bounded w.bounded i }

-- o is the sum of n cents, or n is outside the bounds
abbrev pub Tells : ℤ → Option Cents → Type 0
Tells n o = MatchOption o (1000000 < unsigned_abs n) (λ v. v.cents ≡ n)

by_tells : (n : ℤ) (b : Bool) (e : leb (unsigned_abs n) 1000000 ≡ b) → Tells n (cents_by n b e)
unfolding cents_by
by_tells n true e = refl
by_tells n false e = leb-false (unsigned_abs n) 1000000 e

pub cents_tells : (n : ℤ) → Tells n (cents_of n)
unfolding cents_of
cents_tells n = by_tells n (nat_le (unsigned_abs n) 1000000) refl

-- there is only one such answer
pub tells_once : (n : ℤ) (o p : Option Cents) → Tells n o → Tells n p → o ≡ p
tells_once n (Some v) (Some w) h k = ap Some (same_cents v w (cc (h, k)))
tells_once n (Some v) None h k = absurd (omega (arith, ap unsigned_abs h, k, v.bounded))
tells_once n None (Some w) h k = absurd (omega (arith, h, ap unsigned_abs k, w.bounded))
tells_once n None None h k = refl

abbrev pub Bounded : ℤ → Type 0
Bounded n = unsigned_abs n ≤ 1000000

abbrev pub amount_of : Cents → ℤ
amount_of v = v.cents

pub sum_tells : (a b : Cents) (o : Option Cents) → Tells (a.cents +ℤ b.cents) o → Sum ◌+ℤ◌ Bounded amount_of a b o
sum_tells a b (Some c) h = h
sum_tells a b None h = λ f. omega (arith, h, f)

pub left_tells : (a b : Cents) (o : Option Cents) → Tells (a.cents -ℤ b.cents) o → Rest ◌+ℤ◌ Bounded amount_of a b o
left_tells a b (Some c) h = omega (arith, ints)
left_tells a b None h = λ c f k. let e : c ≡ a.cents -ℤ b.cents = omega (arith, ints) in omega (arith, h, f, ap unsigned_abs e)

pub row_tells : (r : ℤ) → ((v : Cents) → v.cents ≢ r) → (o : Option Cents) → Tells r o → (unwrap_or o no_cents).cents ≡ pos 0
row_tells r n (Some v) h = absurd (n v h)
row_tells r n None h = refl

abbrev pub cents_measure : Measure Cents ℤ
cents_measure = record {
  Amount = ℤ;
  none = pos 0;
  plus = ◌+ℤ◌;
  Fits = Bounded;
  amount = amount_of;
  nothing = no_cents;
  joined = cents_sum;
  remaining = cents_left;
  alike = λ a b. int_eq a.cents b.cents;
  row = λ v. v.cents;
  told = cents_told;
  neutral = λ a. omega (arith, ints);
  commutes = λ a b. omega (arith, ints);
  groups = λ a b c. omega (arith, ints);
  cancels = λ a b c h. omega (arith, ints);
  fitting = λ v. v.bounded;
  nothing_none = refl;
  joins = λ a b. sum_tells a b (cents_sum a b) (cents_tells (a.cents +ℤ b.cents));
  remains = λ a b. left_tells a b (cents_left a b) (cents_tells (a.cents -ℤ b.cents));
  alike_same = λ a b. (signed_Decides a.cents b.cents).0;
  same_alike = λ a b. (signed_Decides a.cents b.cents).1;
  row_told = λ v. ap (λ (o : Option Cents). (unwrap_or o no_cents).cents) (tells_once v.cents (cents_of v.cents) (Some v) (cents_tells v.cents) refl);
  no_row_none = λ r n. row_tells r n (cents_of r) (cents_tells r);
}
