-- Volumes stand for whole numbers of tenths, of which those up to 10,000 fit, and show the laws of a quantity.
use Rattle.std.specs.Prelude.{◌≡◌, ℕ, ◌+◌, ◌-◌, ◌<◌, ◌≤◌, Bool, true, false, cond, leb, Some, None, Option, MatchOption, ◌==◌, ◌≢◌, nat_le, refl}
use Rattle.std.proofs.Common.{ap, arith, leb-true, leb-false, eqb-true, eq-eqb}
use mathlib.Core.HLevel.{is_prop→PathP}
use Rattle.std.proofs.Math.Bridge.{le_prop}
use Rattle.std.specs.Option.{unwrap_or}
use Rattle.quantity.specs.Measure.{Measure, Sum, Rest}
use Rattle.quantity.specs.declared.fcr.Volume.{Volume}
use Rattle.quantity.specs.Fcr.{volume_by, volume_of, no_volume, volume_sum, volume_left, volume_told}

-- two volumes of equal tenths are one value
pub same_volume : (v w : Volume) → v.tenths ≡ w.tenths → v ≡ w
same_volume v w e = λ i. record { tenths = e i; bounded = is_prop→PathP (λ j. e j ≤ 10000) (λ j. le_prop {n = e j} {m = 10000}) v.bounded w.bounded i }

-- o is the volume of n tenths, or n is too large for one
abbrev pub Tells : ℕ → Option Volume → Type 0
Tells n o = MatchOption o (10000 < n) (λ v. v.tenths ≡ n)

by_tells : (n : ℕ) (b : Bool) (e : leb n 10000 ≡ b) → Tells n (volume_by n b e)
unfolding volume_by
by_tells n true e = refl
by_tells n false e = leb-false n 10000 e

pub volume_tells : (n : ℕ) → Tells n (volume_of n)
unfolding volume_of
volume_tells n = by_tells n (nat_le n 10000) refl

-- there is only one such answer
pub tells_once : (n : ℕ) (o p : Option Volume) → Tells n o → Tells n p → o ≡ p
tells_once n (Some v) (Some w) h k = ap Some (same_volume v w (omega (arith, h, k)))
tells_once n (Some v) None h k = absurd (omega (arith, h, k, v.bounded))
tells_once n None (Some w) h k = absurd (omega (arith, h, k, w.bounded))
tells_once n None None h k = refl

pub sum_tells : (a b : Volume) (o : Option Volume) → Tells (a.tenths + b.tenths) o → Sum ◌+◌ (λ n. n ≤ 10000) (λ (v : Volume). v.tenths) a b o
sum_tells a b (Some c) h = h
sum_tells a b None h = λ f. omega (arith, h, f)

pub left_tells : (a b : Volume) (x : Bool) → nat_le b.tenths a.tenths ≡ x → (o : Option Volume) → Tells (a.tenths - b.tenths) o → Rest ◌+◌ (λ n. n ≤ 10000) (λ (v : Volume). v.tenths) a b (cond x o None)
left_tells a b true e (Some c) h = omega (arith, h, leb-true b.tenths a.tenths e)
left_tells a b true e None h = λ c f k. omega (arith, h, a.bounded)
left_tells a b false e o h = λ c f k. omega (arith, k, leb-false b.tenths a.tenths e)

pub row_tells : (r : ℕ) → ((v : Volume) → v.tenths ≢ r) → (o : Option Volume) → Tells r o → (unwrap_or o no_volume).tenths ≡ 0
row_tells r n (Some v) h = absurd (n v h)
row_tells r n None h = refl

abbrev pub volume_measure : Measure Volume ℕ
volume_measure = record {
  Amount = ℕ;
  none = 0;
  plus = ◌+◌;
  Fits = λ n. n ≤ 10000;
  amount = λ v. v.tenths;
  nothing = no_volume;
  joined = volume_sum;
  remaining = volume_left;
  alike = λ a b. (a.tenths == b.tenths);
  row = λ v. v.tenths;
  told = volume_told;
  neutral = λ a. omega arith;
  commutes = λ a b. omega arith;
  groups = λ a b c. omega arith;
  cancels = λ a b c h. omega arith;
  fitting = λ v. v.bounded;
  nothing_none = refl;
  joins = λ a b. sum_tells a b (volume_sum a b) (volume_tells (a.tenths + b.tenths));
  remains = λ a b. left_tells a b (nat_le b.tenths a.tenths) refl (volume_of (a.tenths - b.tenths)) (volume_tells (a.tenths - b.tenths));
  alike_same = λ a b h. eqb-true a.tenths b.tenths h;
  same_alike = λ a b h. eq-eqb a.tenths b.tenths h;
  row_told = λ v. ap (λ (o : Option Volume). (unwrap_or o no_volume).tenths) (tells_once v.tenths (volume_of v.tenths) (Some v) (volume_tells v.tenths) refl);
  no_row_none = λ r n. row_tells r n (volume_of r) (volume_tells r);
}
