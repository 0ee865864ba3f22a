-- Bands stand for pairs of whole numbers of tenths, of which those up to 10,000 fit, and show the laws of a quantity.
use Rattle.std.specs.Prelude.{◌≡◌, ℕ, ◌+◌, ◌-◌, ◌≤◌, Bool, true, false, cond, ◌&&◌, leb, Some, None, Option, MatchOption, ◌==◌, ◌≢◌, nat_le, refl}
use Rattle.std.proofs.Common.{ap, ⊎_elim, arith, leb-true, leb-false, eqb-true, eq-eqb}
use mathlib.Core.HLevel.{is_prop→PathP}
use Rattle.std.proofs.Math.Bridge.{le_prop}
use Rattle.std.proofs.lemmas.Bool.{and_parts, and_from, and_cases}
use Rattle.std.specs.Option.{unwrap_or}
use Rattle.quantity.specs.Measure.{Measure, Sum, Rest}
use Rattle.quantity.specs.declared.afrr.Band.{Band}
use Rattle.quantity.specs.declared.up_down.UpDown.{UpDown}
use Rattle.quantity.specs.Afrr.{band_by, band_of, no_band, band_sum, band_covers, band_left, band_row, band_told}

-- tenths up and tenths down
pub record Tenths : Type 0 where
  pub up : ℕ
  pub down : ℕ

abbrev pub both : Tenths → Tenths → Tenths
both a b = record { up = a.up + b.up; down = a.down + b.down }

pub record Within (a : Tenths) : Type 0 where
  pub up_within : a.up ≤ 10000
  pub down_within : a.down ≤ 10000

abbrev pub band_amount : Band → Tenths
band_amount v = record { up = v.up; down = v.down }

pub same_tenths : (a b : Tenths) → a.up ≡ b.up → a.down ≡ b.down → a ≡ b
same_tenths a b e f = λ i. record { up = e i; down = f i }

-- two bands of equal tenths are one value
pub same_band : (v w : Band) → v.up ≡ w.up → v.down ≡ w.down → v ≡ w
same_band v w e f =
    λ i.
    record {
      up = e i;
      down = f i;
      upward = is_prop→PathP (λ j. e j ≤ 10000) (λ j. le_prop {n = e j} {m = 10000}) v.upward w.upward i;
      downward = is_prop→PathP (λ j. f j ≤ 10000) (λ j. le_prop {n = f j} {m = 10000}) v.downward w.downward i;
    }

-- o is the band of u and d tenths, or they are too large for one
abbrev pub Tells : ℕ → ℕ → Option Band → Type 0
Tells u d o = MatchOption o (u ≤ 10000 → d ≤ 10000 → ⊥) (λ v. (v.up ≡ u) × (v.down ≡ d))

-- a conjunction of two tests u ≤ m and d ≤ n that is false
pub not_both : (u m d n : ℕ) → (nat_le u m && nat_le d n) ≡ false → u ≤ m → d ≤ n → ⊥
not_both u m d n e h k =
    ⊎_elim (λ (f : leb u m ≡ false). omega (arith, leb-false u m f, h)) (λ (f : leb d n ≡ false). omega (arith, leb-false d n f, k)) (and_cases (nat_le u m) (nat_le d n) e)

by_tells : (u d : ℕ) (b : Bool) (e : (nat_le u 10000 && nat_le d 10000) ≡ b) → Tells u d (band_by u d b e)
unfolding band_by
by_tells u d true e = (refl, refl)
by_tells u d false e = not_both u 10000 d 10000 e

pub band_tells : (u d : ℕ) → Tells u d (band_of u d)
unfolding band_of
band_tells u d = by_tells u d (nat_le u 10000 && nat_le d 10000) refl

-- there is only one such answer
pub tells_once : (u d : ℕ) (o p : Option Band) → Tells u d o → Tells u d p → o ≡ p
tells_once u d (Some v) (Some w) h k = ap Some (same_band v w (omega (arith, h.0, k.0)) (omega (arith, h.1, k.1)))
tells_once u d (Some v) None h k = absurd (k (omega (arith, h.0, v.upward)) (omega (arith, h.1, v.downward)))
tells_once u d None (Some w) h k = absurd (h (omega (arith, k.0, w.upward)) (omega (arith, k.1, w.downward)))
tells_once u d None None h k = refl

pub sum_tells : (a b : Band) (o : Option Band) → Tells (a.up + b.up) (a.down + b.down) o → Sum both Within band_amount a b o
sum_tells a b (Some c) h = same_tenths _ _ h.0 h.1
sum_tells a b None h = λ f. h f.up_within f.down_within

pub left_tells : (a b : Band) (x : Bool) → band_covers a b ≡ x → (o : Option Band) → Tells (a.up - b.up) (a.down - b.down) o → Rest both Within band_amount a b (cond x o None)
left_tells a b true e (Some c) h =
    let p = and_parts (nat_le b.up a.up) (nat_le b.down a.down) e in
    same_tenths _ _ (omega (arith, h.0, leb-true b.up a.up p.0)) (omega (arith, h.1, leb-true b.down a.down p.1))
left_tells a b true e None h = λ c f k. h (omega (arith, a.upward)) (omega (arith, a.downward))
left_tells a b false e o h =
    λ c f k. not_both b.up a.up b.down a.down e (omega (arith, ap (λ (t : Tenths). t.up) k)) (omega (arith, ap (λ (t : Tenths). t.down) k))

pub row_tells : (r : UpDown ℕ) → ((v : Band) → band_row v ≢ r) → (o : Option Band) → Tells r.up r.down o → band_amount (unwrap_or o no_band) ≡ record { up = 0; down = 0 }
row_tells r n (Some v) h = absurd (n v (λ i. record { up = h.0 i; down = h.1 i }))
row_tells r n None h = refl

abbrev pub band_alike : Band → Band → Bool
band_alike a b = a.up == b.up && a.down == b.down

pub alike_same : (a b : Band) → band_alike a b ≡ true → band_amount a ≡ band_amount b
alike_same a b h =
    let p = and_parts (a.up == b.up) (a.down == b.down) h in
    same_tenths _ _ (eqb-true a.up b.up p.0) (eqb-true a.down b.down p.1)

pub same_alike : (a b : Band) → band_amount a ≡ band_amount b → band_alike a b ≡ true
same_alike a b h =
    and_from (a.up == b.up) (a.down == b.down) (eq-eqb a.up b.up (ap (λ (t : Tenths). t.up) h)) (eq-eqb a.down b.down (ap (λ (t : Tenths). t.down) h))

abbrev pub band_measure : Measure Band (UpDown ℕ)
band_measure = record {
  Amount = Tenths;
  none = record { up = 0; down = 0 };
  plus = both;
  Fits = Within;
  amount = band_amount;
  nothing = no_band;
  joined = band_sum;
  remaining = band_left;
  alike = band_alike;
  row = band_row;
  told = band_told;
  neutral = λ a. same_tenths _ _ (omega arith) (omega arith);
  commutes = λ a b. same_tenths _ _ (omega arith) (omega arith);
  groups = λ a b c. same_tenths _ _ (omega arith) (omega arith);
  cancels = λ a b c h. same_tenths _ _ (omega (arith, ap (λ (t : Tenths). t.up) h)) (omega (arith, ap (λ (t : Tenths). t.down) h));
  fitting = λ v. record { up_within = v.upward; down_within = v.downward };
  nothing_none = refl;
  joins = λ a b. sum_tells a b (band_sum a b) (band_tells (a.up + b.up) (a.down + b.down));
  remains = λ a b. left_tells a b (band_covers a b) refl (band_of (a.up - b.up) (a.down - b.down)) (band_tells (a.up - b.up) (a.down - b.down));
  alike_same = alike_same;
  same_alike = same_alike;
  row_told = λ v. ap (λ (o : Option Band). band_amount (unwrap_or o no_band)) (tells_once v.up v.down (band_of v.up v.down) (Some v) (band_tells v.up v.down) (refl, refl));
  no_row_none = λ r n. row_tells r n (band_of r.up r.down) (band_tells r.up r.down);
}
