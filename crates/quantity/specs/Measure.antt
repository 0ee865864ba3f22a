-- What a quantity stands for: an element of a set with a sum and a zero, of which some fit.
use Rattle.std.specs.Prelude.{◌≡◌, Bool, true, Some, None, Option, ◌≢◌}

module _ {Q Amount : Type 0} (plus : Amount → Amount → Amount) (Fits : Amount → Type 0) (amount : Q → Amount) where
  -- the answer to joining a and b: their sum, or none because it does not fit
  abbrev pub Sum : Q → Q → Option Q → Type 0
  Sum a b (Some c) = amount c ≡ plus (amount a) (amount b)
  Sum a b None = Fits (plus (amount a) (amount b)) → ⊥

  -- the answer for the remainder of a after b: the c with b + c = a, or none because no such c fits
  abbrev pub Rest : Q → Q → Option Q → Type 0
  Rest a b (Some c) = plus (amount b) (amount c) ≡ amount a
  Rest a b None = (c : Amount) → Fits c → plus (amount b) c ≢ amount a

-- Q are the quantities, R their rows
pub record Measure (Q R : Type 0) : Type 1 where
  -- the set, which may be larger than what fits
  pub Amount : Type 0
  pub none : Amount
  pub plus : Amount → Amount → Amount
  pub Fits : Amount → Type 0
  -- the element that a quantity stands for
  pub amount : Q → Amount
  -- what the calls of a quantity answer
  pub nothing : Q
  pub joined : Q → Q → Option Q
  pub remaining : Q → Q → Option Q
  pub alike : Q → Q → Bool
  pub row : Q → R
  pub told : R → Q
  -- the laws of the set
  pub neutral : (a : Amount) → plus none a ≡ a
  pub commutes : (a b : Amount) → plus a b ≡ plus b a
  pub groups : (a b c : Amount) → plus (plus a b) c ≡ plus a (plus b c)
  pub cancels : (a b c : Amount) → plus a b ≡ plus a c → b ≡ c
  -- the laws of the calls
  pub fitting : (q : Q) → Fits (amount q)
  pub nothing_none : amount nothing ≡ none
  pub joins : (a b : Q) → Sum plus Fits amount a b (joined a b)
  pub remains : (a b : Q) → Rest plus Fits amount a b (remaining a b)
  pub alike_same : (a b : Q) → alike a b ≡ true → amount a ≡ amount b
  pub same_alike : (a b : Q) → amount a ≡ amount b → alike a b ≡ true
  pub row_told : (q : Q) → amount (told (row q)) ≡ amount q
  pub no_row_none : (r : R) → ((q : Q) → row q ≢ r) → amount (told r) ≡ none

-- whether a quantity stands for zero
abbrev pub is_zero : {Q R : Type 0} → Measure Q R → Q → Bool
is_zero m q = m.alike q m.nothing
