-- What stands for each provider in each quarter.
use Rattle.std.specs.Prelude.{ℕ, zero, suc, ◌+◌, Bool, cond, ◌&&◌, ◌==◌, nat_lt}
use Rattle.quantity.specs.Measure.{Measure, is_zero}

-- a table over providers and quarters
abbrev pub Grid : Type 0 → Type 0
Grid A = ℕ → ℕ → A

-- the providers 0 to 31 and the quarters 0 to 99
abbrev pub in_range : ℕ → ℕ → Bool
in_range p t = nat_lt p 32 && nat_lt t 100

-- the table with y for one provider in one quarter
unfoldable pub put : {A : Type 0} → Grid A → ℕ → ℕ → A → Grid A
put g p t y = λ x u. cond (x == p && u == t) y (g x u)

-- f 0 + .. + f (n - 1)
unfoldable pub total : (ℕ → ℕ) → ℕ → ℕ
total f zero = 0
total f (suc n) = total f n + f n

module _ {Q R : Type 0} (m : Measure Q R) (held : Grid Q) where
  -- the amounts that holdings stand for
  unfoldable pub amounts : Grid m.Amount
  amounts = λ p t. m.amount (held p t)

  -- 0 for a zero holding, 1 for any other
  abbrev pub filled : ℕ → ℕ → ℕ
  filled p t = cond (is_zero m (held p t)) 0 1

  -- how many holdings of the range are not zero
  unfoldable pub taken : ℕ
  taken = total (λ p. total (filled p) 100) 32
