-- Which quarters the six blocks of a day have: the first block those that the other five, of 16 quarters each, leave.
use Rattle.std.specs.Prelude.{ℕ, zero, suc, ◌+◌, ◌-◌, ◌*◌, ◌/◌, Bool, cond, ◌&&◌, nat_le, nat_lt}
use Rattle.span_moves.specs.Spans.{count}

-- the quarter at which a block starts
abbrev pub starts : ℕ → ℕ → ℕ
starts quarters zero = 0
starts quarters (suc b) = quarters - 80 + 16 * b

-- the first quarter of a block, and the first one after it; blocks from 6 on are the whole day
abbrev pub first_of_block : ℕ → ℕ → ℕ
first_of_block quarters b = cond (nat_lt b 6) (starts quarters b) 0

abbrev pub end_of_block : ℕ → ℕ → ℕ
end_of_block quarters b = cond (nat_lt b 6) (starts quarters (suc b)) quarters

abbrev pub last_of_block : ℕ → ℕ → ℕ
last_of_block quarters b = end_of_block quarters b - 1

-- how many quarters a block has
abbrev pub count_of_block : ℕ → ℕ → ℕ
count_of_block quarters b = count (first_of_block quarters b) (last_of_block quarters b)

-- the block of a quarter
abbrev pub block_of : ℕ → ℕ → ℕ
block_of quarters t = cond (nat_lt t (quarters - 80)) 0 ((t - (quarters - 80)) / 16 + 1)

-- whether a quarter is one of a block
abbrev pub in_block : ℕ → ℕ → ℕ → Bool
in_block quarters b t = nat_le (first_of_block quarters b) t && nat_lt t (end_of_block quarters b)
