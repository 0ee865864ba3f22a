-- Where the blocks of a day end, and which of them has a quarter.
use Rattle.std.proofs.Common.{◌≡◌, ℕ, zero, suc, ◌+◌, ◌<◌, ◌≤◌, eqb, arith}
use Rattle.std.proofs.lemmas.Bool.Decides.{nat_tests}
use Rattle.awards.specs.Blocks.{first_of_block, end_of_block, last_of_block, count_of_block, block_of, in_block}

pub last_end : (quarters b : ℕ) → 80 < quarters → last_of_block quarters b + 1 ≡ end_of_block quarters b
last_end quarters zero h = omega arith
last_end quarters (suc b) h = grind (arith, nat_tests)

pub count_end : (quarters b : ℕ) → 80 < quarters → first_of_block quarters b + count_of_block quarters b ≡ end_of_block quarters b
count_end quarters zero h = omega arith
count_end quarters (suc b) h = grind (arith, nat_tests)

pub block_ends : (quarters b : ℕ) → 80 ≤ quarters → end_of_block quarters b ≤ quarters
block_ends quarters zero h = omega arith
block_ends quarters (suc b) h = grind (arith, nat_tests)

pub block_has : (quarters t b : ℕ) → b < 6 → eqb (block_of quarters t) b ≡ in_block quarters b t
block_has quarters t zero h = grind (arith, nat_tests)
block_has quarters t (suc b) h = grind (arith, nat_tests)
