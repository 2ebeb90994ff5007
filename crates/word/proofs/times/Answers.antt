-- `word::times` is the definition at width 32: the whole product has 64 bits. Assumes nothing.
use Rattle.std.proofs.Common.{ℕ, ◌*◌, ◌^◌, ◌<◌, lt_of_le_of_lt, le_of_lt, mul-le-mul_left, mul-lt-mul_of_pos_right, pow_pos, rules}
use Rattle.model.specs.Word.{wrap, times}
use Rattle.word.proofs.times.Goals as goal

-- Two words have a product below 2^64.
product_fits : (a b : ℕ) → a < 2 ^ 32 → b < 2 ^ 32 → a * b < 2 ^ 32 * 2 ^ 32
product_fits a b ha hb = lt_of_le_of_lt (mul-le-mul_left a (le_of_lt hb)) (mul-lt-mul_of_pos_right ha (pow_pos 32))

pub returns : goal.returns
unfolding wrap times
returns c = search rules
