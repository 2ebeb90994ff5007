-- The chip's words, over their width w; the base is 32.
-- 01: "Sums, differences, products and negations wrap modulo 2^32. Signed less takes words from 2^31 upwards as the word
-- minus 2^32." Every operation takes any number and gives a word of the width. Assumes nothing.
use Rattle.std.specs.Prelude.{ℕ, suc, ◌+◌, ◌-◌, ◌*◌, ◌/◌, ◌%◌, ◌^◌, Bool, cond, ltb, eqb, ℤ, pos, negsuc}
use Rattle.std.specs.Int.Signed.{lt_z}

-- The width of the base.
abbrev pub base : ℕ
base = 32

-- A number modulo 2^w.
unfoldable pub wrap : ℕ → ℕ → ℕ
wrap w x = x % 2 ^ w

-- The sum of two words.
unfoldable pub plus : ℕ → ℕ → ℕ → ℕ
plus w a b = wrap w (a + b)

-- The negation of a word.
unfoldable pub negated : ℕ → ℕ → ℕ
negated w a = wrap w (2 ^ w - wrap w a)

-- The difference of two words.
unfoldable pub minus : ℕ → ℕ → ℕ → ℕ
minus w a b = wrap w (a + (2 ^ w - wrap w b))

-- The product of two words.
unfoldable pub times : ℕ → ℕ → ℕ → ℕ
times w a b = wrap w (a * b)

-- The signed number of a word: from half of 2^w upwards it is the word minus 2^w (`negsuc n` is minus n + 1).
unfoldable pub signed : ℕ → ℕ → ℤ
signed w x = cond (ltb x (2 ^ w / 2)) (pos x) (negsuc (2 ^ w - suc x))

-- The three kinds of test.
pub data Kind : Type 0 where
  equal signed_less unsigned_less : Kind

-- The number that a state names a kind by.
unfoldable pub kind_number : Kind → ℕ
kind_number equal = 2
kind_number signed_less = 3
kind_number unsigned_less = 4

-- Whether a test is true of two words.
unfoldable pub holds : ℕ → Kind → ℕ → ℕ → Bool
holds w equal a b = eqb a b
holds w signed_less a b = lt_z (signed w a) (signed w b)
holds w unsigned_less a b = ltb a b
