-- Symbol lists packed into numbers. The symbols of a term, a rising list of at most 4 symbols below 127, are the digits of one
-- number to the base 128, each symbol x as the digit x + 1, the first symbol most significant. So no digit is 0, a shorter list is a
-- smaller number, and lists of one length compare as 01 orders them, "by first differing symbol, the lower first". Assumes nothing.
use Rattle.std.specs.Prelude.{ℕ, zero, suc, ◌+◌, ◌*◌, ◌/◌, ◌%◌, ◌<◌, cond, List, [], ◌∷◌, leb, ltb, eqb, Option, Some, None}

-- Every symbol of a list has a digit.
unfoldable pub Small : List ℕ → Type 0
Small [] = Unit {0}
Small (x ∷ l) = (x < 127) × Small l

-- The digits of a list behind those of a number.
unfoldable pub pack_on : ℕ → List ℕ → ℕ
pack_on high [] = high
pack_on high (x ∷ l) = pack_on (high * 128 + (x + 1)) l

-- The number that a list is packed into.
unfoldable pub pack : List ℕ → ℕ
pack l = pack_on 0 l

-- The list of one symbol, packed; 0 for a symbol that has no digit.
unfoldable pub symbol_of : ℕ → ℕ
symbol_of x = cond (ltb x 127) (pack (x ∷ [])) 0

-- How many digits a number has, and 5 for every number of more than 4.
unfoldable pub count_of : ℕ → ℕ
count_of a =
    cond
    (ltb a 1)
    0
    (cond (ltb a 128) 1 (cond (ltb a 16384) 2 (cond (ltb a 2097152) 3 (cond (ltb a 268435456) 4 5))))

-- The digits of two numbers as those of one, with fuel for each digit: the greater of the two last digits comes last.
unfoldable pub merge_in : ℕ → ℕ → ℕ → ℕ
merge_in zero a b = b
merge_in (suc n) a b =
    let first = merge_in n (a / 128) b in
    let second = merge_in n a (b / 128) in
    cond (eqb a 0) b (cond (ltb (a % 128) (b % 128)) (second * 128 + b % 128) (first * 128 + a % 128))

-- The digits of two numbers, of at most 4 together, as those of one: of packed rising lists, the packed merge of both.
unfoldable pub merge_of : ℕ → ℕ → ℕ
merge_of a b = merge_in 4 a b

-- What the merge of two packed lists is: the packed list of both, unless that has too many symbols.
unfoldable pub merged_of : ℕ → ℕ → Option ℕ
merged_of a b = cond (leb (count_of a + count_of b) 4) (Some (merge_of a b)) None
