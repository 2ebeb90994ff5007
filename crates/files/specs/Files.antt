-- What both programs read and print: the words of a file's bytes, low byte first, a decimal number in an argument, and a signed number
-- in decimal. 01, "The table image": "a file whose length isn't a multiple of four is refused 1 (table), 6 (correspondence) or 24 (input
-- words, also when over 8,192)". Assumes nothing.
use Rattle.std.specs.Prelude.{ℕ, zero, suc, ◌+◌, ◌-◌, ◌*◌, ◌/◌, ◌%◌, Bool, true, cond, ◌&&◌, List, [], ◌∷◌, ◌++◌, Option, Some, None, Result, Ok, Err, leb, ltb, eqb, ℤ, pos, negsuc, length, drop, set}
use Rattle.files.specs.declared.Unfit.{Unfit}
use Rattle.files.specs.declared.Unfit.TheVariants.{Ragged, TooLong}

-- The word of four bytes, the low byte first.
abbrev pub word_of : ℕ → ℕ → ℕ → ℕ → ℕ
word_of b0 b1 b2 b3 = b0 + 256 * b1 + 65536 * b2 + 16777216 * b3

-- The words of a list of bytes, four bytes each; fewer than four bytes left over are no word.
unfoldable pub words_of : List ℕ → List ℕ
words_of [] = []
words_of (b0 ∷ []) = []
words_of (b0 ∷ b1 ∷ []) = []
words_of (b0 ∷ b1 ∷ b2 ∷ []) = []
words_of (b0 ∷ b1 ∷ b2 ∷ b3 ∷ l) = word_of b0 b1 b2 b3 ∷ words_of l

-- One of three, by whether the bytes are whole words and, where they are, by whether the room has as many words.
unfoldable pub by_fit : {A : Type 0} → List ℕ → ℕ → A → A → A → A
by_fit bytes room whole ragged too_long =
    cond (eqb (length bytes % 4) 0) (cond (leb (length bytes / 4) room) whole too_long) ragged

-- What taking the words of the bytes into a room of so many words answers: a length that is no multiple of four, more words than the
-- room has, or how many words were taken.
unfoldable pub taken_of : List ℕ → ℕ → Result ℕ Unfit
taken_of bytes room = by_fit bytes room (Ok (length bytes / 4)) (Err Ragged) (Err TooLong)

-- What taking the words of the bytes leaves in the buffer: the words in front and the buffer's own words behind them, or the buffer as
-- it was where they were not taken.
unfoldable pub filled_of : List ℕ → List ℕ → List ℕ
filled_of bytes out = by_fit bytes (length out) (words_of bytes ++ drop (length bytes / 4) out) out out

-- How many words are lent after words were taken: those that were, or a number where none were.
unfoldable pub lent_of : ℕ → Result ℕ Unfit → ℕ
lent_of other (Ok n) = n
lent_of other (Err e) = other

-- Every byte of a text is a decimal digit: 48 is `0` and 57 is `9`.
unfoldable pub digits : List ℕ → Bool
digits [] = true
digits (b ∷ l) = (leb 48 b && leb b 57) && digits l

-- The number whose digits are those of a number and then those of a text.
unfoldable pub value_on : ℕ → List ℕ → ℕ
value_on high [] = high
value_on high (b ∷ l) = value_on (high * 10 + (b - 48)) l

-- The number that a text of digits writes, however large.
unfoldable pub value_of : List ℕ → ℕ
value_of l = value_on 0 l

-- The word that a text writes in decimal: none where the text is empty, has a byte that is no digit, or writes a number over 4294967295.
unfoldable pub number_of : List ℕ → Option ℕ
number_of l =
    cond (eqb (length l) 0) None (cond (digits l) (cond (leb (value_of l) 4294967295) (Some (value_of l)) None) None)

-- The digits of a number in decimal, the first most significant, with fuel for each digit.
unfoldable pub decimal_in : ℕ → ℕ → List ℕ
decimal_in zero n = []
decimal_in (suc f) n =
    let high = decimal_in f (n / 10) in
    cond (ltb n 10) ((48 + n) ∷ []) (high ++ ((48 + n % 10) ∷ []))

-- The digits of a number in decimal.
unfoldable pub decimal_of : ℕ → List ℕ
decimal_of n = decimal_in (suc n) n

-- A signed number as it is printed: its digits, behind the byte 45, `-`, where it is below 0 (`negsuc n` is minus n + 1).
unfoldable pub printed_of : ℤ → List ℕ
printed_of (pos n) = decimal_of n
printed_of (negsuc n) = 45 ∷ decimal_of (suc n)

-- A buffer with the bytes of a text stored in it from a place on, one after the other.
unfoldable pub placed : ℕ → List ℕ → List ℕ → List ℕ
placed at [] out = out
placed at (b ∷ text) out = placed (suc at) text (set out at b)
