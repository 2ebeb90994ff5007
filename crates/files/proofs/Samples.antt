-- The definitions at a few files, texts and words, by computation. Assumes nothing.
use mathlib.Core.Path.{◌≡◌, refl}
use mathlib.Core.List.{[], ◌∷◌}
use Rattle.model.specs.Word.{base, signed}
use Rattle.files.specs.Files.{words_of, by_fit, taken_of, filled_of, digits, value_on, value_of, number_of, decimal_in, decimal_of, printed_of, placed}
use Rattle.files.specs.Lines.{three_of, couple_line, end_line, fits, behind, appended}
use Rattle.std.specs.Prelude.{Some, None, Err}
use Rattle.files.specs.declared.Unfit.TheVariants.{Ragged, TooLong}

-- Eight bytes are the words 513 and 4294967290, and the third word of the buffer stays.
pub two_words : filled_of (1 ∷ 2 ∷ 0 ∷ 0 ∷ 250 ∷ 255 ∷ 255 ∷ 255 ∷ []) (7 ∷ 8 ∷ 9 ∷ []) ≡ 513 ∷ 4294967290 ∷ 9 ∷ []
unfolding filled_of by_fit words_of
two_words = refl

-- Five bytes are no whole words, and two words are too many for a buffer of one.
pub refused : (taken_of (1 ∷ 2 ∷ 3 ∷ 4 ∷ 5 ∷ []) 9 ≡ Err Ragged) × (taken_of (1 ∷ 2 ∷ 3 ∷ 4 ∷ 5 ∷ 6 ∷ 7 ∷ 8 ∷ []) 1 ≡ Err TooLong)
unfolding taken_of by_fit
refused = (refl, refl)

-- `0042` is 42, `4294967295` the greatest word, and `4294967296`, `4x` and the empty text are no words.
pub numbers : (number_of (48 ∷ 48 ∷ 52 ∷ 50 ∷ []) ≡ Some 42)
    × (number_of (52 ∷ 50 ∷ 57 ∷ 52 ∷ 57 ∷ 54 ∷ 55 ∷ 50 ∷ 57 ∷ 53 ∷ []) ≡ Some 4294967295)
    × (number_of (52 ∷ 50 ∷ 57 ∷ 52 ∷ 57 ∷ 54 ∷ 55 ∷ 50 ∷ 57 ∷ 54 ∷ []) ≡ None)
    × (number_of (52 ∷ 120 ∷ []) ≡ None)
    × (number_of [] ≡ None)
unfolding number_of digits value_of value_on
numbers = (refl, refl, refl, refl, refl)

-- The word 4294967290 is printed as `-6`, 0 as `0`, and 2147483647 and 2147483648 at their full length.
pub texts : (printed_of (signed base 4294967290) ≡ 45 ∷ 54 ∷ [])
    × (printed_of (signed base 0) ≡ 48 ∷ [])
    × (printed_of (signed base 2147483647) ≡ 50 ∷ 49 ∷ 52 ∷ 55 ∷ 52 ∷ 56 ∷ 51 ∷ 54 ∷ 52 ∷ 55 ∷ [])
    × (printed_of (signed base 2147483648) ≡ 45 ∷ 50 ∷ 49 ∷ 52 ∷ 55 ∷ 52 ∷ 56 ∷ 51 ∷ 54 ∷ 52 ∷ 56 ∷ [])
unfolding printed_of signed decimal_of decimal_in
texts = (refl, refl, refl, refl)

-- The couple of port 1 and the word 4294967290 is the line `1 -6`, the sample run's end the line `end 22 0 4`, and an acceptance `0 0 0`.
pub lines : (couple_line 1 4294967290 ≡ 49 ∷ 32 ∷ 45 ∷ 54 ∷ 10 ∷ [])
    × (end_line 22 0 4 ≡ 101 ∷ 110 ∷ 100 ∷ 32 ∷ 50 ∷ 50 ∷ 32 ∷ 48 ∷ 32 ∷ 52 ∷ 10 ∷ [])
    × (three_of 0 0 0 ≡ 48 ∷ 32 ∷ 48 ∷ 32 ∷ 48 ∷ 10 ∷ [])
unfolding couple_line end_line three_of printed_of signed decimal_of decimal_in
lines = (refl, refl, refl)

-- A line of four bytes is appended behind the first of a text of five, and not behind the second.
pub appends : (appended 1 (1 ∷ 2 ∷ 3 ∷ 4 ∷ []) (9 ∷ 9 ∷ 9 ∷ 9 ∷ 9 ∷ []) ≡ 9 ∷ 1 ∷ 2 ∷ 3 ∷ 4 ∷ [])
    × (behind 1 (1 ∷ 2 ∷ 3 ∷ 4 ∷ []) (9 ∷ 9 ∷ 9 ∷ 9 ∷ 9 ∷ []) ≡ 5)
    × (appended 2 (1 ∷ 2 ∷ 3 ∷ 4 ∷ []) (9 ∷ 9 ∷ 9 ∷ 9 ∷ 9 ∷ []) ≡ 9 ∷ 9 ∷ 9 ∷ 9 ∷ 9 ∷ [])
    × (behind 2 (1 ∷ 2 ∷ 3 ∷ 4 ∷ []) (9 ∷ 9 ∷ 9 ∷ 9 ∷ 9 ∷ []) ≡ 2)
unfolding appended behind fits placed
appends = (refl, refl, refl, refl)
