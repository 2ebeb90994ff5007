-- Laws of the lines that are formed and appended to a text: how long a line is, which bytes make it, that it arrives in the text, also where
-- it is the whole of it, and that lines of couples follow one another. Assumes nothing.
use Prim.Native.Nat.{ℕ, zero, suc, ◌+◌, ◌*◌, ◌/◌, ◌≤◌, ◌<◌}
use mathlib.Core.Path.{◌≡◌, refl, sym, ◌∙◌, ap}
use mathlib.Core.List.{List, [], ◌∷◌, ◌++◌, append_assoc, append-nil}
use native.Mathlib.Omega.{arith}
use lib.ListN.{length, get_or, take, length-append}
use borrow.Author.Tests.{le-leb}
use Rattle.model.specs.Word.{base, signed}
use Rattle.files.specs.Files.{decimal_of, printed_of, placed}
use Rattle.files.specs.Lines.{Front, three_of, couple_line, end_line, couple_lines, fits, behind, appended}
use Rattle.std.specs.Fmt.{decimal}
use Rattle.files.proofs.Print.{decimal_own, length_word, printed_length, Put, put_front}
use Rattle.files.proofs.Storing.{front, Appended, length_placed}

-- Three words with their spaces and the line's end take at most 33 bytes.
pub length_three : (a b c : ℕ) → a < 4294967296 → b < 4294967296 → c < 4294967296 → length (three_of a b c) ≤ 33
unfolding three_of
length_three a b c h k l =
    let third = decimal_of c ++ (10 ∷ []) in
    let second = decimal_of b ++ (32 ∷ third) in
    let p = length-append (decimal_of c) (10 ∷ []) in
    let q = length-append (decimal_of b) (32 ∷ third) in
    let r = length-append (decimal_of a) (32 ∷ second) in
    omega (arith, length_word a h, length_word b k, length_word c l, p, q, r)

-- The line of an end takes at most 37 bytes.
pub length_end : (a b c : ℕ) → a < 4294967296 → b < 4294967296 → c < 4294967296 → length (end_line a b c) ≤ 37
unfolding end_line
length_end a b c h k l = omega (arith, length_three a b c h k l)

-- The line of a couple takes at most 23 bytes.
pub length_couple : (port x : ℕ) → port < 4294967296 → x < 4294967296 → length (couple_line port x) ≤ 23
unfolding couple_line
length_couple port x h k =
    let value = printed_of (signed base x) in
    let p = length-append value (10 ∷ []) in
    let q = length-append (decimal_of port) (32 ∷ (value ++ (10 ∷ []))) in
    omega (arith, length_word port h, printed_length x k, p, q)

-- The bytes of a couple's line, as they are put behind one another.
pub couple_pushed : (port x : ℕ) {l s t : List ℕ}
    → l ≡ []
    → s ≡ l ++ decimal port ++ 32 ∷ []
    → t ≡ s ++ printed_of (signed base x) ++ 10 ∷ []
    → port < 4294967296
    → t ≡ couple_line port x
unfolding couple_line
couple_pushed port x e f g h = g ∙ rw (f, e, decimal_own port (omega arith)) (simp append_assoc)

-- Those of three numbers with a space between them, behind what stood before.
pub three_pushed : (a b c : ℕ) (l : List ℕ) {s t u : List ℕ}
    → s ≡ l ++ decimal a ++ 32 ∷ []
    → t ≡ s ++ decimal b ++ 32 ∷ []
    → u ≡ t ++ decimal c ++ 10 ∷ []
    → a < 4294967296
    → b < 4294967296
    → c < 4294967296
    → u ≡ l ++ three_of a b c
unfolding three_of
three_pushed a b c l e f g h k m =
    g ∙ rw (f, e, decimal_own a (omega arith), decimal_own b (omega arith), decimal_own c (omega arith)) (simp append_assoc)

-- Where there is room, what is appended stands in the text.
pub appended_put : (at : ℕ) (s out : List ℕ) {r : ℕ} {out' : List ℕ} → Appended at s out r out' → at + length s ≤ length out → Put at s out r out'
unfolding behind appended fits
appended_put at s out p h =
    let e = le-leb (at + length s) (length out) h in
    (rw e at p.0, rw e at p.1)

-- What a place and a text are where a text was formed from the first place on.
abbrev pub Text : List ℕ → List ℕ → ℕ → List ℕ → Type 0
Text s text r text' = (r ≡ length s) × ((text' ≡ placed 0 s text) × Front r text')

-- A text that fits, from the first place on.
pub text_of_lem : (s text : List ℕ) {r : ℕ} {text' : List ℕ} → Put 0 s text r text' → length s ≤ length text → Text s text r text'
text_of_lem s text {r} {text'} p h =
    let n : length text' ≡ length text = ap length p.1 ∙ length_placed 0 s text in
    let q = put_front s text p in
    (q.0, (q.1, front r text' (omega (arith, q.0))))

-- The line of an answer from the first place on.
pub answer_text : (number image place : ℕ) (text : List ℕ) {r : ℕ} {text' : List ℕ}
    → Appended 0 (three_of number image place) text r text'
    → number < 4294967296
    → image < 4294967296
    → place < 4294967296
    → 33 ≤ length text
    → Text (three_of number image place) text r text'
answer_text number image place text q h k l m =
    let long = length_three number image place h k l in
    text_of_lem (three_of number image place) text (appended_put 0 (three_of number image place) text q (omega arith)) (omega arith)

-- The lines of one couple more.
pub lines_next : (words : List ℕ) (i : ℕ)
    → 2 * i + 1 < length words
    → couple_lines (take (2 * (i + 1)) words) ≡ couple_lines (take (2 * i) words) ++ couple_line (get_or words (2 * i) 0) (get_or words (2 * i + 1) 0)
unfolding couple_lines
lines_next [] i h = absurd (omega arith)
lines_next (port ∷ []) i h = absurd (omega arith)
lines_next (port ∷ x ∷ words) zero h = append-nil (couple_line port x)
lines_next (port ∷ x ∷ words) (suc i) h =
    let e : 2 * (suc i + 1) ≡ suc (suc (2 * (i + 1))) = omega arith in
    let f : 2 * suc i ≡ suc (suc (2 * i)) = omega arith in
    let g : suc (suc (2 * i)) + 1 ≡ suc (suc (2 * i + 1)) = omega arith in
    let n = lines_next words i (omega arith) in
    rw (e, f, g) (ap (λ (l : List ℕ). couple_line port x ++ l) n ∙ sym (append_assoc (couple_line port x) (couple_lines (take (2 * i) words)) _))

-- All whole couples are all lines.
pub lines_all : (words : List ℕ) → couple_lines (take (2 * (length words / 2)) words) ≡ couple_lines words
unfolding couple_lines
lines_all [] = refl
lines_all (port ∷ []) = refl
lines_all (port ∷ x ∷ words) =
    let e : 2 * (suc (suc (length words)) / 2) ≡ suc (suc (2 * (length words / 2))) = omega arith in
    rw e (ap (λ (l : List ℕ). couple_line port x ++ l) (lines_all words))
