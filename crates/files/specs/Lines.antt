-- The lines that the programs print: a couple of a run, the end of a run, an answer. 01, "Bench examples": "port then signed value per
-- line, then `end`, number, state, edges (a refused run only number, image, record)". Assumes nothing.
use Rattle.std.specs.Prelude.{ℕ, ◌+◌, ◌≤◌, ◌≡◌, Bool, cond, List, [], ◌∷◌, ◌++◌, leb, length, take}
use Rattle.model.specs.Word.{base, signed}
use Rattle.files.specs.Files.{decimal_of, printed_of, placed}

-- A number counts what stands in front of a list. The second part follows from the first; both are stated so that a part `&out[..n]` is
-- seen to be within.
abbrev pub Front : ℕ → List ℕ → Type 0
Front n l = (n ≤ length l) × (n ≡ length (take n l))

-- Three numbers in decimal with a space, 32, between them, and the line's end, 10: the line of an answer.
unfoldable pub three_of : ℕ → ℕ → ℕ → List ℕ
three_of a b c = decimal_of a ++ (32 ∷ (decimal_of b ++ (32 ∷ (decimal_of c ++ (10 ∷ [])))))

-- The line of a couple: the port, and the signed number of the word.
unfoldable pub couple_line : ℕ → ℕ → List ℕ
couple_line port x = decimal_of port ++ (32 ∷ (printed_of (signed base x) ++ (10 ∷ [])))

-- The line of a run's end: the bytes of `end `, and then the number, the state and the edges.
unfoldable pub end_line : ℕ → ℕ → ℕ → List ℕ
end_line number state edges = 101 ∷ 110 ∷ 100 ∷ 32 ∷ three_of number state edges

-- The lines of couples that stand in words one after the other; a lone last word is no couple.
unfoldable pub couple_lines : List ℕ → List ℕ
couple_lines [] = []
couple_lines (port ∷ []) = []
couple_lines (port ∷ x ∷ words) = couple_line port x ++ couple_lines words

-- Whether a buffer has room for a text from a place on.
unfoldable pub fits : ℕ → List ℕ → List ℕ → Bool
fits at text out = leb (at + length text) (length out)

-- The place behind a text that was stored from a place on, or that place where there is no room.
unfoldable pub behind : ℕ → List ℕ → List ℕ → ℕ
behind at text out = cond (fits at text out) (at + length text) at

-- The buffer with a text stored in it from a place on, or as it was where there is no room.
unfoldable pub appended : ℕ → List ℕ → List ℕ → List ℕ
appended at text out = cond (fits at text out) (placed at text out) out
