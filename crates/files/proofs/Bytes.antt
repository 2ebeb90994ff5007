-- Laws of the words of a list of bytes: how many there are, which bytes each is made of, what one more store in front of a buffer does, and
-- what is lent behind them. Assumes nothing.
use Prim.Native.Nat.{ℕ, zero, suc, ◌+◌, ◌*◌, ◌/◌, ◌%◌, ◌≤◌, ◌<◌}
use mathlib.Core.Path.{◌≡◌, refl, sym, ◌∙◌, ap}
use mathlib.Core.List.{List, [], ◌∷◌, ◌++◌}
use native.Mathlib.Omega.{arith}
use native.Mathlib.Numerals.{add-one}
use lib.ListN.{length, get_or, take, drop, set, length-append, length-drop}
use lib.Seq.{paste-suc}
use Rattle.std.proofs.lemmas.Bool.Decides.{nat_tests}
use mir.Syntax.{w32}
use Rattle.std.specs.Prelude.{Result, Ok, Err}
use Rattle.std.specs.Int.{from_le_bytes}
use Rattle.std.specs.Result.{result_unwrap_or}
use Rattle.std.specs.Simd.{first_chunks}
use Rattle.files.specs.Files.{words_of, by_fit, taken_of, filled_of, lent_of}
use Rattle.files.specs.Lines.{Front}
use Rattle.files.proofs.Storing.{front}
use Rattle.files.specs.declared.Unfit.{Unfit}

-- There is a word for each four bytes.
pub length_words : (l : List ℕ) → length (words_of l) ≡ length l / 4
unfolding words_of
length_words [] = refl
length_words (b0 ∷ []) = refl
length_words (b0 ∷ b1 ∷ []) = refl
length_words (b0 ∷ b1 ∷ b2 ∷ []) = refl
length_words (b0 ∷ b1 ∷ b2 ∷ b3 ∷ l) =
    let h : length (words_of l) ≡ length l / 4 = length_words l in
    omega arith

-- Word i is the one of the i-th four bytes.
pub word_at : (l : List ℕ) (k i : ℕ) → i < k → 4 * k ≤ length l → get_or (words_of l) i 0 ≡ from_le_bytes w32 (get_or (first_chunks 4 k l) i [])
unfolding words_of
word_at [] (suc k) i h m = absurd (omega arith)
word_at (b0 ∷ []) (suc k) i h m = absurd (omega arith)
word_at (b0 ∷ b1 ∷ []) (suc k) i h m = absurd (omega arith)
word_at (b0 ∷ b1 ∷ b2 ∷ []) (suc k) i h m = absurd (omega arith)
word_at (b0 ∷ b1 ∷ b2 ∷ b3 ∷ l) (suc k) zero h m = omega arith
word_at (b0 ∷ b1 ∷ b2 ∷ b3 ∷ l) (suc k) (suc i) h m = word_at l k i (omega arith) (omega arith)
word_at l zero i h m = absurd (omega arith)

-- A store behind the first i elements of s adds its next element.
pub front_store : (s d : List ℕ) (i : ℕ) → i < length s → i < length d → set (take i s ++ drop i d) i (get_or s i 0) ≡ take (i + 1) s ++ drop (i + 1) d
front_store s d i h k =
    let z : 0 + i ≡ i = omega arith in
    let y : 0 + suc i ≡ suc i = omega arith in
    let p : 0 + i < length d = omega arith in
    rw add-one (simp (z, y) at (paste-suc d 0 s i 0 p h))

-- Taking words leaves a buffer as long as it was.
pub filled_length : (bytes out : List ℕ) → length (filled_of bytes out) ≡ length out
unfolding filled_of by_fit
filled_length bytes out =
    let n = length-append (words_of bytes) (drop (length bytes / 4) out) in
    grind (arith, nat_tests, length_words bytes, n, length-drop (length bytes / 4) out)

-- What is lent is within the room where the other number is.
pub lent_within : (other room : ℕ) (bytes : List ℕ) → other ≤ room → lent_of other (taken_of bytes room) ≤ room
unfolding lent_of taken_of by_fit
lent_within other room bytes h = grind (arith, nat_tests)

-- What is lent and what the buffer is where the words of the bytes were taken into it, the number `other` of words where there are none.
abbrev pub Lent : ℕ → List ℕ → List ℕ → ℕ → List ℕ → Type 0
Lent other bytes out r out' = (r ≡ lent_of other (taken_of bytes (length out))) × (out' ≡ filled_of bytes out) × Front r out'

-- Words are taken where the bytes are whole words, and no more than there is room for.
pub taken_whole : (l : List ℕ) (room n : ℕ) → taken_of l room ≡ Ok n → (length l % 4 ≡ 0) × (n ≡ length l / 4) × (n ≤ room)
unfolding taken_of by_fit
taken_whole l room n e = (grind (arith, nat_tests, e), grind (arith, nat_tests, e), grind (arith, nat_tests, e))

-- The words that were taken, or the other number, are lent, where the buffer has so many.

unwrapped : (r : Result ℕ Unfit) (other : ℕ) → result_unwrap_or r other ≡ lent_of other r
unfolding lent_of
unwrapped (Ok n) other = refl
unwrapped (Err e) other = refl

module _ (other : ℕ) (bytes out : List ℕ) {n : ℕ} {out' : List ℕ} {r : Result ℕ Unfit} (taken : r ≡ taken_of bytes (length out)) (filled : out' ≡ filled_of bytes out) where
  pub lent : n ≡ result_unwrap_or r other → n ≤ length out → Lent other bytes out n out'
  lent e h =
      let k : length out' ≡ length out = ap length filled ∙ filled_length bytes out in
      (e ∙ unwrapped r other ∙ ap (lent_of other) taken, filled, front n out' (omega arith))

  -- So they are where there is room for the other number, and wherever words were taken.
  pub lent_other : n ≡ result_unwrap_or r other → other ≤ length out → Lent other bytes out n out'
  lent_other e h =
      let p : n ≡ lent_of other (taken_of bytes (length out)) = e ∙ unwrapped r other ∙ ap (lent_of other) taken in
      lent e (omega (arith, p, lent_within other (length out) bytes h))

  pub lent_whole : r ≡ Ok n → Lent other bytes out n out'
  lent_whole e = lent (sym (ap (λ r. result_unwrap_or r other) e)) (taken_whole bytes (length out) n (sym taken ∙ e)).2
