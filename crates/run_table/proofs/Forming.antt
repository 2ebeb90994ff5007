-- Laws of the text that the program prints: lines of couples formed one after the other, and the end behind them. Assumes nothing.
use Prim.Native.Nat.{ℕ, zero, suc, ◌+◌, ◌*◌, ◌/◌, ◌≤◌, ◌<◌}
use mathlib.Core.Path.{◌≡◌, refl, ◌∙◌, ap}
use mathlib.Core.List.{List, [], ◌∷◌, ◌++◌}
use native.Mathlib.Omega.{arith}
use lib.ListN.{length, get_or, take, length-append}
use Rattle.std.specs.Simd.{first_chunks}
use Rattle.files.specs.Files.{placed}
use Rattle.files.specs.Lines.{couple_line, couple_lines, end_line}
use Rattle.files.proofs.Print.{Put, put_then, put_front}
use Rattle.files.proofs.Storing.{Appended, length_placed}
use Rattle.files.proofs.Lined.{length_couple, appended_put, Text, text_of_lem, lines_next, lines_all}
use Rattle.run_table.specs.Text.{end_text}

-- A text, first text₀ and now text, that holds the lines of the first i couples, of at most 23 bytes each.
pub record Forming (words text₀ text : List ℕ) (at i : ℕ) : Type 0 where
  pub little : at ≤ 23 * i
  pub long : length text ≡ length text₀
  pub so : Put 0 (couple_lines (take (2 * i) words)) text₀ at text

-- Before the first line the text is as it was.
pub forming_start : (words text : List ℕ) → Forming words text text 0 0
unfolding couple_lines placed
forming_start words text = record { little = omega arith; long = refl; so = (refl, refl) }

-- The i-th two words are those from 2 i on.
pub pair_at : (l : List ℕ) (k i : ℕ)
    → i < k
    → 2 * k ≤ length l
    → (get_or (get_or (first_chunks 2 k l) i []) 0 0 ≡ get_or l (2 * i) 0) × (get_or (get_or (first_chunks 2 k l) i []) 1 0 ≡ get_or l (2 * i + 1) 0)
pair_at l zero i h m = absurd (omega arith)
pair_at [] (suc k) i h m = absurd (omega arith)
pair_at (a ∷ []) (suc k) i h m = absurd (omega arith)
pair_at (a ∷ b ∷ l) (suc k) zero h m = (refl, refl)
pair_at (a ∷ b ∷ l) (suc k) (suc i) h m =
    let e : 2 * suc i ≡ suc (suc (2 * i)) = omega arith in
    let f : suc (suc (2 * i)) + 1 ≡ suc (suc (2 * i + 1)) = omega arith in
    rw (e, f) (pair_at l k i (omega arith) (omega arith))

-- One line more.
pub forming_step : {words text₀ text : List ℕ} {at i : ℕ} {r : ℕ} {text' : List ℕ}
    → Forming words text₀ text at i
    → 2 * i + 1 < length words
    → get_or words (2 * i) 0 < 4294967296
    → get_or words (2 * i + 1) 0 < 4294967296
    → 12 * length words ≤ length text₀
    → Appended at (couple_line (get_or words (2 * i) 0) (get_or words (2 * i + 1) 0)) text r text'
    → Forming words text₀ text' r (i + 1)
forming_step {words} {text₀} {text} {at} {i} f h k l room q =
    let s = couple_line (get_or words (2 * i) 0) (get_or words (2 * i + 1) 0) in
    let m = length_couple (get_or words (2 * i) 0) (get_or words (2 * i + 1) 0) k l in
    let t = appended_put at s text q (omega (arith, m, f.little, f.long)) in
    record {
      little = omega (arith, m, f.little, t.0);
      long = ap length t.1 ∙ length_placed at s text ∙ f.long;
      so = rw (lines_next words i h) (put_then 0 (couple_lines (take (2 * i) words)) s text₀ f.so t);
    }

-- After the last line the text holds the lines of all couples.
pub forming_end : {words text₀ text : List ℕ} {at i : ℕ}
    → Forming words text₀ text at i
    → length words / 2 ≤ i
    → i ≤ length words / 2
    → (at ≡ length (couple_lines words)) × ((text ≡ placed 0 (couple_lines words) text₀) × (at ≤ 12 * length words))
forming_end {words} {text₀} {text} {at} {i} f h k =
    let m : i ≡ length words / 2 = omega arith in
    let p : Put 0 (couple_lines (take (2 * (length words / 2)) words)) text₀ at text = rw m at f.so in
    let q = put_front (couple_lines words) text₀ (rw (lines_all words) at p) in
    (q.0, (q.1, omega (arith, f.little)))

-- The end behind the lines of the couples.
pub end_formed : (number state edges : ℕ) (words text : List ℕ) {at r : ℕ} {text₁ text₂ : List ℕ}
    → (at ≡ length (couple_lines words)) × ((text₁ ≡ placed 0 (couple_lines words) text) × (at ≤ 12 * length words))
    → Appended at (end_line number state edges) text₁ r text₂
    → 12 * length words + 37 ≤ length text
    → length (end_line number state edges) ≤ 37
    → Text (end_text number state edges words) text r text₂
unfolding end_text
end_formed number state edges words text {at} {r} {text₁} p q h k =
    let n : length text₁ ≡ length text = ap length p.1.0 ∙ length_placed 0 (couple_lines words) text in
    let t = appended_put at (end_line number state edges) text₁ q (omega (arith, p.1.1)) in
    let all = put_then 0 (couple_lines words) (end_line number state edges) text (omega (arith, p.0), p.1.0) t in
    text_of_lem (couple_lines words ++ end_line number state edges) text all
    (omega (arith, length-append (couple_lines words) (end_line number state edges), p.0, p.1.1))
