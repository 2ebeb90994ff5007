-- Words of an image, one after another. Assumes nothing.
use Prim.Native.Nat.{ℕ, ◌+◌, ◌-◌, ◌<◌, ◌≤◌}
use mathlib.Core.Path.{◌≡◌, ◌∙◌, ap}
use mathlib.Core.List.{List, map}
use native.Mathlib.Omega.{arith}
use lib.ListN.{length, get_or, set, take, drop, length-set}
use Rattle.std.specs.List.{range_with_len}
use Rattle.std.proofs.lemmas.List.{get_or-take, get_or-drop, length-take-le, length-drop}
use Rattle.std.proofs.lemmas.List.FromFn.{fill_by_all}
use Rattle.std.proofs.lemmas.List.Edits.{fill_by_more}
use Rattle.model.specs.Answer.{word}

module _ (image : List ℕ) (at : ℕ) where
  -- Words that are within the image.
  pub words_copied : (n : ℕ) → at + n ≤ length image → take (at + n - at) (drop at image) ≡ map (λ k. word image (at + k)) (range_with_len 0 n)
  unfolding word
  words_copied n h =
      let z : at + n - at ≡ n = omega arith in
      ap (λ m. take m (drop at image)) z
      ∙ fill_by_all _ (take n (drop at image)) n 0 (length-take-le n (drop at image) (omega (arith, length-drop at image)))
      (λ k l. get_or-take n (drop at image) k 0 l ∙ get_or-drop at image k 0)

  -- One word more is written.
  pub words_more : (words : List ℕ) (k : ℕ) {n w : ℕ} → (length words ≡ n) × ((i : ℕ) → i < k → get_or words i 0 ≡ word image (at + i)) → k < n
      → w ≡ word image (at + k)
      → (length (set words k w) ≡ n) × ((i : ℕ) → i < k + 1 → get_or (set words k w) i 0 ≡ word image (at + i))
  words_more words k {n} {w} v h e =
      let long : length words ≡ n = v.0 in
      (length-set words k w ∙ long, λ i l. rw e (fill_by_more (λ j. word image (at + j)) words k 0 (omega arith) v.1 i l))
