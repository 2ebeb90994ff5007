-- Laws of a text that is stored in a buffer. Assumes nothing.
use Prim.Native.Nat.{ℕ, suc, ◌+◌, ◌≤◌, ◌<◌}
use mathlib.Core.Path.{◌≡◌, refl, sym, ◌∙◌, ap}
use mathlib.Core.List.{List, [], ◌∷◌, ◌++◌, append_assoc}
use lib.ListN.{length, take, drop, set, length-set}
use lib.Seq.{sets-eq, length-take-le}
use borrow.Author.Tests.{le-leb, lt-leb}
use native.Mathlib.Omega.{arith}
use Rattle.std.proofs.lemmas.Bool.Decides.{nat_tests}
use Rattle.files.specs.Files.{placed}
use Rattle.files.specs.Lines.{Front, fits, behind, appended}
use Rattle.files.proofs.Print.{placed_sets}

-- A number of at most a list's length counts what stands in front of it.
pub front : (n : ℕ) (l : List ℕ) → n ≤ length l → Front n l
front n l h = (h, sym (length-take-le n l h))

-- What a place and a buffer are where a text was appended to a buffer at a place.
abbrev pub Appended : ℕ → List ℕ → List ℕ → ℕ → List ℕ → Type 0
Appended at text out r out' = (r ≡ behind at text out) × (out' ≡ appended at text out)

-- A text without room is not stored.
pub no_room : (at : ℕ) (text out : List ℕ) → length out < at + length text → Appended at text out at out
unfolding behind appended fits
no_room at text out h = rw (lt-leb (at + length text) (length out) h) (refl, refl)

-- A text with room is stored between what stands before and behind it.
pub roomy : (at : ℕ) (text out : List ℕ) → at + length text ≤ length out → take at out ++ (text ++ drop (at + length text) out) ≡ appended at text out
unfolding appended fits
roomy at text out h =
    rw (le-leb (at + length text) (length out) h) (sym (placed_sets at text out ∙ sets-eq text out at h ∙ append_assoc (take at out) text _))

-- A buffer in which a text is stored is as long as it was.
pub length_placed : (at : ℕ) (text out : List ℕ) → length (placed at text out) ≡ length out
unfolding placed
length_placed at [] out = refl
length_placed at (b ∷ text) out = length_placed (suc at) text (set out at b) ∙ length-set out at b

-- The place behind a text is within the buffer where the place before it was, and the buffer is as long as it was.
pub behind_within : (at : ℕ) (text out : List ℕ) → at ≤ length out → behind at text out ≤ length out
unfolding behind fits
behind_within at text out h = grind (arith, nat_tests)

pub length_appended : (at : ℕ) (text out : List ℕ) → length (appended at text out) ≡ length out
unfolding appended fits
length_appended at text out = grind (arith, nat_tests, length_placed at text out)

pub appended_within : (at : ℕ) (text out : List ℕ) {r : ℕ} {out' : List ℕ} → Appended at text out r out' → at ≤ length out → r ≤ length out'
appended_within at text out {r} {out'} p h =
    let n : length out' ≡ length out = ap length p.1 ∙ length_appended at text out in
    omega (arith, p.0, behind_within at text out h)
