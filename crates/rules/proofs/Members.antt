-- Ports, sums and links one after the other, by the library's words and by the model's. Assumes nothing.
use Prim.Native.Nat.{ℕ, zero, suc, ◌+◌}
use mathlib.Core.Path.{◌≡◌, refl, ◌∙◌, ap}
use mathlib.Core.Bool.{Bool, true, false, ◌&&◌}
use mathlib.Core.List.{List, [], ◌∷◌, map}
use native.Mathlib.Omega.{arith}
use lib.Dec.{eqb}
use lib.ListN.{length, get_or}
use lib.Pointwise.{pointwise}
use Rattle.std.specs.List.{list_all, zip, range_with_len}
use Rattle.model.specs.Answer.{up_to}
use Rattle.model.specs.Run.{each_port}
use Rattle.model.specs.Sum.{same}
use Rattle.model.specs.Judgement.{all}
use Rattle.fault.proofs.Search.{and_true}
use Rattle.sum.specs.declared.Sum.{Sum}
use Rattle.sum.specs.Packed.{same_k, terms_of, as_sum}
use Rattle.sum.proofs.Held.{terms_as}
use Rattle.env.specs.declared.Env.{Env}
use Rattle.env.specs.Env.{sums_of}
use Rattle.env.proofs.Stored.{sums_few}
use Rattle.side.specs.Parts.{Port, count_on, no_port, written_on}
use Rattle.rules.specs.Rules.{same_reads_in, given_on, same_writes_in, keeps_in}

-- The numbers of a range are the model's.
pub all_range : (f : ℕ → Bool) (i n : ℕ) → list_all f (range_with_len i n) ≡ all f (up_to i n)
unfolding all up_to
all_range f i zero = refl
all_range f i (suc n) =
    let s : i + 1 ≡ suc i = omega arith in
    ap (λ b. f i && b) (all_range f (i + 1) n ∙ ap (λ j. all f (up_to j n)) s)

-- The four ports are the numbers below 4.
pub all_ports : (f : ℕ → Bool) → all f (up_to 0 4) ≡ each_port f
unfolding all up_to each_port
all_ports f = ap (λ x. f 0 && (f 1 && (f 2 && x))) (and_true (f 3))

-- Sums of two lists of one length.
pub same_zip : (l m : List Sum) → length l ≡ length m → list_all (λ p. same_k (terms_of p.0) (terms_of p.1)) (zip l m) ≡ same same_k (map terms_of l) (map terms_of m)
unfolding same
same_zip [] [] h = refl
same_zip [] (t ∷ m) h = absurd (omega arith)
same_zip (s ∷ l) [] h = absurd (omega arith)
same_zip (s ∷ l) (t ∷ m) h = let k : length l ≡ length m = omega arith in ap (λ b. same_k (terms_of s) (terms_of t) && b) (same_zip l m k)

-- Lists of two lengths are not the same.
pub same_lengths : {A : Type 0} (f : A → A → Bool) (g : Sum → A) (l m : List Sum) → (length l ≡ length m → ⊥) → false ≡ same f (map g l) (map g m)
unfolding same
same_lengths f g [] [] h = absurd (h refl)
same_lengths f g [] (t ∷ m) h = refl
same_lengths f g (s ∷ l) [] h = refl
same_lengths f g (s ∷ l) (t ∷ m) h = by (f (g s) (g t)) (same_lengths f g l m (λ e. h (ap suc e)))
  where
    by : {b : Bool} (x : Bool) → false ≡ b → false ≡ (x && b)
    by true e = e
    by false e = refl

-- A list of four by its members.
four : {A : Type 0} (d : A) (l : List A) → length l ≡ 4 → l ≡ get_or l 0 d ∷ (get_or l 1 d ∷ (get_or l 2 d ∷ (get_or l 3 d ∷ [])))
four d [] h = absurd (omega arith)
four d (x ∷ []) h = absurd (omega arith)
four d (x ∷ (y ∷ [])) h = absurd (omega arith)
four d (x ∷ (y ∷ (z ∷ []))) h = absurd (omega arith)
four d (x ∷ (y ∷ (z ∷ (w ∷ [])))) h = refl
four d (x ∷ (y ∷ (z ∷ (w ∷ (v ∷ l))))) h = absurd (omega arith)

-- The reads of four ports.
pub reads_zip : (a b : List ℕ) → length a ≡ 4 → length b ≡ 4 → pointwise eqb a b ≡ same_reads_in a b
unfolding same_reads_in each_port count_on
reads_zip a b h k =
    (λ i. pointwise eqb (four 0 a h i) (four 0 b k i))
    ∙ ap (λ x. eqb (get_or a 0 0) (get_or b 0 0) && (eqb (get_or a 1 0) (get_or b 1 0) && (eqb (get_or a 2 0) (get_or b 2 0) && x))) (and_true (eqb (get_or a 3 0) (get_or b 3 0)))

-- The writes of four ports.
pub writes_zip : (a b : List Port) → length a ≡ 4 → length b ≡ 4 → list_all (λ p. same same_k (written_on p.0) (written_on p.1)) (zip a b) ≡ same_writes_in a b
unfolding same_writes_in given_on each_port
writes_zip a b h k =
    let f : ℕ → Bool = λ p. same same_k (given_on a p) (given_on b p) in
    (λ i. list_all (λ p. same same_k (written_on p.0) (written_on p.1)) (zip (four no_port a h i) (four no_port b k i)))
    ∙ ap (λ x. f 0 && (f 1 && (f 2 && x))) (and_true (f 3))

-- A link is kept where the two sums are the same.
pub keeps_is : (first second : Env) (v u : ℕ) {a b : Sum} {r : Bool} → a ≡ as_sum (get_or (sums_of first) v []) → b ≡ as_sum (get_or (sums_of second) u []) → r ≡ same_k (terms_of a) (terms_of b) → r ≡ keeps_in first v second u
unfolding keeps_in
keeps_is first second v u p q e =
    e ∙ (λ i. same_k (held first v p i) (held second u q i))
  where
    held : (f : Env) (v : ℕ) {a : Sum} → a ≡ as_sum (get_or (sums_of f) v []) → terms_of a ≡ get_or (sums_of f) v []
    held f v p = ap terms_of p ∙ terms_as _ (sums_few f v)
