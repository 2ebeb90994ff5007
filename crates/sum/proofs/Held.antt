-- How a struct holds a list of terms: what is put in comes out, what a copied prefix is, and how two sums are compared.
-- Assumes nothing.
use Prim.Native.Nat.{ℕ, zero, suc, ◌+◌, ◌-◌, ◌%◌, ◌^◌, ◌≤◌, ◌<◌, min}
use mathlib.Core.Path.{◌≡◌, refl, sym, ap, ◌∙◌}
use mathlib.Core.Bool.{Bool, true, false, ◌&&◌}
use mathlib.Core.List.{List, [], ◌∷◌, ◌++◌, map, map-append}
use native.Mathlib.Numerals.{add-one}
use native.Mathlib.Omega.{arith}
use lib.Pointwise.{pointwise}
use lib.ListN.{length, get_or, take, drop, replicate, length-map, get_or-map, length-take, length-append, length-replicate}
use lib.Seq.{slice, slice-cons, slice_empty, length-take-le, take_at}
use borrow.Author.Tests.{eq-eqb, ne_eqb}
use Rattle.model.specs.Word.{base, wrap, negated}
use Rattle.model.specs.Sum.{same}
use Rattle.sum.specs.declared.Term.{Term}
use Rattle.sum.specs.declared.Sum.{Sum}
use Rattle.sum.specs.Packed.{constant_k, negate_term_k, negate_k, same_term_k, same_k, zero_term, terms_of, as_sum}
use Rattle.sum.proofs.Lists.{drop_replicate}
use Rattle.sum.proofs.Insertion.{keep_zero, keep_some}

-- A struct holds as many terms as its count is read.
pub terms_count : (s : Sum) → length s.terms ≡ 16 → length (terms_of s) ≡ min s.n 16
unfolding terms_of
terms_count s h = length-take-le (min s.n 16) s.terms (omega arith)

-- That is at most 16.
pub terms_most : (s : Sum) → length (terms_of s) ≤ 16
unfolding terms_of
terms_most s = omega (arith, length-take (min s.n 16) s.terms)

-- At most 16 terms that are put into a struct come out.
pub terms_as : (l : List Term) → length l ≤ 16 → terms_of (as_sum l) ≡ l
unfolding terms_of as_sum
terms_as l h =
    let e : length l ≡ min (length l) 16 = omega arith in
    take_at l _ _ e

-- A prefix of a list, copied over zero terms, is the struct of the prefix.
pub copied_as : (n : ℕ) (s ts : List Term) → n ≤ 16 → n ≤ length s → ts ≡ take n s ++ drop n (replicate 16 zero_term)
    → ◌≡◌ {A = Sum} (record { n = n; terms = ts }) (as_sum (take n s))
unfolding as_sum
copied_as n s ts h k e =
    let p : length (take n s) ≡ n = length-take-le n s k in
    let q : ts ≡ take n s ++ replicate (16 - length (take n s)) zero_term =
    e ∙ ap (λ r. take n s ++ r) (drop_replicate n 16 zero_term h) ∙ ap (λ k. take n s ++ replicate (16 - k) zero_term) (sym p) in
    λ i. record { n = sym p i; terms = q i }

-- Comparing.

-- Two lists of terms are equal, place by place, by any test that is equality of terms, where they are the same.
pub same_slices : (E : Term → Term → Bool) → ((t u : Term) → E t u ≡ same_term_k t u) → (s t : List Term) → pointwise E s t ≡ same_k s t
unfolding same_k same
same_slices E e [] [] = refl
same_slices E e [] (u ∷ t) = refl
same_slices E e (a ∷ s) [] = refl
same_slices E e (a ∷ s) (u ∷ t) = λ i. e a u i && same_slices E e s t i

-- Lists of different lengths are not the same.
pub same_lengths : (s t : List Term) → (length s ≡ length t → ⊥) → false ≡ same_k s t
unfolding same_k same
same_lengths [] [] h = absurd (h refl)
same_lengths [] (u ∷ t) h = refl
same_lengths (a ∷ s) [] h = refl
same_lengths (a ∷ s) (u ∷ t) h = last (same_term_k a u) (same_lengths s t (λ e. h (ap suc e)))
  where
    last : (b : Bool) → false ≡ same same_term_k s t → false ≡ (b && same same_term_k s t)
    last true e = e
    last false e = refl

-- The comparing loop: what is left to compare decides.
pub record Compared (n : ℕ) (s t : List Term) (i : ℕ) : Type 0 where
  pub within : i ≤ n
  pub left : n ≤ length s
  pub right : n ≤ length t
  pub at : same_k (slice i n s) (slice i n t) ≡ same_k (take n s) (take n t)

module _ (n : ℕ) (s t : List Term) where
  pub compare_start : n ≤ length s → n ≤ length t → Compared n s t 0
  compare_start h k = record { within = omega arith; left = h; right = k; at = refl }

  -- The next two terms and what is behind them decide.
  next : (i : ℕ) → Compared n s t i → i < n
      → (same_term_k (get_or s i zero_term) (get_or t i zero_term) && same_k (slice (suc i) n s) (slice (suc i) n t)) ≡ same_k (take n s) (take n t)
  unfolding same_k same
  next i h k =
      (λ x. same_k (sym (slice-cons i n s zero_term k h.left) x) (sym (slice-cons i n t zero_term k h.right) x)) ∙ h.at

  pub compare_step : (i : ℕ) → Compared n s t i → i < n
      → (get_or s i zero_term).coef ≡ (get_or t i zero_term).coef
      → (get_or s i zero_term).mono ≡ (get_or t i zero_term).mono
      → Compared n s t (i + 1)
  unfolding same_term_k
  compare_step i h k e d =
      let p : same_term_k (get_or s i zero_term) (get_or t i zero_term) ≡ true = rw (eq-eqb _ _ e, eq-eqb _ _ d) in
      let q : same_k (slice (suc i) n s) (slice (suc i) n t) ≡ same_k (take n s) (take n t) = rw p at (next i h k) in
      record { within = omega arith; left = h.left; right = h.right; at = rw (add-one i) q }

  pub compare_coef : (i : ℕ) → Compared n s t i → i < n
      → ((get_or s i zero_term).coef ≡ (get_or t i zero_term).coef → ⊥)
      → false ≡ same_k (take n s) (take n t)
  unfolding same_term_k
  compare_coef i h k e =
      let p : same_term_k (get_or s i zero_term) (get_or t i zero_term) ≡ false = rw (ne_eqb _ _ e) in
      rw p at (next i h k)

  pub compare_mono : (i : ℕ) → Compared n s t i → i < n
      → (get_or s i zero_term).coef ≡ (get_or t i zero_term).coef
      → ((get_or s i zero_term).mono ≡ (get_or t i zero_term).mono → ⊥)
      → false ≡ same_k (take n s) (take n t)
  unfolding same_term_k
  compare_mono i h k e d =
      let p : same_term_k (get_or s i zero_term) (get_or t i zero_term) ≡ false = rw (eq-eqb _ _ e, ne_eqb _ _ d) in
      rw p at (next i h k)

  pub compare_end : (i : ℕ) → Compared n s t i → n ≤ i → true ≡ same_k (take n s) (take n t)
  unfolding same_k same
  compare_end i h k =
      let e : i ≡ n = omega (arith, h.within) in
      (λ x. same_k (sym (slice_empty n s) x) (sym (slice_empty n t) x)) ∙ ap (λ k. same_k (slice k n s) (slice k n t)) (sym e) ∙ h.at

-- Negating.

-- A negated term stands where the map of the terms has it.
pub negated_at : (w : ℕ) (l : List Term) (i c : ℕ) (t : Term) → t ≡ get_or l i zero_term → c ≡ negated w t.coef
    → ◌≡◌ {A = Term} (record { coef = c; mono = t.mono }) (get_or (map (negate_term_k w) l) i (negate_term_k w zero_term))
unfolding negate_term_k
negated_at w l i c t h e =
    (λ x. record { coef = e x; mono = t.mono }) ∙ ap (negate_term_k w) h ∙ sym (get_or-map (negate_term_k w) l i zero_term)

-- Zero terms stay zero.
negated_zeros : (k : ℕ) → map (negate_term_k base) (replicate k zero_term) ≡ replicate k zero_term
unfolding negate_term_k negated wrap
negated_zeros zero = refl
negated_zeros (suc k) = ap (λ r. zero_term ∷ r) (negated_zeros k)

-- The terms of a struct, each negated, are the struct of the negation.
pub negated_as : (l ts : List Term) (s : Sum) → s ≡ as_sum l → ts ≡ map (negate_term_k base) s.terms
    → ◌≡◌ {A = Sum} (record { n = s.n; terms = ts }) (as_sum (negate_k base l))
unfolding as_sum negate_k
negated_as l ts s e h =
    let p : ts ≡ map (negate_term_k base) l ++ replicate (16 - length (map (negate_term_k base) l)) zero_term =
    h ∙ (λ i. map (negate_term_k base) (e i).terms) ∙ simp (map-append, negated_zeros, length-map) in
    let q : s.n ≡ length (map (negate_term_k base) l) = (λ i. (e i).n) ∙ sym (simp length-map) in
    λ i. record { n = q i; terms = p i }

-- The negation of what a struct holds comes out of the struct of it.
pub negated_terms : (w : ℕ) (s : Sum) → terms_of (as_sum (negate_k w (terms_of s))) ≡ negate_k w (terms_of s)
unfolding negate_k
negated_terms w s =
    let k : length (map (negate_term_k w) (terms_of s)) ≤ 16 = simp length-map (terms_most s) in
    terms_as _ k

-- The struct of at most 16 terms has 16 entries.
pub as_full : (l : List Term) (s : Sum) → length l ≤ 16 → s ≡ as_sum l → length s.terms ≡ 16
unfolding as_sum
as_full l s h e =
    let p : length s.terms ≡ length l + (16 - length l) = (λ i. length (e i).terms) ∙ simp (length-append, length-replicate) in
    omega arith

-- Constants.

-- The constant zero is the empty sum.
pub constant_zero : (c : ℕ) → c ≡ 0 → constant_k base c ≡ []
unfolding constant_k wrap
constant_zero c e = keep_zero _ [] (omega arith)

-- Any other word is one term.
pub constant_some : (c : ℕ) → c < 2 ^ 32 → (c ≡ 0 → ⊥) → constant_k base c ≡ record { coef = c; mono = 0 } ∷ []
unfolding constant_k wrap
constant_some c h e =
    let p : c % 2 ^ 32 ≡ c = omega arith in
    keep_some _ [] (λ z. e (omega arith)) ∙ (λ i. record { coef = p i; mono = 0 } ∷ [])

-- What a constant is proved by.
pub ruleset constants = (constant_zero, constant_some)
