-- The operations of a normal sum (01, "The normal sum"; `model`, Sum) on packed terms, where one number stands for the list of
-- symbols, and how a struct of the code holds a list of terms. `mono` is the packed list: its order as a number is the paper's
-- order of symbol lists, and 0 is the empty list. Every operation is over the width w; the base is 32. Assumes nothing.
use Rattle.std.specs.Prelude.{ℕ, ◌-◌, ◌*◌, min, Bool, cond, ◌&&◌, List, [], ◌∷◌, ◌++◌, map, leb, ltb, eqb, length, take, replicate, Option, Some, None, Result, Ok, Err}
use Rattle.model.specs.Word.{wrap, plus, times, negated}
use Rattle.model.specs.Sum as Model
use Rattle.model.specs.Sum.{Outcome, too_large, fits, and_then, same}
use Rattle.key.specs.Key.{merged_of}
use Rattle.sum.specs.declared.Term.{Term}
use Rattle.sum.specs.declared.Sum.{Sum}
use Rattle.sum.specs.declared.TooLarge.{TooLarge}

-- A term in front of a sum, dropped where its coefficient is zero.
unfoldable pub keep_k : Term → List Term → List Term
keep_k t s = cond (eqb t.coef 0) s (t ∷ s)

-- Two terms of the same symbols as one.
unfoldable pub joined_k : ℕ → Term → Term → Term
joined_k w t u = record { coef = plus w t.coef u.coef; mono = u.mono }

-- A term is collected into a sum: joined with the term of the same symbols, or put at its place.
unfoldable pub insert_k : ℕ → Term → List Term → List Term
insert_k w t [] = keep_k t []
insert_k w t (u ∷ s) =
    let later = insert_k w t s in
    cond (eqb t.mono u.mono) (keep_k (joined_k w t u) s) (cond (ltb t.mono u.mono) (keep_k t (u ∷ s)) (u ∷ later))

-- Each term of a list in turn is collected into a sum.
unfoldable pub collect_k : ℕ → List Term → List Term → List Term
collect_k w [] s = s
collect_k w (t ∷ ts) s = collect_k w ts (insert_k w t s)

-- More than 16 terms after collecting is too large.
unfoldable pub fit_k : List Term → Outcome (List Term)
fit_k s = cond (leb (length s) 16) (fits s) too_large

-- A constant is one term with no symbols, or the empty sum.
unfoldable pub constant_k : ℕ → ℕ → List Term
constant_k w c = keep_k (record { coef = wrap w c; mono = 0 }) []

-- A symbol is one term with coefficient 1.
unfoldable pub symbol_k : ℕ → List Term
symbol_k m = record { coef = 1; mono = m } ∷ []

-- The sum of two sums: the second's terms collected into the first.
unfoldable pub add_k : ℕ → List Term → List Term → Outcome (List Term)
add_k w s t = fit_k (collect_k w t s)

-- A term with its coefficient negated.
unfoldable pub negate_term_k : ℕ → Term → Term
negate_term_k w t = record { coef = negated w t.coef; mono = t.mono }

-- The negation of a sum, term by term.
unfoldable pub negate_k : ℕ → List Term → List Term
negate_k w s = map (negate_term_k w) s

-- The difference of two sums: the second's negated terms collected into the first.
unfoldable pub subtract_k : ℕ → List Term → List Term → Outcome (List Term)
subtract_k w s t = fit_k (collect_k w (negate_k w t) s)

-- A coefficient with merged symbols is one term; too many symbols are too large.
unfoldable pub merged_term_k : ℕ → Option ℕ → Outcome (List Term)
merged_term_k c None = too_large
merged_term_k c (Some m) = fits (record { coef = c; mono = m } ∷ [])

-- The product of two terms: nothing where its coefficient is zero, and otherwise too large where it has more than 4 symbols.
unfoldable pub term_product_k : ℕ → Term → Term → Outcome (List Term)
term_product_k w t u =
    cond
    (eqb (times w t.coef u.coef) 0)
    (fits [])
    (merged_term_k (times w t.coef u.coef) (merged_of t.mono u.mono))

-- All products of a list's members, in order, by a product f of one.
unfoldable pub products_k : (Term → Outcome (List Term)) → List Term → Outcome (List Term)
products_k f [] = fits []
products_k f (u ∷ us) = and_then (f u) (λ xs. and_then (products_k f us) (λ ys. fits (xs ++ ys)))

-- The product of two sums: too large where the term counts multiply to more than 64, where a product of two terms is, or where
-- more than 16 terms are left after collecting.
unfoldable pub multiply_k : ℕ → List Term → List Term → Outcome (List Term)
multiply_k w s t =
    cond
    (leb (length s * length t) 64)
    (and_then (products_k (λ x. products_k (term_product_k w x) t) s) (λ ts. fit_k (collect_k w ts [])))
    too_large

-- Two terms have the same coefficient and the same symbols.
unfoldable pub same_term_k : Term → Term → Bool
same_term_k t u = eqb t.coef u.coef && eqb t.mono u.mono

-- Two sums are the same, place by place.
unfoldable pub same_k : List Term → List Term → Bool
same_k s t = same same_term_k s t

-- The term that stands past the end.
abbrev pub zero_term : Term
zero_term = record { coef = 0; mono = 0 }

-- The terms that a struct holds: a count over 16 is read as 16.
unfoldable pub terms_of : Sum → List Term
terms_of s = take (min s.n 16) s.terms

-- The struct that holds a list of terms: its length, and zero terms up to 16.
unfoldable pub as_sum : List Term → Sum
as_sum l = record { n = length l; terms = l ++ replicate (16 - length l) zero_term }

-- Terms that are collected into a sum, or too large.
unfoldable pub gather_k : ℕ → Outcome (List Term) → List Term → Outcome (List Term)
gather_k w o g = and_then o (λ ts. fits (collect_k w ts g))

-- What an operation answers: the sum that fits, or too large.
unfoldable pub added_of : Outcome (List Term) → Result Sum TooLarge
added_of too_large = Err record {}
added_of (fits l) = Ok (as_sum l)

-- A term of the paper with its symbols packed, by a function that packs lists of symbols.
unfoldable pub pack_term : (List ℕ → ℕ) → Model.Term → Term
pack_term pack t = record { coef = t.coefficient; mono = pack t.symbols }

-- A sum of the paper, packed term by term.
unfoldable pub pack_sum : (List ℕ → ℕ) → Model.Sum → List Term
pack_sum pack s = map (pack_term pack) s

-- What an operation of the paper gives, packed.
unfoldable pub pack_outcome : (List ℕ → ℕ) → Outcome Model.Sum → Outcome (List Term)
pack_outcome pack too_large = too_large
pack_outcome pack (fits s) = fits (pack_sum pack s)
