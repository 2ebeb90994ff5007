-- Normal sums: what they are, how they are added, subtracted, negated and multiplied, when one is too large, the normal sum of
-- an expression, and what a sum is worth. 01, "The normal sum". Assumes nothing.
use Rattle.std.specs.Prelude.{ℕ, ◌+◌, ◌*◌, ◌^◌, ◌≤◌, ◌<◌, ◌≡◌, Bool, true, false, cond, ◌&&◌, ◌||◌, List, [], ◌∷◌, ◌++◌, map, leb, ltb, eqb, length, get_or}
use Rattle.model.specs.Word.{wrap, plus, times, negated}
use Rattle.model.specs.Expr.{Expr, constant, variable, sum, difference, product, negation}

-- A term: a coefficient and its symbols in rising order, repeats allowed.
pub record Term : Type 0 where
  pub coefficient : ℕ
  pub symbols : List ℕ

-- A sum is a list of terms.
abbrev pub Sum : Type 0
Sum = List Term

-- What an operation hands back: too large, or what fits.
pub data Outcome (A : Type 0) : Type 0 where
  too_large : Outcome A
  fits : A → Outcome A

-- What comes after an outcome, unless that is too large.
unfoldable pub and_then : {A B : Type 0} → Outcome A → (A → Outcome B) → Outcome B
and_then too_large k = too_large
and_then (fits a) k = k a

-- Two lists are the same, place by place.
unfoldable pub same : {A : Type 0} → (A → A → Bool) → List A → List A → Bool
same eq [] [] = true
same eq [] (b ∷ m) = false
same eq (a ∷ l) [] = false
same eq (a ∷ l) (b ∷ m) = eq a b && same eq l m

-- Whether two terms are the same.
unfoldable pub same_term : Term → Term → Bool
same_term t u = eqb t.coefficient u.coefficient && same eqb t.symbols u.symbols

-- Whether two sums are the same.
unfoldable pub same_sum : Sum → Sum → Bool
same_sum s t = same same_term s t

-- At the first differing symbol, the first list has the lower one.
unfoldable pub lower : List ℕ → List ℕ → Bool
lower [] m = false
lower (a ∷ l) [] = false
lower (a ∷ l) (b ∷ m) = ltb a b || (eqb a b && lower l m)

-- "Shorter lists first, then by first differing symbol, the lower first."
unfoldable pub precedes : List ℕ → List ℕ → Bool
precedes l m = ltb (length l) (length m) || (eqb (length l) (length m) && lower l m)

-- A term in front of a sum, dropped where its coefficient is zero.
unfoldable pub keep : Term → Sum → Sum
keep t s = cond (eqb t.coefficient 0) s (t ∷ s)

-- A term is collected into a sum: joined with the term of the same symbols, or put at its place.
unfoldable pub insert : ℕ → Term → Sum → Sum
insert w t [] = keep t []
insert w t (u ∷ s) =
    let later = insert w t s in
    cond
    (same eqb t.symbols u.symbols)
    (keep (record { coefficient = plus w t.coefficient u.coefficient; symbols = u.symbols }) s)
    (cond (precedes t.symbols u.symbols) (keep t (u ∷ s)) (u ∷ later))

-- Each term of a list in turn is collected into a sum.
unfoldable pub collect : ℕ → List Term → Sum → Sum
collect w [] s = s
collect w (t ∷ ts) s = collect w ts (insert w t s)

-- "More than 16 terms after collecting" is too large.
unfoldable pub fit : Sum → Outcome Sum
fit s = cond (leb (length s) 16) (fits s) too_large

-- "The empty sum is zero." A constant is one term with no symbols, or the empty sum; a symbol is one term.
unfoldable pub empty : Sum
empty = []

-- The sum of a constant.
unfoldable pub constant_sum : ℕ → ℕ → Sum
constant_sum w c = keep (record { coefficient = wrap w c; symbols = [] }) []

-- The sum of a symbol.
unfoldable pub symbol_sum : ℕ → Sum
symbol_sum x = record { coefficient = 1; symbols = x ∷ [] } ∷ []

-- The sum of two sums.
unfoldable pub add : ℕ → Sum → Sum → Outcome Sum
add w s t = fit (collect w t s)

-- A term with its coefficient negated.
unfoldable pub negate_term : ℕ → Term → Term
negate_term w t = record { coefficient = negated w t.coefficient; symbols = t.symbols }

-- The lists stay distinct and no coefficient becomes zero, so a negation needs no collecting and always fits.
unfoldable pub negate : ℕ → Sum → Sum
negate w s = map (negate_term w) s

-- The difference of two sums.
unfoldable pub subtract : ℕ → Sum → Sum → Outcome Sum
subtract w s t = fit (collect w (negate w t) s)

-- A symbol at its place in a rising list; two rising lists as one.
unfoldable pub place : ℕ → List ℕ → List ℕ
place x [] = x ∷ []
place x (y ∷ l) =
    let later = place x l in
    cond (leb x y) (x ∷ y ∷ l) (y ∷ later)

-- Two rising lists as one.
unfoldable pub merge : List ℕ → List ℕ → List ℕ
merge [] m = m
merge (x ∷ l) m = place x (merge l m)

-- The product of two terms: nothing where its coefficient is zero, and otherwise too large where it has more than 4 symbols.
unfoldable pub term_product : ℕ → Term → Term → Outcome (List Term)
term_product w t u =
    cond
    (eqb (times w t.coefficient u.coefficient) 0)
    (fits [])
    (cond
    (leb (length t.symbols + length u.symbols) 4)
    (fits (record { coefficient = times w t.coefficient u.coefficient; symbols = merge t.symbols u.symbols } ∷ []))
    too_large)

-- All products of a list's members, in order, by a product f of one.
unfoldable pub products : (Term → Outcome (List Term)) → List Term → Outcome (List Term)
products f [] = fits []
products f (u ∷ us) = and_then (f u) (λ xs. and_then (products f us) (λ ys. fits (xs ++ ys)))

-- "A product whose two term counts multiply to more than 64" is too large.
unfoldable pub multiply : ℕ → Sum → Sum → Outcome Sum
multiply w s t =
    cond
    (leb (length s * length t) 64)
    (and_then (products (λ x. products (term_product w x) t) s) (λ ts. fit (collect w ts [])))
    too_large

-- The normal sum of an expression in an environment of sums, one for each variable.
unfoldable pub sum_of : ℕ → List Sum → Expr → Outcome Sum
sum_of w env (constant c) = fits (constant_sum w c)
sum_of w env (variable v) = fits (get_or env v empty)
sum_of w env (sum l r) = and_then (sum_of w env l) (λ s. and_then (sum_of w env r) (λ t. add w s t))
sum_of w env (difference l r) = and_then (sum_of w env l) (λ s. and_then (sum_of w env r) (λ t. subtract w s t))
sum_of w env (product l r) = and_then (sum_of w env l) (λ s. and_then (sum_of w env r) (λ t. multiply w s t))
sum_of w env (negation e) = and_then (sum_of w env e) (λ s. fits (negate w s))

-- What a sum is worth where the symbols have the values ρ: the sum of coefficient times symbols, modulo 2^w.
unfoldable pub powers : (ℕ → ℕ) → List ℕ → ℕ
powers ρ [] = 1
powers ρ (x ∷ l) = ρ x * powers ρ l

-- The terms of a sum, coefficient times symbols, added up.
unfoldable pub total : (ℕ → ℕ) → Sum → ℕ
total ρ [] = 0
total ρ (t ∷ s) = t.coefficient * powers ρ t.symbols + total ρ s

-- What a sum is worth.
unfoldable pub worth : ℕ → (ℕ → ℕ) → Sum → ℕ
worth w ρ s = wrap w (total ρ s)

-- What makes a sum normal.

-- Each symbol is at most the next.
unfoldable pub Rising : List ℕ → Type 0
Rising [] = Unit {0}
Rising (x ∷ []) = Unit {0}
Rising (x ∷ y ∷ l) = (x ≤ y) × Rising (y ∷ l)

-- A term as a normal sum has it.
pub record NormalTerm (w : ℕ) (t : Term) : Type 0 where
  pub nonzero : 0 < t.coefficient
  pub reduced : t.coefficient < 2 ^ w
  pub short : length t.symbols ≤ 4
  pub rising : Rising t.symbols

-- A term stands before each term of a list.
unfoldable pub Before : Term → List Term → Type 0
Before t [] = Unit {0}
Before t (u ∷ s) = (precedes t.symbols u.symbols ≡ true) × Before t s

-- Every term is normal and stands before all later ones, so the symbol lists are distinct and in order.
unfoldable pub Terms : ℕ → Sum → Type 0
Terms w [] = Unit {0}
Terms w (t ∷ s) = NormalTerm w t × Before t s × Terms w s

-- A normal sum.
pub record Normal (w : ℕ) (s : Sum) : Type 0 where
  pub terms : Terms w s
  pub few : length s ≤ 16
