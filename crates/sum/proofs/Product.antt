-- Products collected as they are made: what a turn does, and that the end is the product. Assumes nothing.
use Prim.Native.Nat.{ℕ, suc, ◌+◌, ◌*◌, ◌≤◌, ◌<◌}
use mathlib.Core.Path.{◌≡◌, refl, sym, ap, ◌∙◌}
use mathlib.Core.Bool.{true, false}
use mathlib.Core.List.{List, [], ◌∷◌, ◌++◌}
use native.Mathlib.Nat.{suc-mul}
use native.Mathlib.Numerals.{add-one}
use native.Mathlib.Omega.{arith}
use lib.Dec.{eqb}
use lib.ListN.{length, get_or, drop}
use lib.Seq.{drop-cons}
use Rattle.std.proofs.lemmas.List.{at_drop_all}
use borrow.Author.Tests.{le-leb, lt-leb, eq-eqb, ne_eqb}
use Rattle.model.specs.Word.{times}
use Rattle.model.specs.Sum.{Outcome, too_large, fits, and_then}
use Rattle.key.specs.Key.{merged_of}
use Rattle.sum.specs.declared.Term.{Term}
use Rattle.std.specs.Prelude.{Option, Some, None}
use Rattle.sum.specs.Packed.{insert_k, collect_k, fit_k, merged_term_k, term_product_k, products_k, multiply_k, zero_term, gather_k}

-- Two lists of terms are collected one after the other.
collect_append : (w : ℕ) (xs ys g : List Term) → collect_k w (xs ++ ys) g ≡ collect_k w ys (collect_k w xs g)
unfolding collect_k
collect_append w [] ys g = refl
collect_append w (x ∷ xs) ys g = collect_append w xs ys (insert_k w x g)

-- Outcomes are collected one after the other.
gather_append : (w : ℕ) (a b : Outcome (List Term)) (g : List Term)
    → gather_k w (and_then a (λ xs. and_then b (λ ys. fits (xs ++ ys)))) g ≡ and_then (gather_k w a g) (gather_k w b)
unfolding gather_k and_then
gather_append w too_large b g = refl
gather_append w (fits xs) too_large g = refl
gather_append w (fits xs) (fits ys) g = ap fits (collect_append w xs ys g)

-- The product of two terms, by its coefficient c: nothing, too large, or one term.
pub product_none : (w : ℕ) (t u : Term) (g : List Term) (c : ℕ) → c ≡ times w t.coef u.coef → c ≡ 0
    → fits g ≡ gather_k w (term_product_k w t u) g
unfolding gather_k term_product_k and_then collect_k
product_none w t u g c e z =
    let p : eqb (times w t.coef u.coef) 0 ≡ true = eq-eqb _ _ (sym e ∙ z) in
    rw p refl

pub product_large : (w : ℕ) (t u : Term) (g : List Term) (c : ℕ) (m : Option ℕ) → c ≡ times w t.coef u.coef → (c ≡ 0 → ⊥)
    → m ≡ merged_of t.mono u.mono → m ≡ None
    → too_large ≡ gather_k w (term_product_k w t u) g
unfolding gather_k term_product_k merged_term_k and_then
product_large w t u g c m e z d k =
    let p : eqb (times w t.coef u.coef) 0 ≡ false = ne_eqb _ _ (λ h. z (e ∙ h)) in
    let q : merged_of t.mono u.mono ≡ None = sym d ∙ k in
    rw (p, q) refl

pub product_one : (w : ℕ) (t u : Term) (g r : List Term) (c : ℕ) (m : Option ℕ) (x : ℕ) → c ≡ times w t.coef u.coef → (c ≡ 0 → ⊥)
    → m ≡ merged_of t.mono u.mono → m ≡ Some x
    → r ≡ insert_k w (record { coef = c; mono = x }) g
    → fits r ≡ gather_k w (term_product_k w t u) g
unfolding gather_k term_product_k merged_term_k and_then collect_k
product_one w t u g r c m x e z d k h =
    let p : eqb (times w t.coef u.coef) 0 ≡ false = ne_eqb _ _ (λ h. z (e ∙ h)) in
    let q : merged_of t.mono u.mono ≡ Some x = sym d ∙ k in
    rw (p, q) (ap fits h ∙ (λ i. fits (insert_k w (record { coef = e i; mono = x }) g)))

-- The loop over the members of a list, each with its products by f: those from i on are left.
module _ (w : ℕ) (f : Term → Outcome (List Term)) (from g : List Term) (i : ℕ) where
  -- The next member's products, and then the others'.
  next : i < length from
      → and_then (gather_k w (f (get_or from i zero_term)) g) (gather_k w (products_k f (drop (suc i) from)))
      ≡ gather_k w (products_k f (drop i from)) g
  unfolding products_k
  next h =
      sym (gather_append w (f (get_or from i zero_term)) (products_k f (drop (suc i) from)) g)
      ∙ ap (λ l. gather_k w (products_k f l) g) (sym (drop-cons from i zero_term h))

  pub multiply_step : (r : List Term) → i < length from → fits r ≡ gather_k w (f (get_or from i zero_term)) g
      → gather_k w (products_k f (drop (i + 1) from)) r ≡ gather_k w (products_k f (drop i from)) g
  unfolding and_then
  multiply_step r h e =
      rw (add-one i) (ap (λ o. and_then o (gather_k w (products_k f (drop (suc i) from)))) e ∙ next h)

  pub multiply_stop : i < length from → too_large ≡ gather_k w (f (get_or from i zero_term)) g
      → too_large ≡ gather_k w (products_k f (drop i from)) g
  unfolding and_then
  multiply_stop h e = ap (λ o. and_then o (gather_k w (products_k f (drop (suc i) from)))) e ∙ next h

  pub multiply_end : length from ≤ i → gather_k w (products_k f (drop i from)) g ≡ fits g
  unfolding gather_k products_k and_then collect_k
  multiply_end h = at_drop_all (λ l. gather_k w (products_k f l) g) from i h

-- What is collected fits as the products collected do.
finished_fits : (w : ℕ) (p : Outcome (List Term)) (g : List Term) → fits g ≡ gather_k w p []
    → fit_k g ≡ and_then p (λ ts. fit_k (collect_k w ts []))
unfolding gather_k and_then
finished_fits w too_large g e = absurd (let z : ◌≡◌ {A = ℕ} 0 1 = cc in omega arith)
finished_fits w (fits ts) g e =
    let d : g ≡ collect_k w ts [] = cc in
    ap fit_k d

finished_large : (w : ℕ) (p : Outcome (List Term)) → too_large ≡ gather_k w p []
    → too_large ≡ and_then p (λ ts. fit_k (collect_k w ts []))
unfolding gather_k and_then
finished_large w too_large e = refl
finished_large w (fits ts) e = absurd (let z : ◌≡◌ {A = ℕ} 0 1 = cc in omega arith)

-- The products of a term with each of others.
abbrev pub Row : ℕ → List Term → Term → Outcome (List Term)
Row w us x = products_k (term_product_k w x) us

module _ (w : ℕ) (s t : List Term) where
  -- More than 64 products are too large.
  pub multiplied_many : 64 < length s * length t → too_large ≡ multiply_k w s t
  unfolding multiply_k
  multiplied_many h = rw (lt-leb _ _ h) refl

  -- A product of terms that is too large makes the product so.
  pub multiplied_large : length s * length t ≤ 64 → too_large ≡ gather_k w (products_k (Row w t) s) [] → too_large ≡ multiply_k w s t
  unfolding multiply_k
  multiplied_large h e = rw (le-leb _ _ h) (finished_large w _ e)

  -- The products collected, where they fit, are the product.
  pub multiplied_fits : (g : List Term) → length s * length t ≤ 64 → fits g ≡ gather_k w (products_k (Row w t) s) []
      → fit_k g ≡ multiply_k w s t
  unfolding multiply_k
  multiplied_fits g h e = rw (le-leb _ _ h) (finished_fits w _ g e)

-- A row more.
pub row_more : (i m : ℕ) → (i + 1) * m ≡ i * m + m
row_more i m = rw (add-one i) (suc-mul i m)

-- What the product of two terms is proved by.
pub ruleset one_product = (product_none, product_large, product_one)
