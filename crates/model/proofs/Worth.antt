-- Sums are sound modulo 2^w: each operation on sums is worth the operation on words of what its operands are worth, and the normal
-- sum of an expression is worth the expression's value. It needs no sum to be normal. Assumes nothing.
use Prim.Native.Nat.{ℕ, ◌+◌, ◌*◌, ◌^◌, ◌<◌}
use mathlib.Core.Path.{◌≡◌, refl, sym, ◌∙◌, ap}
use mathlib.Core.Bool.{Bool, true, false, cond}
use mathlib.Core.List.{List, [], ◌∷◌, ◌++◌, map}
use native.Mathlib.Nat.{mul_comm}
use native.Mathlib.Omega.{arith}
use lib.Dec.{leb, eqb}
use lib.ListN.{length, get_or, get_or-map}
use borrow.Author.Tests.{eqb-true}
use Rattle.model.specs.Word.{wrap, plus, minus, times, negated}
use Rattle.model.specs.Expr.{Expr, constant, variable, sum, difference, product, negation, value}
use Rattle.model.specs.Sum.{Term, Sum, Outcome, too_large, fits, and_then, same, precedes, keep, insert, collect, empty, constant_sum, symbol_sum, add, negate_term, negate, subtract, place, merge, term_product, products, multiply, sum_of, powers, total, worth}
use Rattle.model.proofs.Basics.{same_symbols, and_then_fits, cond_fits, fits_same, fit_fits}
use Rattle.model.proofs.Words.{Alike, alike_same, alike_sym, ◌⨾◌, alike_wrap, alike_plus, alike_times, wrap_zero, wrap_word, negated_undoes, undone_by, minus_is}

-- What a term is worth, before wrapping.
unfoldable pub term_total : (ℕ → ℕ) → Term → ℕ
term_total ρ t = t.coefficient * powers ρ t.symbols

module _ (w : ℕ) (ρ : ℕ → ℕ) where
  pub total_cons : (t : Term) (s : Sum) → total ρ (t ∷ s) ≡ term_total ρ t + total ρ s
  unfolding total term_total
  total_cons t s = refl

  pub total_append : (s t : Sum) → total ρ (s ++ t) ≡ total ρ s + total ρ t
  unfolding total
  total_append [] t = omega arith
  total_append (u ∷ s) t = omega (arith, total_append s t)

  keep_total : (t : Term) (s : Sum) → total ρ (keep t s) ≡ term_total ρ t + total ρ s
  unfolding keep total term_total
  keep_total t s = by (eqb t.coefficient 0) refl
    where
      by : (b : Bool) → eqb t.coefficient 0 ≡ b → total ρ (cond b s (t ∷ s)) ≡ t.coefficient * powers ρ t.symbols + total ρ s
      by true e =
          let z : t.coefficient ≡ 0 = eqb-true _ _ e in
          rw z (omega arith)
      by false e = refl

  joined : (c d : ℕ) (l : List ℕ) (r : ℕ) → Alike w (plus w c d * powers ρ l + r) (c * powers ρ l + (d * powers ρ l + r))
  unfolding plus
  joined c d l r =
      alike_plus (alike_times (alike_wrap w (c + d)) (alike_same w {a = powers ρ l} refl)) (alike_same w {a = r} refl)
      ⨾ alike_same w (omega arith)

  -- A term collected into a sum adds what it is worth.
  pub insert_total : (t : Term) (s : Sum) → Alike w (total ρ (insert w t s)) (term_total ρ t + total ρ s)
  unfolding insert total term_total
  insert_total t [] = alike_same w (keep_total t [])
  insert_total t (u ∷ s) =
      by
      (same eqb t.symbols u.symbols)
      (precedes t.symbols u.symbols)
      refl
      (insert_total t s)
    where
      Goal : Sum → Type 0
      Goal r = Alike w (total ρ r) (term_total ρ t + total ρ (u ∷ s))

      by : (a b : Bool) → same eqb t.symbols u.symbols ≡ a → Alike w (total ρ (insert w t s)) (term_total ρ t + total ρ s) → Goal (cond a (keep (record { coefficient = plus w t.coefficient u.coefficient; symbols = u.symbols }) s) (cond b (keep t (u ∷ s)) (u ∷ insert w t s)))
      by true b e later =
          alike_same w (keep_total _ s)
          ⨾ joined t.coefficient u.coefficient u.symbols (total ρ s)
          ⨾ alike_same
          w
          (ap
          (λ (l : List ℕ). t.coefficient * powers ρ l + (u.coefficient * powers ρ u.symbols + total ρ s))
          (sym (same_symbols _ _ e)))
      by false true e later = alike_same w (keep_total t (u ∷ s))
      by false false e later =
          alike_plus (alike_same w {a = u.coefficient * powers ρ u.symbols} refl) later ⨾ alike_same w (omega arith)

  -- Terms collected into a sum add what they are worth.
  pub collect_total : (ts s : Sum) → Alike w (total ρ (collect w ts s)) (total ρ ts + total ρ s)
  unfolding collect total
  collect_total [] s = alike_same w (omega arith)
  collect_total (t ∷ ts) s =
      collect_total ts (insert w t s)
      ⨾ alike_plus (alike_same w {a = total ρ ts} refl) (insert_total t s)
      ⨾ alike_same w (moved t ts s)
    where
      moved : (t : Term) (ts s : Sum) → total ρ ts + (term_total ρ t + total ρ s) ≡ total ρ (t ∷ ts) + total ρ s
      moved t ts s = omega (arith, total_cons t ts)

  -- The empty sum is worth zero, a constant its word, a symbol its value.

  pub empty_worth : worth w ρ empty ≡ 0
  unfolding worth total empty
  empty_worth = wrap_zero w

  pub constant_worth : (c : ℕ) → worth w ρ (constant_sum w c) ≡ wrap w c
  unfolding worth constant_sum total powers term_total
  constant_worth c =
      (alike_same w (keep_total (record { coefficient = wrap w c; symbols = [] }) [] ∙ omega arith) ⨾ alike_wrap w c).wraps

  pub symbol_worth : (x : ℕ) → ρ x < 2 ^ w → worth w ρ (symbol_sum x) ≡ ρ x
  unfolding worth symbol_sum total powers
  symbol_worth x h =
      let e : 1 * (ρ x * 1) + 0 ≡ ρ x = omega arith in
      rw e (wrap_word w (ρ x) h)

  -- Sum, negation and difference.

  worth_alike : (s : Sum) → Alike w (total ρ s) (worth w ρ s)
  unfolding worth
  worth_alike s = alike_sym (alike_wrap w (total ρ s))

  collect_worth : (s t : Sum) → worth w ρ (collect w t s) ≡ plus w (worth w ρ s) (worth w ρ t)
  unfolding worth plus
  collect_worth s t =
      (collect_total t s ⨾ alike_same w (omega arith) ⨾ alike_plus (worth_alike s) (worth_alike t)).wraps

  pub add_worth : (s t r : Sum) → add w s t ≡ fits r → worth w ρ r ≡ plus w (worth w ρ s) (worth w ρ t)
  unfolding add
  add_worth s t r e = rw (← (fit_fits (collect w t s) e).1) (collect_worth s t)

  negate_total : (s : Sum) → Alike w (total ρ (negate w s) + total ρ s) 0
  unfolding negate negate_term total
  negate_total [] = alike_same w refl
  negate_total (t ∷ s) =
      let c = t.coefficient in
      let l = powers ρ t.symbols in
      alike_same w (regroup (negated w c) c l _ (total ρ s))
      ⨾ alike_plus (alike_times (negated_undoes w c) (alike_same w {a = l} refl)) (negate_total s)
      ⨾ alike_same w (omega arith)
    where
      regroup : (a b l x y : ℕ) → a * l + x + (b * l + y) ≡ (a + b) * l + (x + y)
      regroup a b l x y = omega arith

  pub negate_worth : (s : Sum) → worth w ρ (negate w s) ≡ negated w (worth w ρ s)
  unfolding worth
  negate_worth s =
      undone_by
      w
      (total ρ (negate w s))
      (worth w ρ s)
      (alike_plus (alike_same w {a = total ρ (negate w s)} refl) (alike_wrap w (total ρ s)) ⨾ negate_total s)

  pub subtract_worth : (s t r : Sum) → subtract w s t ≡ fits r → worth w ρ r ≡ minus w (worth w ρ s) (worth w ρ t)
  unfolding subtract
  subtract_worth s t r e =
      rw (← (fit_fits (collect w (negate w t) s) e).1) (collect_worth s (negate w t) ∙ rw (negate_worth, minus_is) refl)

  -- Product: a merged list of symbols is worth the product of the two.

  place_powers : (x : ℕ) (l : List ℕ) → powers ρ (place x l) ≡ ρ x * powers ρ l
  unfolding place powers
  place_powers x [] = refl
  place_powers x (y ∷ l) = by (leb x y) (place_powers x l)
    where
      by : (b : Bool) → powers ρ (place x l) ≡ ρ x * powers ρ l → powers ρ (cond b (x ∷ y ∷ l) (y ∷ place x l)) ≡ ρ x * powers ρ (y ∷ l)
      by true later = refl
      by false later = rw later (omega arith)

  merge_powers : (l m : List ℕ) → powers ρ (merge l m) ≡ powers ρ l * powers ρ m
  unfolding merge powers
  merge_powers [] m = omega arith
  merge_powers (x ∷ l) m = rw (place_powers, merge_powers l m) (omega arith)

  -- The coefficients of a product of two terms, wrapped, with all symbols.
  times_total : (t u : Term) → Alike w (times w t.coefficient u.coefficient * powers ρ (merge t.symbols u.symbols)) (term_total ρ t * term_total ρ u)
  unfolding times term_total
  times_total t u =
      alike_times (alike_wrap w (t.coefficient * u.coefficient)) (alike_same w (merge_powers t.symbols u.symbols))
      ⨾ alike_same w (omega arith)

  term_product_total : (t u : Term) (ts : List Term) → term_product w t u ≡ fits ts → Alike w (total ρ ts) (term_total ρ t * term_total ρ u)
  unfolding term_product total
  term_product_total t u ts e = by (eqb (times w t.coefficient u.coefficient) 0) (leb (length t.symbols + length u.symbols) 4) refl e
    where
      both : Term
      both = record { coefficient = times w t.coefficient u.coefficient; symbols = merge t.symbols u.symbols }

      Goal : Type 0
      Goal = Alike w (total ρ ts) (term_total ρ t * term_total ρ u)

      by : (a b : Bool) → eqb (times w t.coefficient u.coefficient) 0 ≡ a → cond a (fits []) (cond b (fits (both ∷ [])) too_large) ≡ fits ts → Goal
      by true b z e = rw (← (fits_same e)) (alike_same w (gone (eqb-true _ _ z)) ⨾ times_total t u)
        where
          gone : times w t.coefficient u.coefficient ≡ 0 → 0 ≡ times w t.coefficient u.coefficient * powers ρ (merge t.symbols u.symbols)
          gone z = rw z (omega arith)
      by false b z e = rw (← (fits_same (cond_fits b _ e).1)) (alike_same w (omega arith) ⨾ times_total t u)

  -- A product that is worth a times each member's worth is worth a times the list's.
  products_total : (f : Term → Outcome (List Term)) (a : ℕ) → ((u : Term) (ts : List Term) → f u ≡ fits ts → Alike w (total ρ ts) (a * term_total ρ u)) → (us ts : List Term) → products f us ≡ fits ts → Alike w (total ρ ts) (a * total ρ us)
  unfolding products total
  products_total f a h [] ts e = rw (← (fits_same e)) (alike_same w (omega arith))
  products_total f a h (u ∷ us) ts e =
      let (xs, ex, e') = and_then_fits (f u) _ e in
      let (ys, ey, e'') = and_then_fits (products f us) _ e' in
      rw (← (fits_same e''), total_append)
      (alike_plus (h u xs ex) (products_total f a h us ys ey) ⨾ alike_same w (shared a u us))
    where
      shared : (a : ℕ) (u : Term) (us : Sum) → a * term_total ρ u + a * total ρ us ≡ a * total ρ (u ∷ us)
      shared a u us = omega (arith, ap (λ (x : ℕ). a * x) (total_cons u us))

  pub multiply_worth : (s t r : Sum) → multiply w s t ≡ fits r → worth w ρ r ≡ times w (worth w ρ s) (worth w ρ t)
  unfolding multiply times worth total
  multiply_worth s t r e =
      let h = cond_fits (leb (length s * length t) 64) _ e in
      let (ts, et, e') = and_then_fits (products (λ x. products (term_product w x) t) s) _ h.1 in
      let f = products_total (λ x. products (term_product w x) t) (total ρ t) (inner t) s ts et in
      rw (← (fit_fits (collect w ts []) e').1) (whole s t ts f)
    where
      inner : (t : Sum) (x : Term) (ts : List Term) → products (term_product w x) t ≡ fits ts → Alike w (total ρ ts) (total ρ t * term_total ρ x)
      inner t x ts e =
          products_total (term_product w x) (term_total ρ x) (term_product_total x) t ts e ⨾ alike_same w (mul_comm (term_total ρ x) (total ρ t))

      whole : (s t ts : Sum) → Alike w (total ρ ts) (total ρ t * total ρ s) → worth w ρ (collect w ts []) ≡ wrap w (worth w ρ s * worth w ρ t)
      whole s t ts f =
          (collect_total ts []
          ⨾ alike_same w (omega arith)
          ⨾ f
          ⨾ alike_same w (mul_comm (total ρ t) (total ρ s))
          ⨾ alike_times (worth_alike s) (worth_alike t)).wraps

  -- The variable's value is what its sum is worth.
  pub variable_worth : (env : List Sum) (v : ℕ) → get_or (map (worth w ρ) env) v 0 ≡ worth w ρ (get_or env v empty)
  variable_worth env v = ap (get_or (map (worth w ρ) env) v) (sym empty_worth) ∙ get_or-map (worth w ρ) env v empty

  -- An operation on two sums that is worth an operation on words, of two expressions that are worth their values.
  two : (env : List Sum) (l r : Expr) (op : Sum → Sum → Outcome Sum) (on : ℕ → ℕ → ℕ) → ((s t u : Sum) → op s t ≡ fits u → worth w ρ u ≡ on (worth w ρ s) (worth w ρ t)) → (a b : ℕ) → ((s : Sum) → sum_of w env l ≡ fits s → worth w ρ s ≡ a) → ((s : Sum) → sum_of w env r ≡ fits s → worth w ρ s ≡ b) → (s : Sum) → and_then (sum_of w env l) (λ x. and_then (sum_of w env r) (λ y. op x y)) ≡ fits s → worth w ρ s ≡ on a b
  two env l r op on h a b hl hr s e =
      let (x, ex, e') = and_then_fits (sum_of w env l) _ e in
      let (y, ey, e'') = and_then_fits (sum_of w env r) _ e' in
      rw (h x y s e'', hl x ex, hr y ey) refl

  -- The normal sum of an expression is worth the expression's value, where each variable is worth its sum.
  pub sum_of_worth : (env : List Sum) (e : Expr) (s : Sum) → sum_of w env e ≡ fits s → worth w ρ s ≡ value w (map (worth w ρ) env) e
  unfolding sum_of value
  sum_of_worth env (constant c) s e = rw (← (fits_same e)) (constant_worth c)
  sum_of_worth env (variable v) s e = rw (← (fits_same e)) (sym (variable_worth env v))
  sum_of_worth env (sum l r) s e = two env l r (add w) (plus w) add_worth _ _ (sum_of_worth env l) (sum_of_worth env r) s e
  sum_of_worth env (difference l r) s e = two env l r (subtract w) (minus w) subtract_worth _ _ (sum_of_worth env l) (sum_of_worth env r) s e
  sum_of_worth env (product l r) s e = two env l r (multiply w) (times w) multiply_worth _ _ (sum_of_worth env l) (sum_of_worth env r) s e
  sum_of_worth env (negation a) s e =
      let (x, ex, e') = and_then_fits (sum_of w env a) _ e in
      rw (← (fits_same e'), negate_worth, sum_of_worth env a x ex) refl
