-- The operations on packed terms are the paper's: packing what an operation of `model` gives is the packed operation on what is
-- packed. Stated for any function that packs lists of symbols, and any condition on those lists, by two laws: on lists that meet
-- the condition equal numbers are equal lists, and the order of numbers is the paper's order of lists. The product asks two more:
-- packed lists are merged as the lists are, and what is merged meets the condition. Assumes nothing else.
use Prim.Native.Nat.{ℕ, ◌+◌, ◌*◌, ◌≤◌}
use mathlib.Core.Path.{◌≡◌, refl, ap, ◌∙◌}
use mathlib.Core.Bool.{Bool, true, false, cond, ◌&&◌}
use mathlib.Core.List.{List, [], ◌∷◌, ◌++◌, map}
use lib.Dec.{leb, ltb, eqb}
use lib.ListN.{length, length-map}
use borrow.Author.Tests.{leb-true}
use Rattle.model.specs.Word.{wrap, times}
use Rattle.model.specs.Sum.{Term, Sum, Outcome, too_large, fits, and_then, same, same_term, same_sum, precedes, keep, insert, collect, fit, constant_sum, symbol_sum, add, negate_term, negate, subtract, merge, term_product, products, multiply}
use Rattle.model.proofs.Normal.{joined, keep_cases, insert_cases}
use Rattle.model.proofs.Basics.{cond_fits, and_then_fits, fits_same}
use Rattle.key.specs.Key.{merged_of}
use Rattle.std.specs.Prelude.{Some, None}
use Rattle.sum.specs.declared.Term as Code
use Rattle.sum.specs.Packed.{keep_k, joined_k, insert_k, collect_k, fit_k, constant_k, symbol_k, add_k, negate_term_k, negate_k, subtract_k, merged_term_k, term_product_k, products_k, multiply_k, same_term_k, same_k, pack_term, pack_sum, pack_outcome}

-- The symbols of every term meet a condition.
unfoldable pub AllPack : (List ℕ → Type 0) → List Term → Type 0
AllPack Packs [] = Unit {0}
AllPack Packs (t ∷ s) = Packs t.symbols × AllPack Packs s

module _ (Packs : List ℕ → Type 0) (pack : List ℕ → ℕ)
    (equal : (l m : List ℕ) → Packs l → Packs m → eqb (pack l) (pack m) ≡ same eqb l m)
    (order : (l m : List ℕ) → Packs l → Packs m → ltb (pack l) (pack m) ≡ precedes l m) where
  -- A packed term is kept in front as the term is.
  keep_packed : (t : Term) (s : Sum) → pack_sum pack (keep t s) ≡ keep_k (pack_term pack t) (pack_sum pack s)
  unfolding keep keep_k pack_sum pack_term
  keep_packed t s = split (eqb t.coefficient 0)
    where
      split : (b : Bool) → map (pack_term pack) (cond b s (t ∷ s)) ≡ cond b (map (pack_term pack) s) (pack_term pack t ∷ map (pack_term pack) s)
      split true = refl
      split false = refl

  keep_pack : (t : Term) (s : Sum) → Packs t.symbols → AllPack Packs s → AllPack Packs (keep t s)
  unfolding AllPack
  keep_pack t s h k = keep_cases (AllPack Packs) t s (λ _. k) (λ _. (h, k))

  -- An insertion.
  pub insert_packed : (w : ℕ) (t : Term) (s : Sum) → Packs t.symbols → AllPack Packs s
      → pack_sum pack (insert w t s) ≡ insert_k w (pack_term pack t) (pack_sum pack s)
  unfolding insert insert_k pack_sum pack_term joined_k AllPack
  insert_packed w t [] h k = keep_packed t []
  insert_packed w t (u ∷ s) h k =
      rw (equal t.symbols u.symbols h k.0, order t.symbols u.symbols h k.0)
      (split (same eqb t.symbols u.symbols) (precedes t.symbols u.symbols) (insert_packed w t s h k.1))
    where
      later : List Code.Term
      later = insert_k w (pack_term pack t) (pack_sum pack s)

      split : (a b : Bool) → pack_sum pack (insert w t s) ≡ later
          → pack_sum pack (cond a (keep (joined w t u) s) (cond b (keep t (u ∷ s)) (u ∷ insert w t s)))
          ≡ cond a (keep_k (joined_k w (pack_term pack t) (pack_term pack u)) (pack_sum pack s))
          (cond b (keep_k (pack_term pack t) (pack_term pack u ∷ pack_sum pack s)) (pack_term pack u ∷ later))
      split true b e = keep_packed (joined w t u) s
      split false true e = keep_packed t (u ∷ s)
      split false false e = ap (λ r. pack_term pack u ∷ r) e

  pub insert_pack : (w : ℕ) (t : Term) (s : Sum) → Packs t.symbols → AllPack Packs s → AllPack Packs (insert w t s)
  unfolding AllPack insert
  insert_pack w t [] h k = keep_pack t [] h k
  insert_pack w t (u ∷ s) h k =
      insert_cases (AllPack Packs) w t u s
      (λ _. keep_pack (joined w t u) s k.0 k.1)
      (λ _. keep_pack t (u ∷ s) h k)
      (λ _. (k.0, insert_pack w t s h k.1))

  -- A collection.
  pub collect_packed : (w : ℕ) (ts : List Term) (s : Sum) → AllPack Packs ts → AllPack Packs s
      → pack_sum pack (collect w ts s) ≡ collect_k w (pack_sum pack ts) (pack_sum pack s)
  unfolding collect collect_k pack_sum AllPack
  collect_packed w [] s h k = refl
  collect_packed w (t ∷ ts) s h k =
      collect_packed w ts (insert w t s) h.1 (insert_pack w t s h.0 k)
      ∙ ap (collect_k w (pack_sum pack ts)) (insert_packed w t s h.0 k)

  pub collect_pack : (w : ℕ) (ts : List Term) (s : Sum) → AllPack Packs ts → AllPack Packs s → AllPack Packs (collect w ts s)
  unfolding collect AllPack
  collect_pack w [] s h k = k
  collect_pack w (t ∷ ts) s h k = collect_pack w ts (insert w t s) h.1 (insert_pack w t s h.0 k)

  -- What fits.
  pub fit_packed : (s : Sum) → pack_outcome pack (fit s) ≡ fit_k (pack_sum pack s)
  unfolding fit fit_k pack_sum pack_outcome
  fit_packed s = rw length-map (split (leb (length s) 16))
    where
      split : (b : Bool) → pack_outcome pack (cond b (fits s) too_large) ≡ cond b (fits (map (pack_term pack) s)) too_large
      split true = refl
      split false = refl

  pub fit_pack : (s r : Sum) → AllPack Packs s → fit s ≡ fits r → AllPack Packs r
  unfolding fit
  fit_pack s r h e =
      let (_, d) = cond_fits (leb (length s) 16) (fits s) e in
      rw (← (fits_same d)) h

  -- A sum of two sums.
  pub add_packed : (w : ℕ) (s t : Sum) → AllPack Packs s → AllPack Packs t
      → pack_outcome pack (add w s t) ≡ add_k w (pack_sum pack s) (pack_sum pack t)
  unfolding add add_k
  add_packed w s t h k = fit_packed (collect w t s) ∙ ap fit_k (collect_packed w t s k h)

  pub add_pack : (w : ℕ) (s t r : Sum) → AllPack Packs s → AllPack Packs t → add w s t ≡ fits r → AllPack Packs r
  unfolding add
  add_pack w s t r h k e = fit_pack (collect w t s) r (collect_pack w t s k h) e

  -- A negation.
  pub negate_packed : (w : ℕ) (s : Sum) → pack_sum pack (negate w s) ≡ negate_k w (pack_sum pack s)
  unfolding negate negate_term negate_k negate_term_k pack_sum pack_term
  negate_packed w [] = refl
  negate_packed w (t ∷ s) = ap (λ r. negate_term_k w (pack_term pack t) ∷ r) (negate_packed w s)

  pub negate_pack : (w : ℕ) (s : Sum) → AllPack Packs s → AllPack Packs (negate w s)
  unfolding negate negate_term AllPack
  negate_pack w [] h = h
  negate_pack w (t ∷ s) h = (h.0, negate_pack w s h.1)

  -- A difference of two sums.
  pub subtract_packed : (w : ℕ) (s t : Sum) → AllPack Packs s → AllPack Packs t
      → pack_outcome pack (subtract w s t) ≡ subtract_k w (pack_sum pack s) (pack_sum pack t)
  unfolding subtract subtract_k
  subtract_packed w s t h k =
      fit_packed (collect w (negate w t) s)
      ∙ ap fit_k (collect_packed w (negate w t) s (negate_pack w t k) h ∙ ap (λ l. collect_k w l (pack_sum pack s)) (negate_packed w t))

  pub subtract_pack : (w : ℕ) (s t r : Sum) → AllPack Packs s → AllPack Packs t → subtract w s t ≡ fits r → AllPack Packs r
  unfolding subtract
  subtract_pack w s t r h k e = fit_pack _ r (collect_pack w (negate w t) s (negate_pack w t k) h) e

  -- A comparison.
  pub same_packed : (s t : Sum) → AllPack Packs s → AllPack Packs t → same_sum s t ≡ same_k (pack_sum pack s) (pack_sum pack t)
  unfolding same_sum same_k same same_term same_term_k pack_sum pack_term AllPack
  same_packed [] [] h k = refl
  same_packed [] (u ∷ t) h k = refl
  same_packed (a ∷ s) [] h k = refl
  same_packed (a ∷ s) (u ∷ t) h k =
      rw (equal a.symbols u.symbols h.0 k.0)
      (ap (λ b. (eqb a.coefficient u.coefficient && same eqb a.symbols u.symbols) && b) (same_packed s t h.1 k.1))

  -- A constant, if the empty list is packed as 0.
  pub constant_packed : (w c : ℕ) → pack [] ≡ 0 → pack_sum pack (constant_sum w c) ≡ constant_k w c
  unfolding constant_sum constant_k pack_sum pack_term
  constant_packed w c e =
      keep_packed (record { coefficient = wrap w c; symbols = [] }) []
      ∙ ap (λ m. keep_k (record { coef = wrap w c; mono = m }) []) e

  pub constant_pack : (w c : ℕ) → Packs [] → AllPack Packs (constant_sum w c)
  unfolding constant_sum AllPack
  constant_pack w c h = keep_pack (record { coefficient = wrap w c; symbols = [] }) [] h tt

  -- A symbol.
  pub symbol_packed : (x : ℕ) → pack_sum pack (symbol_sum x) ≡ symbol_k (pack (x ∷ []))
  unfolding symbol_sum symbol_k pack_sum pack_term
  symbol_packed x = refl

  pub symbol_pack : (x : ℕ) → Packs (x ∷ []) → AllPack Packs (symbol_sum x)
  unfolding symbol_sum AllPack
  symbol_pack x h = (h, tt)

  -- What one list and then another gives, where both fit.
  both : {A : Type 0} → Outcome (List A) → Outcome (List A) → Outcome (List A)
  both a b = and_then a (λ xs. and_then b (λ ys. fits (xs ++ ys)))

  append_packed : (xs ys : List Term) → pack_sum pack (xs ++ ys) ≡ pack_sum pack xs ++ pack_sum pack ys
  unfolding pack_sum
  append_packed [] ys = refl
  append_packed (x ∷ xs) ys = ap (λ r. pack_term pack x ∷ r) (append_packed xs ys)

  both_packed : (a b : Outcome (List Term)) → pack_outcome pack (both a b) ≡ both (pack_outcome pack a) (pack_outcome pack b)
  unfolding both and_then pack_outcome
  both_packed too_large b = refl
  both_packed (fits xs) too_large = refl
  both_packed (fits xs) (fits ys) = ap fits (append_packed xs ys)

  append_pack : (xs ys : List Term) → AllPack Packs xs → AllPack Packs ys → AllPack Packs (xs ++ ys)
  unfolding AllPack
  append_pack [] ys h k = k
  append_pack (x ∷ xs) ys h k = (h.0, append_pack xs ys h.1 k)

  -- All products of a list's members, if the products with each are packed.
  products_packed : (f : Term → Outcome (List Term)) (f' : Code.Term → Outcome (List Code.Term))
      → ((u : Term) → Packs u.symbols → pack_outcome pack (f u) ≡ f' (pack_term pack u))
      → (us : List Term) → AllPack Packs us → pack_outcome pack (products f us) ≡ products_k f' (pack_sum pack us)
  unfolding products products_k pack_sum pack_outcome AllPack both
  products_packed f f' h [] k = refl
  products_packed f f' h (u ∷ us) k =
      both_packed (f u) (products f us) ∙ (λ i. both (h u k.0 i) (products_packed f f' h us k.1 i))

  products_pack : (f : Term → Outcome (List Term))
      → ((u : Term) → Packs u.symbols → (ts : List Term) → f u ≡ fits ts → AllPack Packs ts)
      → (us : List Term) → AllPack Packs us → (ts : List Term) → products f us ≡ fits ts → AllPack Packs ts
  unfolding products AllPack
  products_pack f h [] k ts e =
      let d : [] ≡ ts = fits_same e in
      rw (← d) tt
  products_pack f h (u ∷ us) k ts e =
      let (xs, p, d) = and_then_fits (f u) _ e in
      let (ys, q, c) = and_then_fits (products f us) _ d in
      rw (← (fits_same c)) (append_pack xs ys (h u k.0 xs p) (products_pack f h us k.1 ys q))

  module _
      (merged : (l m : List ℕ) → Packs l → Packs m
      → merged_of (pack l) (pack m) ≡ cond (leb (length l + length m) 4) (Some (pack (merge l m))) None)
      (merges : (l m : List ℕ) → Packs l → Packs m → length l + length m ≤ 4 → Packs (merge l m)) where
    -- The product of two terms.
    term_product_packed : (w : ℕ) (t u : Term) → Packs t.symbols → Packs u.symbols
        → pack_outcome pack (term_product w t u) ≡ term_product_k w (pack_term pack t) (pack_term pack u)
    unfolding term_product term_product_k merged_term_k pack_outcome pack_sum pack_term
    term_product_packed w t u h k =
        rw (merged t.symbols u.symbols h k)
        (split (eqb (times w t.coefficient u.coefficient) 0) (leb (length t.symbols + length u.symbols) 4))
      where
        c : ℕ
        c = times w t.coefficient u.coefficient

        l : List ℕ
        l = merge t.symbols u.symbols

        split : (a b : Bool)
            → pack_outcome pack (cond a (fits []) (cond b (fits (record { coefficient = c; symbols = l } ∷ [])) too_large))
            ≡ cond a (fits []) (merged_term_k c (cond b (Some (pack l)) None))
        split true b = refl
        split false true = refl
        split false false = refl

    term_product_pack : (w : ℕ) (t u : Term) → Packs t.symbols → Packs u.symbols
        → (ts : List Term) → term_product w t u ≡ fits ts → AllPack Packs ts
    unfolding term_product AllPack
    term_product_pack w t u h k ts = split (eqb (times w t.coefficient u.coefficient) 0)
      where
        one : Term
        one = record { coefficient = times w t.coefficient u.coefficient; symbols = merge t.symbols u.symbols }

        split : (a : Bool)
            → cond a (fits []) (cond (leb (length t.symbols + length u.symbols) 4) (fits (one ∷ [])) too_large) ≡ fits ts
            → AllPack Packs ts
        split true e =
            let d : [] ≡ ts = fits_same e in
            rw (← d) tt
        split false e =
            let (n, d) = cond_fits (leb (length t.symbols + length u.symbols) 4) (fits (one ∷ [])) e in
            rw (← (fits_same d)) (merges t.symbols u.symbols h k (leb-true _ 4 n), tt)

    -- All products of two sums' terms.
    all_packed : (w : ℕ) (s t : Sum) → AllPack Packs s → AllPack Packs t
        → pack_outcome pack (products (λ x. products (term_product w x) t) s)
        ≡ products_k (λ x. products_k (term_product_k w x) (pack_sum pack t)) (pack_sum pack s)
    all_packed w s t h k =
        products_packed (λ x. products (term_product w x) t) (λ x. products_k (term_product_k w x) (pack_sum pack t))
        (λ x p. products_packed (term_product w x) (term_product_k w (pack_term pack x)) (λ u q. term_product_packed w x u p q) t k)
        s h

    all_pack : (w : ℕ) (s t : Sum) → AllPack Packs s → AllPack Packs t
        → (ts : List Term) → products (λ x. products (term_product w x) t) s ≡ fits ts → AllPack Packs ts
    all_pack w s t h k =
        products_pack (λ x. products (term_product w x) t)
        (λ x p. products_pack (term_product w x) (λ u q. term_product_pack w x u p q) t k) s h

    -- Products, collected.
    collected : (w : ℕ) (o : Outcome (List Term)) (o' : Outcome (List Code.Term)) → pack_outcome pack o ≡ o'
        → ((ts : List Term) → o ≡ fits ts → AllPack Packs ts)
        → pack_outcome pack (and_then o (λ ts. fit (collect w ts []))) ≡ and_then o' (λ ts. fit_k (collect_k w ts []))
    unfolding and_then pack_outcome pack_sum AllPack
    collected w too_large o' e h = ap (λ o. and_then o (λ ts. fit_k (collect_k w ts []))) e
    collected w (fits ts) o' e h =
        fit_packed (collect w ts [])
        ∙ ap fit_k (collect_packed w ts [] (h ts refl) tt)
        ∙ ap (λ o. and_then o (λ ts. fit_k (collect_k w ts []))) e

    -- A product of two sums.
    pub multiply_packed : (w : ℕ) (s t : Sum) → AllPack Packs s → AllPack Packs t
        → pack_outcome pack (multiply w s t) ≡ multiply_k w (pack_sum pack s) (pack_sum pack t)
    unfolding multiply multiply_k pack_sum pack_outcome
    multiply_packed w s t h k =
        rw (lengths s, lengths t)
        (split (leb (length s * length t) 64) _ _ (collected w _ _ (all_packed w s t h k) (all_pack w s t h k)))
      where
        lengths : (s : Sum) → length (pack_sum pack s) ≡ length s
        lengths s = simp length-map

        split : (b : Bool) (o : Outcome Sum) (o' : Outcome (List Code.Term)) → pack_outcome pack o ≡ o'
            → pack_outcome pack (cond b o too_large) ≡ cond b o' too_large
        split true o o' e = e
        split false o o' e = refl

    pub multiply_pack : (w : ℕ) (s t r : Sum) → AllPack Packs s → AllPack Packs t → multiply w s t ≡ fits r → AllPack Packs r
    unfolding multiply AllPack
    multiply_pack w s t r h k e =
        let (_, g) = cond_fits (leb (length s * length t) 64) _ e in
        let (ts, p, d) = and_then_fits (products (λ x. products (term_product w x) t) s) _ g in
        fit_pack (collect w ts []) r (collect_pack w ts [] (all_pack w s t h k ts p) tt) d
