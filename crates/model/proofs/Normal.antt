-- Every operation on normal sums gives a normal sum or too large: the order of symbol lists, collecting, and each operation in turn.
-- 01, "The normal sum": "A normal sum has at most 16 terms with distinct symbol lists, shorter lists first", and "Sum, difference,
-- negation and product collect equal lists with coefficients modulo 2^32 and drop zeros." Here over every width. Assumes nothing.
use Prim.Native.Nat.{ℕ, suc, ◌+◌, ◌-◌, ◌*◌, ◌^◌, ◌≤◌, ◌<◌}
use mathlib.Core.Path.{◌≡◌, refl, sym, ◌∙◌, ap}
use mathlib.Core.Logic.{◌⊎◌, inl, inr, ⊎_elim}
use mathlib.Core.Bool.{Bool, true, false, cond, ◌&&◌, ◌||◌}
use mathlib.Core.List.Memᴰ
use mathlib.Core.List.{List, [], ◌∷◌, ◌++◌, Memᴰ}
use native.Mathlib.Nat.{mod-eq_of_lt}
use native.Mathlib.Omega.{arith}
use lib.Dec.{leb, ltb, eqb}
use lib.ListN.{length, get_or, length-map}
use lib.Pow.{pow-lt}
use borrow.Author.Tests.{ltb-true, ltb-false, leb-true, leb-false, eqb-true, eqb-false, lt-ltb, le-ltb, eq-eqb}
use Rattle.model.specs.Word.{wrap, plus, times, negated}
use Rattle.model.specs.Expr.{Expr, constant, variable, sum, difference, product, negation}
use Rattle.model.specs.Sum.{Term, Sum, Outcome, too_large, fits, and_then, same, lower, precedes, keep, insert, collect, fit, empty, constant_sum, symbol_sum, add, negate_term, negate, subtract, place, merge, term_product, products, multiply, sum_of, Rising, NormalTerm, Before, Terms, Normal}
use Rattle.model.proofs.Basics.{clash, and_left, and_right, or_cases, same_symbols, and_then_fits, cond_fits, fits_same}
use Rattle.model.proofs.Words.{wrap_lt}

-- The order of symbol lists.

-- The order asks twice for a lower number, or for an equal one and something later: by length, and by symbol.
abbrev earlier : ℕ → ℕ → Bool → Bool
earlier a b later = ltb a b || (eqb a b && later)

-- What this test says.
abbrev Ahead : ℕ → ℕ → Bool → Type 0
Ahead a b later = (a < b) ⊎ ((a ≡ b) × (later ≡ true))

-- The test passes only where what it says is so.
earlier_true : (a b : ℕ) (later : Bool) → earlier a b later ≡ true → Ahead a b later
earlier_true a b later e =
    ⊎_elim
    (λ p. inl (ltb-true a b p))
    (λ q. inr (eqb-true a b (and_left (eqb a b) later q), and_right (eqb a b) later q))
    (or_cases (ltb a b) (eqb a b && later) e)

-- The test passes where what it says is so.
earlier_of : (a b : ℕ) (later : Bool) → Ahead a b later → earlier a b later ≡ true
earlier_of a b later (inl h) = rw (lt-ltb a b h) refl
earlier_of a b later (inr h) = rw (le-ltb a b (omega arith), eq-eqb a b h.0) h.1

-- It is transitive, if what comes later is.
earlier_trans : (a b c : ℕ) (p q r : Bool) → (p ≡ true → q ≡ true → r ≡ true) → earlier a b p ≡ true → earlier b c q ≡ true → earlier a c r ≡ true
earlier_trans a b c p q r h d e = earlier_of a c r (join (earlier_true a b p d) (earlier_true b c q e))
  where
    join : Ahead a b p → Ahead b c q → Ahead a c r
    join (inl x) (inl y) = inl (omega arith)
    join (inl x) (inr y) = inl (omega arith)
    join (inr x) (inl y) = inl (omega arith)
    join (inr x) (inr y) = inr (x.0 ∙ y.0, h x.1 y.1)

-- It fails for a number and itself, if what comes later does.
earlier_irreflexive : (a : ℕ) (p : Bool) → p ≡ false → earlier a a p ≡ false
earlier_irreflexive a p e = rw (le-ltb a a (omega arith), eq-eqb a a refl) e

-- If it fails one way it passes the other way, if what comes later does so at equal numbers.
earlier_total : (a b : ℕ) (p q : Bool) → (a ≡ b → p ≡ false → q ≡ true) → earlier a b p ≡ false → earlier b a q ≡ true
earlier_total a b p q h e = earlier_of b a q (split (ltb a b) refl (ltb b a) refl)
  where
    split : (x : Bool) → ltb a b ≡ x → (y : Bool) → ltb b a ≡ y → Ahead b a q
    split true x y f = clash (earlier_of a b p (inl (ltb-true a b x))) e
    split false x true y = inl (ltb-true b a y)
    split false x false y =
        let z : a ≡ b = omega (arith, ltb-false a b x, ltb-false b a y) in
        inr (sym z, h z (rw (x, eq-eqb a b z) at e))

-- "At the first differing symbol, the lower" is transitive.
lower_trans : (l m n : List ℕ) → lower l m ≡ true → lower m n ≡ true → lower l n ≡ true
unfolding lower
lower_trans [] m n d e = d
lower_trans (a ∷ l) [] n d e = clash d refl
lower_trans (a ∷ l) (b ∷ m) [] d e = e
lower_trans (a ∷ l) (b ∷ m) (c ∷ n) d e =
    earlier_trans a b c (lower l m) (lower m n) (lower l n) (lower_trans l m n) d e

-- No list is lower than itself.
lower_irreflexive : (l : List ℕ) → lower l l ≡ false
unfolding lower
lower_irreflexive [] = refl
lower_irreflexive (a ∷ l) = earlier_irreflexive a (lower l l) (lower_irreflexive l)

-- Of two lists of one length that are not the same, one is lower.
lower_total : (l m : List ℕ) → length l ≡ length m → same eqb l m ≡ false → lower l m ≡ false → lower m l ≡ true
unfolding lower same
lower_total [] [] n d e = clash refl d
lower_total [] (b ∷ m) n d e = absurd (omega arith)
lower_total (a ∷ l) [] n d e = absurd (omega arith)
lower_total (a ∷ l) (b ∷ m) n d e =
    earlier_total a b (lower l m) (lower m l) (λ z p. lower_total l m (omega arith) (rw (eq-eqb a b z) at d) p) e

-- A list that precedes one that precedes a third precedes the third.
pub precedes_trans : (l m n : List ℕ) → precedes l m ≡ true → precedes m n ≡ true → precedes l n ≡ true
unfolding precedes
precedes_trans l m n d e =
    earlier_trans (length l) (length m) (length n) (lower l m) (lower m n) (lower l n) (lower_trans l m n) d e

-- No list precedes itself.
pub precedes_irreflexive : (l : List ℕ) → precedes l l ≡ false
unfolding precedes
precedes_irreflexive l = earlier_irreflexive (length l) (lower l l) (lower_irreflexive l)

-- Of two lists that are not the same, one precedes the other.
pub precedes_total : (l m : List ℕ) → same eqb l m ≡ false → precedes l m ≡ false → precedes m l ≡ true
unfolding precedes
precedes_total l m d e = earlier_total (length l) (length m) (lower l m) (lower m l) (λ z p. lower_total l m z d p) e

-- What stands before the terms of a sum.

-- A term that stands before a list's terms precedes each of them.
before_at : (t : Term) (s : Sum) → Before t s → {u : Term} → Memᴰ u s → precedes t.symbols u.symbols ≡ true
unfolding Before
before_at t [] b m = absurd (Memᴰ.not-nil m)
before_at t (v ∷ s) b m =
    ⊎_elim
    (λ e. ap (λ x. precedes t.symbols x.symbols) e ∙ b.0)
    (λ m'. before_at t s b.1 m')
    (Memᴰ.cases_cons m)

-- A term that stands before others has other symbols than each of them, so the terms of a normal sum have distinct lists.
pub before_distinct : (t : Term) (s : Sum) → Before t s → {u : Term} → Memᴰ u s → t.symbols ≡ u.symbols → ⊥
before_distinct t s b {u} m e = clash (rw e at (before_at t s b m)) (precedes_irreflexive u.symbols)

-- What precedes a term stands before all that this one stands before.
before_trans : (t u : Term) (s : Sum) → precedes t.symbols u.symbols ≡ true → Before u s → Before t s
unfolding Before
before_trans t u [] e b = tt
before_trans t u (v ∷ s) e b =
    (precedes_trans t.symbols u.symbols v.symbols e b.0, before_trans t u s e b.1)

-- Terms of the same symbols stand before the same terms.
before_same : (t u : Term) (s : Sum) → t.symbols ≡ u.symbols → Before u s → Before t s
unfolding Before
before_same t u [] e b = tt
before_same t u (v ∷ s) e b = (rw e b.0, before_same t u s e b.1)

-- What holds in each case of a definition holds of what it gives.

-- A term kept in front of a sum is dropped, or its coefficient is not zero.
pub keep_cases : (P : Sum → Type 0) (t : Term) (s : Sum)
    → (t.coefficient ≡ 0 → P s)
    → (0 < t.coefficient → P (t ∷ s))
    → P (keep t s)
unfolding keep
keep_cases P t s p q = split (eqb t.coefficient 0) refl
  where
    split : (x : Bool) → eqb t.coefficient 0 ≡ x → P (cond x s (t ∷ s))
    split true e = p (eqb-true t.coefficient 0 e)
    split false e = q (omega (arith, eqb-false t.coefficient 0 e))

-- Two terms of the same symbols as one.
abbrev pub joined : ℕ → Term → Term → Term
joined w t u = record { coefficient = plus w t.coefficient u.coefficient; symbols = u.symbols }

-- A term is joined with the first term of a sum, is put in front of it, or is inserted behind it.
pub insert_cases : (P : Sum → Type 0) (w : ℕ) (t u : Term) (s : Sum)
    → (t.symbols ≡ u.symbols → P (keep (joined w t u) s))
    → (precedes t.symbols u.symbols ≡ true → P (keep t (u ∷ s)))
    → (precedes u.symbols t.symbols ≡ true → P (u ∷ insert w t s))
    → P (insert w t (u ∷ s))
unfolding insert
insert_cases P w t u s p q r = split (same eqb t.symbols u.symbols) refl (precedes t.symbols u.symbols) refl
  where
    split : (x : Bool) → same eqb t.symbols u.symbols ≡ x → (y : Bool) → precedes t.symbols u.symbols ≡ y
        → P (cond x (keep (joined w t u) s) (cond y (keep t (u ∷ s)) (u ∷ insert w t s)))
    split true d y e = p (same_symbols t.symbols u.symbols d)
    split false d true e = q e
    split false d false e = r (precedes_total t.symbols u.symbols d e)

-- A symbol is placed in front of the first symbol of a list, or behind it.
pub place_cases : (P : List ℕ → Type 0) (x y : ℕ) (l : List ℕ)
    → (x ≤ y → P (x ∷ y ∷ l))
    → (y < x → P (y ∷ place x l))
    → P (place x (y ∷ l))
unfolding place
place_cases P x y l p q = split (leb x y) refl
  where
    split : (t : Bool) → leb x y ≡ t → P (cond t (x ∷ y ∷ l) (y ∷ place x l))
    split true e = p (leb-true x y e)
    split false e = q (leb-false x y e)

-- Of two outcomes that fit and are equal, what holds of the first holds of the second.
carried : {A : Type 0} (P : A → Type 0) {a b : A} → P a → fits a ≡ fits b → P b
carried P h e = rw (← (fits_same e)) h

-- Collecting.

-- What precedes a term and stands before a sum stands before the sum with the term kept.
before_keep : (t u : Term) (s : Sum) → precedes t.symbols u.symbols ≡ true → Before t s → Before t (keep u s)
unfolding Before
before_keep t u s e b = keep_cases (Before t) u s (λ _. b) (λ _. (e, b))

-- What precedes a term and stands before a sum stands before the sum with the term inserted.
before_insert : (w : ℕ) (t u : Term) (s : Sum) → precedes t.symbols u.symbols ≡ true → Before t s → Before t (insert w u s)
unfolding Before insert
before_insert w t u [] e b = before_keep t u [] e b
before_insert w t u (v ∷ s) e b =
    insert_cases (Before t) w u v s
    (λ _. before_keep t (joined w u v) s b.0 b.1)
    (λ _. before_keep t u (v ∷ s) e b)
    (λ _. (b.0, before_insert w t u s e b.1))

-- A term that may be collected: as a normal one, but its coefficient may be zero.
pub record Ready (w : ℕ) (t : Term) : Type 0 where
  pub reduced : t.coefficient < 2 ^ w
  pub short : length t.symbols ≤ 4
  pub rising : Rising t.symbols

-- All terms of a list are ready.
unfoldable pub AllReady : ℕ → List Term → Type 0
AllReady w [] = Unit {0}
AllReady w (t ∷ ts) = Ready w t × AllReady w ts

-- A ready term kept in front of terms that it stands before gives terms in order.
keep_terms : (w : ℕ) (t : Term) (s : Sum) → Ready w t → Before t s → Terms w s → Terms w (keep t s)
unfolding Terms
keep_terms w t s h b k =
    keep_cases (Terms w) t s (λ _. k)
    (λ n. (record { nonzero = n; reduced = h.reduced; short = h.short; rising = h.rising }, b, k))

-- A ready term inserted into terms in order gives terms in order.
pub insert_terms : (w : ℕ) (t : Term) (s : Sum) → Ready w t → Terms w s → Terms w (insert w t s)
unfolding insert Terms Before plus
insert_terms w t [] h k = keep_terms w t [] h tt tt
insert_terms w t (u ∷ s) h k =
    let r : Ready w (joined w t u) = record { reduced = wrap_lt w _; short = k.0.short; rising = k.0.rising } in
    insert_cases (Terms w) w t u s
    (λ _. keep_terms w (joined w t u) s r (before_same (joined w t u) u s refl k.1) k.2)
    (λ e. keep_terms w t (u ∷ s) h (e, before_trans t u s e k.1) k)
    (λ e. (k.0, before_insert w u t s e k.1, insert_terms w t s h k.2))

-- Ready terms collected into terms in order give terms in order.
pub collect_terms : (w : ℕ) (ts : List Term) (s : Sum) → AllReady w ts → Terms w s → Terms w (collect w ts s)
unfolding collect AllReady
collect_terms w [] s h k = k
collect_terms w (t ∷ ts) s h k = collect_terms w ts (insert w t s) h.1 (insert_terms w t s h.0 k)

-- The terms of a normal sum are ready to be collected.
pub terms_ready : (w : ℕ) (s : Sum) → Terms w s → AllReady w s
unfolding Terms AllReady
terms_ready w [] k = tt
terms_ready w (t ∷ s) k =
    (record { reduced = k.0.reduced; short = k.0.short; rising = k.0.rising }, terms_ready w s k.2)

-- Terms in order that fit are a normal sum.
fit_normal : (w : ℕ) (s r : Sum) → Terms w s → fit s ≡ fits r → Normal w r
unfolding fit
fit_normal w s r k e =
    let (t, d) = cond_fits (leb (length s) 16) (fits s) e in
    carried (Normal w) (record { terms = k; few = leb-true (length s) 16 t }) d

-- The operations.

-- The empty sum is normal.
pub empty_normal : (w : ℕ) → Normal w empty
unfolding empty Terms
empty_normal w = record { terms = tt; few = omega arith }

-- A normal term alone is a normal sum.
single_normal : (w : ℕ) (t : Term) → NormalTerm w t → Normal w (t ∷ [])
unfolding Terms Before
single_normal w t h = record { terms = (h, tt, tt); few = omega arith }

-- A constant is a normal sum.
pub constant_normal : (w c : ℕ) → Normal w (constant_sum w c)
unfolding constant_sum empty Rising
constant_normal w c =
    let t : Term = record { coefficient = wrap w c; symbols = [] } in
    keep_cases (Normal w) t [] (λ _. empty_normal w)
    (λ n. single_normal w t (record { nonzero = n; reduced = wrap_lt w c; short = omega arith; rising = tt }))

-- A symbol is a normal sum.
pub symbol_normal : (w x : ℕ) → 0 < w → Normal w (symbol_sum x)
unfolding symbol_sum Rising
symbol_normal w x h =
    single_normal w _ (record { nonzero = omega arith; reduced = pow-lt h; short = omega arith; rising = tt })

-- The sum of two normal sums is normal or too large.
pub add_normal : (w : ℕ) (s t r : Sum) → Normal w s → Normal w t → add w s t ≡ fits r → Normal w r
unfolding add
add_normal w s t r h k e = fit_normal w (collect w t s) r (collect_terms w t s (terms_ready w t k.terms) h.terms) e

-- The negation of a normal term is normal.
negate_term_normal : (w : ℕ) (t : Term) → NormalTerm w t → NormalTerm w (negate_term w t)
unfolding negate_term negated wrap
negate_term_normal w t h =
    let c : ℕ = t.coefficient in
    let p : 2 ^ w - wrap w c ≡ 2 ^ w - c = rw (mod-eq_of_lt h.reduced) refl in
    let q : wrap w (2 ^ w - wrap w c) ≡ 2 ^ w - c = rw p (mod-eq_of_lt (omega arith)) in
    record { nonzero = omega arith; reduced = wrap_lt w _; short = h.short; rising = h.rising }

-- Negations stand in the same order.
before_negate : (w : ℕ) (t : Term) (s : Sum) → Before t s → Before (negate_term w t) (negate w s)
unfolding Before negate negate_term
before_negate w t [] b = tt
before_negate w t (u ∷ s) b = (b.0, before_negate w t s b.1)

-- The negations of terms in order are terms in order.
negate_terms : (w : ℕ) (s : Sum) → Terms w s → Terms w (negate w s)
unfolding Terms negate
negate_terms w [] k = tt
negate_terms w (t ∷ s) k = (negate_term_normal w t k.0, before_negate w t s k.1, negate_terms w s k.2)

-- The negation of a normal sum is normal.
pub negate_normal : (w : ℕ) (s : Sum) → Normal w s → Normal w (negate w s)
unfolding negate
negate_normal w s h = record { terms = negate_terms w s h.terms; few = simp length-map h.few }

-- The difference of two normal sums is normal or too large.
pub subtract_normal : (w : ℕ) (s t r : Sum) → Normal w s → Normal w t → subtract w s t ≡ fits r → Normal w r
unfolding subtract add
subtract_normal w s t r h k e = add_normal w s (negate w t) r h (negate_normal w t k) e

-- A placed symbol makes a list one longer.
place_length : (x : ℕ) (l : List ℕ) → length (place x l) ≡ suc (length l)
unfolding place
place_length x [] = refl
place_length x (y ∷ l) =
    place_cases (λ m. length m ≡ suc (suc (length l))) x y l (λ _. refl) (λ _. ap suc (place_length x l))

-- Two lists as one have as many symbols as the two together.
pub merge_length : (l m : List ℕ) → length (merge l m) ≡ length l + length m
unfolding merge
merge_length [] m = omega arith
merge_length (x ∷ l) m = omega (arith, place_length x (merge l m), merge_length l m)

-- A symbol placed behind a lower one keeps a list rising.
place_behind : (y x : ℕ) (l : List ℕ) → y ≤ x → Rising (y ∷ l) → Rising (y ∷ place x l)
unfolding place Rising
place_behind y x [] h r = (h, tt)
place_behind y x (z ∷ l) h r =
    place_cases (λ m. Rising (y ∷ m)) x z l (λ k. (h, (k, r.1))) (λ k. (r.0, place_behind z x l (omega arith) r.1))

-- A symbol placed in a rising list gives a rising list.
place_rising : (x : ℕ) (l : List ℕ) → Rising l → Rising (place x l)
unfolding place Rising
place_rising x [] r = tt
place_rising x (y ∷ l) r = place_cases Rising x y l (λ k. (k, r)) (λ k. place_behind y x l (omega arith) r)

-- Two lists as one are rising, if the second is.
pub merge_rising : (l m : List ℕ) → Rising m → Rising (merge l m)
unfolding merge
merge_rising [] m r = r
merge_rising (x ∷ l) m r = place_rising x (merge l m) (merge_rising l m r)

-- The product of two terms is too large, or nothing, or ready.
term_product_ready : (w : ℕ) (t u : Term) → Ready w u → (ts : List Term) → term_product w t u ≡ fits ts → AllReady w ts
unfolding term_product AllReady times
term_product_ready w t u h ts = split (eqb (times w t.coefficient u.coefficient) 0)
  where
    count : ℕ
    count = length t.symbols + length u.symbols

    one : Term
    one = record { coefficient = times w t.coefficient u.coefficient; symbols = merge t.symbols u.symbols }

    ready : count ≤ 4 → Ready w one
    ready n =
        record {
          reduced = wrap_lt w _;
          short = rw merge_length n;
          rising = merge_rising t.symbols u.symbols h.rising;
        }

    split : (x : Bool) → cond x (fits []) (cond (leb count 4) (fits (one ∷ [])) too_large) ≡ fits ts → AllReady w ts
    split true e = carried (AllReady w) tt e
    split false e =
        let (n, d) = cond_fits (leb count 4) (fits (one ∷ [])) e in
        carried (AllReady w) (ready (leb-true count 4 n), tt) d

-- Two lists of ready terms behind each other are ready.
append_ready : (w : ℕ) (ts us : List Term) → AllReady w ts → AllReady w us → AllReady w (ts ++ us)
unfolding AllReady
append_ready w [] us h k = k
append_ready w (t ∷ ts) us h k = (h.0, append_ready w ts us h.1 k)

-- Products with ready terms are ready, if the product with each one is.
products_ready : (w : ℕ) (f : Term → Outcome (List Term))
    → ((u : Term) → Ready w u → (ts : List Term) → f u ≡ fits ts → AllReady w ts)
    → (us : List Term) → AllReady w us
    → (ts : List Term) → products f us ≡ fits ts → AllReady w ts
unfolding products AllReady
products_ready w f h [] k ts e = carried (AllReady w) tt e
products_ready w f h (u ∷ us) k ts e =
    let (xs, p, d) = and_then_fits (f u) _ e in
    let (ys, q, c) = and_then_fits (products f us) _ d in
    carried (AllReady w) (append_ready w xs ys (h u k.0 xs p) (products_ready w f h us k.1 ys q)) c

-- All products of two lists of terms are ready, if the lists are.
pub all_products_ready : (w : ℕ) (s t : List Term) → AllReady w s → AllReady w t
    → (ts : List Term) → products (λ x. products (term_product w x) t) s ≡ fits ts → AllReady w ts
all_products_ready w s t h k =
    products_ready w (λ x. products (term_product w x) t)
    (λ x _. products_ready w (term_product w x) (term_product_ready w x) t k) s h

-- The product of two normal sums is normal or too large.
pub multiply_normal : (w : ℕ) (s t r : Sum) → Normal w s → Normal w t → multiply w s t ≡ fits r → Normal w r
unfolding multiply Terms
multiply_normal w s t r h k e =
    let (_, g) = cond_fits (leb (length s * length t) 64) _ e in
    let (ts, p, d) = and_then_fits (products (λ x. products (term_product w x) t) s) _ g in
    let q = all_products_ready w s t (terms_ready w s h.terms) (terms_ready w t k.terms) ts p in
    fit_normal w (collect w ts []) r (collect_terms w ts [] q tt) d

-- What two operands give is normal, if an operation on normal sums gives a normal sum or too large.
both_normal : (w : ℕ) (f : Sum → Sum → Outcome Sum)
    → ((s t r : Sum) → Normal w s → Normal w t → f s t ≡ fits r → Normal w r)
    → (x y : Outcome Sum)
    → ((s : Sum) → x ≡ fits s → Normal w s)
    → ((t : Sum) → y ≡ fits t → Normal w t)
    → (r : Sum) → and_then x (λ s. and_then y (λ t. f s t)) ≡ fits r → Normal w r
both_normal w f h x y p q r e =
    let (s, a, d) = and_then_fits x _ e in
    let (t, b, c) = and_then_fits y _ d in
    h s t r (p s a) (q t b) c

-- The normal sum of an expression is normal or too large, if each variable's is normal.
pub sum_of_normal : (w : ℕ) (env : List Sum) → ((v : ℕ) → Normal w (get_or env v empty)) → (e : Expr) (s : Sum) → sum_of w env e ≡ fits s → Normal w s
unfolding sum_of
sum_of_normal w env h (constant c) s e = carried (Normal w) (constant_normal w c) e
sum_of_normal w env h (variable v) s e = carried (Normal w) (h v) e
sum_of_normal w env h (sum l r) s e =
    both_normal w (add w) (add_normal w) (sum_of w env l) (sum_of w env r) (sum_of_normal w env h l) (sum_of_normal w env h r) s e
sum_of_normal w env h (difference l r) s e =
    both_normal w (subtract w) (subtract_normal w) (sum_of w env l) (sum_of w env r) (sum_of_normal w env h l) (sum_of_normal w env h r) s e
sum_of_normal w env h (product l r) s e =
    both_normal w (multiply w) (multiply_normal w) (sum_of w env l) (sum_of w env r) (sum_of_normal w env h l) (sum_of_normal w env h r) s e
sum_of_normal w env h (negation l) s e =
    let (t, p, d) = and_then_fits (sum_of w env l) _ e in
    carried (Normal w) (negate_normal w t (sum_of_normal w env h l t p)) d
