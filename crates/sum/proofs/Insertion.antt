-- What an insertion does at its place, and what the search for the place passes. Assumes nothing.
use Prim.Native.Nat.{ℕ, zero, suc, ◌+◌, ◌-◌, ◌≤◌, ◌<◌}
use mathlib.Core.Path.{◌≡◌, refl, sym, ap, ◌∙◌}
use mathlib.Core.Bool.{Bool, true, false, cond}
use mathlib.Core.List.{List, [], ◌∷◌, ◌++◌}
use native.Mathlib.Numerals.{add-one}
use native.Mathlib.Omega.{arith}
use lib.Dec.{eqb, ltb}
use lib.ListN.{length, get_or, take, drop, set, take-append-drop, length-append}
use lib.Seq.{drop-cons, set_split}
use Rattle.std.specs.Prelude.{Option, Some, None, MatchOption}
use Rattle.std.specs.Option.{unwrap_or}
use Rattle.std.specs.List.{AllWithin, HoldsAt, prefix_len}
use Rattle.std.proofs.lemmas.List.Sums.{prefix_len-le-length, prefix_len_is, prefix_len_passes, prefix_len_stops}
use Rattle.std.proofs.lemmas.List.{at_drop_all, take-append-le}
use Rattle.std.proofs.Math.Seq.{take-append_seam}
use borrow.Author.Tests.{ltb-true, ltb-false, lt-ltb, le-ltb, eq-eqb, ne_eqb}
use Rattle.model.specs.Word.{plus}
use Rattle.sum.specs.declared.Term.{Term}
use Rattle.sum.specs.Packed.{keep_k, joined_k, insert_k, collect_k, zero_term}

-- A term whose coefficient is zero is dropped.
pub keep_zero : (t : Term) (s : List Term) → t.coef ≡ 0 → keep_k t s ≡ s
unfolding keep_k
keep_zero t s e = rw (eq-eqb _ _ e)

-- Any other term is put in front.
pub keep_some : (t : Term) (s : List Term) → (t.coef ≡ 0 → ⊥) → keep_k t s ≡ t ∷ s
unfolding keep_k
keep_some t s e = rw (ne_eqb _ _ e)

-- An insertion, case by case: joined with the first term, put in front of it, or put behind it.
insert_joins : (w : ℕ) (t u : Term) (s : List Term) → t.mono ≡ u.mono → insert_k w t (u ∷ s) ≡ keep_k (joined_k w t u) s
unfolding insert_k
insert_joins w t u s e = rw (eq-eqb _ _ e)

insert_front : (w : ℕ) (t u : Term) (s : List Term) → t.mono < u.mono → insert_k w t (u ∷ s) ≡ keep_k t (u ∷ s)
unfolding insert_k
insert_front w t u s h = rw (ne_eqb t.mono u.mono (λ e. omega arith), lt-ltb _ _ h)

insert_behind : (w : ℕ) (t u : Term) (s : List Term) → u.mono < t.mono → insert_k w t (u ∷ s) ≡ u ∷ insert_k w t s
unfolding insert_k
insert_behind w t u s h = rw (ne_eqb t.mono u.mono (λ e. omega arith), le-ltb t.mono u.mono (omega arith))

-- What an insertion is, given the place p.
abbrev Joined : ℕ → Term → List Term → ℕ → Type 0
Joined w t s p = insert_k w t s ≡ take p s ++ keep_k (joined_k w t (get_or s p zero_term)) (drop (suc p) s)

abbrev Kept : ℕ → Term → List Term → ℕ → Type 0
Kept w t s p = insert_k w t s ≡ take p s ++ keep_k t (drop p s)

-- The first p terms precede t.
abbrev Precede : Term → List Term → ℕ → Type 0
Precede t s p = (k : ℕ) → k < p → (get_or s k zero_term).mono < t.mono

-- A term that has the symbols of the one behind those that precede it is joined with that one.
insert_join : (w : ℕ) (t : Term) (s : List Term) (p : ℕ) → p < length s → Precede t s p → (get_or s p zero_term).mono ≡ t.mono → Joined w t s p
insert_join w t [] p h b e = absurd (omega arith)
insert_join w t (u ∷ s) zero h b e = insert_joins w t u s (sym e)
insert_join w t (u ∷ s) (suc p) h b e =
    insert_behind w t u s (b 0 (omega arith)) ∙ ap (λ r. u ∷ r) (insert_join w t s p (omega arith) (λ k l. b (suc k) (omega arith)) e)

-- Any other term is kept there.
insert_keep : (w : ℕ) (t : Term) (s : List Term) (p : ℕ) → p ≤ length s → Precede t s p → (p < length s → t.mono < (get_or s p zero_term).mono)
    → Kept w t s p
unfolding insert_k
insert_keep w t [] zero h b f = refl
insert_keep w t [] (suc p) h b f = absurd (omega arith)
insert_keep w t (u ∷ s) zero h b f = insert_front w t u s (f (omega arith))
insert_keep w t (u ∷ s) (suc p) h b f =
    insert_behind w t u s (b 0 (omega arith))
    ∙ ap (λ r. u ∷ r) (insert_keep w t s p (omega arith) (λ k l. b (suc k) (omega arith)) (λ l. f (omega arith)))

-- The place of packed symbols: how many terms at the front precede them.
abbrev pub place_of : ℕ → List Term → ℕ
place_of m s = prefix_len (λ u. ltb u.mono m) s

-- A search for the first term that does not precede the symbols m gives their place, the end where there is none.
pub place_found : (m : ℕ) (s : List Term) (r : Option ℕ)
    → MatchOption r (AllWithin (λ t. ltb t.mono m ≡ true) s 0 (length s))
    (λ i. (i < length s) × HoldsAt (λ t. ltb t.mono m ≡ false) s i × AllWithin (λ t. ltb t.mono m ≡ true) s 0 i)
    → unwrap_or r (length s) ≡ place_of m s
place_found m s None w = sym (prefix_len_is _ s (length s) zero_term (omega arith) (λ k h. w k zero_term (omega arith) h) (λ h. absurd (omega arith)))
place_found m s (Some i) w = sym (prefix_len_is _ s i zero_term (omega arith) (λ k h. w.2 k zero_term (omega arith) h) (λ _. w.1 zero_term))

-- What the code does at the place that it found.

-- A term that was put behind all others, and then before those from place i on, is kept there.
pub put_in : (xs s l : List Term) (t : Term) (i : ℕ) → i ≤ length xs → s ≡ xs ++ t ∷ [] → (t.coef ≡ 0 → ⊥)
    → l ≡ take i s ++ t ∷ drop i (take (length s - 1) s)
    → l ≡ take i xs ++ keep_k t (drop i xs)
put_in xs s l t i h e z k =
    let n : length s ≡ length xs + 1 = ap length e ∙ length-append xs (t ∷ []) in
    let m : length s - 1 ≡ length xs = omega arith in
    let a : take i s ≡ take i xs = ap (take i) e ∙ take-append-le i xs (t ∷ []) h in
    let b : take (length s - 1) s ≡ xs = (λ j. take (m j) (e j)) ∙ take-append_seam xs (t ∷ []) in
    k ∙ (λ j. a j ++ t ∷ drop i (b j)) ∙ ap (λ r. take i xs ++ r) (sym (keep_some t (drop i xs) z))

-- Of terms of which those behind place i were moved down, all but the last are left.
pub left_out : (xs s l r : List Term) (i : ℕ) → s ≡ xs → r ≡ l → length l ≡ length s
    → take (length s - 1) l ≡ take i s ++ drop (suc i) s
    → take (length r - 1) r ≡ take i xs ++ drop (suc i) xs
left_out xs s l r i e f g h = (λ j. take (length (f j) - 1) (f j)) ∙ (λ j. take (g j - 1) l) ∙ h ∙ (λ j. take i (e j) ++ drop (suc i) (e j))

-- A term of zero coefficient changes nothing.
pub kept_zero : (t : Term) (s : List Term) (i : ℕ) → t.coef ≡ 0 → s ≡ take i s ++ keep_k t (drop i s)
kept_zero t s i e = sym (ap (λ r. take i s ++ r) (keep_zero t (drop i s) e) ∙ take-append-drop i s)

-- Two terms whose coefficients add up to zero are taken out.
pub joined_zero : (w : ℕ) (t : Term) (s r : List Term) (i c : ℕ)
    → c ≡ plus w t.coef (get_or s i zero_term).coef
    → c ≡ 0
    → r ≡ take i s ++ drop (suc i) s
    → r ≡ take i s ++ keep_k (joined_k w t (get_or s i zero_term)) (drop (suc i) s)
unfolding joined_k
joined_zero w t s r i c e z k =
    k ∙ ap (λ r. take i s ++ r) (sym (keep_zero (joined_k w t (get_or s i zero_term)) (drop (suc i) s) (sym e ∙ z)))

-- Two other terms are joined in place.
pub joined_some : (w : ℕ) (t : Term) (s : List Term) (i c : ℕ) → i < length s
    → c ≡ plus w t.coef (get_or s i zero_term).coef
    → (c ≡ 0 → ⊥)
    → set s i (record { coef = c; mono = (get_or s i zero_term).mono })
    ≡ take i s ++ keep_k (joined_k w t (get_or s i zero_term)) (drop (suc i) s)
unfolding joined_k
joined_some w t s i c h e z =
    let v : Term = record { coef = c; mono = (get_or s i zero_term).mono } in
    set_split s i v h
    ∙ ap (λ r. take i s ++ r) (sym (keep_some v (drop (suc i) s) z))
    ∙ (λ x. take i s ++ keep_k (record { coef = e x; mono = (get_or s i zero_term).mono }) (drop (suc i) s))

-- The terms before the place that was found precede the term.
found_precede : (t : Term) (s : List Term) (i : ℕ) → i ≡ place_of t.mono s → Precede t s i
found_precede t s i e k h = ltb-true _ _ (prefix_len_passes (λ u. ltb u.mono t.mono) s k zero_term (omega arith))

-- What was kept at the place that was found is the insertion.
pub inserted_kept : (w : ℕ) (t : Term) (s r : List Term) (i : ℕ) → i ≡ place_of t.mono s
    → (i < length s → (get_or s i zero_term).mono ≡ t.mono → ⊥)
    → r ≡ take i s ++ keep_k t (drop i s)
    → r ≡ insert_k w t s
inserted_kept w t s r i e h k =
    let b : i ≤ length s = omega (arith, prefix_len-le-length (λ u. ltb u.mono t.mono) s) in
    k ∙ sym (insert_keep w t s i b (found_precede t s i e) above)
  where
    above : i < length s → t.mono < (get_or s i zero_term).mono
    above l =
        let f : ltb (get_or s (place_of t.mono s) zero_term).mono t.mono ≡ false = prefix_len_stops (λ u. ltb u.mono t.mono) s zero_term (omega arith) in
        let g : ltb (get_or s i zero_term).mono t.mono ≡ false = rw e f in
        omega (arith, ltb-false _ _ g, h l)

-- What was joined at the place that was found is the insertion.
pub inserted_joined : (w : ℕ) (t : Term) (s r : List Term) (i : ℕ) → i ≡ place_of t.mono s
    → i < length s
    → (get_or s i zero_term).mono ≡ t.mono
    → r ≡ take i s ++ keep_k (joined_k w t (get_or s i zero_term)) (drop (suc i) s)
    → r ≡ insert_k w t s
inserted_joined w t s r i e h m k = k ∙ sym (insert_join w t s i h (found_precede t s i e) m)

-- The collecting loop: the terms from i on are left to collect.

pub collect_step : (w : ℕ) (from g r : List Term) (i : ℕ) → i < length from → r ≡ insert_k w (get_or from i zero_term) g
    → collect_k w (drop (i + 1) from) r ≡ collect_k w (drop i from) g
unfolding collect_k
collect_step w from g r i h e =
    rw (add-one i) (ap (collect_k w (drop (suc i) from)) e ∙ ap (λ l. collect_k w l g) (sym (drop-cons from i zero_term h)))

pub collect_end : (w : ℕ) (from g : List Term) (i : ℕ) → length from ≤ i → collect_k w (drop i from) g ≡ g
unfolding collect_k
collect_end w from g i h = at_drop_all (λ l. collect_k w l g) from i h

-- A term that is kept makes the list longer by one at most.
keep_length : (t : Term) (s : List Term) → length (keep_k t s) ≤ length s + 1
unfolding keep_k
keep_length t s = split (eqb t.coef 0)
  where
    split : (b : Bool) → length (cond b s (t ∷ s)) ≤ length s + 1
    split true = omega arith
    split false = omega arith

-- So does an insertion.
pub insert_length : (w : ℕ) (t : Term) (s : List Term) → length (insert_k w t s) ≤ length s + 1
unfolding insert_k
insert_length w t [] = keep_length t []
insert_length w t (u ∷ s) = split (eqb t.mono u.mono) (ltb t.mono u.mono) (insert_length w t s)
  where
    split : (a b : Bool) → length (insert_k w t s) ≤ length s + 1
        → length (cond a (keep_k (joined_k w t u) s) (cond b (keep_k t (u ∷ s)) (u ∷ insert_k w t s))) ≤ suc (length s) + 1
    split true b h = omega (arith, keep_length (joined_k w t u) s)
    split false true h = keep_length t (u ∷ s)
    split false false h = omega arith

-- What is kept, what is joined and what is collected are proved by.
pub ruleset keeping = (kept_zero, keep_some)

pub ruleset joining = (joined_zero, joined_some)

pub ruleset collecting = (collect_step, collect_end, insert_length)
