-- What joins packed lists to the paper: packing is one to one, keeps the order of symbol lists, counts and merges as the paper does.
-- 01, "The normal sum": "shorter lists first, then by first differing symbol, the lower first". The lists are those whose symbols are
-- below 127. Assumes nothing.
use Prim.Native.Nat.{ℕ, zero, suc, ◌+◌, ◌*◌, ◌/◌, ◌%◌, ◌≤◌, ◌<◌}
use mathlib.Core.Path.{subst, ◌≡◌, refl, sym, ◌∙◌, ap}
use mathlib.Core.Logic.{◌⊎◌, inl, inr, ⊎_elim}
use mathlib.Core.Bool.{Bool, true, false, cond, ◌&&◌, ◌||◌}
use mathlib.Core.List.{List, [], ◌∷◌, ◌++◌}
use native.Mathlib.Omega.{arith}
use lib.Dec.{leb, ltb, eqb}
use lib.ListN.{length, length-append}
use borrow.Author.Tests.{ltb-true, ltb-false, leb-true, leb-false, lt-ltb, le-ltb, le-leb, eq-eqb, ne_eqb}
use Rattle.model.specs.Sum.{same, lower, precedes, place, merge, Rising}
use Rattle.model.proofs.Basics.{same_symbols}
use Rattle.model.proofs.Normal.{precedes_total, place_cases}
use Rattle.key.specs.Key.{Small, pack_on, pack, symbol_of, count_of, merge_in, merge_of, merged_of}
use Rattle.std.specs.Prelude.{Some, None}
use Rattle.key.proofs.Digits.{count_none, count_one, count_two, count_three, count_four, merge_end, merge_second, merge_first, merged_fits, merged_many}

-- The order of packed lists.

-- Of two numbers, one is less or they are equal.
compared : (a b : ℕ) → (a < b) ⊎ ((a ≡ b) ⊎ (b < a))
compared a b = split (ltb a b) refl (ltb b a) refl
  where
    split : (x : Bool) → ltb a b ≡ x → (y : Bool) → ltb b a ≡ y → (a < b) ⊎ ((a ≡ b) ⊎ (b < a))
    split true d y e = inl (ltb-true a b d)
    split false d true e = inr (inr (ltb-true b a e))
    split false d false e = inr (inl (omega (arith, ltb-false a b d, ltb-false b a e)))

-- A lower number, or an equal one and something later.
abbrev earlier : ℕ → ℕ → Bool → Bool
earlier a b later = ltb a b || (eqb a b && later)

-- A lower number is earlier, whatever comes later.
earlier_lt : (a b : ℕ) (later : Bool) → a < b → earlier a b later ≡ true
earlier_lt a b later h = rw (lt-ltb a b h) refl

-- At equal numbers, what comes later decides.
earlier_eq : (a b : ℕ) (later : Bool) → a ≡ b → earlier a b later ≡ later
earlier_eq a b later e = rw (le-ltb a b (omega arith), eq-eqb a b e) refl

-- A greater number is not earlier.
earlier_gt : (a b : ℕ) (later : Bool) → b < a → earlier a b later ≡ false
earlier_gt a b later h = rw (le-ltb a b (omega arith), ne_eqb a b (λ e. omega arith)) refl

-- Where nothing comes later, only a lower number is earlier.
earlier_none : (a b : ℕ) → ltb a b ≡ earlier a b false
earlier_none a b =
    ⊎_elim
    (λ h. lt-ltb a b h ∙ sym (earlier_lt a b false h))
    (⊎_elim
    (λ e. le-ltb a b (omega arith) ∙ sym (earlier_eq a b false e))
    (λ h. le-ltb a b (omega arith) ∙ sym (earlier_gt a b false h)))
    (compared a b)

-- A number with the digit of a symbol behind it.
abbrev behind : ℕ → ℕ → ℕ
behind p a = p * 128 + (a + 1)

-- Two numbers with a digit behind each compare by number, and at equal numbers by digit.
earlier_digit : (p q a b : ℕ) (later : Bool) → a < 127 → b < 127
    → earlier (behind p a) (behind q b) later ≡ earlier p q (earlier a b later)
earlier_digit p q a b later h k = split (compared p q) (compared a b)
  where
    split : (p < q) ⊎ ((p ≡ q) ⊎ (q < p)) → (a < b) ⊎ ((a ≡ b) ⊎ (b < a))
        → earlier (behind p a) (behind q b) later ≡ earlier p q (earlier a b later)
    split (inl g) _ = earlier_lt (behind p a) (behind q b) later (omega arith) ∙ sym (earlier_lt p q (earlier a b later) g)
    split (inr (inr g)) _ = earlier_gt (behind p a) (behind q b) later (omega arith) ∙ sym (earlier_gt p q (earlier a b later) g)
    split (inr (inl e)) (inl g) =
        earlier_lt (behind p a) (behind q b) later (omega arith) ∙ sym (earlier_eq p q (earlier a b later) e ∙ earlier_lt a b later g)
    split (inr (inl e)) (inr (inl g)) =
        earlier_eq (behind p a) (behind q b) later (omega arith) ∙ sym (earlier_eq p q (earlier a b later) e ∙ earlier_eq a b later g)
    split (inr (inl e)) (inr (inr g)) =
        earlier_gt (behind p a) (behind q b) later (omega arith) ∙ sym (earlier_eq p q (earlier a b later) e ∙ earlier_gt a b later g)

-- Lists of one length behind two numbers compare by number, and at equal numbers by first differing symbol.
pack_on_order : (p q : ℕ) (l m : List ℕ) → Small l → Small m → length l ≡ length m
    → ltb (pack_on p l) (pack_on q m) ≡ earlier p q (lower l m)
unfolding pack_on Small lower
pack_on_order p q [] [] h k e = earlier_none p q
pack_on_order p q [] (b ∷ m) h k e = absurd (omega arith)
pack_on_order p q (a ∷ l) [] h k e = absurd (omega arith)
pack_on_order p q (a ∷ l) (b ∷ m) h k e =
    pack_on_order (p * 128 + (a + 1)) (q * 128 + (b + 1)) l m h.1 k.1 (omega arith)
    ∙ earlier_digit p q a b (lower l m) h.0 k.0

-- Behind a lower number, a list that is not longer makes a lower number.
pack_on_lt : (p q : ℕ) (l m : List ℕ) → Small l → Small m → length l ≤ length m → p < q → pack_on p l < pack_on q m
unfolding pack_on Small
pack_on_lt p q [] [] h k e g = g
pack_on_lt p q (a ∷ l) [] h k e g = absurd (omega arith)
pack_on_lt p q l (b ∷ m) h k e g =
    ⊎_elim
    (λ n. pack_on_lt p (q * 128 + (b + 1)) l m h k.1 (omega arith) (omega arith))
    (⊎_elim
    (λ n. ltb-true _ _ (pack_on_order p q l (b ∷ m) h k n ∙ earlier_lt p q (lower l (b ∷ m)) g))
    (λ n. absurd (omega arith)))
    (compared (length l) (length (b ∷ m)))

-- A shorter list is a lower number.
pub pack_shorter : (l m : List ℕ) → Small l → Small m → length l < length m → pack l < pack m
unfolding pack pack_on Small
pack_shorter l [] h k e = absurd (omega arith)
pack_shorter l (b ∷ m) h k e = pack_on_lt 0 (0 * 128 + (b + 1)) l m h k.1 (omega arith) (omega arith)

-- Packed lists are in the order of the paper.
pub pack_order : (l m : List ℕ) → Small l → Small m → ltb (pack l) (pack m) ≡ precedes l m
unfolding precedes pack
pack_order l m h k =
    ⊎_elim
    (λ n. lt-ltb _ _ (pack_shorter l m h k n) ∙ sym (earlier_lt _ _ (lower l m) n))
    (⊎_elim
    (λ n. pack_on_order 0 0 l m h k n ∙ sym (earlier_eq _ _ (lower l m) n))
    (λ n.
    let g : pack m < pack l = pack_shorter m l k h n in
    le-ltb (pack l) (pack m) (omega arith) ∙ sym (earlier_gt (length l) (length m) (lower l m) n)))
    (compared (length l) (length m))

-- Packed lists are equal where the lists are the same, and only there.
pub pack_same : (l m : List ℕ) → Small l → Small m → eqb (pack l) (pack m) ≡ same eqb l m
pack_same l m h k = split (same eqb l m) refl (precedes l m) refl
  where
    split : (x : Bool) → same eqb l m ≡ x → (y : Bool) → precedes l m ≡ y → eqb (pack l) (pack m) ≡ x
    split true d y e = eq-eqb (pack l) (pack m) (ap pack (same_symbols l m d))
    split false d true e =
        let g : pack l < pack m = ltb-true _ _ (pack_order l m h k ∙ e) in
        ne_eqb (pack l) (pack m) (λ z. omega arith)
    split false d false e =
        let g : pack m < pack l = ltb-true _ _ (pack_order m l k h ∙ precedes_total l m d e) in
        ne_eqb (pack l) (pack m) (λ z. omega arith)

-- Packing is one to one.
pub pack_injective : (l m : List ℕ) → Small l → Small m → pack l ≡ pack m → l ≡ m
pack_injective l m h k e = same_symbols l m (sym (pack_same l m h k) ∙ eq-eqb (pack l) (pack m) e)

-- Size and count.

-- A packed list of at most 4 symbols is below 128 ^ 4.
pub pack_lt : (l : List ℕ) → Small l → length l ≤ 4 → pack l < 268435456
unfolding pack pack_on Small
pack_lt [] h n = omega arith
pack_lt (a ∷ []) h n = omega arith
pack_lt (a ∷ b ∷ []) h n = omega arith
pack_lt (a ∷ b ∷ c ∷ []) h n = omega arith
pack_lt (a ∷ b ∷ c ∷ d ∷ []) h n = omega arith
pack_lt (a ∷ b ∷ c ∷ d ∷ e ∷ l) h n = absurd (omega arith)

-- A packed list of at most 4 symbols counts them.
pub pack_count : (l : List ℕ) → Small l → length l ≤ 4 → count_of (pack l) ≡ length l
unfolding pack pack_on Small
pack_count [] h n = count_none _ (omega arith)
pack_count (a ∷ []) h n = count_one _ (omega arith) (omega arith)
pack_count (a ∷ b ∷ []) h n = count_two _ (omega arith) (omega arith)
pack_count (a ∷ b ∷ c ∷ []) h n = count_three _ (omega arith) (omega arith)
pack_count (a ∷ b ∷ c ∷ d ∷ []) h n = count_four _ (omega arith) (omega arith)
pack_count (a ∷ b ∷ c ∷ d ∷ e ∷ l) h n = absurd (omega arith)

-- The list of one symbol below 127 is what the code makes of the symbol.
pub pack_symbol : (x : ℕ) → x < 127 → symbol_of x ≡ pack (x ∷ [])
unfolding symbol_of
pack_symbol x h = rw (lt-ltb x 127 h) refl

-- Merging.

-- A symbol with a digit placed among such symbols.
place_small : (x : ℕ) (l : List ℕ) → x < 127 → Small l → Small (place x l)
unfolding place Small
place_small x [] h k = (h, tt)
place_small x (y ∷ l) h k = place_cases Small x y l (λ _. (h, k)) (λ _. (k.0, place_small x l h k.1))

-- Two lists of symbols with digits give such a list.
pub merge_small : (l m : List ℕ) → Small l → Small m → Small (merge l m)
unfolding merge Small
merge_small [] m h k = k
merge_small (x ∷ l) m h k = place_small x (merge l m) h.0 (merge_small l m h.1 k)

-- No symbol of a list is over a.
unfoldable AtMost : ℕ → List ℕ → Type 0
AtMost a [] = Unit {0}
AtMost a (x ∷ l) = (x ≤ a) × AtMost a l

-- A list is empty, or has a last symbol.
data Ends : List ℕ → Type 0 where
  none : Ends []
  last : (l : List ℕ) (x : ℕ) → Ends (l ++ x ∷ [])

-- Every list is one or the other.
ends : (l : List ℕ) → Ends l
ends [] = none
ends (x ∷ l) = longer x (ends l)
  where
    longer : (x : ℕ) {l : List ℕ} → Ends l → Ends (x ∷ l)
    longer x none = last [] x
    longer x (last l y) = last (x ∷ l) y

-- The last symbol of a list behind a number is the last digit.
pack_on_last : (p : ℕ) (l : List ℕ) (x : ℕ) → pack_on p (l ++ x ∷ []) ≡ pack_on p l * 128 + (x + 1)
unfolding pack_on
pack_on_last p [] x = refl
pack_on_last p (y ∷ l) x = pack_on_last (p * 128 + (y + 1)) l x

-- The last symbol of a packed list is its last digit.
pack_last : (l : List ℕ) (x : ℕ) → pack (l ++ x ∷ []) ≡ pack l * 128 + (x + 1)
unfolding pack
pack_last l x = pack_on_last 0 l x

-- What holds of all symbols of a list holds of the last one and of those before it.
small_last : (l : List ℕ) (x : ℕ) → Small (l ++ x ∷ []) → Small l × (x < 127)
unfolding Small
small_last [] x h = (tt, h.0)
small_last (y ∷ l) x h =
    let (g, k) = small_last l x h.1 in
    ((h.0, g), k)

-- The last symbol of a rising list is its greatest.
rising_last : (l : List ℕ) (x : ℕ) → Rising (l ++ x ∷ []) → Rising l × AtMost x l
unfolding Rising AtMost
rising_last [] x h = (tt, tt)
rising_last (y ∷ []) x h = (tt, (h.0, tt))
rising_last (y ∷ z ∷ l) x h =
    let (g, k) = rising_last (z ∷ l) x h.1 in
    ((h.0, g), (omega (arith, k.0), k))

-- A list at most a is at most what a is at most.
at_most_over : (a b : ℕ) (l : List ℕ) → a ≤ b → AtMost a l → AtMost b l
unfolding AtMost
at_most_over a b [] h k = tt
at_most_over a b (x ∷ l) h k = (omega (arith, k.0), at_most_over a b l h k.1)

-- A list whose last symbol and all before it are at most a is at most a.
at_most_last : (a : ℕ) (l : List ℕ) (x : ℕ) → AtMost a l → x ≤ a → AtMost a (l ++ x ∷ [])
unfolding AtMost
at_most_last a [] x h k = (k, tt)
at_most_last a (y ∷ l) x h k = (h.0, at_most_last a l x h.1 k)

-- A symbol that is not over the last one is placed before it.
place_before : (x : ℕ) (m : List ℕ) (b : ℕ) → x ≤ b → place x (m ++ b ∷ []) ≡ place x m ++ b ∷ []
unfolding place
place_before x [] b h = rw (le-leb x b h) refl
place_before x (y ∷ m) b h = choice (leb x y) (place_before x m b h)
  where
    choice : (t : Bool) → place x (m ++ b ∷ []) ≡ place x m ++ b ∷ []
        → cond t (x ∷ y ∷ (m ++ b ∷ [])) (y ∷ place x (m ++ b ∷ [])) ≡ cond t (x ∷ y ∷ m) (y ∷ place x m) ++ b ∷ []
    choice true e = refl
    choice false e = ap (λ k. y ∷ k) e

-- A rising list from a whose symbols are at most a is the same with a at its end.
all_same : (a : ℕ) (m : List ℕ) → Rising (a ∷ m) → AtMost a m → a ∷ m ≡ m ++ a ∷ []
unfolding Rising AtMost
all_same a [] r h = refl
all_same a (y ∷ m) r h =
    let e : y ≡ a = omega (arith, r.0, h.0) in
    let q : Rising (a ∷ m) = subst (λ k. Rising (k ∷ m)) e r.1 in
    rw e (ap (λ k. a ∷ k) (all_same a m q h.1))

-- A rising list without its first symbol is rising.
rising_rest : (y : ℕ) (m : List ℕ) → Rising (y ∷ m) → Rising m
unfolding Rising
rising_rest y [] r = tt
rising_rest y (z ∷ m) r = r.1

-- A symbol that no symbol of a rising list is over is placed last.
place_last : (a : ℕ) (m : List ℕ) → Rising m → AtMost a m → place a m ≡ m ++ a ∷ []
unfolding place Rising AtMost
place_last a [] r h = refl
place_last a (y ∷ m) r h =
    place_cases (λ k. k ≡ y ∷ (m ++ a ∷ [])) a y m
    (λ g. all_same a (y ∷ m) (g, r) h)
    (λ _. ap (λ k. y ∷ k) (place_last a m (rising_rest y m r) h.1))

-- The last symbol of the second list comes last where no symbol of the first is over it.
merge_last_second : (l m : List ℕ) (b : ℕ) → AtMost b l → merge l (m ++ b ∷ []) ≡ merge l m ++ b ∷ []
unfolding merge AtMost
merge_last_second [] m b h = refl
merge_last_second (x ∷ l) m b h = rw (merge_last_second l m b h.1) (place_before x (merge l m) b h.0)

-- The last symbol of the first list comes last where no symbol of either is over it.
merge_last_first : (l : List ℕ) (a : ℕ) (m : List ℕ) → Rising m → AtMost a l → AtMost a m → merge (l ++ a ∷ []) m ≡ merge l m ++ a ∷ []
unfolding merge AtMost
merge_last_first [] a m r h k = place_last a m r k
merge_last_first (x ∷ l) a m r h k = rw (merge_last_first l a m r h.1 k) (place_before x (merge l m) a h.0)

-- A turn that takes the digit of the first list's last symbol.
turn_of_first : (n : ℕ) (l : List ℕ) (a : ℕ) (m : List ℕ)
    → a < 127
    → Rising (l ++ a ∷ [])
    → Rising m
    → AtMost a m
    → pack m % 128 ≤ a + 1
    → merge_in n (pack l) (pack m) ≡ pack (merge l m)
    → merge_in (suc n) (pack (l ++ a ∷ [])) (pack m) ≡ pack (merge (l ++ a ∷ []) m)
turn_of_first n l a m h r s k g i =
    let e : pack (l ++ a ∷ []) ≡ pack l * 128 + (a + 1) = pack_last l a in
    let d : pack (l ++ a ∷ []) / 128 ≡ pack l = omega arith in
    let j : merge_in n (pack (l ++ a ∷ []) / 128) (pack m) ≡ pack (merge l m) = rw d i in
    let w : pack (merge (l ++ a ∷ []) m) ≡ pack (merge l m) * 128 + (a + 1)
    = rw (merge_last_first l a m s (rising_last l a r).1 k) (pack_last (merge l m) a) in
    omega (arith, merge_first n (pack (l ++ a ∷ [])) (pack m) (omega arith) (omega arith))

-- A turn that takes the digit of the second list's last symbol.
turn_of_second : (n : ℕ) (l : List ℕ) (a : ℕ) (m : List ℕ) (b : ℕ)
    → b < 127
    → Rising (l ++ a ∷ [])
    → a < b
    → merge_in n (pack (l ++ a ∷ [])) (pack m) ≡ pack (merge (l ++ a ∷ []) m)
    → merge_in (suc n) (pack (l ++ a ∷ [])) (pack (m ++ b ∷ [])) ≡ pack (merge (l ++ a ∷ []) (m ++ b ∷ []))
turn_of_second n l a m b h r g i =
    let c : pack (l ++ a ∷ []) ≡ pack l * 128 + (a + 1) = pack_last l a in
    let e : pack (m ++ b ∷ []) ≡ pack m * 128 + (b + 1) = pack_last m b in
    let d : pack (m ++ b ∷ []) / 128 ≡ pack m = omega arith in
    let j : merge_in n (pack (l ++ a ∷ [])) (pack (m ++ b ∷ []) / 128) ≡ pack (merge (l ++ a ∷ []) m) = rw d i in
    let k : AtMost b (l ++ a ∷ []) = at_most_last b l a (at_most_over a b l (omega arith) (rising_last l a r).1) (omega arith) in
    let w : pack (merge (l ++ a ∷ []) (m ++ b ∷ [])) ≡ pack (merge (l ++ a ∷ []) m) * 128 + (b + 1)
    = rw (merge_last_second (l ++ a ∷ []) m b k) (pack_last (merge (l ++ a ∷ []) m) b) in
    omega (arith, merge_second n (pack (l ++ a ∷ [])) (pack (m ++ b ∷ [])) (omega arith) (omega arith))

-- With fuel n, the digits of lists that have at most n symbols together are merged as the symbols.
abbrev MergedAlike : ℕ → Type 0
MergedAlike n =
    (l m : List ℕ) → Small l → Small m → Rising l → Rising m → length l + length m ≤ n → merge_in n (pack l) (pack m) ≡ pack (merge l m)

-- The turn at the last symbols takes the greater, and what is left is merged alike.
merged_turn : (n : ℕ) → MergedAlike n → {l m : List ℕ} → Ends l → Ends m → Small l → Small m → Rising l → Rising m
    → length l + length m ≤ suc n
    → merge_in (suc n) (pack l) (pack m) ≡ pack (merge l m)
unfolding merge pack pack_on AtMost
merged_turn n i {l} {m} none v h k r s c = merge_end (suc n) (pack m)
merged_turn n i (last l a) none h k r s c =
    let (h', g) = small_last l a h in
    turn_of_first n l a [] g r s tt (omega arith)
    (i l [] h' k (rising_last l a r).0 s (omega (arith, length-append l (a ∷ []))))
merged_turn n i (last l a) (last m b) h k r s c = choice (ltb a b) refl
  where
    choice : (t : Bool) → ltb a b ≡ t → merge_in (suc n) (pack (l ++ a ∷ [])) (pack (m ++ b ∷ [])) ≡ pack (merge (l ++ a ∷ []) (m ++ b ∷ []))
    choice true e =
        let (k', f) = small_last m b k in
        turn_of_second n l a m b f r (ltb-true a b e)
        (i (l ++ a ∷ []) m h k' r (rising_last m b s).0 (omega (arith, length-append m (b ∷ []))))
    choice false e =
        let (h', g) = small_last l a h in
        let o : b ≤ a = ltb-false a b e in
        let q : AtMost a (m ++ b ∷ []) = at_most_last a m b (at_most_over b a m o (rising_last m b s).1) o in
        turn_of_first n l a (m ++ b ∷ []) g r s q (omega (arith, pack_last m b, (small_last m b k).1))
        (i l (m ++ b ∷ []) h' k (rising_last l a r).0 s (omega (arith, length-append l (a ∷ []))))

-- The digits are merged as the symbols, with any fuel.
merged_alike : (n : ℕ) → MergedAlike n
unfolding merge pack pack_on
merged_alike zero [] m h k r s c = merge_end zero (pack m)
merged_alike zero (x ∷ l) m h k r s c = absurd (omega arith)
merged_alike (suc n) l m h k r s c = merged_turn n (merged_alike n) (ends l) (ends m) h k r s c

-- Packed lists are merged as the paper merges the lists.
pub pack_merge : (l m : List ℕ) → Small l → Small m → Rising l → Rising m → length l + length m ≤ 4
    → merge_of (pack l) (pack m) ≡ pack (merge l m)
unfolding merge_of
pack_merge l m h k r s c = merged_alike 4 l m h k r s c

-- The merge of two packed lists is what the paper says: too many symbols, or the merged list, packed.
pub pack_merged : (l m : List ℕ) → Small l → Small m → Rising l → Rising m → length l ≤ 4 → length m ≤ 4
    → merged_of (pack l) (pack m) ≡ cond (leb (length l + length m) 4) (Some (pack (merge l m))) None
pack_merged l m h k r s c d = choice (leb (length l + length m) 4) refl
  where
    counts : count_of (pack l) + count_of (pack m) ≡ length l + length m
    counts = omega (arith, pack_count l h c, pack_count m k d)

    choice : (t : Bool) → leb (length l + length m) 4 ≡ t → merged_of (pack l) (pack m) ≡ cond t (Some (pack (merge l m))) None
    choice true e =
        let g : length l + length m ≤ 4 = leb-true _ 4 e in
        sym (merged_fits (pack l) (pack m) (omega (arith, counts)) (sym (pack_merge l m h k r s g)))
    choice false e =
        let g : 4 < length l + length m = leb-false _ 4 e in
        sym (merged_many (pack l) (pack m) (omega (arith, counts)))
