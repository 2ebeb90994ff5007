-- Laws of decimal texts: which texts write a word, and what std's `parse` gives of one with no sign. Assumes nothing.
use Prim.Native.Nat.{ℕ, ◌+◌, ◌-◌, ◌*◌, ◌^◌, ◌≤◌, ◌<◌}
use mathlib.Core.Path.{◌≡◌, refl}
use mathlib.Core.Bool.{Bool, true, false}
use mathlib.Core.List.{List, [], ◌∷◌}
use mathlib.Core.Logic.{◌≢◌}
use native.Mathlib.Omega.{arith}
use lib.Dec.{leb, eqb}
use lib.ListN.{length, get_or}
use borrow.Author.Rules.{rules}
use borrow.Author.Tests.{leb-true, le-leb, eqb-true, eqb-false, ne_eqb}
use Rattle.std.specs.Prelude.{Some, None, Result, Ok, Err, MatchResult, IsUtf8, nat_eq}
use Rattle.std.specs.Borrow.{Bor}
use Rattle.std.specs.List.{slice_get}
use Rattle.std.specs.Option.{option_eq}
use Rattle.std.specs.Result.{OkIff, result_ok}
use Rattle.std.specs.Str.Parse.{ParsesUnsigned}
use Rattle.std.proofs.lemmas.Fmt.{IsAscii-from_digits}
use Rattle.std.proofs.lemmas.Str.{IsUtf8-from_ascii}
use Rattle.std.proofs.lemmas.Str.Parse.{IsNumeralModel, numerals_by_fold, not_in_digits, parse_plain}
use Rattle.files.specs.Files.{digits, value_on, value_of, number_of}

-- The texts of digits and their value are those of std.
own : IsNumeralModel (λ l. digits l ≡ true) (value_on 0)
unfolding digits value_on
own = numerals_by_fold _ (search rules) value_on (search rules)

-- More digits write no smaller number.
pub value_grows : (v : ℕ) (l : List ℕ) → v ≤ value_on v l
unfolding value_on
value_grows v [] = omega arith
value_grows v (b ∷ l) =
    let h : v * 10 + (b - 48) ≤ value_on (v * 10 + (b - 48)) l = value_grows (v * 10 + (b - 48)) l in
    omega arith

-- A text writes a word where it has digits alone, at least one, and they write at most 4294967295.
abbrev pub Writes : List ℕ → Type 0
Writes l = (digits l ≡ true) × (0 < length l) × (value_on 0 l < 2 ^ 32)

-- The word that a text writes.
pub number_some : (l : List ℕ) → Writes l → Some (value_on 0 l) ≡ number_of l
unfolding number_of value_of
number_some l h =
    let e : length l ≡ 0 → ⊥ = λ z. omega (arith, h.1) in
    rw (ne_eqb (length l) 0 e, h.0, le-leb (value_on 0 l) 4294967295 (omega (arith, h.2))) refl

-- A text that writes none.

none_by : (l : List ℕ) (a b c : Bool)
    → eqb (length l) 0 ≡ a
    → digits l ≡ b
    → leb (value_on 0 l) 4294967295 ≡ c
    → ¬ (Writes l)
    → None ≡ number_of l
unfolding number_of value_of
none_by l true b c p q r h = rw p refl
none_by l false false c p q r h = rw (p, q) refl
none_by l false true false p q r h = rw (p, q, r) refl
none_by l false true true p q r h =
    let e : length l ≡ 0 → ⊥ = eqb-false (length l) 0 p in
    let k : value_on 0 l ≤ 4294967295 = leb-true (value_on 0 l) 4294967295 r in
    absurd (h (q, omega arith, omega arith))

pub number_none : (l : List ℕ) → ¬ (Writes l) → None ≡ number_of l
number_none l h = none_by l _ _ _ refl refl refl h

-- What a comparison with the first byte tells.

pub first_is : (l : List ℕ) (x : ℕ) → option_eq nat_eq (slice_get l 0) (Some x) ≡ true → (0 < length l) × (get_or l 0 0 ≡ x)
first_is [] x h = absurd cc
first_is (b ∷ l) x h = (omega arith, eqb-true b x h)

pub first_is_not : (l : List ℕ) (x : ℕ) → x ≢ 0 → option_eq nat_eq (slice_get l 0) (Some x) ≡ false → get_or l 0 0 ≢ x
first_is_not [] x k h = λ z. omega arith
first_is_not (b ∷ l) x k h = eqb-false b x h

-- A text with a plus in front writes none.
pub number_plus : (l : List ℕ) → (0 < length l) × (get_or l 0 0 ≡ 43) → None ≡ number_of l
number_plus l h = number_none l (λ w. not_in_digits own l 43 w.0 (λ r. omega (arith, r.0)) 0 h.0 h.1)

-- A text that is not UTF-8 writes none.
pub number_foreign : {S E : Type 0} (l : List ℕ) (r : Result S E) (P : S → Type 0) (Q : E → Type 0)
    → MatchResult r P (λ e. ¬ (IsUtf8 l) × Q e)
    → None ≡ result_ok r
    → None ≡ number_of l
number_foreign l (Ok s) P Q m h = absurd cc
number_foreign l (Err e) P Q m h = number_none l (λ w. m.0 (IsUtf8-from_ascii l (IsAscii-from_digits l (own.to l w.0))))

-- The text that was found to be UTF-8 is the one that was given.
pub same_text : {E : Type 0} (l : List ℕ) (r : Result (Bor (List ℕ)) E) (d : Bor (List ℕ)) (P : Bor (List ℕ) → Type 0) (Q : E → Type 0)
    → MatchResult r (λ s. (s.now ≡ l) × P s) Q
    → Some d ≡ result_ok r
    → d.now ≡ l
same_text l (Ok s) d P Q m h = let e : d ≡ s = cc in rw e m.0
same_text l (Err e) d P Q m h = absurd cc

-- Any other text writes what std reads.

read_by : {E : Type 0} (l : List ℕ) (r : Result ℕ E) → OkIff r (Writes l) (value_on 0 l) → result_ok r ≡ number_of l
read_by l (Ok x) m = rw m.1 (number_some l m.0)
read_by l (Err e) m = number_none l m

pub number_read : {E : Type 0} (l : List ℕ) (r : Result ℕ E) → ParsesUnsigned 32 10 l r → get_or l 0 0 ≢ 43 → result_ok r ≡ number_of l
number_read l r h k = read_by l r (parse_plain own 32 l r h k)
