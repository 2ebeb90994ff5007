-- Laws of numbers as they are printed: std writes the same digits, and a word and its signed number have few of them. And laws of a text that
-- is written in a buffer, and of one behind it. Assumes nothing.
use Prim.Native.Nat.{ℕ, zero, suc, ◌+◌, ◌-◌, ◌/◌, ◌%◌, ◌^◌, ◌≤◌, ◌<◌}
use mathlib.Core.Path.{◌≡◌, refl, sym, ◌∙◌, ap}
use mathlib.Core.Bool.{Bool, true, false}
use mathlib.Core.List.{List, [], ◌∷◌, ◌++◌}
use native.Mathlib.Omega.{arith}
use lib.Dec.{ltb}
use lib.ListN.{length, set, length-append}
use lib.Seq.{sets}
use borrow.Author.Rules.{rules}
use borrow.Author.Tests.{ltb-false, lt-ltb, le-ltb}
use Rattle.std.specs.Fmt.{decimal, signed_decimal}
use Rattle.std.proofs.lemmas.Fmt.{AppendsLastDigit, decimal_from_appends, length-decimal-le, length-decimal-le_succ}
use Rattle.model.specs.Word.{base, signed}
use Rattle.files.specs.Files.{decimal_in, decimal_of, printed_of, placed}

-- Any fuel above the number gives the same digits.

fuel_by : (f g n : ℕ) (b : Bool) → ltb n 10 ≡ b → (10 ≤ n → decimal_in f (n / 10) ≡ decimal_in g (n / 10)) → decimal_in (suc f) n ≡ decimal_in (suc g) n
unfolding decimal_in
fuel_by f g n true e h = rw e refl
fuel_by f g n false e h =
    let k : decimal_in f (n / 10) ≡ decimal_in g (n / 10) = h (ltb-false n 10 e) in
    rw (e, k) refl

fuel : (f g n : ℕ) → n < f → n < g → decimal_in f n ≡ decimal_in g n
fuel zero g n h k = absurd (omega arith)
fuel (suc f) zero n h k = absurd (omega arith)
fuel (suc f) (suc g) n h k = fuel_by f g n (ltb n 10) refl (λ (m : 10 ≤ n). fuel f g (n / 10) (omega arith) (omega arith))

-- A number of one digit.
pub decimal_last : (n : ℕ) → n < 10 → decimal_of n ≡ (48 + n) ∷ []
unfolding decimal_of decimal_in
decimal_last n h = rw (lt-ltb n 10 h) refl

-- A number of more digits: those of its tenth part, and then its last one.
pub decimal_more : (n : ℕ) → 10 ≤ n → decimal_of n ≡ decimal_of (n / 10) ++ ((48 + n % 10) ∷ [])
unfolding decimal_of decimal_in
decimal_more n h =
    rw (le-ltb n 10 h) (ap (λ (l : List ℕ). l ++ ((48 + n % 10) ∷ [])) (fuel n (suc (n / 10)) (n / 10) (omega arith) (omega arith)))

-- A number below ten has one digit.
pub length_last : (n : ℕ) → n < 10 → length (decimal_of n) ≡ 1
length_last n h = ap length (decimal_last n h)

-- Any other number has one digit more than its tenth part.
pub length_more : (n : ℕ) → 10 ≤ n → length (decimal_of n) ≡ length (decimal_of (n / 10)) + 1
length_more n h = ap length (decimal_more n h) ∙ length-append (decimal_of (n / 10)) ((48 + n % 10) ∷ [])

-- Each step of the digits appends the last one, as std's do.
own : AppendsLastDigit decimal_in
unfolding decimal_in
own = search rules

-- std writes the digits of a number.
pub decimal_own : (n : ℕ) → n < 2 ^ 64 → decimal n ≡ decimal_of n
unfolding decimal_of
decimal_own n h = sym (decimal_from_appends decimal_in own (suc n) n h (omega (arith, length-decimal-le_succ n h)))

-- A word has at most ten digits.
pub length_word : (n : ℕ) → n < 4294967296 → length (decimal_of n) ≤ 10
length_word n h =
    let k : n < 2 ^ 64 = omega arith in
    rw (← decimal_own n k) (length-decimal-le 10 n (omega arith) (omega arith) k)

-- std writes the signed number of a word.

signed_by : (x : ℕ) (b : Bool)
    → ltb x 2147483648 ≡ b
    → x < 4294967296
    → (signed_decimal (signed base x) ≡ printed_of (signed base x)) × (length (printed_of (signed base x)) ≤ 11)
unfolding printed_of signed
signed_by x true e h = rw e (decimal_own x (omega arith), omega (arith, length_word x h))
signed_by x false e h =
    let k = ltb-false x 2147483648 e in
    let m = suc (4294967296 - suc x) in
    rw e (ap (λ (l : List ℕ). 45 ∷ l) (decimal_own m (omega arith)), omega (arith, length_word m (omega arith)))

pub signed_own : (x : ℕ) → x < 4294967296 → signed_decimal (signed base x) ≡ printed_of (signed base x)
signed_own x h = (signed_by x _ refl h).0

-- It takes at most 11 bytes.
pub printed_length : (x : ℕ) → x < 4294967296 → length (printed_of (signed base x)) ≤ 11
printed_length x h = (signed_by x _ refl h).1

-- A text is stored as std stores several elements.

pub placed_sets : (at : ℕ) (text out : List ℕ) → placed at text out ≡ sets out at text
unfolding placed
placed_sets at [] out = refl
placed_sets at (b ∷ text) out = placed_sets (suc at) text (set out at b)

-- What a place and a buffer are where a text was written from a place on.
abbrev pub Put : ℕ → List ℕ → List ℕ → ℕ → List ℕ → Type 0
Put at text out r out' = (r ≡ at + length text) × (out' ≡ placed at text out)

-- A text from the first place on ends at its length.
pub put_front : (text out : List ℕ) {r : ℕ} {out' : List ℕ} → Put 0 text out r out' → (r ≡ length text) × (out' ≡ placed 0 text out)
put_front text out p = (omega (arith, p.0), p.1)

-- A text, and then one behind it.

placed_join : (at : ℕ) (s t out : List ℕ) → placed (at + length s) t (placed at s out) ≡ placed at (s ++ t) out
unfolding placed
placed_join at [] t out =
    let e : at + 0 ≡ at = omega arith in
    rw e refl
placed_join at (b ∷ s) t out =
    let e : at + suc (length s) ≡ suc at + length s = omega arith in
    rw e (placed_join (suc at) s t (set out at b))

pub put_then : (at : ℕ) (s t out : List ℕ) {r r' : ℕ} {out₁ out₂ : List ℕ} → Put at s out r out₁ → Put r t out₁ r' out₂ → Put at (s ++ t) out r' out₂
put_then at s t out p q =
    (omega (arith, p.0, q.0, length-append s t), q.1 ∙ rw (p.0, p.1) (placed_join at s t out))
