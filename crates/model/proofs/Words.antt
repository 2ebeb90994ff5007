-- Laws of the chip's words, over the width: what wraps once wraps alike, differences and negations undo sums, every result is a word,
-- the signed number loses nothing, and the three tests of a word against itself. Assumes nothing.
use Prim.Native.Nat.{ℕ, suc, ◌+◌, ◌-◌, ◌*◌, ◌/◌, ◌%◌, ◌^◌, ◌<◌}
use mathlib.Core.Path.{◌≡◌, refl, sym, ◌∙◌, ap}
use mathlib.Core.Bool.{Bool, true, false, cond}
use native.Mathlib.Nat.{add-mod, mod-mod, mod-lt, mod-eq_of_lt, mod_self, zero-mod, add-mul-mod_self_left, div-add-mod, mul_comm}
use native.Mathlib.Omega.{arith}
use lib.Dec.{ltb, eqb, T, eqb_refl}
use lib.Pow.{pow_pos}
use lib.IntN.{ℤ, pos, negsuc}
use lib.Signed.{lt_z}
use borrow.Author.Tests.{le-ltb}
use Rattle.model.specs.Word.{wrap, plus, minus, times, negated, signed, equal, signed_less, unsigned_less, holds}

-- Two numbers are alike at a width when they wrap to the same word.
pub record Alike (w a b : ℕ) : Type 0 where
  pub wraps : wrap w a ≡ wrap w b

pub alike_same : (w : ℕ) {a b : ℕ} → a ≡ b → Alike w a b
alike_same w e = record { wraps = ap (wrap w) e }

pub alike_sym : {w a b : ℕ} → Alike w a b → Alike w b a
alike_sym e = record { wraps = sym e.wraps }

infixr 30 ◌⨾◌
pub ◌⨾◌ : {w a b c : ℕ} → Alike w a b → Alike w b c → Alike w a c
p ⨾ q = record { wraps = p.wraps ∙ q.wraps }

pub wrap_lt : (w x : ℕ) → wrap w x < 2 ^ w
unfolding wrap
wrap_lt w x = mod-lt x (pow_pos w)

pub wrap_word : (w x : ℕ) → x < 2 ^ w → wrap w x ≡ x
unfolding wrap
wrap_word w x h = mod-eq_of_lt h

pub wrap_zero : (w : ℕ) → wrap w 0 ≡ 0
unfolding wrap
wrap_zero w = zero-mod (2 ^ w)

pub alike_wrap : (w x : ℕ) → Alike w (wrap w x) x
unfolding wrap
alike_wrap w x = record { wraps = mod-mod x (2 ^ w) }

pub alike_plus : {w a b c d : ℕ} → Alike w a b → Alike w c d → Alike w (a + c) (b + d)
unfolding wrap
alike_plus {w} {a} {b} {c} {d} p q = record { wraps = cc (p.wraps, q.wraps, add-mod a c (2 ^ w), add-mod b d (2 ^ w)) }

-- a is its remainder and a multiple of m
mul_mod_first : (m a b : ℕ) → (a * b) % m ≡ (a % m * b) % m
mul_mod_first m a b =
    let e : a * b ≡ a % m * b + m * (a / m * b) = omega (arith, ap (λ (x : ℕ). x * b) (div-add-mod a m)) in
    ap (λ (x : ℕ). x % m) e ∙ add-mul-mod_self_left (a % m * b) m (a / m * b)

pub alike_times : {w a b c d : ℕ} → Alike w a b → Alike w c d → Alike w (a * c) (b * d)
unfolding wrap
alike_times {w} {a} {b} {c} {d} p q =
    record {
      wraps = cc (
        p.wraps,
        q.wraps,
        mul_mod_first (2 ^ w) a c,
        mul_mod_first (2 ^ w) b d,
        mul_comm (b % 2 ^ w) c,
        mul_comm (b % 2 ^ w) d,
        mul_mod_first (2 ^ w) c (b % 2 ^ w),
        mul_mod_first (2 ^ w) d (b % 2 ^ w),
      );
    }

-- Every result is a word.

pub plus_lt : (w a b : ℕ) → plus w a b < 2 ^ w
unfolding plus
plus_lt w a b = wrap_lt w _

pub minus_lt : (w a b : ℕ) → minus w a b < 2 ^ w
unfolding minus
minus_lt w a b = wrap_lt w _

pub times_lt : (w a b : ℕ) → times w a b < 2 ^ w
unfolding times
times_lt w a b = wrap_lt w _

pub negated_lt : (w a : ℕ) → negated w a < 2 ^ w
unfolding negated
negated_lt w a = wrap_lt w _

-- A negation undoes its number, and is the only word that does.

full : (w : ℕ) → wrap w (2 ^ w) ≡ wrap w 0
unfolding wrap
full w = mod_self (2 ^ w) ∙ sym (zero-mod (2 ^ w))

pub negated_undoes : (w a : ℕ) → Alike w (negated w a + a) 0
unfolding negated
negated_undoes w a =
    let h : wrap w a < 2 ^ w = wrap_lt w a in
    let e : 2 ^ w - wrap w a + wrap w a ≡ 2 ^ w = omega arith in
    alike_plus (alike_wrap w (2 ^ w - wrap w a)) (alike_sym (alike_wrap w a))
    ⨾ alike_same w e
    ⨾ record { wraps = full w }

pub undone_by : (w a b : ℕ) → Alike w (a + b) 0 → wrap w a ≡ negated w b
undone_by w a b e =
    let f : Alike w (negated w b + (a + b)) (negated w b + 0) = alike_plus (alike_same w refl) e in
    let g : Alike w ((negated w b + b) + a) (0 + a) = alike_plus (negated_undoes w b) (alike_same w refl) in
    let h : Alike w a (negated w b) = alike_same w (omega arith) ⨾ alike_sym g ⨾ alike_same w (omega arith) ⨾ f ⨾ alike_same w (omega arith) in
    h.wraps ∙ wrap_word w (negated w b) (negated_lt w b)

-- A difference is the sum with the negation, and the sum undoes it.

pub minus_is : (w a b : ℕ) → minus w a b ≡ plus w a (negated w b)
unfolding minus plus negated
minus_is w a b = (alike_plus (alike_same w refl) (alike_sym (alike_wrap w (2 ^ w - wrap w b)))).wraps

pub minus_plus : (w a b : ℕ) → plus w (minus w a b) b ≡ wrap w a
unfolding plus
minus_plus w a b =
    let h : Alike w (wrap w (a + negated w b) + b) a =
    alike_plus (alike_wrap w (a + negated w b)) (alike_same w {a = b} refl)
    ⨾ alike_same w (omega arith)
    ⨾ alike_plus (alike_same w {a = a} refl) (negated_undoes w b)
    ⨾ alike_same w (omega arith) in
    rw minus_is h.wraps

-- The signed number loses nothing.

unfoldable pub unsigned : ℕ → ℤ → ℕ
unsigned w (pos n) = n
unsigned w (negsuc n) = 2 ^ w - suc n

pub signed_word : (w x : ℕ) → x < 2 ^ w → unsigned w (signed w x) ≡ x
unfolding signed unsigned
signed_word w x h = by (ltb x (2 ^ w / 2))
  where
    by : (b : Bool) → unsigned w (cond b (pos x) (negsuc (2 ^ w - suc x))) ≡ x
    by true = refl
    by false = omega arith

-- A word is equal to itself, and not less.

lt_z_self : (z : ℤ) → lt_z z z ≡ false
lt_z_self (pos n) = le-ltb n n (omega arith)
lt_z_self (negsuc n) = le-ltb n n (omega arith)

pub equal_self : (w a : ℕ) → holds w equal a a ≡ true
unfolding holds
equal_self w a = from (eqb a a) (eqb_refl a)
  where
    from : (b : Bool) → T b → b ≡ true
    from true t = refl
    from false t = absurd t

pub signed_less_self : (w a : ℕ) → holds w signed_less a a ≡ false
unfolding holds
signed_less_self w a = lt_z_self (signed w a)

pub unsigned_less_self : (w a : ℕ) → holds w unsigned_less a a ≡ false
unfolding holds
unsigned_less_self w a = le-ltb a a (omega arith)
