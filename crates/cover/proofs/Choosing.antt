-- The choices of a word: one more in front of the node below, and whether a path begins with those that led to a node, by remainders
-- of the words. 01: "bit k of choices, from the lowest, is 1 for the true edge at the k-th state". Assumes nothing.
use Prim.Native.Nat.{ℕ, zero, suc, ◌+◌, ◌*◌, ◌/◌, ◌%◌, ◌^◌, ◌<◌}
use mathlib.Core.Path.{◌≡◌, refl, sym, ◌∙◌, ap}
use mathlib.Core.Logic.{◌⊎◌, inl, inr, ⊎_elim}
use mathlib.Core.Bool.{Bool, true, false, cond, beq}
use mathlib.Core.List.{List, [], ◌∷◌, ◌++◌}
use Rattle.std.specs.Prelude.{Option, Some, None}
use native.Mathlib.Omega.{arith}
use native.Mathlib.Nat.{pow-suc, mul_assoc, mod-lt, mod-eq_of_lt, mod-one, div-add-mod', mul-add-mod_self_right}
use lib.Dec.{eqb}
use Rattle.model.specs.Path.{choices}
use Rattle.model.proofs.Basics.{clash, beq_same, beq_true}
use Rattle.cover.specs.Visit.{after}

-- A remainder by twice a number: the lowest bit, and twice the rest's remainder.
mod_twice : (c m : ℕ) → 0 < m → c % (m * 2) ≡ c % 2 + 2 * (c / 2 % m)
mod_twice c m h =
    let rest : c / 2 / m * m + c / 2 % m ≡ c / 2 = div-add-mod' (c / 2) m in
    let small : c / 2 % m < m = mod-lt (c / 2) h in
    let twice : c / 2 / m * (m * 2) ≡ c / 2 / m * m * 2 = sym (mul_assoc (c / 2 / m) m 2) in
    let whole : c ≡ c / 2 / m * (m * 2) + (c % 2 + 2 * (c / 2 % m)) = omega arith in
    let less : c % 2 + 2 * (c / 2 % m) < m * 2 = omega arith in
    ap (λ x. x % (m * 2)) whole
    ∙ mul-add-mod_self_right (c / 2 / m) (m * 2) (c % 2 + 2 * (c / 2 % m))
    ∙ mod-eq_of_lt less

-- A power of 2 is not 0.
power_pos : (d : ℕ) → 0 < 2 ^ d
power_pos zero = omega arith
power_pos (suc d) = let k = power_pos d in omega (arith, pow-suc 2 d)

-- A remainder by a power of 2, bit by bit.
mod_power : (d c : ℕ) → c % 2 ^ suc d ≡ c % 2 + 2 * (c / 2 % 2 ^ d)
mod_power d c = ap (λ m. c % m) (pow-suc 2 d) ∙ mod_twice c (2 ^ d) (power_pos d)

-- The choices of a node below: those of the node, and false for the same word or true for the word with one bit more.

choices_false : (d y : ℕ) → y < 2 ^ d → choices (suc d) y ≡ choices d y ++ (false ∷ [])
unfolding choices
choices_false zero y h = let z : y ≡ 0 = omega arith in rw z
choices_false (suc d) y h =
    ap (λ l. eqb (y % 2) 1 ∷ l) (choices_false d (y / 2) (let p = pow-suc 2 d in omega arith))

choices_true : (d y : ℕ) → y < 2 ^ d → choices (suc d) (y + 2 ^ d) ≡ choices d y ++ (true ∷ [])
unfolding choices
choices_true zero y h = let z : y ≡ 0 = omega arith in rw z
choices_true (suc d) y h =
    let p : 2 ^ suc d ≡ 2 ^ d * 2 = pow-suc 2 d in
    let low : (y + 2 ^ suc d) % 2 ≡ y % 2 = omega arith in
    let high : (y + 2 ^ suc d) / 2 ≡ y / 2 + 2 ^ d = omega arith in
    let later : choices (suc d) (y / 2 + 2 ^ d) ≡ choices d (y / 2) ++ (true ∷ []) = choices_true d (y / 2) (omega arith) in
    (λ i. eqb (low i) 1 ∷ choices (suc d) (high i)) ∙ ap (λ l. eqb (y % 2) 1 ∷ l) later

pub choices_on : (d y : ℕ) (b : Bool) → y < 2 ^ d → choices (suc d) (y + cond b (2 ^ d) 0) ≡ choices d y ++ (b ∷ [])
choices_on d y true h = choices_true d y h
choices_on d y false h = let z : y + 0 ≡ y = omega arith in ap (choices (suc d)) z ∙ choices_false d y h

-- A bit by the test on it.
bit_same : (a b : ℕ) → a < 2 → b < 2 → eqb a 1 ≡ eqb b 1 → a ≡ b
bit_same zero zero h k e = refl
bit_same zero (suc zero) h k e = clash e refl
bit_same (suc zero) zero h k e = clash refl e
bit_same (suc zero) (suc zero) h k e = refl
bit_same zero (suc (suc b)) h k e = absurd (omega arith)
bit_same (suc zero) (suc (suc b)) h k e = absurd (omega arith)
bit_same (suc (suc a)) b h k e = absurd (omega arith)

-- A bit that is the same lets the rest decide.
bit_passed : (a b : ℕ) {rest : Option (List Bool)} → a ≡ b → cond (beq (eqb a 1) (eqb b 1)) rest None ≡ rest
bit_passed a b e = rw (e, beq_same (eqb b 1))

-- What is left of a path behind the choices, by the words less their lowest bits, where those are the same.
bit_more : (d l k y c : ℕ) → y % 2 ≡ c % 2
    → (x : ℕ) × (after (choices d (y / 2)) (choices l (c / 2)) ≡ Some (choices k x))
    → (x : ℕ) × (after (choices (suc d) y) (choices (suc l) c) ≡ Some (choices k x))
unfolding choices after
bit_more d l k y c low r = (r.0, bit_passed (y % 2) (c % 2) low ∙ r.1)

-- A path whose word has the node's as its remainder begins with the choices that led there.
pub after_same : (d l k y c : ℕ) → l ≡ d + k → c % 2 ^ d ≡ y → (x : ℕ) × (after (choices d y) (choices l c) ≡ Some (choices k x))
unfolding choices after
after_same zero l k y c h e = let z : l ≡ k = omega arith in (c, ap (λ i. Some (choices i c)) z)
after_same (suc d) zero k y c h e = absurd (omega arith)
after_same (suc d) (suc l) k y c h e =
    let m : c % 2 ^ suc d ≡ c % 2 + 2 * (c / 2 % 2 ^ d) = mod_power d c in
    let low : y % 2 ≡ c % 2 = omega arith in
    bit_more d l k y c low (after_same d l k (y / 2) (c / 2) (omega arith) (omega arith))

-- A path that is too short, or whose word has another remainder, does not.
pub after_other : (d l y c : ℕ) → y < 2 ^ d → (l < d) ⊎ (c % 2 ^ d ≡ y → ⊥) → after (choices d y) (choices l c) ≡ None
unfolding choices after
after_other zero l y c h o =
    ⊎_elim (λ k. absurd (omega arith)) (λ g. absurd (g (mod-one c ∙ (let z : 0 ≡ y = omega arith in z)))) o
after_other (suc d) zero y c h o = refl
after_other (suc d) (suc l) y c h o =
    by (beq (eqb (y % 2) 1) (eqb (c % 2) 1)) refl (after_other d l (y / 2) (c / 2) (let p = pow-suc 2 d in omega arith))
  where
    by : (b : Bool)
        → beq (eqb (y % 2) 1) (eqb (c % 2) 1) ≡ b
        → ((l < d) ⊎ (c / 2 % 2 ^ d ≡ y / 2 → ⊥) → after (choices d (y / 2)) (choices l (c / 2)) ≡ None)
        → cond b (after (choices d (y / 2)) (choices l (c / 2))) None ≡ None
    by false e later = refl
    by true e later =
        let low : y % 2 ≡ c % 2 = bit_same (y % 2) (c % 2) (omega arith) (omega arith) (beq_true (eqb (y % 2) 1) (eqb (c % 2) 1) e) in
        let m : c % 2 ^ suc d ≡ c % 2 + 2 * (c / 2 % 2 ^ d) = mod_power d c in
        later (⊎_elim (λ k. inl (omega arith)) (λ g. inr (λ q. g (omega arith))) o)
