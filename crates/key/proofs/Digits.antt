-- Laws of digits: which symbols have one, how many a number has, and what each turn of a merge takes from two numbers. Assumes nothing.
use Prim.Native.Nat.{ℕ, zero, suc, ◌+◌, ◌-◌, ◌*◌, ◌/◌, ◌%◌, ◌^◌, ◌≤◌, ◌<◌}
use mathlib.Core.Path.{◌≡◌, refl, sym}
use mathlib.Core.Bool.{Bool, true, false, cond}
use native.Mathlib.Nat.{mul-le-mul_right, pow-le-pow_right}
use native.Mathlib.Omega.{arith}
use lib.Dec.{ltb}
use borrow.Author.Tests.{ltb-true, ltb-false, lt-ltb, le-ltb, le-leb, lt-leb, ne_eqb}
use Rattle.key.specs.Key.{pack_on, pack, symbol_of, count_of, merge_in, merge_of, merged_of}
use Rattle.std.specs.Prelude.{Some, None}

-- A symbol below 127 has a digit, and no other has.

pub symbol_some : (x : ℕ) → x < 127 → x + 1 ≡ symbol_of x
unfolding symbol_of pack pack_on
symbol_some x h = rw (lt-ltb x 127 h) (omega arith)

pub symbol_none : (x : ℕ) → 127 ≤ x → 0 ≡ symbol_of x
unfolding symbol_of
symbol_none x h = rw (le-ltb x 127 h) refl

-- How many digits a number of each size has.

pub count_none : (a : ℕ) → a < 1 → count_of a ≡ 0
unfolding count_of
count_none a h = rw (lt-ltb a 1 h) refl

pub count_one : (a : ℕ) → 1 ≤ a → a < 128 → count_of a ≡ 1
unfolding count_of
count_one a g h = rw (le-ltb a 1 g, lt-ltb a 128 h) refl

pub count_two : (a : ℕ) → 128 ≤ a → a < 16384 → count_of a ≡ 2
unfolding count_of
count_two a g h = rw (le-ltb a 1 (omega arith), le-ltb a 128 g, lt-ltb a 16384 h) refl

pub count_three : (a : ℕ) → 16384 ≤ a → a < 2097152 → count_of a ≡ 3
unfolding count_of
count_three a g h = rw (le-ltb a 1 (omega arith), le-ltb a 128 (omega arith), le-ltb a 16384 g, lt-ltb a 2097152 h) refl

pub count_four : (a : ℕ) → 2097152 ≤ a → a < 268435456 → count_of a ≡ 4
unfolding count_of
count_four a g h =
    rw
    (le-ltb a 1 (omega arith), le-ltb a 128 (omega arith), le-ltb a 16384 (omega arith), le-ltb a 2097152 g, lt-ltb a 268435456 h)
    refl

pub count_more : (a : ℕ) → 268435456 ≤ a → count_of a ≡ 5
unfolding count_of
count_more a g =
    rw
    (le-ltb a 1 (omega arith), le-ltb a 128 (omega arith), le-ltb a 16384 (omega arith), le-ltb a 2097152 (omega arith), le-ltb a 268435456 g)
    refl

-- What holds of each count at each size holds of a number's count.
pub count_cases : (P : ℕ → Type 0) (a : ℕ)
    → (a < 1 → P 0)
    → (1 ≤ a → a < 128 → P 1)
    → (128 ≤ a → a < 16384 → P 2)
    → (16384 ≤ a → a < 2097152 → P 3)
    → (2097152 ≤ a → a < 268435456 → P 4)
    → (268435456 ≤ a → P 5)
    → P (count_of a)
unfolding count_of
count_cases P a p₀ p₁ p₂ p₃ p₄ p₅ =
    split (ltb a 1) refl (ltb a 128) refl (ltb a 16384) refl (ltb a 2097152) refl (ltb a 268435456) refl
  where
    split : (v : Bool) → ltb a 1 ≡ v
        → (w : Bool) → ltb a 128 ≡ w
        → (x : Bool) → ltb a 16384 ≡ x
        → (y : Bool) → ltb a 2097152 ≡ y
        → (z : Bool) → ltb a 268435456 ≡ z
        → P (cond v 0 (cond w 1 (cond x 2 (cond y 3 (cond z 4 5)))))
    split true d w e x f y g z h = p₀ (ltb-true a 1 d)
    split false d true e x f y g z h = p₁ (ltb-false a 1 d) (ltb-true a 128 e)
    split false d false e true f y g z h = p₂ (ltb-false a 128 e) (ltb-true a 16384 f)
    split false d false e false f true g z h = p₃ (ltb-false a 16384 f) (ltb-true a 2097152 g)
    split false d false e false f false g true h = p₄ (ltb-false a 2097152 g) (ltb-true a 268435456 h)
    split false d false e false f false g false h = p₅ (ltb-false a 268435456 h)

-- A count is at most 5.
pub count_max : (a : ℕ) → count_of a ≤ 5
count_max a =
    count_cases (λ n. n ≤ 5) a
    (λ _. omega arith) (λ _ _. omega arith) (λ _ _. omega arith) (λ _ _. omega arith) (λ _ _. omega arith) (λ _. omega arith)

-- A number of at most n digits is below 128 ^ n.
pub count_lt : (n a : ℕ) → n ≤ 4 → count_of a ≤ n → a < 128 ^ n
count_lt n a h =
    count_cases (λ k. k ≤ n → a < 128 ^ n) a
    (λ g k. omega (arith, power k))
    (λ _ g k. omega (arith, power k))
    (λ _ g k. omega (arith, power k))
    (λ _ g k. omega (arith, power k))
    (λ _ g k. omega (arith, power k))
    (λ _ k. absurd (omega arith))
  where
    power : {k : ℕ} → k ≤ n → 128 ^ k ≤ 128 ^ n
    power h = pow-le-pow_right (omega arith) h

-- Without its last digit a number has one digit less.
pub count_rest : (a : ℕ) → 0 < a → count_of a ≤ 4 → count_of (a / 128) + 1 ≡ count_of a
count_rest a h =
    count_cases (λ k. k ≤ 4 → count_of (a / 128) + 1 ≡ k) a
    (λ g. absurd (omega arith))
    (λ g k _. omega (arith, count_none (a / 128) (omega arith)))
    (λ g k _. omega (arith, count_one (a / 128) (omega arith) (omega arith)))
    (λ g k _. omega (arith, count_two (a / 128) (omega arith) (omega arith)))
    (λ g k _. omega (arith, count_three (a / 128) (omega arith) (omega arith)))
    (λ g k. absurd (omega arith))

-- What one turn of a merge does.

-- Where the first number has no digit left, the rest is the second.
pub merge_end : (n b : ℕ) → merge_in n 0 b ≡ b
unfolding merge_in
merge_end zero b = refl
merge_end (suc n) b = refl

-- The second number's last digit is the greater, and comes last.
pub merge_second : (n a b : ℕ) → 0 < a → a % 128 < b % 128 → merge_in (suc n) a b ≡ merge_in n a (b / 128) * 128 + b % 128
unfolding merge_in
merge_second n a b h g = rw (ne_eqb a 0 (λ e. omega arith), lt-ltb (a % 128) (b % 128) g) refl

-- The second number's last digit is not the greater, and the first number's comes last.
pub merge_first : (n a b : ℕ) → 0 < a → b % 128 ≤ a % 128 → merge_in (suc n) a b ≡ merge_in n (a / 128) b * 128 + a % 128
unfolding merge_in
merge_first n a b h g = rw (ne_eqb a 0 (λ e. omega arith), le-ltb (a % 128) (b % 128) g) refl

-- Where the second number has no digit, the first is all.
merge_alone : (n a : ℕ) → n ≤ 4 → count_of a ≤ n → merge_in n a 0 ≡ a
merge_alone zero a h k =
    let g : a < 128 ^ 0 = count_lt 0 a h k in
    let e : a ≡ 0 = omega arith in
    rw e (merge_end 0 0)
merge_alone (suc n) zero h k = merge_end (suc n) 0
merge_alone (suc n) (suc a) h k =
    let d : count_of (suc a / 128) ≤ n = omega (arith, count_rest (suc a) (omega arith) (omega arith)) in
    omega (arith, merge_first n (suc a) 0 (omega arith) (omega arith), merge_alone n (suc a / 128) (omega arith) d)

-- Between two turns of the merge of a and b: what is left of both has at most `left` digits, `scale` is the place of the next
-- digit, and what is merged already stands below it.
pub record Turn (a b first second scale merged : ℕ) : Type 0 where
  pub left : ℕ
  pub most : left ≤ 4
  pub few : count_of first + count_of second ≤ left
  pub next : scale ≡ 128 ^ (4 - left)
  pub below : merged < scale
  pub whole : merge_in left first second * scale + merged ≡ merge_of a b

-- Nothing is merged where the merge begins.
pub turn_start : (a b : ℕ) → count_of a + count_of b ≤ 4 → Turn a b a b 1 0
unfolding merge_of
turn_start a b h = record { left = 4; most = omega arith; few = h; next = refl; below = omega arith; whole = omega arith }

-- The place after the next digit's.
scale_next : (n scale : ℕ) → suc n ≤ 4 → scale ≡ 128 ^ (4 - suc n) → (scale ≤ 2097152) × (scale * 128 ≡ 128 ^ (4 - n))
scale_next zero scale h e = (omega arith, omega arith)
scale_next (suc zero) scale h e = (omega arith, omega arith)
scale_next (suc (suc zero)) scale h e = (omega arith, omega arith)
scale_next (suc (suc (suc zero))) scale h e = (omega arith, omega arith)
scale_next (suc (suc (suc (suc n)))) scale h e = absurd (omega arith)

-- What is left of a number that has a digit.
some_left : (n a b : ℕ) → 0 < a → n ≤ 4 → count_of a + count_of b ≤ n → (m : ℕ) × (n ≡ suc m)
some_left zero a b h k g =
    let z : a < 128 ^ 0 = count_lt 0 a k (omega arith) in
    absurd (omega arith)
some_left (suc m) a b h k g = (m, refl)

-- A turn that takes the digit d, and leaves two numbers of one digit less together.
turn_take : {a b first second scale merged : ℕ} (first' second' d : ℕ)
    → Turn a b first second scale merged
    → 0 < first
    → d < 128
    → count_of first' + count_of second' + 1 ≡ count_of first + count_of second
    → ((n : ℕ) → merge_in (suc n) first second ≡ merge_in n first' second' * 128 + d)
    → Turn a b first' second' (scale * 128) (merged + d * scale)
turn_take {a} {b} {first} {second} {scale} {merged} first' second' d t h k c m =
    let (n, e) = some_left t.left first second h t.most t.few in
    let (_, r) = scale_next n scale (omega arith) (rw e at t.next) in
    let g : d * scale ≤ 127 * scale = mul-le-mul_right scale (omega arith) in
    let w : merge_in (suc n) first second * scale + merged ≡ merge_of a b = rw e at t.whole in
    let v : (merge_in n first' second' * 128 + d) * scale + merged ≡ merge_of a b = rw (m n) at w in
    record { left = n; most = omega arith; few = omega arith; next = r; below = omega arith; whole = omega arith }

-- A turn that takes the last digit of the second number.
pub turn_second : {a b first second scale merged : ℕ}
    → Turn a b first second scale merged
    → 0 < first
    → first % 128 < second % 128
    → Turn a b first (second / 128) (scale * 128) (merged + second % 128 * scale)
turn_second {a} {b} {first} {second} t h g =
    let c = count_rest second (omega arith) (omega arith) in
    turn_take first (second / 128) (second % 128) t h (omega arith) (omega arith) (λ n. merge_second n first second h g)

-- A turn that takes the last digit of the first number.
pub turn_first : {a b first second scale merged : ℕ}
    → Turn a b first second scale merged
    → 0 < first
    → second % 128 ≤ first % 128
    → Turn a b (first / 128) second (scale * 128) (merged + first % 128 * scale)
turn_first {a} {b} {first} {second} t h g =
    let c = count_rest first h (omega arith) in
    turn_take (first / 128) second (first % 128) t h (omega arith) (omega arith) (λ n. merge_first n first second h g)

-- A digit at the next place keeps what is merged below 128 ^ 4, and so does the place after it.
pub turn_fits : {a b first second scale merged : ℕ} (d : ℕ)
    → Turn a b first second scale merged
    → 0 < first
    → d < 128
    → (merged + d * scale < 268435456) × (scale * 128 ≤ 268435456)
turn_fits {a} {b} {first} {second} {scale} d t h k =
    let (n, e) = some_left t.left first second h t.most t.few in
    let (r, _) = scale_next n scale (omega arith) (rw e at t.next) in
    let g : d * scale ≤ 127 * scale = mul-le-mul_right scale (omega arith) in
    (omega arith, omega arith)

-- What is left of the second number, at the next place, stays below 128 ^ 4.
rest_fits : (n second scale merged : ℕ) → n ≤ 4 → scale ≡ 128 ^ (4 - n) → merged < scale → second < 128 ^ n → merged + second * scale < 268435456
rest_fits zero second scale merged h e k g = rw e (omega arith)
rest_fits (suc zero) second scale merged h e k g = rw e (omega arith)
rest_fits (suc (suc zero)) second scale merged h e k g = rw e (omega arith)
rest_fits (suc (suc (suc zero))) second scale merged h e k g = rw e (omega arith)
rest_fits (suc (suc (suc (suc zero)))) second scale merged h e k g = rw e (omega arith)
rest_fits (suc (suc (suc (suc (suc n))))) second scale merged h e k g = absurd (omega arith)

-- Where the first number has no digit left, the rest of the second completes the merge.
pub turn_end : {a b first second scale merged : ℕ}
    → Turn a b first second scale merged
    → first ≡ 0
    → (merged + second * scale < 268435456) × (merged + second * scale ≡ merge_of a b)
turn_end {a} {b} {first} {second} {scale} {merged} t z =
    let g : second < 128 ^ t.left = count_lt t.left second t.most (omega arith) in
    let w : merge_in t.left 0 second * scale + merged ≡ merge_of a b = rw z at t.whole in
    let v : second * scale + merged ≡ merge_of a b = rw (merge_end t.left second) at w in
    (rest_fits t.left second scale merged t.most t.next t.below g, omega arith)

-- A list merged with the list of no symbols stays.
pub merge_none : (a b : ℕ) → b ≡ 0 → count_of a ≤ 4 → a ≡ merge_of a b
unfolding merge_of
merge_none a b e h = rw e (sym (merge_alone 4 a (omega arith) h))

-- Two numbers of at most 4 digits together are merged.
pub merged_fits : (a b : ℕ) {r : ℕ} → count_of a + count_of b ≤ 4 → r ≡ merge_of a b → Some r ≡ merged_of a b
unfolding merged_of
merged_fits a b h e = rw (le-leb (count_of a + count_of b) 4 h, e) refl

-- Two numbers of more than 4 digits together are too many.
pub merged_many : (a b : ℕ) → 4 < count_of a + count_of b → None ≡ merged_of a b
unfolding merged_of
merged_many a b h = rw (lt-leb (count_of a + count_of b) 4 h) refl

-- What a merge is proved by.
pub ruleset merging = (count_max, merge_none, turn_start, turn_second, turn_first, merged_fits, merged_many)
