-- Rules after one another are kept where both are. Assumes nothing.
use Prim.Native.Nat.{ℕ, suc, ◌+◌, ◌*◌, ◌^◌, ◌≤◌, ◌<◌}
use mathlib.Core.Path.{◌≡◌, refl, sym, ◌∙◌, ap}
use mathlib.Core.Bool.{Bool, true, false, ◌&&◌}
use mathlib.Core.List.{List, [], ◌∷◌, ◌++◌}
use native.Mathlib.Omega.{arith}
use native.Mathlib.Nat.{pow-suc, pow-le-pow_right}
use lib.Dec.{leb}
use borrow.Author.Tests.{leb-false}
use Rattle.model.specs.Answer.{Rule, kept, all_kept}

pub kept_both : (rs ss : List Rule) → all_kept (rs ++ ss) ≡ (all_kept rs && all_kept ss)
unfolding all_kept
kept_both [] ss = refl
kept_both (r ∷ rs) ss = ap (λ b. kept r && b) (kept_both rs ss) ∙ and_assoc (kept r) (all_kept rs) (all_kept ss)
  where
    and_assoc : (a b c : Bool) → (a && (b && c)) ≡ ((a && b) && c)
    and_assoc true b c = refl
    and_assoc false b c = refl

-- Powers of two by doubling.

pub power_bound : (i : ℕ) {r : ℕ} → i < 32 → r ≡ 2 ^ i → r ≤ 2 ^ 31
power_bound i h e =
    let b : 2 ^ i ≤ 2 ^ 31 = pow-le-pow_right {n = 2} (omega arith) {i = i} {j = 31} (omega arith) in
    omega arith

pub power_step : (i : ℕ) {r : ℕ} → r ≡ 2 ^ i → r * 2 ≡ 2 ^ (i + 1)
power_step i {r} e =
    let s : i + 1 ≡ suc i = omega arith in
    ap (λ x. x * 2) e ∙ sym (pow-suc 2 i) ∙ ap (λ x. 2 ^ x) (sym s)

-- A range that does not fit.

pub range_over : {b : Bool} (end count : ℕ) → b ≡ leb end count → b ≡ false → end ≤ count → ⊥
range_over end count e h k =
    let q : leb end count ≡ false = cc in
    omega (arith, leb-false end count q)
