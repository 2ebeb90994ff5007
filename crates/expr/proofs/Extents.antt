-- What an extent says of the reading that it stands for, and the extent of each reading. Assumes nothing.
use Prim.Native.Nat.{ℕ, ◌-◌, ◌≤◌}
use mathlib.Core.Path.{◌≡◌, refl}
use mathlib.Core.Bool.{true, false}
use mathlib.Core.List.{List}
use native.Mathlib.Omega.{arith}
use lib.ListN.{length}
use Rattle.model.specs.Expr.{Expr, Reading, malformed, parsed, is_parsed}
use Rattle.expr.specs.Answers.{reading, extent_of}
use Rattle.std.specs.Prelude.{Option, Some, None}
use Rattle.expr.proofs.Reading.{from, length_from, uses_within}

pub malformed_is : {p : Reading} → p ≡ malformed → None ≡ extent_of p
unfolding extent_of
malformed_is h = rw h

pub uses_is : {p : Reading} {x : Expr} {n : ℕ} → p ≡ parsed x n → Some n ≡ extent_of p
unfolding extent_of
uses_is h = rw h

pub extent_malformed : (p : Reading) {r : Option ℕ} → r ≡ extent_of p → r ≡ None → p ≡ malformed
unfolding extent_of
extent_malformed malformed e k = refl
extent_malformed (parsed x n) e k = absurd (let z : ◌≡◌ {A = ℕ} 0 1 = cc in omega arith)

pub extent_uses : (p : Reading) {r : Option ℕ} {n : ℕ} → r ≡ extent_of p → r ≡ Some n → (x : Expr) × (p ≡ parsed x n)
unfolding extent_of
extent_uses malformed e k = absurd (let z : ◌≡◌ {A = ℕ} 0 1 = cc in omega arith)
extent_uses (parsed x m) e k = (x, (cc))

-- An operand that was read ends with the words or before.
pub operand_within : (a : ℕ) (ws : List ℕ) {r : Option ℕ} {n : ℕ} → r ≡ extent_of (reading (from a ws)) → r ≡ Some n → n ≤ length ws - a
operand_within a ws e k = rw length_from at (uses_within (from a ws) (extent_uses (reading (from a ws)) e k).1).1

-- Whether the words are an expression.

pub is_no_expression : (p : Reading) {r : Option ℕ} → r ≡ extent_of p → r ≡ None → is_parsed p ≡ false
unfolding is_parsed
is_no_expression p e k = rw (extent_malformed p e k)

pub is_expression_lem : (p : Reading) {r : Option ℕ} {n : ℕ} → r ≡ extent_of p → r ≡ Some n → is_parsed p ≡ true
unfolding is_parsed
is_expression_lem p e k = rw (extent_uses p e k).1
