-- Expressions: the tree, its value, and how it is read from prefix code words.
-- 01: "Expression, prefix code words, at most 64: 0 then a constant; 1 then a variable; 2 sum, 3 difference, 4 product, each
-- followed by two expressions; 5 negation, followed by one. An expression is read by its own structure, each operand in turn, and
-- must end inside the code area." Assumes nothing.
use Rattle.std.specs.Prelude.{ℕ, zero, suc, ◌+◌, Bool, true, false, cond, List, [], ◌∷◌, leb, get_or, take, drop}
use Rattle.model.specs.Word.{wrap, plus, minus, times, negated}

-- An expression.
pub data Expr : Type 0 where
  constant variable : ℕ → Expr
  sum difference product : Expr → Expr → Expr
  negation : Expr → Expr

-- The value at the variables vs, as a word of width w.
unfoldable pub value : ℕ → List ℕ → Expr → ℕ
value w vs (constant c) = wrap w c
value w vs (variable v) = get_or vs v 0
value w vs (sum l r) = plus w (value w vs l) (value w vs r)
value w vs (difference l r) = minus w (value w vs l) (value w vs r)
value w vs (product l r) = times w (value w vs l) (value w vs r)
value w vs (negation e) = negated w (value w vs e)

-- What a code word asks for: a constant, a variable, one operand, two operands, or it is none.
pub data Code : Type 0 where
  constants variables unknown : Code
  one : (Expr → Expr) → Code
  two : (Expr → Expr → Expr) → Code

-- What each code word asks for.
unfoldable pub code_of : ℕ → Code
code_of zero = constants
code_of (suc zero) = variables
code_of (suc (suc zero)) = two sum
code_of (suc (suc (suc zero))) = two difference
code_of (suc (suc (suc (suc zero)))) = two product
code_of (suc (suc (suc (suc (suc zero))))) = one negation
code_of (suc (suc (suc (suc (suc (suc n)))))) = unknown

-- What reading gives: malformed, or the tree and how many words it takes.
pub data Reading : Type 0 where
  malformed : Reading
  parsed : Expr → ℕ → Reading

-- What comes after a reading, unless that is malformed.
unfoldable pub and_read : Reading → (Expr → ℕ → Reading) → Reading
and_read malformed k = malformed
and_read (parsed e n) k = k e n

-- An expression whose first code word is known, from the words behind it; `operand n` reads the operand n words further.
unfoldable pub read_as : Code → List ℕ → (ℕ → Reading) → Reading
read_as constants [] operand = malformed
read_as constants (c ∷ ws) operand = parsed (constant c) 2
read_as variables [] operand = malformed
read_as variables (v ∷ ws) operand = cond (leb v 15) (parsed (variable v) 2) malformed
read_as unknown ws operand = malformed
read_as (one op) ws operand = and_read (operand 0) (λ e n. parsed (op e) (suc n))
read_as (two op) ws operand = and_read (operand 0) (λ l n. and_read (operand n) (λ r m. parsed (op l r) (suc (n + m))))

-- Reading with a bound on the depth.
unfoldable pub read_with : ℕ → List ℕ → Reading
read_with zero ws = malformed
read_with (suc d) [] = malformed
read_with (suc d) (x ∷ ws) = read_as (code_of x) ws (λ n. read_with d (drop n ws))

-- The expression at a start of a code area. The reader is shown 64 words of what is left there: one that needs more does not end in
-- what it is shown, and one that starts outside the area is shown nothing. An operand is shorter than the whole, so 64 bounds the depth.
unfoldable pub read_at : List ℕ → ℕ → Reading
read_at code start = read_with 64 (take 64 (drop start code))

-- Whether an expression was read.
unfoldable pub is_parsed : Reading → Bool
is_parsed malformed = false
is_parsed (parsed e n) = true

-- The tree that was read; the constant 0 stands for what is malformed.
unfoldable pub tree_of : Reading → Expr
tree_of malformed = constant 0
tree_of (parsed e n) = e
