-- Conditions as the code holds them, and the rules on them (01, rules 15 and 16; `model`, Judgement: settled, contradicts, assured).
-- 01: "A condition is a kind, two normal sums as written, and the side taken". They are at most 32.
-- proofs/Paper says that the rules are the paper's. Assumes nothing.
use Rattle.std.specs.Prelude.{ℕ, Bool, false, cond, not, ◌&&◌, ◌||◌, List, [], ◌∷◌, ◌++◌, eqb, ltb, length, Option, Some, None}
use Rattle.std.specs.Bool.{beq}
use Rattle.std.proofs.Math.Option as Math
use Rattle.model.specs.Word.{base, wrap}
use Rattle.model.specs.Judgement.{same_kind, settled_by, settled_as, any, all}
use Rattle.word.specs.declared.Kind.{Kind}
use Rattle.word.specs.declared.Kind.TheVariants.{Equal}
use Rattle.word.specs.Kinds.{kind_of}
use Rattle.sum.specs.declared.Term.{Term}
use Rattle.sum.specs.declared.Sum.{Sum}
use Rattle.sum.specs.Packed.{same_k, terms_of, as_sum}
use Rattle.condition.specs.declared.Condition.{Condition}
use Rattle.condition.specs.declared.Conditions.{Conditions}
use Rattle.condition.specs.declared.Settled.{Settled}
use Rattle.condition.specs.declared.Settled.TheVariants.{Open, Constant}

-- A condition that says nothing: 0 equal to 0, not taken.
unfoldable pub no_condition : Condition
no_condition = record { kind = Equal; left = as_sum []; right = as_sum []; taken = false }

-- No conditions.
unfoldable pub no_conditions : Conditions
no_conditions = record { items = record { items = [] } }

-- One condition more.
unfoldable pub with_condition : Conditions → Kind → Sum → Sum → Bool → Conditions
with_condition cs k l r b =
    record { items = record { items = cs.items.items ++ (record { kind = k; left = l; right = r; taken = b } ∷ []) } }

-- One condition more where there are fewer than 32.
unfoldable pub pushed : Conditions → Condition → Conditions
pushed cs c = cond (ltb (length cs.items.items) 32) (with_condition cs c.kind c.left c.right c.taken) cs

-- The conditions, in order.
abbrev pub conditions_of : Conditions → List Condition
conditions_of cs = cs.items.items

-- The constant that terms are, as a word, where they are one: no terms are the constant 0.
unfoldable pub constant_in : List Term → Math.Option ℕ
constant_in [] = Math.some 0
constant_in (t ∷ []) = cond (eqb t.mono 0) (Math.some (wrap base t.coef)) Math.none
constant_in (t ∷ u ∷ l) = Math.none

-- That constant, as the code answers it.
unfoldable pub word_of : Math.Option ℕ → Option ℕ
word_of Math.none = None
word_of (Math.some a) = Some a

-- What a condition's test comes to whatever the words are.
unfoldable pub settled_in : Condition → Math.Option Bool
settled_in c =
    settled_by
    base
    (kind_of c.kind)
    (constant_in (terms_of c.left))
    (constant_in (terms_of c.right))
    (same_k (terms_of c.left) (terms_of c.right))

-- That, as the code answers it.
unfoldable pub settled_of : Math.Option Bool → Settled
settled_of Math.none = Open
settled_of (Math.some b) = Constant b

-- Whether what a test comes to is constant on a side.
unfoldable pub constant_on : Bool → Settled → Bool
constant_on b Open = false
constant_on b (Constant a) = beq a b

-- The same kind and sums.
unfoldable pub same_test_in : Condition → Condition → Bool
same_test_in c d =
    same_kind (kind_of c.kind) (kind_of d.kind)
    && (same_k (terms_of c.left) (terms_of d.left) && same_k (terms_of c.right) (terms_of d.right))

-- The second has the first's kind and sums, and the given side taken.
unfoldable pub like_in : Condition → Bool → Condition → Bool
like_in c b d = same_test_in c d && beq b d.taken

-- A condition's test is constant on the given side, or stands among the conditions with that side taken.
unfoldable pub met_in : List Condition → Condition → Bool → Bool
met_in cs c b = settled_as b (settled_in c) || any (like_in c b) cs

-- Rule 15: the test of some condition is met on the side that is not taken.
unfoldable pub contradicts_in : List Condition → Bool
contradicts_in cs = any (λ c. met_in cs c (not c.taken)) cs

-- Rule 16: the test of each second condition is met on the side that is taken.
unfoldable pub assured_in : List Condition → List Condition → Bool
assured_in cs ds = all (λ d. met_in cs d d.taken) ds
