-- The bench examples of 01, P1 to P11, as one list, and the images of its worked examples. Assumes nothing.
use Rattle.std.specs.Prelude.{ℕ, ◌≡◌, Bool, true, false, List, [], ◌∷◌, map}
use Rattle.model.specs.Answer.{Answer, accepted, up_to}
use Rattle.model.specs.Word.{base, Kind, signed_less, unsigned_less, minus, holds}
use Rattle.model.specs.Expr.{Expr, constant, variable, sum, difference, product}
use Rattle.model.specs.Sum.{Term, Sum, Outcome, too_large, fits, symbol_sum, sum_of}
use Rattle.model.specs.Judgement.{verdict}

-- An example: the normal sum of an expression whose variables are symbols, a test of two words, or a verdict.
pub data Example : Type 0 where
  normal : Expr → Outcome Sum → Example
  tested : Kind → ℕ → ℕ → Bool → Example
  judged : List ℕ → List ℕ → List ℕ → Answer → Example

-- What an example says.
abbrev pub Says : Example → Type 0
Says (normal e s) = sum_of base (map symbol_sum (up_to 0 16)) e ≡ s
Says (tested k a b r) = holds base k a b ≡ r
Says (judged first second list a) = verdict first second list ≡ a

-- What all examples of a list say.
abbrev pub SayAll : List Example → Type 0
SayAll [] = Unit {0}
SayAll (e ∷ es) = Says e × SayAll es

-- Variable 0.
abbrev pub x : Expr
x = variable 0

-- Variable 1.
abbrev pub y : Expr
y = variable 1

-- A coefficient with its symbols.
abbrev pub term : ℕ → List ℕ → Term
term c l = record { coefficient = c; symbols = l }

-- The sum of the variables vs and e.
abbrev pub sum_with : List ℕ → Expr → Expr
sum_with [] e = e
sum_with (v ∷ vs) e = sum (variable v) (sum_with vs e)

-- A table of one stop (P11).
abbrev pub one_stop : List ℕ
one_stop = 1 ∷ 15 ∷ 1 ∷ 10 ∷ 0 ∷ 15 ∷ 0 ∷ 15 ∷ 0 ∷ 15 ∷ 0 ∷ 0 ∷ 0 ∷ 0 ∷ 0 ∷ []

-- Its correspondence.
abbrev pub one_stop_list : List ℕ
one_stop_list = 2 ∷ 14 ∷ 1 ∷ 8 ∷ 0 ∷ 14 ∷ 0 ∷ 14 ∷ 0 ∷ 0 ∷ 0 ∷ 0 ∷ 0 ∷ 0 ∷ []

-- P1 to P11.
abbrev pub bench : List Example
bench =
    normal (difference x x) (fits [])
    ∷ normal (product (sum x y) (difference x y)) (fits (term 1 (0 ∷ 0 ∷ []) ∷ term 4294967295 (1 ∷ 1 ∷ []) ∷ []))
    ∷ normal (product (product (constant 65536) x) (product (constant 65536) y)) (fits [])
    ∷ normal
    (sum (product (constant 2147483648) (product x x)) (product (constant 2147483648) x))
    (fits (term 2147483648 (0 ∷ []) ∷ term 2147483648 (0 ∷ 0 ∷ []) ∷ []))
    ∷ normal (sum_with (up_to 0 15) (variable 15)) (fits (map (λ v. term 1 (v ∷ [])) (up_to 0 16)))
    ∷ normal (sum (sum_with (up_to 0 15) (variable 15)) (constant 1)) too_large
    ∷ normal (product x (product x (product x x))) (fits (term 1 (0 ∷ 0 ∷ 0 ∷ 0 ∷ []) ∷ []))
    ∷ normal (product x (product x (product x (product x x)))) too_large
    ∷ tested signed_less 4294967295 0 true
    ∷ tested unsigned_less 4294967295 0 false
    ∷ tested signed_less 2147483648 1 true
    ∷ tested signed_less (minus base 2147483648 1) 0 false
    ∷ judged one_stop one_stop one_stop_list accepted
    ∷ []

-- The meter table M and its list K.
abbrev pub meter : List ℕ
meter =
    1 ∷ 53 ∷ 2 ∷ 10 ∷ 3 ∷ 20 ∷ 5 ∷ 29 ∷ 9 ∷ 44 ∷ 1 ∷ 0 ∷ 0 ∷ 0 ∷ 0 ∷ 3 ∷ 0 ∷ 2 ∷ 1 ∷ 2 ∷ 1 ∷ 0 ∷ 1 ∷ 0 ∷ 1 ∷ 2 ∷ 0
    ∷ 3 ∷ 2 ∷ 1 ∷ 0 ∷ 0 ∷ 2 ∷ 1 ∷ 4 ∷ 2 ∷ 0 ∷ 6 ∷ 2 ∷ 1 ∷ 2 ∷ 2 ∷ 0 ∷ 0 ∷ 1 ∷ 0 ∷ 0 ∷ 0 ∷ 0 ∷ 1 ∷ 5 ∷ 1 ∷ 0 ∷ []

-- K.
abbrev pub meter_list : List ℕ
meter_list =
    2 ∷ 26 ∷ 1 ∷ 8 ∷ 0 ∷ 14 ∷ 2 ∷ 14 ∷ 0 ∷ 0 ∷ 0 ∷ 0 ∷ 0 ∷ 2 ∷ 2 ∷ 2 ∷ 2 ∷ 2 ∷ 0 ∷ 0 ∷ 2 ∷ 0 ∷ 2 ∷ 0 ∷ 0 ∷ 0 ∷ []

-- K with its two paths exchanged.
abbrev pub meter_exchanged : List ℕ
meter_exchanged =
    2 ∷ 26 ∷ 1 ∷ 8 ∷ 0 ∷ 14 ∷ 2 ∷ 14 ∷ 0 ∷ 0 ∷ 0 ∷ 0 ∷ 0 ∷ 2 ∷ 2 ∷ 0 ∷ 2 ∷ 0 ∷ 0 ∷ 0 ∷ 2 ∷ 2 ∷ 2 ∷ 2 ∷ 0 ∷ 0 ∷ []
