-- The numbers of an answer as they are handed to programs in other languages. 01, "How a table runs": "Its answer holds the number, image,
-- record, state reached, edges done, couples written and the sixteen variables." 01, "What the program answers": "The answer is a number,
-- which image (1, 2 or 3 for the correspondence) and a record". Assumes nothing.
use Rattle.std.specs.Prelude.{ℕ, List, [], ◌∷◌}
use Rattle.run.specs.declared.Trial.{Trial}
use Rattle.judge.specs.declared.Answer.{Answer}

-- The numbers of a run's answer in their order.
unfoldable pub numbers_of : Trial → List ℕ
numbers_of t = t.number ∷ t.image ∷ t.«record» ∷ t.state ∷ t.edges ∷ t.couples ∷ t.variables

-- The numbers of a judgement's answer in their order.
unfoldable pub three_numbers_of : Answer → List ℕ
three_numbers_of a = a.number ∷ a.image ∷ a.«record» ∷ []
