-- What a yes of the code is worth: wherever `judge` answers 0 0 0, the tables that the two lent images hold keep the promise of demand 3,
-- whatever list was lent. The theorem speaks of the function's own generated contract, `Post`; `a` holds the three lent images.
-- Assumes nothing.
use mathlib.Core.Path.{◌≡◌, sym, ◌∙◌, ap}
use Rattle.model.specs.Answer as Model
use Rattle.model.specs.Answer.{accepted}
use Rattle.model.specs.Word.{base}
use Rattle.model.specs.Table.{table_of}
use Rattle.model.specs.Promise.{Promise}
use Rattle.model.proofs.Demand3.{yes_is_worth}
use Rattle.judge.specs.declared.Answer.{Answer}
use Rattle.judge.specs.Judging.{parts_of, answer_of}
use Rattle.judge.proofs.judge.Reads as judge

-- The answer 0 0 0.
abbrev pub yes_answer : Answer
yes_answer = record { number = 0; image = 0; «record» = 0 }

-- It is the model's acceptance.
accepts : (v : Model.Answer) → yes_answer ≡ answer_of v → v ≡ accepted
unfolding parts_of answer_of accepted
accepts v e =
    λ i. record { number = sym (ap (λ a. a.number) e) i; image = sym (ap (λ a. a.image) e) i; «record» = sym (ap (λ a. a.«record») e) i }

-- Demand 3 of the code.
pub judge_yes : (κs : _) (a : _) (r : _) (s : _) → judge.Post κs a r s → r ≡ yes_answer → Promise base (table_of a.0.now) (table_of a.1.0.now)
judge_yes κs a r s p h = yes_is_worth a.0.now a.1.0.now a.1.1.0.now (accepts _ (sym h ∙ p))
