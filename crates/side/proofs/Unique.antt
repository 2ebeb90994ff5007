-- For each public function, two answers that meet its contract are equal, and so are the sides that `follow` leaves. Each theorem speaks of
-- the function's own generated contract, `Post`; `now s.0` is the side as the function returns. Assumes nothing.
use mathlib.Core.Path.{◌≡◌, refl, sym, ◌∙◌, ap}
use Rattle.std.specs.Prelude.{Result, Ok, Err}
use Rattle.model.proofs.Basics.{one_answer}
use Rattle.sum.specs.declared.TooLarge.{TooLarge}
use Rattle.side.specs.declared.Side.{Side}
use Rattle.side.specs.Following.{Reached, whole, stuck, followed_as}
use Rattle.side.proofs.Side.new.Reads as new
use Rattle.side.proofs.Side.follow.Reads as follow

-- A side with nothing on it is one side.
pub new_unique : (κs : _) (a : _) (r r' : _) (s s' : _) → new.Post κs a r s → new.Post κs a r' s' → r ≡ r'
new_unique κs a r r' s s' p q = one_answer p q

-- What is held where following came to an end.
held : Reached Side → Side
held (whole d) = d
held (stuck d) = d

-- Whether following was whole.
answer : Reached Side → Result (Unit {0}) TooLarge
answer (whole d) = Ok tt
answer (stuck d) = Err record {}

held_as_lem : (r : Result (Unit {0}) TooLarge) (d : Side) → held (followed_as r d) ≡ d
unfolding followed_as held
held_as_lem (Ok u) d = refl
held_as_lem (Err e) d = refl

answer_as : (r : Result (Unit {0}) TooLarge) (d : Side) → answer (followed_as r d) ≡ r
unfolding followed_as answer
answer_as (Ok u) d = refl
answer_as (Err e) d = refl

pub follow_unique : (κs : _) (a : _) (r r' : _) (s s' : _) → follow.Post κs a r s → follow.Post κs a r' s' → (r ≡ r') × (s.0.now ≡ s'.0.now)
follow_unique κs a r r' s s' p q =
    let same = one_answer p q in
    (sym (answer_as r _) ∙ ap answer same ∙ answer_as r' _, sym (held_as_lem r _) ∙ ap held same ∙ held_as_lem r' _)
