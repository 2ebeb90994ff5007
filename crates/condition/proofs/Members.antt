-- Tests of some and of every member, by the library's words and by the model's. Assumes nothing.
use mathlib.Core.Path.{◌≡◌, refl, sym, ◌∙◌, ap}
use mathlib.Core.Bool.{Bool, true, false, ◌&&◌, ◌||◌}
use mathlib.Core.List.{List, [], ◌∷◌}
use Rattle.std.specs.List.{list_any, list_all}
use Rattle.model.specs.Judgement.{any, all, settled_as}
use Rattle.condition.specs.declared.Condition.{Condition}
use Rattle.condition.specs.Conditions.{settled_in, like_in, met_in}

pub any_members : {A : Type 0} (f : A → Bool) (l : List A) → list_any f l ≡ any f l
unfolding any
any_members f [] = refl
any_members f (a ∷ l) = ap (λ b. f a || b) (any_members f l)

pub all_members : {A : Type 0} (f : A → Bool) (l : List A) → list_all f l ≡ all f l
unfolding all
all_members f [] = refl
all_members f (a ∷ l) = ap (λ b. f a && b) (all_members f l)

-- A condition that is met: constant on the side, or among the others.
module _ (cs : List Condition) (c : Condition) (b : Bool) {x : Bool} (constant : x ≡ settled_as b (settled_in c)) where
  pub met_constant : x ≡ true → true ≡ met_in cs c b
  unfolding met_in
  met_constant h = let q : settled_as b (settled_in c) ≡ true = sym constant ∙ h in rw q refl

  pub met_among : {r : Bool} → x ≡ false → r ≡ any (like_in c b) cs → r ≡ met_in cs c b
  unfolding met_in
  met_among h e = let q : settled_as b (settled_in c) ≡ false = sym constant ∙ h in rw q e
