-- The second variables of a range of links, for the search for one that stands twice. 01: "a second-table variable stands at most
-- once in a pair's links". Assumes nothing.
use Prim.Native.Nat.{ℕ, ◌+◌, ◌-◌}
use mathlib.Core.Path.{◌≡◌, refl, ◌∙◌, ap}
use mathlib.Core.Bool.{Bool}
use mathlib.Core.List.{List, [], ◌∷◌, map}
use native.Mathlib.Omega.{arith}
use Rattle.std.specs.Prelude.{Some}
use Rattle.std.specs.List.{filter_map}
use Rattle.model.specs.Answer.{up_to}
use Rattle.model.specs.Table.{distinct}
use Rattle.list.specs.Checks.{link_record, seconds_in}

-- Numbers that all records have.
all_have : (h : ℕ → ℕ) (l : List ℕ) → filter_map (λ j. Some (h j)) l ≡ map h l
all_have h [] = refl
all_have h (i ∷ l) = ap (λ m. h i ∷ m) (all_have h l)

-- What the search along a range of links finds is whether the second variables of that range are distinct.
pub seconds_distinct : (list : List ℕ) (at first count : ℕ) {end : ℕ} {b : Bool} → end ≡ first + count
    → b ≡ distinct (filter_map (λ j. Some (link_record list at j).second) (up_to first (end - first)))
    → b ≡ distinct (seconds_in list at first count)
unfolding seconds_in
seconds_distinct list at first count {end} z e =
    let k : end - first ≡ count = omega arith in
    e ∙ ap distinct (all_have (λ j. (link_record list at j).second) (up_to first (end - first)) ∙ ap (λ n. map (λ j. (link_record list at j).second) (up_to first n)) k)
