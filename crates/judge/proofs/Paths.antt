-- A path of a pair: a marked one by rules 13 and 15 on its first side, another by rules 12, 13 and 16 to 19, where the sides that the code
-- follows stand for the paper's. Assumes nothing.
use Prim.Native.Nat.{ℕ}
use mathlib.Core.Path.{◌≡◌, refl, sym, ◌∙◌, ap}
use mathlib.Core.Bool.{Bool, true, false, ◌&&◌}
use mathlib.Core.List.{List, [], ◌∷◌, map}
use lib.Dec.{eqb}
use Rattle.std.specs.Prelude.{Err}
use Rattle.model.specs.Answer.{up_to, so, check, does_not_follow, over_size, no_contradiction}
use Rattle.model.specs.Word.{base}
use Rattle.model.specs.Table.{Table}
use Rattle.model.specs.Sum.{Outcome, too_large, fits}
use Rattle.model.specs.Path as Model
use Rattle.model.specs.Path.{walkable, end_state, side, follow}
use Rattle.model.specs.Correspondence.{Pair, Path, links_at, link_at}
use Rattle.model.specs.Judgement.{contradicts, first_side, second_side, when_fits, judge_impossible, judge_sides, leads_to, judge_possible, judge_path}
use Rattle.fault.specs.Fault.{fault_at, checked_of}
use Rattle.fault.specs.declared.Reason.TheVariants.{NoContradiction}
use Rattle.condition.specs.Conditions.{conditions_of, contradicts_in}
use Rattle.side.specs.declared.Side.{Side}
use Rattle.side.proofs.Paper.{Agrees}
use Rattle.rules.proofs.Paper.{contradicts_paper}
use Rattle.judge.specs.Judging.{Checked, found_of, sides_in}
use Rattle.judge.proofs.Findings.{test_broken, test_passed, test_last}
use Rattle.judge.proofs.Sides.{one_few, sides_paper}

-- A path by its parts.
abbrev pub path_of : ℕ → List Bool → List Bool → ℕ → Bool → Path
path_of j bs cs target marked = record { index = j; first = bs; second = cs; target = target; impossible = marked }

module _ (t u : Table) (pair_of : ℕ → Pair) (P : Pair) (j : ℕ) (bs cs : List Bool) (target : ℕ) where
  -- What is found of the path, as the code answers it.
  abbrev Found : Bool → Checked
  Found marked = checked_of (judge_path base t u pair_of P (path_of j bs cs target marked))

  -- The two sides, followed.

  abbrev pub First : Outcome Model.Side
  First = follow base t bs (first_side P)

  abbrev pub Second : Outcome Model.Side
  Second = follow base u cs (second_side P)

  -- A marked path.

  pub marked_large : First ≡ too_large → Err (fault_at over_size j) ≡ Found true
  unfolding judge_path when_fits checked_of
  marked_large e = rw e refl

  pub marked_found : (a : Side) (m : Model.Side) → Agrees a m → First ≡ fits m → {b : Bool} → b ≡ contradicts_in (conditions_of a.conditions) → found_of b NoContradiction j ≡ Found true
  unfolding judge_path when_fits judge_impossible
  marked_found a m h e {b} c =
      let paper : b ≡ contradicts base m.conditions = c ∙ contradicts_paper _ _ h.conditions in
      rw (e, paper, one_few a m h j (check no_contradiction j (so (contradicts base m.conditions) ∷ []))) (test_last no_contradiction j (contradicts base m.conditions))

  -- Another path: whether it leads to its target.
  module _ {first : Bool} (walked : walkable t P.first bs ≡ true)
      (one : first ≡ (walkable t P.first bs && eqb (end_state t P.first bs) (pair_of target).first)) where
    leads_by : leads_to t u P (path_of j bs cs target false) (pair_of target) ≡ (first && (walkable u P.second cs && eqb (end_state u P.second cs) (pair_of target).second))
    unfolding leads_to
    leads_by =
        let ends : first ≡ eqb (end_state t P.first bs) (pair_of target).first = rw walked at one in
        rw (← ends) refl

    pub astray : first ≡ false → Err (fault_at does_not_follow j) ≡ Found false
    unfolding judge_path judge_possible
    astray h = test_broken does_not_follow j _ (leads_by ∙ (rw h refl))

  module _ {first second : Bool} (walked : walkable t P.first bs ≡ true)
      (one : first ≡ (walkable t P.first bs && eqb (end_state t P.first bs) (pair_of target).first))
      (other : second ≡ (walkable u P.second cs && eqb (end_state u P.second cs) (pair_of target).second)) where
    leads_is : leads_to t u P (path_of j bs cs target false) (pair_of target) ≡ (first && second)
    leads_is = leads_by walked one ∙ ap (λ b. first && b) (sym other)

    pub astray_second : first ≡ true → second ≡ false → Err (fault_at does_not_follow j) ≡ Found false
    unfolding judge_path judge_possible
    astray_second h k = test_broken does_not_follow j _ (leads_is ∙ (rw (h, k) refl))

    -- It leads there: what is found of its sides.
    sides_of : first ≡ true → second ≡ true
        → judge_path base t u pair_of P (path_of j bs cs target false) ≡ when_fits j First (λ a. when_fits j Second (judge_sides base j (pair_of target).links a))
    unfolding judge_path judge_possible
    sides_of h k = test_passed does_not_follow j _ (leads_is ∙ (rw (h, k) refl))

    pub first_large : first ≡ true → second ≡ true → First ≡ too_large → Err (fault_at over_size j) ≡ Found false
    unfolding when_fits checked_of
    first_large h k e = rw (sides_of h k, e) refl

    pub second_large : first ≡ true → second ≡ true → {m : Model.Side} → First ≡ fits m → Second ≡ too_large → Err (fault_at over_size j) ≡ Found false
    unfolding when_fits checked_of
    second_large h k e f = rw (sides_of h k, e, f) refl

    pub both_found : first ≡ true → second ≡ true → (a b : Side) (m n : Model.Side) → Agrees a m → Agrees b n → First ≡ fits m → Second ≡ fits n
        → (list : List ℕ) {at : ℕ} (i c : ℕ) → at ≡ links_at list → (pair_of target).links ≡ map (link_at list) (up_to i c)
        → {r : Checked} → r ≡ checked_of (sides_in list at i c j a b) → r ≡ Found false
    unfolding when_fits
    both_found h k a b m n sa sb e f list i c begin links q =
        q ∙ ap checked_of (sides_paper a b m n sa sb list i c j begin ∙ ap (λ ls. judge_sides base j ls m n) (sym links))
        ∙ (rw (sides_of h k, e, f) refl)
