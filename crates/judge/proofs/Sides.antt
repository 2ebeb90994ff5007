-- Rules 14 and 16 to 19 on two sides that stand for the paper's are the paper's. Assumes nothing.
use Prim.Native.Nat.{ℕ}
use mathlib.Core.Path.{◌≡◌, refl, sym, ◌∙◌, ap}
use mathlib.Core.Bool.{Bool, true, false}
use mathlib.Core.List.{List, [], ◌∷◌, map}
use lib.ListN.{length}
use Rattle.std.specs.Prelude.{Err}
use Rattle.model.specs.Answer.{Fault, ◌then◌, up_to, le, check, over_tests, not_assured, reads_differ, writes_differ, link_not_kept}
use Rattle.model.specs.Word.{base}
use Rattle.model.specs.Correspondence.{links_at, link_at}
use Rattle.model.specs.Path as Model
use Rattle.model.specs.Judgement.{judge_sides}
use Rattle.fault.specs.Fault.{fault_at, checked_of}
use Rattle.fault.specs.declared.Reason.TheVariants.{LinkNotKept}
use Rattle.fault.proofs.Rules.{all_kept_lem, passed}
use Rattle.condition.specs.Conditions.{conditions_of, assured_in}
use Rattle.side.specs.declared.Side.{Side}
use Rattle.side.proofs.Paper.{Agrees}
use Rattle.side.proofs.Joined.{conditions_few}
use Rattle.rules.proofs.Paper.{assured_paper, reads_paper, writes_paper, links_paper}
use Rattle.rules.specs.Rules.{same_reads_in, same_writes_in, keeps_all_in}
use Rattle.judge.specs.Judging.{Checked, found_of, sides_in}
use Rattle.judge.proofs.Findings.{test_broken, test_passed, test_last}

-- A side's tests are at most 32: rule 14 is kept.

pub one_few : (a : Side) (m : Model.Side) → Agrees a m → (i : ℕ) (g : Fault) → (check over_tests i (le (length m.conditions) 32 ∷ []) then g) ≡ g
one_few a m h i g = passed over_tests i _ g (all_kept_lem _ (conditions_few _ _ h.conditions, tt)) refl

module _ (a b : Side) (m n : Model.Side) (h : Agrees a m) (k : Agrees b n) where
  both_few : (i : ℕ) (g : Fault) → (check over_tests i (le (length m.conditions) 32 ∷ le (length n.conditions) 32 ∷ []) then g) ≡ g
  both_few i g = passed over_tests i _ g (all_kept_lem _ (conditions_few _ _ h.conditions, (conditions_few _ _ k.conditions, tt))) refl

  pub sides_paper : (list : List ℕ) {at : ℕ} (i c j : ℕ) → at ≡ links_at list → sides_in list at i c j a b ≡ judge_sides base j (map (link_at list) (up_to i c)) m n
  unfolding sides_in judge_sides
  sides_paper list i c j e =
      rw (assured_paper _ _ _ _ h.conditions k.conditions, reads_paper a b m n h k, writes_paper a b m n h k, links_paper a b m n h k list i c e)
      (sym (both_few j _))

-- Rules 16 to 19 one after the other, as the code finds them.
module _ (list : List ℕ) (at i c j : ℕ) (a b : Side) where
  abbrev Found : Checked
  Found = checked_of (sides_in list at i c j a b)

  module _ {x : Bool} (xe : x ≡ assured_in (conditions_of a.conditions) (conditions_of b.conditions)) where
    pub sides_assured : x ≡ false → Err (fault_at not_assured j) ≡ Found
    unfolding sides_in
    sides_assured h = test_broken not_assured j _ (sym xe ∙ h)

    module _ (xh : x ≡ true) {y : Bool} (ye : y ≡ same_reads_in a.reads b.reads) where
      pub sides_reads : y ≡ false → Err (fault_at reads_differ j) ≡ Found
      unfolding sides_in
      sides_reads h = test_broken reads_differ j _ (sym ye ∙ h) ∙ ap checked_of (sym (test_passed not_assured j _ (sym xe ∙ xh)))

      module _ (yh : y ≡ true) {z : Bool} (ze : z ≡ same_writes_in a.writes b.writes) where
        pub sides_writes : z ≡ false → Err (fault_at writes_differ j) ≡ Found
        unfolding sides_in
        sides_writes h =
            test_broken writes_differ j _ (sym ze ∙ h)
            ∙ ap checked_of (sym (test_passed not_assured j _ (sym xe ∙ xh) ∙ test_passed reads_differ j _ (sym ye ∙ yh)))

        pub sides_links : z ≡ true → {from : ℕ} → from ≡ at → {k : Bool} {q : Checked} → k ≡ keeps_all_in list from i c a.env b.env → q ≡ found_of k LinkNotKept j → q ≡ Found
        unfolding sides_in
        sides_links zh fe ke e =
            e
            ∙ ap (λ k. found_of k LinkNotKept j) (ke ∙ ap (λ f. keeps_all_in list f i c a.env b.env) fe)
            ∙ test_last link_not_kept j (keeps_all_in list at i c a.env b.env)
            ∙ ap checked_of (sym (test_passed not_assured j _ (sym xe ∙ xh) ∙ test_passed reads_differ j _ (sym ye ∙ yh) ∙ test_passed writes_differ j _ (sym ze ∙ zh)))
