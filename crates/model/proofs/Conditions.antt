-- What the judgement concludes of conditions is right whatever the words are: a true constant holds, a false one does not, opposites
-- never hold together, and assured second conditions hold where the first's do. Assumes nothing.
use Prim.Native.Nat.{ℕ, ◌+◌, ◌*◌}
use mathlib.Core.Path.{◌≡◌, refl, sym, ◌∙◌, ap}
use mathlib.Core.Logic.{⊎_elim}
use mathlib.Core.Bool.{Bool, true, false, cond, not, ◌||◌}
use mathlib.Core.List.{List, [], ◌∷◌}
use mathlib.Core.Option.{Option, none, some}
use native.Mathlib.Omega.{arith}
use Rattle.model.specs.Word.{wrap, Kind, equal, signed_less, unsigned_less, kind_number, holds}
use Rattle.model.specs.Sum.{Sum, same_sum, powers, total, worth}
use Rattle.model.specs.Path.{Condition, is_none}
use Rattle.model.specs.Judgement.{constant_of, same_kind, settled_by, settled, settled_as, is_true, is_false, same_test, same_condition, opposite, any, contradicts, assured}
use Rattle.model.proofs.Basics.{clash, and_left, and_right, or_cases, beq_true, same_sum_lem, all_at, any_at}
use Rattle.model.proofs.Words.{wrap_zero, equal_self, signed_less_self, unsigned_less_self}
use Rattle.model.proofs.Following.{Holds, AllHold}

some_same : {A : Type 0} {a b : A} → ◌≡◌ {A = Option A} (some a) (some b) → a ≡ b
some_same e = cc

none_some : {A B : Type 0} {b : B} → ◌≡◌ {A = Option B} none (some b) → A
none_some e = absurd (let z : ◌≡◌ {A = ℕ} 0 1 = cc in omega arith)

module _ (w : ℕ) (ρ : ℕ → ℕ) where
  -- A sum that is a constant is worth it.

  constant_is : (s : Sum) (a : ℕ) → constant_of w s ≡ some a → worth w ρ s ≡ a
  unfolding constant_of worth total powers is_none
  constant_is [] a e = wrap_zero w ∙ some_same e
  constant_is (t ∷ []) a e = by t.coefficient t.symbols e
    where
      by : (c : ℕ) (l : List ℕ) → cond (is_none l) (some (wrap w c)) none ≡ some a → wrap w (c * powers ρ l + 0) ≡ a
      by c [] e =
          let q : c * 1 + 0 ≡ c = omega arith in
          ap (wrap w) q ∙ some_same e
      by c (x ∷ l) e = none_some e
  constant_is (t ∷ u ∷ s) a e = none_some e

  -- A test of two equal words is true for equal and false for less.
  test_self : (k : Kind) (a : ℕ) → holds w k a a ≡ same_kind k equal
  unfolding same_kind kind_number
  test_self equal a = equal_self w a
  test_self signed_less a = signed_less_self w a
  test_self unsigned_less a = unsigned_less_self w a

  -- What a condition's test comes to, on the words that the symbols have.
  unfoldable pub comes_to : Condition → Bool
  comes_to c = holds w c.kind (worth w ρ c.left) (worth w ρ c.right)

  settled_is : (c : Condition) (b : Bool) → settled w c ≡ some b → comes_to c ≡ b
  unfolding settled settled_by comes_to
  settled_is c b e = by (constant_of w c.left) (constant_of w c.right) (same_sum c.left c.right) refl refl refl e
    where
      alike : (s : Bool) → same_sum c.left c.right ≡ s → cond s (some (same_kind c.kind equal)) none ≡ some b → comes_to c ≡ b
      alike true q e = rw (same_sum_lem _ _ q) (test_self c.kind (worth w ρ c.right) ∙ some_same e)
      alike false q e = none_some e

      by : (l r : Option ℕ) (s : Bool) → constant_of w c.left ≡ l → constant_of w c.right ≡ r → same_sum c.left c.right ≡ s → settled_by w c.kind l r s ≡ some b → comes_to c ≡ b
      by none r s x y q e = alike s q e
      by (some a) none s x y q e = alike s q e
      by (some a) (some a') s x y q e = rw (constant_is _ a x, constant_is _ a' y) (some_same e)

  settled_as_is : (b : Bool) (o : Option Bool) → settled_as b o ≡ true → o ≡ some b
  unfolding settled_as
  settled_as_is b none e = clash e refl
  settled_as_is b (some a) e = ap (λ (x : Bool). some x) (beq_true a b e)

  -- A true constant condition holds.
  pub true_holds : (c : Condition) → is_true w c ≡ true → Holds w ρ c
  unfolding is_true Holds comes_to
  true_holds c e = settled_is c c.taken (settled_as_is _ _ e)

  not_self : (b : Bool) → b ≡ not b → ⊥
  not_self true e = clash refl e
  not_self false e = clash e refl

  -- A false constant condition does not.
  pub false_fails : (c : Condition) → is_false w c ≡ true → Holds w ρ c → ⊥
  unfolding is_false Holds comes_to
  false_fails c e h = not_self c.taken (sym h ∙ settled_is c (not c.taken) (settled_as_is _ _ e))

  same_kind_lem : (k l : Kind) → same_kind k l ≡ true → k ≡ l
  unfolding same_kind kind_number
  same_kind_lem equal equal e = refl
  same_kind_lem equal signed_less e = clash e refl
  same_kind_lem equal unsigned_less e = clash e refl
  same_kind_lem signed_less equal e = clash e refl
  same_kind_lem signed_less signed_less e = refl
  same_kind_lem signed_less unsigned_less e = clash e refl
  same_kind_lem unsigned_less equal e = clash e refl
  same_kind_lem unsigned_less signed_less e = clash e refl
  same_kind_lem unsigned_less unsigned_less e = refl

  -- The same test comes to the same.
  same_test_lem : (c d : Condition) → same_test c d ≡ true → comes_to c ≡ comes_to d
  unfolding same_test comes_to
  same_test_lem c d e =
      let k = same_kind_lem _ _ (and_left (same_kind c.kind d.kind) _ e) in
      let r = and_right (same_kind c.kind d.kind) _ e in
      let l = same_sum_lem _ _ (and_left (same_sum c.left d.left) _ r) in
      let r' = same_sum_lem _ _ (and_right (same_sum c.left d.left) _ r) in
      rw (k, l, r') refl

  -- A condition that equals one that holds, holds.
  pub same_holds : (d c : Condition) → same_condition d c ≡ true → Holds w ρ c → Holds w ρ d
  unfolding same_condition Holds comes_to
  same_holds d c e h =
      same_test_lem d c (and_left (same_test d c) _ e) ∙ h ∙ sym (beq_true _ _ (and_right (same_test d c) _ e))

  -- Opposites never hold together.
  pub opposites_fail : (c d : Condition) → opposite c d ≡ true → Holds w ρ c → Holds w ρ d → ⊥
  unfolding opposite Holds comes_to
  opposites_fail c d e h k =
      not_self
      d.taken
      (sym k ∙ sym (same_test_lem c d (and_left (same_test c d) _ e)) ∙ h ∙ beq_true _ _ (and_right (same_test c d) _ e))

  -- Rule 15: conditions that contradict never all hold.
  pub contradiction : (cs : List Condition) → contradicts w cs ≡ true → AllHold w ρ cs → ⊥
  unfolding contradicts AllHold
  contradiction cs e h =
      ⊎_elim
      (λ x. let (c, m, f) = any_at (is_false w) cs x in false_fails c f (h c m))
      (λ x.
      let (c, m, y) = any_at (λ a. any (opposite a) cs) cs x in
      let (d, n, f) = any_at (opposite c) cs y in
      opposites_fail c d f (h c m) (h d n))
      (or_cases (any (is_false w) cs) _ e)

  -- Rule 16: where the first's conditions hold, assured second ones do.
  pub assured_hold : (cs ds : List Condition) → assured w cs ds ≡ true → AllHold w ρ cs → AllHold w ρ ds
  unfolding assured AllHold
  assured_hold cs ds e h d m =
      ⊎_elim
      (true_holds d)
      (λ x. let (c, n, f) = any_at (same_condition d) cs x in same_holds d c f (h c n))
      (or_cases (is_true w d) _ (all_at (λ a. is_true w a || any (same_condition a) cs) ds e m))
