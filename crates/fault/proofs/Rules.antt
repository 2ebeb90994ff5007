-- Rules of a record, decided in code: where all facts hold the rules are kept, where they cannot all hold they are not; and what then
-- is answered. Assumes nothing.
use Prim.Native.Nat.{ℕ, ◌≤◌, ◌<◌}
use mathlib.Core.Path.{◌≡◌, refl, sym, ◌∙◌, ap}
use mathlib.Core.Bool.{Bool, true, false}
use mathlib.Core.List.{List, [], ◌∷◌}
use native.Mathlib.Omega.{arith}
use borrow.Author.Tests.{le-leb, lt-ltb, eq-eqb}
use Rattle.model.specs.Answer.{Reason, Fault, sound, broken, ◌then◌, Rule, le, lt, is, so, kept, all_kept, check}
use Rattle.model.proofs.Basics.{Fact, Facts, facts, and_both}
use Rattle.std.specs.Prelude.{Result, Ok, Err}
use Rattle.fault.specs.Fault.{fault_at, checked_of}
use Rattle.fault.specs.declared.Fault as declared

-- The answer of a check.
abbrev pub Checked : Type 0
Checked = Result (Unit {0}) declared.Fault

keep : (r : Rule) → Fact r → kept r ≡ true
unfolding kept
keep (le a b) h = le-leb a b h
keep (lt a b) h = lt-ltb a b h
keep (is a b) h = eq-eqb a b h
keep (so b) h = h

keep_all : (rs : List Rule) → Facts rs → all_kept rs ≡ true
unfolding all_kept
keep_all [] h = refl
keep_all (r ∷ rs) h = and_both (keep r h.0) (keep_all rs h.1)

pub all_kept_lem : (rs : List Rule) → Facts rs → true ≡ all_kept rs
all_kept_lem rs h = sym (keep_all rs h)

not_kept_if : (b : Bool) (rs : List Rule) → all_kept rs ≡ b → (Facts rs → ⊥) → false ≡ b
not_kept_if true rs e k = absurd (k (facts rs e))
not_kept_if false rs e k = refl

pub not_kept : (rs : List Rule) → (Facts rs → ⊥) → false ≡ all_kept rs
not_kept rs k = not_kept_if (all_kept rs) rs refl k

-- The last test of a record is the answer.
pub decided : (b : Bool) (rs : List Rule) → (b ≡ true → Facts rs) → (b ≡ false → Facts rs → ⊥) → b ≡ all_kept rs
decided true rs h k = all_kept_lem rs (h refl)
decided false rs h k = not_kept rs (k refl)

-- What the rules of a record answer.

pub facts_kept : {b : Bool} (rs : List Rule) → b ≡ all_kept rs → b ≡ true → Facts rs
facts_kept rs e h = facts rs (cc)

pub check_kept : {b : Bool} (n : Reason) (i : ℕ) (rs : List Rule) → b ≡ all_kept rs → b ≡ true → check n i rs ≡ sound
unfolding check
check_kept n i rs e h = let q : all_kept rs ≡ true = cc in rw q

check_broken : {b : Bool} (n : Reason) (i : ℕ) (rs : List Rule) → b ≡ all_kept rs → b ≡ false → check n i rs ≡ broken n i
unfolding check
check_broken n i rs e h = let q : all_kept rs ≡ false = cc in rw q

pub refused : {b : Bool} (n : Reason) (i : ℕ) (rs : List Rule) (g : Fault) → b ≡ all_kept rs → b ≡ false
    → Err (fault_at n i) ≡ checked_of (check n i rs then g)
unfolding ◌then◌ checked_of
refused n i rs g e h = rw (check_broken n i rs e h)

pub passed : {b : Bool} (n : Reason) (i : ℕ) (rs : List Rule) (g : Fault) → b ≡ all_kept rs → b ≡ true → (check n i rs then g) ≡ g
unfolding ◌then◌
passed n i rs g e h = rw (check_kept n i rs e h)

-- The first of two findings, as the code answers it.

pub first_broken : {r : Checked} {e : declared.Fault} (f g : Fault) → r ≡ checked_of f → r ≡ Err e → Err e ≡ checked_of (f then g)
unfolding checked_of ◌then◌
first_broken sound g e k = absurd (let z : ◌≡◌ {A = ℕ} 0 1 = cc in omega arith)
first_broken (broken m j) g e k = sym k ∙ e

pub first_sound : {r : Checked} (f g : Fault) → r ≡ checked_of f → r ≡ Ok tt → (f then g) ≡ g
unfolding checked_of ◌then◌
first_sound sound g e k = refl
first_sound (broken m j) g e k = absurd (let z : ◌≡◌ {A = ℕ} 0 1 = cc in omega arith)

-- The first of three findings: the first breaks, the second does behind a sound first, or the third is the answer.

module _ (f g h : Fault) {t : Fault} (all : t ≡ (f then g then h)) {c : Checked} (e : c ≡ checked_of f) where
  pub first_of_three : {b : declared.Fault} → c ≡ Err b → Err b ≡ checked_of t
  first_of_three q = first_broken f (g then h) e q ∙ sym (ap checked_of all)

  module _ (q : c ≡ Ok tt) {d : Checked} (k : d ≡ checked_of g) where
    behind_first : t ≡ (g then h)
    behind_first = all ∙ first_sound f (g then h) e q

    pub second_of_three : {b : declared.Fault} → d ≡ Err b → Err b ≡ checked_of t
    second_of_three u = first_broken g h k u ∙ sym (ap checked_of behind_first)

    pub third_of_three : {r : Checked} → d ≡ Ok tt → r ≡ checked_of h → r ≡ checked_of t
    third_of_three u v = v ∙ sym (ap checked_of (behind_first ∙ first_sound g h k u))

pub is_sound : {r : Checked} (f : Fault) → r ≡ checked_of f → r ≡ Ok tt → f ≡ sound
unfolding checked_of
is_sound sound e k = refl
is_sound (broken m j) e k = absurd (let z : ◌≡◌ {A = ℕ} 0 1 = cc in omega arith)

pub then_sound : (f : Fault) → (f then sound) ≡ f
unfolding ◌then◌
then_sound sound = refl
then_sound (broken n r) = refl

-- A single test as a rule.
pub so_kept : (b : Bool) → b ≡ all_kept (so b ∷ [])
unfolding all_kept kept
so_kept true = refl
so_kept false = refl

-- What was read stands for what is in the image.

pub same_one : {a b n : ℕ} → a ≡ b → a ≡ n → b ≡ n
same_one p q = cc

pub same_both : {a b m n : ℕ} → a ≡ b → m ≡ n → a ≡ m → b ≡ n
same_both p q r = cc

pub at_most : {a b n : ℕ} → a ≡ b → a ≤ n → b ≤ n
at_most p h = omega arith

pub at_least : {a b n : ℕ} → a ≡ b → n ≤ a → n ≤ b
at_least p h = omega arith

pub over : {a b n : ℕ} → a ≡ b → n < a → b ≤ n → ⊥
over p h k = omega arith

pub under : {a b n : ℕ} → a ≡ b → a < n → n ≤ b → ⊥
under p h k = omega arith
