-- What the test of one condition comes to, from what was read and tested. Assumes nothing.
use Prim.Native.Nat.{ℕ, ◌≤◌, ◌<◌, ◌^◌}
use mathlib.Core.Path.{◌≡◌, refl, sym, ◌∙◌, ap}
use mathlib.Core.Bool.{Bool, true, false, cond}
use mathlib.Core.List.{List, [], ◌∷◌}
use mathlib.Core.Option as Math
use native.Mathlib.Omega.{arith}
use lib.ListN.{length, get_or}
use borrow.Author.Tests.{eq-eqb}
use denote.Enum.Bare.{sameb}
use Rattle.std.specs.Prelude.{Option, Some, None}
use Rattle.model.specs.Word.{base, wrap, holds, equal, kind_number}
use Rattle.model.specs.Judgement.{same_kind, settled_by, settled_as}
use Rattle.word.specs.declared.Kind.{Kind}
use Rattle.word.specs.declared.Kind.TheVariants.{Equal, SignedLess, UnsignedLess}
use Rattle.word.specs.contracts.Kind as Bare
use Rattle.word.specs.Kinds.{kind_of}
use Rattle.sum.specs.declared.Term.{Term}
use Rattle.sum.specs.Packed.{same_k, terms_of, zero_term}
use Rattle.condition.specs.declared.Condition.{Condition}
use Rattle.condition.specs.declared.Settled.{Settled}
use Rattle.condition.specs.declared.Settled.TheVariants.{Open, Constant}
use Rattle.condition.specs.Conditions.{constant_in, word_of, settled_in, settled_of, constant_on}

-- The constant that one term with no symbols is.
pub constant_one : (l : List Term) → 1 ≤ length l → length l < 2 → (get_or l 0 zero_term).mono ≡ 0 → (get_or l 0 zero_term).coef < 2 ^ 32
    → Some (get_or l 0 zero_term).coef ≡ word_of (constant_in l)
unfolding word_of constant_in wrap
constant_one [] h k z w = absurd (omega arith)
constant_one (t ∷ []) h k z w =
    let s : t.coef ≡ wrap base t.coef = omega arith in
    rw (eq-eqb _ _ z) (ap Some s)
constant_one (t ∷ (u ∷ l)) h k z w = absurd (omega arith)

-- The derived equality of kinds with the first one.
pub equal_kind : (k : Kind) → sameb Bare.the_type k Equal ≡ same_kind (kind_of k) equal
unfolding same_kind kind_of kind_number
equal_kind Equal = refl
equal_kind SignedLess = refl
equal_kind UnsignedLess = refl

-- What was answered says which constant it was.

no_word : (o : Math.Option ℕ) {w : Option ℕ} → w ≡ word_of o → w ≡ None → o ≡ Math.none
unfolding word_of
no_word Math.none e h = refl
no_word (Math.some a) e h = absurd (let z : ◌≡◌ {A = ℕ} 0 1 = cc in omega arith)

word_is : (o : Math.Option ℕ) {w : Option ℕ} {x : ℕ} → w ≡ word_of o → w ≡ Some x → o ≡ Math.some x
unfolding word_of
word_is Math.none e h = absurd (let z : ◌≡◌ {A = ℕ} 0 1 = cc in omega arith)
word_is (Math.some a) {x = x} e h = let d : a ≡ x = cc in ap Math.some d

module _ (c : Condition) {v w : Option ℕ} (first : v ≡ word_of (constant_in (terms_of c.left))) (second : w ≡ word_of (constant_in (terms_of c.right))) where
  pub settled_both : {x y : ℕ} {b : Bool} → v ≡ Some x → w ≡ Some y → b ≡ holds base (kind_of c.kind) x y → Constant b ≡ settled_of (settled_in c)
  unfolding settled_in settled_by settled_of
  settled_both h k e = ap Constant e ∙ rw (word_is _ first h, word_is _ second k) refl

  -- One is no constant.

  pub alike_left : v ≡ None → settled_in c ≡ cond (same_k (terms_of c.left) (terms_of c.right)) (Math.some (same_kind (kind_of c.kind) equal)) Math.none
  unfolding settled_in settled_by
  alike_left h = rw (no_word _ first h) refl

  pub alike_right : {x : ℕ} → v ≡ Some x → w ≡ None → settled_in c ≡ cond (same_k (terms_of c.left) (terms_of c.right)) (Math.some (same_kind (kind_of c.kind) equal)) Math.none
  unfolding settled_in settled_by
  alike_right h k = rw (word_is _ first h, no_word _ second k) refl

module _ (c : Condition) {s : Bool} (alike : settled_in c ≡ cond (same_k (terms_of c.left) (terms_of c.right)) (Math.some (same_kind (kind_of c.kind) equal)) Math.none) (same : s ≡ same_k (terms_of c.left) (terms_of c.right)) where
  pub alike_same : {b : Bool} → s ≡ true → b ≡ sameb Bare.the_type c.kind Equal → Constant b ≡ settled_of (settled_in c)
  unfolding settled_of
  alike_same h e =
      let t : same_k (terms_of c.left) (terms_of c.right) ≡ true = sym same ∙ h in
      ap Constant (e ∙ equal_kind c.kind) ∙ rw (alike, t) refl

  pub alike_open : s ≡ false → Open ≡ settled_of (settled_in c)
  unfolding settled_of
  alike_open h =
      let t : same_k (terms_of c.left) (terms_of c.right) ≡ false = sym same ∙ h in
      rw (alike, t) refl

-- What it comes to is constant on a side, or is not.
pub as_side : (o : Math.Option Bool) (b : Bool) {r : Settled} {x : Bool} → r ≡ settled_of o → x ≡ constant_on b r → x ≡ settled_as b o
unfolding settled_of settled_as constant_on
as_side Math.none b e h = h ∙ ap (constant_on b) e
as_side (Math.some a) b e h = h ∙ ap (constant_on b) e
