-- `expr::joined` is the operation of the code word. Assumes nothing.
use native.Mathlib.Omega.{arith}
use Prim.Native.Nat.{ℕ, zero, suc}
use mathlib.Core.Path.{◌≡◌, refl, sym, ◌∙◌}
use Rattle.model.specs.Word.{base, plus, minus, times}
use Rattle.expr.specs.Answers.{joined_by}
use Rattle.expr.proofs.joined.Goals as goal

joined_two : (x a b : ℕ) → x ≡ 2 → joined_by x a b ≡ plus base a b
unfolding joined_by
joined_two x a b h = rw h

joined_three : (x a b : ℕ) → x ≡ 3 → joined_by x a b ≡ minus base a b
unfolding joined_by
joined_three x a b h = rw h

joined_else : (x a b : ℕ) → (x ≡ 2 → ⊥) → (x ≡ 3 → ⊥) → joined_by x a b ≡ times base a b
unfolding joined_by
joined_else zero a b h k = refl
joined_else (suc zero) a b h k = refl
joined_else (suc (suc zero)) a b h k = absurd (h refl)
joined_else (suc (suc (suc zero))) a b h k = absurd (k refl)
joined_else (suc (suc (suc (suc x)))) a b h k = refl

pub returns-in-2 : goal.returns-in-2
returns-in-2 c = c.plus.ensures ∙ sym (joined_two _ _ _ c.in-2.is)

pub returns-in-3 : goal.returns-in-3
returns-in-3 c = c.minus.ensures ∙ sym (joined_three _ _ _ c.in-3.is)

pub returns-in_default : goal.returns-in_default
returns-in_default c =
    c.times.ensures ∙ sym (joined_else _ _ _ (λ (e : c.args.kind ≡ 2). omega arith) (λ (e : c.args.kind ≡ 3). omega arith))
