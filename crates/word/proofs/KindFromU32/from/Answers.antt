-- The kind that a number stands for is the kind of the model's number, in the code's words. Assumes nothing.
use Rattle.std.proofs.Common.{◌≡◌, ℕ, zero, suc, refl, arith}
use Rattle.model.specs.Table.{kind_of}
use Rattle.word.specs.declared.Kind.TheVariants.{UnsignedLess}
use Rattle.word.specs.Kinds.{kind_as}
use Rattle.word.proofs.KindFromU32.from.Goals as goal

-- Any number but 0 and 1 stands for unsigned less.
other : (n : ℕ) → (n ≡ 0 → ⊥) → (n ≡ 1 → ⊥) → UnsignedLess ≡ kind_as (kind_of n)
unfolding kind_as kind_of
other zero h m = absurd (h refl)
other (suc zero) h m = absurd (m refl)
other (suc (suc n)) h m = refl

pub returns-in-0 : goal.returns-in-0
unfolding kind_as kind_of
returns-in-0 c = rw c.in-0.is refl

pub returns-in-1 : goal.returns-in-1
unfolding kind_as kind_of
returns-in-1 c = rw c.in-1.is refl

pub returns-in_default : goal.returns-in_default
returns-in_default c = other _ (omega arith) (omega arith)
