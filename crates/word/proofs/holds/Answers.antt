-- `word::holds` is the definition at width 32, signed less through the signed numbers. Assumes nothing.
use Rattle.std.proofs.Common.{refl, to_z-of_z, w64, rules}
use Rattle.model.specs.Word.{holds}
use Rattle.word.specs.Kinds.{kind_of}
use Rattle.word.proofs.holds.Goals as goal

pub returns-in-Equal : goal.returns-in-Equal
unfolding holds kind_of
returns-in-Equal c = rw c.in-Equal.is refl

pub returns-in-SignedLess : goal.returns-in-SignedLess
unfolding holds kind_of
returns-in-SignedLess c =
    rw (
      c.in-SignedLess.is,
      to_z-of_z {w = w64} (record { sfits = c.signed.type_inv }),
      to_z-of_z {w = w64} (record { sfits = c.signed-in-SignedLess.type_inv }),
      c.signed.ensures,
      c.signed-in-SignedLess.ensures,
    )
    refl

pub returns-in-UnsignedLess : goal.returns-in-UnsignedLess
unfolding holds kind_of
returns-in-UnsignedLess c = rw c.in-UnsignedLess.is refl
