-- How long the array of a sum is, from what owning the struct tells. Assumes nothing.
use mathlib.Core.Path.{◌≡◌}
use mathlib.Core.List.{[], ◌∷◌}
use denote.Laws.{Is}
use denote.Struct.Declared.{row}
use denote.Struct.Laws.{val}
use lib.ListN.{length}
use Rattle.sum.specs.declared.Sum.{Sum}
use Rattle.sum.specs.contracts.Sum as sum
use Rattle.sum.proofs.Sum.TheLaws as sum_laws

-- A sum has 16 entries.
pub sum_full : (s : Sum) → Is (row sum.the_type) s (val sum.the_type sum_laws.the_laws s ∷ []) → length s.terms ≡ 16
sum_full s h = h.1.1.1.0.1.0.1
