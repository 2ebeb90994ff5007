-- How long the variables of an answer are, from what owning the struct tells. Assumes nothing.
use Prim.Native.Nat.{ℕ}
use mathlib.Core.Path.{◌≡◌}
use mathlib.Core.List.{[], ◌∷◌}
use denote.Laws.{Is}
use denote.Struct.Declared.{row}
use denote.Struct.Laws.{val}
use lib.ListN.{length}
use Rattle.run.specs.declared.Trial.{Trial}
use Rattle.run.specs.contracts.Trial as trial
use Rattle.run.proofs.Trial.TheLaws as trial_laws

-- An answer has 16 variables.
pub trial_full : (t : Trial) → Is (row trial.the_type) t (val trial.the_type trial_laws.the_laws t ∷ []) → length t.variables ≡ 16
trial_full t h = h.1.1.1.1.1.1.1.1.0.1.0.1
