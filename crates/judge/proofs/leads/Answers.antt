-- `judge::leads` meets its contract. Assumes nothing.
use Prim.Native.Nat.{ℕ}
use mathlib.Core.Path.{◌≡◌, refl, ◌∙◌, ap}
use mathlib.Core.Bool.{Bool, true, false, ◌&&◌}
use lib.Dec.{eqb}
use Rattle.std.specs.Prelude.{Some}
use Rattle.std.specs.Option.{option_eq}
use Rattle.cover.specs.Ending.{reached_of}
use Rattle.judge.proofs.leads.Goals as goal

arrived : (b : Bool) (s target : ℕ) → option_eq eqb (reached_of b s) (Some target) ≡ (b && eqb s target)
unfolding reached_of
arrived true s target = refl
arrived false s target = refl

pub returns : goal.returns
returns c = c.eq.ensures ∙ ap (λ r. option_eq eqb r (Some c.args.target)) c.reach.ensures ∙ arrived _ _ _
