-- `judge::stops` meets its contract. Assumes nothing.
use mathlib.Core.Path.{◌≡◌, refl, sym, ◌∙◌, ap}
use mathlib.Core.Bool.{true, false}
use mathlib.Core.List.{List}
use Prim.Native.Nat.{ℕ}
use Rattle.model.specs.Run.{is_stop}
use Rattle.table.specs.declared.decoded.State.{State}
use Rattle.table.specs.declared.decoded.State.TheVariants.{Stop, Step, Test}
use Rattle.table.specs.Decoded.{state_meant}
use Rattle.table.proofs.Decoding.{state_meant_lem}
use Rattle.judge.proofs.stops.Goals as goal

stop_meant : (image : List ℕ) {s : State} → s ≡ Stop → true ≡ is_stop (state_meant image s)
unfolding is_stop state_meant
stop_meant image e = sym (ap (λ s. is_stop (state_meant image s)) e)

other_meant : (image : List ℕ) (s : State) → (s ≡ Stop → ⊥) → false ≡ is_stop (state_meant image s)
unfolding is_stop state_meant
other_meant image Stop h = absurd (h refl)
other_meant image (Step e) h = refl
other_meant image (Test k l r t f) h = refl

pub returns-in-Stop : goal.returns-in-Stop
returns-in-Stop c = stop_meant c.args.table.now c.in-Stop.is ∙ ap is_stop (sym (state_meant_lem _ _ c.state.ensures c.from.ensures))

pub returns-in_default : goal.returns-in_default
returns-in_default c = other_meant c.args.table.now _ c.in_default.not-Stop ∙ ap is_stop (sym (state_meant_lem _ _ c.state.ensures c.from.ensures))
