-- `run::walk` meets its contract. The loop's invariant is `Walking`: the run from here on ends as the run from reset does. Assumes nothing.
use mathlib.Core.Path.{◌≡◌, ◌∙◌, ap}
use native.Mathlib.Omega.{arith}
use Rattle.run.specs.Answers.{ended_at}
use Rattle.run.proofs.Walking.{stops, goes_on_lem, walk_start, ends_stop, ends_limit, ends_input, ends_room, roomy, walk_step}
use Rattle.run.proofs.walk.Goals as goal

pub loop-done-init : goal.loop-done-init
loop-done-init c = walk_start _ _ _ _ _ _ c.args.table.now.passed c.new-hand.ensures c.given-left.ensures

pub returns-in_default : goal.returns-in_default
returns-in_default c =
    let a = ends_stop c.loop-done.invariant c.in_default.ensures.stops in
    record { value = c.at.ensures ∙ a.0; out_after = a.1 }

pub returns-in_default-needs : goal.returns-in_default-needs
returns-in_default-needs c =
    let a = ends_input c.loop-done.invariant c.loop-done-test.true c.in-Some.ensures.leaves c.needs.ensures.need c.in_default-needs.is in
    record { value = c.at-in_default-needs.ensures ∙ a.0; out_after = a.1 }

pub returns-then-out-hand : goal.returns-then-out-hand
returns-then-out-hand c =
    let a = ends_room c.loop-done.invariant c.loop-done-test.true c.in-Some.ensures.leaves c.needs.ensures.need c.in-Some-needs.is c.if-out-hand.true in
    record { value = c.at-then-out-hand.ensures ∙ a.0; out_after = a.1 }

pub perform-requires-clause-room : goal.perform-requires-clause-room
perform-requires-clause-room c =
    roomy c.loop-done.invariant c.loop-done-test.true c.in-Some.ensures.leaves c.needs.ensures.need c.in-Some-needs.is c.if-out-hand.false

pub loop-done-preserved : goal.loop-done-preserved
loop-done-preserved c =
    walk_step c.loop-done.invariant c.loop-done-test.true c.in-Some.ensures.leaves c.needs.ensures.need c.in-Some-needs.is c.if-out-hand.false _ _ c.perform.ensures

pub returns-in-Stop : goal.returns-in-Stop
returns-in-Stop c =
    let all : c.args.limit ≡ c.loop-done.done = omega arith in
    let a = ends_stop c.loop-done.invariant (stops _ _ c.state.ensures.meant c.in-Stop.is) in
    record { value = c.at-in-Stop.ensures ∙ ap (ended_at c.loop-done.hand _ c.loop-done.state) all ∙ a.0; out_after = a.1 }

pub returns-in_default-state : goal.returns-in_default-state
returns-in_default-state c =
    let all : c.args.limit ≡ c.loop-done.done = omega arith in
    let a = ends_limit c.loop-done.invariant c.loop-done-test.false (goes_on_lem _ _ c.state.ensures.meant c.in_default-state.not-Stop) in
    record { value = c.at-in_default-state.ensures ∙ ap (ended_at c.loop-done.hand _ c.loop-done.state) all ∙ a.0; out_after = a.1 }
