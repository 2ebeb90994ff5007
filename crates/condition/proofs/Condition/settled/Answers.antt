-- `condition::Condition::settled` is what the test comes to whatever the words are. Assumes nothing.
use Rattle.condition.proofs.Settling.{settled_both, alike_left, alike_right, alike_same, alike_open}
use Rattle.condition.proofs.Condition.settled.Goals as goal
use Rattle.condition.proofs.Condition.settled.Goals.{in_default-via-in-Some+in_default, in_default-via-in_default}

pub returns-in-Some-Some : goal.returns-in-Some-Some
returns-in-Some-Some c = settled_both _ c.constant.ensures c.constant-2.ensures c.in-Some-Some.is-0 c.in-Some-Some.is-1 c.holds.ensures

pub returns-in_default : goal.returns-in_default
returns-in_default c =
    alike_same _
    (elim c.in_default.branch [
      | in_default-via-in-Some+in_default w ↦ alike_right _ c.constant.ensures c.constant-2.ensures w.in_default.is-0 w.in_default.is-1
      | in_default-via-in_default w ↦ alike_left _ c.constant.ensures c.constant-2.ensures w.in_default.is-0
    ])
    c.same.ensures c.if-same.true c.eq.ensures

pub returns-in_default-2 : goal.returns-in_default-2
returns-in_default-2 c =
    alike_open _
    (elim c.in_default.branch [
      | in_default-via-in-Some+in_default w ↦ alike_right _ c.constant.ensures c.constant-2.ensures w.in_default.is-0 w.in_default.is-1
      | in_default-via-in_default w ↦ alike_left _ c.constant.ensures c.constant-2.ensures w.in_default.is-0
    ])
    c.same.ensures c.if-same.false
