-- `cover::visit` is the walk of the tree of choices. Its cycle of calls is itself; the measure is the number of edges left. Assumes nothing.
use mathlib.Core.Path.{◌∙◌}
use native.Mathlib.Omega.{arith}
use Rattle.cover.proofs.Stepping.{none_left, too_short, other_choices, ends_here, too_deep, at_stop, at_step, true_fails, true_leaves, left_within}
use Rattle.cover.proofs.+visit.Goals as goal

pub returns-then-next-end : goal.returns-then-next-end
returns-then-next-end t c = none_left _ _ c.args.node _ _ c.if-next-end.true

pub returns-then-path-node : goal.returns-then-path-node
returns-then-path-node t c = too_short _ _ c.args.node _ _ c.requires.0 c.word_at.ensures c.path-path.ensures c.if-next-end.false c.if-path-node.true

pub returns-then-low_bits-node : goal.returns-then-low_bits-node
returns-then-low_bits-node t c = other_choices _ _ c.args.node _ _ c.requires.0 c.word_at.ensures c.path-path.ensures c.if-next-end.false c.low_bits.ensures c.if-low_bits-node.true

pub returns-then-path-node-2 : goal.returns-then-path-node-2
returns-then-path-node-2 t c = ends_here _ _ c.args.node _ _ c.requires.0 c.word_at.ensures c.path-path.ensures c.if-next-end.false c.low_bits.ensures c.if-low_bits-node.false c.if-path-node-2.true

pub returns-then-node-eq32 : goal.returns-then-node-eq32
returns-then-node-eq32 t c = too_deep _ _ c.args.node _ _ c.requires.0 c.word_at.ensures c.path-path.ensures c.if-next-end.false c.low_bits.ensures c.if-low_bits-node.false c.if-path-node.false c.if-path-node-2.false c.if-node-eq32.true

pub returns-in-Stop : goal.returns-in-Stop
returns-in-Stop t c = at_stop _ _ c.args.node _ _ c.requires.0 c.word_at.ensures c.path-path.ensures c.if-next-end.false c.low_bits.ensures c.if-low_bits-node.false c.if-path-node.false c.if-path-node-2.false c.if-node-eq32.false c.state.ensures c.in-Stop.ensures

pub returns-in-Step : goal.returns-in-Step
returns-in-Step t c = at_step _ _ c.args.node _ _ c.requires.0 c.word_at.ensures c.path-path.ensures c.if-next-end.false c.low_bits.ensures c.if-low_bits-node.false c.if-path-node.false c.if-path-node-2.false c.if-node-eq32.false c.state.ensures c.word_at-at.ensures c.on.result c.in-Step.ensures c.edge-only.ensures c.on.ensures.state c.on.ensures.depth c.on.ensures.led c.visit.ensures

pub returns-in_err-left-in-Test : goal.returns-in_err-left-in-Test
returns-in_err-left-in-Test t c = c.from_residual.ensures ∙ true_fails _ _ c.args.node _ _ c.requires.0 c.word_at.ensures c.path-path.ensures c.if-next-end.false c.low_bits.ensures c.if-low_bits-node.false c.if-path-node.false c.if-path-node-2.false c.if-node-eq32.false c.state.ensures c.word_at-at.ensures c.on-in-Test.result c.in-Test.ensures c.edge-first.ensures c.on-in-Test.ensures.state c.on-in-Test.ensures.depth c.on-in-Test.ensures.led c.visit-in-Test.ensures c.in_err-left-in-Test.was

pub visit-requires-in-Test-2 : goal.visit-requires-in-Test-2
visit-requires-in-Test-2 t c = (omega (arith, c.on-in-Test-2.ensures.depth, c.on-in-Test-2.result.shallow), (c.requires.0, left_within _ _ c.visit-in-Test.ensures c.in_ok-left-in-Test.was))

pub returns-in_ok-left-in-Test : goal.returns-in_ok-left-in-Test
returns-in_ok-left-in-Test t c = true_leaves _ _ c.args.node _ _ c.requires.0 c.word_at.ensures c.path-path.ensures c.if-next-end.false c.low_bits.ensures c.if-low_bits-node.false c.if-path-node.false c.if-path-node-2.false c.if-node-eq32.false c.state.ensures c.word_at-at.ensures c.on-in-Test.result c.in-Test.ensures c.edge-first.ensures c.on-in-Test.ensures.state c.on-in-Test.ensures.depth c.on-in-Test.ensures.led c.visit-in-Test.ensures c.on-in-Test-2.result c.in_ok-left-in-Test.was c.edge-second.ensures c.on-in-Test-2.ensures.state c.on-in-Test-2.ensures.depth c.on-in-Test-2.ensures.led c.visit-in-Test-2.ensures
