-- `table::areas::Areas::check_edge` is the model's finding of an edge. Assumes nothing.
use Rattle.std.proofs.Common.{rules, refl}
use native.Mathlib.Omega.{arith}
use Rattle.model.specs.Table.{action_at}
use Rattle.table.specs.Checks.{set_of}
use Rattle.table.proofs.Setting.{sets_distinct}
use Rattle.table.proofs.Records.{edge_range, edge_found, edge_refused, edge_twice, edge_once}
use Rattle.table.proofs.areas.Areas.check_edge.Goals as goal

pub returns-then-not-edge_fits : goal.returns-then-not-edge_fits
returns-then-not-edge_fits c =
    let found = edge_found _ _ c.word_at.ensures c.word_at-2.ensures c.args.self.now.edges_begin c.edge-e.ensures in
    edge_refused _ _ _ _ _ c.edge_fits.ensures found c.if-not-edge_fits.true

pub overflow_add-end : goal.overflow_add-end
overflow_add-end c = omega (arith, c.word_at-2.type_inv, edge_range _ _ _ _ _ c.edge_fits.ensures c.if-not-edge_fits.false)

pub returns-then-not-are_distinct : goal.returns-then-not-are_distinct
returns-then-not-are_distinct c =
    let found = edge_found _ _ c.word_at.ensures c.word_at-2.ensures c.args.self.now.edges_begin c.edge-e.ensures in
    let e = sets_distinct _ _ _ refl (c.are_distinct.ensures (λ j. set_of (action_at c.args.self.now.image.now j)) (λ j r q. search rules)) in
    edge_twice _ _ _ _ _ c.edge_fits.ensures found c.if-not-edge_fits.false e c.if-not-are_distinct.true

pub returns : goal.returns
returns c =
    let found = edge_found _ _ c.word_at.ensures c.word_at-2.ensures c.args.self.now.edges_begin c.edge-e.ensures in
    let e = sets_distinct _ _ _ refl (c.are_distinct.ensures (λ j. set_of (action_at c.args.self.now.image.now j)) (λ j r q. search rules)) in
    edge_once _ _ _ _ _ c.edge_fits.ensures found c.if-not-edge_fits.false e c.if-not-are_distinct.false
