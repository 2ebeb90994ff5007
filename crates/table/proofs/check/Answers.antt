-- `table::check` is the model's finding of a table image. Assumes nothing.
use Rattle.std.proofs.Common.{rules, refl}
use Rattle.std.proofs.lemmas.Result.{err_from_is_err_and}
use Rattle.fault.proofs.Rules.{first_of_three, second_of_three, third_of_three}
use Rattle.model.specs.Table.{state_fault, action_fault, edge_fault}
use Rattle.table.proofs.Records.{header_refused, areas}
use Rattle.table.proofs.check.Goals as goal

pub returns-then-not-header_fits : goal.returns-then-not-header_fits
returns-then-not-header_fits c = header_refused _ c.header_fits.ensures c.if-not-header_fits.true

pub returns-in_err-first_fault : goal.returns-in_err-first_fault
returns-in_err-first_fault c =
    let p = err_from_is_err_and c.from_residual.result c.from_residual.ensures.1 in
    let all = areas _ c.header_fits.ensures c.if-not-header_fits.false c.word_at.ensures refl refl in
    let e = c.first_fault.ensures (state_fault c.args.image.now) (λ i r h q. search rules) in
    rw (p.1, p.2) (first_of_three _ _ _ all e c.in_err-first_fault.was)

pub returns-in_err-first_fault-2 : goal.returns-in_err-first_fault-2
returns-in_err-first_fault-2 c =
    let p = err_from_is_err_and c.from_residual-in_err-first_fault-2.result c.from_residual-in_err-first_fault-2.ensures.1 in
    let all = areas _ c.header_fits.ensures c.if-not-header_fits.false c.word_at.ensures c.word_at-2.ensures refl in
    let e = c.first_fault.ensures (state_fault c.args.image.now) (λ i r h q. search rules) in
    let f = c.first_fault-2.ensures (action_fault c.args.image.now) (λ i r h q. search rules) in
    rw (p.1, p.2) (second_of_three _ _ _ all e c.in_ok-first_fault.was f c.in_err-first_fault-2.was)

pub returns : goal.returns
returns c =
    let all = areas _ c.header_fits.ensures c.if-not-header_fits.false c.word_at.ensures c.word_at-2.ensures c.word_at-3.ensures in
    let e = c.first_fault.ensures (state_fault c.args.image.now) (λ i r h q. search rules) in
    let f = c.first_fault-2.ensures (action_fault c.args.image.now) (λ i r h q. search rules) in
    let g = c.first_fault-3.ensures (edge_fault c.args.image.now) (λ i r h q. search rules) in
    third_of_three _ _ _ all e c.in_ok-first_fault.was f c.in_ok-first_fault-2.was g
