-- `list::check` is the model's finding of a correspondence image. Assumes nothing.
use Rattle.std.proofs.Common.{rules}
use Rattle.std.proofs.lemmas.Result.{err_from_is_err_and}
use Rattle.fault.proofs.Rules.{first_of_three, second_of_three, third_of_three}
use Rattle.list.specs.Checks.{link_found, path_found, pair_found}
use Rattle.list.proofs.Findings.{header_broken, areas}
use Rattle.list.proofs.check.Goals as goal

pub returns-then-not-header_fits : goal.returns-then-not-header_fits
returns-then-not-header_fits c = header_broken _ _ _ c.header_fits.ensures c.if-not-header_fits.true

pub returns-in_err-first_fault : goal.returns-in_err-first_fault
returns-in_err-first_fault c =
    let p = err_from_is_err_and c.from_residual.result c.from_residual.ensures.1 in
    let all = areas _ _ _ c.header_fits.ensures c.if-not-header_fits.false c.read_limits-limits.ensures in
    let e = c.first_fault.ensures (link_found c.read_limits-limits.result c.args.list.now) (λ i r h q. search rules) in
    rw (p.1, p.2) (first_of_three _ _ _ all e c.in_err-first_fault.was)

pub returns-in_err-first_fault-2 : goal.returns-in_err-first_fault-2
returns-in_err-first_fault-2 c =
    let p = err_from_is_err_and c.from_residual-in_err-first_fault-2.result c.from_residual-in_err-first_fault-2.ensures.1 in
    let all = areas _ _ _ c.header_fits.ensures c.if-not-header_fits.false c.read_limits-limits.ensures in
    let e = c.first_fault.ensures (link_found c.read_limits-limits.result c.args.list.now) (λ i r h q. search rules) in
    let f = c.first_fault-2.ensures (path_found c.read_limits-limits.result c.args.list.now) (λ i r h q. search rules) in
    rw (p.1, p.2) (second_of_three _ _ _ all e c.in_ok-first_fault.was f c.in_err-first_fault-2.was)

pub returns : goal.returns
returns c =
    let all = areas _ _ _ c.header_fits.ensures c.if-not-header_fits.false c.read_limits-limits.ensures in
    let e = c.first_fault.ensures (link_found c.read_limits-limits.result c.args.list.now) (λ i r h q. search rules) in
    let f = c.first_fault-2.ensures (path_found c.read_limits-limits.result c.args.list.now) (λ i r h q. search rules) in
    let g = c.first_fault-3.ensures (pair_found c.read_limits-limits.result c.args.list.now) (λ i r h q. search rules) in
    third_of_three _ _ _ all e c.in_ok-first_fault.was f c.in_ok-first_fault-2.was g
