-- `judge::judge_sides` meets its contract. Assumes nothing.
use Rattle.std.proofs.lemmas.Result.{err_from_is_err_and}
use Rattle.judge.proofs.Findings.{found_kept, found_broken}
use Rattle.judge.proofs.Sides.{sides_assured, sides_reads, sides_writes, sides_links}
use Rattle.judge.proofs.judge_sides.Goals as goal

pub returns-in_err-found : goal.returns-in_err-found
returns-in_err-found c =
    let p = err_from_is_err_and c.from_residual.result c.from_residual.ensures.1 in
    rw (p.1, p.2) (found_broken _ _ _ c.found.ensures c.in_err-found.was (λ h. sides_assured _ _ _ _ _ _ _ c.assured_by.ensures h))

pub returns-in_err-found-2 : goal.returns-in_err-found-2
returns-in_err-found-2 c =
    let p = err_from_is_err_and c.from_residual-in_err-found-2.result c.from_residual-in_err-found-2.ensures.1 in
    let kept = found_kept _ _ _ c.found.ensures c.in_ok-found.was in
    rw (p.1, p.2) (found_broken _ _ _ c.found-2.ensures c.in_err-found-2.was (λ h. sides_reads _ _ _ _ _ _ _ c.assured_by.ensures kept
    c.same_reads.ensures h))

pub returns-in_err-found-3 : goal.returns-in_err-found-3
returns-in_err-found-3 c =
    let p = err_from_is_err_and c.from_residual-in_err-found-3.result c.from_residual-in_err-found-3.ensures.1 in
    let kept = found_kept _ _ _ c.found.ensures c.in_ok-found.was in
    let reads = found_kept _ _ _ c.found-2.ensures c.in_ok-found-2.was in
    rw (p.1, p.2) (found_broken _ _ _ c.found-3.ensures c.in_err-found-3.was (λ h. sides_writes _ _ _ _ _ _ _ c.assured_by.ensures kept
    c.same_reads.ensures reads c.same_writes.ensures h))

pub returns : goal.returns
returns c =
    let kept = found_kept _ _ _ c.found.ensures c.in_ok-found.was in
    let reads = found_kept _ _ _ c.found-2.ensures c.in_ok-found-2.was in
    let writes = found_kept _ _ _ c.found-3.ensures c.in_ok-found-3.was in
    sides_links _ _ _ _ _ _ _ c.assured_by.ensures kept c.same_reads.ensures reads c.same_writes.ensures writes c.word_at.ensures
    c.keeps_links.ensures c.found-4.ensures
