-- `judge::judge_pair` meets its contract. Assumes nothing.
use Rattle.std.proofs.lemmas.Result.{err_from_is_err_and}
use Rattle.cover.proofs.Ruling.{offset_sound}
use Rattle.judge.proofs.Findings.{found_kept, found_broken}
use Rattle.judge.proofs.Pairs.{path_room, pair_differs, pair_uncovered, pair_covered, pair_found_lem}
use Rattle.judge.proofs.judge_pair.Goals as goal

pub returns-in_err-found : goal.returns-in_err-found
returns-in_err-found c =
    let p = err_from_is_err_and c.from_residual.result c.from_residual.ensures.1 in
    rw (p.1, p.2) (found_broken _ _ _ c.found.ensures c.in_err-found.was (λ h. pair_differs c.args.pair.now c.pair-record.ensures c.stops.ensures
    c.stops-2.ensures h))

pub covers-covered-requires : goal.covers-covered-requires
covers-covered-requires c =
    (offset_sound _ _ _ _ c.args.pair.now.images.checks.0 c.args.pair.now.images.checks.2, path_room c.args.pair.now c.pair-record.ensures)

pub returns-in_err-found-2 : goal.returns-in_err-found-2
returns-in_err-found-2 c =
    let p = err_from_is_err_and c.from_residual-in_err-found-2.result c.from_residual-in_err-found-2.ensures.1 in
    let alike = found_kept _ _ _ c.found.ensures c.in_ok-found.was in
    rw (p.1, p.2) (found_broken _ _ _ c.found-2.ensures c.in_err-found-2.was (λ h. pair_uncovered c.args.pair.now c.pair-record.ensures
    c.stops.ensures c.stops-2.ensures alike c.covers-covered.ensures h))

pub judge_paths-requires : goal.judge_paths-requires
judge_paths-requires c =
    let alike = found_kept _ _ _ c.found.ensures c.in_ok-found.was in
    let covered = found_kept _ _ _ c.found-2.ensures c.in_ok-found-2.was in
    pair_covered c.args.pair.now c.pair-record.ensures c.stops.ensures c.stops-2.ensures alike c.covers-covered.ensures covered

pub returns : goal.returns
returns c =
    let alike = found_kept _ _ _ c.found.ensures c.in_ok-found.was in
    let covered = found_kept _ _ _ c.found-2.ensures c.in_ok-found-2.was in
    pair_found_lem c.args.pair.now c.pair-record.ensures c.stops.ensures c.stops-2.ensures alike c.covers-covered.ensures covered
    c.judge_paths.ensures
