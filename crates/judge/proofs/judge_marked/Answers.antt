-- `judge::judge_marked` meets its contract. Assumes nothing.
use Rattle.std.proofs.lemmas.Result.{err_from_is_err_and}
use Rattle.judge.proofs.Findings.{found_kept, found_broken, fits_if, large_if}
use Rattle.judge.proofs.Decoded.{pair_sound, path_sound, judged_large, judged_marked}
use Rattle.judge.proofs.judge_marked.Goals as goal

pub follow-followed-requires : goal.follow-followed-requires
follow-followed-requires c =
    let k = c.args.path.now.pair.images.checks in (
      k.0,
      (
        (pair_sound c.args.path.now.pair c.pair-pair.ensures).first,
        (path_sound c.args.path.now.pair c.pair-pair.ensures _
            c.args.path.now.among c.word_at.ensures c.path-record.ensures).short,
      ),
    )

pub returns-in_err-found : goal.returns-in_err-found
returns-in_err-found c =
    let p = err_from_is_err_and c.from_residual.result c.from_residual.ensures.1 in
    rw (p.1, p.2)
    (found_broken _ _ _ c.found.ensures c.in_err-found.was
    (λ h. judged_large c.args.path.now.pair c.pair-pair.ensures _ c.args.path.now.among c.word_at.ensures c.path-record.ensures _ _
    c.follow-followed.ensures c.requires (large_if _ c.is_ok.ensures.value h)))

pub returns : goal.returns
returns c =
    let fits = fits_if _ c.is_ok.ensures.value (found_kept _ _ _ c.found.ensures c.in_ok-found.was) in
    judged_marked c.args.path.now.pair c.pair-pair.ensures _ c.args.path.now.among c.word_at.ensures c.path-record.ensures _ _
    c.follow-followed.ensures c.requires fits c.contradicts.ensures c.found-2.ensures
