-- `judge::judge_unmarked` meets its contract. Assumes nothing.
use Rattle.std.proofs.Common.{refl}
use Rattle.std.proofs.lemmas.Result.{err_from_is_err_and}
use Rattle.table.proofs.Decoding.{edges_begin}
use Rattle.judge.proofs.Findings.{found_kept, found_broken, fits_if, large_if}
use Rattle.judge.proofs.Decoded.{pair_sound, path_sound, target_room, judged_astray, judged_astray_second, judged_first_large, judged_second_large, judged_both}
use Rattle.judge.proofs.judge_unmarked.Goals as goal

pub leads-here-requires : goal.leads-here-requires
leads-here-requires c = edges_begin _ c.args.path.now.pair.images.checks.0

pub leads-there-requires : goal.leads-there-requires
leads-there-requires c = edges_begin _ c.args.path.now.pair.images.checks.1

pub returns-in_err-found : goal.returns-in_err-found
returns-in_err-found c =
    let p = err_from_is_err_and c.from_residual.result c.from_residual.ensures.1 in
    rw (p.1, p.2)
    (found_broken _ _ _ c.found.ensures c.in_err-found.was
    (λ h. judged_astray c.args.path.now.pair c.pair-pair.ensures _ c.args.path.now.among c.word_at.ensures c.path-record.ensures
    c.pair-target.ensures c.requires c.args.path.now.walked c.leads-here.ensures h))

pub returns-in_err-found-2 : goal.returns-in_err-found-2
returns-in_err-found-2 c =
    let p = err_from_is_err_and c.from_residual-in_err-found-2.result c.from_residual-in_err-found-2.ensures.1 in
    let here = found_kept _ _ _ c.found.ensures c.in_ok-found.was in
    rw (p.1, p.2)
    (found_broken _ _ _ c.found-2.ensures c.in_err-found-2.was
    (λ h. judged_astray_second c.args.path.now.pair c.pair-pair.ensures _ c.args.path.now.among c.word_at.ensures c.path-record.ensures
    c.pair-target.ensures c.requires c.args.path.now.walked c.leads-here.ensures c.leads-there.ensures here h))

pub follow-first_followed-requires : goal.follow-first_followed-requires
follow-first_followed-requires c =
    let k = c.args.path.now.pair.images.checks in (
      k.0,
      (
        (pair_sound c.args.path.now.pair c.pair-pair.ensures).first,
        (path_sound c.args.path.now.pair c.pair-pair.ensures _
            c.args.path.now.among c.word_at.ensures c.path-record.ensures).short,
      ),
    )

pub returns-in_err-found-3 : goal.returns-in_err-found-3
returns-in_err-found-3 c =
    let p = err_from_is_err_and c.from_residual-in_err-found-3.result c.from_residual-in_err-found-3.ensures.1 in
    let here = found_kept _ _ _ c.found.ensures c.in_ok-found.was in
    let there = found_kept _ _ _ c.found-2.ensures c.in_ok-found-2.was in
    rw (p.1, p.2)
    (found_broken _ _ _ c.found-3.ensures c.in_err-found-3.was
    (λ h. judged_first_large c.args.path.now.pair c.pair-pair.ensures _ c.args.path.now.among c.word_at.ensures c.path-record.ensures
    c.pair-target.ensures c.requires c.args.path.now.walked c.leads-here.ensures c.leads-there.ensures here there _ _
    c.follow-first_followed.ensures (large_if _ c.is_ok.ensures.value h)))

pub follow-second_followed-requires : goal.follow-second_followed-requires
follow-second_followed-requires c =
    let k = c.args.path.now.pair.images.checks in (
      k.1,
      (
        (pair_sound c.args.path.now.pair c.pair-pair.ensures).second,
        (path_sound c.args.path.now.pair c.pair-pair.ensures _
            c.args.path.now.among c.word_at.ensures c.path-record.ensures).short2,
      ),
    )

pub returns-in_err-found-4 : goal.returns-in_err-found-4
returns-in_err-found-4 c =
    let p = err_from_is_err_and c.from_residual-in_err-found-4.result c.from_residual-in_err-found-4.ensures.1 in
    let here = found_kept _ _ _ c.found.ensures c.in_ok-found.was in
    let there = found_kept _ _ _ c.found-2.ensures c.in_ok-found-2.was in
    let fits = fits_if _ c.is_ok.ensures.value (found_kept _ _ _ c.found-3.ensures c.in_ok-found-3.was) in
    rw (p.1, p.2)
    (found_broken _ _ _ c.found-4.ensures c.in_err-found-4.was
    (λ h. judged_second_large c.args.path.now.pair c.pair-pair.ensures _ c.args.path.now.among c.word_at.ensures c.path-record.ensures
    c.pair-target.ensures c.requires c.args.path.now.walked c.leads-here.ensures c.leads-there.ensures here there _ _
    c.follow-first_followed.ensures fits _ c.args.path.now.partner_symbols _ _
    c.follow-second_followed.ensures (large_if _ c.is_ok-2.ensures.value h)))

pub judge_sides-requires : goal.judge_sides-requires
judge_sides-requires c =
    target_room c.args.path.now.pair c.pair-pair.ensures _ c.args.path.now.among c.word_at.ensures c.path-record.ensures c.pair-target.ensures

pub returns : goal.returns
returns c =
    let here = found_kept _ _ _ c.found.ensures c.in_ok-found.was in
    let there = found_kept _ _ _ c.found-2.ensures c.in_ok-found-2.was in
    let fits = fits_if _ c.is_ok.ensures.value (found_kept _ _ _ c.found-3.ensures c.in_ok-found-3.was) in
    let fits2 = fits_if _ c.is_ok-2.ensures.value (found_kept _ _ _ c.found-4.ensures c.in_ok-found-4.was) in
    judged_both c.args.path.now.pair c.pair-pair.ensures _ c.args.path.now.among c.word_at.ensures c.path-record.ensures c.pair-target.ensures
    c.requires c.args.path.now.walked c.leads-here.ensures c.leads-there.ensures here there _ _
    c.follow-first_followed.ensures fits _ c.args.path.now.partner_symbols _ _
    c.follow-second_followed.ensures fits2 refl c.judge_sides.ensures
