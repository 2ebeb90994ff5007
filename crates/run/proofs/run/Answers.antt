-- `run::run` meets its contract. Assumes nothing.
use mathlib.Core.Path.{◌∙◌}
use Rattle.run.proofs.Answering.{nothing_found, refused_run, ended_run}
use Rattle.run.proofs.run.Goals as goal

pub new-requires : goal.new-requires
new-requires c = (nothing_found _ _ c.check.ensures c.in-Ok.is).0

pub walk-requires : goal.walk-requires
walk-requires c = (nothing_found _ _ c.check.ensures c.in-Ok.is).1

pub returns-in-Err : goal.returns-in-Err
returns-in-Err c =
    let a = refused_run _ _ c.args.limit c.args.out.now c.check.ensures c.in-Err.is in
    record { value = c.from.ensures ∙ a.0; out_after = a.1 }

pub returns-in-Ok : goal.returns-in-Ok
returns-in-Ok c =
    let a = ended_run _ _ _ _ c.check.ensures c.in-Ok.is c.new.ensures c.walk.ensures.value c.walk.ensures.out_after in
    record { value = c.from-in-Ok.ensures ∙ a.0; out_after = a.1 }
