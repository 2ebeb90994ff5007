-- `run::spent` meets its contract. Assumes nothing.
use Prim.Native.Nat.{ℕ}
use mathlib.Core.Path.{◌∙◌}
use mathlib.Core.List.{List}
use Rattle.run.proofs.Spending.{spent_none, spent_lacks, spent_takes, spent_writes}
use Rattle.run.proofs.spent.Goals as goal

pub returns-in_err-left-in-Read : goal.returns-in_err-left-in-Read
returns-in_err-left-in-Read c =
    let lacks = λ (code : List ℕ). spent_lacks _ c.args.writes code c.in-Read.is c.in_err-left-in-Read.ensures in
    record { count = λ code. c.from_residual.ensures ∙ (lacks code).0; left_after = λ code. (lacks code).1 }

pub returns-in-Assign : goal.returns-in-Assign
returns-in-Assign c =
    record { count = λ code. (spent_none _ _ code c.in-Assign.is).0; left_after = λ code. (spent_none _ _ code c.in-Assign.is).1 }

pub returns-in_ok-left-in-Read : goal.returns-in_ok-left-in-Read
returns-in_ok-left-in-Read c =
    let takes = λ (code : List ℕ). spent_takes _ c.args.writes code c.in-Read.is c.in_ok-left-in-Read.ensures in
    record { count = λ code. (takes code).0; left_after = λ code. (takes code).1 }

pub returns-in-Write : goal.returns-in-Write
returns-in-Write c =
    record { count = λ code. (spent_writes _ _ code c.in-Write.is).0; left_after = λ code. (spent_writes _ _ code c.in-Write.is).1 }
