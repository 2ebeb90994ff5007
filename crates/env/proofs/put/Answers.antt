-- `env::put`: what is replaced is read back. Assumes nothing.
use Rattle.std.proofs.Common.{[], ◌∙◌, ap, arith}
use lib.ListN.{set, length-set}
use lib.Seq.{get_or-set_same}
use Rattle.std.proofs.lemmas.List.{get_or-map}
use Rattle.sum.specs.Packed.{terms_of, as_sum}
use Rattle.env.proofs.put.Goals as goal

pub returns-clause-stored : goal.returns-clause-stored
returns-clause-stored c =
    get_or-map terms_of (set c.args.sums.now c.args.v c.args.s) c.args.v (as_sum []) [] (simp length-set (omega (arith, c.told-sums, c.requires)))
    ∙ ap terms_of (get_or-set_same c.args.sums.now c.args.v c.args.s (as_sum []) (omega (arith, c.told-sums, c.requires)))
