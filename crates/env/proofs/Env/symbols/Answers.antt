-- `env::Env::symbols`: each variable is its symbol of the list. Assumes nothing.
use Rattle.std.proofs.Common.{[], ap, refl, arith}
use Rattle.sum.specs.Packed.{as_sum}
use Rattle.sum.proofs.Lists.{copy_step}
use Rattle.env.specs.Env.{symbols_of}
use Rattle.env.proofs.Symbols.{symbol_sums, next_symbol, all_made}
use Rattle.env.proofs.Env.symbols.Goals as goal

pub loop-v-preserved : goal.loop-v-preserved
loop-v-preserved c =
    copy_step 16 (symbol_sums c.args.list.now) _ c.loop-v.sums c.loop-v.v (as_sum []) _ c.loop-v.invariant c.loop-v-test.true
    (next_symbol c.args.list.now c.loop-v.v _ _ _ _ (omega (arith, c.told-list, c.loop-v-test.true)) refl c.symbol.ensures c.symbol-in-loop-v.ensures)

pub returns : goal.returns
unfolding symbols_of
returns c = ap (λ l. record { sums = l }) (all_made c.args.list.now c.loop-v.invariant c.loop-v-test.false c.told-list refl)
