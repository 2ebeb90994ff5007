-- `cover::reach` is where a path leads: what is left to walk leads where the whole path does. Assumes nothing.
use Rattle.model.specs.Table.{table_of}
use Rattle.cover.proofs.Reaching.{Reaching}
use Rattle.cover.proofs.reach.Given as goal

abbrev pub invariant-loop : goal.invariant-loop
invariant-loop l = Reaching (table_of l.table) l.state l.length l.bits l.here l.counter l.rest
