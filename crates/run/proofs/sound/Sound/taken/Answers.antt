-- `run::sound::Sound::taken` meets its contract. Assumes nothing.
use Rattle.run.proofs.Records.{no_edge, edge_inside, leaves, taken_is}
use Rattle.run.proofs.sound.Sound.taken.Goals as goal

pub returns-in_err-i-clause-stops : goal.returns-in_err-i-clause-stops
returns-in_err-i-clause-stops c =
    let none = taken_is _ c.edge_on.ensures c.side.ensures c.in_err-i.was in
    rw (c.from_residual.ensures, c.state-state.ensures.meant) (no_edge _ _ _ _ none)

pub edge-requires : goal.edge-requires
edge-requires c = edge_inside _ _ _ _ _ c.state-state.ensures.fits (taken_is _ c.edge_on.ensures c.side.ensures c.in_ok-i.was)

pub returns-clause-leaves : goal.returns-clause-leaves
returns-clause-leaves c =
    leaves _ _ _ _ _ _ _ c.args.self.now.area c.state-state.ensures.meant (taken_is _ c.edge_on.ensures c.side.ensures c.in_ok-i.was) c.edge.ensures.meant c.edge.ensures.fits
