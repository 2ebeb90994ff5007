-- `run::sound::Sound::edge` meets its contract. Assumes nothing.
use Rattle.run.proofs.Records.{edge_meant, edge_fits}
use Rattle.run.proofs.sound.Sound.edge.Goals as goal

pub returns : goal.returns
returns c =
    let t = c.args.self.now in
    record { meant = edge_meant _ _ t.passed t.area _ t.edges_begin c.edge.ensures; fits = edge_fits _ _ t.passed t.area _ t.edges_begin c.edge.ensures c.requires }
