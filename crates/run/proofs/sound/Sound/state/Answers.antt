-- `run::sound::Sound::state` meets its contract. Assumes nothing.
use Rattle.table.proofs.Decoding.{state_meant_lem}
use Rattle.run.proofs.Records.{state_fits}
use Rattle.run.proofs.sound.Sound.state.Goals as goal

pub returns : goal.returns
returns c =
    record {
      meant = state_meant_lem _ _ c.state.ensures c.from.ensures;
      fits = state_fits _ _ c.args.self.now.passed c.args.self.now.area _ c.state.ensures c.from.ensures c.requires;
    }
