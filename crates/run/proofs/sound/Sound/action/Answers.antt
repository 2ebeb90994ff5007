-- `run::sound::Sound::action` meets its contract. Assumes nothing.
use native.Mathlib.Omega.{arith}
use mathlib.Core.Path.{refl}
use Rattle.model.specs.Answer.{word}
use Rattle.table.specs.Checks.{action_record}
use Rattle.run.proofs.Records.{action_meant_here, action_fits, action_within}
use Rattle.run.proofs.sound.Sound.action.Goals as goal

pub bounds-self-at : goal.bounds-self-at
bounds-self-at c = omega (arith, action_within _ c.args.self.now.passed _ c.args.self.now.actions_begin c.requires)

pub bounds-self-at-2 : goal.bounds-self-at-2
bounds-self-at-2 c = omega (arith, action_within _ c.args.self.now.passed _ c.args.self.now.actions_begin c.requires)

pub bounds-self-at-3 : goal.bounds-self-at-3
bounds-self-at-3 c = omega (arith, action_within _ c.args.self.now.passed _ c.args.self.now.actions_begin c.requires)

pub returns : goal.returns
unfolding action_record word
returns c =
    let t = c.args.self.now in
    record {
      meant = action_meant_here _ _ t.passed t.area _ t.actions_begin refl c.from.ensures;
      fits = action_fits _ _ t.passed t.area _ t.actions_begin refl c.from.ensures c.requires;
    }
