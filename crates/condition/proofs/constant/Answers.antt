-- `condition::constant` is the constant that a sum is. Assumes nothing.
use Rattle.std.proofs.Common.{◌∙◌, ap, take, rules}
use Rattle.sum.specs.Packed.{terms_of}
use Rattle.condition.specs.Conditions.{constant_in, word_of}
use Rattle.condition.proofs.Settling.{constant_one}
use Rattle.condition.proofs.constant.Goals as goal

pub returns-in-len1 : goal.returns-in-len1
unfolding terms_of
returns-in-len1 c =
    constant_one _ c.in-len1.len_at_least c.in-len1.len_below c.if-t-eq0.true (search rules)
    ∙ ap (λ n. word_of (constant_in (take n c.args.s.now.terms))) c.min.ensures
