-- `table::code_area` is the model's code area. Assumes nothing.
use Rattle.model.specs.Table.{codes, code_area}
use Rattle.table.proofs.Records.{area_outside, area_inside, area_short}
use Rattle.table.proofs.code_area.Goals as goal

pub returns-then-image-at : goal.returns-then-image-at
unfolding codes code_area
returns-then-image-at c = area_outside c.args.image.now c.codes_at-at.ensures.0 c.word_at-n.ensures c.if-image-at.true

pub returns-then-n-rest : goal.returns-then-n-rest
unfolding codes code_area
returns-then-n-rest c = area_inside c.args.image.now c.codes_at-at.ensures.0 c.word_at-n.ensures

pub returns : goal.returns
unfolding codes code_area
returns c = area_short c.args.image.now c.codes_at-at.ensures.0 c.word_at-n.ensures c.if-n-rest.false
