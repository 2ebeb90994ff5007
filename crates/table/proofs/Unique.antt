-- For each public function, two answers that meet its contract are equal; of a slice, what it holds. Each theorem speaks of the
-- function's own generated contract, `Post`. Assumes nothing.
use mathlib.Core.Path.{◌≡◌}
use Rattle.model.proofs.Basics.{one_answer}
use Rattle.table.proofs.check.Reads as check
use Rattle.table.proofs.word_at.Reads as word_at
use Rattle.table.proofs.words_at.Reads as words_at
use Rattle.table.proofs.code_area.Reads as code_area
use Rattle.table.proofs.state.Reads as state
use Rattle.table.proofs.edge.Reads as edge
use Rattle.table.proofs.action.Reads as action
use Rattle.table.proofs.decoded.StateFromStateRecord.from.Reads as state_from
use Rattle.table.proofs.decoded.ActionFromActionRecord.from.Reads as action_from
use Rattle.table.proofs.decoded.State.edge_on.Reads as edge_on

pub check_unique : (κs : _) (a : _) (r r' : _) (s s' : _) → check.Post κs a r s → check.Post κs a r' s' → r ≡ r'
check_unique κs a r r' s s' p q = one_answer p q

pub word_at_unique : (κs : _) (a : _) (r r' : _) (s s' : _) → word_at.Post κs a r s → word_at.Post κs a r' s' → r ≡ r'
word_at_unique κs a r r' s s' p q = one_answer p q

pub code_area_unique : (κs : _) (a : _) (r r' : _) (s s' : _) → code_area.Post κs a r s → code_area.Post κs a r' s' → r.now ≡ r'.now
code_area_unique κs a r r' s s' p q = one_answer p q

pub state_unique : (κs : _) (a : _) (r r' : _) (s s' : _) → state.Post κs a r s → state.Post κs a r' s' → r ≡ r'
state_unique κs a r r' s s' p q = one_answer p q

pub edge_unique : (κs : _) (a : _) (r r' : _) (s s' : _) → edge.Post κs a r s → edge.Post κs a r' s' → r ≡ r'
edge_unique κs a r r' s s' p q = one_answer p q

pub action_unique : (κs : _) (a : _) (r r' : _) (s s' : _) → action.Post κs a r s → action.Post κs a r' s' → r ≡ r'
action_unique κs a r r' s s' p q = one_answer p q

pub state_from_unique : (κs : _) (a : _) (r r' : _) (s s' : _) → state_from.Post κs a r s → state_from.Post κs a r' s' → r ≡ r'
state_from_unique κs a r r' s s' p q = one_answer p q

pub action_from_unique : (κs : _) (a : _) (r r' : _) (s s' : _) → action_from.Post κs a r s → action_from.Post κs a r' s' → r ≡ r'
action_from_unique κs a r r' s s' p q = one_answer p q

pub edge_on_unique : (κs : _) (a : _) (r r' : _) (s s' : _) → edge_on.Post κs a r s → edge_on.Post κs a r' s' → r ≡ r'
edge_on_unique κs a r r' s s' p q = one_answer p q

pub words_at_unique : (n : _) (f : _) (κs : _) (a : _) (r r' : _) (s s' : _) → words_at.Post n f κs a r s → words_at.Post n f κs a r' s' → r ≡ r'
words_at_unique n f κs a r r' s s' p q = one_answer p q
