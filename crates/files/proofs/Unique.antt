-- Each public function's contract leaves one answer and one final buffer: two that meet it for the same arguments are equal. `Post` is the
-- contract as the toolchain reads it off the source; `s` with a place behind it is the buffer as the function returns. Assumes nothing.
use mathlib.Core.Path.{◌≡◌}
use Rattle.model.proofs.Basics.{one_answer}
use Rattle.files.proofs.number.Reads as number
use Rattle.files.proofs.words.Reads as words
use Rattle.files.proofs.append.Reads as append
use Rattle.files.proofs.couple_line.Reads as couple_line
use Rattle.files.proofs.answer_line.Reads as answer_line
use Rattle.files.proofs.end_line.Reads as end_line
use Rattle.files.proofs.image.Reads as image
use Rattle.files.proofs.input.Reads as input

pub number_unique : (κs : _) (a : _) (r r' : _) (s s' : _) → number.Post κs a r s → number.Post κs a r' s' → r ≡ r'
number_unique κs a r r' s s' p q = one_answer p q

pub words_unique : (κs : _) (a : _) (r r' : _) (s s' : _) → words.Post κs a r s → words.Post κs a r' s' → (r ≡ r') × (s.1.0.now ≡ s'.1.0.now)
words_unique κs a r r' s s' p q = (one_answer p.0 q.0, one_answer p.1 q.1)

pub append_unique : (κs : _) (a : _) (r r' : _) (s s' : _) → append.Post κs a r s → append.Post κs a r' s' → (r ≡ r') × (s.1.1.0.now ≡ s'.1.1.0.now)
append_unique κs a r r' s s' p q = (one_answer p.0 q.0, one_answer p.1 q.1)

pub couple_line_unique : (κs : _) (a : _) (r r' : _) (s s' : _) → couple_line.Post κs a r s → couple_line.Post κs a r' s' → (r ≡ r') × (s.1.1.1.0.now ≡ s'.1.1.1.0.now)
couple_line_unique κs a r r' s s' p q = (one_answer p.0 q.0, one_answer p.1 q.1)

pub answer_line_unique : (κs : _) (a : _) (r r' : _) (s s' : _) → answer_line.Post κs a r s → answer_line.Post κs a r' s' → (r ≡ r') × (s.1.1.1.1.0.now ≡ s'.1.1.1.1.0.now)
answer_line_unique κs a r r' s s' p q = (one_answer p.0 q.0, one_answer p.1 q.1)

pub end_line_unique : (κs : _) (a : _) (r r' : _) (s s' : _) → end_line.Post κs a r s → end_line.Post κs a r' s' → (r ≡ r') × (s.1.1.1.1.0.now ≡ s'.1.1.1.1.0.now)
end_line_unique κs a r r' s s' p q = (one_answer p.0 q.0, one_answer p.1 q.1)

pub image_unique : (κs : _) (a : _) (r r' : _) (s s' : _) → image.Post κs a r s → image.Post κs a r' s' → (r ≡ r') × (s.1.0.now ≡ s'.1.0.now)
image_unique κs a r r' s s' p q = (one_answer p.0 q.0, one_answer p.1.0 q.1.0)

pub input_unique : (κs : _) (a : _) (r r' : _) (s s' : _) → input.Post κs a r s → input.Post κs a r' s' → (r ≡ r') × (s.1.0.now ≡ s'.1.0.now)
input_unique κs a r r' s s' p q = (one_answer p.0 q.0, one_answer p.1.0 q.1.0)
