-- For each public function, two answers that meet its contract are equal; of the two that take a function, where that one has one answer to each number.
-- Each theorem speaks of the function's own generated contract, `Post`. Assumes nothing.
use mathlib.Core.Path.{◌≡◌}
use Rattle.model.proofs.Basics.{one_answer}
use Rattle.std.specs.Prelude.{ℕ, Option}
use Rattle.model.specs.Answer.{Fault}
use Rattle.fault.specs.Fault.{Answers, Gives}
use Rattle.fault.specs.contracts.first_fault.F-Fn as at_check
use Rattle.fault.specs.contracts.are_distinct.F-Fn as at_number
use Rattle.fault.proofs.U32FromReason.from.Reads as number
use Rattle.fault.proofs.first_fault.Reads as first_fault
use Rattle.fault.proofs.are_distinct.Reads as are_distinct

pub number_unique : (κs : _) (a : _) (r r' : _) (s s' : _) → number.Post κs a r s → number.Post κs a r' s' → r ≡ r'
number_unique κs a r r' s s' p q = one_answer p q

pub first_fault_unique : (t l g d d' e e' κs : _) (n : ℕ) (check : _) (r r' : _) (s s' : _) (f : ℕ → Fault)
    → Answers ((at_check.words t g).post check) f n
    → first_fault.Post t l g d d' e e' κs (n, (check, tt)) r s
    → first_fault.Post t l g d d' e e' κs (n, (check, tt)) r' s'
    → r ≡ r'
first_fault_unique t l g d d' e e' κs n check r r' s s' f h p q = one_answer (p f h) (q f h)

pub are_distinct_unique : (t l g d d' e e' κs : _) (first end : ℕ) (number : _) (r r' : _) (s s' : _) (f : ℕ → Option ℕ)
    → Gives ((at_number.words t g).post number) f
    → are_distinct.Post t l g d d' e e' κs (first, (end, (number, tt))) r s
    → are_distinct.Post t l g d d' e e' κs (first, (end, (number, tt))) r' s'
    → r ≡ r'
are_distinct_unique t l g d d' e e' κs first end number r r' s s' f h p q = one_answer (p f h) (q f h)
