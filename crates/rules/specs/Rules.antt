-- The rules on what the two sides of a path read, write and keep (01, rules 17 to 19; `model`, Judgement: same_reads, same_writes,
-- keeps_links) on the sides as the code holds them. proofs/Paper says that they are the paper's. Assumes nothing.
use Rattle.std.specs.Prelude.{ℕ, Bool, List, [], eqb, get_or}
use Rattle.model.specs.Answer.{up_to}
use Rattle.model.specs.Run.{each_port}
use Rattle.model.specs.Sum.{same}
use Rattle.model.specs.Judgement.{all}
use Rattle.sum.specs.declared.Term.{Term}
use Rattle.sum.specs.Packed.{same_k}
use Rattle.env.specs.declared.Env.{Env}
use Rattle.env.specs.Env.{sums_of}
use Rattle.list.specs.Checks.{link_record}
use Rattle.side.specs.Parts.{Port, count_on, no_port, written_on}

-- Rule 17: the same number of reads on each port.
unfoldable pub same_reads_in : List ℕ → List ℕ → Bool
same_reads_in a b = each_port (λ p. eqb (count_on a p) (count_on b p))

-- The sums written to port p, in order; none to a port that is not there.
unfoldable pub given_on : List Port → ℕ → List (List Term)
given_on ports p = written_on (get_or ports p no_port)

-- Rule 18: the same sums written on each port, in order.
unfoldable pub same_writes_in : List Port → List Port → Bool
same_writes_in a b = each_port (λ p. same same_k (given_on a p) (given_on b p))

-- Rule 19, of one link: variable v of the first environment and variable u of the second have the same sum.
unfoldable pub keeps_in : Env → ℕ → Env → ℕ → Bool
keeps_in first v second u = same_k (get_or (sums_of first) v []) (get_or (sums_of second) u [])

-- Rule 19: each of n links from number i on is kept, where the links begin at a place.
unfoldable pub keeps_all_in : List ℕ → ℕ → ℕ → ℕ → Env → Env → Bool
keeps_all_in image at i n first second =
    all (λ j. keeps_in first (link_record image at j).first second (link_record image at j).second) (up_to i n)
