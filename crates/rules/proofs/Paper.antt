-- The rules on sides as the code holds them are the paper's (`model`, Judgement), wherever a side stands for one of the paper (crate
-- `side`, proofs/Paper: Agrees; `loosened` gives it where it Stands). Assumes nothing.
use Prim.Native.Nat.{ℕ, ◌<◌}
use mathlib.Core.Path.{◌≡◌, refl, sym, ◌∙◌, ap}
use mathlib.Core.Bool.{Bool, ◌&&◌}
use mathlib.Core.List.{List, [], ◌∷◌, map}
use native.Mathlib.Omega.{arith}
use lib.Dec.{eqb}
use lib.ListN.{get_or}
use Rattle.model.specs.Word.{base}
use Rattle.model.specs.Run.{each_port}
use Rattle.model.specs.Sum.{Sum, empty, same, same_sum}
use Rattle.model.specs.Answer.{up_to}
use Rattle.model.specs.Correspondence.{links_at, link_at}
use Rattle.model.specs.Path as Model
use Rattle.model.specs.Judgement.{all, contradicts, assured, same_reads, same_writes, keeps_links}
use Rattle.key.specs.Key.{pack}
use Rattle.sum.specs.Packed.{same_k, pack_sum}
use Rattle.expr.proofs.Paper.{AllKeyed, keyed_at}
use Rattle.list.specs.Checks.{link_record}
use Rattle.list.proofs.Decoding.{link_decoded}
use Rattle.condition.specs.declared.Conditions.{Conditions}
use Rattle.condition.specs.Conditions.{conditions_of, contradicts_in, assured_in}
use Rattle.condition.proofs.Paper as Conditions
use Rattle.condition.proofs.Paper.{same_paper}
use Rattle.side.specs.declared.Side.{Side}
use Rattle.side.proofs.Paper.{StandsAsked, Agrees}
use Rattle.side.proofs.Joined.{conditions_read, port_read, variable_read}
use Rattle.rules.specs.Rules.{same_reads_in, given_on, same_writes_in, keeps_in, keeps_all_in}

-- The rules on conditions that stand for the paper's.

pub contradicts_paper : (cs : Conditions) (l : List Model.Condition) → StandsAsked cs l → contradicts_in (conditions_of cs) ≡ contradicts base l
contradicts_paper cs l h = Conditions.contradicts_paper (conditions_of cs) l (conditions_read cs l h)

pub assured_paper : (cs ds : Conditions) (l m : List Model.Condition) → StandsAsked cs l → StandsAsked ds m
    → assured_in (conditions_of cs) (conditions_of ds) ≡ assured base l m
assured_paper cs ds l m h k = Conditions.assured_paper (conditions_of cs) (conditions_of ds) l m (conditions_read cs l h) (conditions_read ds m k)

-- The four ports.
each_same : (f g : ℕ → Bool) → ((p : ℕ) → p < 4 → f p ≡ g p) → each_port f ≡ each_port g
unfolding each_port
each_same f g h = λ i. h 0 (omega arith) i && (h 1 (omega arith) i && (h 2 (omega arith) i && h 3 (omega arith) i))

same_sums : (l m : List Sum) → AllKeyed l → AllKeyed m → same same_k (map (pack_sum pack) l) (map (pack_sum pack) m) ≡ same same_sum l m
unfolding same AllKeyed
same_sums [] [] h k = refl
same_sums [] (t ∷ m) h k = refl
same_sums (s ∷ l) [] h k = refl
same_sums (s ∷ l) (t ∷ m) h k = λ i. same_paper s t h.0 k.0 refl refl i && same_sums l m h.1 k.1 i

-- A test of every member that is another's at its numbers.
all_at : {A : Type 0} (f : A → Bool) (h : ℕ → A) (g : ℕ → Bool) → ((k : ℕ) → g k ≡ f (h k)) → (l : List ℕ) → all g l ≡ all f (map h l)
unfolding all
all_at f h g e [] = refl
all_at f h g e (k ∷ l) = λ i. e k i && all_at f h g e l i

module _ (a b : Side) (m n : Model.Side) (h : Agrees a m) (k : Agrees b n) where
  pub reads_paper : same_reads_in a.reads b.reads ≡ same_reads m n
  unfolding same_reads_in same_reads
  reads_paper = each_same _ _ (λ p q i. eqb (h.counts p q i) (k.counts p q i))

  pub writes_paper : same_writes_in a.writes b.writes ≡ same_writes m n
  unfolding same_writes_in given_on same_writes
  writes_paper =
      each_same _ _
      (λ p q.
      (λ i. same same_k (port_read _ _ (h.ports p q) i) (port_read _ _ (k.ports p q) i))
      ∙ same_sums _ _ (h.ports p q).keyed (k.ports p q).keyed)

  -- One link.
  pub keeps_paper : (v u : ℕ) → keeps_in a.env v b.env u ≡ same_sum (get_or m.environment v empty) (get_or n.environment u empty)
  unfolding keeps_in
  keeps_paper v u =
      same_paper (get_or m.environment v empty) (get_or n.environment u empty) (keyed_at m.environment v h.variables.keyed) (keyed_at n.environment u k.variables.keyed)
      (variable_read _ _ v h.variables) (variable_read _ _ u k.variables)

  -- Links.
  pub links_paper : (list : List ℕ) {at : ℕ} (i c : ℕ) → at ≡ links_at list
      → keeps_all_in list at i c a.env b.env ≡ keeps_links (map (link_at list) (up_to i c)) m n
  unfolding keeps_all_in keeps_links
  links_paper list {at} i c e = all_at (λ l. same_sum (get_or m.environment l.first empty) (get_or n.environment l.second empty)) (link_at list) _ kept (up_to i c)
    where
      kept : (j : ℕ) → keeps_in a.env (link_record list at j).first b.env (link_record list at j).second
          ≡ same_sum (get_or m.environment (link_at list j).first empty) (get_or n.environment (link_at list j).second empty)
      kept j =
          keeps_paper (link_record list at j).first (link_record list at j).second
          ∙ sym (ap (λ l. same_sum (get_or m.environment l.first empty) (get_or n.environment l.second empty)) (link_decoded list j e refl))
