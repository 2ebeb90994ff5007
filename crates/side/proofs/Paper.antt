-- Following on the sides of the code keeps in step with following on the paper's sums (`model`, Path: follow): it is stuck where that is
-- too large, or the side that is reached stands for the paper's: the same state, each variable's sum packed, the conditions in order with
-- their sums packed, and for each port as many reads and the same sums written. Assumes nothing.
use Prim.Native.Nat.{ℕ, zero, suc, ◌+◌, ◌*◌, ◌≤◌, ◌<◌}
use mathlib.Core.Path.{◌≡◌, refl, sym, ◌∙◌, ap, subst}
use mathlib.Core.Bool.{Bool, true, false, cond, ◌&&◌}
use mathlib.Core.List.{List, [], ◌∷◌, ◌++◌, map, map-append, append-nil}
use native.Mathlib.Omega.{arith}
use lib.Dec.{ltb, eqb}
use lib.ListN.{length, get_or, set, length-set, length-append}
use lib.Seq.{get_or-set_same, get_or-set_other}
use borrow.Author.Tests.{ltb-true, eqb-true, eqb-false}
use Rattle.model.specs.Word as Word
use Rattle.model.specs.Word.{base}
use Rattle.model.specs.Expr.{Expr}
use Rattle.model.specs.Table.{Action, assign, read, write, Edge, State, stop, step, test, Table}
use Rattle.model.specs.Run.{Event, took, gave, tick, keep_if, reads, writes, edge_on}
use Rattle.model.specs.Sum.{Sum, symbol_sum, Outcome, too_large, fits, and_then, sum_of}
use Rattle.model.specs.Path as Model
use Rattle.model.specs.Path.{side, read_symbol, room_on, follow_action, follow_actions, follow_edge, asked, follow}
use Rattle.model.proofs.Following.{map_set, room_facts}
use Rattle.model.proofs.Runs.{reads_append, writes_append}
use Rattle.key.specs.Key.{pack, symbol_of}
use Rattle.key.proofs.Pack.{pack_symbol}
use Rattle.word.specs.Kinds.{kind_of, kind_as}
use Rattle.sum.specs.declared.Term.{Term}
use Rattle.sum.specs.Packed.{symbol_k, pack_sum, pack_outcome, terms_of, as_sum}
use Rattle.sum.proofs.Held.{terms_as}
use Rattle.sum.proofs.Keyed.{Keyed, symbol_keyed, symbol_keeps}
use Rattle.env.specs.declared.Env.{Env}
use Rattle.env.specs.Env.{sums_of, with_variable}
use Rattle.env.proofs.Stored.{sums_with, length_with, sums_few}
use Rattle.expr.specs.Normals.{sum_of_k}
use Rattle.expr.proofs.Normals.{Few, sum_few}
use Rattle.expr.proofs.Paper.{AllKeyed, KeyedIf, sum_keyed, sum_packed}
use Rattle.condition.specs.declared.Condition.{Condition}
use Rattle.condition.specs.declared.Conditions.{Conditions}
use Rattle.condition.specs.Conditions.{with_condition, conditions_of}
use Rattle.condition.proofs.Paper.{ConditionStands, AllStand}
use Rattle.side.specs.declared.Side.{Side}
use Rattle.side.specs.Parts.{Port, count_on, one_more, no_port, written_on, with_sum, wrote_on, with_write, at_state, with_asked, with_sum_of, with_read, with_given}
use Rattle.side.specs.Following.{Reached, whole, stuck, formed_on, action_k, actions_k, asked_k, follow_k}
use Rattle.side.proofs.Lists.{Alike, Both, both_sum, both_after, both_weaker}

-- A port stands for the sums written to it.
pub record StandsPort (w : Port) (l : List Sum) : Type 0 where
  pub count : length w.items ≡ length l
  pub few : length w.items ≤ 16
  pub same : written_on w ≡ map (pack_sum pack) l
  pub keyed : AllKeyed l

-- An environment stands for sums, one for each variable.
pub record StandsEnv (e : Env) (env : List Sum) : Type 0 where
  pub full : length e.sums ≡ 16
  pub sums : sums_of e ≡ map (pack_sum pack) env
  pub keyed : AllKeyed env

-- Conditions stand for those of the paper, in order.
pub record StandsAsked (cs : Conditions) (l : List Model.Condition) : Type 0 where
  pub count : length (conditions_of cs) ≡ length l
  pub few : length (conditions_of cs) ≤ 32
  pub same : AllStand (conditions_of cs) l

-- A side stands for one of the paper.
pub record Stands (d : Side) (m : Model.Side) : Type 0 where
  pub state : d.state ≡ m.state
  pub conditions : StandsAsked d.conditions m.conditions
  pub variables : StandsEnv d.env m.environment
  pub four_reads : length d.reads ≡ 4
  pub four_writes : length d.writes ≡ 4
  pub counts : (p : ℕ) → p < 4 → count_on d.reads p ≡ reads p m.events
  pub ports : (p : ℕ) → p < 4 → StandsPort (get_or d.writes p no_port) (writes p m.events)

-- The same of a port and of a side, with the bound on the sums of a port only where Q holds: following asks for no bound, and keeps one
-- that is there.

pub record StandsPortIf (Q : Type 0) (w : Port) (l : List Sum) : Type 0 where
  pub count : length w.items ≡ length l
  pub few : Q → length w.items ≤ 16
  pub same : written_on w ≡ map (pack_sum pack) l
  pub keyed : AllKeyed l

pub record StandsIf (Q : Type 0) (d : Side) (m : Model.Side) : Type 0 where
  pub state : d.state ≡ m.state
  pub conditions : StandsAsked d.conditions m.conditions
  pub variables : StandsEnv d.env m.environment
  pub four_reads : length d.reads ≡ 4
  pub four_writes : length d.writes ≡ 4
  pub counts : (p : ℕ) → p < 4 → count_on d.reads p ≡ reads p m.events
  pub ports : (p : ℕ) → p < 4 → StandsPortIf Q (get_or d.writes p no_port) (writes p m.events)

-- A side stands for one of the paper, with no bound on the sums of a port.
abbrev pub Agrees : Side → Model.Side → Type 0
Agrees d m = StandsIf ⊥ d m

-- With the bound they stand so, whatever Q is; and where Q holds, with the bound.

pub port_loosened : {Q : Type 0} {w : Port} {l : List Sum} → StandsPort w l → StandsPortIf Q w l
port_loosened h = record { count = h.count; few = λ q. h.few; same = h.same; keyed = h.keyed }

pub loosened : {Q : Type 0} {d : Side} {m : Model.Side} → Stands d m → StandsIf Q d m
loosened h =
    record {
      state = h.state;
      conditions = h.conditions;
      variables = h.variables;
      four_reads = h.four_reads;
      four_writes = h.four_writes;
      counts = h.counts;
      ports = λ p k. port_loosened (h.ports p k);
    }

pub bounded : {Q : Type 0} {d : Side} {m : Model.Side} → Q → StandsIf Q d m → Stands d m
bounded q h =
    record {
      state = h.state;
      conditions = h.conditions;
      variables = h.variables;
      four_reads = h.four_reads;
      four_writes = h.four_writes;
      counts = h.counts;
      ports = λ p k. let w = h.ports p k in record { count = w.count; few = w.few q; same = w.same; keyed = w.keyed };
    }

-- The sum of an expression.

-- Terms are the packing of a sum that packs, and few enough for a struct.
pub record Packs (l : List Term) (s : Sum) : Type 0 where
  pub same : l ≡ pack_sum pack s
  pub few : length l ≤ 16
  pub keyed : Keyed s

packs_if : (o : Outcome Sum) → KeyedIf o → Few (pack_outcome pack o) → Alike Packs (pack_outcome pack o) o
unfolding KeyedIf Few pack_outcome Alike pack_sum
packs_if too_large k f = tt
packs_if (fits s) k f = record { same = refl; few = f; keyed = k }

pub formed_packs : (own : Env) (env : List Sum) (e : Expr) → StandsEnv own env → Alike Packs (formed_on own e) (sum_of base env e)
formed_packs own env e v =
    let q : pack_outcome pack (sum_of base env e) ≡ sum_of_k base (sums_of own) e =
    sum_packed base env v.keyed e ∙ ap (λ vs. sum_of_k base vs e) (sym v.sums) in
    let few : Few (pack_outcome pack (sum_of base env e)) = rw q (sum_few (sums_of own) (sums_few own) base e) in
    subst (λ o. Alike Packs o (sum_of base env e)) q (packs_if (sum_of base env e) (sum_keyed base env v.keyed e) few)

-- One sum of the environment replaced.

keyed_set : (env : List Sum) (v : ℕ) (s : Sum) → AllKeyed env → Keyed s → AllKeyed (set env v s)
unfolding AllKeyed
keyed_set [] v s h k = tt
keyed_set (x ∷ env) zero s h k = (k, h.1)
keyed_set (x ∷ env) (suc v) s h k = (h.0, keyed_set env v s h.1 k)

pub env_set : (own : Env) (env : List Sum) (v : ℕ) (l : List Term) (s : Sum) → StandsEnv own env → Packs l s → StandsEnv (with_variable own v (as_sum l)) (set env v s)
env_set own env v l s h p =
    record {
      full = length_with own v (as_sum l) ∙ h.full;
      sums = sums_with own v (as_sum l) ∙ (λ i. set (h.sums i) v ((terms_as l p.few ∙ p.same) i)) ∙ sym (map_set (pack_sum pack) env v s);
      keyed = keyed_set env v s h.keyed p.keyed;
    }

-- The symbol of a read.

one_symbol : (m : ℕ) → length (symbol_k m) ≤ 16
unfolding symbol_k
one_symbol m = omega arith

pub symbol_packs : (x : ℕ) → x < 127 → Packs (symbol_k (symbol_of x)) (symbol_sum x)
symbol_packs x h =
    record {
      same = ap symbol_k (pack_symbol x h) ∙ sym (symbol_keyed x);
      few = one_symbol (symbol_of x);
      keyed = symbol_keeps x h;
    }

read_packs : (p k : ℕ) → p < 4 → k < 16 → Packs (symbol_k (symbol_of (read_symbol p k))) (symbol_sum (read_symbol p k))
unfolding read_symbol
read_packs p k h j = symbol_packs (32 + 16 * p + k) (omega arith)

-- Room on a port is the same where the counts of the four ports are.

room_same : (p n m : ℕ) → (p < 4 → n ≡ m) → room_on p n ≡ room_on p m
unfolding room_on
room_same p n m h = by (ltb p 4) refl
  where
    by : (b : Bool) → ltb p 4 ≡ b → (ltb p 4 && ltb n 16) ≡ (ltb p 4 && ltb m 16)
    by true e = ap (λ k. ltb p 4 && ltb k 16) (h (ltb-true p 4 e))
    by false e = rw e refl

-- Both where the same test decides.
both_if : {A B : Type 0} (R : A → B → Type 0) (b c : Bool) (x z : A) (y : B) → b ≡ c → (c ≡ true → R x y) → Both R (cond b (whole x) (stuck z)) (cond c (fits y) too_large)
unfolding Both
both_if R b true x z y e h = rw e (h refl)
both_if R b false x z y e h = rw e tt

-- The reads and writes with one more.

reads_took : (p q : ℕ) (l : List (Event Sum)) → reads p (l ++ (took q ∷ [])) ≡ tick (eqb p q) (reads p l)
unfolding reads tick
reads_took p q l = reads_append p l (took q ∷ []) ∙ by (eqb p q) (reads p l)
  where
    by : (b : Bool) (n : ℕ) → n + tick b 0 ≡ tick b n
    by true n = omega arith
    by false n = omega arith

reads_gave : (p q : ℕ) (s : Sum) (l : List (Event Sum)) → reads p (l ++ (gave q s ∷ [])) ≡ reads p l
unfolding reads
reads_gave p q s l = reads_append p l (gave q s ∷ []) ∙ omega arith

writes_took : (p q : ℕ) (l : List (Event Sum)) → writes p (l ++ (took q ∷ [])) ≡ writes p l
unfolding writes
writes_took p q l = writes_append p l (took q ∷ []) ∙ append-nil (writes p l)

writes_gave : (p q : ℕ) (s : Sum) (l : List (Event Sum)) → writes p (l ++ (gave q s ∷ [])) ≡ writes p l ++ keep_if (eqb p q) s []
unfolding writes
writes_gave p q s l = writes_append p l (gave q s ∷ [])

-- One more is counted on a port, and on no other.

more_same : (counts : List ℕ) (p : ℕ) → length counts ≡ 4 → p < 4 → count_on (one_more counts p) p ≡ count_on counts p + 1
unfolding count_on one_more
more_same counts p four h = get_or-set_same counts p (get_or counts p 0 + 1) 0 (omega arith)

more_other : (counts : List ℕ) (p q : ℕ) → (q ≡ p → ⊥) → count_on (one_more counts p) q ≡ count_on counts q
unfolding count_on one_more
more_other counts p q d = get_or-set_other counts p q (get_or counts p 0 + 1) 0 d

more_four : (counts : List ℕ) (p : ℕ) → length counts ≡ 4 → length (one_more counts p) ≡ 4
unfolding one_more
more_four counts p four = length-set counts p _ ∙ four

-- One read more is counted.
counts_took : (r : List ℕ) (events : List (Event Sum)) (p q : ℕ) → length r ≡ 4 → p < 4 → q < 4 → count_on r p ≡ reads p events → count_on r q ≡ reads q events
    → count_on (one_more r p) q ≡ reads q (events ++ (took p ∷ []))
unfolding tick
counts_took r events p q four h k e f = by (eqb q p) refl
  where
    by : (b : Bool) → eqb q p ≡ b → count_on (one_more r p) q ≡ reads q (events ++ (took p ∷ []))
    by true z =
        let same : q ≡ p = eqb-true q p z in
        let g : count_on (one_more r p) q ≡ count_on r p + 1 = ap (count_on (one_more r p)) same ∙ more_same r p four h in
        let t : reads q (events ++ (took p ∷ [])) ≡ suc (reads q events) = reads_took q p events ∙ rw z refl in
        let u : count_on r q ≡ count_on r p = ap (count_on r) same in
        omega arith
    by false z = more_other r p q (eqb-false q p z) ∙ f ∙ sym (reads_took q p events ∙ rw z refl)

-- One write more is held.

keyed_more : (l : List Sum) (s : Sum) → AllKeyed l → Keyed s → AllKeyed (l ++ (s ∷ []))
unfolding AllKeyed
keyed_more [] s h g = (g, tt)
keyed_more (x ∷ l) s h g = (h.0, keyed_more l s h.1 g)

-- A port with one sum more.
port_more : {Q : Type 0} (w : Port) (m : List Sum) (l : List Term) (s : Sum) → StandsPortIf Q w m → length w.items < 16 → Packs l s → StandsPortIf Q (with_sum w (as_sum l)) (m ++ (s ∷ []))
unfolding written_on with_sum
port_more w m l s g room p =
    let e : length (m ++ (s ∷ [])) ≡ length m + 1 = length-append m (s ∷ []) in
    record {
      count = omega (arith, e, g.count, length-append w.items (as_sum l ∷ []));
      few = λ q. omega (arith, length-append w.items (as_sum l ∷ []));
      same = map-append terms_of w.items (as_sum l ∷ [])
          ∙ (λ i. g.same i ++ ((terms_as l p.few ∙ p.same) i ∷ []))
          ∙ sym (map-append (pack_sum pack) m (s ∷ []));
      keyed = keyed_more m s g.keyed p.keyed;
    }

-- A write more: the port that is written to, and each other one.
module _ {Q : Type 0} (ws : List Port) (p : ℕ) (l : List Term) (s : Sum) (four : length ws ≡ 4) (h : p < 4) (room : wrote_on ws p < 16) (packs : Packs l s) where
  ports_gave : (events : List (Event Sum)) (q : ℕ) → q < 4 → StandsPortIf Q (get_or ws p no_port) (writes p events) → StandsPortIf Q (get_or ws q no_port) (writes q events)
      → StandsPortIf Q (get_or (with_write ws p (as_sum l)) q no_port) (writes q (events ++ (gave p s ∷ [])))
  unfolding keep_if with_write wrote_on
  ports_gave events q k e f = by (eqb q p) refl
    where
      by : (b : Bool) → eqb q p ≡ b → StandsPortIf Q (get_or (with_write ws p (as_sum l)) q no_port) (writes q (events ++ (gave p s ∷ [])))
      by true z =
          let same : q ≡ p = eqb-true q p z in
          let t : writes q (events ++ (gave p s ∷ [])) ≡ writes p events ++ (s ∷ []) =
          writes_gave q p s events ∙ rw z (ap (λ j. writes j events ++ (s ∷ [])) same) in
          rw (t, same, get_or-set_same ws p (with_sum (get_or ws p no_port) (as_sum l)) no_port (omega arith))
          (port_more (get_or ws p no_port) (writes p events) l s e room packs)
      by false z =
          let t : writes q (events ++ (gave p s ∷ [])) ≡ writes q events =
          writes_gave q p s events ∙ rw z (append-nil (writes q events)) in
          rw (t, get_or-set_other ws p q (with_sum (get_or ws p no_port) (as_sum l)) no_port (eqb-false q p z)) f

-- What actions make stands for the paper's side, which keeps its conditions.
pub record Moved (Q : Type 0) (cs : List Model.Condition) (d : Side) (m : Model.Side) : Type 0 where
  pub stands : StandsIf Q d m
  pub conditions : m.conditions ≡ cs

-- One action on a side.
module _ {Q : Type 0} (cs : List Model.Condition) (d : Side) (m : Model.Side) (k : Moved Q cs d m) where
  assigned : (x : ℕ) (l : List Term) (s : Sum) → Packs l s → Moved Q cs (with_sum_of d x (as_sum l)) (side m.state (set m.environment x s) m.conditions m.events)
  unfolding side with_sum_of
  assigned x l s p =
      record {
        stands = record {
          state = k.stands.state;
          conditions = k.stands.conditions;
          variables = env_set d.env m.environment x l s k.stands.variables p;
          four_reads = k.stands.four_reads;
          four_writes = k.stands.four_writes;
          counts = k.stands.counts;
          ports = k.stands.ports;
        };
        conditions = k.conditions;
      }

  taken : (p x : ℕ) → p < 4 → count_on d.reads p < 16
      → Moved Q cs (with_read d p x) (side m.state (set m.environment x (symbol_sum (read_symbol p (reads p m.events)))) m.conditions (m.events ++ (took p ∷ [])))
  unfolding side with_read
  taken p x i j =
      let c : count_on d.reads p ≡ reads p m.events = k.stands.counts p i in
      record {
        stands = record {
          state = k.stands.state;
          conditions = k.stands.conditions;
          variables = rw (← c) (env_set d.env m.environment x _ _ k.stands.variables (read_packs p (count_on d.reads p) i j));
          four_reads = more_four d.reads p k.stands.four_reads;
          four_writes = k.stands.four_writes;
          counts = λ q n. counts_took d.reads m.events p q k.stands.four_reads i n c (k.stands.counts q n);
          ports = λ q n. rw (writes_took q p m.events) (k.stands.ports q n);
        };
        conditions = k.conditions;
      }

  given : (p : ℕ) (l : List Term) (s : Sum) → Packs l s → p < 4 → wrote_on d.writes p < 16
      → Moved Q cs (with_given d p (as_sum l)) (side m.state m.environment m.conditions (m.events ++ (gave p s ∷ [])))
  unfolding side with_given with_write
  given p l s w i j =
      record {
        stands = record {
          state = k.stands.state;
          conditions = k.stands.conditions;
          variables = k.stands.variables;
          four_reads = k.stands.four_reads;
          four_writes = length-set d.writes p _ ∙ k.stands.four_writes;
          counts = λ q n. k.stands.counts q n ∙ sym (reads_gave q p s m.events);
          ports = λ q n. ports_gave d.writes p l s k.stands.four_writes i j w m.events q n (k.stands.ports p i) (k.stands.ports q n);
        };
        conditions = k.conditions;
      }

module _ {Q : Type 0} (before : Env) (env : List Sum) (v : StandsEnv before env) where
  -- One action.
  action_stands : (a : Action) (cs : List Model.Condition) (d : Side) (m : Model.Side) → Moved Q cs d m → Both (Moved Q cs) (action_k before a d) (follow_action base env a m)
  unfolding action_k follow_action Both wrote_on
  action_stands (assign x e) cs d m k =
      both_sum Packs (Moved Q cs) (formed_on before e) (sum_of base env e) d _ _ (formed_packs before env e v) (assigned cs d m k x)
  action_stands (read p x) cs d m k =
      let same = room_same p (count_on d.reads p) (reads p m.events) (k.stands.counts p) in
      both_if (Moved Q cs) (room_on p (count_on d.reads p)) (room_on p (reads p m.events)) _ _ _ same
      (λ e. let r = room_facts p (count_on d.reads p) (same ∙ e) in taken cs d m k p x r.0 r.1)
  action_stands (write p e) cs d m k =
      let same = room_same p (wrote_on d.writes p) (length (writes p m.events)) (λ i. (k.stands.ports p i).count) in
      both_sum Packs (Moved Q cs) (formed_on before e) (sum_of base env e) d _ _ (formed_packs before env e v)
      (λ l s w. both_if (Moved Q cs) (room_on p (wrote_on d.writes p)) (room_on p (length (writes p m.events))) _ _ _ same
      (λ f. let r = room_facts p (wrote_on d.writes p) (same ∙ f) in given cs d m k p l s w r.0 r.1))

  -- Actions in listed order.
  actions_stand : (l : List Action) (cs : List Model.Condition) (d : Side) (m : Model.Side) → Moved Q cs d m → Both (Moved Q cs) (actions_k before l d) (follow_actions base env l m)
  unfolding actions_k follow_actions Both
  actions_stand [] cs d m k = k
  actions_stand (a ∷ l) cs d m k =
      both_after (Moved Q cs) (Moved Q cs) (action_k before a d) (follow_action base env a m) _ _ (action_stands a cs d m k) (actions_stand l cs)

-- The conditions with that of a state: those that are asked stand behind those that were.

stand_more : (cs : List Condition) (l : List Model.Condition) (c : Condition) (m : Model.Condition) → AllStand cs l → ConditionStands c m → AllStand (cs ++ (c ∷ [])) (l ++ (m ∷ []))
unfolding AllStand
stand_more [] [] c m h k = (k, tt)
stand_more [] (n ∷ l) c m h k = absurd h
stand_more (d ∷ cs) [] c m h k = absurd h
stand_more (d ∷ cs) (n ∷ l) c m h k = (h.0, stand_more cs l c m h.1 k)

kind_back : (k : Word.Kind) → kind_of (kind_as k) ≡ k
unfolding kind_of kind_as
kind_back Word.equal = refl
kind_back Word.signed_less = refl
kind_back Word.unsigned_less = refl

-- A side behind a state, which has one condition more at most.
record Behind (Q : Type 0) (d : Side) (m : Model.Side) (c : Side) (l : List Model.Condition) : Type 0 where
  stands : StandsIf Q c (side m.state m.environment (m.conditions ++ l) m.events)
  count : length (conditions_of c.conditions) ≤ length (conditions_of d.conditions) + 1

module _ {Q : Type 0} (d : Side) (m : Model.Side) (h : StandsIf Q d m) where
  behind_none : Behind Q d m d []
  unfolding side
  behind_none = record { stands = rw append-nil h; count = omega arith }

  module _ (c : Model.Condition) (x y : List Term) (room : length (conditions_of d.conditions) < 32) (p : Packs x c.left) (q : Packs y c.right) where
    behind_one : Behind Q d m (with_asked d (kind_as c.kind) (as_sum x) (as_sum y) c.taken) (c ∷ [])
    unfolding side with_asked with_condition
    behind_one =
        let cs : Conditions = d.conditions in
        let e : length (m.conditions ++ (c ∷ [])) ≡ length m.conditions + 1 = length-append m.conditions (c ∷ []) in
        let new : Condition = record { kind = kind_as c.kind; left = as_sum x; right = as_sum y; taken = c.taken } in
        let f = length-append (conditions_of cs) (new ∷ []) in
        let stands : ConditionStands new c = record {
          kind = kind_back c.kind;
          left = terms_as x p.few ∙ p.same;
          right = terms_as y q.few ∙ q.same;
          taken = refl;
          keyed_left = p.keyed;
          keyed_right = q.keyed;
        } in
        record {
          stands = record {
            state = h.state;
            conditions = record {
              count = omega (arith, e, f, h.conditions.count);
              few = omega (arith, f);
              same = stand_more (conditions_of cs) m.conditions new c h.conditions.same stands;
            };
            variables = h.variables;
            four_reads = h.four_reads;
            four_writes = h.four_writes;
            counts = h.counts;
            ports = h.ports;
          };
          count = omega (arith, f);
        }

  asked_stands : (x : State) (b : Bool) → length (conditions_of d.conditions) < 32 → Both (Behind Q d m) (asked_k x b d) (asked base x b m)
  unfolding asked_k asked Both
  asked_stands stop b k = behind_none
  asked_stands (step e) b k = behind_none
  asked_stands (test kind l r e f) b k =
      both_sum Packs (Behind Q d m) (formed_on d.env l) (sum_of base m.environment l) d _ _ (formed_packs d.env m.environment l h.variables)
      (λ y s p. both_sum Packs (Behind Q d m) (formed_on d.env r) (sum_of base m.environment r) d _ _ (formed_packs d.env m.environment r h.variables)
      (λ z t q. behind_one (record { kind = kind; left = s; right = t; taken = b }) y z k p q))

-- An edge, and then the side behind it.

both_map : {A B C : Type 0} (R : A → B → Type 0) (S : A → C → Type 0) (o : Reached A) (u : Outcome B) (g : B → C) → Both R o u → ((a : A) (b : B) → R a b → S a (g b)) → Both S o (and_then u (λ b. fits (g b)))
unfolding Both and_then
both_map R S (stuck a) too_large g h k = tt
both_map R S (stuck a) (fits b) g h k = absurd h
both_map R S (whole a) too_large g h k = absurd h
both_map R S (whole a) (fits b) g h k = k a b h

-- A side behind an edge stands for the paper's, and has no more conditions than it had.
record Left (Q : Type 0) (d : Side) (t : ℕ) (g : Side) (m : Model.Side) : Type 0 where
  stands : StandsIf Q (at_state t g) m
  count : length (conditions_of g.conditions) ≡ length (conditions_of d.conditions)

edge_stands : {Q : Type 0} (e : Edge) (d : Side) (m : Model.Side) → StandsIf Q d m → Both (Left Q d e.target) (actions_k d.env e.actions d) (follow_edge base e m)
unfolding follow_edge side at_state
edge_stands {Q} e d m h =
    both_map (Moved Q m.conditions) (Left Q d e.target) _ (follow_actions base m.environment e.actions m) _
    (actions_stand d.env m.environment h.variables e.actions m.conditions d m (record { stands = h; conditions = refl }))
    (λ g c r.
    let k = r.stands in
    record {
      stands = record {
        state = refl;
        conditions = k.conditions;
        variables = k.variables;
        four_reads = k.four_reads;
        four_writes = k.four_writes;
        counts = k.counts;
        ports = k.ports;
      };
      count = omega (arith, k.conditions.count, h.conditions.count, ap length r.conditions);
    })

-- Following choices keeps in step, whatever Q is; and so it does with the bound.

pub follow_if : {Q : Type 0} (t : Table) (bs : List Bool) (d : Side) (m : Model.Side) → StandsIf Q d m → length (conditions_of d.conditions) + length bs ≤ 32
    → Both (StandsIf Q) (follow_k t bs d) (follow base t bs m)
unfolding follow_k follow Both side at_state
follow_if t [] d m h k = h
follow_if {Q} t (b ∷ bs) d m h k =
    rw (ap t h.state)
    (both_after (Behind Q d m) (StandsIf Q) _ _ _ _
    (asked_stands d m h (t m.state) b (omega arith))
    (λ c l r. both_after (Left Q c (edge_on (t m.state) b).target) (StandsIf Q) _ _ _ _
    (edge_stands (edge_on (t m.state) b) c (side m.state m.environment (m.conditions ++ l) m.events) r.stands)
    (λ g x u. follow_if t bs _ x u.stands (omega (arith, r.count, u.count, k)))))

pub follow_stands : (t : Table) (bs : List Bool) (d : Side) (m : Model.Side) → Stands d m → length (conditions_of d.conditions) + length bs ≤ 32 → Both Stands (follow_k t bs d) (follow base t bs m)
follow_stands t bs d m h k = both_weaker (StandsIf Unit) Stands _ _ (follow_if t bs d m (loosened h) k) (λ g n. bounded tt)
