-- Two runs that meet at a pair either have both stopped, or go on, each by an edge or more, and meet at a pair again.
-- Meeting means: the pair's states, equal linked variables, and equally many reads and equal writes on each port.
-- Assumes nothing.
use Prim.Native.Nat.{ℕ, zero, suc, ◌+◌, ◌-◌, ◌*◌, ◌/◌, ◌%◌, ◌^◌, ◌≤◌, ◌<◌}
use mathlib.Core.Path.{◌≡◌, refl, sym, ◌∙◌, ap, ap₂}
use mathlib.Core.Bool.{Bool, true, false, cond}
use mathlib.Core.List.Memᴰ
use mathlib.Core.List.{List, [], ◌∷◌, ◌++◌, map, map-map, append-nil, Memᴰ}
use native.Mathlib.Omega.{arith}
use lib.Dec.{ltb, eqb}
use lib.ListN.{length, get_or, length-set, length-map}
use lib.Seq.{ext_get_or}
use borrow.Author.Tests.{eqb-true, lt-ltb, le-ltb}
use Rattle.model.specs.Answer.{up_to}
use Rattle.model.specs.Table.{Action, assign, read, write, Edge, Table}
use Rattle.model.specs.Run.{Event, reads, writes, Input, Config, at, act, act_all, fire, is_stop, next, after}
use Rattle.model.specs.Sum.{fits, symbol_sum, worth, empty}
use Rattle.model.specs.Path.{Covered, rule11, end_state, Side, side, read_symbol, follow, covers}
use Rattle.model.specs.Correspondence.{Link, Path, pairs, pair_at}
use Rattle.model.specs.Judgement.{partner, start_side, first_side, second_side}
use Rattle.model.specs.Promise.{Words}
use Rattle.model.proofs.Basics.{length_up_to}
use Rattle.model.proofs.Words.{wrap_lt}
use Rattle.model.proofs.Worth.{symbol_worth, variable_worth}
use Rattle.model.proofs.Runs.{reads_append, writes_append}
use Rattle.model.proofs.Following.{Matches, Values, AllHold, Takes, reads_worth, writes_worth, follow_end, follow_taken, follow_true}
use Rattle.model.proofs.Coverage.{covers_covered, once_member}
use Rattle.model.proofs.Walking.{begins_taken, run_begins_once}
use Rattle.model.proofs.Conditions.{contradiction, assured_hold}
use Rattle.model.proofs.Accepted.{Refuted, Matched, Judged}

-- A run keeps the number of its variables.

module _ (w : ℕ) (input : Input) where
  act_length : (vs : List ℕ) (a : Action) (c : Config) → length (act w input vs a c).variables ≡ length c.variables
  unfolding act at
  act_length vs (assign v e) c = simp length-set
  act_length vs (read p v) c = simp length-set
  act_length vs (write p e) c = refl

  act_all_length : (vs : List ℕ) (rest : List Action) (c : Config) → length (act_all w input vs rest c).variables ≡ length c.variables
  unfolding act_all
  act_all_length vs [] c = refl
  act_all_length vs (a ∷ rest) c = act_all_length vs rest _ ∙ act_length vs a c

  next_length : (t : Table) (c : Config) → length (next w input t c).variables ≡ length c.variables
  unfolding next fire at
  next_length t c = by (is_stop (t c.state)) _
    where
      by : (b : Bool) (e : Edge) → length (cond b c (fire w input e c)).variables ≡ length c.variables
      by true e = refl
      by false e = act_all_length c.variables e.actions c

  pub after_length : (t : Table) (n : ℕ) (c : Config) → length (after w input t n c).variables ≡ length c.variables
  unfolding after
  after_length t zero c = refl
  after_length t (suc n) c = after_length t n (next w input t c) ∙ next_length t c

-- Sixteen variables, each a word.
pub record Registers (w : ℕ) (vs : List ℕ) : Type 0 where
  pub sixteen : length vs ≡ 16
  pub words : (v : ℕ) → get_or vs v 0 < 2 ^ w

-- What the symbols stand for at a pair: 0 to 15 the first run's variables, 16 to 31 the second's, and then the input's next words.
unfoldable pub valuation : Input → Config → Config → ℕ → ℕ
valuation input c d x =
    cond
    (ltb x 16)
    (get_or c.variables x 0)
    (cond
    (ltb x 32)
    (get_or d.variables (x - 16) 0)
    (input ((x - 32) / 16) (reads ((x - 32) / 16) c.log + (x - 32) % 16)))

module _ (w : ℕ) (input : Input) (endless : Words w input) (c d : Config) where
  valuation_first : (v : ℕ) → v < 16 → valuation input c d v ≡ get_or c.variables v 0
  unfolding valuation
  valuation_first v h = rw (lt-ltb v 16 h) refl

  valuation_second : (v : ℕ) → v < 16 → valuation input c d (16 + v) ≡ get_or d.variables v 0
  unfolding valuation
  valuation_second v h =
      let e : 16 + v - 16 ≡ v = omega arith in
      rw (le-ltb (16 + v) 16 (omega arith), lt-ltb (16 + v) 32 (omega arith), e) refl

  valuation_read : (p k : ℕ) → k < 16 → valuation input c d (read_symbol p k) ≡ input p (reads p c.log + k)
  unfolding valuation read_symbol
  valuation_read p k h =
      let q : (32 + 16 * p + k - 32) / 16 ≡ p = omega arith in
      let r : (32 + 16 * p + k - 32) % 16 ≡ k = omega arith in
      rw (le-ltb (32 + 16 * p + k) 16 (omega arith), le-ltb (32 + 16 * p + k) 32 (omega arith), q, r) refl

  valuation_words : Registers w c.variables → Registers w d.variables → (x : ℕ) → valuation input c d x < 2 ^ w
  unfolding valuation Words
  valuation_words rc rd x = by (ltb x 16) (ltb x 32)
    where
      by : (a b : Bool) → cond a (get_or c.variables x 0) (cond b (get_or d.variables (x - 16) 0) (input ((x - 32) / 16) (reads ((x - 32) / 16) c.log + (x - 32) % 16))) < 2 ^ w
      by true b = rc.words x
      by false true = rd.words (x - 16)
      by false false = endless _ _

-- A list of sixteen is given by its members.

get_d_up_to : (f : ℕ → ℕ) (i n j : ℕ) → j < n → get_or (map f (up_to i n)) j 0 ≡ f (i + j)
unfolding up_to
get_d_up_to f i zero j h = absurd (omega arith)
get_d_up_to f i (suc n) zero h =
    let e : i + zero ≡ i = omega arith in
    rw e refl
get_d_up_to f i (suc n) (suc j) h =
    let e : i + suc j ≡ suc i + j = omega arith in
    rw e (get_d_up_to f (suc i) n j (omega arith))

sixteen_map : (vs : List ℕ) (f : ℕ → ℕ) → length vs ≡ 16 → ((v : ℕ) → v < 16 → get_or vs v 0 ≡ f v) → vs ≡ map f (up_to 0 16)
sixteen_map vs f n h =
    ext_get_or
    0
    vs
    (map f (up_to 0 16))
    (n ∙ sym (length-map (up_to 0 16) f ∙ length_up_to 0 16))
    (λ i k.
    let z : 0 + i ≡ i = omega arith in
    h i (omega arith) ∙ ap f (sym z) ∙ sym (get_d_up_to f 0 16 i (omega arith)))

-- Two runs meet at pair i of the correspondence.
pub record Meet (w : ℕ) (list : List ℕ) (c d : Config) (i : ℕ) : Type 0 where
  pub listed : i < pairs list
  pub first : c.state ≡ (pair_at list i).first
  pub second : d.state ≡ (pair_at list i).second
  pub linked : (l : Link) → Memᴰ l (pair_at list i).links → get_or c.variables l.first 0 ≡ get_or d.variables l.second 0
  pub reading : (p : ℕ) → p < 4 → reads p c.log ≡ reads p d.log
  pub writing : (p : ℕ) → p < 4 → writes p c.log ≡ writes p d.log
  pub registers_first : Registers w c.variables
  pub registers_second : Registers w d.variables

module _ (w : ℕ) (t u : Table) (list : List ℕ) (judged : (i : ℕ) → i < pairs list → Judged w t u list i) (input : Input) (endless : Words w input) (c d : Config) (i : ℕ) (meet : Meet w list c d i) where
  ρ : ℕ → ℕ
  ρ = valuation input c d

  here : Judged w t u list i
  here = judged i meet.listed

  ρ-words : (x : ℕ) → ρ x < 2 ^ w
  unfolding ρ
  ρ-words = valuation_words w input endless c d meet.registers_first meet.registers_second

  values_first : Values w ρ input c.log
  unfolding ρ
  values_first = record { words = ρ-words; delivered = λ p k h s. valuation_read w input endless c d p k s }

  values_second : Values w ρ input d.log
  unfolding ρ
  values_second =
      record {
        words = ρ-words;
        delivered = λ p k h s. rw (← (meet.reading p h)) (valuation_read w input endless c d p k s);
      }

  -- Symbols that stand for the variables of a run make its side at the start of a path.
  starts : (e : Config) (s : ℕ) (f : ℕ → ℕ) → e.state ≡ s → length e.variables ≡ 16 → ((v : ℕ) → v < 16 → get_or e.variables v 0 ≡ ρ (f v)) → Matches w ρ e.log e (start_side s (map f (up_to 0 16)))
  unfolding start_side side
  starts e s f q n h =
      let worths : ℕ → ℕ = λ v. worth w ρ (symbol_sum (f v)) in
      record {
        state = q;
        variables =
            sixteen_map e.variables worths n (λ v k. h v k ∙ sym (symbol_worth w ρ (f v) (ρ-words (f v))))
            ∙ sym (map-map (worth w ρ) symbol_sum (map f (up_to 0 16)) ∙ map-map (λ x. worth w ρ (symbol_sum x)) f (up_to 0 16));
        log = sym (append-nil e.log);
      }

  starts_first : Matches w ρ c.log c (first_side (pair_at list i))
  unfolding first_side ρ up_to
  starts_first =
      starts c _ (λ v. v) meet.first meet.registers_first.sixteen (λ v h. sym (valuation_first w input endless c d v h))

  -- A second variable is worth its partner's symbol, or its own.
  partner_worth : (ls : List Link) (v : ℕ) → v < 16 → ((l : Link) → Memᴰ l ls → (l.first < 16) × (get_or c.variables l.first 0 ≡ get_or d.variables l.second 0)) → get_or d.variables v 0 ≡ ρ (partner ls v)
  unfolding partner ρ
  partner_worth [] v h each = sym (valuation_second w input endless c d v h)
  partner_worth (l ∷ ls) v h each = by (eqb l.second v) refl (partner_worth ls v h (λ m k. each m (Memᴰ.tail k)))
    where
      by : (b : Bool) → eqb l.second v ≡ b → get_or d.variables v 0 ≡ ρ (partner ls v) → get_or d.variables v 0 ≡ ρ (cond b l.first (partner ls v))
      by true e later =
          let k = each l (Memᴰ.head refl) in
          ap (λ (x : ℕ). get_or d.variables x 0) (sym (eqb-true _ _ e))
          ∙ sym k.1
          ∙ sym (valuation_first w input endless c d l.first k.0)
      by false e later = later

  starts_second : Matches w ρ d.log d (second_side (pair_at list i))
  unfolding second_side
  starts_second =
      starts
      d
      _
      (partner (pair_at list i).links)
      meet.second
      meet.registers_second.sixteen
      (λ v h. partner_worth (pair_at list i).links v h (λ l m. (here.links_right l m, meet.linked l m)))

  nothing_first : AllHold w ρ (first_side (pair_at list i)).conditions
  unfolding first_side start_side side AllHold
  nothing_first = λ x m. absurd (Memᴰ.not-nil m)

  nothing_second : AllHold w ρ (second_side (pair_at list i)).conditions
  unfolding second_side start_side side AllHold
  nothing_second = λ x m. absurd (Memᴰ.not-nil m)

  -- A first path that is taken has its conditions true and its effects as the sums say.
  taken_first : (path : Path) (a : Side) → follow w t path.first (first_side (pair_at list i)) ≡ fits a → Takes w input t path.first c → Matches w ρ c.log (after w input t (length path.first) c) a × AllHold w ρ a.conditions
  taken_first path a f k =
      follow_taken w ρ input c.log values_first t path.first c (first_side (pair_at list i)) a starts_first f nothing_first k

  -- An impossible path is never taken.
  pub impossible_never : (path : Path) → Refuted w t (pair_at list i) path → Takes w input t path.first c → ⊥
  impossible_never path r k =
      contradiction w ρ r.first.conditions r.contradictory (taken_first path r.first r.followed k).1

  module _ (path : Path) (m : Matched w t u (pair_at list i) path (pair_at list path.target)) (k : Takes w input t path.first c) where
    c' : Config
    c' = after w input t (length path.first) c

    d' : Config
    d' = after w input u (length path.second) d

    ends_first_lem : Matches w ρ c.log c' m.first
    unfolding c'
    ends_first_lem = (taken_first path m.first m.followed_first k).0

    -- The second run takes the second path, since the first's conditions assure its own.
    ends_second_lem : Matches w ρ d.log d' m.second
    unfolding d' second_side start_side side
    ends_second_lem =
        let hold = (taken_first path m.first m.followed_first k).1 in
        let assured = assured_hold w ρ m.first.conditions m.second.conditions m.assures hold in
        let takes = follow_true w ρ input d.log values_second u path.second d (second_side (pair_at list i)) m.second starts_second m.walked m.followed_second assured in
        (follow_taken w ρ input d.log values_second u path.second d (second_side (pair_at list i)) m.second starts_second m.followed_second nothing_second takes).0

    -- A run that stands as a followed path says stands where the path's choices lead.
    state_at : (x : Table) (bs : List Bool) (s : ℕ) (symbols : List ℕ) (before : List (Event ℕ)) (e : Config) (a : Side) → Values w ρ input before → Matches w ρ before e a → follow w x bs (start_side s symbols) ≡ fits a → e.state ≡ end_state x s bs
    unfolding start_side side
    state_at x bs s symbols before e a good g f =
        g.state ∙ follow_end w ρ input before good x bs (start_side s symbols) a f

    -- A variable at the end is worth its sum there.
    variable_at : (before : List (Event ℕ)) (e : Config) (a : Side) → Matches w ρ before e a → (v : ℕ) → get_or e.variables v 0 ≡ worth w ρ (get_or a.environment v empty)
    variable_at before e a g v = ap (λ (vs : List ℕ). get_or vs v 0) g.variables ∙ variable_worth w ρ a.environment v

    registers_at : (before : List (Event ℕ)) (e : Config) (a : Side) → Matches w ρ before e a → length e.variables ≡ 16 → Registers w e.variables
    unfolding worth
    registers_at before e a g n =
        record { sixteen = n; words = λ v. rw (variable_at before e a g v) (wrap_lt w _) }

    reads_at : (before : List (Event ℕ)) (e : Config) (a : Side) → Matches w ρ before e a → (p : ℕ) → reads p e.log ≡ reads p before + reads p a.events
    reads_at before e a g p = ap (reads p) g.log ∙ reads_append p before _ ∙ ap (λ (n : ℕ). reads p before + n) (reads_worth w ρ p a.events)

    writes_at : (before : List (Event ℕ)) (e : Config) (a : Side) → Matches w ρ before e a → (p : ℕ) → writes p e.log ≡ writes p before ++ map (worth w ρ) (writes p a.events)
    writes_at before e a g p = ap (writes p) g.log ∙ writes_append p before _ ∙ ap (λ (l : List ℕ). writes p before ++ l) (writes_worth w ρ p a.events)

    -- Both runs meet again at the path's target.
    meet_again : path.target < pairs list → Meet w list c' d' path.target
    unfolding c' d' first_side second_side
    meet_again h =
        record {
          listed = h;
          first = state_at t path.first _ _ _ c' m.first values_first ends_first_lem m.followed_first ∙ m.ends_first;
          second = state_at u path.second _ _ _ d' m.second values_second ends_second_lem m.followed_second ∙ m.ends_second;
          linked = λ l n. variable_at _ _ _ ends_first_lem l.first ∙ ap (worth w ρ) (m.linking l n) ∙ sym (variable_at _ _ _ ends_second_lem l.second);
          reading = λ p q. reads_at _ _ _ ends_first_lem p ∙ ap₂ ◌+◌ (meet.reading p q) (m.reading p q) ∙ sym (reads_at _ _ _ ends_second_lem p);
          writing = λ p q. writes_at _ _ _ ends_first_lem p ∙ ap₂ ◌++◌ (meet.writing p q) (ap (map (worth w ρ)) (m.writing p q)) ∙ sym (writes_at _ _ _ ends_second_lem p);
          registers_first = registers_at _ _ _ ends_first_lem (after_length w input t (length path.first) c ∙ meet.registers_first.sixteen);
          registers_second = registers_at _ _ _ ends_second_lem (after_length w input u (length path.second) d ∙ meet.registers_second.sixteen);
        }

  -- One run has stopped where the other has.
  pub stop_alike : is_stop (t c.state) ≡ is_stop (u d.state)
  stop_alike = rw (meet.first, meet.second) here.stops_alike

  -- The path that the first run takes: exactly one listed path begins a covered pair's run.
  path_taken : is_stop (t c.state) ≡ false → (path : Path) × Memᴰ path (pair_at list i).paths × Takes w input t path.first c
  unfolding rule11
  path_taken s =
      let listed = map (λ (p : Path). p.first) (pair_at list i).paths in
      let stands : is_stop (t (pair_at list i).first) ≡ false = rw (← meet.first) s in
      let test : covers t 32 (pair_at list i).first listed ≡ true = rw stands at here.covered in
      let covered : Covered t 32 c.state listed = rw meet.first (covers_covered t 32 _ listed test) in
      let (p, m, b) = once_member _ listed (run_begins_once w input t 32 listed c covered) in
      let (path, m', e) = Memᴰ.of_map (λ (q : Path). q.first) (pair_at list i).paths m in
      (path, m', rw e (begins_taken w input t 32 p c b))

  -- Where the runs have not stopped, each goes on by an edge or more, and they meet again.
  pub go_on : is_stop (t c.state) ≡ false → (n : ℕ) × (m : ℕ) × (j : ℕ) × (1 ≤ n) × (1 ≤ m) × Meet w list (after w input t n c) (after w input u m d) j
  unfolding c' d'
  go_on s =
      let (path, m, k) = path_taken s in
      by path m k path.impossible refl
    where
      by : (path : Path) → Memᴰ path (pair_at list i).paths → Takes w input t path.first c → (b : Bool) → path.impossible ≡ b → (n : ℕ) × (m : ℕ) × (j : ℕ) × (1 ≤ n) × (1 ≤ m) × Meet w list (after w input t n c) (after w input u m d) j
      by path m k true e = absurd (impossible_never path (here.refutes path m e) k)
      by path m k false e =
          let right = here.paths_right path m in
          let (one, known) = right.possible e in
          (length path.first, length path.second, path.target, right.leaves, one, meet_again path (here.matches path m e) k known)
