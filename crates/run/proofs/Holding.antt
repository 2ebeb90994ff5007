-- What the engine holds is what the model's run has: an action, the need of an edge, and the whole run. 01, "How a table runs": "a port's
-- k-th read takes its k-th word", "an edge is done whole or not begun", "at each state the order is: stop, limit reached, input lacking,
-- room lacking". Assumes nothing.
use Prim.Native.Nat.{ℕ, zero, suc, ◌+◌, ◌*◌, ◌-◌, ◌≤◌, ◌<◌}
use mathlib.Core.Path.{◌≡◌, refl, sym, ◌∙◌, ap}
use mathlib.Core.Bool.{Bool, true, false, cond}
use mathlib.Core.List.{List, [], ◌∷◌, ◌++◌, map, append-nil, Memᴰ}
use native.Mathlib.Omega.{arith}
use lib.Dec.{leb, eqb}
use lib.ListN.{length, get_or, set, drop, length-append, length-drop, length-set}
use lib.Seq.{get_or-drop, drop-drop, get_or-set_same, get_or-set_other}
use borrow.Author.Tests.{leb-true, le-leb, ltb-true, lt-ltb, eqb-true, eqb-false, eq-eqb, ne_eqb}
use Rattle.model.specs.Answer.{sound, end_stop, end_limit, end_input, end_room}
use Rattle.model.specs.Expr.{value}
use Rattle.model.specs.Table.{Action, assign, read, write, Edge, states, table_of, table_fault}
use Rattle.model.specs.Run.{Event, took, gave, tick, reads, writes, Config, at, act, act_all, fire, is_stop, side_at, edge_on, next, couples, couple_words, given, enough_input, enough_room, start, zeros, End, ended, run_on, end_of}
use Rattle.model.proofs.Basics.{and_left, and_right, and_both, each_port_lem, same_tests}
use Rattle.model.proofs.Runs.{reads_append}
use Rattle.model.proofs.CheckedTable.{ReadsPort, checked_reset, checked_state}
use Rattle.model.proofs.TrialRun.{next_state}
use Rattle.run.specs.Held.{Need, per_port, held, held_at, act_h, act_all_h, writes_of, writes_in, spend, spend_all, need_of, Ending, ending, taken, run_h}
use Rattle.run.proofs.Ports.{port_get, port_set, every_port}

-- The couples of two logs.
pub couples_append : (l m : List (Event ℕ)) → couple_words (l ++ m) ≡ couple_words l ++ couple_words m
unfolding couple_words
couples_append [] m = refl
couples_append (took p ∷ l) m = couples_append l m
couples_append (gave p x ∷ l) m = ap (λ r. p ∷ x ∷ r) (couples_append l m)

-- A couple stored behind the couples of a buffer.
put_couple : (l b : List ℕ) (p x : ℕ) → length l + 2 ≤ length b
    → set (set (l ++ drop (length l) b) (length l) p) (length l + 1) x ≡ (l ++ p ∷ x ∷ []) ++ drop (length l + 2) b
put_couple [] [] p x h = absurd (omega arith)
put_couple [] (y ∷ []) p x h = absurd (omega arith)
put_couple [] (y ∷ z ∷ b) p x h = refl
put_couple (y ∷ l) [] p x h = absurd (omega arith)
put_couple (y ∷ l) (z ∷ b) p x h =
    let e : suc (length l) + 1 ≡ suc (length l + 1) = omega arith in
    let f : suc (length l) + 2 ≡ suc (length l + 2) = omega arith in
    rw (e, f) (ap (λ r. y ∷ r) (put_couple l b p x (omega arith)))

-- How often actions read from port p.
unfoldable reads_in : ℕ → List Action → ℕ
reads_in p [] = 0
reads_in p (assign v e ∷ l) = reads_in p l
reads_in p (read q v ∷ l) = tick (eqb p q) (reads_in p l)
reads_in p (write q e ∷ l) = reads_in p l

tick_more : (b : Bool) (n : ℕ) → tick b n ≡ tick b 0 + n
unfolding tick
tick_more true n = omega arith
tick_more false n = omega arith

reads_more : (p : ℕ) (a : Action) (l : List Action) → reads_in p (a ∷ l) ≡ reads_in p (a ∷ []) + reads_in p l
unfolding reads_in
reads_more p (assign v e) l = omega arith
reads_more p (read q v) l = tick_more (eqb p q) (reads_in p l)
reads_more p (write q e) l = omega arith

-- A log that takes one more word of a port.

taken_own : (p : ℕ) (log : List (Event ℕ)) → reads p (log ++ (took p ∷ [])) ≡ reads p log + 1
unfolding reads tick
taken_own p log = rw (reads_append, eq-eqb p p refl) (omega arith)

taken_other : (q p : ℕ) (log : List (Event ℕ)) → (q ≡ p → ⊥) → reads q (log ++ (took p ∷ [])) ≡ reads q log
unfolding reads tick
taken_other q p log h = rw (reads_append, ne_eqb q p h) (omega arith)

given_none : (q p x : ℕ) (log : List (Event ℕ)) → reads q (log ++ (gave p x ∷ [])) ≡ reads q log
unfolding reads
given_none q p x log = rw reads_append (omega arith)

module _ (w : ℕ) (input buffer before : List ℕ) where
  -- The words that a port has left after a log.
  abbrev left_after : List (Event ℕ) → ℕ → List ℕ
  left_after log p = drop (reads p log) (writes p (couples input))

  -- The next word of a port, and the words left behind it.

  next_is : (log : List (Event ℕ)) (p : ℕ) → given input p (reads p log) ≡ get_or (left_after log p) 0 0
  unfolding given
  next_is log p =
      let e : reads p log + 0 ≡ reads p log = omega arith in
      sym (get_or-drop (reads p log) (writes p (couples input)) 0 0 ∙ ap (λ k. get_or (writes p (couples input)) k 0) e)

  left_own : (log : List (Event ℕ)) (p : ℕ) → left_after (log ++ (took p ∷ [])) p ≡ drop 1 (left_after log p)
  left_own log p = rw (taken_own p log) (sym (drop-drop 1 (reads p log) (writes p (couples input))))

  left_taken : (log : List (Event ℕ)) (p : ℕ) → p < 4
      → per_port (left_after (log ++ (took p ∷ []))) ≡ set (per_port (left_after log)) p (drop 1 (get_or (per_port (left_after log)) p []))
  left_taken log p h =
      let get : get_or (per_port (left_after log)) p [] ≡ left_after log p = port_get (left_after log) [] p h in
      rw (get, ← left_own log p)
      (sym (port_set (left_after log) (left_after (log ++ (took p ∷ []))) p h (λ q k. rw (taken_other q p log k))))

  left_given : (log : List (Event ℕ)) (p x : ℕ) → per_port (left_after (log ++ (gave p x ∷ []))) ≡ per_port (left_after log)
  unfolding per_port
  left_given log p x = rw (given_none 0 p x log, given_none 1 p x log, given_none 2 p x log, given_none 3 p x log)

  -- One action does to what is held what the model does.
  held_act : (a : Action) (c : Config) → ReadsPort a → length (couple_words c.log) + 2 * writes_of a ≤ length buffer
      → held_at input buffer (act w (given input) before a c) ≡ act_h w before a (held_at input buffer c)
  unfolding act at held_at act_h held writes_of couple_words
  held_act (assign v e) c ports room = refl
  held_act (read p v) c ports room =
      let quiet : couple_words (c.log ++ (took p ∷ [])) ≡ couple_words c.log = couples_append c.log (took p ∷ []) ∙ append-nil _ in
      let get : get_or (per_port (left_after c.log)) p [] ≡ left_after c.log p = port_get (left_after c.log) [] p ports in
      rw (quiet, left_taken c.log p ports, next_is c.log p, get) refl
  held_act (write p e) c ports room =
      let more : couple_words (c.log ++ (gave p (value w before e) ∷ [])) ≡ couple_words c.log ++ (p ∷ value w before e ∷ []) = couples_append c.log (gave p (value w before e) ∷ []) in
      let long : length (couple_words c.log ++ (p ∷ value w before e ∷ [])) ≡ length (couple_words c.log) + 2 = length-append (couple_words c.log) (p ∷ value w before e ∷ []) in
      rw (more, long, left_given c.log p (value w before e), ← put_couple (couple_words c.log) buffer p (value w before e) (omega arith)) refl

  -- The couples that actions add.
  couples_act : (a : Action) (c : Config) → length (couple_words (act w (given input) before a c).log) ≡ length (couple_words c.log) + 2 * writes_of a
  unfolding act at writes_of couple_words
  couples_act (assign v e) c = omega arith
  couples_act (read p v) c = rw (couples_append, length-append) (omega arith)
  couples_act (write p e) c = rw (couples_append, length-append) (omega arith)

  couples_all : (l : List Action) (c : Config)
      → length (couple_words (act_all w (given input) before l c).log) ≡ length (couple_words c.log) + 2 * writes_in l
  unfolding act_all writes_in
  couples_all [] c = omega arith
  couples_all (a ∷ l) c = omega (arith, couples_act a c, couples_all l (act w (given input) before a c))

  -- Actions in listed order do to what is held what the model does, where there is room.
  held_all : (l : List Action) (c : Config) → ((a : Action) → Memᴰ a l → ReadsPort a)
      → length (couple_words c.log) + 2 * writes_in l ≤ length buffer
      → held_at input buffer (act_all w (given input) before l c) ≡ act_all_h w before l (held_at input buffer c)
  unfolding act_all act_all_h writes_in
  held_all [] c ports room = refl
  held_all (a ∷ l) c ports room =
      let one = held_act a c (ports a (Memᴰ.head refl)) (omega arith) in
      let more = couples_act a c in
      held_all l (act w (given input) before a c) (λ b m. ports b (Memᴰ.tail m)) (omega arith) ∙ ap (act_all_h w before l) one

  -- The reads that actions add.
  reads_act : (p : ℕ) (a : Action) (c : Config) → reads p (act w (given input) before a c).log ≡ reads p c.log + reads_in p (a ∷ [])
  unfolding act at reads reads_in tick
  reads_act p (assign v e) c = omega arith
  reads_act p (read q v) c = rw reads_append refl
  reads_act p (write q e) c = rw reads_append (omega arith)

  reads_all : (p : ℕ) (l : List Action) (c : Config) → reads p (act_all w (given input) before l c).log ≡ reads p c.log + reads_in p l
  unfolding act_all reads_in
  reads_all p [] c = omega arith
  reads_all p (a ∷ l) c =
      omega (arith, reads_act p a c, reads_all p l (act w (given input) before a c), reads_more p a l)

-- What a need leaves of a port's words, and whether they suffice.

spend_length : (n : Need) (a : Action) → length (spend n a).left ≡ length n.left
unfolding spend
spend_length n (assign v e) = refl
spend_length n (read p v) = length-set n.left p (get_or n.left p 0 - 1)
spend_length n (write p e) = refl

spend_all_length : (n : Need) (l : List Action) → length (spend_all n l).left ≡ length n.left
unfolding spend_all
spend_all_length n [] = refl
spend_all_length n (a ∷ l) = spend_all_length (spend n a) l ∙ spend_length n a

spend_left : (n : Need) (a : Action) (p : ℕ) → ReadsPort a → length n.left ≡ 4
    → get_or (spend n a).left p 0 ≡ get_or n.left p 0 - reads_in p (a ∷ [])
unfolding spend reads_in tick
spend_left n (assign v e) p ports four = omega arith
spend_left n (read q v) p ports four = whether (eqb p q) refl
  where
    whether : (b : Bool) → eqb p q ≡ b → get_or (set n.left q (get_or n.left q 0 - 1)) p 0 ≡ get_or n.left p 0 - tick (eqb p q) 0
    whether true e =
        let same : p ≡ q = eqb-true p q e in
        rw (e, same, get_or-set_same n.left q (get_or n.left q 0 - 1) 0 (omega arith)) refl
    whether false e = rw (e, get_or-set_other n.left q p (get_or n.left q 0 - 1) 0 (eqb-false p q e)) (omega arith)
spend_left n (write q e) p ports four = omega arith

spent_left : (n : Need) (l : List Action) (p : ℕ) → ((a : Action) → Memᴰ a l → ReadsPort a) → length n.left ≡ 4
    → get_or (spend_all n l).left p 0 ≡ get_or n.left p 0 - reads_in p l
unfolding spend_all reads_in
spent_left n [] p ports four = omega arith
spent_left n (a ∷ l) p ports four =
    omega (
      arith,
      spend_left n a p (ports a (Memᴰ.head refl)) four,
      spent_left (spend n a) l p (λ b m. ports b (Memᴰ.tail m)) (spend_length n a ∙ four),
      reads_more p a l,
    )

-- The couples that a need counts.
pub all_writes : (n : Need) (l : List Action) → (spend_all n l).writes ≡ n.writes + writes_in l
unfolding spend_all writes_in spend writes_of
all_writes n [] = omega arith
all_writes n (a ∷ l) = omega (arith, one a, all_writes (spend n a) l)
  where
    one : (a : Action) → (spend n a).writes ≡ n.writes + writes_of a
    one (assign v e) = omega arith
    one (read p v) = omega arith
    one (write p e) = omega arith

-- Words are enough for actions where they were enough before them and each port has as many left as they read.

spend_enough : (n : Need) (a : Action) → ReadsPort a → length n.left ≡ 4 → (spend n a).enough ≡ true
    → (n.enough ≡ true) × ((p : ℕ) → reads_in p (a ∷ []) ≤ get_or n.left p 0)
unfolding spend reads_in tick
spend_enough n (assign v e) ports four h = (h, λ p. omega arith)
spend_enough n (read q v) ports four h = (and_left _ _ h, λ p. whether p (eqb p q) refl)
  where
    whether : (p : ℕ) (b : Bool) → eqb p q ≡ b → tick (eqb p q) 0 ≤ get_or n.left p 0
    whether p true e =
        let some : 0 < get_or n.left q 0 = ltb-true _ _ (and_right n.enough _ h) in
        rw (e, eqb-true p q e) (omega arith)
    whether p false e = rw e (omega arith)
spend_enough n (write q e) ports four h = (h, λ p. omega arith)

enough_spend : (n : Need) (a : Action) → ReadsPort a → n.enough ≡ true → ((p : ℕ) → p < 4 → reads_in p (a ∷ []) ≤ get_or n.left p 0)
    → (spend n a).enough ≡ true
unfolding spend reads_in tick
enough_spend n (assign v e) ports h each = h
enough_spend n (read q v) ports h each = and_both h (lt-ltb _ _ (rw (eq-eqb q q refl) at (each q ports)))
enough_spend n (write q e) ports h each = h

spent_enough : (n : Need) (l : List Action) → ((a : Action) → Memᴰ a l → ReadsPort a) → length n.left ≡ 4
    → (spend_all n l).enough ≡ true → (n.enough ≡ true) × ((p : ℕ) → reads_in p l ≤ get_or n.left p 0)
unfolding spend_all reads_in
spent_enough n [] ports four h = (h, λ p. omega arith)
spent_enough n (a ∷ l) ports four h =
    let later = spent_enough (spend n a) l (λ b m. ports b (Memᴰ.tail m)) (spend_length n a ∙ four) h in
    let now = spend_enough n a (ports a (Memᴰ.head refl)) four later.0 in
    (now.0, λ p. omega (arith, later.1 p, now.1 p, reads_more p a l, spend_left n a p (ports a (Memᴰ.head refl)) four))

enough_spent : (n : Need) (l : List Action) → ((a : Action) → Memᴰ a l → ReadsPort a) → length n.left ≡ 4
    → n.enough ≡ true → ((p : ℕ) → p < 4 → reads_in p l ≤ get_or n.left p 0) → (spend_all n l).enough ≡ true
unfolding spend_all
enough_spent n [] ports four h each = h
enough_spent n (a ∷ l) ports four h each =
    let mine = ports a (Memᴰ.head refl) in
    enough_spent
    (spend n a)
    l
    (λ b m. ports b (Memᴰ.tail m))
    (spend_length n a ∙ four)
    (enough_spend n a mine h (λ p k. omega (arith, each p k, reads_more p a l)))
    (λ p k. omega (arith, each p k, reads_more p a l, spend_left n a p mine four))

-- How the model's run ended, as the engine holds it.
unfoldable pub ending_at : List ℕ → List ℕ → End → Ending
ending_at input buffer e = ending e.reason e.config.state (held_at input buffer e.config) e.edges

-- The two ends at the limit, through a function of what is answered.
last : {A B : Type 0} (f : A → B) (stops : Bool) (a b : A) → f (cond stops a b) ≡ cond stops (f a) (f b)
last f true a b = refl
last f false a b = refl

-- The order of the four ends, through a function of what is answered.
order_same : {A B : Type 0} (f : A → B) (stops enough room enough' room' : Bool) (a further r i : A) (further' : B)
    → (stops ≡ false → enough' ≡ enough)
    → (stops ≡ false → room' ≡ room)
    → (stops ≡ false → enough ≡ true → room ≡ true → f further ≡ further')
    → f (cond stops a (cond enough (cond room further r) i)) ≡ cond stops (f a) (cond enough' (cond room' further' (f r)) (f i))
order_same f true enough room enough' room' a further r i further' h k same = refl
order_same f false false room enough' room' a further r i further' h k same = rw (h refl) refl
order_same f false true false enough' room' a further r i further' h k same = rw (h refl, k refl) refl
order_same f false true true enough' room' a further r i further' h k same = rw (h refl, k refl) (same refl refl refl)

-- Where the model's run stands after edges that were done whole: in a state of the table, with the input and the room sufficient so far.
pub record Standing (image input buffer : List ℕ) (c : Config) : Type 0 where
  pub inside : c.state < states image
  pub enough : enough_input input c.log ≡ true
  pub room : length (couple_words c.log) ≤ length buffer

module _ (w : ℕ) (image input buffer : List ℕ) (passed : table_fault image ≡ sound) where
  -- The edge that a state of the table takes.
  abbrev edge_at' : Config → Edge
  edge_at' c = edge_on (table_of image c.state) (side_at w c.variables (table_of image c.state))

  ports_of : (c : Config) → c.state < states image → (a : Action) → Memᴰ a (edge_at' c).actions → ReadsPort a
  ports_of c h = (checked_state image passed c.state h _).ports

  -- What an edge needs of what is held.
  abbrev need_at : Config → Need
  need_at c = need_of (map length (held_at input buffer c).left) (edge_at' c).actions

  count_left : (c : Config) (p : ℕ) → p < 4
      → get_or (map length (held_at input buffer c).left) p 0 ≡ length (writes p (couples input)) - reads p c.log
  unfolding held_at held per_port
  count_left c p h =
      port_get (λ q. length (drop (reads q c.log) (writes q (couples input)))) 0 p h
      ∙ length-drop (reads p c.log) (writes p (couples input))

  four_left : (c : Config) → length (map length (held_at input buffer c).left) ≡ 4
  unfolding held_at held per_port
  four_left c = refl

  -- The input is enough for the edge as the model says.
  need_enough : (c : Config) → Standing image input buffer c → (need_at c).enough ≡ enough_input input (fire w (given input) (edge_at' c) c).log
  unfolding enough_input need_of fire at
  need_enough c s = same_tests _ _ there back
    where
      acts : List Action
      acts = (edge_at' c).actions

      after : Config
      after = fire w (given input) (edge_at' c) c

      given_words : ℕ → ℕ
      given_words p = length (writes p (couples input))

      all_left : Need
      all_left = record { enough = true; left = map length (held_at input buffer c).left; writes = 0 }

      fits : (p : ℕ) → p < 4 → reads p c.log ≤ given_words p
      fits p h = leb-true _ _ (each_port_lem _ s.enough p h)

      there : (need_at c).enough ≡ true → enough_input input after.log ≡ true
      there h =
          every_port (λ p. leb (reads p after.log) (given_words p))
          (λ p k.
          le-leb (reads p after.log) (given_words p)
          (omega (
            arith,
            reads_all w input buffer c.variables p acts c,
            fits p k,
            count_left c p k,
            (spent_enough all_left acts (ports_of c s.inside) (four_left c) h).1 p,
          )))

      back : enough_input input after.log ≡ true → (need_at c).enough ≡ true
      back h =
          enough_spent all_left acts (ports_of c s.inside) (four_left c) refl
          (λ p k.
          let fit : reads p after.log ≤ given_words p = leb-true (reads p after.log) (given_words p) (each_port_lem (λ q. leb (reads q after.log) (given_words q)) h p k) in
          omega (arith, reads_all w input buffer c.variables p acts c, fits p k, count_left c p k))

  -- The room is enough for the edge as the model says.
  need_room : (c : Config) → Standing image input buffer c
      → leb ((held_at input buffer c).written + 2 * (need_at c).writes) (length (held_at input buffer c).buffer) ≡ enough_room buffer (fire w (given input) (edge_at' c) c).log
  unfolding enough_room need_of fire at held_at held
  need_room c s =
      let acts = (edge_at' c).actions in
      let cw = couple_words c.log in
      let count : (spend_all (record { enough = true; left = map length (held_at input buffer c).left; writes = 0 }) acts).writes ≡ 0 + writes_in acts = all_writes _ acts in
      let more : length (couple_words (act_all w (given input) c.variables acts c).log) ≡ length cw + 2 * writes_in acts = couples_all w input buffer c.variables acts c in
      let long : length (cw ++ drop (length cw) buffer) ≡ length buffer = length-append cw _ ∙ (rw (length-drop (length cw) buffer) (omega (arith, s.room))) in
      let zero_plus : 0 + writes_in acts ≡ writes_in acts = omega arith in
      rw (more, long, count, zero_plus)

  -- A state that is no stop is left by the edge that it takes.
  goes : (c : Config) → is_stop (table_of image c.state) ≡ false → next w (given input) (table_of image) c ≡ fire w (given input) (edge_at' c) c
  unfolding next
  goes c h = rw h

  -- What is held behind an edge that is done.
  held_fire : (c : Config) → Standing image input buffer c → enough_room buffer (fire w (given input) (edge_at' c) c).log ≡ true
      → held_at input buffer (fire w (given input) (edge_at' c) c) ≡ act_all_h w c.variables (edge_at' c).actions (held_at input buffer c)
  unfolding enough_room fire at held_at
  held_fire c s room =
      let acts = (edge_at' c).actions in
      let more = couples_all w input buffer c.variables acts c in
      let fit : length (couple_words (act_all w (given input) c.variables acts c).log) ≤ length buffer = leb-true _ _ room in
      held_all w input buffer c.variables acts c (ports_of c s.inside) (omega arith)

  -- Behind an edge that is done the run stands in the same way.
  stands : (c : Config) → Standing image input buffer c → is_stop (table_of image c.state) ≡ false
      → enough_input input (next w (given input) (table_of image) c).log ≡ true
      → enough_room buffer (next w (given input) (table_of image) c).log ≡ true
      → Standing image input buffer (next w (given input) (table_of image) c)
  unfolding enough_room
  stands c s h enough room =
      record { inside = next_state w image passed (given input) c s.inside; enough = enough; room = leb-true _ _ room }

  -- The engine goes on from where the model does.
  onward : (n : ℕ) (c : Config) (done : ℕ) (e : End) → Standing image input buffer c → is_stop (table_of image c.state) ≡ false
      → enough_room buffer (next w (given input) (table_of image) c).log ≡ true
      → ending_at input buffer e ≡ run_h w (table_of image) n (next w (given input) (table_of image) c).state (held_at input buffer (next w (given input) (table_of image) c)) done
      → ending_at input buffer e ≡ run_h w (table_of image) n (edge_at' c).target (act_all_h w c.variables (edge_at' c).actions (held_at input buffer c)) done
  unfolding fire at
  onward n c done e s h room same =
      let to = goes c h in
      let behind = held_fire c s (rw to at room) in
      rw (← behind) (rw to at same)

  -- The engine's run is the model's.
  pub run_held : (n : ℕ) (c : Config) (done : ℕ) → Standing image input buffer c
      → ending_at input buffer (run_on w (table_of image) input buffer n c done) ≡ run_h w (table_of image) n c.state (held_at input buffer c) done
  unfolding run_on run_h taken ending_at ended held_at held
  run_held zero c done s = last (ending_at input buffer) (is_stop (table_of image c.state)) (ended end_stop c done) (ended end_limit c done)
  run_held (suc n) c done s =
      let d = next w (given input) (table_of image) c in
      order_same (ending_at input buffer) (is_stop (table_of image c.state)) (enough_input input d.log) (enough_room buffer d.log)
      (need_at c).enough
      (leb ((held_at input buffer c).written + 2 * (need_at c).writes) (length (held_at input buffer c).buffer))
      (ended end_stop c done)
      (run_on w (table_of image) input buffer n d (suc done))
      (ended end_room c done)
      (ended end_input c done)
      (run_h w (table_of image) n (edge_at' c).target (act_all_h w c.variables (edge_at' c).actions (held_at input buffer c)) (suc done))
      (λ h. rw (goes c h) (need_enough c s))
      (λ h. rw (goes c h) (need_room c s))
      (λ h enough room. onward n c (suc done) _ s h room (run_held n d (suc done) (stands c s h enough room)))

  -- What the engine holds at reset is what the model's run starts with.
  pub run_start : (limit : ℕ) → ending_at input buffer (end_of w zeros image input limit buffer) ≡ run_h w (table_of image) limit 0 (held_at input buffer (start zeros)) 0
  unfolding end_of start at enough_input reads couple_words
  run_start limit = run_held limit (start zeros) 0 begins
    where
      begins : Standing image input buffer (start zeros)
      begins =
          record {
            inside = checked_reset image passed;
            enough = every_port (λ p. leb 0 (length (writes p (couples input)))) (λ p k. le-leb 0 (length (writes p (couples input))) (omega arith));
            room = omega arith;
          }
