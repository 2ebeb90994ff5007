-- Laws of the run that several proofs use: reads and writes of a log over `++`, n edges over `+`, a stop stays put, and what is
-- written is never taken back. Assumes nothing.
use Prim.Native.Nat.{ℕ, zero, suc, ◌+◌, ◌-◌, ◌≤◌}
use mathlib.Core.Path.{◌≡◌, refl, sym, ◌∙◌, ap}
use mathlib.Core.Bool.{Bool, true, false, cond}
use mathlib.Core.List.{List, [], ◌∷◌, ◌++◌, append-nil, append_assoc}
use native.Mathlib.Omega.{arith}
use lib.Dec.{eqb}
use Rattle.model.specs.Table.{Action, assign, read, write, Edge, Table}
use Rattle.model.specs.Run.{Event, took, gave, tick, keep_if, reads, writes, Input, Config, at, act, act_all, fire, is_stop, next, after}
use Rattle.model.specs.Promise.{Begins}

pub reads_append : {A : Type 0} (p : ℕ) (l m : List (Event A)) → reads p (l ++ m) ≡ reads p l + reads p m
unfolding reads tick
reads_append p [] m = omega arith
reads_append p (took q ∷ l) m = by (eqb p q) (reads_append p l m)
  where
    by : (b : Bool) → reads p (l ++ m) ≡ reads p l + reads p m → tick b (reads p (l ++ m)) ≡ tick b (reads p l) + reads p m
    by true e = omega arith
    by false e = e
reads_append p (gave q x ∷ l) m = reads_append p l m

pub writes_append : {A : Type 0} (p : ℕ) (l m : List (Event A)) → writes p (l ++ m) ≡ writes p l ++ writes p m
unfolding writes keep_if
writes_append p [] m = refl
writes_append p (took q ∷ l) m = writes_append p l m
writes_append {A} p (gave q x ∷ l) m = by (eqb p q) (writes_append p l m)
  where
    by : (b : Bool) → writes p (l ++ m) ≡ writes p l ++ writes p m → keep_if b x (writes p (l ++ m)) ≡ keep_if b x (writes p l) ++ writes p m
    by true e = ap (λ (r : List A). x ∷ r) e
    by false e = e

-- One edge more than n is one edge after n.
pub after_next : (w : ℕ) (input : Input) (t : Table) (n : ℕ) (c : Config) → after w input t (suc n) c ≡ next w input t (after w input t n c)
unfolding after
after_next w input t zero c = refl
after_next w input t (suc n) c = after_next w input t n (next w input t c)

-- n + m edges are m edges after n.
pub after_add : (w : ℕ) (input : Input) (t : Table) (n m : ℕ) (c : Config) → after w input t (n + m) c ≡ after w input t m (after w input t n c)
unfolding after
after_add w input t zero m c =
    let z : 0 + m ≡ m = omega arith in
    rw z refl
after_add w input t (suc n) m c =
    let z : suc n + m ≡ suc (n + m) = omega arith in
    rw z (after_add w input t n m (next w input t c))

-- A run that has stopped stays where it is.

next_stop : (w : ℕ) (input : Input) (t : Table) (c : Config) → is_stop (t c.state) ≡ true → next w input t c ≡ c
unfolding next
next_stop w input t c s = rw s refl

pub after_stop : (w : ℕ) (input : Input) (t : Table) (n : ℕ) (c : Config) → is_stop (t c.state) ≡ true → after w input t n c ≡ c
unfolding after
after_stop w input t zero c s = refl
after_stop w input t (suc n) c s = ap (after w input t n) (next_stop w input t c s) ∙ after_stop w input t n c s

-- A log only grows.

Grows : List (Event ℕ) → List (Event ℕ) → Type 0
Grows l m = (rest : List (Event ℕ)) × (m ≡ l ++ rest)

grows_self : (l : List (Event ℕ)) → Grows l l
unfolding Grows
grows_self l = ([], sym (append-nil l))

grows_trans : (l m n : List (Event ℕ)) → Grows l m → Grows m n → Grows l n
unfolding Grows
grows_trans l m n g h = (g.0 ++ h.0, h.1 ∙ ap (λ (k : List (Event ℕ)). k ++ h.0) g.1 ∙ append_assoc l g.0 h.0)

act_grows : (w : ℕ) (input : Input) (vs : List ℕ) (a : Action) (c : Config) → Grows c.log (act w input vs a c).log
unfolding act at Grows
act_grows w input vs (assign v e) c = grows_self c.log
act_grows w input vs (read p v) c = (_, refl)
act_grows w input vs (write p e) c = (_, refl)

act_all_grows : (w : ℕ) (input : Input) (vs : List ℕ) (rest : List Action) (c : Config) → Grows c.log (act_all w input vs rest c).log
unfolding act_all
act_all_grows w input vs [] c = grows_self c.log
act_all_grows w input vs (a ∷ rest) c =
    grows_trans _ _ _ (act_grows w input vs a c) (act_all_grows w input vs rest (act w input vs a c))

next_grows : (w : ℕ) (input : Input) (t : Table) (c : Config) → Grows c.log (next w input t c).log
unfolding next fire at
next_grows w input t c = by (is_stop (t c.state)) _
  where
    by : (b : Bool) (e : Edge) → Grows c.log (cond b c (fire w input e c)).log
    by true e = grows_self c.log
    by false e = act_all_grows w input c.variables e.actions c

after_grows : (w : ℕ) (input : Input) (t : Table) (n : ℕ) (c : Config) → Grows c.log (after w input t n c).log
unfolding after
after_grows w input t zero c = grows_self c.log
after_grows w input t (suc n) c = grows_trans _ _ _ (next_grows w input t c) (after_grows w input t n (next w input t c))

-- What is written on a port after n edges is the beginning of what is written there later.
pub writes_begin : (w : ℕ) (input : Input) (t : Table) (c : Config) (n m p : ℕ) → n ≤ m → Begins (writes p (after w input t n c).log) (writes p (after w input t m c).log)
unfolding Begins Grows
writes_begin w input t c n m p h =
    let q : n + (m - n) ≡ m = omega arith in
    let g = after_grows w input t (m - n) (after w input t n c) in
    let e = ap (λ (k : ℕ). (after w input t k c).log) (sym q) ∙ ap (λ (r : Config). r.log) (after_add w input t n (m - n) c) in
    (writes p g.0, ap (writes p) (e ∙ g.1) ∙ writes_append p _ g.0)

-- A run that has stopped after n edges stands the same after more.
pub stays : (w : ℕ) (input : Input) (t : Table) (c : Config) (n m : ℕ) → n ≤ m → is_stop (t (after w input t n c).state) ≡ true → after w input t m c ≡ after w input t n c
stays w input t c n m h s =
    let q : n + (m - n) ≡ m = omega arith in
    ap (λ (k : ℕ). after w input t k c) (sym q) ∙ after_add w input t n (m - n) c ∙ after_stop w input t (m - n) _ s

-- A beginning of what equals a beginning is a beginning.
pub begins_join : (l m m' n : List ℕ) → Begins l m → m ≡ m' → Begins m' n → Begins l n
unfolding Begins
begins_join l m m' n g e h = (
  g.0 ++ h.0,
  h.1 ∙ ap (λ (k : List ℕ). k ++ h.0) (sym e ∙ g.1) ∙ append_assoc l g.0 h.0,
)
