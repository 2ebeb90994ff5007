-- What one action makes of a side, by its kind; along the actions of an edge, what is left of them makes of the side what all make of the
-- side before the edge; and the ports of a side cleared in turn. Assumes nothing.
use Prim.Native.Nat.{ℕ, zero, suc, ◌+◌, ◌-◌, ◌≤◌, ◌<◌}
use mathlib.Core.Path.{◌≡◌, refl, sym, ◌∙◌, ap}
use mathlib.Core.Bool.{Bool, true, false, cond}
use mathlib.Core.List.{List, [], ◌∷◌, ◌++◌, map, append-nil}
use native.Mathlib.Omega.{arith}
use lib.ListN.{length, get_or, set, take, drop, replicate, length-map, length-take, length-drop, length-append, drop_of_length-le}
use lib.Seq.{take_all}
use Rattle.std.specs.Prelude.{Result, Ok, Err}
use Rattle.std.proofs.lemmas.List.{get_or_default}
use Rattle.std.proofs.lemmas.List.Edits.{map_over_more}
use Rattle.model.specs.Expr.{read_at, is_parsed, tree_of}
use Rattle.model.specs.Path.{read_symbol, room_on}
use Rattle.model.proofs.Following.{room_facts}
use Rattle.key.specs.Key.{symbol_of}
use Rattle.sum.specs.declared.Sum.{Sum}
use Rattle.sum.specs.declared.TooLarge.{TooLarge}
use Rattle.sum.specs.Packed.{symbol_k, as_sum, added_of}
use Rattle.env.specs.declared.Env.{Env}
use Rattle.env.specs.Env.{with_variable}
use Rattle.table.specs.declared.decoded.Action.{Action}
use Rattle.table.specs.declared.decoded.Action.TheVariants.{Assign, Read, Write}
use Rattle.table.specs.Decoded.{action_as, action_meant}
use Rattle.table.specs.declared.ActionRecord.{ActionRecord}
use Rattle.table.specs.Checks.{action_record}
use Rattle.fault.proofs.Along.{up_to_cons, up_to_none}
use Rattle.side.specs.declared.Side.{Side}
use Rattle.side.specs.Parts.{Port, count_on, one_more, no_port, with_sum, wrote_on, with_write, with_sum_of, with_read, with_given}
use Rattle.side.specs.Following.{Reached, whole, stuck, after_sum, after, formed_on, action_k, actions_k, actions_in, Parsed}
use Rattle.side.proofs.Forming.{sum_stuck, sum_goes}

-- The first i ports have no sums.
abbrev pub Cleared : List Port → List Port → ℕ → Type 0
Cleared xs ys i = ys ≡ map (λ w. no_port) (take i xs) ++ drop i xs

-- One port more.
pub cleared_more : (xs ys : List Port) (i : ℕ) {w : Port} → Cleared xs ys i → i < length xs → w.items ≡ [] → Cleared xs (set ys i w) (i + 1)
cleared_more xs ys i v h e =
    let n = ap length v in
    let long : i < length ys =
    omega (arith, n, length-append (map (λ (w : Port). no_port) (take i xs)) (drop i xs), length-map (take i xs) (λ (w : Port). no_port), length-take i xs, length-drop i xs) in
    (λ j. set ys i (record { items = e j })) ∙ map_over_more (λ (w : Port). no_port) xs ys i (get_or ys i no_port) h v (get_or_default ys i _ _ long)

-- All four ports.
pub cleared_all : (xs ys : List Port) (i : ℕ) → Cleared xs ys i → length xs ≡ 4 → 4 ≤ i → ys ≡ replicate 4 no_port
cleared_all xs ys i v h k =
    let m : length xs ≤ i = omega (arith, h, k) in
    v ∙ (λ j. map (λ (w : Port). no_port) (take_all i xs m j) ++ drop_of_length-le xs m j)
    ∙ append-nil (map (λ (w : Port). no_port) xs) ∙ each xs h
  where
    each : (l : List Port) → length l ≡ 4 → map (λ w. no_port) l ≡ replicate 4 no_port
    each [] h = absurd (omega arith)
    each (a ∷ []) h = absurd (omega arith)
    each (a ∷ (b ∷ [])) h = absurd (omega arith)
    each (a ∷ (b ∷ (c ∷ []))) h = absurd (omega arith)
    each (a ∷ (b ∷ (c ∷ (d ∷ [])))) h = refl
    each (a ∷ (b ∷ (c ∷ (d ∷ (e ∷ l))))) h = absurd (omega arith)

-- Room on a port says which port it is, and that it is not full.
pub room_both : {p n : ℕ} {b : Bool} → b ≡ room_on p n → b ≡ true → (p < 4) × (n < 16)
room_both {p} {n} asked h = room_facts p n (sym asked ∙ h)

-- A port of the four is the same whatever stands past the end.
port_any : (ws : List Port) (p n : ℕ) {b : Bool} (w : Port) → length ws ≡ 4 → b ≡ room_on p n → b ≡ true → get_or ws p w ≡ get_or ws p no_port
port_any ws p n w four asked h = get_or_default ws p _ _ (omega (arith, four, (room_both asked h).0))

-- A port that is not full has fewer than 16 sums.
pub port_room : (ws : List Port) (p : ℕ) {n : ℕ} {b : Bool} (w : Port) → length ws ≡ 4 → n ≡ wrote_on ws p → b ≡ room_on p n → b ≡ true
    → length (get_or ws p w).items < 16
unfolding wrote_on
port_room ws p w four counted asked h =
    let e = ap (λ (x : Port). length x.items) (port_any ws p _ w four asked h) in
    omega (arith, e, counted, (room_both asked h).1)

-- A port that is given a sum is the same whatever stands past the end, where there is no port to give it to.
given_to : (ws : List Port) (p : ℕ) (v : Port) (s : Sum) {w : Port} → w.items ≡ (get_or ws p v).items ++ (s ∷ []) → set ws p w ≡ set ws p (with_sum (get_or ws p no_port) s)
unfolding with_sum
given_to [] p v s k = refl
given_to (x ∷ ws) zero v s k = λ i. record { items = k i } ∷ ws
given_to (x ∷ ws) (suc p) v s k = ap (λ l. x ∷ l) (given_to ws p v s k)

module _ (code : List ℕ) (before : Env) (d : Side) {a : Action} where
  -- An assign.
  module _ {v e : ℕ} (is : a ≡ Assign v e) where
    pub assign_parsed : Parsed code a → is_parsed (read_at code e) ≡ true
    unfolding Parsed
    assign_parsed h = rw is at h

    assigns : action_k before (action_meant code a) d ≡ after_sum (formed_on before (tree_of (read_at code e))) d (λ s. whole (with_sum_of d v s))
    unfolding action_k action_meant
    assigns = rw is refl

    module _ {x : Result Sum TooLarge} (formed : x ≡ added_of (formed_on before (tree_of (read_at code e)))) where
      pub assign_large : {t : TooLarge} → x ≡ Err t → stuck d ≡ action_k before (action_meant code a) d
      assign_large h = sym (assigns ∙ sum_stuck _ d _ formed h)

      pub assign_done : {s : Sum} {env : Env} → x ≡ Ok s → env ≡ with_variable d.env v s
          → whole (record { state = d.state; conditions = d.conditions; env = env; reads = d.reads; writes = d.writes }) ≡ action_k before (action_meant code a) d
      unfolding with_sum_of
      assign_done h k =
          (λ i. whole (record { state = d.state; conditions = d.conditions; env = k i; reads = d.reads; writes = d.writes }))
          ∙ sym (assigns ∙ sum_goes _ d _ formed h)

  -- A read.
  module _ {p v : ℕ} (is : a ≡ Read p v) where
    takes : action_k before (action_meant code a) d ≡ cond (room_on p (count_on d.reads p)) (whole (with_read d p v)) (stuck d)
    unfolding action_k action_meant
    takes = rw is refl

    module _ {n : ℕ} {b : Bool} (counted : n ≡ count_on d.reads p) (asked : b ≡ room_on p n) where
      room_is : room_on p (count_on d.reads p) ≡ b
      room_is = ap (room_on p) (sym counted) ∙ sym asked

      pub read_full : b ≡ false → stuck d ≡ action_k before (action_meant code a) d
      read_full h = sym (takes ∙ ap (λ r. cond r (whole (with_read d p v)) (stuck d)) (room_is ∙ h))

      pub read_done : {m : ℕ} {s : Sum} {env : Env} → b ≡ true → m ≡ symbol_of (read_symbol p n) → s ≡ as_sum (symbol_k m) → env ≡ with_variable d.env v s
          → whole (record { state = d.state; conditions = d.conditions; env = env; reads = set d.reads p (n + 1); writes = d.writes })
          ≡ action_k before (action_meant code a) d
      unfolding with_read one_more
      read_done h em es ee =
          let q = es ∙ ap (λ k. as_sum (symbol_k k)) (em ∙ ap (λ k. symbol_of (read_symbol p k)) counted) in
          let w = ee ∙ ap (with_variable d.env v) q in
          (λ i. whole (record { state = d.state; conditions = d.conditions; env = w i; reads = set d.reads p (counted i + 1); writes = d.writes }))
          ∙ sym (takes ∙ ap (λ r. cond r (whole (with_read d p v)) (stuck d)) (room_is ∙ h))

  -- A write.
  module _ {p e : ℕ} (is : a ≡ Write p e) where
    pub write_parsed : Parsed code a → is_parsed (read_at code e) ≡ true
    unfolding Parsed
    write_parsed h = rw is at h

    writes : action_k before (action_meant code a) d ≡ after_sum (formed_on before (tree_of (read_at code e))) d (λ s. cond (room_on p (wrote_on d.writes p)) (whole (with_given d p s)) (stuck d))
    unfolding action_k action_meant
    writes = rw is refl

    module _ {x : Result Sum TooLarge} (formed : x ≡ added_of (formed_on before (tree_of (read_at code e)))) where
      pub write_large : {t : TooLarge} → x ≡ Err t → stuck d ≡ action_k before (action_meant code a) d
      write_large h = sym (writes ∙ sum_stuck _ d _ formed h)

      module _ {s : Sum} (fits : x ≡ Ok s) {n : ℕ} {b : Bool} (counted : n ≡ wrote_on d.writes p) (asked : b ≡ room_on p n) where
        gives_on : (c : Bool) → b ≡ c → action_k before (action_meant code a) d ≡ cond c (whole (with_given d p s)) (stuck d)
        gives_on c h =
            writes ∙ sum_goes _ d _ formed fits
            ∙ ap (λ r. cond r (whole (with_given d p s)) (stuck d)) (ap (room_on p) (sym counted) ∙ sym asked ∙ h)

        pub write_full : b ≡ false → stuck d ≡ action_k before (action_meant code a) d
        write_full h = sym (gives_on false h)

        pub write_done : (v : Port) {w : Port} → b ≡ true → w.items ≡ (get_or d.writes p v).items ++ (s ∷ [])
            → whole (record { state = d.state; conditions = d.conditions; env = d.env; reads = d.reads; writes = set d.writes p w })
            ≡ action_k before (action_meant code a) d
        unfolding with_given with_write
        write_done v h k =
            (λ i. whole (record { state = d.state; conditions = d.conditions; env = d.env; reads = d.reads; writes = given_to d.writes p v s k i }))
            ∙ sym (gives_on true h)

-- The actions from i on are still to be done.
pub record Moving (image code : List ℕ) (at first count : ℕ) (start d : Side) (i : ℕ) : Type 0 where
  pub within : i ≤ first + count
  pub rest : actions_k start.env (actions_in image code at i (first + count - i)) d ≡ actions_k start.env (actions_in image code at first count) start

module _ (image code : List ℕ) (at first count : ℕ) (start : Side) where
  pub move_start : Moving image code at first count start start first
  move_start =
      let e : first + count - first ≡ count = omega arith in
      record { within = omega arith; rest = ap (λ n. actions_k start.env (actions_in image code at first n) start) e }

  module _ (d : Side) (i : ℕ) (v : Moving image code at first count start d i) where
    turn : i < first + count → actions_k start.env (actions_in image code at i (first + count - i)) d
        ≡ after (action_k start.env (action_meant code (action_as (action_record image at i))) d) (actions_k start.env (actions_in image code at (i + 1) (first + count - (i + 1))))
    unfolding actions_k actions_in
    turn h =
        ap (λ l. actions_k start.env (map (λ j. action_meant code (action_as (action_record image at j))) l) d)
        (up_to_cons i (first + count - i) (first + count - (i + 1)) (omega arith))

    module _ (more : i < first + count) {r : ActionRecord} {a : Action} (er : r ≡ action_record image at i) (ea : a ≡ action_as r) where
      next : {o : Reached Side} → o ≡ action_k start.env (action_meant code a) d
          → after o (actions_k start.env (actions_in image code at (i + 1) (first + count - (i + 1)))) ≡ actions_k start.env (actions_in image code at first count) start
      next e =
          ap (λ x. after x (actions_k start.env (actions_in image code at (i + 1) (first + count - (i + 1)))))
          (e ∙ ap (λ x. action_k start.env (action_meant code x) d) (ea ∙ ap action_as er))
          ∙ sym (turn more)
          ∙ v.rest

      pub move_step : {g : Side} → whole g ≡ action_k start.env (action_meant code a) d → Moving image code at first count start g (i + 1)
      unfolding after
      move_step e = record { within = omega arith; rest = next e }

      pub move_stuck : {g : Side} → stuck g ≡ action_k start.env (action_meant code a) d → stuck g ≡ actions_k start.env (actions_in image code at first count) start
      unfolding after
      move_stuck e = next e

    pub move_end : first + count ≤ i → whole d ≡ actions_k start.env (actions_in image code at first count) start
    unfolding actions_k actions_in
    move_end h =
        sym (ap (λ l. actions_k start.env (map (λ j. action_meant code (action_as (action_record image at j))) l) d) (up_to_none i (first + count - i) (omega arith)))
        ∙ v.rest
