-- The input as couples from a place on: the check of its ports, how many words each port is given, and the search for a port's next
-- word. Each search goes by what is left. Assumes nothing.
use Prim.Native.Nat.{ℕ, suc, ◌+◌, ◌*◌, ◌/◌, ◌%◌, ◌≤◌, ◌<◌}
use mathlib.Core.Path.{◌≡◌, refl, sym, ◌∙◌, ap}
use mathlib.Core.Bool.{Bool, true, false, ◌&&◌}
use mathlib.Core.List.{List, [], ◌∷◌}
use native.Mathlib.Omega.{arith}
use lib.Dec.{leb, eqb}
use lib.ListN.{length, get_or, set, drop, length-drop, length-set}
use lib.Seq.{drop-cons, get_or-set_same, get_or-set_other}
use borrow.Author.Tests.{leb-true, le-leb, lt-leb, eqb-true, eqb-false, eq-eqb, ne_eqb}
use Rattle.model.specs.Answer.{all_kept}
use Rattle.model.specs.Run.{Event, took, gave, keep_if, writes, couples, ports_right}
use Rattle.model.proofs.Basics.{and_left, clash}
use Rattle.fault.proofs.Rules.{facts_kept, all_kept_lem, not_kept}
use Rattle.run.specs.Held.{per_port, left_from}
use Rattle.run.specs.Answers.{input_rules}
use Rattle.run.proofs.Ports.{port_ext}

-- The couples from a place on: one and those behind it, or none.

couples_at : (l : List ℕ) (i : ℕ) → i + 1 < length l → couples (drop i l) ≡ gave (get_or l i 0) (get_or l (i + 1) 0) ∷ couples (drop (i + 2) l)
unfolding couples
couples_at l i h =
    let one : suc i ≡ i + 1 = omega arith in
    let two : suc (i + 1) ≡ i + 2 = omega arith in
    rw (drop-cons l i 0 (omega arith), one, drop-cons l (i + 1) 0 h, two) refl

couples_short : (l : List ℕ) → length l ≤ 1 → couples l ≡ []
unfolding couples
couples_short [] h = refl
couples_short (p ∷ []) h = refl
couples_short (p ∷ x ∷ l) h = absurd (omega arith)

couples_none : (l : List ℕ) (i : ℕ) → length l ≤ i + 1 → couples (drop i l) ≡ []
couples_none l i h = couples_short (drop i l) (rw (length-drop i l) (omega arith))

-- A couple's place, and that of the couple behind it.

next_place : (i : ℕ) → 2 * (i + 1) ≡ 2 * i + 2
next_place i = omega arith

-- The words of a port from a couple on.

pub left_own : (l : List ℕ) (p i : ℕ) → 2 * i + 1 < length l → get_or l (2 * i) 0 ≡ p → left_from l p i ≡ get_or l (2 * i + 1) 0 ∷ left_from l p (i + 1)
unfolding left_from writes keep_if
left_own l p i h e = rw (next_place i, couples_at l (2 * i) h, eq-eqb p (get_or l (2 * i) 0) (sym e)) refl

pub left_other : (l : List ℕ) (p i : ℕ) → 2 * i + 1 < length l → (get_or l (2 * i) 0 ≡ p → ⊥) → left_from l p i ≡ left_from l p (i + 1)
unfolding left_from writes keep_if
left_other l p i h e = rw (next_place i, couples_at l (2 * i) h, ne_eqb p (get_or l (2 * i) 0) (λ z. e (sym z))) refl

left_none : (l : List ℕ) (p i : ℕ) → length l ≤ 2 * i + 1 → left_from l p i ≡ []
unfolding left_from writes
left_none l p i h = rw (couples_none l (2 * i) h) refl

-- A word that is looked for, and the words of its port behind it.
abbrev pub Found : List ℕ → ℕ → ℕ → ℕ → ℕ → Type 0
Found l p from x next = record { word : x ≡ get_or (left_from l p from) 0 0; next : left_from l p next ≡ drop 1 (left_from l p from) }

-- The search for a port's next word, at a couple: what is left there is what was left from the start on.
pub record Looking (l : List ℕ) (p from i : ℕ) : Type 0 where
  pub same : left_from l p i ≡ left_from l p from

module _ {l : List ℕ} {p from i : ℕ} (s : Looking l p from i) where
  pub look_step : i < length l / 2 → (get_or l (2 * i) 0 ≡ p → ⊥) → Looking l p from (i + 1)
  look_step h e = record { same = sym (left_other l p i (omega arith) e) ∙ s.same }

  pub look_found : i < length l / 2 → get_or l (2 * i) 0 ≡ p → Found l p from (get_or l (2 * i + 1) 0) (i + 1)
  look_found h e =
      let here : get_or l (2 * i + 1) 0 ∷ left_from l p (i + 1) ≡ left_from l p from = sym (left_own l p i (omega arith) e) ∙ s.same in
      record { word = ap (λ m. get_or m 0 0) here; next = ap (drop 1) here }

  pub look_none : length l / 2 ≤ i → Found l p from 0 from
  look_none h =
      let none : left_from l p from ≡ [] = sym s.same ∙ left_none l p i (omega arith) in
      rw none (record { word = refl; next = refl })

-- The count of the words that each port is given: what is counted before a couple and what is left from it on are all.
pub record Counting (l counts : List ℕ) (i : ℕ) : Type 0 where
  pub four : length counts ≡ 4
  pub each : (p : ℕ) → p < 4 → get_or counts p 0 + length (left_from l p i) ≡ length (left_from l p 0)

-- A port has at most as many words as the input.

kept_most : (b : Bool) (x : ℕ) (l : List ℕ) → length (keep_if b x l) ≤ suc (length l)
unfolding keep_if
kept_most true x l = omega arith
kept_most false x l = omega arith

writes_most : (p : ℕ) (log : List (Event ℕ)) → length (writes p log) ≤ length log
unfolding writes
writes_most p [] = omega arith
writes_most p (took q ∷ log) = omega (arith, writes_most p log)
writes_most p (gave q x ∷ log) = omega (arith, kept_most (eqb p q) x (writes p log), writes_most p log)

couples_most : (l : List ℕ) → length (couples l) ≤ length l
unfolding couples
couples_most [] = omega arith
couples_most (p ∷ []) = omega arith
couples_most (p ∷ x ∷ l) = omega (arith, couples_most l)

count_room : (l counts : List ℕ) (p i : ℕ) → Counting l counts i → i < length l / 2 → get_or l (2 * i) 0 ≡ p → p < 4 → get_or counts p 0 < length l
unfolding left_from
count_room l counts p i s h e k =
    let more : length (left_from l p i) ≡ suc (length (left_from l p (i + 1))) = ap length (left_own l p i (omega arith) e) in
    omega (arith, s.each p k, writes_most p (couples l), couples_most l)

count_own : (l counts : List ℕ) (q i : ℕ) → Counting l counts i → i < length l / 2 → get_or l (2 * i) 0 ≡ q → q < 4
    → Counting l (set counts q (get_or counts q 0 + 1)) (i + 1)
count_own l counts q i s h e k =
    record { four = length-set counts q _ ∙ s.four; each = λ p m. whether p m (eqb p q) refl }
  where
    whether : (p : ℕ) → p < 4 → (b : Bool) → eqb p q ≡ b
        → get_or (set counts q (get_or counts q 0 + 1)) p 0 + length (left_from l p (i + 1)) ≡ length (left_from l p 0)
    whether p m true t =
        let same : p ≡ q = eqb-true p q t in
        let more : length (left_from l p i) ≡ suc (length (left_from l p (i + 1))) = ap length (left_own l p i (omega arith) (e ∙ sym same)) in
        let stored : get_or (set counts q (get_or counts q 0 + 1)) p 0 ≡ get_or counts p 0 + 1 = rw same (get_or-set_same counts q (get_or counts q 0 + 1) 0 (omega (arith, s.four))) in
        omega (arith, s.each p m)
    whether p m false t =
        let other : p ≡ q → ⊥ = eqb-false p q t in
        let less : length (left_from l p i) ≡ length (left_from l p (i + 1)) = ap length (left_other l p i (omega arith) (λ z. other (sym z ∙ e))) in
        let stored : get_or (set counts q (get_or counts q 0 + 1)) p 0 ≡ get_or counts p 0 = get_or-set_other counts q p (get_or counts q 0 + 1) 0 other in
        omega (arith, s.each p m)

pub count_end : {l counts : List ℕ} {i : ℕ} → Counting l counts i → length l / 2 ≤ i → counts ≡ per_port (λ p. length (left_from l p 0))
count_end {l} {counts} {i} s h =
    port_ext counts (λ p. length (left_from l p 0)) 0 s.four
    (λ p m.
    let none : length (left_from l p i) ≡ 0 = ap length (left_none l p i (omega arith)) in
    omega (arith, s.each p m))

-- The check of the ports, at a couple: they are right from there on where all are.
pub record Checking (l : List ℕ) (i : ℕ) : Type 0 where
  pub rest : ports_right (couples (drop (2 * i) l)) ≡ ports_right (couples l)

ports_turn : (l : List ℕ) (i : ℕ) → i < length l / 2
    → ports_right (couples (drop (2 * i) l)) ≡ (leb (get_or l (2 * i) 0) 3 && ports_right (couples (drop (2 * (i + 1)) l)))
unfolding ports_right
ports_turn l i h = rw (next_place i, couples_at l (2 * i) (omega arith)) refl

-- The port at a couple of an input whose ports are right.

input_right : (l : List ℕ) → all_kept (input_rules l) ≡ true → ports_right (couples l) ≡ true
unfolding input_rules
input_right l h = (facts_kept (input_rules l) refl h).1.0

port_right : (l : List ℕ) (i : ℕ) → Checking l i → i < length l / 2 → ports_right (couples l) ≡ true → get_or l (2 * i) 0 < 4
port_right l i s h right =
    let here : leb (get_or l (2 * i) 0) 3 ≡ true = and_left _ _ (sym (ports_turn l i h) ∙ s.rest ∙ right) in
    omega (arith, leb-true (get_or l (2 * i) 0) 3 here)

pub ports_odd : (l : List ℕ) → (length l % 2 ≡ 0 → ⊥) → false ≡ all_kept (input_rules l)
unfolding input_rules
ports_odd l h = not_kept _ (λ facts. h facts.0)

module _ {l : List ℕ} {i : ℕ} (s : Checking l i) where
  pub ports_step : i < length l / 2 → get_or l (2 * i) 0 ≤ 3 → Checking l (i + 1)
  ports_step h k =
      let right : leb (get_or l (2 * i) 0) 3 ≡ true = le-leb (get_or l (2 * i) 0) 3 k in
      record { rest = sym (rw right at (ports_turn l i h)) ∙ s.rest }

  pub ports_broken : i < length l / 2 → 3 < get_or l (2 * i) 0 → false ≡ all_kept (input_rules l)
  unfolding input_rules
  ports_broken h k =
      let wrong : leb (get_or l (2 * i) 0) 3 ≡ false = lt-leb (get_or l (2 * i) 0) 3 k in
      let all : ports_right (couples l) ≡ false = sym s.rest ∙ (rw wrong at (ports_turn l i h)) in
      not_kept _ (λ facts. clash facts.1.0 all)

  pub ports_end : length l / 2 ≤ i → length l % 2 ≡ 0 → true ≡ all_kept (input_rules l)
  unfolding input_rules ports_right
  ports_end h even =
      let none : ports_right (couples (drop (2 * i) l)) ≡ true = rw (couples_none l (2 * i) (omega arith)) refl in
      all_kept_lem _ (even, (sym s.rest ∙ none, tt))

-- The count over an input that is right: where it stands, and one couple further.

module _ {l counts : List ℕ} {i : ℕ} (s : Counting l counts i × Checking l i) (h : i < length l / 2) (right : all_kept (input_rules l) ≡ true) where
  pub tally_at : (get_or l (2 * i) 0 < 4) × (get_or counts (get_or l (2 * i) 0) 0 < length l) × (length counts ≡ 4)
  tally_at =
      let port = port_right l i s.1 h (input_right l right) in
      (port, count_room l counts (get_or l (2 * i) 0) i s.0 h refl port, s.0.four)

  pub tally_step : Counting l (set counts (get_or l (2 * i) 0) (get_or counts (get_or l (2 * i) 0) 0 + 1)) (i + 1) × Checking l (i + 1)
  tally_step = (count_own l counts (get_or l (2 * i) 0) i s.0 h refl tally_at.0, ports_step s.1 h (omega (arith, tally_at.0)))
