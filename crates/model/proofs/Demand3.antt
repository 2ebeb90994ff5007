-- Demand 3: what a yes is worth.
--
-- For any three images, whoever made the list: where the verdict is 0 0 0, the two tables that the first two images hold keep the
-- Promise (specs/Promise.antt), which speaks of their runs and of nothing else. The theorem is `yes_is_worth` at the end of this file.
--
-- The argument, with the file that has each step:
--   1. Sums are sound modulo 2^w: the normal sum of an expression is worth the expression's value            (Words, Worth)
--   2. A run that takes a path has the path's conditions true, and its variables, reads and writes as the
--      sums say; and where the conditions are true, the run takes the path                                  (Following)
--   3. The sides that a run takes are a walk, so exactly one listed path of a covered pair begins them       (Coverage, Walking)
--   4. Contradicting conditions never hold, and assured ones hold where the first's do                      (Conditions)
--   5. Acceptance says that each path of each pair is refuted or matched                                    (Accepted)
--   6. So two runs that meet at a pair have both stopped, or each goes on by an edge or more and they meet
--      again at the path's target                                                                           (Simulation)
-- Here: they meet at reset, so they meet again as far out as one likes, and the Promise follows from that. Assumes nothing.
use Prim.Native.Nat.{ℕ, zero, suc, ◌+◌, ◌≤◌, ◌<◌}
use mathlib.Core.Path.{◌≡◌, refl, sym, ◌∙◌, ap}
use mathlib.Core.Bool.{Bool, true, false}
use mathlib.Core.List.{List}
use native.Mathlib.Omega.{arith}
use lib.Pow.{pow_pos}
use lib.ListN.{get_or, replicate, length-replicate}
use Rattle.model.specs.Answer.{accepted}
use Rattle.model.specs.Word.{base}
use Rattle.model.specs.Table.{Table, table_of}
use Rattle.model.specs.Run.{writes, Input, Config, at, is_stop, after, start, zeros}
use Rattle.model.specs.Correspondence.{pairs}
use Rattle.model.specs.Judgement.{verdict, verdict_at}
use Rattle.model.specs.Promise.{Words, Begins, runs, written, read_so_far, Stopped, Stops, Follows, Promise}
use Rattle.model.proofs.Runs.{after_add, writes_begin, stays, begins_join}
use Rattle.model.proofs.Accepted.{Judged, pair_judged, reset_pair}
use Rattle.model.proofs.Simulation.{Registers, Meet, stop_alike, go_on}

-- At reset all variables are 0.

zero_at : (n v : ℕ) → ◌≡◌ {A = ℕ} (get_or (replicate n 0) v 0) 0
zero_at zero v = refl
zero_at (suc n) zero = refl
zero_at (suc n) (suc v) = zero_at n v

zeros_right : (w : ℕ) → Registers w zeros
unfolding zeros
zeros_right w = record { sixteen = length-replicate {A = ℕ} 16 0; words = λ v. rw (zero_at 16 v) (pow_pos w) }

module _ (w : ℕ) (first second list : List ℕ) (accepts : verdict_at w first second list ≡ accepted) where
  t : Table
  t = table_of first

  u : Table
  u = table_of second

  -- Every pair is judged sound.
  judged : (i : ℕ) → i < pairs list → Judged w t u list i
  unfolding t u
  judged = pair_judged w first second list accepts

  -- Both runs meet at pair 0 when they start.
  meet_at_reset : Meet w list (start zeros) (start zeros) 0
  unfolding start at zeros
  meet_at_reset =
      let (some', s, s') = reset_pair w first second list accepts in
      record {
        listed = some';
        first = sym s;
        second = sym s';
        linked = λ l m. zero_at 16 l.first ∙ sym (zero_at 16 l.second);
        reading = λ p h. refl;
        writing = λ p h. refl;
        registers_first = zeros_right w;
        registers_second = zeros_right w;
      }

  -- The runs on an input meet at a pair, after at least k edges of each.
  record Beyond (input : Input) (k : ℕ) : Type 0 where
    edges_first : ℕ
    edges_second : ℕ
    pair : ℕ
    far_first : k ≤ edges_first
    far_second : k ≤ edges_second
    meets : Meet w list (runs w input t edges_first) (runs w input u edges_second) pair

  module _ (input : Input) (endless : Words w input) where
    -- Two runs that meet at a pair, and where they are known to stand instead.
    moved : {c c' d d' : Config} {i : ℕ} → c' ≡ c → d' ≡ d → Meet w list c d i → Meet w list c' d' i
    moved p q m = rw (p, q) m

    further : (k : ℕ) → Beyond input k → Beyond input (suc k)
    unfolding runs t u
    further k b = by (is_stop (t (runs w input t b.edges_first).state)) refl
      where
        by : (s : Bool) → is_stop (t (runs w input t b.edges_first).state) ≡ s → Beyond input (suc k)
        by true s =
            let s' = sym (stop_alike w t u list judged input endless _ _ b.pair b.meets) ∙ s in
            record {
              edges_first = suc b.edges_first;
              edges_second = suc b.edges_second;
              pair = b.pair;
              far_first = omega (arith, b.far_first);
              far_second = omega (arith, b.far_second);
              meets =
                  moved
                  (stays w input t (start zeros) b.edges_first (suc b.edges_first) (omega arith) s)
                  (stays w input u (start zeros) b.edges_second (suc b.edges_second) (omega arith) s')
                  b.meets;
            }
        by false s =
            let (n, m, j, one, one', again) = go_on w t u list judged input endless _ _ b.pair b.meets s in
            record {
              edges_first = b.edges_first + n;
              edges_second = b.edges_second + m;
              pair = j;
              far_first = omega (arith, b.far_first, one);
              far_second = omega (arith, b.far_second, one');
              meets =
                  moved
                  (after_add w input t b.edges_first n (start zeros))
                  (after_add w input u b.edges_second m (start zeros))
                  again;
            }

    -- However far out, the runs meet again.
    beyond : (k : ℕ) → Beyond input k
    unfolding runs after
    beyond zero =
        record { edges_first = 0; edges_second = 0; pair = 0; far_first = omega arith; far_second = omega arith; meets = meet_at_reset }
    beyond (suc k) = further k (beyond k)

    -- What one run has written is the beginning of what the other writes, if run far enough: past a point where they are equal.

    far_enough : (x y : Table) (n n' m : ℕ) → n ≤ n' → ((p : ℕ) → p < 4 → writes p (runs w input x n').log ≡ writes p (runs w input y m).log) → (k p : ℕ) → m ≤ k → p < 4 → Begins (written w input x n p) (written w input y k p)
    unfolding written runs
    far_enough x y n n' m h e k p far four =
        let before = writes_begin w input x (start zeros) n n' p h in
        let behind = writes_begin w input y (start zeros) m k p far in
        begins_join _ _ _ _ before (e p four) behind

    first_begins : Follows w input t u
    unfolding Follows
    first_begins n =
        let b = beyond n in
        (b.edges_second, far_enough t u n b.edges_first b.edges_second b.far_first b.meets.writing)

    second_begins : Follows w input u t
    unfolding Follows
    second_begins n =
        let b = beyond n in
        (b.edges_first, far_enough u t n b.edges_second b.edges_first b.far_second (λ p h. sym (b.meets.writing p h)))

    -- Where one run has stopped, the other has where they meet.

    alike : (k : ℕ) → is_stop (t (runs w input t (beyond k).edges_first).state) ≡ is_stop (u (runs w input u (beyond k).edges_second).state)
    alike k = stop_alike w t u list judged input endless _ _ (beyond k).pair (beyond k).meets

    stood : (x : Table) (n m : ℕ) → n ≤ m → Stopped w input x n → runs w input x m ≡ runs w input x n
    unfolding Stopped runs
    stood x n m h s = stays w input x (start zeros) n m h s

    stop_forth : Stops w input t → Stops w input u
    unfolding Stops Stopped
    stop_forth (n, s) =
        let b = beyond n in
        (b.edges_second, sym (alike n) ∙ ap (λ (c : Config). is_stop (t c.state)) (stood t n b.edges_first b.far_first s) ∙ s)

    stop_back : Stops w input u → Stops w input t
    unfolding Stops Stopped
    stop_back (n, s) =
        let b = beyond n in
        (b.edges_first, alike n ∙ ap (λ (c : Config). is_stop (u c.state)) (stood u n b.edges_second b.far_second s) ∙ s)

    -- Where both have stopped, they have read equally many words and written the same on each port.
    both_stopped : (n m : ℕ) → Stopped w input t n → Stopped w input u m → (i : ℕ) × Meet w list (runs w input t n) (runs w input u m) i
    both_stopped n m s s' =
        let b = beyond (n + m) in
        let p = stood t n b.edges_first (omega (arith, b.far_first)) s in
        let q = stood u m b.edges_second (omega (arith, b.far_second)) s' in
        (b.pair, moved (sym p) (sym q) b.meets)

  -- The promise at a width.
  pub promise : Promise w (table_of first) (table_of second)
  unfolding read_so_far written t u
  promise =
      record {
        forth = first_begins;
        back = second_begins;
        stops = λ input endless. (stop_forth input endless, stop_back input endless);
        read_alike = λ input endless n m p h s s'. (both_stopped input endless n m s s').1.reading p h;
        written_alike = λ input endless n m p h s s'. (both_stopped input endless n m s s').1.writing p h;
      }

-- Demand 3: after a yes, whoever made the list, the two tables keep the promise.
pub yes_is_worth : (first second list : List ℕ) → verdict first second list ≡ accepted → Promise base (table_of first) (table_of second)
unfolding verdict
yes_is_worth first second list accepts = promise base first second list accepts
