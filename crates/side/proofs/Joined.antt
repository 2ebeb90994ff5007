-- What the answer of `side::Side::follow` says of the paper's side (`model`, Path: follow): stuck exactly where that is too large, and else a
-- side that stands for it; what each part of such a side holds; and that an environment of symbols is the start of a path. Assumes nothing.
use Prim.Native.Nat.{ℕ, zero, suc, ◌≤◌, ◌<◌}
use mathlib.Core.Path.{◌≡◌, refl, sym, ◌∙◌, ap}
use mathlib.Core.List.{List, [], ◌∷◌, map}
use native.Mathlib.Omega.{arith}
use lib.ListN.{length, get_or, length-map, get_or-map}
use Rattle.std.specs.Prelude.{Result, Ok, Err}
use Rattle.model.specs.Word.{base}
use Rattle.model.specs.Table.{table_of}
use Rattle.model.specs.Run.{reads, writes}
use Rattle.model.specs.Sum.{Sum, too_large, fits, empty, symbol_sum}
use Rattle.model.specs.Path as Model
use Rattle.model.specs.Path.{choices, side, follow}
use Rattle.model.proofs.Accepted.{length_choices}
use Rattle.key.specs.Key.{Small, pack, symbol_of}
use Rattle.sum.specs.declared.TooLarge.{TooLarge}
use Rattle.sum.specs.Packed.{symbol_k, pack_sum}
use Rattle.env.specs.declared.Env.{Env}
use Rattle.env.specs.Env.{sums_of, symbols_of}
use Rattle.env.proofs.Stored.{sums_symbols}
use Rattle.expr.proofs.Paper.{AllKeyed}
use Rattle.condition.specs.declared.Conditions.{Conditions}
use Rattle.condition.specs.Conditions.{no_conditions, conditions_of}
use Rattle.condition.proofs.Paper.{AllStand}
use Rattle.side.specs.declared.Side.{Side}
use Rattle.side.specs.Parts.{Port, count_on, no_port, written_on, start_as}
use Rattle.side.specs.Following.{Reached, whole, stuck, follow_k, followed_as}
use Rattle.side.proofs.Lists.{Both, both_large, both_fits}
use Rattle.side.proofs.Paper.{StandsPort, StandsPortIf, StandsEnv, StandsAsked, Stands, symbol_packs, follow_stands}

-- What the parts of a side hold.

-- The conditions, in order.
pub conditions_read : (cs : Conditions) (l : List Model.Condition) → StandsAsked cs l → AllStand (conditions_of cs) l
conditions_read cs l h = h.same

-- There are at most 32, so rule 14 is never broken.
pub conditions_few : (cs : Conditions) (l : List Model.Condition) → StandsAsked cs l → length l ≤ 32
conditions_few cs l h = omega (arith, h.count, h.few)

-- The sums written to a port, in order.
pub port_read : (w : Port) (l : List Sum) → StandsPortIf ⊥ w l → written_on w ≡ map (pack_sum pack) l
port_read w l h = h.same

-- The sum of a variable.
pub variable_read : (own : Env) (env : List Sum) (v : ℕ) → StandsEnv own env → get_or (sums_of own) v [] ≡ pack_sum pack (get_or env v empty)
unfolding pack_sum empty
variable_read own env v h = ap (λ l. get_or l v []) h.sums ∙ get_or-map (pack_sum pack) env v empty

-- The start of a path.

none_yet : (p : ℕ) → p < 4 → count_on (0 ∷ 0 ∷ 0 ∷ 0 ∷ []) p ≡ 0
unfolding count_on
none_yet zero h = refl
none_yet (suc zero) h = refl
none_yet (suc (suc zero)) h = refl
none_yet (suc (suc (suc zero))) h = refl
none_yet (suc (suc (suc (suc p)))) h = absurd (omega arith)

-- A port with no sums.
empty_port : StandsPort no_port []
unfolding written_on AllKeyed
empty_port = record { count = refl; few = omega arith; same = refl; keyed = tt }

-- Each port is one with no sums.
none_written : (p : ℕ) → get_or (no_port ∷ (no_port ∷ (no_port ∷ (no_port ∷ [])))) p no_port ≡ no_port
none_written zero = refl
none_written (suc zero) = refl
none_written (suc (suc zero)) = refl
none_written (suc (suc (suc zero))) = refl
none_written (suc (suc (suc (suc p)))) = refl

-- A side at the start of a path stands for the paper's side with nothing on it.
pub start_stands : (s : ℕ) (own : Env) (sums : List Sum) → StandsEnv own sums → Stands (start_as s own) (side s sums [] [])
unfolding start_as no_conditions side reads writes AllStand
start_stands s own sums h =
    record {
      state = refl;
      conditions = record { count = refl; few = omega arith; same = tt };
      variables = h;
      four_reads = refl;
      four_writes = refl;
      counts = none_yet;
      ports = λ p k. rw (none_written p) empty_port;
    }

-- The answer of `side::Side::follow`.

followed_whole : (r : Result (Unit {0}) TooLarge) {d : Side} {o : Reached Side} {u : Unit {0}} → followed_as r d ≡ o → r ≡ Ok u → o ≡ whole d
unfolding followed_as
followed_whole r {d} e h = sym e ∙ ap (λ y. followed_as y d) h

followed_stuck : (r : Result (Unit {0}) TooLarge) {d : Side} {o : Reached Side} {t : TooLarge} → followed_as r d ≡ o → r ≡ Err t → o ≡ stuck d
unfolding followed_as
followed_stuck r {d} e h = sym e ∙ ap (λ y. followed_as y d) h

module _ (image : List ℕ) (s n x : ℕ) (own : Env) (sums : List Sum) (short : n ≤ 32) (h : StandsEnv own sums)
    (r : Result (Unit {0}) TooLarge) (d : Side) (e : followed_as r d ≡ follow_k (table_of image) (choices n x) (start_as s own)) where
  in_step : Both Stands (follow_k (table_of image) (choices n x) (start_as s own)) (follow base (table_of image) (choices n x) (side s sums [] []))
  unfolding start_as no_conditions
  in_step =
      let l : length (choices n x) ≡ n = length_choices n x in
      follow_stands (table_of image) (choices n x) (start_as s own) (side s sums [] []) (start_stands s own sums h) (omega arith)

  -- Stuck: the paper's path is too large.
  pub follow_large : {t : TooLarge} → r ≡ Err t → follow base (table_of image) (choices n x) (side s sums [] []) ≡ too_large
  follow_large f = both_large Stands _ _ d in_step (followed_stuck r e f)

  -- The side stands for the paper's.
  pub follow_fits : {u : Unit {0}} → r ≡ Ok u → (m : Model.Side) × (follow base (table_of image) (choices n x) (side s sums [] []) ≡ fits m) × Stands d m
  follow_fits f = both_fits Stands _ _ d in_step (followed_whole r e f)

-- An environment of symbols.

symbols_keyed : (list : List ℕ) → Small list → AllKeyed (map symbol_sum list)
unfolding AllKeyed Small
symbols_keyed [] h = tt
symbols_keyed (x ∷ list) h = ((symbol_packs x h.0).keyed, symbols_keyed list h.1)

symbols_packed : (list : List ℕ) → Small list → map (λ x. symbol_k (symbol_of x)) list ≡ map (pack_sum pack) (map symbol_sum list)
unfolding Small
symbols_packed [] h = refl
symbols_packed (x ∷ list) h = λ i. (symbol_packs x h.0).same i ∷ symbols_packed list h.1 i

-- The environment that `env::Env::symbols` makes stands for the sums of its symbols.
pub symbols_stand : (list : List ℕ) → length list ≡ 16 → Small list → StandsEnv (symbols_of list) (map symbol_sum list)
unfolding symbols_of
symbols_stand list k h =
    record {
      full = length-map list _ ∙ k;
      sums = sums_symbols list ∙ symbols_packed list h;
      keyed = symbols_keyed list h;
    }
