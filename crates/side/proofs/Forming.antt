-- What comes after a sum that the code formed, and what asking a state and an answer say, by their cases. Assumes nothing.
use Prim.Native.Nat.{ℕ, ◌<◌}
use mathlib.Core.Path.{◌≡◌, refl, sym, ◌∙◌, ap}
use mathlib.Core.Bool.{Bool, true}
use mathlib.Core.List.{List}
use lib.ListN.{length}
use borrow.Author.Tests.{lt-ltb}
use Rattle.std.specs.Prelude.{Result, Ok, Err}
use Rattle.std.specs.Result.{IsErr}
use Rattle.model.specs.Expr.{read_at, is_parsed, tree_of}
use Rattle.model.specs.Sum.{Outcome, too_large, fits}
use Rattle.word.specs.declared.Kind.{Kind}
use Rattle.sum.specs.declared.Term.{Term}
use Rattle.sum.specs.declared.Sum.{Sum}
use Rattle.sum.specs.declared.TooLarge.{TooLarge}
use Rattle.sum.specs.Packed.{as_sum, added_of}
use Rattle.table.specs.declared.decoded.State.{State}
use Rattle.table.specs.declared.decoded.State.TheVariants.{Stop, Step, Test}
use Rattle.condition.specs.declared.Condition.{Condition}
use Rattle.condition.specs.declared.Conditions.{Conditions}
use Rattle.condition.specs.Conditions.{with_condition, pushed, conditions_of}
use Rattle.side.specs.declared.Side.{Side}
use Rattle.side.specs.Parts.{with_asked}
use Rattle.side.specs.Following.{Reached, whole, stuck, after_sum, formed_on, followed_as, asked_in, Formed}

-- Where a sum is too large, what comes after is stuck.
pub sum_stuck : {A : Type 0} (o : Outcome (List Term)) {x : Result Sum TooLarge} {e : TooLarge} (a : A) (k : Sum → Reached A) → x ≡ added_of o → x ≡ Err e
    → after_sum o a k ≡ stuck a
unfolding added_of after_sum
sum_stuck too_large a k h n = refl
sum_stuck (fits l) a k h n = cc

-- Where it fits, what comes after goes on with it.
pub sum_goes : {A : Type 0} (o : Outcome (List Term)) {x : Result Sum TooLarge} {s : Sum} (a : A) (k : Sum → Reached A) → x ≡ added_of o → x ≡ Ok s
    → after_sum o a k ≡ k s
unfolding added_of after_sum
sum_goes too_large a k h n = cc
sum_goes (fits l) {s = s} a k h n = let e : as_sum l ≡ s = cc in ap k e

-- An answer that is an error says that following is stuck.
pub err_stuck : {A : Type 0} (x : Result (Unit {0}) TooLarge) {a : A} → IsErr x → followed_as x a ≡ stuck a
unfolding followed_as
err_stuck (Ok u) h = cc
err_stuck (Err e) h = refl

-- A state that is no test adds no condition.
pub none_asked : (code : List ℕ) (s : State) (b : Bool) (d : Side) → ((k : Kind) (l r t f : ℕ) → s ≡ Test k l r t f → ⊥) → whole d ≡ asked_in code s b d
unfolding asked_in
none_asked code Stop b d h = refl
none_asked code (Step e) b d h = refl
none_asked code (Test k l r t f) b d h = absurd (h k l r t f refl)

-- A condition has room where there are fewer than 32.
pub pushed_room : (cs : Conditions) (c : Condition) → length (conditions_of cs) < 32 → pushed cs c ≡ with_condition cs c.kind c.left c.right c.taken
unfolding pushed
pushed_room cs c h = rw (lt-ltb (length (conditions_of cs)) 32 h)

-- What a test asks for behind its left sum.
asks : List ℕ → Kind → ℕ → Bool → Side → Sum → Reached Side
asks code k r b d x = after_sum (formed_on d.env (tree_of (read_at code r))) d (λ y. whole (with_asked d k x y b))

-- A test.
module _ (code : List ℕ) {s : State} {k : Kind} {l r t f : ℕ} (is : s ≡ Test k l r t f) where
  pub test_formed : Formed code s → (is_parsed (read_at code l) ≡ true) × (is_parsed (read_at code r) ≡ true)
  unfolding Formed
  test_formed h = rw is at h

  module _ (b : Bool) (d : Side) where
    -- It asks for both sums.
    test_asks : asked_in code s b d ≡ after_sum (formed_on d.env (tree_of (read_at code l))) d (asks code k r b d)
    unfolding asked_in asks
    test_asks = rw is

    module _ {x : Result Sum TooLarge} (first : x ≡ added_of (formed_on d.env (tree_of (read_at code l)))) where
      pub ask_left : {e : TooLarge} → x ≡ Err e → stuck d ≡ asked_in code s b d
      ask_left h = sym (test_asks ∙ sum_stuck _ d (asks code k r b d) first h)

      module _ {p : Sum} (left : x ≡ Ok p) {y : Result Sum TooLarge} (second : y ≡ added_of (formed_on d.env (tree_of (read_at code r)))) where
        pub ask_right : {e : TooLarge} → y ≡ Err e → stuck d ≡ asked_in code s b d
        unfolding asks
        ask_right h = sym (test_asks ∙ sum_goes _ d (asks code k r b d) first left ∙ sum_stuck _ d _ second h)

        pub ask_both : {q : Sum} {c : Conditions} → y ≡ Ok q → c ≡ with_condition d.conditions k p q b
            → whole (record { state = d.state; conditions = c; env = d.env; reads = d.reads; writes = d.writes }) ≡ asked_in code s b d
        unfolding asks with_asked
        ask_both h e =
            (λ i. whole (record { state = d.state; conditions = e i; env = d.env; reads = d.reads; writes = d.writes }))
            ∙ sym (test_asks ∙ sum_goes _ d (asks code k r b d) first left ∙ sum_goes _ d _ second h)

        -- So it does where the condition is pushed, and there is room.
        pub ask_pushed : {q : Sum} {c : Conditions} → y ≡ Ok q → length (conditions_of d.conditions) < 32 → c ≡ pushed d.conditions (record { kind = k; left = p; right = q; taken = b })
            → whole (record { state = d.state; conditions = c; env = d.env; reads = d.reads; writes = d.writes }) ≡ asked_in code s b d
        ask_pushed {q = q} h room e = ask_both h (e ∙ pushed_room d.conditions (record { kind = k; left = p; right = q; taken = b }) room)
