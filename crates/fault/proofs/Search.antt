-- The numbers that records have, record by record, and the search for one that stands twice. Assumes nothing.
use Prim.Native.Nat.{ℕ, zero, suc, ◌+◌, ◌-◌, ◌<◌, ◌≤◌}
use mathlib.Core.Path.{◌≡◌, refl, sym, ◌∙◌, ap}
use mathlib.Core.Bool.{Bool, true, false, not, ◌&&◌, ◌||◌}
use mathlib.Core.List.{List}
use native.Mathlib.Omega.{arith}
use lib.Dec.{eqb}
use Rattle.std.specs.Cmp.{nat_eq_equiv}
use Rattle.std.specs.List.{filter_map, list_any, range_with_len, cons_option}
use Rattle.std.specs.Option.{option_eq}
use Rattle.std.specs.Prelude.{Option, Some, None}
use Rattle.model.specs.Answer.{up_to}
use Rattle.model.specs.Table.{member, distinct}
use Rattle.fault.proofs.Along.{up_to_cons, up_to_none}

pub and_true : (b : Bool) → (b && true) ≡ b
and_true true = refl
and_true false = refl

-- The numbers of the records from one up to another.
abbrev pub Numbers : (ℕ → Option ℕ) → ℕ → ℕ → List ℕ
Numbers f i end = filter_map f (up_to i (end - i))

-- Whether a record has a number, or one behind it.
has_either : (x : ℕ) (o : Option ℕ) (l : List ℕ) → (option_eq eqb o (Some x) || member x l) ≡ member x (cons_option o l)
unfolding member
has_either x None l = refl
has_either x (Some y) l = ap (λ b. b || member x l) (nat_eq_equiv.symm y x)

module _ (f : ℕ → Option ℕ) where
  -- Whether one of n records has a number.
  pub any_member : (x i n : ℕ) → list_any (λ j. option_eq eqb (f j) (Some x)) (range_with_len i n) ≡ member x (filter_map f (up_to i n))
  unfolding member up_to
  any_member x i zero = refl
  any_member x i (suc n) =
      let s : i + 1 ≡ suc i = omega arith in
      let rest : list_any (λ j. option_eq eqb (f j) (Some x)) (range_with_len (i + 1) n) ≡ member x (filter_map f (up_to (suc i) n)) =
      any_member x (i + 1) n ∙ ap (λ k. member x (filter_map f (up_to k n))) s
      in
      ap (λ b. option_eq eqb (f i) (Some x) || b) rest ∙ has_either x (f i) (filter_map f (up_to (suc i) n))

  module _ (i end : ℕ) (more : i < end) where
    turn : Numbers f i end ≡ cons_option (f i) (Numbers f (i + 1) end)
    turn = ap (filter_map f) (up_to_cons i (end - i) (end - (i + 1)) (omega arith))

    -- The numbers from a record on that has none are those behind it.
    pub passes : f i ≡ None → distinct (Numbers f (i + 1) end) ≡ distinct (Numbers f i end)
    passes e = ap distinct (ap (λ o. cons_option o (Numbers f (i + 1) end)) (sym e) ∙ sym turn)

    -- A record has a number: the numbers from it on are different where none behind it has the same, and those behind it are different.
    module _ {x : ℕ} {b : Bool} (has : f i ≡ Some x) (search : b ≡ list_any (λ j. option_eq eqb (f j) (Some x)) (range_with_len (i + 1) (end - (i + 1)))) where
      differs : distinct (Numbers f i end) ≡ (not b && distinct (Numbers f (i + 1) end))
      unfolding distinct
      differs =
          ap distinct (turn ∙ ap (λ o. cons_option o (Numbers f (i + 1) end)) has)
          ∙ ap (λ m. not m && distinct (Numbers f (i + 1) end)) (sym (search ∙ any_member x (i + 1) (end - (i + 1))))

      pub twice : b ≡ true → false ≡ distinct (Numbers f i end)
      twice h = sym (ap (λ m. not m && distinct (Numbers f (i + 1) end)) h) ∙ sym differs

      pub once : b ≡ false → distinct (Numbers f (i + 1) end) ≡ distinct (Numbers f i end)
      once h = sym (ap (λ m. not m && distinct (Numbers f (i + 1) end)) h) ∙ sym differs

  -- Behind the last record no number is left.
  pub all_differ : (i end : ℕ) → end ≤ i → distinct (Numbers f i end) ≡ true
  unfolding distinct
  all_differ i end h = ap (λ l. distinct (filter_map f l)) (up_to_none i (end - i) (omega arith))
