-- Along the records of an area: what is found from a record on, and what the search then answers. Assumes nothing.
use Prim.Native.Nat.{ℕ, suc, ◌+◌, ◌-◌, ◌<◌, ◌≤◌}
use mathlib.Core.Path.{◌≡◌, sym, ◌∙◌, ap}
use mathlib.Core.List.{[], ◌∷◌}
use native.Mathlib.Omega.{arith}
use Rattle.model.specs.Answer.{Fault, ◌then◌, first_of, up_to}
use Rattle.std.specs.Prelude.{Ok, Err}
use Rattle.fault.specs.Fault.{checked_of}
use Rattle.fault.specs.declared.Fault as declared
use Rattle.fault.proofs.Rules.{Checked, first_broken, first_sound}

-- The numbers from i on: the first, and the others.

pub up_to_cons : (i n m : ℕ) → n ≡ suc m → up_to i n ≡ i ∷ up_to (i + 1) m
unfolding up_to
up_to_cons i n m e =
    let s : suc i ≡ i + 1 = omega arith in
    rw (e, s)

pub up_to_none : (i n : ℕ) → n ≡ 0 → up_to i n ≡ []
unfolding up_to
up_to_none i n e = rw e

-- The search along an area of n records, at record i: what is found from there on is what is found from the start on.

pub record Along (f : ℕ → Fault) (n i : ℕ) : Type 0 where
  pub within : i ≤ n
  pub rest : first_of f (up_to i (n - i)) ≡ first_of f (up_to 0 n)

pub along_start : (f : ℕ → Fault) (n : ℕ) → Along f n 0
along_start f n =
    let z : n - 0 ≡ n = omega arith in
    record { within = omega arith; rest = rw z }

turn : (f : ℕ → Fault) (n i : ℕ) → i < n → first_of f (up_to i (n - i)) ≡ (f i then first_of f (up_to (i + 1) (n - (i + 1))))
unfolding first_of
turn f n i h = ap (first_of f) (up_to_cons i (n - i) (n - (i + 1)) (omega arith))

pub along_fine : (f : ℕ → Fault) (n i : ℕ) {r : Checked} → Along f n i → i < n → r ≡ checked_of (f i) → r ≡ Ok tt → Along f n (i + 1)
along_fine f n i v h e k =
    record { within = omega arith; rest = sym (first_sound (f i) _ e k) ∙ sym (turn f n i h) ∙ v.rest }

pub along_broken : (f : ℕ → Fault) (n i : ℕ) {r : Checked} {e : declared.Fault} → Along f n i → i < n → r ≡ checked_of (f i) → r ≡ Err e
    → Err e ≡ checked_of (first_of f (up_to 0 n))
along_broken f n i v h q k = first_broken (f i) (first_of f (up_to (i + 1) (n - (i + 1)))) q k ∙ ap checked_of (sym (turn f n i h) ∙ v.rest)

pub along_end : (f : ℕ → Fault) (n i : ℕ) → Along f n i → n ≤ i → Ok tt ≡ checked_of (first_of f (up_to 0 n))
unfolding first_of checked_of
along_end f n i v h =
    let b : i ≤ n = v.within in
    ap checked_of (sym (ap (first_of f) (up_to_none i (n - i) (omega arith))) ∙ v.rest)
