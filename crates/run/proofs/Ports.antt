-- Lists that hold something for each of the four ports, and tests of each port. Assumes nothing.
use Prim.Native.Nat.{ℕ, zero, suc, ◌<◌}
use mathlib.Core.Path.{◌≡◌, refl}
use mathlib.Core.Bool.{Bool, true}
use mathlib.Core.List.{List, [], ◌∷◌}
use native.Mathlib.Omega.{arith}
use lib.ListN.{length, get_or, set}
use Rattle.model.specs.Run.{each_port}
use Rattle.model.proofs.Basics.{and_both}
use Rattle.run.specs.Held.{per_port}

module _ {A : Type 0} where
  -- What a list holds for a port.
  pub port_get : (f : ℕ → A) (d : A) (p : ℕ) → p < 4 → get_or (per_port f) p d ≡ f p
  unfolding per_port
  port_get f d zero h = refl
  port_get f d (suc zero) h = refl
  port_get f d (suc (suc zero)) h = refl
  port_get f d (suc (suc (suc zero))) h = refl
  port_get f d (suc (suc (suc (suc p)))) h = absurd (omega arith)

  -- Where two differ in one port only, the one is the other with that port set.
  pub port_set : (f g : ℕ → A) (p : ℕ) → p < 4 → ((q : ℕ) → (q ≡ p → ⊥) → f q ≡ g q) → set (per_port f) p (g p) ≡ per_port g
  unfolding per_port
  port_set f g zero h e = rw (e 1 (λ z. omega arith), e 2 (λ z. omega arith), e 3 (λ z. omega arith))
  port_set f g (suc zero) h e = rw (e 0 (λ z. omega arith), e 2 (λ z. omega arith), e 3 (λ z. omega arith))
  port_set f g (suc (suc zero)) h e = rw (e 0 (λ z. omega arith), e 1 (λ z. omega arith), e 3 (λ z. omega arith))
  port_set f g (suc (suc (suc zero))) h e = rw (e 0 (λ z. omega arith), e 1 (λ z. omega arith), e 2 (λ z. omega arith))
  port_set f g (suc (suc (suc (suc p)))) h e = absurd (omega arith)

  -- A list of four is what it holds for each port.
  pub port_ext : (l : List A) (f : ℕ → A) (d : A) → length l ≡ 4 → ((p : ℕ) → p < 4 → get_or l p d ≡ f p) → l ≡ per_port f
  unfolding per_port
  port_ext [] f d h e = absurd (omega arith)
  port_ext (a ∷ []) f d h e = absurd (omega arith)
  port_ext (a ∷ b ∷ []) f d h e = absurd (omega arith)
  port_ext (a ∷ b ∷ c ∷ []) f d h e = absurd (omega arith)
  port_ext (a ∷ b ∷ c ∷ x ∷ []) f d h e = rw (← e 0 (omega arith), ← e 1 (omega arith), ← e 2 (omega arith), ← e 3 (omega arith))
  port_ext (a ∷ b ∷ c ∷ x ∷ y ∷ l) f d h e = absurd (omega arith)

-- A test that every port passes.
pub every_port : (f : ℕ → Bool) → ((p : ℕ) → p < 4 → f p ≡ true) → each_port f ≡ true
unfolding each_port
every_port f h =
    and_both (h 0 (omega arith)) (and_both (h 1 (omega arith)) (and_both (h 2 (omega arith)) (h 3 (omega arith))))
