-- The loop that makes an environment of symbols: what is made so far, and what is next. And what an array's elements make, each by a call that
-- gives what a function does. Assumes nothing.
use Prim.Native.Nat.{ℕ, ◌≤◌, ◌<◌}
use mathlib.Core.Path.{◌≡◌, sym, ◌∙◌}
use mathlib.Core.List.{List, map}
use native.Mathlib.Omega.{arith}
use denote.Param.Members.{Mut}
use lib.ListN.{get_or, length, length-map}
use lib.Seq.{ext_get_or}
use Rattle.std.specs.Fn.{Called}
use Rattle.std.specs.Array.{IsMapOf}
use Rattle.std.proofs.lemmas.List.{get_or-map}
use Rattle.key.specs.Key.{symbol_of}
use Rattle.sum.specs.declared.Sum.{Sum}
use Rattle.sum.specs.Packed.{symbol_k, as_sum}
use Rattle.sum.proofs.Lists.{Copied, copy_end, copied_all}

-- The sums of a list of symbols.
abbrev pub symbol_sums : List ℕ → List Sum
symbol_sums list = map (λ x. as_sum (symbol_k (symbol_of x))) list

-- The sums of the first v symbols stand in front of what was there.
abbrev pub Made : List ℕ → List Sum → List Sum → ℕ → Type 0
Made list blank sums v = Copied 16 (symbol_sums list) blank sums v

-- The next sum.
pub next_symbol : (list : List ℕ) (v x m : ℕ) (s z : Sum) → v < length list → x ≡ get_or list v 0 → m ≡ symbol_of x → s ≡ as_sum (symbol_k m) → s ≡ get_or (symbol_sums list) v z
next_symbol list v x m s z h e f g =
    g ∙ (λ i. as_sum (symbol_k ((f ∙ λ j. symbol_of (e j)) i))) ∙ sym (get_or-map (λ x. as_sum (symbol_k (symbol_of x))) list v 0 z h)

-- All sums.
pub all_made : (list : List ℕ) {blank sums : List Sum} {v : ℕ} → Made list blank sums v → 16 ≤ v → length list ≡ 16 → length blank ≡ 16 → sums ≡ symbol_sums list
all_made list {blank} {sums} {v} h k n m =
    copy_end 16 (symbol_sums list) blank sums v h k
    ∙ copied_all 16 (symbol_sums list) blank (length-map list (λ x. as_sum (symbol_k (symbol_of x))) ∙ n) m

-- Where each call gives what f does, the array is a map by f.
pub made_by : {F A B : Type 0} (g : Mut F (A × Unit {0}) B) (f : A → B) (d : A) (e : B)
    → ((p q : F) (a : A) (b : B) → Called g p (a, tt) b q → b ≡ f a)
    → {c : F} (xs : List A) (ys : List B) → length xs ≡ 16 → IsMapOf g c xs ys 16 → ys ≡ map f xs
made_by g f d e call xs ys n made =
    let long : length ys ≡ 16 = made.long in
    ext_get_or e ys (map f xs) (omega (arith, length-map xs f))
    (λ i h. let (p, q, k) = made.at i d e (omega arith) in call p q _ _ k ∙ sym (get_or-map f xs i d e (omega arith)))
