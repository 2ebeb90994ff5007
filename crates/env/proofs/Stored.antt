-- What storing a sum does to the sums of an environment: the variable's is replaced. Assumes nothing.
use Prim.Native.Nat.{ℕ, zero, suc, ◌+◌, ◌≤◌, ◌<◌, min}
use mathlib.Core.Path.{◌≡◌, refl, ap, ◌∙◌}
use mathlib.Core.List.{List, [], ◌∷◌, map}
use native.Mathlib.Omega.{arith}
use lib.ListN.{length, get_or, set, replicate, length-map, length-set, length-take, get_or-eq_default}
use lib.Seq.{get_or-set_same, get_or-set_other}
use Rattle.std.proofs.lemmas.List.{map-set, set_past}
use Rattle.model.specs.Answer.{up_to}
use Rattle.key.specs.Key.{symbol_of}
use Rattle.sum.specs.declared.Sum.{Sum}
use Rattle.sum.specs.Packed.{symbol_k, terms_of, as_sum}
use Rattle.sum.proofs.Held.{terms_as}
use Rattle.env.specs.declared.Env.{Env}
use Rattle.env.specs.Env.{sums_of, with_variable, symbols_of}

-- The numbers from i on, by their places.
pub up_to_at : (i n j z : ℕ) → j < n → get_or (up_to i n) j z ≡ i + j
unfolding up_to
up_to_at i zero j z h = absurd (omega arith)
up_to_at i (suc n) zero z h = omega arith
up_to_at i (suc n) (suc j) z h =
    let e : suc i + j ≡ i + suc j = omega arith in
    up_to_at (suc i) n j z (omega arith) ∙ e

-- There is a sum for each variable.
pub length_sums : (e : Env) → length (sums_of e) ≡ length e.sums
unfolding sums_of
length_sums e = length-map e.sums terms_of

-- A variable past the last has the empty sum.
pub sums_past : (e : Env) (v : ℕ) → length e.sums ≤ v → get_or (sums_of e) v [] ≡ []
sums_past e v h = get_or-eq_default (sums_of e) [] {n = v} (omega (arith, length_sums e))

module _ (e : Env) (v : ℕ) (s : Sum) where
  -- Nothing changes for a variable past the last.
  pub with_past : length e.sums ≤ v → with_variable e v s ≡ e
  unfolding with_variable
  with_past h = λ i. record { sums = set_past e.sums v s h i }

  -- Storing a variable's sum replaces it among the sums.
  pub sums_with : sums_of (with_variable e v s) ≡ set (sums_of e) v (terms_of s)
  unfolding sums_of with_variable
  sums_with = map-set terms_of e.sums v s

  -- The stored sum is read back.
  pub stored_same : v < length e.sums → get_or (sums_of (with_variable e v s)) v [] ≡ terms_of s
  unfolding sums_of
  stored_same h =
      ap (λ l. get_or l v []) sums_with ∙ get_or-set_same (sums_of e) v (terms_of s) [] (omega (arith, length-map e.sums terms_of))

  -- Every other one is as it was.
  pub stored_other : (u : ℕ) → (u ≡ v → ⊥) → get_or (sums_of (with_variable e v s)) u [] ≡ get_or (sums_of e) u []
  stored_other u d = ap (λ l. get_or l u []) sums_with ∙ get_or-set_other (sums_of e) v u (terms_of s) [] d

  -- There are as many sums as there were.
  pub length_with : length (with_variable e v s).sums ≡ length e.sums
  unfolding with_variable
  length_with = length-set e.sums v s

-- An environment of empty sums has sixteen of them.
pub sums_empty : sums_of (record { sums = replicate 16 (as_sum []) }) ≡ replicate 16 []
unfolding sums_of terms_of as_sum
sums_empty = refl

-- The sums of an environment of symbols have one term each.
pub sums_symbols : (list : List ℕ) → sums_of (symbols_of list) ≡ map (λ x. symbol_k (symbol_of x)) list
unfolding sums_of symbols_of symbol_k
sums_symbols [] = refl
sums_symbols (x ∷ list) =
    λ i. terms_as (symbol_k (symbol_of x)) (omega arith) i ∷ sums_symbols list i

few_of : (l : List Sum) (v : ℕ) → length (get_or (map terms_of l) v []) ≤ 16
unfolding terms_of
few_of [] v = omega arith
few_of (s ∷ l) zero = omega (arith, length-take (min s.n 16) s.terms)
few_of (s ∷ l) (suc v) = few_of l v

-- Every variable's sum has at most 16 terms.
pub sums_few : (e : Env) (v : ℕ) → length (get_or (sums_of e) v []) ≤ 16
unfolding sums_of
sums_few e v = few_of e.sums v
