-- The operations on sums packed by crate `key` are the paper's: the laws of Paper at `key`'s packing, for terms of at most 4 rising
-- symbols below 127. Assumes nothing.
use Prim.Native.Nat.{ℕ, ◌+◌, ◌≤◌, ◌<◌}
use mathlib.Core.Path.{◌≡◌, refl}
use mathlib.Core.Bool.{cond}
use mathlib.Core.List.{List, [], ◌∷◌, map}
use native.Mathlib.Omega.{arith}
use lib.Dec.{leb, ltb, eqb}
use lib.ListN.{length, length-map}
use Rattle.model.specs.Sum.{Sum, fits, same, same_sum, precedes, Rising, Terms, constant_sum, symbol_sum, add, negate, subtract, merge, multiply}
use Rattle.model.proofs.Normal.{merge_rising, merge_length}
use Rattle.key.specs.Key.{Small, pack, pack_on, merged_of}
use Rattle.std.specs.Prelude.{Some, None}
use Rattle.key.proofs.Pack.{pack_same, pack_order, pack_merged, merge_small}
use Rattle.sum.specs.Packed.{constant_k, symbol_k, add_k, negate_k, subtract_k, multiply_k, same_k, terms_of, as_sum, pack_term, pack_sum, pack_outcome}
use Rattle.sum.proofs.Held.{terms_as}
use Rattle.sum.proofs.Paper as Paper

-- A list of symbols that `key` packs: each below 127, at most 4, in rising order.
pub record Packable (l : List ℕ) : Type 0 where
  pub small : Small l
  pub short : length l ≤ 4
  pub rising : Rising l

equal : (l m : List ℕ) → Packable l → Packable m → eqb (pack l) (pack m) ≡ same eqb l m
equal l m h k = pack_same l m h.small k.small

order : (l m : List ℕ) → Packable l → Packable m → ltb (pack l) (pack m) ≡ precedes l m
order l m h k = pack_order l m h.small k.small

merged : (l m : List ℕ) → Packable l → Packable m
    → merged_of (pack l) (pack m) ≡ cond (leb (length l + length m) 4) (Some (pack (merge l m))) None
merged l m h k = pack_merged l m h.small k.small h.rising k.rising h.short k.short

merges : (l m : List ℕ) → Packable l → Packable m → length l + length m ≤ 4 → Packable (merge l m)
merges l m h k n =
    record {
      small = merge_small l m h.small k.small;
      short = omega (arith, merge_length l m);
      rising = merge_rising l m k.rising;
    }

-- Every term of a sum has symbols that `key` packs.
abbrev pub Keyed : Sum → Type 0
Keyed s = Paper.AllPack Packable s

-- The terms of a normal sum have such symbols, if each symbol is below 127.
pub normal_keyed : (w : ℕ) (s : Sum) → Terms w s → Paper.AllPack Small s → Keyed s
unfolding Terms Paper.AllPack
normal_keyed w [] k h = tt
normal_keyed w (t ∷ s) k h =
    (record { small = h.0; short = k.0.short; rising = k.0.rising }, normal_keyed w s k.2 h.1)

-- At most 16 terms that are packed into a struct come out packed.
pub held_terms : (s : Sum) → length s ≤ 16 → terms_of (as_sum (pack_sum pack s)) ≡ pack_sum pack s
unfolding pack_sum
held_terms s h =
    let k : length (map (pack_term pack) s) ≤ 16 = simp length-map h in
    terms_as _ k

-- Each operation, and that what it gives has such symbols again.

pub add_keyed : (w : ℕ) (s t : Sum) → Keyed s → Keyed t → pack_outcome pack (add w s t) ≡ add_k w (pack_sum pack s) (pack_sum pack t)
add_keyed = Paper.add_packed Packable pack equal order

pub add_keeps : (w : ℕ) (s t r : Sum) → Keyed s → Keyed t → add w s t ≡ fits r → Keyed r
add_keeps = Paper.add_pack Packable pack equal order

pub negate_keyed : (w : ℕ) (s : Sum) → pack_sum pack (negate w s) ≡ negate_k w (pack_sum pack s)
negate_keyed = Paper.negate_packed Packable pack equal order

pub negate_keeps : (w : ℕ) (s : Sum) → Keyed s → Keyed (negate w s)
negate_keeps = Paper.negate_pack Packable pack equal order

pub subtract_keyed : (w : ℕ) (s t : Sum) → Keyed s → Keyed t
    → pack_outcome pack (subtract w s t) ≡ subtract_k w (pack_sum pack s) (pack_sum pack t)
subtract_keyed = Paper.subtract_packed Packable pack equal order

pub subtract_keeps : (w : ℕ) (s t r : Sum) → Keyed s → Keyed t → subtract w s t ≡ fits r → Keyed r
subtract_keeps = Paper.subtract_pack Packable pack equal order

pub multiply_keyed : (w : ℕ) (s t : Sum) → Keyed s → Keyed t
    → pack_outcome pack (multiply w s t) ≡ multiply_k w (pack_sum pack s) (pack_sum pack t)
multiply_keyed = Paper.multiply_packed Packable pack equal order merged merges

pub multiply_keeps : (w : ℕ) (s t r : Sum) → Keyed s → Keyed t → multiply w s t ≡ fits r → Keyed r
multiply_keeps = Paper.multiply_pack Packable pack equal order merged merges

pub same_keyed : (s t : Sum) → Keyed s → Keyed t → same_sum s t ≡ same_k (pack_sum pack s) (pack_sum pack t)
same_keyed = Paper.same_packed Packable pack equal order

pub constant_keyed : (w c : ℕ) → pack_sum pack (constant_sum w c) ≡ constant_k w c
unfolding pack pack_on
constant_keyed w c = Paper.constant_packed Packable pack equal order w c refl

pub constant_keeps : (w c : ℕ) → Keyed (constant_sum w c)
unfolding Small Rising
constant_keeps w c =
    Paper.constant_pack Packable pack equal order w c (record { small = tt; short = omega arith; rising = tt })

pub symbol_keyed : (x : ℕ) → pack_sum pack (symbol_sum x) ≡ symbol_k (pack (x ∷ []))
symbol_keyed = Paper.symbol_packed Packable pack equal order

pub symbol_keeps : (x : ℕ) → x < 127 → Keyed (symbol_sum x)
unfolding Small Rising
symbol_keeps x h =
    Paper.symbol_pack Packable pack equal order x (record { small = (h, tt); short = omega arith; rising = tt })
