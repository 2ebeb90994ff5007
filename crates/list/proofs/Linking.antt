-- The symbols of the second table's variables at the start of a pair's paths: link by link from the last to the first, and that they
-- are small. 01: "a second variable is its linked partner's symbol, or its own if not linked". Assumes nothing.
use Prim.Native.Nat.{ℕ, zero, suc, ◌+◌, ◌-◌, ◌≤◌, ◌<◌}
use mathlib.Core.Path.{◌≡◌, refl, sym, ◌∙◌, ap}
use mathlib.Core.Bool.{Bool, true, false, cond}
use mathlib.Core.List.Memᴰ
use mathlib.Core.List.{List, [], ◌∷◌, map, Memᴰ}
use native.Mathlib.Omega.{arith}
use lib.Dec.{eqb}
use lib.ListN.{length, set, length-map}
use lib.Seq.{set_out}
use borrow.Author.Tests.{eq-eqb, ne_eqb}
use Rattle.model.specs.Answer.{sound, up_to, word}
use Rattle.model.specs.Correspondence.{Link, pairs, links_at, link_at, list_fault}
use Rattle.model.specs.Judgement.{partner}
use Rattle.model.proofs.Basics.{length_up_to, up_to_bounds}
use Rattle.fault.proofs.Along.{up_to_cons, up_to_none}
use Rattle.key.specs.Key.{Small}
use Rattle.list.specs.Checks.{link_record, pair_record}
use Rattle.list.specs.declared.LinkRecord.{LinkRecord}
use Rattle.list.specs.declared.PairRecord.{PairRecord}
use Rattle.list.proofs.Decoding.{link_decoded, links_begin, sound_link, sound_pair}

-- One entry of a list of consecutive numbers' values set.

-- A number below all of them is none of them.
below_all : (f : ℕ → ℕ) (v x i n : ℕ) → v < i → map (λ u. cond (eqb v u) x (f u)) (up_to i n) ≡ map f (up_to i n)
unfolding up_to
below_all f v x i zero h = refl
below_all f v x i (suc n) h =
    let other : eqb v i ≡ false = ne_eqb v i (λ e. omega arith) in
    let head : cond (eqb v i) x (f i) ≡ f i = rw other in
    let rest = below_all f v x (suc i) n (omega arith) in
    λ j. head j ∷ rest j

set_map : (f : ℕ → ℕ) (k x i n : ℕ) → set (map f (up_to i n)) k x ≡ map (λ u. cond (eqb (i + k) u) x (f u)) (up_to i n)
unfolding up_to
set_map f k x i zero = refl
set_map f zero x i (suc n) =
    let z : i + 0 ≡ i = omega arith in
    let same : eqb (i + 0) i ≡ true = eq-eqb (i + 0) i z in
    let head : x ≡ cond (eqb (i + 0) i) x (f i) = rw same in
    let rest = below_all f (i + 0) x (suc i) n (omega arith) in
    λ j. head j ∷ sym rest j
set_map f (suc k) x i (suc n) =
    let other : eqb (i + suc k) i ≡ false = ne_eqb (i + suc k) i (λ e. omega arith) in
    let head : f i ≡ cond (eqb (i + suc k) i) x (f i) = rw other in
    let z : suc i + k ≡ i + suc k = omega arith in
    let rest = set_map f k x (suc i) n ∙ ap (λ v. map (λ u. cond (eqb v u) x (f u)) (up_to (suc i) n)) z in
    λ j. head j ∷ rest j

-- The symbols by the links of a pair.
abbrev pub Symbols : List Link → List ℕ
Symbols ls = map (partner ls) (up_to 0 16)

-- Nothing linked.
pub symbols_unlinked : (16 ∷ 17 ∷ 18 ∷ 19 ∷ 20 ∷ 21 ∷ 22 ∷ 23 ∷ 24 ∷ 25 ∷ 26 ∷ 27 ∷ 28 ∷ 29 ∷ 30 ∷ 31 ∷ []) ≡ Symbols []
unfolding partner up_to
symbols_unlinked = refl

-- A link more in front sets the symbol of its second variable to its first, where there is such a variable.

symbols_linked : (l : Link) (ls : List Link) → set (Symbols ls) l.second l.first ≡ Symbols (l ∷ ls)
unfolding partner
symbols_linked l ls =
    let z : 0 + l.second ≡ l.second = omega arith in
    set_map (partner ls) l.second l.first 0 16
    ∙ ap (λ v. map (λ u. cond (eqb v u) l.first (partner ls u)) (up_to 0 16)) z

pub symbols_length : (ls : List Link) → length (Symbols ls) ≡ 16
symbols_length ls = length-map (up_to 0 16) (partner ls) ∙ length_up_to 0 16

-- The symbols by the links behind the first `left` of a range.
pub record Linking (list : List ℕ) (first count : ℕ) (symbols : List ℕ) (left : ℕ) : Type 0 where
  pub within : left ≤ count
  pub done : symbols ≡ Symbols (map (link_at list) (up_to (first + left) (count - left)))

module _ (list : List ℕ) (first count : ℕ) where
  pub linking_start : Linking list first count (16 ∷ 17 ∷ 18 ∷ 19 ∷ 20 ∷ 21 ∷ 22 ∷ 23 ∷ 24 ∷ 25 ∷ 26 ∷ 27 ∷ 28 ∷ 29 ∷ 30 ∷ 31 ∷ []) count
  linking_start =
      record {
        within = omega arith;
        done = symbols_unlinked ∙ ap (λ l. Symbols (map (link_at list) l)) (sym (up_to_none (first + count) (count - count) (omega arith)));
      }

  module _ (symbols : List ℕ) (left : ℕ) (linking : Linking list first count symbols left) where
    pub linking_length : length symbols ≡ 16
    linking_length = ap length linking.done ∙ symbols_length (map (link_at list) (up_to (first + left) (count - left)))

    pub linking_end : left ≤ 0 → symbols ≡ Symbols (map (link_at list) (up_to first count))
    linking_end h =
        let z : first + left ≡ first = omega arith in
        let k : count - left ≡ count = omega arith in
        linking.done ∙ (λ j. Symbols (map (link_at list) (up_to (z j) (k j))))

    -- The link in front of those was read.
    module _ {at : ℕ} {link : LinkRecord} (begins : at ≡ links_at list) (more : 0 < left) (read : link ≡ link_record list at (first + (left - 1))) where
      links_more : link_at list (first + (left - 1)) ∷ map (link_at list) (up_to (first + left) (count - left))
          ≡ map (link_at list) (up_to (first + (left - 1)) (count - (left - 1)))
      links_more =
          let z : first + (left - 1) + 1 ≡ first + left = omega arith in
          let k : count - (left - 1) ≡ suc (count - left) = omega (arith, linking.within) in
          sym
          (ap (map (link_at list))
          (up_to_cons (first + (left - 1)) (count - (left - 1)) (count - left) k
          ∙ ap (λ i. (first + (left - 1)) ∷ up_to i (count - left)) z))

      set_here : set symbols link.second link.first ≡ Symbols (map (link_at list) (up_to (first + (left - 1)) (count - (left - 1))))
      set_here =
          let l = link_at list (first + (left - 1)) in
          let e = link_decoded list (first + (left - 1)) begins read in
          (λ j. set (linking.done j) (sym e j).second (sym e j).first)
          ∙ symbols_linked l (map (link_at list) (up_to (first + left) (count - left)))
          ∙ ap Symbols links_more

      pub linking_step : Linking list first count (set symbols link.second link.first) (left - 1)
      linking_step = record { within = omega (arith, linking.within); done = set_here }

      pub linking_past : 15 < link.second → Linking list first count symbols (left - 1)
      linking_past h =
          record {
            within = omega (arith, linking.within);
            done = sym (set_out symbols link.second link.first (omega (arith, linking_length))) ∙ set_here;
          }

-- Small symbols: of links whose first variables are below 16 every partner is below 32.

partner_below : (ls : List Link) → ((l : Link) → Memᴰ l ls → l.first < 16) → (v : ℕ) → v < 16 → partner ls v < 32
unfolding partner
partner_below [] h v k = omega arith
partner_below (l ∷ ls) h v k =
    let head : l.first < 16 = h l (Memᴰ.head refl) in
    let rest : partner ls v < 32 = partner_below ls (λ m e. h m (Memᴰ.tail e)) v k in
    either (eqb l.second v) head rest
  where
    either : (b : Bool) {x y : ℕ} → x < 16 → y < 32 → cond b x y < 32
    either true f g = omega arith
    either false f g = g

small_map : (f : ℕ → ℕ) (i n : ℕ) → ((v : ℕ) → v < i + n → f v < 127) → Small (map f (up_to i n))
unfolding Small up_to
small_map f i zero h = tt
small_map f i (suc n) h = (h i (omega arith), small_map f (suc i) n (λ v k. h v (omega arith)))

-- The first table's own symbols are sixteen, and small.

pub own_length : length (up_to 0 16) ≡ 16
own_length = length_up_to 0 16

small_up_to : (i n : ℕ) → i + n ≤ 127 → Small (up_to i n)
unfolding Small up_to
small_up_to i zero h = tt
small_up_to i (suc n) h = (omega arith, small_up_to (suc i) n (omega arith))

pub own_small : Small (up_to 0 16)
own_small = small_up_to 0 16 (omega arith)

-- So are the second's, at a pair of a correspondence in which nothing is found.

module _ (m n : ℕ) (list : List ℕ) (passed : list_fault m n list ≡ sound) (i : ℕ) {pair : PairRecord} (read : pair ≡ pair_record list i) (has : i < pairs list) where
  first_below : (l : Link) → Memᴰ l (map (link_at list) (up_to pair.link pair.links)) → l.first < 16
  first_below l e =
      let (j, mem, same) = Memᴰ.of_map (link_at list) (up_to pair.link pair.links) e in
      let range = up_to_bounds pair.link pair.links mem in
      let here = sound_link m n list passed j {r = link_record list (word list 5) j} refl (omega (arith, range.1, (sound_pair m n list passed i read has).links)) in
      let decoded = link_decoded list j {at = word list 5} {r = link_record list (word list 5) j} (links_begin m n list passed) refl in
      let first : l.first ≡ (link_record list (word list 5) j).first = ap (λ (x : Link). x.first) (sym same ∙ decoded) in
      omega (arith, here.first)

  pub partners_below : (v : ℕ) → v < 16 → partner (map (link_at list) (up_to pair.link pair.links)) v < 32
  partners_below v h = partner_below (map (link_at list) (up_to pair.link pair.links)) first_below v h

  pub partners_small : Small (map (partner (map (link_at list) (up_to pair.link pair.links))) (up_to 0 16))
  partners_small = small_map _ 0 16 (λ v h. omega (arith, partners_below v (omega arith)))
