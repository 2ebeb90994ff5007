-- The need of one action, and along the actions of an edge. Assumes nothing.
use Prim.Native.Nat.{ℕ, ◌+◌, ◌-◌, ◌≤◌, ◌<◌}
use mathlib.Core.Path.{◌≡◌, refl, sym, ◌∙◌, ap}
use mathlib.Core.Bool.{Bool, true, false, cond}
use mathlib.Core.List.{List, [], ◌∷◌, map}
use native.Mathlib.Omega.{arith}
use lib.Dec.{ltb}
use lib.ListN.{get_or, set}
use lib.Seq.{set-get_or}
use borrow.Author.Tests.{lt-ltb, le-ltb}
use Rattle.std.specs.Prelude.{Option, Some, None}
use Rattle.model.specs.Answer.{up_to}
use Rattle.model.specs.Table as Model
use Rattle.model.specs.Table.{assign, read, write, action_at}
use Rattle.fault.proofs.Along.{up_to_cons, up_to_none}
use Rattle.table.specs.Decoded.{action_meant}
use Rattle.table.specs.declared.EdgeRecord.{EdgeRecord}
use Rattle.table.specs.declared.decoded.Action.{Action}
use Rattle.table.specs.declared.decoded.Action.TheVariants.{Assign, Read, Write}
use Rattle.run.specs.Held.{Need, needing, spend, spend_all, need_of, count_of, Needed, actions_of}
use Rattle.run.specs.Sound.{ActionFits}
use Rattle.model.proofs.Basics.{clash}

-- The actions from the i-th to an end: the first and those behind it, or none.

abbrev pub acts : List ℕ → ℕ → ℕ → List Model.Action
acts image i end = map (action_at image) (up_to i (end - i))

pub acts_all : (image : List ℕ) (e : EdgeRecord) → acts image e.first (e.first + e.count) ≡ actions_of image e
acts_all image e = let n : e.first + e.count - e.first ≡ e.count = omega arith in rw n

pub acts_cons : (image : List ℕ) (i end : ℕ) → i < end → acts image i end ≡ action_at image i ∷ acts image (i + 1) end
acts_cons image i end h = ap (map (action_at image)) (up_to_cons i (end - i) (end - (i + 1)) (omega arith))

pub acts_none : (image : List ℕ) (i end : ℕ) → end ≤ i → acts image i end ≡ []
acts_none image i end h = ap (map (action_at image)) (up_to_none i (end - i) (omega arith))

-- A read's port, of an action that fits.
pub port_fits : (code : List ℕ) {a : Action} {p v : ℕ} → ActionFits code a → a ≡ Read p v → p < 4
unfolding ActionFits
port_fits code h e = (rw e at h).0

-- What one action leaves, by its kind.

-- What is answered after an action, and what is then left on each port.
abbrev pub Spent : List ℕ → ℕ → Model.Action → Option ℕ → List ℕ → Type 0
Spent left w a count after = (count ≡ count_of (spend (needing left w) a)) × (after ≡ (spend (needing left w) a).left)

module _ (left : List ℕ) (w : ℕ) {a : Action} (code : List ℕ) where
  pub spent_none : {v e : ℕ} → a ≡ Assign v e → Spent left w (action_meant code a) (Some w) left
  unfolding spend count_of action_meant
  spent_none e = rw e (refl, refl)

  pub spent_lacks : {p v : ℕ} → a ≡ Read p v → (1 ≤ get_or left p 0 → ⊥) → Spent left w (action_meant code a) None left
  unfolding spend count_of action_meant
  spent_lacks {p} e h =
      let less : get_or left p 0 - 1 ≡ 0 = omega arith in
      let none : get_or left p 0 ≡ 0 = omega arith in
      let lacks : ltb 0 (get_or left p 0) ≡ false = le-ltb 0 (get_or left p 0) (omega arith) in
      let stays : set left p (get_or left p 0 - 1) ≡ left = rw less (ap (set left p) (sym none) ∙ set-get_or left p 0) in
      rw (e, lacks) (refl, sym stays)

  pub spent_takes : {p v m : ℕ} → a ≡ Read p v → (1 ≤ get_or left p 0) × (m ≡ get_or left p 0 - 1) → Spent left w (action_meant code a) (Some w) (set left p m)
  unfolding spend count_of action_meant
  spent_takes {p} {v} {m} e h =
      let has : ltb 0 (get_or left p 0) ≡ true = lt-ltb 0 (get_or left p 0) (omega arith) in
      rw (e, has, h.1) (refl, refl)

  pub spent_writes : {p e : ℕ} → a ≡ Write p e → Spent left w (action_meant code a) (Some (w + 1)) left
  unfolding spend count_of action_meant
  spent_writes e = rw e (refl, refl)

-- What the count of a need tells: where there is one no word is lacking, and it is that of the couples.

pub met : (n : Need) {o : Option ℕ} {r : ℕ} → o ≡ count_of n → o ≡ Some r → (n.enough ≡ true) × (r ≡ n.writes)
unfolding count_of
met n {o} {r} e k = by n.enough e
  where
    by : (b : Bool) → o ≡ cond b (Some n.writes) None → (b ≡ true) × (r ≡ n.writes)
    by true q = (refl, cc)
    by false q = absurd (let z : ◌≡◌ {A = ℕ} 0 1 = cc in omega arith)

pub unmet : (n : Need) {o : Option ℕ} → o ≡ count_of n → o ≡ None → n.enough ≡ false
unfolding count_of
unmet n {o} e k = by n.enough e
  where
    by : (b : Bool) → o ≡ cond b (Some n.writes) None → b ≡ false
    by true q = absurd (let z : ◌≡◌ {A = ℕ} 0 1 = cc in omega arith)
    by false q = refl

met_is : (n : Need) {o : Option ℕ} {r : ℕ} {left : List ℕ} → o ≡ count_of n → o ≡ Some r → left ≡ n.left → needing left r ≡ n
met_is n e k l =
    let all = met n e k in
    let enough : true ≡ n.enough = sym all.0 in
    let writes = all.1 in
    λ i. record { enough = enough i; left = l i; writes = writes i }

-- Once a word is lacking, it stays so.

lacks_on : (n : Need) (a : Model.Action) → n.enough ≡ false → (spend n a).enough ≡ false
unfolding spend
lacks_on n (assign v e) h = h
lacks_on n (read p v) h = rw h refl
lacks_on n (write p e) h = h

lacks_all : (n : Need) (l : List Model.Action) → n.enough ≡ false → (spend_all n l).enough ≡ false
unfolding spend_all
lacks_all n [] h = h
lacks_all n (a ∷ l) h = lacks_all (spend n a) l (lacks_on n a h)

few_writes : (n : Need) (a : Model.Action) → (spend n a).writes ≤ n.writes + 1
unfolding spend
few_writes n (assign v e) = omega arith
few_writes n (read p v) = omega arith
few_writes n (write p e) = omega arith

-- Along the actions of an edge, at action i: what they need from here on is what all of them need.
pub record Spending (image : List ℕ) (start : Need) (e : EdgeRecord) (now : Need) (i : ℕ) : Type 0 where
  pub few : now.writes + (e.first + e.count - i) ≤ 16
  pub rest : spend_all now (acts image i (e.first + e.count)) ≡ spend_all start (actions_of image e)

pub spending_start : (image : List ℕ) (start : Need) (e : EdgeRecord) → start.writes ≡ 0 → e.count ≤ 16 → Spending image start e start e.first
spending_start image start e none h = record { few = omega arith; rest = ap (spend_all start) (acts_all image e) }

module _ {image : List ℕ} {start : Need} {e : EdgeRecord} {now : Need} {i : ℕ} (s : Spending image start e now i) where
  module _ (more : i < e.first + e.count) {a : Model.Action} (is : action_at image i ≡ a) {o : Option ℕ} (spent : o ≡ count_of (spend now a)) where
    -- What is needed from action i on, behind that action.
    turn : spend_all (spend now a) (acts image (i + 1) (e.first + e.count)) ≡ spend_all start (actions_of image e)
    unfolding spend_all
    turn = rw (← is) (sym (ap (spend_all now) (acts_cons image i (e.first + e.count) more)) ∙ s.rest)

    pub spending_step : {r : ℕ} {left' : List ℕ} → o ≡ Some r → left' ≡ (spend now a).left → Spending image start e (needing left' r) (i + 1)
    spending_step k l =
        let same = met_is (spend now a) spent k l in
        let count = (met (spend now a) spent k).1 in
        record { few = omega (arith, s.few, few_writes now a); rest = rw same turn }

    -- Where a word is lacking for an action, it is lacking for all.
    spending_lacks : o ≡ None → (spend_all start (actions_of image e)).enough ≡ false
    spending_lacks k =
        ap (λ z. z.enough) (sym turn) ∙ lacks_all (spend now a) (acts image (i + 1) (e.first + e.count)) (unmet (spend now a) spent k)

  spending_end : e.first + e.count ≤ i → now ≡ spend_all start (actions_of image e)
  unfolding spend_all
  spending_end h = sym (ap (spend_all now) (acts_none image i (e.first + e.count) h)) ∙ s.rest

module _ {image left : List ℕ} {e : EdgeRecord} {now : Need} {i : ℕ} (s : Spending image (needing left 0) e now i) where
  pub needed_none : i < e.first + e.count → {a : Model.Action} → action_at image i ≡ a → {o : Option ℕ} → o ≡ count_of (spend now a)
      → (left' : List ℕ) → o ≡ None → Needed (need_of left (actions_of image e)) None left'
  unfolding need_of count_of
  needed_none more is spent left' k =
      let lacks = spending_lacks s more is spent k in
      record { counts = rw lacks refl; leaves = λ enough. clash enough lacks }

pub needed_all : {image left left' : List ℕ} {e : EdgeRecord} {w i : ℕ} → Spending image (needing left 0) e (needing left' w) i → e.first + e.count ≤ i
    → Needed (need_of left (actions_of image e)) (Some w) left'
unfolding need_of count_of
needed_all s h =
    let all = spending_end s h in
    record { counts = ap count_of all; leaves = λ enough. ap (λ z. z.left) all }
