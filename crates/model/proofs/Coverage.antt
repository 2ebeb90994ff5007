-- Rule 11: the test by which the verdict computes says what the paper says, both ways. 01: "the pair's paths are walkable in the
-- first table; where two first differ, the true one is listed earlier; and every walk of 32 edges, or shorter into a stop, begins
-- with exactly one of them, compared by choices. A pair of two stops must have no path, and is then covered." Assumes nothing.
use Prim.Native.Nat.{ℕ, zero, suc, ◌≤◌}
use mathlib.Core.Path.{◌≡◌, refl, sym, ◌∙◌, ap}
use mathlib.Core.Logic.{◌↔◌, ◌⊎◌, inl, inr, ⊎_elim}
use mathlib.Core.Bool.{Bool, true, false, cond, ◌&&◌}
use mathlib.Core.List.{List, [], ◌∷◌, ◌++◌, map, tail, cons≢nil}
use mathlib.Core.List.Memᴰ
use mathlib.Core.List.{Memᴰ}
use native.Mathlib.Omega.{arith}
use lib.ListN.{length}
use Rattle.model.specs.Table.{Edge, State, stop, step, test, Table}
use Rattle.model.specs.Run.{tick, is_stop, edge_on}
use Rattle.model.specs.Path.{allows, walkable, walks_of, walks, begins, beginnings, true_first, TrueEarlier, Covered, Rule11}
use Rattle.model.specs.Path.{is_none, true_side, behind, all_false, covers_of, covers, rule11}
use Rattle.model.proofs.Basics.{clash, and_left, and_right, and_both, beq_same}
use Rattle.model.proofs.Following.{allows_goes}

-- Paths, or walks, by their choices.
abbrev Paths : Type 0
Paths = List (List Bool)

-- Paths of both sides: those that go on by true, then those that go on by false, each given without that choice.
abbrev joined : Paths → Paths → Paths
joined trues falses = map (λ p. true ∷ p) trues ++ map (λ p. false ∷ p) falses

-- A path of a side is, with that choice in front, a path of both.
joined_member : (b : Bool) (trues falses : Paths) {p : List Bool}
    → Memᴰ p (cond b trues falses)
    → Memᴰ (b ∷ p) (joined trues falses)
joined_member true trues falses m = Memᴰ.append_left _ (Memᴰ.map _ m)
joined_member false trues falses m = Memᴰ.append_right (map (λ p. true ∷ p) trues) (Memᴰ.map _ m)

-- A path of both sides is a choice and a path of that side.
member_joined : (trues falses : Paths) {p : List Bool}
    → Memᴰ p (joined trues falses)
    → (b : Bool) × (q : List Bool) × (p ≡ b ∷ q) × Memᴰ q (cond b trues falses)
member_joined trues falses m =
    ⊎_elim
    (λ h. let r = Memᴰ.of_map _ _ h in (true, r.0, sym r.2, r.1))
    (λ h. let r = Memᴰ.of_map _ _ h in (false, r.0, sym r.2, r.1))
    (Memᴰ.append_cases (map (λ p. true ∷ p) trues) m)

-- Of the paths of both sides a walk begins with those of the side of its first choice.
beginnings_joined : (b : Bool) (walk : List Bool) (trues falses : Paths)
    → beginnings (b ∷ walk) (joined trues falses) ≡ beginnings walk (cond b trues falses)
unfolding begins beginnings tick
beginnings_joined true walk (p ∷ trues) falses = ap (tick (begins p walk)) (beginnings_joined true walk trues falses)
beginnings_joined true walk [] (p ∷ falses) = beginnings_joined true walk [] falses
beginnings_joined true walk [] [] = refl
beginnings_joined false walk (p ∷ trues) falses = beginnings_joined false walk trues falses
beginnings_joined false walk [] (p ∷ falses) = ap (tick (begins p walk)) (beginnings_joined false walk [] falses)
beginnings_joined false walk [] [] = refl

-- If the paths of both sides are in order, so are those of each side.
ordered_side : (b : Bool) (trues falses : Paths) → TrueEarlier (joined trues falses) → TrueEarlier (cond b trues falses)
unfolding true_first TrueEarlier
ordered_side true [] falses h = tt
ordered_side true (p ∷ trues) falses h =
    (λ q m. h.0 (true ∷ q) (joined_member true trues falses m), ordered_side true trues falses h.1)
ordered_side false [] [] h = tt
ordered_side false [] (p ∷ falses) h =
    (λ q m. h.0 (false ∷ q) (joined_member false [] falses m), ordered_side false [] falses h.1)
ordered_side false (p ∷ trues) falses h = ordered_side false trues falses h.1

-- If the paths of each side are in order, so are those of both.
ordered_joined : (trues falses : Paths) → TrueEarlier trues → TrueEarlier falses → TrueEarlier (joined trues falses)
unfolding true_first TrueEarlier
ordered_joined [] [] h k = tt
ordered_joined [] (p ∷ falses) h k =
    (λ q m. let r = Memᴰ.of_map _ _ m in rw (← r.2) (k.0 r.0 r.1), ordered_joined [] falses tt k.1)
ordered_joined (p ∷ trues) falses h k =
    (λ q m. let r = member_joined trues falses m in rw r.2 (later r.0 r.1 r.3), ordered_joined trues falses h.1 k)
  where
    later : (b : Bool) (q : List Bool) → Memᴰ q (cond b trues falses) → true_first (true ∷ p) (b ∷ q) ≡ true
    later true q m = h.0 q m
    later false q m = refl

-- By a choice that a state allows, and then by a walk from the target of that side, there is a walk from the state.
walk_on : (x : State) (on : ℕ → Paths) (b : Bool) {walk : List Bool}
    → allows x b ≡ true
    → Memᴰ walk (on (edge_on x b).target)
    → Memᴰ (b ∷ walk) (walks_of x on)
unfolding allows edge_on walks_of
walk_on stop on b a m = clash a refl
walk_on (step e) on true a m = clash a refl
walk_on (step e) on false a m = joined_member false [] _ m
walk_on (test k l r e f) on true a m = joined_member true _ (on f.target) m
walk_on (test k l r e f) on false a m = joined_member false (on e.target) _ m

-- Every walk from a state that is no stop goes on so.
walk_goes : (x : State) (on : ℕ → Paths) {walk : List Bool}
    → is_stop x ≡ false
    → Memᴰ walk (walks_of x on)
    → (b : Bool) × (rest : List Bool) × (walk ≡ b ∷ rest) × (allows x b ≡ true) × Memᴰ rest (on (edge_on x b).target)
unfolding is_stop allows edge_on walks_of
walk_goes stop on h m = clash refl h
walk_goes (step e) on h m = let r = Memᴰ.of_map _ _ m in (false, r.0, sym r.2, refl, r.1)
walk_goes (test k l r e f) on h m =
    let g = member_joined (on e.target) (on f.target) m in
    (g.0, g.1, g.2, refl, rw (← side g.0) g.3)
  where
    side : (b : Bool) → cond b (on e.target) (on f.target) ≡ on (cond b e f).target
    side true = refl
    side false = refl

-- From a state there is the walk without a choice, or the state allows false.
ends_or_goes : (x : State) (on : ℕ → Paths) → Memᴰ [] (walks_of x on) ⊎ (allows x false ≡ true)
unfolding allows walks_of
ends_or_goes stop on = inl (Memᴰ.head refl)
ends_or_goes (step e) on = inr refl
ends_or_goes (test k l r e f) on = inr refl

-- Each walkable path of at most n edges is the beginning of a walk of n edges, or shorter into a stop.
extended : (t : Table) (n s : ℕ) (p : List Bool)
    → walkable t s p ≡ true
    → length p ≤ n
    → (walk : List Bool) × Memᴰ walk (walks t n s) × (begins p walk ≡ true)
unfolding walkable walks begins
extended t zero s [] h k = ([], Memᴰ.head refl, refl)
extended t zero s (b ∷ p) h k = absurd (omega arith)
extended t (suc n) s [] h k =
    let r = extended t n (edge_on (t s) false).target [] refl (omega arith) in
    ⊎_elim
    (λ m. ([], m, refl))
    (λ a. (false ∷ r.0, walk_on (t s) (walks t n) false a r.1, refl))
    (ends_or_goes (t s) (walks t n))
extended t (suc n) s (b ∷ p) h k =
    let r = extended t n (edge_on (t s) b).target p (and_right (allows (t s) b) _ h) (omega arith) in
    (b ∷ r.0, walk_on (t s) (walks t n) b (and_left (allows (t s) b) _ h) r.1, and_both (beq_same b) r.2)

-- Paths are shared out at a state: it is no stop, those of a side that it allows are as asked at that side's target, and a side
-- that it bars has none.
record Shared (x : State) (asked : ℕ → Paths → Type 0) (trues falses : Paths) : Type 0 where
  moves : is_stop x ≡ false
  allowed : (b : Bool) → allows x b ≡ true → asked (edge_on x b).target (cond b trues falses)
  barred : (b : Bool) → allows x b ≡ false → cond b trues falses ≡ []

-- Where what is asked of the paths of a side gives something else, paths shared out by the one are shared out by the other.
shared_map : {x : State} {asked given : ℕ → Paths → Type 0} {trues falses : Paths}
    → ((b : Bool) → asked (edge_on x b).target (cond b trues falses) → given (edge_on x b).target (cond b trues falses))
    → Shared x asked trues falses
    → Shared x given trues falses
shared_map f h = record { moves = h.moves; allowed = λ b a. f b (h.allowed b a); barred = h.barred }

-- A list without members is empty.
no_path : (ps : Paths) → ((p : List Bool) → ¬ Memᴰ p ps) → ps ≡ []
no_path [] h = refl
no_path (p ∷ ps) h = absurd (h p (Memᴰ.head refl))

-- Covered paths of both sides are shared out, and those of each side are covered with one edge less.
covered_shared : (t : Table) (n s : ℕ) (trues falses : Paths)
    → is_stop (t s) ≡ false
    → Covered t (suc n) s (joined trues falses)
    → Shared (t s) (Covered t n) trues falses
unfolding walkable walks
covered_shared t n s trues falses moves c =
    record {
      moves = moves;
      allowed =
          λ b a. record {
            walked = λ p m. and_right (allows (t s) b) _ (walked b p m);
            ordered = ordered_side b trues falses c.ordered;
            once = λ walk m. sym (beginnings_joined b walk trues falses) ∙ c.once (b ∷ walk) (walk_on (t s) (walks t n) b a m);
          };
      barred = λ b a. no_path _ (λ p m. clash (and_left (allows (t s) b) _ (walked b p m)) a);
    }
  where
    walked : (b : Bool) (p : List Bool)
        → Memᴰ p (cond b trues falses)
        → (allows (t s) b && walkable t (edge_on (t s) b).target p) ≡ true
    walked b p m = c.walked (b ∷ p) (joined_member b trues falses m)

-- Paths that are shared out, those of each side covered with one edge less, are covered.
shared_covered : (t : Table) (n s : ℕ) (trues falses : Paths)
    → Shared (t s) (Covered t n) trues falses
    → Covered t (suc n) s (joined trues falses)
unfolding walkable walks TrueEarlier
shared_covered t n s trues falses h =
    record {
      walked = λ p m. let r = member_joined trues falses m in rw r.2 ((side r.0 _ refl).1 r.1 r.3);
      ordered = ordered_joined trues falses (side true _ refl).0 (side false _ refl).0;
      once =
          λ walk m. let r = walk_goes (t s) (walks t n) h.moves m in
          rw (r.2, beginnings_joined) ((h.allowed r.0 r.3).once r.1 r.4);
    }
  where
    side : (b a : Bool)
        → allows (t s) b ≡ a
        → TrueEarlier (cond b trues falses)
        × ((p : List Bool) → Memᴰ p (cond b trues falses) → (allows (t s) b && walkable t (edge_on (t s) b).target p) ≡ true)
    side b true a = ((h.allowed b a).ordered, λ p m. and_both a ((h.allowed b a).walked p m))
    side b false a = rw (h.barred b a) (tt, λ p m. absurd (Memᴰ.not-nil m))

-- Paths that all go on by false are what is left of them behind that choice.
falses_joined : (ps : Paths) → all_false ps ≡ true → joined [] (map tail ps) ≡ ps
unfolding all_false
falses_joined [] h = refl
falses_joined ([] ∷ ps) h = clash h refl
falses_joined ((true ∷ p) ∷ ps) h = clash h refl
falses_joined ((false ∷ p) ∷ ps) h = ap (λ qs. (false ∷ p) ∷ qs) (falses_joined ps h)

-- Paths of which the true ones come first are those of the two sides joined.
sides_joined : (ps : Paths) → all_false (behind ps) ≡ true → joined (true_side ps) (map tail (behind ps)) ≡ ps
unfolding true_side behind all_false
sides_joined [] h = refl
sides_joined ([] ∷ ps) h = clash h refl
sides_joined ((true ∷ p) ∷ ps) h = ap (λ qs. (true ∷ p) ∷ qs) (sides_joined ps h)
sides_joined ((false ∷ p) ∷ ps) h = falses_joined ((false ∷ p) ∷ ps) h

-- If all paths go on by false, none is on the true side.
no_trues : (ps : Paths) → all_false ps ≡ true → true_side ps ≡ []
unfolding true_side all_false
no_trues [] h = refl
no_trues ([] ∷ ps) h = refl
no_trues ((true ∷ p) ∷ ps) h = clash h refl
no_trues ((false ∷ p) ∷ ps) h = refl

-- If none is on the true side, all are behind.
all_behind : (ps : Paths) → true_side ps ≡ [] → behind ps ≡ ps
unfolding true_side behind
all_behind [] h = refl
all_behind ([] ∷ ps) h = refl
all_behind ((true ∷ p) ∷ ps) h = absurd (cons≢nil h)
all_behind ((false ∷ p) ∷ ps) h = refl

-- Where no path is empty and the paths are in order, the true ones come first.
falses_behind : (ps : Paths) → ¬ Memᴰ [] ps → TrueEarlier ps → all_false (behind ps) ≡ true
unfolding true_first TrueEarlier behind all_false
falses_behind [] none o = refl
falses_behind ([] ∷ ps) none o = absurd (none (Memᴰ.head refl))
falses_behind ((true ∷ p) ∷ ps) none o = falses_behind ps (λ m. none (Memᴰ.tail m)) o.1
falses_behind ((false ∷ p) ∷ ps) none o = later ps (λ m. none (Memᴰ.tail m)) o.0
  where
    later : (qs : Paths)
        → ¬ Memᴰ [] qs
        → ((q : List Bool) → Memᴰ q qs → true_first (false ∷ p) q ≡ true)
        → all_false qs ≡ true
    later [] none o = refl
    later ([] ∷ qs) none o = absurd (none (Memᴰ.head refl))
    later ((true ∷ q) ∷ qs) none o = clash (o (true ∷ q) (Memᴰ.head refl)) refl
    later ((false ∷ q) ∷ qs) none o = later qs (λ m. none (Memᴰ.tail m)) (λ q m. o q (Memᴰ.tail m))

-- The true paths come first, and the two sides pass a test where the state allows them.
abbrev Divided : State → (ℕ → Paths → Bool) → Paths → Type 0
Divided x on ps = (all_false (behind ps) ≡ true) × Shared x (λ s qs. on s qs ≡ true) (true_side ps) (map tail (behind ps))

-- After a step that has no true paths, all paths are on its false side.
step_allowed : (e : Edge) (on : ℕ → Paths → Bool) (ps : Paths)
    → on e.target (map tail ps) ≡ true
    → (b : Bool)
    → allows (step e) b ≡ true
    → on (edge_on (step e) b).target (cond b (true_side ps) (map tail ps)) ≡ true
unfolding is_stop edge_on allows
step_allowed e on ps h true a = clash a refl
step_allowed e on ps h false a = h

-- A step has no true paths where it has no true side.
step_barred : (e : Edge) (ps : Paths)
    → true_side ps ≡ []
    → (b : Bool)
    → allows (step e) b ≡ false
    → cond b (true_side ps) (map tail ps) ≡ []
unfolding is_stop edge_on allows
step_barred e ps none true a = none
step_barred e ps none false a = clash refl a

-- What holds on both sides of a test holds on each.
test_allowed : (e f : Edge) (on : ℕ → Paths → Bool) (trues falses : Paths)
    → on e.target trues ≡ true
    → on f.target falses ≡ true
    → (b : Bool)
    → on (cond b e f).target (cond b trues falses) ≡ true
test_allowed e f on trues falses first second true = first
test_allowed e f on trues falses first second false = second

-- Paths that pass the test at a state are divided so.
covers_of_divides : (x : State) (on : ℕ → Paths → Bool) (ps : Paths) → covers_of x on ps ≡ true → Divided x on ps
unfolding is_stop edge_on allows covers_of
covers_of_divides stop on ps h = clash h refl
covers_of_divides (step e) on ps h =
    let falses = and_left (all_false ps) _ h in
    let none = no_trues ps falses in
    rw (all_behind ps none) (
      falses,
      record {
        moves = refl;
        allowed = step_allowed e on ps (and_right (all_false ps) _ h);
        barred = step_barred e ps none;
      },
    )
covers_of_divides (test k l r e f) on ps h =
    let first = and_left (on e.target (true_side ps)) _ h in
    let later = and_right (on e.target (true_side ps)) _ h in (
      and_left (all_false (behind ps)) _ later,
      record {
        moves = refl;
        allowed = λ b a.
            test_allowed e f on (true_side ps) (map tail (behind ps)) first (and_right (all_false (behind ps)) _ later) b;
        barred = λ b a. clash refl a;
      },
    )

-- Divided paths pass the test at the state.
divided_covers_of : (x : State) (on : ℕ → Paths → Bool) (ps : Paths) → Divided x on ps → covers_of x on ps ≡ true
unfolding is_stop edge_on allows covers_of
divided_covers_of stop on ps h = clash refl h.1.moves
divided_covers_of (step e) on ps h =
    let all = all_behind ps (h.1.barred true refl) in
    and_both (rw all at h.0) (rw all at (h.1.allowed false refl))
divided_covers_of (test k l r e f) on ps h =
    and_both (h.1.allowed true refl) (and_both h.0 (h.1.allowed false refl))

-- The test for an empty list says that it is empty.
is_none_says : {A : Type 0} (l : List A) → (is_none l ≡ true) ↔ (l ≡ [])
unfolding is_none
is_none_says [] = (λ h. refl, λ h. refl)
is_none_says (a ∷ l) = (λ h. clash h refl, λ h. absurd (cons≢nil h))

-- The empty path alone covers every walk.
empty_covered : (t : Table) (n s : ℕ) (ps : Paths) → is_none ps ≡ true → Covered t n s ([] ∷ ps)
unfolding walkable begins beginnings tick TrueEarlier
empty_covered t n s ps h =
    rw ((is_none_says ps).0 h)
    (record {
      walked = λ p m. ap (walkable t s) (Memᴰ.eq_of_singleton m);
      ordered = (λ q m. absurd (Memᴰ.not-nil m), tt);
      once = λ walk m. refl;
    })

-- Paths that pass the test are covered.
pub covers_covered : (t : Table) (n s : ℕ) (ps : List (List Bool)) → covers t n s ps ≡ true → Covered t n s ps
unfolding covers
covers_covered t zero s [] h = clash h refl
covers_covered t zero s ([] ∷ ps) h = empty_covered t zero s ps h
covers_covered t zero s ((b ∷ p) ∷ ps) h = clash h refl
covers_covered t (suc n) s [] h = clash h refl
covers_covered t (suc n) s ([] ∷ ps) h = empty_covered t (suc n) s ps h
covers_covered t (suc n) s ((b ∷ p) ∷ ps) h =
    let d = covers_of_divides (t s) (covers t n) ((b ∷ p) ∷ ps) h in
    rw (sides_joined ((b ∷ p) ∷ ps) d.0)
    at (shared_covered t n s _ _ (shared_map (λ c. covers_covered t n (edge_on (t s) c).target _) d.1))

-- A walk that begins with a member of some paths begins with at least one of them.
member_begins : (walk : List Bool) (ps : Paths) {p : List Bool}
    → Memᴰ p ps
    → begins p walk ≡ true
    → 1 ≤ beginnings walk ps
unfolding beginnings tick
member_begins walk [] m h = absurd (Memᴰ.not-nil m)
member_begins walk (q ∷ ps) {p} m h =
    ⊎_elim
    (λ (e : p ≡ q). rw (ap (λ x. begins x walk) (sym e) ∙ h) (omega arith))
    (λ m'. more (begins q walk) _ (member_begins walk ps m' h))
    (Memᴰ.cases_cons m)
  where
    more : (b : Bool) (n : ℕ) → 1 ≤ n → 1 ≤ tick b n
    more true n k = omega arith
    more false n k = k

-- A walk that begins with exactly one of some paths begins with a member of them.
pub once_member : (walk : List Bool) (ps : List (List Bool))
    → beginnings walk ps ≡ 1
    → (p : List Bool) × Memᴰ p ps × (begins p walk ≡ true)
unfolding beginnings tick
once_member walk [] h = absurd (omega arith)
once_member walk (q ∷ ps) h = first (begins q walk) refl (once_member walk ps)
  where
    first : (b : Bool)
        → begins q walk ≡ b
        → (beginnings walk ps ≡ 1 → (p : List Bool) × Memᴰ p ps × (begins p walk ≡ true))
        → (p : List Bool) × Memᴰ p (q ∷ ps) × (begins p walk ≡ true)
    first true e later = (q, Memᴰ.head refl, e)
    first false e later = let r = later (rw e at h) in (r.0, Memᴰ.tail r.1, r.2)

-- No path is longer than n. 01: "Path: edges in the first (1..32)" (n is 32).
abbrev Short : ℕ → Paths → Type 0
Short n ps = (p : List Bool) → Memᴰ p ps → length p ≤ n

-- The paths of a side have one edge less than those of both.
short_side : (n : ℕ) (trues falses : Paths) → Short (suc n) (joined trues falses) → (b : Bool) → Short n (cond b trues falses)
short_side n trues falses short b p m = omega (arith, short (b ∷ p) (joined_member b trues falses m))

module _ (t : Table) (n s : ℕ) where
  -- Where paths are covered, no walk begins with the first of them and with a later one.
  never_two : (p : List Bool) (ps : Paths) {walk q : List Bool}
      → Covered t n s (p ∷ ps)
      → Memᴰ walk (walks t n s)
      → begins p walk ≡ true
      → Memᴰ q ps
      → begins q walk ≡ true
      → ⊥
  unfolding beginnings tick
  never_two p ps {walk} c m h k l =
      let one : suc (beginnings walk ps) ≡ 1 = rw h at (c.once walk m) in
      omega (arith, member_begins walk ps k l)

  -- Covered paths are not none.
  never_none : ¬ Covered t n s []
  unfolding walkable beginnings
  never_none c = let r = extended t n s [] refl (omega arith) in omega (arith, c.once r.0 r.1)

  -- A member of covered paths is the beginning of a walk.
  member_extended : (ps : Paths) {p : List Bool}
      → Short n ps
      → Covered t n s ps
      → Memᴰ p ps
      → (walk : List Bool) × Memᴰ walk (walks t n s) × (begins p walk ≡ true)
  member_extended ps {p} short c m = extended t n s p (c.walked p m) (short p m)

  -- If the first of covered paths is empty, it is alone.
  empty_alone : (ps : Paths) → Short n ([] ∷ ps) → Covered t n s ([] ∷ ps) → is_none ps ≡ true
  unfolding begins
  empty_alone ps short c = (is_none_says ps).1 (no_path ps two)
    where
      two : (p : List Bool) → ¬ Memᴰ p ps
      two p m = let r = member_extended ([] ∷ ps) short c (Memᴰ.tail m) in never_two [] ps c r.1 refl m r.2

  -- If the first of covered paths is not empty, none is.
  none_empty : (b : Bool) (p : List Bool) (ps : Paths)
      → Short n ((b ∷ p) ∷ ps)
      → Covered t n s ((b ∷ p) ∷ ps)
      → ¬ Memᴰ [] ((b ∷ p) ∷ ps)
  unfolding begins
  none_empty b p ps short c m =
      let r = member_extended ((b ∷ p) ∷ ps) short c (Memᴰ.head refl) in
      ⊎_elim
      (λ e. cons≢nil (sym e))
      (λ m'. never_two (b ∷ p) ps c r.1 r.2 m' refl)
      (Memᴰ.cases_cons m)

-- Covered paths of at most n edges pass the test.
pub covered_covers : (t : Table) (n s : ℕ) (ps : List (List Bool))
    → ((p : List Bool) → Memᴰ p ps → length p ≤ n)
    → Covered t n s ps
    → covers t n s ps ≡ true
unfolding walkable covers
covered_covers t zero s [] short c = absurd (never_none t zero s c)
covered_covers t zero s ([] ∷ ps) short c = empty_alone t zero s ps short c
covered_covers t zero s ((b ∷ p) ∷ ps) short c = absurd (omega (arith, short _ (Memᴰ.head refl)))
covered_covers t (suc n) s [] short c = absurd (never_none t (suc n) s c)
covered_covers t (suc n) s ([] ∷ ps) short c = empty_alone t (suc n) s ps short c
covered_covers t (suc n) s ((b ∷ p) ∷ ps) short c =
    let qs = (b ∷ p) ∷ ps in
    let trues = true_side qs in
    let falses = map tail (behind qs) in
    let divided = falses_behind qs (none_empty t (suc n) s b p ps short c) c.ordered in
    let whole : joined trues falses ≡ qs = sides_joined qs divided in
    let moves = allows_goes (t s) b (and_left (allows (t s) b) _ (c.walked _ (Memᴰ.head refl))) in
    let shared = covered_shared t n s trues falses moves (rw whole c) in
    let shorter = short_side n trues falses (rw whole short) in
    let passed = shared_map (λ a. covered_covers t n (edge_on (t s) a).target _ (shorter a)) shared in
    divided_covers_of (t s) (covers t n) qs (divided, passed)

-- The test of rule 11 says what rule 11 says.
pub rule11_says : (t : Table) (n s : ℕ) (ps : List (List Bool))
    → ((p : List Bool) → Memᴰ p ps → length p ≤ n)
    → (rule11 t n s ps ≡ true) ↔ Rule11 t n s ps
unfolding rule11 Rule11
rule11_says t n s ps short = at_stop (is_stop (t s))
  where
    at_stop : (b : Bool)
        → (cond b (is_none ps) (covers t n s ps) ≡ true) ↔ (((b ≡ true) × (ps ≡ [])) ⊎ ((b ≡ false) × Covered t n s ps))
    at_stop true =
        (λ h. inl (refl, (is_none_says ps).0 h), ⊎_elim (λ h. (is_none_says ps).1 h.1) (λ h. clash refl h.0))
    at_stop false = (
      λ h. inr (refl, covers_covered t n s ps h),
      ⊎_elim (λ h. clash h.0 refl) (λ h. covered_covers t n s ps short h.1),
    )
