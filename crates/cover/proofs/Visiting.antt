-- The walk that consumes the paths says what the test of rule 11 says, both ways. Assumes nothing.
use Prim.Native.Nat.{ℕ, zero, suc}
use mathlib.Core.Path.{◌≡◌, refl, sym, ◌∙◌, ap}
use mathlib.Core.Logic.{◌↔◌}
use mathlib.Core.Bool.{Bool, true, false, cond, ◌&&◌, beq}
use mathlib.Core.List.{List, [], ◌∷◌, ◌++◌, map, tail, append_assoc, map-append}
use Rattle.std.specs.Prelude.{Option, Some, None}
use native.Mathlib.Omega.{arith}
use Rattle.model.specs.Table.{State, stop, step, test, Table}
use Rattle.model.specs.Path.{is_none, true_side, behind, all_false, covers_of, covers, rule11}
use Rattle.model.proofs.Basics.{clash, and_left, and_right, and_both, beq_same, beq_true, same_tests}
use Rattle.cover.specs.Visit.{after, Standing, away, ends, goes_on, stands_by, standing, visit_by, onward, visit_of, visit, consumed, covered_by}

-- Paths by their choices.
abbrev Paths : Type 0
Paths = List (List Bool)

-- Paths with the choices that led to them put in front.
abbrev from : List Bool → Paths → Paths
from led qs = map (λ q. led ++ q) qs

-- A walk, with n edges left, as it goes on below a state.
abbrev Walk : Type 0
Walk = ℕ → List Bool → Paths → Option Paths

-- A path that begins with some choices is those and the rest.

after_front : (led q : List Bool) → after led (led ++ q) ≡ Some q
unfolding after
after_front [] q = refl
after_front (b ∷ led) q = rw (beq_same b) (after_front led q)

after_says : (led p : List Bool) {q : List Bool} → after led p ≡ Some q → p ≡ led ++ q
unfolding after
after_says [] p h = cc
after_says (b ∷ led) [] h = absurd (let z : ◌≡◌ {A = ℕ} 0 1 = cc in omega arith)
after_says (b ∷ led) (c ∷ p) {q} h = by (beq b c) refl (after_says led p) h
  where
    by : (a : Bool)
        → beq b c ≡ a
        → (after led p ≡ Some q → p ≡ led ++ q)
        → cond a (after led p) None ≡ Some q
        → (c ∷ p) ≡ (b ∷ led) ++ q
    by true e later h =
        let p' : p ≡ led ++ q = later h in
        let b' : b ≡ c = beq_true b c e in
        cc
    by false e later h = absurd (let z : ◌≡◌ {A = ℕ} 0 1 = cc in omega arith)

-- One choice more in front.

from_cons : (b : Bool) (led : List Bool) (qs : Paths) → from led (map (λ q. b ∷ q) qs) ≡ from (led ++ (b ∷ [])) qs
from_cons b led [] = refl
from_cons b led (q ∷ qs) =
    let e : led ++ (b ∷ q) ≡ (led ++ (b ∷ [])) ++ q = sym (append_assoc led (b ∷ []) q) in
    let f : from led (map (λ q. b ∷ q) qs) ≡ from (led ++ (b ∷ [])) qs = from_cons b led qs in
    λ i. e i ∷ f i

from_falses : (led : List Bool) (qs : Paths) → all_false qs ≡ true → from led qs ≡ from (led ++ (false ∷ [])) (map tail qs)
unfolding all_false
from_falses led [] h = refl
from_falses led ([] ∷ qs) h = clash h refl
from_falses led ((true ∷ q) ∷ qs) h = clash h refl
from_falses led ((false ∷ q) ∷ qs) h =
    let e : led ++ (false ∷ q) ≡ (led ++ (false ∷ [])) ++ q = sym (append_assoc led (false ∷ []) q) in
    let f = from_falses led qs h in
    λ i. e i ∷ f i

from_sides : (led : List Bool) (qs : Paths) → from led qs ≡ from (led ++ (true ∷ [])) (true_side qs) ++ from led (behind qs)
unfolding true_side behind
from_sides led [] = refl
from_sides led ([] ∷ qs) = refl
from_sides led ((true ∷ q) ∷ qs) =
    let e : led ++ (true ∷ q) ≡ (led ++ (true ∷ [])) ++ q = sym (append_assoc led (true ∷ []) q) in
    let f = from_sides led qs in
    λ i. e i ∷ f i
from_sides led ((false ∷ q) ∷ qs) = refl

-- An empty list.
none_is : {A : Type 0} (l : List A) → is_none l ≡ true → l ≡ []
unfolding is_none
none_is [] h = refl
none_is (a ∷ l) h = clash h refl

-- Paths that pass the test are consumed, and no other.

-- The walk on consumes what passes the test on.
abbrev Consumes : (ℕ → Paths → Bool) → Walk → Type 0
Consumes on walk = (s : ℕ) (led : List Bool) (qs rest : Paths) → on s qs ≡ true → walk s led (from led qs ++ rest) ≡ Some rest

consumes_below : (x : State) (on : ℕ → Paths → Bool) (walk : Walk) → Consumes on walk → (led : List Bool) (qs rest : Paths)
    → covers_of x on qs ≡ true
    → visit_of x walk led (from led qs ++ rest) ≡ Some rest
unfolding covers_of visit_of onward
consumes_below stop on walk c led qs rest h = clash h refl
consumes_below (step e) on walk c led qs rest h =
    rw (from_falses led qs (and_left (all_false qs) _ h)) (c e.target (led ++ (false ∷ [])) (map tail qs) rest (and_right (all_false qs) _ h))
consumes_below (test k l r e f) on walk c led qs rest h =
    let later = and_right (on e.target (true_side qs)) _ h in
    let whole : from led qs ++ rest ≡ from (led ++ (true ∷ [])) (true_side qs) ++ (from (led ++ (false ∷ [])) (map tail (behind qs)) ++ rest) =
    ap (λ l. l ++ rest) (from_sides led qs ∙ ap (λ l. from (led ++ (true ∷ [])) (true_side qs) ++ l) (from_falses led (behind qs) (and_left (all_false (behind qs)) _ later)))
    ∙ append_assoc (from (led ++ (true ∷ [])) (true_side qs)) (from (led ++ (false ∷ [])) (map tail (behind qs))) rest
    in
    let first = c e.target (led ++ (true ∷ [])) (true_side qs) (from (led ++ (false ∷ [])) (map tail (behind qs)) ++ rest) (and_left (on e.target (true_side qs)) _ h) in
    let second = c f.target (led ++ (false ∷ [])) (map tail (behind qs)) rest (and_right (all_false (behind qs)) _ later) in
    rw (whole, first) second

-- A path that ends at the node stands there so.
ends_there : (led : List Bool) (ps : Paths) → standing led ((led ++ []) ∷ ps) ≡ ends ps
unfolding standing stands_by
ends_there led ps = rw (after_front led [])

-- And one that goes on.
goes_there : (led : List Bool) (b : Bool) (q : List Bool) (ps : Paths) → standing led ((led ++ (b ∷ q)) ∷ ps) ≡ goes_on
unfolding standing stands_by
goes_there led b q ps = rw (after_front led (b ∷ q))

pub covers_visit : (t : Table) (n s : ℕ) (led : List Bool) (qs rest : List (List Bool))
    → covers t n s qs ≡ true
    → visit t n s led (map (λ q. led ++ q) qs ++ rest) ≡ Some rest
unfolding covers visit visit_by
covers_visit t zero s led [] rest h = clash h refl
covers_visit t zero s led ([] ∷ qs) rest h = rw (none_is qs h, ends_there led rest)
covers_visit t zero s led ((b ∷ q) ∷ qs) rest h = clash h refl
covers_visit t (suc n) s led [] rest h = clash h refl
covers_visit t (suc n) s led ([] ∷ qs) rest h = rw (none_is qs h, ends_there led rest)
covers_visit t (suc n) s led ((b ∷ q) ∷ qs) rest h =
    rw (goes_there led b q (from led qs ++ rest))
    (consumes_below (t s) (covers t n) (visit t n) (covers_visit t n) led ((b ∷ q) ∷ qs) rest h)

-- What a walk consumed: the paths, less the choices that led to the node, pass the test.
pub record Consumed (on : ℕ → List (List Bool) → Bool) (s : ℕ) (led : List Bool) (ps rest : List (List Bool)) : Type 0 where
  pub paths : List (List Bool)
  pub whole : ps ≡ map (λ q. led ++ q) paths ++ rest
  pub passed : on s paths ≡ true

-- A walk that goes on says so of each node.
abbrev Says : (ℕ → Paths → Bool) → Walk → Type 0
Says on walk = (s : ℕ) (led : List Bool) (ps rest : Paths) → walk s led ps ≡ Some rest → Consumed on s led ps rest

-- Paths that go on by one choice.

falses_all : (qs : Paths) → all_false (map (λ q. false ∷ q) qs) ≡ true
unfolding all_false
falses_all [] = refl
falses_all (q ∷ qs) = falses_all qs

tails : (b : Bool) (qs : Paths) → map tail (map (λ q. b ∷ q) qs) ≡ qs
tails b [] = refl
tails b (q ∷ qs) = ap (λ l. q ∷ l) (tails b qs)

falses_true_side : (falses : Paths) → true_side (map (λ q. false ∷ q) falses) ≡ []
unfolding true_side
falses_true_side [] = refl
falses_true_side (q ∷ falses) = refl

falses_behind : (falses : Paths) → behind (map (λ q. false ∷ q) falses) ≡ map (λ q. false ∷ q) falses
unfolding behind
falses_behind [] = refl
falses_behind (q ∷ falses) = refl

sides_true : (trues falses : Paths) → true_side (map (λ q. true ∷ q) trues ++ map (λ q. false ∷ q) falses) ≡ trues
unfolding true_side
sides_true [] falses = falses_true_side falses
sides_true (q ∷ trues) falses = ap (λ l. q ∷ l) (sides_true trues falses)

sides_behind : (trues falses : Paths)
    → behind (map (λ q. true ∷ q) trues ++ map (λ q. false ∷ q) falses) ≡ map (λ q. false ∷ q) falses
unfolding behind
sides_behind [] falses = falses_behind falses
sides_behind (q ∷ trues) falses = sides_behind trues falses

-- What the true side left over, and that the false side goes on with it.
onward_says : (first : Option Paths) (on : Paths → Option Paths) {rest : Paths}
    → onward first on ≡ Some rest
    → (mid : Paths) × (first ≡ Some mid) × (on mid ≡ Some rest)
unfolding onward
onward_says None on h = absurd (let z : ◌≡◌ {A = ℕ} 0 1 = cc in omega arith)
onward_says (Some mid) on h = (mid, refl, h)

-- The paths of a test's two sides, each consumed in its turn.
tested : (on : ℕ → Paths → Bool) (s u : ℕ) (led : List Bool) (ps mid rest : Paths)
    → Consumed on s (led ++ (true ∷ [])) ps mid
    → Consumed on u (led ++ (false ∷ [])) mid rest
    → Consumed (λ x qs. on s (true_side qs) && (all_false (behind qs) && on u (map tail (behind qs)))) 0 led ps rest
tested on s u led ps mid rest v w =
    let trues = v.paths in
    let falses = w.paths in
    record {
      paths = map (λ q. true ∷ q) trues ++ map (λ q. false ∷ q) falses;
      whole =
          v.whole
          ∙ ap (λ l. from (led ++ (true ∷ [])) trues ++ l) w.whole
          ∙ sym (append_assoc (from (led ++ (true ∷ [])) trues) (from (led ++ (false ∷ [])) falses) rest)
          ∙ sym
          (ap (λ l. l ++ rest)
          (map-append (λ q. led ++ q) (map (λ q. true ∷ q) trues) (map (λ q. false ∷ q) falses)
          ∙ (λ i. from_cons true led trues i ++ from_cons false led falses i)));
      passed =
          rw (sides_true trues falses, sides_behind trues falses, tails false falses)
          (and_both v.passed (and_both (falses_all falses) w.passed));
    }

-- Below a state the walk says so too.
says_below : (x : State) (on : ℕ → Paths → Bool) (walk : Walk) → Says on walk → (led : List Bool) (ps rest : Paths)
    → visit_of x walk led ps ≡ Some rest
    → Consumed (λ s. covers_of x on) 0 led ps rest
unfolding covers_of visit_of
says_below stop on walk c led ps rest h = absurd (let z : ◌≡◌ {A = ℕ} 0 1 = cc in omega arith)
says_below (step e) on walk c led ps rest h =
    let v = c e.target (led ++ (false ∷ [])) ps rest h in
    record {
      paths = map (λ q. false ∷ q) v.paths;
      whole = v.whole ∙ ap (λ l. l ++ rest) (sym (from_cons false led v.paths));
      passed = and_both (falses_all v.paths) (ap (on e.target) (tails false v.paths) ∙ v.passed);
    }
says_below (test k l r e f) on walk c led ps rest h =
    let o = onward_says (walk e.target (led ++ (true ∷ [])) ps) (walk f.target (led ++ (false ∷ []))) h in
    let v = c e.target (led ++ (true ∷ [])) ps o.0 o.1 in
    let w = c f.target (led ++ (false ∷ [])) o.0 rest o.2 in
    tested on e.target f.target led ps o.0 rest v w

-- No path is no cover.
covers_none : (t : Table) (n s : ℕ) → covers t n s [] ≡ false
unfolding covers
covers_none t zero s = refl
covers_none t (suc n) s = refl

-- Paths that are shared out below a state are covered from it: there is one, and it does not end there.
below_covers : (t : Table) (n s : ℕ) (qs : Paths) → covers_of (t s) (covers t n) qs ≡ true → covers t (suc n) s qs ≡ true
unfolding covers covers_of true_side all_false
below_covers t n s [] h = absurd (never (t s) h)
  where
    never : (x : State) → covers_of x (covers t n) [] ≡ true → ⊥
    never stop h = clash h refl
    never (step e) h = clash (and_right (all_false []) _ h) (covers_none t n e.target)
    never (test k l r e f) h = clash (and_left (covers t n e.target []) _ h) (covers_none t n e.target)
below_covers t n s ([] ∷ qs) h = absurd (never (t s) h)
  where
    never : (x : State) → covers_of x (covers t n) ([] ∷ qs) ≡ true → ⊥
    never stop h = clash h refl
    never (step e) h = clash h refl
    never (test k l r e f) h = clash (and_left (covers t n e.target []) _ h) (covers_none t n e.target)
below_covers t n s ((b ∷ q) ∷ qs) h = h

-- The path that is left alone at a node is covered there.
alone_covers : (t : Table) (n s : ℕ) → covers t n s ([] ∷ []) ≡ true
unfolding covers is_none
alone_covers t zero s = refl
alone_covers t (suc n) s = refl

-- Where the first path ends at the node, it is the choices that led there.
ends_says : (led : List Bool) (ps rest : Paths) → standing led ps ≡ ends rest → ps ≡ (led ++ []) ∷ rest
unfolding standing stands_by
ends_says led [] rest h = absurd (let z : ◌≡◌ {A = ℕ} 0 1 = cc in omega arith)
ends_says led (p ∷ ps) rest h = by (after led p) refl h
  where
    by : (q : Option (List Bool)) → after led p ≡ q → stands_by q ps ≡ ends rest → (p ∷ ps) ≡ (led ++ []) ∷ rest
    by None e h = absurd (let z : ◌≡◌ {A = ℕ} 0 1 = cc in omega arith)
    by (Some []) e h =
        let front : p ≡ led ++ [] = after_says led p e in
        let same : ps ≡ rest = cc in
        λ i. front i ∷ same i
    by (Some (b ∷ q)) e h = absurd (let z : ◌≡◌ {A = ℕ} 0 1 = cc in omega arith)

-- What a walk consumed at a node: the path that ends there, or what the walk below consumed.
visit_by_says : (t : Table) (n s : ℕ) (led : List Bool) (ps rest : Paths) (x : Standing) (below : Option Paths)
    → standing led ps ≡ x
    → visit_by x below ≡ Some rest
    → (below ≡ Some rest → Consumed (covers t n) s led ps rest)
    → Consumed (covers t n) s led ps rest
unfolding visit_by
visit_by_says t n s led ps rest away below e h k = absurd (let z : ◌≡◌ {A = ℕ} 0 1 = cc in omega arith)
visit_by_says t n s led ps rest (ends left) below e h k =
    let same : left ≡ rest = cc in
    record {
      paths = [] ∷ [];
      whole = ends_says led ps rest (e ∙ ap ends same);
      passed = alone_covers t n s;
    }
visit_by_says t n s led ps rest goes_on below e h k = k h

pub visit_covers : (t : Table) (n s : ℕ) (led : List Bool) (ps rest : List (List Bool))
    → visit t n s led ps ≡ Some rest
    → Consumed (covers t n) s led ps rest
unfolding visit
visit_covers t zero s led ps rest h =
    visit_by_says t zero s led ps rest (standing led ps) None refl h
    (λ z. absurd (let z : ◌≡◌ {A = ℕ} 0 1 = cc in omega arith))
visit_covers t (suc n) s led ps rest h =
    visit_by_says t (suc n) s led ps rest (standing led ps) (visit_of (t s) (visit t n) led ps) refl h
    (λ k. let v = says_below (t s) (covers t n) (visit t n) (visit_covers t n) led ps rest k in
    record { paths = v.paths; whole = v.whole; passed = below_covers t n s v.paths v.passed })

-- From the root the choices that led are none.
from_none : (qs : Paths) → from [] qs ++ [] ≡ qs
from_none [] = refl
from_none (q ∷ qs) = ap (λ l. q ∷ l) (from_none qs)

-- The walk from a state consumes exactly the paths that pass the test.
pub visit_says : (t : Table) (n s : ℕ) (ps : List (List Bool)) → (visit t n s [] ps ≡ Some []) ↔ (covers t n s ps ≡ true)
visit_says t n s ps = (
  λ h. let v = visit_covers t n s [] ps [] h in
      ap (covers t n s) (v.whole ∙ from_none v.paths) ∙ v.passed,
  λ h. ap (visit t n s []) (sym (from_none ps)) ∙ covers_visit t n s [] ps [] h,
)

-- All paths are consumed where none is left over.
consumed_says : (v : Option Paths) → (consumed v ≡ true → v ≡ Some []) × (v ≡ Some [] → consumed v ≡ true)
unfolding consumed is_none
consumed_says None = (λ h. clash h refl, λ h. absurd (let z : ◌≡◌ {A = ℕ} 0 1 = cc in omega arith))
consumed_says (Some []) = (λ h. refl, λ h. refl)
consumed_says (Some (p ∷ ps)) = (λ h. clash h refl, λ h. absurd (let z : ◌≡◌ {A = ℕ} 0 1 = cc in omega arith))

-- The test of rule 11 is whether the walk consumes all paths.
pub covers_consumed : (t : Table) (n s : ℕ) (ps : List (List Bool)) → covers t n s ps ≡ consumed (visit t n s [] ps)
covers_consumed t n s ps =
    same_tests (covers t n s ps) (consumed (visit t n s [] ps))
    (λ h. (consumed_says (visit t n s [] ps)).1 ((visit_says t n s ps).1 h))
    (λ h. (visit_says t n s ps).0 ((consumed_says (visit t n s [] ps)).0 h))

-- Rule 11 as the verdict computes it is rule 11 by the walk.
pub rule11_walk : (t : Table) (n s : ℕ) (ps : List (List Bool)) → rule11 t n s ps ≡ covered_by t n s ps
unfolding rule11 covered_by
rule11_walk t n s ps = rw (covers_consumed t n s ps)
