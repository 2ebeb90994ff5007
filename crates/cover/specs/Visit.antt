-- Rule 11 by a walk of the tree of choices that consumes the pair's paths in their order. A node of the tree is a state and the
-- choices that led to it. 01: "where two first differ, the true one is listed earlier; and every walk of 32 edges, or shorter into
-- a stop, begins with exactly one of them, compared by choices". Assumes nothing.
use Rattle.std.specs.Prelude.{ℕ, zero, suc, Bool, true, false, cond, List, [], ◌∷◌, ◌++◌, Option, Some, None}
use Rattle.std.specs.Bool.{beq}
use Rattle.model.specs.Table.{State, stop, step, test, Table}
use Rattle.model.specs.Run.{is_stop}
use Rattle.model.specs.Path.{is_none}

-- What is left of a path behind the choices with which it begins; nothing where it begins otherwise.
unfoldable pub after : List Bool → List Bool → Option (List Bool)
after [] path = Some path
after (b ∷ led) [] = None
after (b ∷ led) (c ∷ path) =
    let rest = after led path in
    cond (beq b c) rest None

-- What the first of the paths does at a node: it does not come there, it ends there with the paths behind it left over, or it goes on.
pub data Standing : Type 0 where
  away : Standing
  ends : List (List Bool) → Standing
  goes_on : Standing

-- The same by what is left of that path there.
unfoldable pub stands_by : Option (List Bool) → List (List Bool) → Standing
stands_by None ps = away
stands_by (Some []) ps = ends ps
stands_by (Some (b ∷ rest)) ps = goes_on

-- What the first of the paths does at the node to which the choices led.
unfoldable pub standing : List Bool → List (List Bool) → Standing
standing led [] = away
standing led (p ∷ ps) = stands_by (after led p) ps

-- Where the first path ends at a node it is consumed; where it does not come there the walk fails; else the walk goes below.
unfoldable pub visit_by : Standing → Option (List (List Bool)) → Option (List (List Bool))
visit_by away below = None
visit_by (ends ps) below = Some ps
visit_by goes_on below = below

-- The false side with the paths that the true side left over.
unfoldable pub onward : Option (List (List Bool)) → (List (List Bool) → Option (List (List Bool))) → Option (List (List Bool))
onward None on = None
onward (Some ps) on = on ps

-- The walk below a state: none below a stop, by false below a step, and below a test by true and then by false.
unfoldable pub visit_of : State → (ℕ → List Bool → List (List Bool) → Option (List (List Bool))) → List Bool → List (List Bool) → Option (List (List Bool))
visit_of stop on led ps = None
visit_of (step e) on led ps = on e.target (led ++ (false ∷ [])) ps
visit_of (test k l r e f) on led ps =
    onward (on e.target (led ++ (true ∷ [])) ps) (on f.target (led ++ (false ∷ [])))

-- The walk from state s with n edges left, to which the choices led: the paths left over, or nothing where it fails.
unfoldable pub visit : Table → ℕ → ℕ → List Bool → List (List Bool) → Option (List (List Bool))
visit t zero s led ps = visit_by (standing led ps) None
visit t (suc n) s led ps = visit_by (standing led ps) (visit_of (t s) (visit t n) led ps)

-- Whether a walk has consumed all paths.
unfoldable pub consumed : Option (List (List Bool)) → Bool
consumed None = false
consumed (Some ps) = is_none ps

-- Rule 11 by the walk; "a pair of two stops must have no path, and is then covered".
unfoldable pub covered_by : Table → ℕ → ℕ → List (List Bool) → Bool
covered_by t n s paths = cond (is_stop (t s)) (is_none paths) (consumed (visit t n s [] paths))
