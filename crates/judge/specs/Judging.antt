-- What the answers of this crate stand for, what its functions are handed, and rules 16 to 19 on the sides as the code holds them.
-- Assumes nothing.
use Rattle.std.specs.Prelude.{ℕ, Bool, ◌≡◌, true, false, List, [], ◌∷◌, map, Result, Ok, Err}
use Rattle.model.specs.Answer as Model
use Rattle.model.specs.Answer.{Fault, number_of, sound, ◌then◌, first_of, up_to, so, check, not_assured, reads_differ, writes_differ, link_not_kept}
use Rattle.model.specs.Table.{table_of}
use Rattle.model.specs.Path.{rule11}
use Rattle.model.specs.Correspondence.{path_at, pair_at}
use Rattle.model.specs.Judgement.{judge_path, judge_pair, judgement}
use Rattle.model.specs.Word.{base}
use Rattle.fault.specs.Fault.{reason_of, checked_of}
use Rattle.fault.specs.declared.Reason.{Reason}
use Rattle.fault.specs.declared.Fault as declared
use Rattle.condition.specs.Conditions.{conditions_of, assured_in}
use Rattle.side.specs.declared.Side.{Side}
use Rattle.rules.specs.Rules.{same_reads_in, same_writes_in, keeps_all_in}
use Rattle.judge.specs.declared.Answer.{Answer}
use Rattle.judge.specs.declared.images.Images.{Images}
use Rattle.judge.specs.declared.images.PairOf.{PairOf}
use Rattle.judge.specs.declared.images.PathOf.{PathOf}

-- An answer from its parts.
unfoldable pub parts_of : ℕ → ℕ → ℕ → Answer
parts_of n k i = record { number = n; image = k; «record» = i }

-- The model's answer with the code's fields.
unfoldable pub answer_of : Model.Answer → Answer
answer_of a = parts_of a.number a.image a.«record»

-- The answer where a fault is found in an image.
unfoldable pub refused_of : declared.Fault → ℕ → Answer
refused_of f k = parts_of (number_of (reason_of f.reason)) k f.«record»

-- What a check answers in the code.
abbrev pub Checked : Type 0
Checked = Result (Unit {0}) declared.Fault

-- What is found at a record where a rule is kept, or broken.
unfoldable pub found_of : Bool → Reason → ℕ → Checked
found_of true n i = Ok tt
found_of false n i = Err (record { reason = n; «record» = i })

-- Whether a path is marked impossible.
abbrev pub marked : PathOf → Bool
marked q = (path_at q.pair.images.list.now q.j).impossible

-- What is found of a path, as the code answers it.
abbrev pub path_found : PathOf → Checked
path_found q =
    let images = q.pair.images in
    let list = images.list.now in
    checked_of
    (judge_path
    base
    (table_of images.first.now)
    (table_of images.second.now)
    (pair_at list)
    (pair_at list q.pair.i)
    (path_at list q.j))

-- Rule 11 holds of a pair.
abbrev pub Covered : PairOf → Type 0
Covered p =
    let here = pair_at p.images.list.now p.i in
    rule11 (table_of p.images.first.now) 32 here.first (map (λ q. q.first) here.paths) ≡ true

-- What is found of the paths of a pair, in order.
abbrev pub paths_found : PairOf → Checked
paths_found p =
    let list = p.images.list.now in
    checked_of
    (first_of
    (judge_path
    base
    (table_of p.images.first.now)
    (table_of p.images.second.now)
    (pair_at list)
    (pair_at list p.i))
    (pair_at list p.i).paths)

-- What is found of a pair.
abbrev pub pair_found : PairOf → Checked
pair_found p =
    let list = p.images.list.now in
    checked_of
    (judge_pair base (table_of p.images.first.now) (table_of p.images.second.now) (pair_at list) p.i)

-- What is found of all pairs.
abbrev pub pairs_found : Images → Checked
pairs_found images = checked_of (judgement base images.first.now images.second.now images.list.now)

-- Rules 16 to 19 on two sides, for path j that leads to a pair with n links from number i on, where the links begin at a place.
unfoldable pub sides_in : List ℕ → ℕ → ℕ → ℕ → ℕ → Side → Side → Fault
sides_in list at i n j a b =
    check not_assured j (so (assured_in (conditions_of a.conditions) (conditions_of b.conditions)) ∷ [])
    then check reads_differ j (so (same_reads_in a.reads b.reads) ∷ [])
    then check writes_differ j (so (same_writes_in a.writes b.writes) ∷ [])
    then check link_not_kept j (so (keeps_all_in list at i n a.env b.env) ∷ [])
