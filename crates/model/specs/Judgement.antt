-- The judgement: rules 10 to 19, and the verdict on three images. 01, "What the program answers". Assumes nothing.
use Rattle.std.specs.Prelude.{ℕ, ◌+◌, Bool, true, false, cond, not, ◌&&◌, ◌||◌, List, [], ◌∷◌, map, eqb, length, get_or}
use Rattle.std.specs.Bool.{beq}
use Rattle.std.proofs.Math.Option.{Option, none, some}
use Rattle.model.specs.Answer.{Answer, accepted, Fault, broken, ◌then◌, first_of, up_to, check, le, so, in_image, stops_differ, not_covered, does_not_follow, over_size, over_tests, no_contradiction, not_assured, reads_differ, writes_differ, link_not_kept}
use Rattle.model.specs.Word.{base, wrap, Kind, equal, kind_number, holds}
use Rattle.model.specs.Table.{Table, table_of, table_fault, states}
use Rattle.model.specs.Run.{reads, writes, is_stop, each_port}
use Rattle.model.specs.Sum.{Sum, empty, symbol_sum, same_sum, same, Outcome, too_large, fits}
use Rattle.model.specs.Path.{is_none, walkable, end_state, rule11, Condition, Side, side, follow}
use Rattle.model.specs.Correspondence.{Link, Path, Pair, pairs, pair_at, list_fault}

-- The constant that a sum is, as a word, where it is one: "the empty sum is the constant 0".
unfoldable pub constant_of : ℕ → Sum → Option ℕ
constant_of w [] = some 0
constant_of w (t ∷ []) = cond (is_none t.symbols) (some (wrap w t.coefficient)) none
constant_of w (t ∷ u ∷ s) = none

-- Whether two kinds are the same.
unfoldable pub same_kind : Kind → Kind → Bool
same_kind k l = eqb (kind_number k) (kind_number l)

-- What a condition's test comes to whatever the words are: "constant when both sums are constants, worked out on words, or when both
-- are the same sum: equal is then true and less false". An open one comes to nothing.
unfoldable pub settled_by : ℕ → Kind → Option ℕ → Option ℕ → Bool → Option Bool
settled_by w k none c alike = cond alike (some (same_kind k equal)) none
settled_by w k (some a) none alike = cond alike (some (same_kind k equal)) none
settled_by w k (some a) (some b) alike = some (holds w k a b)

-- What a condition comes to whatever the words are.
unfoldable pub settled : ℕ → Condition → Option Bool
settled w c = settled_by w c.kind (constant_of w c.left) (constant_of w c.right) (same_sum c.left c.right)

-- Whether that is the given side.
unfoldable pub settled_as : Bool → Option Bool → Bool
settled_as b none = false
settled_as b (some a) = beq a b

-- A constant condition is a true one if that is the side taken, and else a false one.
unfoldable pub is_true : ℕ → Condition → Bool
is_true w c = settled_as c.taken (settled w c)

-- A constant condition is a false one if the other side is taken.
unfoldable pub is_false : ℕ → Condition → Bool
is_false w c = settled_as (not c.taken) (settled w c)

-- The same kind and sums.
unfoldable pub same_test : Condition → Condition → Bool
same_test c d = same_kind c.kind d.kind && (same_sum c.left d.left && same_sum c.right d.right)

-- Equal in kind, sums and side; and "opposite": the same kind and sums with the other side taken.
unfoldable pub same_condition : Condition → Condition → Bool
same_condition c d = same_test c d && beq c.taken d.taken

-- Whether two conditions are opposite.
unfoldable pub opposite : Condition → Condition → Bool
opposite c d = same_test c d && beq c.taken (not d.taken)

-- Whether some member passes a test.
unfoldable pub any : {A : Type 0} → (A → Bool) → List A → Bool
any f [] = false
any f (a ∷ l) = f a || any f l

-- Whether every member passes a test.
unfoldable pub all : {A : Type 0} → (A → Bool) → List A → Bool
all f [] = true
all f (a ∷ l) = f a && all f l

-- Rule 15: "a false constant condition, or two opposites".
unfoldable pub contradicts : ℕ → List Condition → Bool
contradicts w cs = any (is_false w) cs || any (λ c. any (opposite c) cs) cs

-- Rule 16: "each second condition is constant true or equals one of the first's in kind, sums and side".
unfoldable pub assured : ℕ → List Condition → List Condition → Bool
assured w cs ds = all (λ d. is_true w d || any (same_condition d) cs) ds

-- Rules 17 and 18, port by port.
unfoldable pub same_reads : Side → Side → Bool
same_reads a b = each_port (λ p. eqb (reads p a.events) (reads p b.events))

-- Rule 18: the same sums written, in order, on each port.
unfoldable pub same_writes : Side → Side → Bool
same_writes a b = each_port (λ p. same same_sum (writes p a.events) (writes p b.events))

-- Rule 19: the sums of each target link are equal at the end.
unfoldable pub keeps_links : List Link → Side → Side → Bool
keeps_links ls a b =
    all (λ l. same_sum (get_or a.environment l.first empty) (get_or b.environment l.second empty)) ls

-- The start of a path: "each first variable as its symbol; a second variable is its linked partner's symbol, or its own if not
-- linked". The second's own symbols are 16 to 31.
unfoldable pub partner : List Link → ℕ → ℕ
partner [] v = 16 + v
partner (l ∷ ls) v =
    let later = partner ls v in
    cond (eqb l.second v) l.first later

-- A side at the start of a path, its variables as the given symbols.
unfoldable pub start_side : ℕ → List ℕ → Side
start_side s symbols = side s (map symbol_sum symbols) [] []

-- The first side at the start of a pair's paths.
unfoldable pub first_side : Pair → Side
first_side pair = start_side pair.first (up_to 0 16)

-- The second side at the start of a pair's paths.
unfoldable pub second_side : Pair → Side
second_side pair = start_side pair.second (map (partner pair.links) (up_to 0 16))

-- Rule 13, or what is found of the side where it fits.
unfoldable pub when_fits : ℕ → Outcome Side → (Side → Fault) → Fault
when_fits i too_large judge = broken over_size i
when_fits i (fits d) judge = judge d

-- A mark 1 path "is judged on its first side by 13, 14 and 15 and by nothing else".
unfoldable pub judge_impossible : ℕ → ℕ → Side → Fault
judge_impossible w i a =
    check over_tests i (le (length a.conditions) 32 ∷ [])
    then check no_contradiction i (so (contradicts w a.conditions) ∷ [])

-- Rules 14 and 16 to 19 on the two sides of a path that leads to a pair with links ls.
unfoldable pub judge_sides : ℕ → ℕ → List Link → Side → Side → Fault
judge_sides w i ls a b =
    check over_tests i (le (length a.conditions) 32 ∷ le (length b.conditions) 32 ∷ [])
    then check not_assured i (so (assured w a.conditions b.conditions) ∷ [])
    then check reads_differ i (so (same_reads a b) ∷ [])
    then check writes_differ i (so (same_writes a b) ∷ [])
    then check link_not_kept i (so (keeps_links ls a b) ∷ [])

-- Rule 12: "the target's first state ends the first path, and the second path is walkable to the target's second state".
unfoldable pub leads_to : Table → Table → Pair → Path → Pair → Bool
leads_to t u pair path target =
    eqb (end_state t pair.first path.first) target.first
    && (walkable u pair.second path.second && eqb (end_state u pair.second path.second) target.second)

-- A mark 0 path: rules 12, 13, 14 and 16 to 19.
unfoldable pub judge_possible : ℕ → Table → Table → Pair → Path → Pair → Fault
judge_possible w t u pair path target =
    let second = follow w u path.second (second_side pair) in
    let judge : Side → Fault = λ a. when_fits path.index second (judge_sides w path.index target.links a) in
    let sides = when_fits path.index (follow w t path.first (first_side pair)) judge in
    check does_not_follow path.index (so (leads_to t u pair path target) ∷ []) then sides

-- A path, by its mark.
unfoldable pub judge_path : ℕ → Table → Table → (ℕ → Pair) → Pair → Path → Fault
judge_path w t u pair_of pair path =
    let marked = when_fits path.index (follow w t path.first (first_side pair)) (judge_impossible w path.index) in
    let unmarked = judge_possible w t u pair path (pair_of path.target) in
    cond path.impossible marked unmarked

-- A pair: "10, 11, then the pair's paths in order".
unfoldable pub judge_pair : ℕ → Table → Table → (ℕ → Pair) → ℕ → Fault
judge_pair w t u pair_of i =
    check stops_differ i (so (beq (is_stop (t (pair_of i).first)) (is_stop (u (pair_of i).second))) ∷ [])
    then check not_covered i (so (rule11 t 32 (pair_of i).first (map (λ p. p.first) (pair_of i).paths)) ∷ [])
    then first_of (judge_path w t u pair_of (pair_of i)) (pair_of i).paths

-- All pairs in order.
unfoldable pub judgement : ℕ → List ℕ → List ℕ → List ℕ → Fault
judgement w first second list =
    first_of (judge_pair w (table_of first) (table_of second) (pair_at list)) (up_to 0 (pairs list))

-- The verdict at a width: "first table, second, correspondence, judgement", first broken rule first.
unfoldable pub verdict_at : ℕ → List ℕ → List ℕ → List ℕ → Answer
verdict_at w first second list =
    in_image 1 (table_fault first)
    (in_image 2 (table_fault second)
    (in_image 3 (list_fault (states first) (states second) list)
    (in_image 3 (judgement w first second list) accepted)))

-- What the checking program answers.
unfoldable pub verdict : List ℕ → List ℕ → List ℕ → Answer
verdict first second list = verdict_at base first second list
