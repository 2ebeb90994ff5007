-- The correspondence image: its rules 6 to 9 in order, and the pairs that it holds with their links and paths.
-- 01, "The correspondence". Assumes nothing.
use Rattle.std.specs.Prelude.{ℕ, zero, suc, ◌+◌, ◌*◌, ◌^◌, Bool, List, [], ◌∷◌, ◌++◌, map, eqb, length}
use Rattle.model.specs.Answer.{Fault, ◌then◌, first_of, up_to, Rule, le, lt, is, so, check, word, wrong_list, wrong_link, wrong_path, wrong_pair}
use Rattle.model.specs.Table.{distinct}
use Rattle.model.specs.Path.{choices}

-- A link: a first and a second variable, equal whenever the pair is reached.
pub record Link : Type 0 where
  pub first : ℕ
  pub second : ℕ

-- A path: its number in the image, its choices in the first and the second table, the pair it leads to, and its mark.
pub record Path : Type 0 where
  pub index : ℕ
  pub first : List Bool
  pub second : List Bool
  pub target : ℕ
  pub impossible : Bool

-- A pair: a state of each table, its links and its paths.
pub record Pair : Type 0 where
  pub first : ℕ
  pub second : ℕ
  pub links : List Link
  pub paths : List Path

-- How many pairs the header counts.
unfoldable pub pairs : List ℕ → ℕ
pairs image = word image 2

-- How many links.
unfoldable pub links : List ℕ → ℕ
links image = word image 4

-- How many paths.
unfoldable pub paths : List ℕ → ℕ
paths image = word image 6

-- Where the links begin.
unfoldable pub links_at : List ℕ → ℕ
links_at image = 8 + 6 * pairs image

-- Where the paths begin.
unfoldable pub paths_at : List ℕ → ℕ
paths_at image = links_at image + 2 * links image

-- The header's rules.
unfoldable pub list_rules : List ℕ → List Rule
list_rules image =
    is (word image 0) 2 ∷ is (word image 1) (length image)
    ∷ le 1 (pairs image) ∷ le (pairs image) 64 ∷ is (word image 3) 8
    ∷ le (links image) 1024 ∷ is (word image 5) (links_at image)
    ∷ le (paths image) 512 ∷ is (word image 7) (paths_at image)
    ∷ is (length image) (paths_at image + 6 * paths image) ∷ []

-- Links: first's variable, second's variable.

-- The link that a record holds.
unfoldable pub link_at : List ℕ → ℕ → Link
link_at image i =
    record { first = word image (links_at image + 2 * i); second = word image (links_at image + 2 * i + 1) }

-- A link's variables are at most 15.
unfoldable pub link_fault : List ℕ → ℕ → Fault
link_fault image i = check wrong_link i (le (link_at image i).first 15 ∷ le (link_at image i).second 15 ∷ [])

-- Paths: edges in the first, its choices, edges in the second, its choices, target pair, mark.

-- Word k of path i.
unfoldable pub path_word : List ℕ → ℕ → ℕ → ℕ
path_word image i k = word image (paths_at image + 6 * i + k)

-- A side of a path: 1 to 32 edges, and "bits past the length are 0".
unfoldable pub side_rules : ℕ → ℕ → List Rule
side_rules n x = le 1 n ∷ le n 32 ∷ lt x (2 ^ n) ∷ []

-- What the mark asks. Mark 0: a side in the second table and a target; mark 1, impossible: "the three words before the mark are 0".
unfoldable pub mark_rules : ℕ → ℕ → ℕ → ℕ → ℕ → List Rule
mark_rules p zero n x target = lt target p ∷ side_rules n x
mark_rules p (suc m) n x target = is m 0 ∷ is n 0 ∷ is x 0 ∷ is target 0 ∷ []

-- The rules of a path, refused together.
unfoldable pub path_fault : List ℕ → ℕ → Fault
path_fault image i =
    check wrong_path i
    (side_rules (path_word image i 0) (path_word image i 1)
    ++ mark_rules (pairs image) (path_word image i 5) (path_word image i 2) (path_word image i 3) (path_word image i 4))

-- The path that a record holds.
unfoldable pub path_at : List ℕ → ℕ → Path
path_at image i =
    record {
      index = i;
      first = choices (path_word image i 0) (path_word image i 1);
      second = choices (path_word image i 2) (path_word image i 3);
      target = path_word image i 4;
      impossible = eqb (path_word image i 5) 1;
    }

-- Pairs: first's state, second's state, first link, link count, first path, path count.

-- Word k of pair i.
unfoldable pub pair_word : List ℕ → ℕ → ℕ → ℕ
pair_word image i k = word image (8 + 6 * i + k)

-- The pair that a record holds, with its links and paths.
unfoldable pub pair_at : List ℕ → ℕ → Pair
pair_at image i =
    record {
      first = pair_word image i 0;
      second = pair_word image i 1;
      links = map (link_at image) (up_to (pair_word image i 2) (pair_word image i 3));
      paths = map (path_at image) (up_to (pair_word image i 4) (pair_word image i 5));
    }

-- "Pair 0 has states 0 and 0."
unfoldable pub reset_rules : ℕ → ℕ → ℕ → List Rule
reset_rules zero s u = is s 0 ∷ is u 0 ∷ []
reset_rules (suc i) s u = []

-- The rules of a pair, where the tables have m and n states. "A second-table variable stands at most once in a pair's links."
unfoldable pub pair_fault : ℕ → ℕ → List ℕ → ℕ → Fault
pair_fault m n image i =
    let once = check wrong_pair i (so (distinct (map (λ l. l.second) (pair_at image i).links)) ∷ []) in
    check wrong_pair i
    (lt (pair_word image i 0) m
    ∷ lt (pair_word image i 1) n
    ∷ le (pair_word image i 2 + pair_word image i 3) (links image)
    ∷ le (pair_word image i 4 + pair_word image i 5) (paths image)
    ∷ reset_rules i (pair_word image i 0) (pair_word image i 1))
    then once

-- The first fault of a correspondence: "header, links, paths, pairs".
unfoldable pub list_fault : ℕ → ℕ → List ℕ → Fault
list_fault m n image =
    check wrong_list 0 (list_rules image)
    then first_of (link_fault image) (up_to 0 (links image))
    then first_of (path_fault image) (up_to 0 (paths image))
    then first_of (pair_fault m n image) (up_to 0 (pairs image))
