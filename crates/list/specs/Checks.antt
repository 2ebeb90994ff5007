-- The fields of a correspondence's records as the code hands them over, and the model's rules of each record by those fields.
-- 01, "The correspondence". Assumes nothing.
use Rattle.std.specs.Prelude.{ℕ, ◌+◌, ◌*◌, List, [], ◌∷◌, ◌++◌, map}
use Rattle.model.specs.Answer.{Fault, ◌then◌, up_to, Rule, le, lt, so, check, word, wrong_link, wrong_path, wrong_pair}
use Rattle.model.specs.Table.{distinct}
use Rattle.model.specs.Correspondence.{side_rules, mark_rules, reset_rules}
use Rattle.list.specs.declared.LinkRecord.{LinkRecord}
use Rattle.list.specs.declared.PathRecord.{PathRecord}
use Rattle.list.specs.declared.PairRecord.{PairRecord}
use Rattle.list.specs.declared.Limits.{Limits}

-- The fields of link i, where the links begin at a place.
unfoldable pub link_record : List ℕ → ℕ → ℕ → LinkRecord
link_record list at i = record { first = word list (at + 2 * i); second = word list (at + 2 * i + 1) }

-- The fields of path i, where the paths begin at a place.
unfoldable pub path_record : List ℕ → ℕ → ℕ → PathRecord
path_record list at i =
    record {
      length = word list (at + 6 * i);
      choices = word list (at + 6 * i + 1);
      second_length = word list (at + 6 * i + 2);
      second_choices = word list (at + 6 * i + 3);
      target = word list (at + 6 * i + 4);
      mark = word list (at + 6 * i + 5);
    }

-- The fields of pair i.
unfoldable pub pair_record : List ℕ → ℕ → PairRecord
pair_record list i =
    record {
      first = word list (8 + 6 * i);
      second = word list (8 + 6 * i + 1);
      link = word list (8 + 6 * i + 2);
      links = word list (8 + 6 * i + 3);
      path = word list (8 + 6 * i + 4);
      paths = word list (8 + 6 * i + 5);
    }

-- What the records are held to, the counts and offsets as the header has them.
unfoldable pub limits_of : ℕ → ℕ → List ℕ → Limits
limits_of m n list =
    record {
      first = m;
      second = n;
      pairs = word list 2;
      links = word list 4;
      paths = word list 6;
      links_at = word list 5;
      paths_at = word list 7;
    }

-- The rules of a link.
unfoldable pub link_rules : LinkRecord → List Rule
link_rules link = le link.first 15 ∷ le link.second 15 ∷ []

-- The rules of a path, where there are so many pairs.
unfoldable pub path_rules : ℕ → PathRecord → List Rule
path_rules pairs path =
    side_rules path.length path.choices
    ++ mark_rules pairs path.mark path.second_length path.second_choices path.target

-- The rules of pair i's own fields.
unfoldable pub pair_rules : Limits → PairRecord → ℕ → List Rule
pair_rules limits pair i =
    lt pair.first limits.first
    ∷ lt pair.second limits.second
    ∷ le (pair.link + pair.links) limits.links
    ∷ le (pair.path + pair.paths) limits.paths
    ∷ reset_rules i pair.first pair.second

-- The second variables of the n links from i, where the links begin at a place.
unfoldable pub seconds_in : List ℕ → ℕ → ℕ → ℕ → List ℕ
seconds_in list at i n = map (λ j. (link_record list at j).second) (up_to i n)

-- What is found in link i.
unfoldable pub link_found : Limits → List ℕ → ℕ → Fault
link_found limits list i = check wrong_link i (link_rules (link_record list limits.links_at i))

-- What is found in path i.
unfoldable pub path_found : Limits → List ℕ → ℕ → Fault
path_found limits list i = check wrong_path i (path_rules limits.pairs (path_record list limits.paths_at i))

-- What is found in pair i: in its own fields, and then in the second variables of its links.
unfoldable pub pair_found : Limits → List ℕ → ℕ → Fault
pair_found limits list i =
    let pair = pair_record list i in
    let once = check wrong_pair i (so (distinct (seconds_in list limits.links_at pair.link pair.links)) ∷ []) in
    check wrong_pair i (pair_rules limits pair i) then once
