-- The fields of records are what the decoding of a correspondence says: of a link, of a path and of a pair; and what a correspondence
-- in which nothing is found has in its header and in each record. 01, "The correspondence". Assumes nothing.
use Prim.Native.Nat.{ℕ, zero, suc, ◌+◌, ◌*◌, ◌^◌, ◌≤◌, ◌<◌}
use mathlib.Core.Path.{◌≡◌, sym, ◌∙◌, ap}
use mathlib.Core.Bool.{true}
use mathlib.Core.List.{List, map, map-map}
use native.Mathlib.Omega.{arith}
use lib.Dec.{eqb}
use Rattle.model.specs.Answer.{sound, up_to, word}
use Rattle.model.specs.Table.{distinct}
use Rattle.model.specs.Path.{choices}
use Rattle.model.specs.Correspondence.{Link, Path, Pair, pairs, links, paths, links_at, paths_at, list_rules, link_at, link_fault, path_word, side_rules, mark_rules, path_fault, path_at, pair_word, pair_at, reset_rules, pair_fault, list_fault}
use Rattle.model.proofs.Basics.{then_first, then_second, record_sound, Facts, check_facts}
use Rattle.table.proofs.Decoding.{first_word}
use Rattle.list.specs.Checks.{link_record, path_record, pair_record, seconds_in}
use Rattle.list.specs.declared.LinkRecord.{LinkRecord}
use Rattle.list.specs.declared.PathRecord.{PathRecord}
use Rattle.list.specs.declared.PairRecord.{PairRecord}
use Rattle.list.proofs.Header.{links_from, paths_from}

-- A path's record by its first word and its others, and a pair's.

abbrev pub path_words : List ℕ → ℕ → ℕ → PathRecord
path_words list i x =
    record {
      length = x;
      choices = path_word list i 1;
      second_length = path_word list i 2;
      second_choices = path_word list i 3;
      target = path_word list i 4;
      mark = path_word list i 5;
    }

abbrev pub pair_words : List ℕ → ℕ → ℕ → PairRecord
pair_words list i x =
    record {
      first = x;
      second = pair_word list i 1;
      link = pair_word list i 2;
      links = pair_word list i 3;
      path = pair_word list i 4;
      paths = pair_word list i 5;
    }

-- The link, the path and the pair that a record's fields say.

abbrev pub link_read : LinkRecord → Link
link_read r = record { first = r.first; second = r.second }

abbrev pub path_read : ℕ → PathRecord → Path
path_read i r =
    record {
      index = i;
      first = choices r.length r.choices;
      second = choices r.second_length r.second_choices;
      target = r.target;
      impossible = eqb r.mark 1;
    }

abbrev pub pair_read : List ℕ → PairRecord → Pair
pair_read list r =
    record {
      first = r.first;
      second = r.second;
      links = map (link_at list) (up_to r.link r.links);
      paths = map (path_at list) (up_to r.path r.paths);
    }

module _ (list : List ℕ) (i : ℕ) {at : ℕ} where
  -- A link, read from where the links begin.
  pub link_decoded : {r : LinkRecord} → at ≡ links_at list → r ≡ link_record list at i → link_at list i ≡ link_read r
  unfolding link_at link_record
  link_decoded p e = sym (ap link_read (e ∙ (λ j. link_record list (p j) i)))

  -- A path, read from where the paths begin.

  pub path_words_lem : {r : PathRecord} → at ≡ paths_at list → r ≡ path_record list at i → r ≡ path_words list i (path_word list i 0)
  unfolding path_record path_word
  path_words_lem p e =
      e
      ∙ (λ j. path_record list (p j) i)
      ∙ ap (path_words list i) (first_word list (paths_at list + 6 * i))

  pub path_decoded : {r : PathRecord} → at ≡ paths_at list → r ≡ path_record list at i → path_at list i ≡ path_read i r
  unfolding path_at
  path_decoded p e = sym (ap (path_read i) (path_words_lem p e))

module _ (list : List ℕ) (i : ℕ) where
  -- A pair.

  pub pair_words_lem : {r : PairRecord} → r ≡ pair_record list i → r ≡ pair_words list i (pair_word list i 0)
  unfolding pair_record pair_word
  pair_words_lem e = e ∙ ap (pair_words list i) (first_word list (8 + 6 * i))

  pub pair_decoded : {r : PairRecord} → r ≡ pair_record list i → pair_at list i ≡ pair_read list r
  unfolding pair_at
  pair_decoded e = sym (ap (pair_read list) (pair_words_lem e))

-- The second variables of a range of links.
pub seconds_decoded : (list : List ℕ) {at : ℕ} → at ≡ links_at list → (i n : ℕ)
    → seconds_in list at i n ≡ map (λ l. l.second) (map (link_at list) (up_to i n))
unfolding seconds_in link_at link_record
seconds_decoded list p i n = rw p (sym (map-map (λ (l : Link). l.second) (link_at list) (up_to i n)))

-- What the fields of a link, a path and a pair keep to, where nothing is found in a correspondence.

pub record SoundLink (r : LinkRecord) : Type 0 where
  pub first : r.first < 16
  pub second : r.second < 16

pub record SoundPath (list : List ℕ) (r : PathRecord) : Type 0 where
  pub leaves : 1 ≤ r.length
  pub short : r.length ≤ 32
  pub bits : r.choices < 2 ^ r.length
  pub mark : r.mark ≤ 1
  pub leaves2 : r.mark ≡ 0 → 1 ≤ r.second_length
  pub short2 : r.second_length ≤ 32
  pub bits2 : r.second_choices < 2 ^ r.second_length
  pub target : r.target < pairs list

pub record SoundPair (m n : ℕ) (list : List ℕ) (i : ℕ) (r : PairRecord) : Type 0 where
  pub first : r.first < m
  pub second : r.second < n
  pub links : r.link + r.links ≤ links list
  pub paths : r.path + r.paths ≤ paths list
  pub reset : i ≡ 0 → (r.first ≡ 0) × (r.second ≡ 0)
  pub once : distinct (map (λ l. l.second) (map (link_at list) (up_to r.link r.links))) ≡ true

-- From the rules that are kept.

path_kept : (list : List ℕ) (n x m n2 x2 t : ℕ) → 1 ≤ pairs list → Facts (side_rules n x) → Facts (mark_rules (pairs list) m n2 x2 t)
    → SoundPath list (record { length = n; choices = x; second_length = n2; second_choices = x2; target = t; mark = m })
unfolding side_rules mark_rules
path_kept list n x zero n2 x2 t p f g =
    record {
      leaves = f.0;
      short = f.1.0;
      bits = f.1.1.0;
      mark = omega arith;
      leaves2 = λ z. g.1.0;
      short2 = g.1.1.0;
      bits2 = g.1.1.1.0;
      target = g.0;
    }
path_kept list n x (suc m) n2 x2 t p f g =
    let z : m ≡ 0 = g.0 in
    let none : n2 ≡ 0 = g.1.0 in
    let nothing : x2 ≡ 0 = g.1.1.0 in
    let reset : t ≡ 0 = g.1.1.1.0 in
    record {
      leaves = f.0;
      short = f.1.0;
      bits = f.1.1.0;
      mark = omega arith;
      leaves2 = λ u. absurd (omega arith);
      short2 = omega arith;
      bits2 = rw (none, nothing) (omega arith);
      target = omega arith;
    }

reset_kept : (i s u : ℕ) → Facts (reset_rules i s u) → i ≡ 0 → (s ≡ 0) × (u ≡ 0)
unfolding reset_rules
reset_kept zero s u f z = (f.0, f.1.0)
reset_kept (suc i) s u f z = absurd (omega arith)

-- A correspondence in which nothing is found: the header's words 5 and 7 are where the links and the paths begin, and each record is
-- as the decoding says and keeps to its rules.

module _ (m n : ℕ) (list : List ℕ) (passed : list_fault m n list ≡ sound) where
  header_facts : Facts (list_rules list)
  unfolding list_fault
  header_facts = check_facts _ _ (list_rules list) (then_first _ _ passed)

  pub links_begin : word list 5 ≡ links_at list
  links_begin = links_from list header_facts

  pub paths_begin : word list 7 ≡ paths_at list
  paths_begin = paths_from list header_facts

  -- The counts: 1 to 64 pairs, at most 1,024 links and 512 paths.
  pub counts : (1 ≤ pairs list) × ((pairs list ≤ 64) × ((links list ≤ 1024) × (paths list ≤ 512)))
  unfolding list_rules
  counts =
      (header_facts.1.1.0, (header_facts.1.1.1.0, (header_facts.1.1.1.1.1.0, header_facts.1.1.1.1.1.1.1.0)))

  module _ (i : ℕ) where
    pub sound_link : {r : LinkRecord} → r ≡ link_record list (word list 5) i → i < links list → SoundLink r
    unfolding list_fault link_fault link_at link_record
    sound_link e h =
        let s = record_sound (link_fault list) (links list) (then_first _ _ (then_second _ _ passed)) i h in
        let f = check_facts _ _ _ s in
        rw (e, links_begin) (record { first = omega (arith, f.0); second = omega (arith, f.1.0) })

    pub sound_path : {r : PathRecord} → r ≡ path_record list (word list 7) i → i < paths list → SoundPath list r
    unfolding list_fault path_fault side_rules
    sound_path e h =
        let s = record_sound (path_fault list) (paths list) (then_first _ _ (then_second _ _ (then_second _ _ passed))) i h in
        let f = check_facts _ _ _ s in
        rw (path_words_lem list i paths_begin e)
        (path_kept list _ _ (path_word list i 5) _ _ _ counts.0 (f.0, (f.1.0, (f.1.1.0, tt))) f.1.1.1)

    pub sound_pair : {r : PairRecord} → r ≡ pair_record list i → i < pairs list → SoundPair m n list i r
    unfolding list_fault pair_fault pair_at
    sound_pair e h =
        let s = record_sound (pair_fault m n list) (pairs list) (then_second _ _ (then_second _ _ (then_second _ _ passed))) i h in
        let f = check_facts _ _ _ (then_first _ _ s) in
        rw (pair_words_lem list i e)
        (record {
          first = f.0;
          second = f.1.0;
          links = f.1.1.0;
          paths = f.1.1.1.0;
          reset = reset_kept i _ _ f.1.1.1.1;
          once = (check_facts _ _ _ (then_second _ _ s)).0;
        })
