-- What the check of a link, a path, a pair and the whole correspondence answers, from what was read and tested, and that it is the
-- model's finding. Assumes nothing.
use Prim.Native.Nat.{ℕ, ◌+◌, ◌≤◌}
use mathlib.Core.Path.{◌≡◌, refl, sym, ◌∙◌, ap}
use mathlib.Core.Bool.{Bool, true, false}
use mathlib.Core.List.{List, [], ◌∷◌}
use Rattle.model.specs.Answer.{Reason, Fault, sound, ◌then◌, first_of, up_to, Rule, so, all_kept, check, word, wrong_list, wrong_path, wrong_pair}
use Rattle.model.specs.Table.{distinct}
use Rattle.model.specs.Correspondence.{pairs, links, paths, list_rules, link_at, link_fault, path_fault, pair_word, pair_at, pair_fault, list_fault}
use Rattle.model.proofs.Basics.{Facts}
use Rattle.std.specs.Prelude.{Ok, Err}
use Rattle.fault.specs.Fault.{fault_at, checked_of}
use Rattle.fault.proofs.Rules.{facts_kept, check_kept, refused, passed, then_sound, so_kept}
use Rattle.list.specs.Checks.{link_record, pair_record, limits_of, link_rules, path_rules, pair_rules, seconds_in, link_found, path_found, pair_found}
use Rattle.list.proofs.Header.{links_from, paths_from}
use Rattle.list.proofs.Decoding.{pair_words, pair_words_lem, path_words_lem, seconds_decoded}
use Rattle.list.specs.declared.PairRecord.{PairRecord}
use Rattle.list.specs.declared.Limits.{Limits}

-- A record whose rules are looked at all at once.

found_sound : {b : Bool} (n : Reason) (i : ℕ) (rs : List Rule) → b ≡ all_kept rs → b ≡ true → Ok tt ≡ checked_of (check n i rs)
unfolding checked_of
found_sound n i rs e h = sym (ap checked_of (check_kept n i rs e h))

found_broken : {b : Bool} (n : Reason) (i : ℕ) (rs : List Rule) → b ≡ all_kept rs → b ≡ false → Err (fault_at n i) ≡ checked_of (check n i rs)
found_broken n i rs e h = refused n i rs sound e h ∙ ap checked_of (then_sound (check n i rs))

module _ (limits : Limits) (list : List ℕ) (i : ℕ) where
  -- Pairs.

  -- The second variables that pair i links.
  abbrev linked : PairRecord → List ℕ
  linked pair = seconds_in list limits.links_at pair.link pair.links

  module _ {b : Bool} {pair : PairRecord} (read : pair ≡ pair_record list i) (own : b ≡ all_kept (pair_rules limits pair i)) where
    kept_own : b ≡ all_kept (pair_rules limits (pair_record list i) i)
    kept_own = own ∙ ap (λ p. all_kept (pair_rules limits p i)) read

    pub pair_broken : b ≡ false → Err (fault_at wrong_pair i) ≡ checked_of (pair_found limits list i)
    unfolding pair_found
    pair_broken h =
        refused wrong_pair i (pair_rules limits (pair_record list i) i) (check wrong_pair i (so (distinct (linked (pair_record list i))) ∷ [])) kept_own h

    -- A range of links that is right ends within the words that there can be.
    pub pair_range : b ≡ true → pair.link + pair.links ≤ limits.links
    unfolding pair_rules
    pair_range h = (facts_kept (pair_rules limits pair i) own h).1.1.0

    pair_passed : b ≡ true → pair_found limits list i ≡ check wrong_pair i (so (distinct (linked (pair_record list i))) ∷ [])
    unfolding pair_found
    pair_passed h =
        passed wrong_pair i (pair_rules limits (pair_record list i) i) (check wrong_pair i (so (distinct (linked (pair_record list i))) ∷ [])) kept_own h

    once : {c : Bool} → c ≡ distinct (linked pair) → c ≡ all_kept (so (distinct (linked (pair_record list i))) ∷ [])
    once e = e ∙ ap (λ p. distinct (linked p)) read ∙ so_kept (distinct (linked (pair_record list i)))

    pub pair_once : {c : Bool} → b ≡ true → c ≡ distinct (linked pair) → c ≡ true → Ok tt ≡ checked_of (pair_found limits list i)
    pair_once h e g = found_sound wrong_pair i _ (once e) g ∙ sym (ap checked_of (pair_passed h))

    pub pair_twice : {c : Bool} → b ≡ true → c ≡ distinct (linked pair) → c ≡ false → Err (fault_at wrong_pair i) ≡ checked_of (pair_found limits list i)
    pair_twice h e g = found_broken wrong_pair i _ (once e) g ∙ sym (ap checked_of (pair_passed h))

-- Where the header is right, what the records are held to is what the model holds them to.

module _ (m n : ℕ) (list : List ℕ) (header : Facts (list_rules list)) where
  same_link : (i : ℕ) → link_found (limits_of m n list) list i ≡ link_fault list i
  unfolding link_found limits_of link_rules link_record link_fault link_at
  same_link i = rw (links_from list header)

  same_path : (i : ℕ) → path_found (limits_of m n list) list i ≡ path_fault list i
  unfolding path_found limits_of path_rules path_fault pairs
  same_path i = ap (λ p. check wrong_path i (path_rules (word list 2) p)) (path_words_lem list i (paths_from list header) refl)

  same_pair : (i : ℕ) → pair_found (limits_of m n list) list i ≡ pair_fault m n list i
  unfolding pair_found limits_of pair_rules pair_fault pair_at links paths
  same_pair i =
      ap
      (λ p. check wrong_pair i (pair_rules (limits_of m n list) p i)
      then check wrong_pair i (so (distinct (seconds_in list (word list 5) p.link p.links)) ∷ []))
      (pair_words_lem list i refl)
      ∙ ap
      (λ l. check wrong_pair i (pair_rules (limits_of m n list) (pair_words list i (pair_word list i 0)) i) then check wrong_pair i (so (distinct l) ∷ []))
      (seconds_decoded list (links_from list header) (pair_word list i 2) (pair_word list i 3))

-- The correspondence.

-- What is found along the links, the paths and the pairs.
abbrev pub areas_fault : Limits → List ℕ → Fault
areas_fault limits list =
    first_of (link_found limits list) (up_to 0 limits.links)
    then first_of (path_found limits list) (up_to 0 limits.paths)
    then first_of (pair_found limits list) (up_to 0 limits.pairs)

module _ (m n : ℕ) (list : List ℕ) {b : Bool} (header : b ≡ all_kept (list_rules list)) where
  pub header_broken : b ≡ false → Err (fault_at wrong_list 0) ≡ checked_of (list_fault m n list)
  unfolding list_fault
  header_broken h = refused wrong_list 0 (list_rules list) _ header h

  -- What is found in the correspondence is what is found along its areas, with the counts as they were read.
  pub areas : {limits : Limits} → b ≡ true → limits ≡ limits_of m n list → list_fault m n list ≡ areas_fault limits list
  unfolding list_fault limits_of pairs links paths
  areas h read =
      let facts = facts_kept (list_rules list) header h in
      passed wrong_list 0 (list_rules list) _ header h
      ∙ sym
      (λ j. first_of (λ i. same_link m n list facts i j) (up_to 0 (links list))
      then first_of (λ i. same_path m n list facts i j) (up_to 0 (paths list))
      then first_of (λ i. same_pair m n list facts i j) (up_to 0 (pairs list)))
      ∙ sym (ap (λ l. areas_fault l list) read)
