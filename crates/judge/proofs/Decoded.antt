-- The records that the code reads are the pairs and paths that the model judges, in three images in which nothing is found; and the
-- sides that it follows stand for the paper's. Assumes nothing.
use Prim.Native.Nat.{ℕ, ◌+◌, ◌<◌, ◌^◌}
use mathlib.Core.Path.{◌≡◌, refl, sym, ◌∙◌, ap}
use mathlib.Core.Bool.{Bool, true, false, ◌&&◌}
use mathlib.Core.List.{List, [], map}
use native.Mathlib.Omega.{arith}
use lib.Dec.{eqb}
use Rattle.model.specs.Answer.{up_to, word, does_not_follow, over_size}
use Rattle.model.specs.Word.{base}
use Rattle.model.specs.Table.{states, table_of}
use Rattle.model.specs.Sum.{too_large, fits, symbol_sum}
use Rattle.model.specs.Path as Model
use Rattle.model.specs.Path.{choices, walkable, end_state, side, follow}
use Rattle.model.specs.Correspondence.{pairs, paths, link_at, path_at, pair_at}
use Rattle.model.specs.Judgement.{start_side, first_side, second_side, judge_path, partner}
use Rattle.fault.specs.Fault.{fault_at, checked_of}
use Rattle.fault.specs.declared.Reason.TheVariants.{NoContradiction}
use Rattle.std.specs.Prelude.{Result, Ok, Err}
use Rattle.sum.specs.declared.TooLarge.{TooLarge}
use Rattle.env.specs.declared.Env.{Env}
use Rattle.condition.specs.Conditions.{conditions_of, contradicts_in}
use Rattle.list.specs.Checks.{path_record, pair_record}
use Rattle.list.specs.declared.PathRecord.{PathRecord}
use Rattle.list.specs.declared.PairRecord.{PairRecord}
use Rattle.list.proofs.Decoding.{pair_decoded, path_decoded, links_begin, paths_begin, counts, SoundPath, SoundPair, sound_path, sound_pair}
use Rattle.list.proofs.Linking.{Symbols, symbols_length, own_length, own_small, partners_small}
use Rattle.side.specs.declared.Side.{Side}
use Rattle.side.specs.Parts.{start_as}
use Rattle.side.specs.Following.{follow_k, followed_as}
use Rattle.side.proofs.Paper.{StandsEnv, Stands, loosened}
use Rattle.side.proofs.Joined.{follow_large, follow_fits, symbols_stand}
use Rattle.judge.specs.declared.images.PairOf.{PairOf}
use Rattle.judge.specs.Images.{Checks, PartnerSymbols, Walked}
use Rattle.judge.specs.Judging.{Checked, found_of, sides_in}
use Rattle.judge.proofs.Paths.{path_of, marked_large, marked_found, astray, astray_second, first_large, second_large, both_found}

module _ (P : PairOf) {p : PairRecord} (pe : p ≡ pair_record P.images.list.now P.i) where
  -- The parts of the pair that is judged, and what holds of them.

  abbrev first : List ℕ
  first = P.images.first.now

  abbrev second : List ℕ
  second = P.images.second.now

  abbrev list : List ℕ
  list = P.images.list.now

  abbrev i : ℕ
  i = P.i

  abbrev own : Env
  own = P.images.own.now

  checks : Checks first second list
  checks = P.images.checks

  inside : i < pairs list
  inside = P.inside

  -- The pair that the record holds.
  pair_here : pair_at list i ≡ record { first = p.first; second = p.second; links = map (link_at list) (up_to p.link p.links); paths = map (path_at list) (up_to p.path p.paths) }
  pair_here = pair_decoded list i pe

  pub pair_sound : SoundPair (states first) (states second) list i p
  pair_sound = sound_pair (states first) (states second) list checks.2 i pe inside

  pub pair_first : (pair_at list i).first ≡ p.first
  pair_first = ap (λ q. q.first) pair_here

  pub pair_second : (pair_at list i).second ≡ p.second
  pair_second = ap (λ q. q.second) pair_here

  pub pair_links : (pair_at list i).links ≡ map (link_at list) (up_to p.link p.links)
  pair_links = ap (λ q. q.links) pair_here

  pub pair_paths : (pair_at list i).paths ≡ map (path_at list) (up_to p.path p.paths)
  pair_paths = ap (λ q. q.paths) pair_here

  own_stands : StandsEnv own (map symbol_sum (up_to 0 16))
  own_stands = rw P.images.own_symbols (symbols_stand (up_to 0 16) own_length own_small)

  linked_stands : (linked : Env) → PartnerSymbols list i linked → StandsEnv linked (map symbol_sum (map (partner (pair_at list i).links) (up_to 0 16)))
  linked_stands linked e =
      rw (e, pair_links)
      (symbols_stand (Symbols _) (symbols_length _) (partners_small (states first) (states second) list checks.2 i pe inside))

  -- The sides at the start of its paths.

  first_side_lem : first_side (pair_at list i) ≡ side p.first (map symbol_sum (up_to 0 16)) [] []
  unfolding first_side start_side
  first_side_lem = rw pair_first refl

  second_side_lem : second_side (pair_at list i) ≡ side p.second (map symbol_sum (map (partner (pair_at list i).links) (up_to 0 16))) [] []
  unfolding second_side start_side
  second_side_lem = rw pair_second refl

  module _ (j : ℕ) (among : j < paths list) {at : ℕ} (begins : at ≡ word list 7) {r : PathRecord} (re : r ≡ path_record list at j) where
    -- The path that the record holds, by its parts.

    path_read_lem : r ≡ path_record list (word list 7) j
    path_read_lem = re ∙ ap (λ a. path_record list a j) begins

    pub path_sound : SoundPath list r
    path_sound = sound_path (states first) (states second) list checks.2 j path_read_lem among

    abbrev bits : List Bool
    bits = choices r.length r.choices

    abbrev bits' : List Bool
    bits' = choices r.second_length r.second_choices

    path_here : path_at list j ≡ path_of j bits bits' r.target (eqb r.mark 1)
    path_here = path_decoded list j (begins ∙ paths_begin (states first) (states second) list checks.2) re

    pub path_mark : {b : Bool} → eqb r.mark 1 ≡ b → (path_at list j).impossible ≡ b
    path_mark h = ap (λ q. q.impossible) path_here ∙ h

    path_marked : {b : Bool} → (path_at list j).impossible ≡ b → path_at list j ≡ path_of j bits bits' r.target b
    path_marked h = path_here ∙ ap (path_of j bits bits' r.target) (sym (ap (λ q. q.impossible) path_here) ∙ h)

    -- What is found of the path, as the code answers it.
    abbrev pub Judged : Checked
    Judged = checked_of (judge_path base (table_of first) (table_of second) (pair_at list) (pair_at list i) (path_at list j))

    by_parts : {b : Bool} → (path_at list j).impossible ≡ b → checked_of (judge_path base (table_of first) (table_of second) (pair_at list) (pair_at list i) (path_of j bits bits' r.target b)) ≡ Judged
    by_parts h = ap (λ q. checked_of (judge_path base (table_of first) (table_of second) (pair_at list) (pair_at list i) q)) (sym (path_marked h))

    -- The first side.
    module _ (z : Result (Unit {0}) TooLarge) (f : Side)
        (fe : followed_as z f ≡ follow_k (table_of first) bits (start_as p.first own)) where
      one_large : z ≡ Err (record {}) → follow base (table_of first) bits (first_side (pair_at list i)) ≡ too_large
      one_large h =
          rw first_side_lem
          (follow_large first p.first r.length r.choices own _ path_sound.short own_stands z f fe h)

      one_fits : z ≡ Ok tt → (m : Model.Side) × (follow base (table_of first) bits (first_side (pair_at list i)) ≡ fits m) × Stands f m
      one_fits h =
          rw first_side_lem
          (follow_fits first p.first r.length r.choices own _ path_sound.short own_stands z f fe h)

      -- A marked path.

      pub judged_large : (path_at list j).impossible ≡ true → z ≡ Err (record {}) → Err (fault_at over_size j) ≡ Judged
      judged_large h k = marked_large (table_of first) (table_of second) (pair_at list) (pair_at list i) j bits bits' r.target (one_large k) ∙ by_parts h

      pub judged_marked : (path_at list j).impossible ≡ true → z ≡ Ok tt → {b : Bool} {q : Checked} → b ≡ contradicts_in (conditions_of f.conditions) → q ≡ found_of b NoContradiction j → q ≡ Judged
      judged_marked h k c e =
          let (m, fit, stands) = one_fits k in
          e ∙ marked_found (table_of first) (table_of second) (pair_at list) (pair_at list i) j bits bits' r.target f m (loosened stands) fit c ∙ by_parts h

    -- The links of its target are few.
    pub target_room : {q : PairRecord} → q ≡ pair_record list r.target → q.link + q.links < 2 ^ 32
    target_room qe =
        let room = (sound_pair (states first) (states second) list checks.2 r.target qe path_sound.target).links in
        omega (arith, (counts (states first) (states second) list checks.2).1.1.0)

    -- Another path, with the record of its target.
    module _ {q : PairRecord} (qe : q ≡ pair_record list r.target) (unmarked : (path_at list j).impossible ≡ false) (walked : Walked first list i j)
        {one : Bool}
        (oe : one ≡ (walkable (table_of first) p.first bits && eqb (end_state (table_of first) p.first bits) q.first)) where
      goal : pair_at list r.target ≡ record { first = q.first; second = q.second; links = map (link_at list) (up_to q.link q.links); paths = map (path_at list) (up_to q.path q.paths) }
      goal = pair_decoded list r.target qe

      walks : walkable (table_of first) (pair_at list i).first bits ≡ true
      walks = ap (λ z. walkable (table_of first) (pair_at list i).first z.first) (sym path_here) ∙ walked

      lead_one : one ≡ (walkable (table_of first) (pair_at list i).first bits && eqb (end_state (table_of first) (pair_at list i).first bits) (pair_at list r.target).first)
      lead_one = rw (pair_first, goal) oe

      pub judged_astray : one ≡ false → Err (fault_at does_not_follow j) ≡ Judged
      judged_astray h = astray (table_of first) (table_of second) (pair_at list) (pair_at list i) j bits bits' r.target walks lead_one h ∙ by_parts unmarked

      -- Where its second choices lead, too.
      module _ {other : Bool}
          (se : other ≡ (walkable (table_of second) p.second bits' && eqb (end_state (table_of second) p.second bits') q.second)) where
        lead_other : other ≡ (walkable (table_of second) (pair_at list i).second bits' && eqb (end_state (table_of second) (pair_at list i).second bits') (pair_at list r.target).second)
        lead_other = rw (pair_second, goal) se

        pub judged_astray_second : one ≡ true → other ≡ false → Err (fault_at does_not_follow j) ≡ Judged
        judged_astray_second h k = astray_second (table_of first) (table_of second) (pair_at list) (pair_at list i) j bits bits' r.target walks lead_one lead_other h k ∙ by_parts unmarked

        -- Its two sides.
        module _ (ho : one ≡ true) (hs : other ≡ true) (z : Result (Unit {0}) TooLarge) (f : Side)
            (fe : followed_as z f ≡ follow_k (table_of first) bits (start_as p.first own)) where
          pub judged_first_large : z ≡ Err (record {}) → Err (fault_at over_size j) ≡ Judged
          judged_first_large h =
              first_large (table_of first) (table_of second) (pair_at list) (pair_at list i) j bits bits' r.target walks lead_one lead_other ho hs (one_large z f fe h) ∙ by_parts unmarked

          module _ (one-fits : z ≡ Ok tt) (linked : Env) (le : PartnerSymbols list i linked) (y : Result (Unit {0}) TooLarge) (g : Side)
              (ge : followed_as y g ≡ follow_k (table_of second) bits' (start_as p.second linked)) where
            other_large : y ≡ Err (record {}) → follow base (table_of second) bits' (second_side (pair_at list i)) ≡ too_large
            other_large h =
                rw second_side_lem
                (follow_large second p.second r.second_length r.second_choices linked _ path_sound.short2 (linked_stands linked le) y g ge h)

            other_fits : y ≡ Ok tt → (m : Model.Side) × (follow base (table_of second) bits' (second_side (pair_at list i)) ≡ fits m) × Stands g m
            other_fits h =
                rw second_side_lem
                (follow_fits second p.second r.second_length r.second_choices linked _ path_sound.short2 (linked_stands linked le) y g ge h)

            pub judged_second_large : y ≡ Err (record {}) → Err (fault_at over_size j) ≡ Judged
            judged_second_large h =
                let (m, fit, stands) = one_fits z f fe one-fits in
                second_large (table_of first) (table_of second) (pair_at list) (pair_at list i) j bits bits' r.target walks lead_one lead_other ho hs fit (other_large h) ∙ by_parts unmarked

            pub judged_both : y ≡ Ok tt → {from : ℕ} → from ≡ word list 5 → {k : Checked} → k ≡ checked_of (sides_in list from q.link q.links j f g) → k ≡ Judged
            judged_both h fr e =
                let (m, fit, stands) = one_fits z f fe one-fits in
                let (n, fit', stands') = other_fits h in
                both_found (table_of first) (table_of second) (pair_at list) (pair_at list i) j bits bits' r.target walks lead_one lead_other ho hs f g m n (loosened stands) (loosened stands') fit fit' list q.link q.links
                (fr ∙ links_begin (states first) (states second) list checks.2)
                (ap (λ z. z.links) goal)
                e
                ∙ by_parts unmarked
