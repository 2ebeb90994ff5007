-- What acceptance says, rule by rule: where the verdict is 0 0 0, every pair of the correspondence is judged sound, and each of its
-- paths is refuted or matched. Assumes nothing.
use Prim.Native.Nat.{ℕ, zero, suc, ◌≤◌, ◌<◌}
use mathlib.Core.Path.{◌≡◌, refl, sym, ◌∙◌, ap}
use mathlib.Core.Bool.{Bool, true, false, cond}
use mathlib.Core.List.Memᴰ
use mathlib.Core.List.{List, map, Memᴰ}
use native.Mathlib.Omega.{arith}
use lib.Dec.{eqb}
use lib.ListN.{length, get_or}
use borrow.Author.Tests.{eqb-true}
use Rattle.model.specs.Answer.{Answer, accepted, Fault, sound, broken, in_image}
use Rattle.model.specs.Table.{Table, table_of, table_fault, states}
use Rattle.model.specs.Run.{reads, writes, is_stop}
use Rattle.model.specs.Sum.{Outcome, too_large, fits, empty}
use Rattle.model.specs.Path.{choices, walkable, end_state, rule11, Side, follow}
use Rattle.model.specs.Correspondence.{Link, Path, Pair, pairs, links, paths, link_at, link_fault, path_word, side_rules, mark_rules, path_fault, path_at, pair_at, list_rules, reset_rules, pair_fault, list_fault}
use Rattle.model.specs.Judgement.{contradicts, assured, same_reads, same_writes, keeps_links, first_side, second_side, when_fits, judge_impossible, judge_sides, leads_to, judge_possible, judge_path, judge_pair, judgement, verdict_at}
use Rattle.model.proofs.Basics.{clash, and_left, and_right, beq_true, each_port_lem, same_sums, same_sum_lem, all_at, then_first, then_second, first_of_sound, record_sound, check_facts, Facts, up_to_bounds}

-- An answer that accepts found nothing in the image, and accepts for the rest.
image_sound : (i : ℕ) (f : Fault) (later : Answer) → in_image (suc i) f later ≡ accepted → (f ≡ sound) × (later ≡ accepted)
unfolding in_image accepted
image_sound i sound later e = (refl, e)
image_sound i (broken n r) later e = absurd (omega (arith, ap (λ (a : Answer). a.image) e))

when_fits_sound : (i : ℕ) (o : Outcome Side) (judge : Side → Fault) → when_fits i o judge ≡ sound → (d : Side) × (o ≡ fits d) × (judge d ≡ sound)
unfolding when_fits
when_fits_sound i too_large judge e = absurd (let z : ◌≡◌ {A = ℕ} 0 1 = cc in omega arith)
when_fits_sound i (fits d) judge e = (d, refl, e)

-- A marked path whose first side contradicts itself (rules 13 and 15).
pub record Refuted (w : ℕ) (t : Table) (pair : Pair) (path : Path) : Type 0 where
  pub first : Side
  pub followed : follow w t path.first (first_side pair) ≡ fits first
  pub contradictory : contradicts w first.conditions ≡ true

-- A path that leads both tables to its target alike (rules 12, 13 and 16 to 19).
pub record Matched (w : ℕ) (t u : Table) (pair : Pair) (path : Path) (target : Pair) : Type 0 where
  pub first : Side
  pub second : Side
  pub followed_first : follow w t path.first (first_side pair) ≡ fits first
  pub followed_second : follow w u path.second (second_side pair) ≡ fits second
  pub ends_first : end_state t pair.first path.first ≡ target.first
  pub walked : walkable u pair.second path.second ≡ true
  pub ends_second : end_state u pair.second path.second ≡ target.second
  pub assures : assured w first.conditions second.conditions ≡ true
  pub reading : (p : ℕ) → p < 4 → reads p first.events ≡ reads p second.events
  pub writing : (p : ℕ) → p < 4 → writes p first.events ≡ writes p second.events
  pub linking : (l : Link) → Memᴰ l target.links → get_or first.environment l.first empty ≡ get_or second.environment l.second empty

refuted : (w : ℕ) (t : Table) (pair : Pair) (path : Path) → when_fits path.index (follow w t path.first (first_side pair)) (judge_impossible w path.index) ≡ sound → Refuted w t pair path
unfolding judge_impossible
refuted w t pair path e =
    let (a, f, j) = when_fits_sound path.index _ _ e in
    record { first = a; followed = f; contradictory = (check_facts _ _ _ (then_second _ _ j)).0 }

matched : (w : ℕ) (t u : Table) (pair : Pair) (path : Path) (target : Pair) → judge_possible w t u pair path target ≡ sound → Matched w t u pair path target
unfolding judge_possible judge_sides leads_to same_reads same_writes keeps_links
matched w t u pair path target e =
    let leads = (check_facts _ _ _ (then_first _ _ e)).0 in
    let leads' = and_right (eqb (end_state t pair.first path.first) target.first) _ leads in
    let (a, fa, ja) = when_fits_sound path.index (follow w t path.first (first_side pair)) _ (then_second _ _ e) in
    let (b, fb, jb) = when_fits_sound path.index (follow w u path.second (second_side pair)) _ ja in
    let j₁ = then_second _ _ jb in
    let j₂ = then_second _ _ j₁ in
    let j₃ = then_second _ _ j₂ in
    record {
      first = a;
      second = b;
      followed_first = fa;
      followed_second = fb;
      ends_first = eqb-true _ _ (and_left (eqb (end_state t pair.first path.first) target.first) _ leads);
      walked = and_left (walkable u pair.second path.second) _ leads';
      ends_second = eqb-true _ _ (and_right (walkable u pair.second path.second) _ leads');
      assures = (check_facts _ _ _ (then_first _ _ j₁)).0;
      reading = λ p h. eqb-true _ _ (each_port_lem _ (check_facts _ _ _ (then_first _ _ j₂)).0 p h);
      writing = λ p h. same_sums _ _ (each_port_lem _ (check_facts _ _ _ (then_first _ _ j₃)).0 p h);
      linking = λ l m. same_sum_lem _ _ (all_at _ target.links (check_facts _ _ _ (then_second _ _ j₃)).0 m);
    }

-- What the rules of a path's record say of its sides and its target.
pub record PathRight (n : ℕ) (path : Path) : Type 0 where
  pub leaves : 1 ≤ length path.first
  pub short : length path.first ≤ 32
  pub possible : path.impossible ≡ false → (1 ≤ length path.second) × (path.target < n)

pub length_choices : (n x : ℕ) → length (choices n x) ≡ n
unfolding choices
length_choices zero x = refl
length_choices (suc n) x = ap suc (length_choices n _)

mark_says : (p m n x target : ℕ) → Facts (mark_rules p m n x target) → eqb m 1 ≡ false → (1 ≤ n) × (target < p)
unfolding mark_rules side_rules
mark_says p zero n x target f e = (f.1.0, f.0)
mark_says p (suc m) n x target f e =
    let z : m ≡ 0 = f.0 in
    clash (rw z refl) e

path_right : (image : List ℕ) (i : ℕ) → path_fault image i ≡ sound → PathRight (pairs image) (path_at image i)
unfolding path_fault path_at side_rules
path_right image i e =
    let f = check_facts _ _ _ e in
    record {
      leaves = rw length_choices f.0;
      short = rw length_choices f.1.0;
      possible = λ m. rw length_choices (mark_says _ (path_word image i 5) _ _ _ f.1.1.1 m);
    }

-- What acceptance says of a pair.
pub record Judged (w : ℕ) (t u : Table) (list : List ℕ) (i : ℕ) : Type 0 where
  pub stops_alike : is_stop (t (pair_at list i).first) ≡ is_stop (u (pair_at list i).second)
  pub covered : rule11 t 32 (pair_at list i).first (map (λ p. p.first) (pair_at list i).paths) ≡ true
  pub links_right : (l : Link) → Memᴰ l (pair_at list i).links → l.first < 16
  pub paths_right : (path : Path) → Memᴰ path (pair_at list i).paths → PathRight (pairs list) path
  pub refutes : (path : Path) → Memᴰ path (pair_at list i).paths → path.impossible ≡ true → Refuted w t (pair_at list i) path
  pub matches : (path : Path) → Memᴰ path (pair_at list i).paths → path.impossible ≡ false → Matched w t u (pair_at list i) path (pair_at list path.target)

marked : (b : Bool) (x y : Fault) → b ≡ true → cond b x y ≡ x
marked b x y e = rw e refl

unmarked : (b : Bool) (x y : Fault) → b ≡ false → cond b x y ≡ y
unmarked b x y e = rw e refl

path_refuted : (w : ℕ) (t u : Table) (pair_of : ℕ → Pair) (pair : Pair) (path : Path) → judge_path w t u pair_of pair path ≡ sound → path.impossible ≡ true → Refuted w t pair path
unfolding judge_path
path_refuted w t u pair_of pair path e m = refuted w t pair path (sym (marked path.impossible _ _ m) ∙ e)

path_matched : (w : ℕ) (t u : Table) (pair_of : ℕ → Pair) (pair : Pair) (path : Path) → judge_path w t u pair_of pair path ≡ sound → path.impossible ≡ false → Matched w t u pair path (pair_of path.target)
unfolding judge_path
path_matched w t u pair_of pair path e m = matched w t u pair path (pair_of path.target) (sym (unmarked path.impossible _ _ m) ∙ e)

module _ (w : ℕ) (first second list : List ℕ) (yes' : verdict_at w first second list ≡ accepted) where
  -- Each image is sound, and so is the judgement.

  sound_parts : (table_fault first ≡ sound) × (table_fault second ≡ sound) × (list_fault (states first) (states second) list ≡ sound) × (judgement w first second list ≡ sound)
  unfolding verdict_at
  sound_parts =
      let (a, r₁) = image_sound 0 (table_fault first) _ yes' in
      let (b, r₂) = image_sound 1 (table_fault second) _ r₁ in
      let (c, r₃) = image_sound 2 (list_fault (states first) (states second) list) _ r₂ in
      let (d, r₄) = image_sound 2 (judgement w first second list) _ r₃ in
      (a, b, c, d)

  list_sound : list_fault (states first) (states second) list ≡ sound
  list_sound = sound_parts.2

  link_sound : (j : ℕ) → j < links list → link_fault list j ≡ sound
  unfolding list_fault
  link_sound = record_sound (link_fault list) (links list) (then_first _ _ (then_second _ _ list_sound))

  path_sound : (j : ℕ) → j < paths list → path_fault list j ≡ sound
  unfolding list_fault
  path_sound = record_sound (path_fault list) (paths list) (then_first _ _ (then_second _ _ (then_second _ _ list_sound)))

  pair_sound : (i : ℕ) → i < pairs list → pair_fault (states first) (states second) list i ≡ sound
  unfolding list_fault
  pair_sound = record_sound (pair_fault (states first) (states second) list) (pairs list) (then_second _ _ (then_second _ _ (then_second _ _ list_sound)))

  -- There is a pair 0, at the reset states.
  pub reset_pair : (0 < pairs list) × ((pair_at list 0).first ≡ 0) × ((pair_at list 0).second ≡ 0)
  unfolding list_fault list_rules pair_fault reset_rules pair_at
  reset_pair =
      let some' : 0 < pairs list = (check_facts _ _ _ (then_first _ _ list_sound)).1.1.0 in
      let f = check_facts _ _ _ (then_first _ _ (pair_sound 0 some')) in
      (some', f.1.1.1.1.0, f.1.1.1.1.1.0)

  -- Every pair is judged sound.
  pub pair_judged : (i : ℕ) → i < pairs list → Judged w (table_of first) (table_of second) list i
  unfolding judgement judge_pair pair_fault pair_at link_fault
  pair_judged i h =
      let rules = check_facts _ _ _ (then_first _ _ (pair_sound i h)) in
      let judged = record_sound (judge_pair w (table_of first) (table_of second) (pair_at list)) (pairs list) sound_parts.3 i h in
      let j₁ = then_second _ _ judged in
      let one = judge_path w (table_of first) (table_of second) (pair_at list) (pair_at list i) in
      let each : (path : Path) → Memᴰ path (pair_at list i).paths → one path ≡ sound =
      λ path m. first_of_sound one (pair_at list i).paths (then_second _ _ j₁) m in
      record {
        stops_alike = beq_true _ _ (check_facts _ _ _ (then_first _ _ judged)).0;
        covered = (check_facts _ _ _ (then_first _ _ j₁)).0;
        links_right = λ l m.
            let (j, among, q) = Memᴰ.of_map (link_at list) _ m in
            let bounds = up_to_bounds _ _ among in
            let right = check_facts _ _ _ (link_sound j (omega arith)) in
            rw (← q) (omega arith);
        paths_right = λ path m.
            let (j, among, q) = Memᴰ.of_map (path_at list) _ m in
            let bounds = up_to_bounds _ _ among in
            rw (← q) (path_right list j (path_sound j (omega arith)));
        refutes = λ path m. path_refuted w _ _ (pair_at list) (pair_at list i) path (each path m);
        matches = λ path m. path_matched w _ _ (pair_at list) (pair_at list i) path (each path m);
      }
