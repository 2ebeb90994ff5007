-- A pair: rules 10 and 11, then its paths in order. Assumes nothing.
use Prim.Native.Nat.{ℕ, zero, suc, ◌+◌, ◌<◌, ◌^◌}
use mathlib.Core.Path.{◌≡◌, refl, sym, ◌∙◌, ap}
use mathlib.Core.Bool.{Bool, true, false, beq}
use mathlib.Core.List.Memᴰ
use mathlib.Core.List.{List, map}
use native.Mathlib.Omega.{arith}
use Rattle.std.specs.Prelude.{Err}
use Rattle.model.specs.Answer.{Fault, ◌then◌, first_of, up_to, word, stops_differ, not_covered}
use Rattle.model.specs.Word.{base}
use Rattle.model.specs.Table.{states, table_of}
use Rattle.model.specs.Run.{is_stop}
use Rattle.model.specs.Path.{rule11}
use Rattle.model.specs.Correspondence.{pairs, paths, links_at, link_at, path_at, pair_at}
use Rattle.model.specs.Judgement.{judge_path, judge_pair, judgement, partner}
use Rattle.model.proofs.Basics.{up_to_member}
use Rattle.fault.specs.Fault.{fault_at, checked_of}
use Rattle.list.specs.Checks.{pair_record}
use Rattle.list.specs.declared.PairRecord.{PairRecord}
use Rattle.list.proofs.Decoding.{links_begin, counts}
use Rattle.cover.proofs.Reaching.{covered_walkable}
use Rattle.env.specs.declared.Env.{Env}
use Rattle.env.specs.Env.{symbols_of}
use Rattle.judge.specs.declared.images.PairOf.{PairOf}
use Rattle.judge.specs.Images.{Checks, OwnSymbols, PartnerSymbols, Walked}
use Rattle.judge.specs.Judging.{Checked}
use Rattle.judge.proofs.Findings.{test_broken, test_passed}
use Rattle.judge.proofs.Decoded.{pair_sound, pair_first, pair_second, pair_links, pair_paths}

-- The first finding along a range of records is that along as many numbers from 0 on.
shifted : {A : Type 0} (f : A → Fault) (g : ℕ → A) (b i n : ℕ) → first_of f (map g (up_to (b + i) n)) ≡ first_of (λ k. f (g (b + k))) (up_to i n)
unfolding first_of up_to
shifted f g b i zero = refl
shifted f g b i (suc n) =
    let next : suc (b + i) ≡ b + suc i = omega arith in
    ap (λ h. f (g (b + i)) then h) (ap (λ k. first_of f (map g (up_to k n))) next ∙ shifted f g b (suc i) n)

module _ (P : PairOf) {p : PairRecord} (pe : p ≡ pair_record P.images.list.now P.i) where
  abbrev first : List ℕ
  first = P.images.first.now

  abbrev second : List ℕ
  second = P.images.second.now

  abbrev list : List ℕ
  list = P.images.list.now

  abbrev i : ℕ
  i = P.i

  checks : Checks first second list
  checks = P.images.checks

  -- What is found of the k-th path of the pair.
  abbrev pub PathFault : ℕ → Fault
  PathFault k = judge_path base (table_of first) (table_of second) (pair_at list) (pair_at list i) (path_at list (p.path + k))

  -- Along the paths of the pair.
  pub paths_along : first_of PathFault (up_to 0 p.paths) ≡ first_of (judge_path base (table_of first) (table_of second) (pair_at list) (pair_at list i)) (pair_at list i).paths
  paths_along =
      let zero_more : p.path + 0 ≡ p.path = omega arith in
      sym
      (ap (first_of (judge_path base (table_of first) (table_of second) (pair_at list) (pair_at list i))) (pair_paths P pe)
      ∙ ap (λ b. first_of (judge_path base (table_of first) (table_of second) (pair_at list) (pair_at list i)) (map (path_at list) (up_to b p.paths))) (sym zero_more)
      ∙ shifted (judge_path base (table_of first) (table_of second) (pair_at list) (pair_at list i)) (path_at list) p.path 0 p.paths)

  -- A path of the pair is one of the list's.
  pub path_among : (k : ℕ) → k < p.paths → (p.path + k < paths list) × (p.path + k < 512)
  path_among k h =
      let range = (pair_sound P pe).paths in
      let most = (counts (states first) (states second) list checks.2).1.1.1 in
      (omega arith, omega arith)

  pub path_room : p.path + p.paths < 2 ^ 32
  path_room =
      let range = (pair_sound P pe).paths in
      omega (arith, (counts (states first) (states second) list checks.2).1.1.1)

  -- Where rule 11 holds each of them can be walked.
  pub path_walked : rule11 (table_of first) 32 (pair_at list i).first (map (λ q. q.first) (pair_at list i).paths) ≡ true → (k : ℕ) → k < p.paths → Walked first list i (p.path + k)
  path_walked covered k h =
      covered_walkable (table_of first) 32 (pair_at list i).first _ covered (path_at list (p.path + k)).first
      (rw (pair_paths P pe) (Memᴰ.map (λ q. q.first) (Memᴰ.map (path_at list) (up_to_member p.path p.paths k h))))

  -- The links of the pair are few, and begin where the header says.

  pub link_room : {at : ℕ} → at ≡ word list 5 → (at ≡ links_at list) × (p.link + p.links < 2 ^ 32)
  link_room e =
      let range = (pair_sound P pe).links in
      let most = (counts (states first) (states second) list checks.2).1.1.0 in
      (e ∙ links_begin (states first) (states second) list checks.2, omega arith)

  pub linked_is : {symbols : List ℕ} {env : Env} → symbols ≡ map (partner (map (link_at list) (up_to p.link p.links))) (up_to 0 16) → env ≡ symbols_of symbols → PartnerSymbols list i env
  linked_is e w = rw (pair_links P pe) (w ∙ ap symbols_of e)

  -- Rules 10 and 11.
  abbrev Found : Checked
  Found = checked_of (judge_pair base (table_of first) (table_of second) (pair_at list) i)

  module _ {a b : Bool} (ae : a ≡ is_stop (table_of first p.first)) (be : b ≡ is_stop (table_of second p.second)) where
    alike_is : beq (is_stop (table_of first (pair_at list i).first)) (is_stop (table_of second (pair_at list i).second)) ≡ beq a b
    alike_is = rw (pair_first P pe, pair_second P pe, ← ae, ← be) refl

    pub pair_differs : beq a b ≡ false → Err (fault_at stops_differ i) ≡ Found
    unfolding judge_pair
    pair_differs h = test_broken stops_differ i _ (alike_is ∙ h)

    module _ (alike : beq a b ≡ true) {c : Bool} (ce : c ≡ rule11 (table_of first) 32 p.first (map (λ q. q.first) (map (path_at list) (up_to p.path p.paths)))) where
      covered_is : rule11 (table_of first) 32 (pair_at list i).first (map (λ q. q.first) (pair_at list i).paths) ≡ c
      covered_is = rw (pair_first P pe, pair_paths P pe, ← ce) refl

      pub pair_uncovered : c ≡ false → Err (fault_at not_covered i) ≡ Found
      unfolding judge_pair
      pair_uncovered h = test_broken not_covered i _ (covered_is ∙ h) ∙ ap checked_of (sym (test_passed stops_differ i _ (alike_is ∙ alike)))

      pub pair_covered : c ≡ true → rule11 (table_of first) 32 (pair_at list i).first (map (λ q. q.first) (pair_at list i).paths) ≡ true
      pair_covered h = covered_is ∙ h

      pub pair_found_lem : c ≡ true → {r : Checked} → r ≡ checked_of (first_of (judge_path base (table_of first) (table_of second) (pair_at list) (pair_at list i)) (pair_at list i).paths) → r ≡ Found
      unfolding judge_pair
      pair_found_lem h e = e ∙ ap checked_of (sym (test_passed stops_differ i _ (alike_is ∙ alike) ∙ test_passed not_covered i _ (covered_is ∙ h)))

-- All pairs, as many as the header counts.

pub pair_count : (list : List ℕ) (i : ℕ) {n : ℕ} → n ≡ word list 2 → i < n → i < pairs list
unfolding pairs
pair_count list i e h = rw (← e) h

pub own_is : {symbols : List ℕ} {env : Env} → symbols ≡ up_to 0 16 → env ≡ symbols_of symbols → OwnSymbols env
own_is e w = w ∙ ap symbols_of e

pub along_pairs : (first second list : List ℕ) {n : ℕ} → n ≡ word list 2
    → checked_of (first_of (judge_pair base (table_of first) (table_of second) (pair_at list)) (up_to 0 n)) ≡ checked_of (judgement base first second list)
unfolding judgement pairs
along_pairs first second list e = ap (λ n. checked_of (first_of (judge_pair base (table_of first) (table_of second) (pair_at list)) (up_to 0 n))) e
