-- What is answered where the table or the input is refused, and where neither is. 01: "A run checks its table, then 24." Assumes nothing.
use Prim.Native.Nat.{ℕ}
use mathlib.Core.Path.{◌≡◌, refl, sym, ◌∙◌, ap}
use mathlib.Core.Bool.{Bool, true, false}
use mathlib.Core.List.{List}
use native.Mathlib.Omega.{arith}
use Rattle.std.specs.Prelude.{Ok, Err}
use Rattle.model.specs.Answer.{Fault, sound, broken, all_kept, check, wrong_input}
use Rattle.model.specs.Table.{table_fault}
use Rattle.model.specs.Word.{base}
use Rattle.model.specs.Run.{End, zeros, image_of, trial_of, buffer_of, run_fault, end_of, trial, trial_buffer}
use Rattle.run.specs.declared.Ended.{Ended}
use Rattle.model.specs.Answer.{number_of}
use Rattle.fault.specs.Fault.{checked_of, fault_at, reason_of}
use Rattle.fault.specs.declared.Fault as declared
use Rattle.fault.specs.declared.Reason.{Reason}
use Rattle.fault.specs.declared.Reason.TheVariants as reasons
use Rattle.fault.proofs.Rules.{Checked, first_broken, first_sound, is_sound, refused, check_kept, then_sound, all_kept_lem}
use Rattle.model.proofs.Basics.{then_first, then_second, check_facts}
use Rattle.run.specs.Answers.{answer_of, input_rules, refused_of, ended_of, end_as}
use Rattle.run.proofs.Reasons.{reason_back}

-- The image that a refusal names: none for a wrong input, and else the first.

pub names_none : {r : Reason} → r ≡ reasons.WrongInput → 0 ≡ image_of (reason_of r)
unfolding image_of reason_of number_of
names_none e = rw e refl

pub names_first : (r : Reason) → (r ≡ reasons.WrongInput → ⊥) → 1 ≡ image_of (reason_of r)
unfolding image_of reason_of number_of
names_first reasons.WrongTable h = refl
names_first reasons.WrongState h = refl
names_first reasons.WrongAction h = refl
names_first reasons.WrongEdge h = refl
names_first reasons.WrongExpression h = refl
names_first reasons.WrongList h = refl
names_first reasons.WrongLink h = refl
names_first reasons.WrongPath h = refl
names_first reasons.WrongPair h = refl
names_first reasons.StopsDiffer h = refl
names_first reasons.NotCovered h = refl
names_first reasons.DoesNotFollow h = refl
names_first reasons.OverSize h = refl
names_first reasons.OverTests h = refl
names_first reasons.NoContradiction h = refl
names_first reasons.NotAssured h = refl
names_first reasons.ReadsDiffer h = refl
names_first reasons.WritesDiffer h = refl
names_first reasons.LinkNotKept h = refl
names_first reasons.EndStop h = refl
names_first reasons.EndLimit h = refl
names_first reasons.EndInput h = refl
names_first reasons.EndRoom h = refl
names_first reasons.WrongInput h = absurd (h refl)

-- The check of a table and its input.

module _ (image input : List ℕ) where
  -- What is found in the table.
  pub found_table : {r : Checked} {b : declared.Fault} → r ≡ checked_of (table_fault image) → r ≡ Err b → Err b ≡ checked_of (run_fault image input)
  unfolding run_fault
  found_table e k = first_broken (table_fault image) _ e k

  module _ {r : Checked} {b : Bool} (e : r ≡ checked_of (table_fault image)) (k : r ≡ Ok tt) (m : b ≡ all_kept (input_rules input)) where
    -- What is found behind a sound table.
    behind_table : run_fault image input ≡ check wrong_input 0 (input_rules input)
    unfolding run_fault input_rules
    behind_table = first_sound (table_fault image) _ e k

    pub found_none : b ≡ true → Ok tt ≡ checked_of (run_fault image input)
    unfolding checked_of
    found_none h = rw (behind_table, check_kept wrong_input 0 (input_rules input) m h)

    pub found_input : b ≡ false → Err (fault_at wrong_input 0) ≡ checked_of (run_fault image input)
    found_input h = refused wrong_input 0 (input_rules input) sound m h ∙ ap checked_of (then_sound _ ∙ sym behind_table)

-- What is answered.

pub nothing_found : (image input : List ℕ) {r : Checked} → r ≡ checked_of (run_fault image input) → r ≡ Ok tt
    → (table_fault image ≡ sound) × (all_kept (input_rules input) ≡ true)
unfolding run_fault input_rules
nothing_found image input e k =
    let all = is_sound (run_fault image input) e k in
    (then_first _ _ all, sym (all_kept_lem _ (check_facts wrong_input 0 (input_rules input) (then_second _ _ all))))

ended_is : (e : End) → ended_of (end_as e) ≡ answer_of (trial_of sound e)
unfolding ended_of end_as answer_of trial_of
ended_is e = rw (reason_back e.reason) refl

refused_is : (f : Fault) (e : End) {r : Checked} {b : declared.Fault} → r ≡ checked_of f → r ≡ Err b → refused_of b ≡ answer_of (trial_of f e)
unfolding checked_of trial_of answer_of refused_of
refused_is sound e q k = absurd (let z : ◌≡◌ {A = ℕ} 0 1 = cc in omega arith)
refused_is (broken m j) e {r} {b} q k =
    let same : b ≡ fault_at m j = cc in
    rw (same, reason_back m) refl

stays : (f : Fault) (e : End) (out : List ℕ) {r : Checked} {b : declared.Fault} → r ≡ checked_of f → r ≡ Err b → out ≡ buffer_of f e out
unfolding checked_of buffer_of
stays sound e out q k = absurd (let z : ◌≡◌ {A = ℕ} 0 1 = cc in omega arith)
stays (broken m j) e out q k = refl

module _ (image input : List ℕ) (limit : ℕ) (out : List ℕ) {r : Checked} (found : r ≡ checked_of (run_fault image input)) where
  pub refused_run : {b : declared.Fault} → r ≡ Err b
      → (refused_of b ≡ answer_of (trial base zeros image input limit out)) × (out ≡ trial_buffer base zeros image input limit out)
  unfolding trial trial_buffer
  refused_run k = (refused_is (run_fault image input) _ found k, stays (run_fault image input) _ out found k)

  pub ended_run : {image' out' : List ℕ} {e : Ended} → r ≡ Ok tt → image' ≡ image → e ≡ end_as (end_of base zeros image' input limit out)
      → out' ≡ buffer_of sound (end_of base zeros image' input limit out) out
      → (ended_of e ≡ answer_of (trial base zeros image input limit out)) × (out' ≡ trial_buffer base zeros image input limit out)
  unfolding trial trial_buffer
  ended_run k same q w =
      let none = is_sound (run_fault image input) found k in
      rw (none, ← same) (ap ended_of q ∙ ended_is _, w)
