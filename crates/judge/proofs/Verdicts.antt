-- The verdict: "first table, second, correspondence, judgement", the first finding first. Assumes nothing.
use Prim.Native.Nat.{ℕ}
use mathlib.Core.Path.{◌≡◌, sym, ◌∙◌, ap}
use mathlib.Core.List.{List}
use Rattle.model.specs.Answer.{accepted, word}
use Rattle.model.specs.Word.{base}
use Rattle.model.specs.Table.{states, table_fault}
use Rattle.model.specs.Correspondence.{list_fault}
use Rattle.model.specs.Judgement.{judgement, verdict_at, verdict}
use Rattle.std.specs.Prelude.{Ok, Err}
use Rattle.fault.specs.declared.Fault.{Fault}
use Rattle.fault.specs.Fault.{checked_of}
use Rattle.fault.proofs.Rules.{is_sound}
use Rattle.judge.specs.declared.Answer.{Answer}
use Rattle.judge.specs.Images.{Checks}
use Rattle.judge.specs.Judging.{Checked, parts_of, refused_of, answer_of}
use Rattle.judge.proofs.Findings.{image_broken, image_sound}

module _ (first second list : List ℕ) {a : Checked} (ae : a ≡ checked_of (table_fault first)) where
  abbrev Given : Answer
  Given = answer_of (verdict first second list)

  pub verdict_first : {e : Fault} → a ≡ Err e → refused_of e 1 ≡ Given
  unfolding verdict verdict_at
  verdict_first h = image_broken 1 (table_fault first) _ ae h

  module _ (ah : a ≡ Ok tt) {b : Checked} (be : b ≡ checked_of (table_fault second)) where
    pub verdict_second : {e : Fault} → b ≡ Err e → refused_of e 2 ≡ Given
    unfolding verdict verdict_at
    verdict_second h = image_broken 2 (table_fault second) _ be h ∙ ap answer_of (sym (image_sound 1 (table_fault first) _ ae ah))

    module _ (bh : b ≡ Ok tt) {m n : ℕ} (me : m ≡ word first 2) (ne : n ≡ word second 2) {c : Checked} (ce : c ≡ checked_of (list_fault m n list)) where
      listed : c ≡ checked_of (list_fault (states first) (states second) list)
      unfolding states
      listed = ce ∙ (λ i. checked_of (list_fault (me i) (ne i) list))

      pub verdict_list : {e : Fault} → c ≡ Err e → refused_of e 3 ≡ Given
      unfolding verdict verdict_at
      verdict_list h =
          image_broken 3 (list_fault (states first) (states second) list) _ listed h
          ∙ ap answer_of (sym (image_sound 1 (table_fault first) _ ae ah ∙ image_sound 2 (table_fault second) _ be bh))

      module _ (ch : c ≡ Ok tt) where
        pub three_sound : Checks first second list
        three_sound = (is_sound (table_fault first) ae ah, is_sound (table_fault second) be bh, is_sound (list_fault (states first) (states second) list) listed ch)

        module _ {d : Checked} (de : d ≡ checked_of (judgement base first second list)) where
          pub verdict_broken : {e : Fault} → d ≡ Err e → refused_of e 3 ≡ Given
          unfolding verdict verdict_at
          verdict_broken h =
              image_broken 3 (judgement base first second list) _ de h
              ∙ ap answer_of
              (sym
              (image_sound 1 (table_fault first) _ ae ah
              ∙ image_sound 2 (table_fault second) _ be bh
              ∙ image_sound 3 (list_fault (states first) (states second) list) _ listed ch))

          pub verdict_accepted : d ≡ Ok tt → parts_of 0 0 0 ≡ Given
          unfolding verdict verdict_at answer_of accepted
          verdict_accepted h =
              ap answer_of
              (sym
              (image_sound 1 (table_fault first) _ ae ah
              ∙ image_sound 2 (table_fault second) _ be bh
              ∙ image_sound 3 (list_fault (states first) (states second) list) _ listed ch
              ∙ image_sound 3 (judgement base first second list) accepted de h))
