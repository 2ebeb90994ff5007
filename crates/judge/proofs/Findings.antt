-- Rules of one test each, as the code finds them; and the answer that a finding in an image gives. Assumes nothing.
use Prim.Native.Nat.{ℕ}
use mathlib.Core.Path.{◌≡◌, refl, sym, ◌∙◌, ap}
use mathlib.Core.Bool.{Bool, true, false}
use mathlib.Core.List.{[], ◌∷◌}
use native.Mathlib.Omega.{arith}
use Rattle.std.specs.Prelude.{Result, Ok, Err}
use Rattle.std.specs.Result.{is_ok}
use Rattle.sum.specs.declared.TooLarge.{TooLarge}
use Rattle.model.specs.Answer as Model
use Rattle.model.specs.Answer.{Reason, Fault, sound, broken, number_of, ◌then◌, so, check, in_image}
use Rattle.fault.specs.declared.Reason as declared_reason
use Rattle.fault.specs.declared.Fault as declared
use Rattle.fault.specs.Fault.{reason_of, reason_as, fault_at, checked_of}
use Rattle.fault.proofs.Rules.{refused, passed, then_sound, so_kept}
use Rattle.judge.specs.Judging.{Checked, parts_of, refused_of, answer_of, found_of}

module _ (n : Reason) (i : ℕ) {b : Bool} where
  -- A broken test is found before anything behind it.
  pub test_broken : (g : Fault) → b ≡ false → Err (fault_at n i) ≡ checked_of (check n i (so b ∷ []) then g)
  test_broken g h = refused n i (so b ∷ []) g (so_kept b) h

  -- Behind a test that is passed the next is found.
  pub test_passed : (g : Fault) → b ≡ true → (check n i (so b ∷ []) then g) ≡ g
  test_passed g h = passed n i (so b ∷ []) g (so_kept b) h

-- The last test is the finding.
pub test_last : (n : Reason) (i : ℕ) (b : Bool) → found_of b (reason_as n) i ≡ checked_of (check n i (so b ∷ []))
unfolding found_of checked_of
test_last n i true = ap checked_of (sym (test_passed n i sound refl) ∙ then_sound _)
test_last n i false = test_broken n i sound refl ∙ ap checked_of (then_sound _)

-- What a test answers says whether it is passed.
module _ (x : Bool) (n : declared_reason.Reason) (i : ℕ) {r : Checked} (e : r ≡ found_of x n i) where
  pub found_kept : r ≡ Ok tt → x ≡ true
  unfolding found_of
  found_kept h = by x e
    where
      by : (x : Bool) → r ≡ found_of x n i → x ≡ true
      by true e = refl
      by false e = absurd (let z : ◌≡◌ {A = ℕ} 0 1 = cc in omega arith)

  pub found_broken : {f : declared.Fault} {R : Checked} → r ≡ Err f → (x ≡ false → Err (record { reason = n; «record» = i }) ≡ R) → Err f ≡ R
  unfolding found_of
  found_broken {f} {R} h k = by x e k
    where
      by : (x : Bool) → r ≡ found_of x n i → (x ≡ false → Err (record { reason = n; «record» = i }) ≡ R) → Err f ≡ R
      by true e k = absurd (let z : ◌≡◌ {A = ℕ} 0 1 = cc in omega arith)
      by false e k = sym h ∙ e ∙ k refl

-- A side that is followed fits, or is too large.

pub fits_if : (z : Result (Unit {0}) TooLarge) {x : Bool} → x ≡ is_ok z → x ≡ true → z ≡ Ok tt
fits_if (Ok u) e h = refl
fits_if (Err t) e h = absurd (let z : ◌≡◌ {A = ℕ} 0 1 = cc in omega arith)

pub large_if : (z : Result (Unit {0}) TooLarge) {x : Bool} → x ≡ is_ok z → x ≡ false → z ≡ Err (record {})
large_if (Ok u) e h = absurd (let z : ◌≡◌ {A = ℕ} 0 1 = cc in omega arith)
large_if (Err t) e h = refl

-- The number of the model's reason is that of the code's.
numbers : (n : Reason) → reason_of (reason_as n) ≡ n
unfolding reason_of
numbers Model.wrong_table = refl
numbers Model.wrong_state = refl
numbers Model.wrong_action = refl
numbers Model.wrong_edge = refl
numbers Model.wrong_expression = refl
numbers Model.wrong_list = refl
numbers Model.wrong_link = refl
numbers Model.wrong_path = refl
numbers Model.wrong_pair = refl
numbers Model.stops_differ = refl
numbers Model.not_covered = refl
numbers Model.does_not_follow = refl
numbers Model.over_size = refl
numbers Model.over_tests = refl
numbers Model.no_contradiction = refl
numbers Model.not_assured = refl
numbers Model.reads_differ = refl
numbers Model.writes_differ = refl
numbers Model.link_not_kept = refl
numbers Model.end_stop = refl
numbers Model.end_limit = refl
numbers Model.end_input = refl
numbers Model.end_room = refl
numbers Model.wrong_input = refl

-- A finding in an image is the answer; else the later one is.

pub image_broken : (k : ℕ) (f : Fault) (later : Model.Answer) {r : Checked} {e : declared.Fault} → r ≡ checked_of f → r ≡ Err e
    → refused_of e k ≡ answer_of (in_image k f later)
unfolding checked_of in_image answer_of refused_of
image_broken k sound later e h = absurd (let z : ◌≡◌ {A = ℕ} 0 1 = cc in omega arith)
image_broken k (broken m j) later {r} {e = f} e h =
    let q : f ≡ fault_at m j = cc in
    ap (λ x. refused_of x k) q ∙ ap (λ x. parts_of (number_of x) k j) (numbers m)

pub image_sound : (k : ℕ) (f : Fault) (later : Model.Answer) {r : Checked} → r ≡ checked_of f → r ≡ Ok tt → in_image k f later ≡ later
unfolding checked_of in_image
image_sound k sound later e h = refl
image_sound k (broken m j) later e h = absurd (let z : ◌≡◌ {A = ℕ} 0 1 = cc in omega arith)
