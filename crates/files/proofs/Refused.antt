-- What is lent for a file that is no whole words or too long is refused at its image's turn. Assumes nothing.
use Prim.Native.Nat.{ℕ, ◌%◌, ◌≤◌}
use mathlib.Core.Path.{◌≡◌, refl}
use mathlib.Core.List.{List, []}
use native.Mathlib.Omega.{arith}
use lib.ListN.{length, take}
use lib.Seq.{length-take-le}
use borrow.Author.Tests.{ne_eqb}
use Rattle.model.specs.Answer.{broken, wrong_table, wrong_list, wrong_input, ◌then◌, kept, all_kept, check, word}
use Rattle.model.specs.Run.{run_fault}
use Rattle.model.specs.Table.{header_rules, table_fault}
use Rattle.model.specs.Correspondence.{list_rules, list_fault}

-- Nothing is lent for such a table, and no words are refused by 1.
pub none_refused : table_fault [] ≡ broken wrong_table 0
unfolding table_fault check all_kept kept header_rules word ◌then◌
none_refused = refl

-- So it is with a correspondence, and no words are refused by 6.
pub no_list_refused : (m n : ℕ) → list_fault m n [] ≡ broken wrong_list 0
unfolding list_fault check all_kept kept list_rules word ◌then◌
no_list_refused m n = refl

-- One word is lent for such an input, and one word is refused by 24 behind the table's faults.
pub lone_refused : (image out : List ℕ) → 1 ≤ length out → run_fault image (take 1 out) ≡ table_fault image then broken wrong_input 0
unfolding run_fault check all_kept kept
lone_refused image out h =
    let n : length (take 1 out) % 2 ≡ 1 = omega (arith, length-take-le 1 out h) in
    let e : length (take 1 out) % 2 ≡ 0 → ⊥ = λ z. omega arith in
    rw (ne_eqb (length (take 1 out) % 2) 0 e) refl
