-- `exports::sandulipaw_run` meets its contract: six numbers and the variables fill the buffer. Assumes nothing.
use Prim.Native.Nat.{ℕ, ◌<◌}
use mathlib.Core.Path.{◌≡◌, ap}
use mathlib.Core.List.{◌++◌, append-nil}
use native.Mathlib.Omega.{arith}
use borrow.Author.Rules.{rules}
use lib.ListN.{length, get_or, drop, drop_of_length-le, length-drop, length-append}
use Rattle.std.proofs.lemmas.List.{ext_get_or}
use Rattle.exports.specs.Numbers.{numbers_of}
use Rattle.exports.proofs.sandulipaw_run.Goals as goal

pub returns-clause-answer_after : goal.returns-clause-answer_after
unfolding numbers_of
returns-clause-answer_after c =
    let full : length c.run-t.result.variables ≡ 16 = search rules in
    let long : length c.map.result ≡ 16 = c.map.ensures.items.long in
    let same : (i : ℕ) → i < length c.map.result → get_or c.map.result i 0 ≡ get_or c.run-t.result.variables i 0 = λ i h.
    let m = (c.map.ensures.items.at i 0 0 (omega arith)).2 in search rules in
    let e = ext_get_or 0 c.map.result c.run-t.result.variables (omega arith) same in
    let six = c.copy_from_slice.new.self ++ drop 6 c.args.answer.now in
    let n = ap length c.copy_from_slice.ensures.after in
    let none = drop_of_length-le (drop 6 six) {i = 16} (omega (arith, length-drop 6 six, length-append {A = ℕ}, length-drop {A = ℕ}, n)) in
    rw (c.copy_from_slice-2.ensures.after, e, none, append-nil, c.copy_from_slice.ensures.after)
    (rw (c.from.ensures, c.from-2.ensures, c.from-3.ensures, c.from-4.ensures, c.from-5.ensures) (ap numbers_of c.run-t.ensures.value))
