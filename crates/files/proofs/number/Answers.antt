-- `files::number` meets its contract, by what std promises of its parts. Assumes nothing.
use mathlib.Core.Path.{◌≡◌, ◌∙◌}
use native.Mathlib.Omega.{arith}
use Rattle.std.proofs.lemmas.Grind.{common_steps}
use Rattle.files.proofs.Digits.{first_is, first_is_not, number_plus, number_foreign, same_text, number_read}
use Rattle.files.proofs.number.Goals as goal

pub returns-then-eq : goal.returns-then-eq
returns-then-eq c = number_plus c.args.text.now (first_is c.args.text.now 43 (cc (c.if-eq.true, c.eq.ensures, c.copied.ensures, c.first.ensures.value)))

pub returns-in_err-digits : goal.returns-in_err-digits
returns-in_err-digits c = c.from_residual.ensures ∙ number_foreign c.args.text.now c.from_utf8.result _ _ c.from_utf8.ensures.cases c.in_err-digits.ensures.value

pub returns : goal.returns
returns c =
    let p = first_is_not c.args.text.now 43 (λ z. omega arith) (cc (c.if-eq.false, c.eq.ensures, c.copied.ensures, c.first.ensures.value)) in
    let e : c.in_ok-digits.digits.now ≡ c.args.text.now = same_text _ c.from_utf8.result c.in_ok-digits.digits _ _ c.from_utf8.ensures.cases c.in_ok-digits.ensures.value ∙ (grind (arith, common_steps)) in
    c.ok-2.ensures.value ∙ number_read c.args.text.now c.parse.result (rw e at c.parse.ensures.value.0) p
