-- `word::signed` is the definition at width 32. Assumes nothing.
use Rattle.std.proofs.Common.{◌≡◌, ℕ, suc, ◌-◌, ◌^◌, ◌<◌, pos, negsuc, ◌-ℤ◌, refl, ◌∙◌, arith, to_z-of_z, w64, SFits, to_z, rules, le-ltb, lt-ltb}
use mir.Facts.{to_z_pos}
use Rattle.model.specs.Word.{signed}
use Rattle.word.proofs.signed.Goals as goal

-- A word, as a number of 64 bits with a sign, and less 2^32.

whole : (x : ℕ) → x < 2 ^ 32 → to_z w64 x ≡ pos x
whole x h = to_z_pos w64 (omega arith)

less : (x : ℕ) → x < 2 ^ 32 → to_z w64 x -ℤ pos 4294967296 ≡ negsuc (4294967296 - suc x)
less x h = rw (whole x h, lt-ltb x 4294967296 h) refl

less_fits : (x : ℕ) → x < 2 ^ 32 → SFits w64 (to_z w64 x -ℤ pos 4294967296)
less_fits x h = rw (less x h) (record { sfits = omega arith })

pub returns-then-x-lt2147483648 : goal.returns-then-x-lt2147483648
unfolding signed
returns-then-x-lt2147483648 c =
    let x = c.args.x in
    rw (lt-ltb x 2147483648 (omega arith)) (whole x (omega arith))

pub returns-else-x-lt2147483648 : goal.returns-else-x-lt2147483648
unfolding signed
returns-else-x-lt2147483648 c =
    let x = c.args.x in
    rw (le-ltb x 2147483648 (omega arith)) (to_z-of_z (less_fits x (omega arith)) ∙ less x (omega arith))
