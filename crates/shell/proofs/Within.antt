-- What an answer of `shell` says of its count. Assumes nothing.
use Prim.Native.Nat.{ℕ, ◌≤◌}
use mathlib.Core.Path.{◌≡◌}
use Rattle.std.specs.Prelude.{Option, Some, Result, Ok, IfSome, IfOk}
use Rattle.std.proofs.lemmas.Result.{IfOk-at_ok}

-- The bytes that were read are at most as many as there is room for.
pub read_within : {E : Type 0} {r : Result ℕ E} {n room : ℕ} → r ≡ Ok n → IfOk r (λ m. m ≤ room) → n ≤ room
read_within {E} {r} {n} {room} e h = IfOk-at_ok (λ m. m ≤ room) e h

-- So are the bytes of an argument.
pub text_within : {r : Option ℕ} {n room : ℕ} → r ≡ Some n → IfSome r (λ m. m ≤ room) → n ≤ room
text_within {r} {n} {room} e h = rw e at h
