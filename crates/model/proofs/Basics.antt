-- Laws that all other proofs use: what a passed test says, members of lists, what it means that no fault was found, and that what
-- fits comes from parts that fit. Assumes nothing.
use Prim.Native.Nat.{ℕ, zero, suc, ◌+◌, ◌≤◌, ◌<◌}
use mathlib.Core.Path.{◌≡◌, refl, sym, ◌∙◌, ap}
use mathlib.Core.Logic.{◌⊎◌, inl, inr, ⊎_elim}
use mathlib.Core.Bool.{Bool, true, false, cond, ◌&&◌, ◌||◌, beq}
use mathlib.Core.List.{List, [], ◌∷◌, Memᴰ}
use native.Mathlib.Omega.{arith}
use lib.Dec.{leb, eqb}
use lib.ListN.{length}
use borrow.Author.Tests.{ltb-true, leb-true, eqb-true}
use Rattle.model.specs.Answer.{Reason, Fault, sound, broken, ◌then◌, first_of, up_to, Rule, le, lt, is, so, kept, all_kept, check}
use Rattle.model.specs.Run.{each_port}
use Rattle.model.specs.Sum.{Term, Sum, Outcome, too_large, fits, and_then, fit, same, same_term, same_sum}
use Rattle.model.specs.Judgement.{all, any}

-- Tests.

pub clash : {A : Type 0} {b : Bool} → b ≡ true → b ≡ false → A
clash p q = absurd (let z : ◌≡◌ {A = ℕ} 0 1 = cc in omega arith)

pub and_left : (a b : Bool) → (a && b) ≡ true → a ≡ true
and_left true b e = refl
and_left false b e = e

pub and_right : (a b : Bool) → (a && b) ≡ true → b ≡ true
and_right true b e = e
and_right false b e = clash e refl

pub and_both : {a b : Bool} → a ≡ true → b ≡ true → (a && b) ≡ true
and_both p q = rw (p, q) refl

pub or_cases : (a b : Bool) → (a || b) ≡ true → (a ≡ true) ⊎ (b ≡ true)
or_cases true b e = inl refl
or_cases false b e = inr e

pub beq_true : (a b : Bool) → beq a b ≡ true → a ≡ b
beq_true true true e = refl
beq_true true false e = clash e refl
beq_true false true e = clash e refl
beq_true false false e = refl

pub beq_same : (a : Bool) → beq a a ≡ true
beq_same true = refl
beq_same false = refl

-- Two tests of which each follows from the other are the same.
pub same_tests : (a b : Bool) → (a ≡ true → b ≡ true) → (b ≡ true → a ≡ true) → a ≡ b
same_tests true b f g = sym (f refl)
same_tests false true f g = g refl
same_tests false false f g = refl

pub each_port_lem : (f : ℕ → Bool) → each_port f ≡ true → (p : ℕ) → p < 4 → f p ≡ true
unfolding each_port
each_port_lem f e zero h = and_left (f 0) _ e
each_port_lem f e (suc zero) h = and_left (f 1) _ (and_right (f 0) _ e)
each_port_lem f e (suc (suc zero)) h = and_left (f 2) _ (and_right (f 1) _ (and_right (f 0) _ e))
each_port_lem f e (suc (suc (suc zero))) h = and_right (f 2) _ (and_right (f 1) _ (and_right (f 0) _ e))
each_port_lem f e (suc (suc (suc (suc p)))) h = absurd (omega arith)

-- Two lists that are the same place by place are equal.

pub same_true : {A : Type 0} (eq : A → A → Bool) → ((a b : A) → eq a b ≡ true → a ≡ b) → (l m : List A) → same eq l m ≡ true → l ≡ m
unfolding same
same_true eq h [] [] e = refl
same_true eq h [] (b ∷ m) e = clash e refl
same_true eq h (a ∷ l) [] e = clash e refl
same_true eq h (a ∷ l) (b ∷ m) e =
    let p : a ≡ b = h a b (and_left (eq a b) _ e) in
    let q : l ≡ m = same_true eq h l m (and_right (eq a b) _ e) in
    cc

pub same_symbols : (l m : List ℕ) → same eqb l m ≡ true → l ≡ m
same_symbols = same_true eqb eqb-true

pub same_term_lem : (t u : Term) → same_term t u ≡ true → t ≡ u
unfolding same_term
same_term_lem t u e =
    let p : t.coefficient ≡ u.coefficient = eqb-true _ _ (and_left (eqb t.coefficient u.coefficient) _ e) in
    let q : t.symbols ≡ u.symbols = same_symbols _ _ (and_right (eqb t.coefficient u.coefficient) _ e) in
    λ i. record { coefficient = p i; symbols = q i }

pub same_sum_lem : (s t : Sum) → same_sum s t ≡ true → s ≡ t
unfolding same_sum
same_sum_lem = same_true same_term same_term_lem

pub same_sums : (l m : List Sum) → same same_sum l m ≡ true → l ≡ m
same_sums = same_true same_sum same_sum_lem

-- What is tested of all members, or of some member.

pub all_at : {A : Type 0} (f : A → Bool) (l : List A) → all f l ≡ true → {a : A} → Memᴰ a l → f a ≡ true
unfolding all
all_at f [] e m = absurd (mathlib.Core.List.Memᴰ.not-nil m)
all_at f (b ∷ l) e m =
    ⊎_elim
    (λ p. ap f p ∙ and_left (f b) _ e)
    (λ m'. all_at f l (and_right (f b) _ e) m')
    (mathlib.Core.List.Memᴰ.cases_cons m)

pub any_at : {A : Type 0} (f : A → Bool) (l : List A) → any f l ≡ true → (a : A) × Memᴰ a l × (f a ≡ true)
unfolding any
any_at f [] e = clash e refl
any_at f (b ∷ l) e =
    ⊎_elim
    (λ p. (b, mathlib.Core.List.Memᴰ.head refl, p))
    (λ q. let r = any_at f l q in (r.0, mathlib.Core.List.Memᴰ.tail r.1, r.2))
    (or_cases (f b) _ e)

-- The numbers from i.

pub up_to_member : (i n j : ℕ) → j < n → Memᴰ (i + j) (up_to i n)
unfolding up_to
up_to_member i zero j h = absurd (omega arith)
up_to_member i (suc n) zero h =
    let e : i + zero ≡ i = omega arith in
    mathlib.Core.List.Memᴰ.head e
up_to_member i (suc n) (suc j) h =
    let e : i + suc j ≡ suc i + j = omega arith in
    let m : Memᴰ (i + suc j) (up_to (suc i) n) = rw e (up_to_member (suc i) n j (omega arith)) in
    mathlib.Core.List.Memᴰ.tail m

pub up_to_bounds : (i n : ℕ) {x : ℕ} → Memᴰ x (up_to i n) → (i ≤ x) × (x < i + n)
unfolding up_to
up_to_bounds i zero m = absurd (mathlib.Core.List.Memᴰ.not-nil m)
up_to_bounds i (suc n) {x} m =
    ⊎_elim
    (λ (e : x ≡ i). omega arith)
    (λ m'. let h = up_to_bounds (suc i) n m' in omega arith)
    (mathlib.Core.List.Memᴰ.cases_cons m)

pub length_up_to : (i n : ℕ) → length (up_to i n) ≡ n
unfolding up_to
length_up_to i zero = refl
length_up_to i (suc n) = ap suc (length_up_to (suc i) n)

-- Nothing was found: of two findings, along a list, of the rules of a record.

pub then_first : (f g : Fault) → (f then g) ≡ sound → f ≡ sound
unfolding ◌then◌
then_first sound g e = refl
then_first (broken n r) g e = e

pub then_second : (f g : Fault) → (f then g) ≡ sound → g ≡ sound
unfolding ◌then◌
then_second sound g e = e
then_second (broken n r) g e = absurd (let z : ◌≡◌ {A = ℕ} 0 1 = cc in omega arith)

pub first_of_sound : {A : Type 0} (f : A → Fault) (l : List A) → first_of f l ≡ sound → {a : A} → Memᴰ a l → f a ≡ sound
unfolding first_of
first_of_sound f [] e m = absurd (mathlib.Core.List.Memᴰ.not-nil m)
first_of_sound f (b ∷ l) e m =
    ⊎_elim
    (λ p. ap f p ∙ then_first (f b) _ e)
    (λ m'. first_of_sound f l (then_second (f b) _ e) m')
    (mathlib.Core.List.Memᴰ.cases_cons m)

-- What a kept rule says, and all of a record's.
abbrev pub Fact : Rule → Type 0
Fact (le a b) = a ≤ b
Fact (lt a b) = a < b
Fact (is a b) = a ≡ b
Fact (so b) = b ≡ true

abbrev pub Facts : List Rule → Type 0
Facts [] = Unit {0}
Facts (r ∷ rs) = Fact r × Facts rs

fact : (r : Rule) → kept r ≡ true → Fact r
unfolding kept
fact (le a b) e = leb-true a b e
fact (lt a b) e = ltb-true a b e
fact (is a b) e = eqb-true a b e
fact (so b) e = e

pub facts : (rs : List Rule) → all_kept rs ≡ true → Facts rs
unfolding all_kept
facts [] e = tt
facts (r ∷ rs) e = (fact r (and_left (kept r) _ e), facts rs (and_right (kept r) _ e))

kept_of : (b : Bool) (n : Reason) (i : ℕ) → cond b sound (broken n i) ≡ sound → b ≡ true
kept_of true n i e = refl
kept_of false n i e = absurd (let z : ◌≡◌ {A = ℕ} 0 1 = cc in omega arith)

pub check_facts : (n : Reason) (i : ℕ) (rs : List Rule) → check n i rs ≡ sound → Facts rs
unfolding check
check_facts n i rs e = facts rs (kept_of (all_kept rs) n i e)

-- Where nothing is found in an area of n records, nothing is found in any of them.
pub record_sound : (fault : ℕ → Fault) (n : ℕ) → first_of fault (up_to 0 n) ≡ sound → (i : ℕ) → i < n → fault i ≡ sound
record_sound fault n e i h =
    let z : 0 + i ≡ i = omega arith in
    rw z at (first_of_sound fault (up_to 0 n) e (up_to_member 0 n i h))

-- What fits comes from parts that fit.

pub and_then_fits : {A B : Type 0} (x : Outcome A) (k : A → Outcome B) {b : B} → and_then x k ≡ fits b → (a : A) × (x ≡ fits a) × (k a ≡ fits b)
unfolding and_then
and_then_fits too_large k e = absurd (let z : ◌≡◌ {A = ℕ} 0 1 = cc in omega arith)
and_then_fits (fits a) k e = (a, refl, e)

pub cond_fits : {A : Type 0} (b : Bool) (x : Outcome A) {a : A} → cond b x too_large ≡ fits a → (b ≡ true) × (x ≡ fits a)
cond_fits true x e = (refl, e)
cond_fits false x e = absurd (let z : ◌≡◌ {A = ℕ} 0 1 = cc in omega arith)

pub fits_same : {A : Type 0} {a b : A} → ◌≡◌ {A = Outcome A} (fits a) (fits b) → a ≡ b
fits_same e = cc

pub fit_fits : (s : Sum) {r : Sum} → fit s ≡ fits r → (length s ≤ 16) × (s ≡ r)
unfolding fit
fit_fits s e =
    let h = cond_fits (leb (length s) 16) (fits s) e in
    (leb-true (length s) 16 h.0, fits_same h.1)

-- Two answers that equal one thing are equal: every contract that is an equation has one answer.
pub one_answer : {A : Type 0} {x r r' : A} → r ≡ x → r' ≡ x → r ≡ r'
one_answer p q = p ∙ sym q
