-- The rules on conditions as the code holds them are the paper's (`model`, Judgement), wherever conditions stand for the paper's. Assumes
-- nothing.
use Prim.Native.Nat.{ℕ}
use mathlib.Core.Path.{◌≡◌, refl, sym, ◌∙◌, ap}
use mathlib.Core.Bool.{Bool, true, false, cond, not, ◌&&◌, ◌||◌, beq}
use mathlib.Core.List.{List, [], ◌∷◌}
use mathlib.Core.Option.{none, some}
use lib.Dec.{eqb}
use Rattle.model.specs.Word.{base, wrap}
use Rattle.model.specs.Sum.{Sum, same, same_sum}
use Rattle.model.specs.Path.{is_none}
use Rattle.model.specs.Path as Model
use Rattle.model.specs.Judgement.{constant_of, same_kind, settled_by, settled, settled_as, is_true, is_false, same_test, same_condition, opposite, any, all, contradicts, assured}
use Rattle.key.specs.Key.{Small, pack, pack_on}
use Rattle.key.proofs.Pack.{pack_same}
use Rattle.word.specs.Kinds.{kind_of}
use Rattle.sum.specs.declared.Term.{Term}
use Rattle.sum.specs.Packed.{same_k, terms_of, pack_term, pack_sum}
use Rattle.sum.proofs.Paper.{AllPack}
use Rattle.sum.proofs.Keyed.{Keyed, same_keyed}
use Rattle.condition.specs.declared.Condition.{Condition}
use Rattle.condition.specs.Conditions.{constant_in, settled_in, same_test_in, like_in, met_in, contradicts_in, assured_in}

-- A condition stands for one of the paper: its kind, its sums, whose symbols have numbers, and the side taken.
pub record ConditionStands (c : Condition) (m : Model.Condition) : Type 0 where
  pub kind : kind_of c.kind ≡ m.kind
  pub left : terms_of c.left ≡ pack_sum pack m.left
  pub right : terms_of c.right ≡ pack_sum pack m.right
  pub taken : c.taken ≡ m.taken
  pub keyed_left : Keyed m.left
  pub keyed_right : Keyed m.right

-- Each condition of a list stands for the paper's in its place.
unfoldable pub AllStand : List Condition → List Model.Condition → Type 0
AllStand [] [] = Unit {0}
AllStand [] (m ∷ ms) = ⊥
AllStand (c ∷ cs) [] = ⊥
AllStand (c ∷ cs) (m ∷ ms) = ConditionStands c m × AllStand cs ms

-- What a condition comes to.

none_packed : (l : List ℕ) → Small l → eqb (pack l) 0 ≡ is_none l
unfolding pack pack_on Small is_none same
none_packed [] h = refl
none_packed (x ∷ l) h = pack_same (x ∷ l) [] h tt

constant_paper : (s : Sum) → Keyed s → constant_in (pack_sum pack s) ≡ constant_of base s
unfolding constant_in constant_of pack_sum pack_term AllPack
constant_paper [] h = refl
constant_paper (t ∷ []) h = ap (λ b. cond b (some (wrap base t.coefficient)) none) (none_packed t.symbols h.0.small)
constant_paper (t ∷ u ∷ s) h = refl

module _ (s t : Sum) (h : Keyed s) (k : Keyed t) {l m : List Term} (first : l ≡ pack_sum pack s) (second : m ≡ pack_sum pack t) where
  pub same_paper : same_k l m ≡ same_sum s t
  same_paper = (λ i. same_k (first i) (second i)) ∙ sym (same_keyed s t h k)

pub settled_paper : (c : Condition) (m : Model.Condition) → ConditionStands c m → settled_in c ≡ settled base m
unfolding settled_in settled
settled_paper c m h =
    λ i.
    settled_by base (h.kind i) ((ap constant_in h.left ∙ constant_paper m.left h.keyed_left) i)
    ((ap constant_in h.right ∙ constant_paper m.right h.keyed_right) i)
    (same_paper m.left m.right h.keyed_left h.keyed_right h.left h.right i)

-- Two conditions alike.

like_paper : (c d : Condition) (b : Bool) (m n : Model.Condition) → ConditionStands c m → ConditionStands d n → like_in c b d ≡ (same_test m n && beq b n.taken)
unfolding like_in same_test_in same_test
like_paper c d b m n h k =
    λ i.
    (same_kind (h.kind i) (k.kind i)
    && (same_paper m.left n.left h.keyed_left k.keyed_left h.left k.left i && same_paper m.right n.right h.keyed_right k.keyed_right h.right k.right i))
    && beq b (k.taken i)

other_side : (a b : Bool) → beq (not a) b ≡ beq a (not b)
other_side true true = refl
other_side true false = refl
other_side false true = refl
other_side false false = refl

-- A test of some or all members, through the conditions that stand for the paper's.

any_stand : (f : Condition → Bool) (g : Model.Condition → Bool) (l : List Condition) (m : List Model.Condition) → AllStand l m
    → ((c : Condition) (m : Model.Condition) → ConditionStands c m → f c ≡ g m) → any f l ≡ any g m
unfolding any AllStand
any_stand f g [] [] h e = refl
any_stand f g [] (m ∷ ms) h e = absurd h
any_stand f g (c ∷ cs) [] h e = absurd h
any_stand f g (c ∷ cs) (m ∷ ms) h e = λ i. e c m h.0 i || any_stand f g cs ms h.1 e i

all_stand : (f : Condition → Bool) (g : Model.Condition → Bool) (l : List Condition) (m : List Model.Condition) → AllStand l m
    → ((c : Condition) (m : Model.Condition) → ConditionStands c m → f c ≡ g m) → all f l ≡ all g m
unfolding all AllStand
all_stand f g [] [] h e = refl
all_stand f g [] (m ∷ ms) h e = absurd h
all_stand f g (c ∷ cs) [] h e = absurd h
all_stand f g (c ∷ cs) (m ∷ ms) h e = λ i. e c m h.0 i && all_stand f g cs ms h.1 e i

or_swap : (a b x y : Bool) → ((a || b) || (x || y)) ≡ ((a || x) || (b || y))
or_swap true b x y = refl
or_swap false true true y = refl
or_swap false true false y = refl
or_swap false false x y = refl

any_or : {A : Type 0} (f g : A → Bool) (l : List A) → any (λ a. f a || g a) l ≡ (any f l || any g l)
unfolding any
any_or f g [] = refl
any_or f g (a ∷ l) = ap (λ x. (f a || g a) || x) (any_or f g l) ∙ or_swap (f a) (g a) (any f l) (any g l)

-- Rule 15.
pub contradicts_paper : (cs : List Condition) (l : List Model.Condition) → AllStand cs l → contradicts_in cs ≡ contradicts base l
unfolding contradicts_in met_in contradicts is_false opposite
contradicts_paper cs l h =
    any_stand _ (λ m. settled_as (not m.taken) (settled base m) || any (λ d. same_test m d && beq m.taken (not d.taken)) l) cs l h
    (λ c m k. met c m k)
    ∙ any_or (λ m. settled_as (not m.taken) (settled base m)) (λ m. any (λ d. same_test m d && beq m.taken (not d.taken)) l) l
  where
    met : (c : Condition) (m : Model.Condition) → ConditionStands c m
        → (settled_as (not c.taken) (settled_in c) || any (like_in c (not c.taken)) cs)
        ≡ (settled_as (not m.taken) (settled base m) || any (λ d. same_test m d && beq m.taken (not d.taken)) l)
    met c m k =
        λ i.
        settled_as (not (k.taken i)) (settled_paper c m k i)
        || any_stand (like_in c (not c.taken)) (λ d. same_test m d && beq m.taken (not d.taken)) cs l h
        (λ d n q. like_paper c d (not c.taken) m n k q ∙ ap (λ t. same_test m n && beq (not t) n.taken) k.taken ∙ ap (λ x. same_test m n && x) (other_side m.taken n.taken))
        i

-- Rule 16.
pub assured_paper : (cs ds : List Condition) (l m : List Model.Condition) → AllStand cs l → AllStand ds m → assured_in cs ds ≡ assured base l m
unfolding assured_in met_in assured is_true same_condition
assured_paper cs ds l m h k =
    all_stand _ (λ d. settled_as d.taken (settled base d) || any (λ c. same_test d c && beq d.taken c.taken) l) ds m k (λ d n r. met d n r)
  where
    met : (d : Condition) (n : Model.Condition) → ConditionStands d n
        → (settled_as d.taken (settled_in d) || any (like_in d d.taken) cs)
        ≡ (settled_as n.taken (settled base n) || any (λ c. same_test n c && beq n.taken c.taken) l)
    met d n r =
        λ i.
        settled_as (r.taken i) (settled_paper d n r i)
        || any_stand (like_in d d.taken) (λ c. same_test n c && beq n.taken c.taken) cs l h
        (λ c p q. like_paper d c d.taken n p r q ∙ ap (λ t. same_test n p && beq t p.taken) r.taken)
        i
