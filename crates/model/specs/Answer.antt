-- What the programs answer: the numbers of document 01 in one place, the answer "a number, which image and a record", and the one
-- mechanism by which every area of records is checked, "the first broken rule is named". Assumes nothing.
use Rattle.std.specs.Prelude.{ℕ, zero, suc, Bool, true, cond, ◌&&◌, List, [], ◌∷◌, leb, ltb, eqb, get_or}

-- Every reason that an answer can name.
pub data Reason : Type 0 where
  wrong_table wrong_state wrong_action wrong_edge wrong_expression : Reason
  wrong_list wrong_link wrong_path wrong_pair : Reason
  stops_differ not_covered does_not_follow over_size over_tests : Reason
  no_contradiction not_assured reads_differ writes_differ link_not_kept : Reason
  end_stop end_limit end_input end_room wrong_input : Reason

-- Its number, with the words of 01, "What the program answers"; in brackets what the record names.
unfoldable pub number_of : Reason → ℕ
number_of wrong_table = 1  -- table length, header, count or offset wrong (0)
number_of wrong_state = 2  -- state field out of range or not 0 where it must be (state)
number_of wrong_action = 3  -- action kind, variable or port out of range (action)
number_of wrong_edge = 4  -- edge target, action range or count wrong; variable set twice (edge)
number_of wrong_expression = 5  -- expression malformed or over 64 words (its start)
number_of wrong_list = 6  -- correspondence header wrong (0)
number_of wrong_link = 7  -- link variable over 15 (link)
number_of wrong_path = 8  -- path field breaks its rule (path)
number_of wrong_pair = 9  -- pair field or range wrong, second variable linked twice (pair)
number_of stops_differ = 10  -- one state is a stop, the other not (pair)
number_of not_covered = 11  -- not covered (pair)
number_of does_not_follow = 12  -- doesn't follow (path, here and below to 19)
number_of over_size = 13  -- too large, or over 16 reads or 16 writes on one port
number_of over_tests = 14  -- more than 32 tests on one path
number_of no_contradiction = 15  -- marked impossible, but no contradiction
number_of not_assured = 16  -- a second condition not assured
number_of reads_differ = 17  -- read counts differ on a port
number_of writes_differ = 18  -- writes differ on a port
number_of link_not_kept = 19  -- a target link isn't kept
number_of end_stop = 20  -- run ended: stop
number_of end_limit = 21  -- run ended: limit
number_of end_input = 22  -- run ended: input lacking
number_of end_room = 23  -- run ended: room lacking
number_of wrong_input = 24  -- input words odd in number, or a port over 3 (0)

-- An answer: a number, which image (1, 2 or 3 for the correspondence) and a record.
pub record Answer : Type 0 where
  pub number : ℕ
  pub image : ℕ
  pub «record» : ℕ

-- "Acceptance is 0 0 0."
unfoldable pub accepted : Answer
accepted = record { number = 0; image = 0; «record» = 0 }

-- What checking a part of an image finds: nothing wrong, or a reason and a record.
pub data Fault : Type 0 where
  sound : Fault
  broken : Reason → ℕ → Fault

infixr 20 ◌then◌
-- The first of two findings in their order: the second counts where the first is sound.
unfoldable pub ◌then◌ : Fault → Fault → Fault
sound then g = g
(broken n r) then g = broken n r

-- The first finding of f along a list.
unfoldable pub first_of : {A : Type 0} → (A → Fault) → List A → Fault
first_of f [] = sound
first_of f (a ∷ l) = let later = first_of f l in f a then later

-- The n numbers from i: the records of an area, or of a range in it.
unfoldable pub up_to : ℕ → ℕ → List ℕ
up_to i zero = []
up_to i (suc n) = i ∷ up_to (suc i) n

-- One rule of a record: at most, below, equal, or a test that is passed.
pub data Rule : Type 0 where
  le lt is : ℕ → ℕ → Rule
  so : Bool → Rule

-- Whether a rule is kept.
unfoldable pub kept : Rule → Bool
kept (le a b) = leb a b
kept (lt a b) = ltb a b
kept (is a b) = eqb a b
kept (so b) = b

-- Whether all rules of a list are kept.
unfoldable pub all_kept : List Rule → Bool
all_kept [] = true
all_kept (r ∷ rs) = kept r && all_kept rs

-- The rules of one record, refused together for one reason.
unfoldable pub check : Reason → ℕ → List Rule → Fault
check reason i rules = cond (all_kept rules) sound (broken reason i)

-- The answer for a finding in an image, or the later answer where there is none.
unfoldable pub in_image : ℕ → Fault → Answer → Answer
in_image i sound later = later
in_image i (broken n r) later = record { number = number_of n; image = i; «record» = r }

-- The word at a place of an image; 0 past its end.
unfoldable pub word : List ℕ → ℕ → ℕ
word image i = get_or image i 0
