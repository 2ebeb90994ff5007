-- A finding of the model as the code hands it over, and what a function handed over answers.
-- 01, "What the program answers": "the first broken rule is named". Assumes nothing.
use Rattle.std.specs.Prelude.{ℕ, ◌<◌, ◌≡◌, Result, Ok, Err, Option}
use Rattle.model.specs.Answer as Model
use Rattle.model.specs.Answer.{sound, broken}
use Rattle.fault.specs.declared.Reason.{Reason}
use Rattle.fault.specs.declared.Reason.TheVariants as reasons
use Rattle.fault.specs.declared.Fault.{Fault}

-- The reason of the model that a reason of the code stands for.
unfoldable pub reason_of : Reason → Model.Reason
reason_of reasons.WrongTable = Model.wrong_table
reason_of reasons.WrongState = Model.wrong_state
reason_of reasons.WrongAction = Model.wrong_action
reason_of reasons.WrongEdge = Model.wrong_edge
reason_of reasons.WrongExpression = Model.wrong_expression
reason_of reasons.WrongList = Model.wrong_list
reason_of reasons.WrongLink = Model.wrong_link
reason_of reasons.WrongPath = Model.wrong_path
reason_of reasons.WrongPair = Model.wrong_pair
reason_of reasons.StopsDiffer = Model.stops_differ
reason_of reasons.NotCovered = Model.not_covered
reason_of reasons.DoesNotFollow = Model.does_not_follow
reason_of reasons.OverSize = Model.over_size
reason_of reasons.OverTests = Model.over_tests
reason_of reasons.NoContradiction = Model.no_contradiction
reason_of reasons.NotAssured = Model.not_assured
reason_of reasons.ReadsDiffer = Model.reads_differ
reason_of reasons.WritesDiffer = Model.writes_differ
reason_of reasons.LinkNotKept = Model.link_not_kept
reason_of reasons.EndStop = Model.end_stop
reason_of reasons.EndLimit = Model.end_limit
reason_of reasons.EndInput = Model.end_input
reason_of reasons.EndRoom = Model.end_room
reason_of reasons.WrongInput = Model.wrong_input

-- The reason of the code that stands for a reason of the model.
abbrev pub reason_as : Model.Reason → Reason
reason_as Model.wrong_table = reasons.WrongTable
reason_as Model.wrong_state = reasons.WrongState
reason_as Model.wrong_action = reasons.WrongAction
reason_as Model.wrong_edge = reasons.WrongEdge
reason_as Model.wrong_expression = reasons.WrongExpression
reason_as Model.wrong_list = reasons.WrongList
reason_as Model.wrong_link = reasons.WrongLink
reason_as Model.wrong_path = reasons.WrongPath
reason_as Model.wrong_pair = reasons.WrongPair
reason_as Model.stops_differ = reasons.StopsDiffer
reason_as Model.not_covered = reasons.NotCovered
reason_as Model.does_not_follow = reasons.DoesNotFollow
reason_as Model.over_size = reasons.OverSize
reason_as Model.over_tests = reasons.OverTests
reason_as Model.no_contradiction = reasons.NoContradiction
reason_as Model.not_assured = reasons.NotAssured
reason_as Model.reads_differ = reasons.ReadsDiffer
reason_as Model.writes_differ = reasons.WritesDiffer
reason_as Model.link_not_kept = reasons.LinkNotKept
reason_as Model.end_stop = reasons.EndStop
reason_as Model.end_limit = reasons.EndLimit
reason_as Model.end_input = reasons.EndInput
reason_as Model.end_room = reasons.EndRoom
reason_as Model.wrong_input = reasons.WrongInput

-- A fault from the model's reason and its record.
abbrev pub fault_at : Model.Reason → ℕ → Fault
fault_at n r = record { reason = reason_as n; «record» = r }

-- A finding as the code answers it: nothing wrong, or the reason and the record.
unfoldable pub checked_of : Model.Fault → Result (Unit {0}) Fault
checked_of sound = Ok tt
checked_of (broken n r) = Err (fault_at n r)

-- What a check answers at each number below n is the model's finding f there.
abbrev pub Answers : (ℕ → Result (Unit {0}) Fault → Type 0) → (ℕ → Model.Fault) → ℕ → Type 0
Answers post f n = (i : ℕ) (r : Result (Unit {0}) Fault) → i < n → post i r → r ≡ checked_of (f i)

-- What a read answers at each number is f's value there.
abbrev pub Gives : (ℕ → Option ℕ → Type 0) → (ℕ → Option ℕ) → Type 0
Gives post f = (i : ℕ) (r : Option ℕ) → post i r → r ≡ f i
