-- What the answers of this crate stand for: the model's trial run as the code hands it over. Assumes nothing.
use Rattle.std.specs.Prelude.{ℕ, ◌/◌, ◌%◌, List, [], ◌∷◌, length}
use Rattle.model.specs.Answer.{number_of, Rule, is, so}
use Rattle.model.specs.Run as Model
use Rattle.model.specs.Run.{couples, couple_words, ports_right, image_of, zeros, End}
use Rattle.fault.specs.Fault.{reason_of, reason_as}
use Rattle.fault.specs.declared.Reason.{Reason}
use Rattle.fault.specs.declared.Fault.{Fault}
use Rattle.run.specs.declared.Trial.{Trial}
use Rattle.run.specs.declared.Ended.{Ended}
use Rattle.run.specs.declared.hand.Hand.{Hand}
use Rattle.run.specs.Held.{Ending}

-- The model's answer with the code's fields.
unfoldable pub answer_of : Model.Trial → Trial
answer_of t =
    record {
      number = t.number;
      image = t.image;
      «record» = t.«record»;
      state = t.state;
      edges = t.edges;
      couples = t.couple_count;
      variables = t.variables;
    }

-- The rules of an input: "input words odd in number, or a port over 3".
unfoldable pub input_rules : List ℕ → List Rule
input_rules input = is (length input % 2) 0 ∷ so (ports_right (couples input)) ∷ []

-- A refusal: 0 in every field but these.
unfoldable pub refused_of : Fault → Trial
refused_of f =
    record {
      number = number_of (reason_of f.reason);
      image = image_of (reason_of f.reason);
      «record» = f.«record»;
      state = 0;
      edges = 0;
      couples = 0;
      variables = zeros;
    }

-- The answer of a run that ended.
unfoldable pub ended_of : Ended → Trial
ended_of e =
    record {
      number = number_of (reason_of e.reason);
      image = 0;
      «record» = 0;
      state = e.state;
      edges = e.edges;
      couples = e.written / 2;
      variables = e.variables;
    }

-- A run that ended with what it holds, why, in which state and after how many edges.
abbrev pub ended_at : Hand → Reason → ℕ → ℕ → Ended
ended_at h reason s done = record { reason = reason; state = s; edges = done; written = h.written; variables = h.variables }

-- How the model's run ended, as the code hands it over.
unfoldable pub end_as : End → Ended
end_as e =
    record {
      reason = reason_as e.reason;
      state = e.config.state;
      edges = e.edges;
      written = length (couple_words e.config.log);
      variables = e.config.variables;
    }

-- An ending as the code hands it over.
unfoldable pub ending_as : Ending → Ended
ending_as e =
    record {
      reason = reason_as e.reason;
      state = e.state;
      edges = e.edges;
      written = e.all.written;
      variables = e.all.variables;
    }
