-- What the program prints. 01, "Bench examples": "port then signed value per line, then `end`, number, state, edges (a refused run only
-- number, image, record)". Assumes nothing.
use Rattle.std.specs.Prelude.{ℕ, ◌*◌, ◌/◌, cond, List, ◌++◌, leb, ltb, length, take}
use Rattle.files.specs.Lines.{three_of, couple_lines, end_line}
use Rattle.model.specs.Word.{base}
use Rattle.model.specs.Run.{zeros, trial, trial_buffer}
use Rattle.run.specs.Answers.{answer_of}
use Rattle.run.specs.declared.Trial.{Trial}

-- How many words of a room so many couples take: no more than there are.
unfoldable pub room_of : ℕ → ℕ → ℕ
room_of couples room = cond (leb couples (room / 2)) (2 * couples) room

-- What a run that ended prints: the lines of its couples, and its end.
unfoldable pub end_text : ℕ → ℕ → ℕ → List ℕ → List ℕ
end_text number state edges words = couple_lines words ++ end_line number state edges

-- What a run prints by its answer and the words of its couples: 20 to 23 are the ends, any other number is a refusal.
unfoldable pub text_of : Trial → List ℕ → List ℕ
text_of t words =
    let refusal = three_of t.number t.image t.«record» in
    let end = end_text t.number t.state t.edges words in
    cond (ltb t.number 20) refusal (cond (ltb 23 t.number) refusal end)

-- What the run of a table on words prints: the text of the model's trial run and of the couples in front of its final buffer.
unfoldable pub run_text : List ℕ → List ℕ → ℕ → List ℕ → List ℕ
run_text table input limit words =
    let t = answer_of (trial base zeros table input limit words) in
    let buffer = trial_buffer base zeros table input limit words in
    text_of t (take (room_of t.couples (length buffer)) buffer)
