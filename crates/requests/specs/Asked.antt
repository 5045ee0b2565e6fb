-- The call that a request asks for, as the refusal table takes it, and what is printed for it.
-- Assumes nothing.
use Rattle.std.specs.Prelude.{false, cond, ◌≡◌, List, [], ◌++◌, ℕ, eqb, length as size, drop, Option as Maybe, Some, None}
use Rattle.std.proofs.Math.Option.{Option, none, some}
use Rattle.rules.specs.Bytes.{ascii, over}
use Rattle.rules.specs.Contexts.{context_of}
use Rattle.rules.specs.Refusals.{Call, refusal, answer_at, out_at, case_of, moves_in}
use Rattle.rules.specs.Program.{result_room, decimal, printed, printed_call}
use Rattle.rules.specs.declared.Answer.{Answer}
use Rattle.rules.specs.declared.Operation.{Operation}
use Rattle.requests.specs.declared.lines.Line.{Line}

-- The first three lines of an answer: status, length and same.
abbrev pub first_lines : Answer → List ℕ
first_lines a = ascii "status=" ++ decimal a.status ++ ascii "\nlength=" ++ decimal a.length ++ ascii "\nsame=" ++ decimal a.same

-- They have at most so many bytes: 21 of names and line ends, and three numbers of at most twenty digits.
abbrev pub first_most : ℕ
first_most = 81

-- The most bytes of an answer's lines up to its text: 44 of names and line ends, and five numbers of at most twenty digits.
abbrev pub lines_most : ℕ
lines_most = 144

-- Room for every reply.
abbrev pub reply_room : ℕ
reply_room = 65536

-- A copying call of an operation in the context of a number, on a text of at most 8,192 bytes, with an output of room bytes.
abbrev pub asked : Operation → ℕ → List ℕ → ℕ → Call
asked op number t room = record { operation = op; context = context_of number; borrows = false; limit = 8192; text = t; room = room }

-- The call of an operation that a request s asks for, where the reader of its header found the context's number and the place of the text.
abbrev pub call_at : Operation → List ℕ → Maybe Line → Option Call
call_at op s (Some line) = some (asked op line.number (drop line.length s) result_room)
call_at op s None = none

-- That place; the start where there is none.
abbrev pub text_start : Maybe Line → ℕ
text_start (Some line) = line.length
text_start None = 0

-- What the table answers to a call.
abbrev pub answer_to : Call → Answer
answer_to k = answer_at (case_of k) k.text (moves_in k)

-- What the call leaves in an output.
abbrev pub output_of : Call → List ℕ → List ℕ
output_of k out = out_at (case_of k) (moves_in k) out

-- What is answered where the text is too long, if `empty` is the answer for the empty text.
abbrev pub refused : Answer → Answer
refused empty = cond (eqb empty.status 5) empty (refusal 1 0 0)

-- What is printed for a request, if it is one.
abbrev pub printed_by : Option Call → List ℕ
printed_by none = printed (refusal 6 0 0) []
printed_by (some k) = printed_call k

-- The bytes w are written to the start of an output, and r is their number; the rest keeps its values.
abbrev pub Prints : List ℕ → ℕ → List ℕ → List ℕ → Type 0
Prints w r out₀ out = (r ≡ size w) × (out ≡ over w out₀)
