-- RULES 15. The programs `entity` and `reasons`: what they print for what they read.
-- Assumes nothing.
use Rattle.std.specs.Prelude.{false, cond, List, [], ◌++◌, map, ℕ, ◌+◌, eqb, length as size, drop}
use Rattle.std.proofs.Math.Option.{Option, none, some}
use Rattle.rules.specs.Bytes.{ascii, join, first, stands}
use Rattle.rules.specs.Moves.{result, lefts, reason_number}
use Rattle.rules.specs.Tables.{numeral}
use Rattle.rules.specs.Contexts.{Label, context_names, operation_names}
use Rattle.rules.specs.Refusals.{Call, case_of, moves_in, refusal, answer_at}
use Rattle.rules.specs.declared.Answer.{Answer}
use Rattle.rules.specs.declared.AnyContext.{AnyContext}
use Rattle.rules.specs.declared.AnyContext.TheVariants.{Units}
use Rattle.rules.specs.declared.Context.TheVariants.{InHtml}
use Rattle.rules.specs.declared.Html.TheVariants.{Text}
use Rattle.rules.specs.declared.Operation.{Operation}
use Rattle.rules.specs.declared.Operation.TheVariants.{Decode}
use Rattle.rules.specs.declared.Reason.{Reason}

-- A line of the header: the field with its `=`, a name, and a line feed.
abbrev pub line : {A : Type 0} → List ℕ → Label A → List ℕ
line field l = field ++ l.name ++ ascii "\n"

-- Room for the result of any 8,192 bytes: no operation gives more than 22 bytes for 3 of its text.
abbrev pub result_room : ℕ
result_room = 60074

-- The text of a request.
abbrev pub text_of : Operation → AnyContext → List ℕ → Option Call
text_of op n s =
    cond (stands (ascii "text=") s)
    (some (record { operation = op; context = n; borrows = false; limit = 8192; text = drop 5 s; room = result_room }))
    none

-- After `op=`: the line `context=` with one of the sixteen names.
abbrev pub context_line : Operation → List ℕ → Option Call
context_line op s =
    elim (first (λ (l : Label AnyContext). stands (line (ascii "context=") l)) context_names s) [
      | none ↦ none
      | some l ↦ text_of op l.names (drop (size (line (ascii "context=") l)) s)
    ]

-- The request: the line `op=` first. Its text has at most 8,192 bytes, its call copies, and its output holds every result.
abbrev pub request_of : List ℕ → Option Call
request_of s =
    elim (first (λ (l : Label Operation). stands (line (ascii "op=") l)) operation_names s) [
      | none ↦ none
      | some l ↦ context_line l.names (drop (size (line (ascii "op=") l)) s)
    ]

-- The last k decimal digits of a number, without leading zeros.
abbrev pub last_digits : ℕ → ℕ → List ℕ
last_digits k n = numeral (λ (d : ℕ). 48 + d) 10 k n

-- A number in decimal, of at most twenty digits.
abbrev pub decimal : ℕ → List ℕ
decimal n = last_digits 20 n

-- The six lines, with nothing after the text.
abbrev pub printed : Answer → List ℕ → List ℕ
printed a t =
    ascii "status=" ++ decimal a.status ++ ascii "\nlength=" ++ decimal a.length ++ ascii "\nsame=" ++ decimal a.same
    ++ ascii "\nreplaced=" ++ decimal a.replaced ++ ascii "\nplace=" ++ decimal a.place ++ ascii "\ntext=" ++ t

-- The text that is printed: the result, and nothing after a refusal.
abbrev pub shown : Answer → List ℕ → List ℕ
shown a t = cond (eqb a.status 0) t []

-- The answer to a call, printed.
abbrev pub printed_call : Call → List ℕ
printed_call k = let a = answer_at (case_of k) k.text (moves_in k) in printed a (shown a (result (moves_in k)))

-- What the program prints; BAD_REQUEST where the lines differ.
unfoldable pub entity_of : List ℕ → List ℕ
entity_of s = elim (request_of s) [ none ↦ printed (refusal 6 0 0) [] | some k ↦ printed_call k ]

-- ---- reasons

-- The call that `reasons` makes of a text: decode in `text`, of at most 8,192 bytes, with room for every result.
abbrev pub decoding : List ℕ → Call
decoding t = record { operation = Decode; context = Units (InHtml Text); borrows = false; limit = 8192; text = t; room = result_room }

-- The line of a reference that stays.
abbrev pub left_line : ℕ × Reason → List ℕ
left_line l = ascii "place=" ++ decimal l.0 ++ ascii " reason=" ++ decimal (reason_number l.1) ++ ascii "\n"

-- A line for each of them.
abbrev pub left_lines : List (ℕ × Reason) → List ℕ
left_lines ls = join (map left_line ls)

-- What `reasons` prints: the references that decode leaves, or the status of a refusal.
unfoldable pub reasons_of : List ℕ → List ℕ
reasons_of t =
    let s = (answer_at (case_of (decoding t)) t (moves_in (decoding t))).status in
    cond (eqb s 0) (left_lines (lefts (moves_in (decoding t)))) (ascii "status=" ++ decimal s ++ ascii "\n")
