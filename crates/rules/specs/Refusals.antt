-- RULES 13. The answer record and the refusal table, for copying and borrowing calls of every operation; view; and check.
-- Assumes nothing.
use Rattle.std.specs.Prelude.{Bool, true, false, ◌&&◌, cond, ◌≡◌, List, [], ◌∷◌, ℕ, ◌<◌, ltb, leb, eqb, length as size, take, drop}
use Rattle.std.proofs.Math.Option.{Option, none, some}
use Rattle.rules.specs.Bytes.{All, over}
use Rattle.rules.specs.Moves.{Move, Rule, through, result, place as place_of, replaced, first_left, why_at}
use Rattle.rules.specs.Utf8.{IsText, IsCut, valid_to, is_cut}
use Rattle.rules.specs.Units.{IsForm}
use Rattle.rules.specs.Json.{IsContent, IsLone}
use Rattle.rules.specs.Operations.{rule_of}
use Rattle.rules.specs.declared.Answer.{Answer}
use Rattle.rules.specs.declared.Checked.{Checked}
use Rattle.rules.specs.declared.Context.TheVariants.{InHtml, InScript, InStyle, InJson, InAscii}
use Rattle.rules.specs.declared.AnyContext.{AnyContext}
use Rattle.rules.specs.declared.AnyContext.TheVariants.{Units, ScriptRaw, Unknown}
use Rattle.rules.specs.declared.Operation.{Operation}
use Rattle.rules.specs.declared.Operation.TheVariants.{Encode, Decode, Read, Browse}

-- The answer of a call that is refused, by its status, the length that it names and its place.
abbrev pub refusal : ℕ → ℕ → ℕ → Answer
refusal s l p = record { status = s; length = l; same = 0; replaced = 0; place = p; left = 0; reason = 0 }

-- The answer of a call that passes, by the length of the result, how many places are replaced, and place and reason of the first reference that
-- stays: same is 1 exactly if none is replaced.
abbrev pub success : ℕ → ℕ → ℕ × ℕ → Answer
success l r first = record { status = 0; length = l; same = cond (eqb r 0) 1 0; replaced = r; place = 0; left = first.0; reason = first.1 }

-- The answer of a passed call of a raw script by parts, by how many bytes it writes and how many backslashes are among them: same is always 0.
abbrev pub part_success : ℕ → ℕ → Answer
part_success l r = record { status = 0; length = l; same = 0; replaced = r; place = 0; left = 0; reason = 0 }

-- A call: its operation and the context that it names, whether it borrows, the most bytes that it takes, the text, and the output's length.
pub record Call : Type 0 where
  pub operation : Operation
  pub context : AnyContext
  pub borrows : Bool
  pub limit : ℕ
  pub text : List ℕ
  pub room : ℕ

-- The moves of a rule through a text; none without a rule.
abbrev pub moves_of : Option Rule → List ℕ → List Move
moves_of none t = []
moves_of (some rule) t = through rule t

-- The moves of a call through its text.
abbrev pub moves_in : Call → List Move
moves_in k = moves_of (rule_of k.operation k.context) k.text

-- The status of the stop where a rule goes no further; 0 without a rule.
abbrev pub why_of : Option Rule → List ℕ → ℕ
why_of none t = 0
why_of (some rule) t = why_at rule t

-- What becomes of a call: the rows of the table, and the two ways to pass it. BAD_REQUEST is the program's.
pub data Case : Type 0 where
  bad-context : Case
  too_long : Case
  not-utf8 : Case
  cut_short : Case
  not-a-form : Case
  lone-surrogate : Case
  lent : Case
  no_room : Case
  written : Case

-- ---- the table in its own words

-- The order in which the rows are checked. NOT_UTF8 and CUT_SHORT have the same rank, and so have NOT_A_FORM and LONE_SURROGATE: their words exclude
-- each other. A borrowing call needs no room
-- where nothing is replaced, so `lent` goes before NO_ROOM.
abbrev pub earlier : Case → List Case
earlier bad-context = []
earlier too_long = bad-context ∷ []
earlier not-utf8 = bad-context ∷ too_long ∷ []
earlier cut_short = bad-context ∷ too_long ∷ []
earlier not-a-form = bad-context ∷ too_long ∷ not-utf8 ∷ cut_short ∷ []
earlier lone-surrogate = bad-context ∷ too_long ∷ not-utf8 ∷ cut_short ∷ []
earlier lent = bad-context ∷ too_long ∷ not-utf8 ∷ cut_short ∷ not-a-form ∷ lone-surrogate ∷ []
earlier no_room = bad-context ∷ too_long ∷ not-utf8 ∷ cut_short ∷ not-a-form ∷ lone-surrogate ∷ lent ∷ []
earlier written = bad-context ∷ too_long ∷ not-utf8 ∷ cut_short ∷ not-a-form ∷ lone-surrogate ∷ lent ∷ no_room ∷ []

-- In decode of a JSON string, half a surrogate pair stands alone, and nothing that the RFC forbids comes before it.
abbrev pub Lone : Operation → AnyContext → List ℕ → Type 0
Lone Encode n t = ⊥
Lone Decode (Units (InHtml h)) t = ⊥
Lone Decode (Units (InScript q)) t = ⊥
Lone Decode (Units (InStyle q)) t = ⊥
Lone Decode (Units InJson) t = IsLone t
Lone Decode (Units InAscii) t = ⊥
Lone Decode ScriptRaw t = ⊥
Lone Decode Unknown t = ⊥
Lone Read n t = ⊥
Lone Browse n t = ⊥

-- In read, the text is no run of the context's units; in decode of a JSON string, it is no content, and no such half comes first.
abbrev pub NoForm : Operation → AnyContext → List ℕ → Type 0
NoForm Encode n t = ⊥
NoForm Decode (Units (InHtml h)) t = ⊥
NoForm Decode (Units (InScript q)) t = ⊥
NoForm Decode (Units (InStyle q)) t = ⊥
NoForm Decode (Units InJson) t = (IsContent t → ⊥) × (IsLone t → ⊥)
NoForm Decode (Units InAscii) t = ⊥
NoForm Decode ScriptRaw t = ⊥
NoForm Decode Unknown t = ⊥
NoForm Read (Units c) t = IsForm c t → ⊥
NoForm Read ScriptRaw t = ⊥
NoForm Read Unknown t = ⊥
NoForm Browse n t = ⊥

-- The words of each row: when it is given.
abbrev pub Says : Call → Case → Type 0
Says k bad-context = rule_of k.operation k.context ≡ none
Says k too_long = k.limit < size k.text
Says k not-utf8 = (IsText k.text → ⊥) × (IsCut k.text → ⊥)
Says k cut_short = IsCut k.text
Says k not-a-form = NoForm k.operation k.context k.text
Says k lone-surrogate = Lone k.operation k.context k.text
Says k lent = (k.borrows ≡ true) × (replaced (moves_in k) ≡ 0)
Says k no_room = k.room < size (result (moves_in k))
Says k written = Unit {0}

-- A row is given where its words hold and those of no earlier row do.
abbrev pub Given : Call → Case → Type 0
Given k row = Says k row × All (λ (other : Case). Says k other → ⊥) (earlier row)

-- ---- the table as a computation

-- The tests of the table, in its order, of a text t that the moves ms go through, where the status of the stop is w, in a call that borrows or not,
-- with a limit and an output of room bytes.
abbrev pub judge : Bool → ℕ → List ℕ → List Move → ℕ → ℕ → Case
judge borrows limit t ms w room =
    cond (ltb limit (size t)) too_long
    (cond (ltb (valid_to t) (size t)) (cond (is_cut (drop (valid_to t) t)) cut_short not-utf8)
    (cond (ltb (place_of ms) (size t)) (cond (eqb w 10) lone-surrogate not-a-form)
    (cond (borrows && eqb (replaced ms) 0) lent
    (cond (ltb room (size (result ms))) no_room written))))

-- The same where there is a rule; where there is none, BAD_CONTEXT.
unfoldable pub case_by : Option Rule → Bool → ℕ → List ℕ → ℕ → Case
case_by none borrows limit t room = bad-context
case_by (some rule) borrows limit t room = judge borrows limit t (through rule t) (why_at rule t) room

-- The case of a call.
abbrev pub case_of : Call → Case
case_of k = case_by (rule_of k.operation k.context) k.borrows k.limit k.text k.room

-- The columns of the table: the answer of each case.
abbrev pub answer_at : Case → List ℕ → List Move → Answer
answer_at bad-context t ms = refusal 5 0 0
answer_at too_long t ms = refusal 1 0 0
answer_at not-utf8 t ms = refusal 2 0 (valid_to t)
answer_at cut_short t ms = refusal 7 0 (valid_to t)
answer_at not-a-form t ms = refusal 4 0 (place_of ms)
answer_at lone-surrogate t ms = refusal 10 0 (place_of ms)
answer_at lent t ms = success (size (result ms)) 0 (first_left ms)
answer_at no_room t ms = refusal 3 (size (result ms)) 0
answer_at written t ms = success (size (result ms)) (replaced ms) (first_left ms)

-- The whole output after the call: the result over what stood there, or all of it unchanged.
abbrev pub out_at : Case → List Move → List ℕ → List ℕ
out_at bad-context ms out = out
out_at too_long ms out = out
out_at not-utf8 ms out = out
out_at cut_short ms out = out
out_at not-a-form ms out = out
out_at lone-surrogate ms out = out
out_at lent ms out = out
out_at no_room ms out = out
out_at written ms out = over (result ms) out

-- ---- a public call

-- A text of more bytes is too long.
abbrev pub text_limit : ℕ
text_limit = 65536

-- The public call of an operation in a context, on a text and a lent output, as the table's words take it.
abbrev pub call : Operation → AnyContext → Bool → List ℕ → List ℕ → Call
call op n borrows t out = record { operation = op; context = n; borrows = borrows; limit = text_limit; text = t; room = size out }

-- What a call by a rule, if there is one, answers.
abbrev pub answer_by : Option Rule → Bool → List ℕ → List ℕ → Answer
answer_by rule borrows t out = answer_at (case_by rule borrows text_limit t (size out)) t (moves_of rule t)

-- What it leaves in the output.
abbrev pub out_by : Option Rule → Bool → List ℕ → List ℕ → List ℕ
out_by rule borrows t out = out_at (case_by rule borrows text_limit t (size out)) (moves_of rule t) out

-- What the public call of an operation in a context answers.
abbrev pub answer_of : Operation → AnyContext → Bool → List ℕ → List ℕ → Answer
answer_of op n = answer_by (rule_of op n)

-- What it leaves in the output.
abbrev pub out_of : Operation → AnyContext → Bool → List ℕ → List ℕ → List ℕ
out_of op n = out_by (rule_of op n)

-- What the contract of a call allows: the answer a, and the whole output o afterwards.
abbrev pub Allowed : Operation → AnyContext → Bool → List ℕ → List ℕ → Answer → List ℕ → Type 0
Allowed op n borrows t out a o = (a ≡ answer_of op n borrows t out) × (o ≡ out_of op n borrows t out)

-- view: the whole text where same is 1, otherwise the first bytes of the output, or an empty part where the output is shorter.
abbrev pub view_of : List ℕ → List ℕ → ℕ → ℕ → List ℕ
view_of t out same length = cond (eqb same 1) t (cond (leb length (size out)) (take length out) [])

-- ---- check

-- What check answers, by its three numbers.
abbrev pub checked_as : ℕ → ℕ → ℕ → Checked
checked_as s l p = record { status = s; length = l; place = p }

-- What is left of a taking call's answer without an output: status, length and place; instead of NO_ROOM the status is 0, with that same length.
abbrev pub checked : Answer → Checked
checked a = checked_as (cond (eqb a.status 3) 0 a.status) a.length a.place

-- What check answers of a text in a context: what is left of the answer of a taking call into no bytes. Any other output gives the same (`check-agrees`).
abbrev pub check_of : AnyContext → List ℕ → Checked
check_of n t = checked (answer_of Read n false t [])
