-- RULES 21. A page: a list of records, each the copying call of encode on a part of one text, one behind the other into one output.
-- Assumes nothing.
use Rattle.std.specs.Prelude.{Bool, false, ◌&&◌, cond, ◌≡◌, List, [], ◌∷◌, ◌++◌, ℕ, suc, ◌+◌, ◌-◌, ◌/◌, ◌≤◌, ltb, leb, eqb, length as size, get_or, take, drop}
use Rattle.std.proofs.Math.Option.{Option, none, some}
use Rattle.rules.specs.Moves.{Rule}
use Rattle.rules.specs.Contexts.{context_of}
use Rattle.rules.specs.Operations.{rule_of}
use Rattle.rules.specs.Refusals.{refusal, answer_by, out_by}
use Rattle.rules.specs.declared.Answer.{Answer}
use Rattle.rules.specs.declared.Field.{Field}
use Rattle.rules.specs.declared.Filled.{Filled}
use Rattle.rules.specs.declared.Operation.TheVariants.{Encode}

-- ---- one record

-- The part that a record names lies within the text.
abbrev pub InText : List ℕ → Field → Type 0
InText text f = f.start + f.length ≤ size text

-- The same as a computation, without a sum that could overflow.
abbrev pub in_text : List ℕ → Field → Bool
in_text text f = leb f.start (size text) && leb f.length (size text - f.start)

-- That part.
abbrev pub part_of : List ℕ → Field → List ℕ
part_of text f = take f.length (drop f.start text)

-- The rule of encode in the context that a record names, if there is one.
abbrev pub encoder : Field → Option Rule
encoder f = rule_of Encode (context_of f.context)

-- What the call of a record answers, by that rule, on the part of the output that is still free: BAD_CONTEXT, then BAD_RANGE, then the copying call of
-- encode on the record's part of the text.
abbrev pub single_by : Option Rule → List ℕ → Field → List ℕ → Answer
single_by none text f free = refusal 5 0 0
single_by (some rule) text f free = cond (in_text text f) (answer_by (some rule) false (part_of text f) free) (refusal 8 0 0)

-- What it leaves in the free part.
abbrev pub leaves_by : Option Rule → List ℕ → Field → List ℕ → List ℕ
leaves_by none text f free = free
leaves_by (some rule) text f free = cond (in_text text f) (out_by (some rule) false (part_of text f) free) free

-- What the call of a record answers.
unfoldable pub single : List ℕ → Field → List ℕ → Answer
single text f = single_by (encoder f) text f

-- What it leaves in the free part.
unfoldable pub leaves : List ℕ → Field → List ℕ → List ℕ
leaves text f = leaves_by (encoder f) text f

-- ---- the page

-- A page takes this many records.
abbrev pub field_limit : ℕ
field_limit = 256

-- What the whole call answers, by its two numbers.
abbrev pub filled_as : ℕ → ℕ → Filled
filled_as status passed = record { status = status; passed = passed }

-- A record with its answer and where its result begins; what it asks for stays.
abbrev pub answered : Field → Answer → ℕ → Field
answered f a begins = record { context = f.context; start = f.start; length = f.length; begins = begins; answer = a }

-- What the call leaves: the records, the output, what it answers, and where the last result ends.
pub record Page : Type 0 where
  pub fields : List Field
  pub output : List ℕ
  pub filled : Filled
  pub end : ℕ

-- A page with more records in front.
abbrev pub behind : List Field → Page → Page
behind fs p = record { fields = fs ++ p.fields; output = p.output; filled = p.filled; end = p.end }

-- The output after the call of a record on the part of it from `at` on.
abbrev pub output_by : List ℕ → ℕ → Field → List ℕ → List ℕ
output_by text at f out = take at out ++ leaves text f (drop at out)

-- The records from here on, where `done` records before them passed and their results end at `at`: the next one is called on what is free behind
-- them. If it passes, its result begins there, and the others follow; the first refusal stops the page.
unfoldable pub fill_from : List ℕ → ℕ → ℕ → List Field → List ℕ → Page
fill_from text at done [] out = record { fields = []; output = out; filled = filled_as 0 done; end = at }
fill_from text at done (f ∷ fs) out =
    let a = single text f (drop at out) in
    cond (eqb a.status 0)
    (behind (answered f a at ∷ []) (fill_from text (at + a.length) (suc done) fs (output_by text at f out)))
    (record { fields = answered f a 0 ∷ fs; output = out; filled = filled_as a.status done; end = at })

-- The whole call: above the limit nothing is touched.
unfoldable pub page_of : List ℕ → List Field → List ℕ → Page
page_of text fs out = cond (ltb field_limit (size fs)) (record { fields = fs; output = out; filled = filled_as 1 0; end = 0 }) (fill_from text 0 0 fs out)

-- What the contract of the call allows: the answer r, the records gs and the output o afterwards.
abbrev pub PageAllowed : List ℕ → List Field → List ℕ → Filled → List Field → List ℕ → Type 0
PageAllowed text fs out r gs o = (r ≡ (page_of text fs out).filled) × (gs ≡ (page_of text fs out).fields) × (o ≡ (page_of text fs out).output)

-- ---- records as numbers

-- The numbers of an answer, in its order.
abbrev pub answer_numbers : Answer → List ℕ
answer_numbers a = a.status ∷ a.length ∷ a.same ∷ a.replaced ∷ a.place ∷ a.left ∷ a.reason ∷ []

-- The answer of so many numbers.
abbrev pub answer_as : List ℕ → Answer
answer_as l = record { status = get_or l 0 0; length = get_or l 1 0; same = get_or l 2 0; replaced = get_or l 3 0; place = get_or l 4 0; left = get_or l 5 0; reason = get_or l 6 0 }

-- The numbers of a record without its context, in its order.
abbrev pub field_numbers : Field → List ℕ
field_numbers f = f.start ∷ f.length ∷ f.begins ∷ answer_numbers f.answer

-- How many they are.
abbrev pub field_size : ℕ
field_size = 10

-- The record of a context and the first so many of a list of numbers.
abbrev pub field_as : ℕ → List ℕ → Field
field_as c l = record { context = c; start = get_or l 0 0; length = get_or l 1 0; begins = get_or l 2 0; answer = answer_as (drop 3 l) }

-- The records of a list of contexts and a list of numbers.
abbrev pub records_of : List ℕ → List ℕ → List Field
records_of [] l = []
records_of (c ∷ cs) l = field_as c l ∷ records_of cs (drop field_size l)

-- The numbers of records over the start of a list.
abbrev pub laid : List Field → List ℕ → List ℕ
laid [] l = l
laid (f ∷ fs) l = field_numbers f ++ laid fs (drop field_size l)

-- The records that two lists hold: as many as there are contexts, and numbers for.
abbrev pub records_in : List ℕ → List ℕ → List Field
records_in cs l = records_of (take (size l / field_size) cs) l

-- What the contract of the call on records as numbers allows: the page of those records, its numbers laid over those that stood there.
abbrev pub NumbersAllowed : List ℕ → List ℕ → List ℕ → List ℕ → Filled → List ℕ → List ℕ → Type 0
NumbersAllowed text cs l out r m o =
    (r ≡ (page_of text (records_in cs l) out).filled) × (m ≡ laid (page_of text (records_in cs l) out).fields l) × (o ≡ (page_of text (records_in cs l) out).output)
