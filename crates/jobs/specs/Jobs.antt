-- A job's rule, and what the functions of the frame tell each other.
-- Assumes nothing.
use Rattle.std.specs.Prelude.{Bool, false, ◌&&◌, ◌≡◌, List, ℕ, ◌+◌, ◌≤◌, ◌<◌, eqb, length as size, get_or, Option, None, Some, Result, Ok, Err}
use Rattle.std.proofs.Math.Option.{Option as Maybe, none, some}
use Rattle.rules.specs.Moves.{Move, Rule, result, replaced, taken, through, place as place_of, first_left}
use Rattle.rules.specs.Utf8.{valid_to}
use Rattle.rules.specs.Encoding.{encode_step, raw_step}
use Rattle.rules.specs.Reading.{read_step}
use Rattle.rules.specs.References.{reference_step}
use Rattle.rules.specs.Browsing.{browse_step}
use Rattle.rules.specs.Operations.{decode_step, encode_of}
use Rattle.rules.specs.Answers.{left_numbers}
use Rattle.rules.specs.Refusals.{answer_by, out_by}
use Rattle.rules.specs.declared.Left.{Left}
use Rattle.rules.specs.declared.Answer.{Answer}
use Rattle.rules.specs.Contexts.{string_of, written_in}
use Rattle.rules.specs.declared.Html.{Html}
use Rattle.rules.specs.declared.Html.TheVariants.{Quoted}
use Rattle.rules.specs.declared.Context.TheVariants.{InHtml, InJson, InAscii}
use Rattle.encode_html.specs.declared.Scan.{Scan}
use Rattle.jobs.specs.declared.job.Job.{Job}
use Rattle.jobs.specs.declared.job.Job.TheVariants.{EncodeHtml, EncodeString, EncodeRaw, EncodeAscii, DecodeReferences, DecodeString, DecodeJson, BrowseReferences, Read}
use Rattle.jobs.specs.declared.work.Way.{Way}
use Rattle.jobs.specs.declared.work.Way.TheVariants.{Same as Unreplaced, Written}
use Rattle.jobs.specs.declared.work.Stop.{Stop}
use Rattle.jobs.specs.declared.work.Stop.TheVariants.{NotAForm, NoRoom}

-- The rule of a job.
unfoldable pub rule_by : Job → Rule
rule_by (EncodeHtml h) = encode_step (InHtml h)
rule_by (EncodeString notation quotes) = encode_step (written_in notation quotes)
rule_by EncodeRaw = raw_step
rule_by EncodeAscii = encode_step InAscii
rule_by DecodeReferences = reference_step
rule_by (DecodeString language quotes) = decode_step (string_of language quotes)
rule_by DecodeJson = decode_step InJson
rule_by (BrowseReferences kind) = browse_step kind
rule_by (Read c) = read_step c

-- The rule of a call's job, if it has one.
abbrev pub rule_at : Option Job → Maybe Rule
rule_at (Some job) = some (rule_by job)
rule_at None = none

-- Where `high` is 0 the text is ASCII.
abbrev pub Low : ℕ → List ℕ → Type 0
Low high t = high ≡ 0 → (k : ℕ) → k < size t → get_or t k 0 < 128

-- The HTML context whose places are counted for a job, if any: that of an HTML encoder, and `quoted` for ascii_quoted.
abbrev pub counted_for : Job → Option Html
counted_for (EncodeHtml h) = Some h
counted_for EncodeAscii = Some Quoted
counted_for (EncodeString notation quotes) = None
counted_for EncodeRaw = None
counted_for DecodeReferences = None
counted_for (DecodeString language quotes) = None
counted_for DecodeJson = None
counted_for (BrowseReferences kind) = None
counted_for (Read c) = None

-- In the context that is counted the result is `grow` bytes longer than the text, and `replaced` places are replaced.
abbrev pub Counts : Option Html → Scan → List ℕ → Type 0
Counts (Some h) scan t = (size t + scan.grow ≡ size (encode_of (InHtml h) t)) × (scan.replaced ≡ replaced (through (encode_step (InHtml h)) t))
Counts None scan t = Unit {0}

-- What a first look at a text tells a job.
abbrev pub Seen : Job → Scan → List ℕ → Type 0
Seen job scan t = Low scan.high t × Counts (counted_for job) scan t

-- A rule takes all of a text, and a room has place for the result.
abbrev pub Fits : Rule → List ℕ → ℕ → Type 0
Fits rule t room = (taken (through rule t) ≡ t) × (size (result (through rule t)) ≤ room)

-- What is judged of a call that borrows or not, on a valid text t that the moves ms go through, with an output of room bytes.
abbrev pub Judged : List Move → List ℕ → Bool → ℕ → Result Way Stop → Type 0
Judged ms t borrows room (Err (NotAForm p)) = (p ≡ place_of ms) × (p < size t)
Judged ms t borrows room (Ok (Unreplaced l)) = (taken ms ≡ t) × (replaced ms ≡ 0) × (left_numbers l ≡ first_left ms)
Judged ms t borrows room (Err (NoRoom n)) = (taken ms ≡ t) × (borrows && eqb (replaced ms) 0 ≡ false) × (n ≡ size (result ms)) × (room < n)
Judged ms t borrows room (Ok Written) = (taken ms ≡ t) × (borrows && eqb (replaced ms) 0 ≡ false) × (size (result ms) ≤ room)

-- A valid text, not too long, that a rule takes as a whole and in which it replaces nothing; l is the first reference that stays.
pub record Same (rule : Rule) (t : List ℕ) (l : Option Left) : Type 0 where
  pub short : size t ≤ 65536
  pub valid : valid_to t ≡ size t
  pub whole : taken (through rule t) ≡ t
  pub none : replaced (through rule t) ≡ 0
  pub first : left_numbers l ≡ first_left (through rule t)

-- What a call by a rule leaves: the answer a and the output o.
abbrev pub Leaves : Rule → Bool → List ℕ → List ℕ → Answer → List ℕ → Type 0
Leaves rule borrows t out a o = (a ≡ answer_by (some rule) borrows t out) × (o ≡ out_by (some rule) borrows t out)
