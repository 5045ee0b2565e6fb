-- RULES 12. The operations: each is the result of a rule through the text.
-- Assumes nothing.
use Rattle.std.proofs.Math.Option.{Option, none, some}
use Rattle.std.specs.Prelude.{List, ℕ}
use Rattle.rules.specs.Bytes.{ascii}
use Rattle.rules.specs.Moves.{Rule, through, result, place}
use Rattle.rules.specs.Tables.{rows}
use Rattle.rules.specs.Encoding.{encode_step, raw_step}
use Rattle.rules.specs.Reading.{read_step}
use Rattle.rules.specs.References.{reference_step}
use Rattle.rules.specs.Browsing.{kind_of, browse_step}
use Rattle.rules.specs.Escapes.{escape_by}
use Rattle.rules.specs.Json.{json_step}
use Rattle.rules.specs.declared.Kind.{Kind}
use Rattle.rules.specs.declared.Kind.TheVariants.{InAttribute}
use Rattle.rules.specs.declared.Context.{Context}
use Rattle.rules.specs.declared.Context.TheVariants.{InHtml, InScript, InStyle, InJson, InAscii}
use Rattle.rules.specs.declared.AnyContext.{AnyContext}
use Rattle.rules.specs.declared.AnyContext.TheVariants.{Units, ScriptRaw, Unknown}
use Rattle.rules.specs.declared.Operation.{Operation}
use Rattle.rules.specs.declared.Operation.TheVariants.{Encode, Decode, Read, Browse}

-- decode: the HTML contexts, the seven and ascii_quoted, share one decoder; a string's escapes are those that its context writes; a JSON string has those of
-- the RFC.
unfoldable pub decode_step : Context → Rule
decode_step (InHtml h) = reference_step
decode_step (InScript q) = escape_by (ascii "script") (rows (InScript q))
decode_step (InStyle q) = escape_by (ascii "style") (rows (InStyle q))
decode_step InJson = json_step
decode_step InAscii = reference_step

-- browse: the HTML contexts only, as text or as the value of an attribute.
abbrev pub browse_in : Context → Option Rule
browse_in (InHtml h) = some (browse_step (kind_of h))
browse_in (InScript q) = none
browse_in (InStyle q) = none
browse_in InJson = none
browse_in InAscii = some (browse_step InAttribute)

-- The rule of each operation in a context that has units.
abbrev pub rule_in : Operation → Context → Option Rule
rule_in Encode c = some (encode_step c)
rule_in Decode c = some (decode_step c)
rule_in Read c = some (read_step c)
rule_in Browse c = browse_in c

-- script_raw: encode only.
abbrev pub rule_raw : Operation → Option Rule
rule_raw Encode = some raw_step
rule_raw Decode = none
rule_raw Read = none
rule_raw Browse = none

-- The rule of an operation in the context that a call names, if it has one.
abbrev pub rule_of : Operation → AnyContext → Option Rule
rule_of op (Units c) = rule_in op c
rule_of op ScriptRaw = rule_raw op
rule_of op Unknown = none

-- What encode makes of a text.
abbrev pub encode_of : Context → List ℕ → List ℕ
encode_of c t = result (through (encode_step c) t)

-- What decode makes of it.
abbrev pub decode_of : Context → List ℕ → List ℕ
decode_of c t = result (through (decode_step c) t)

-- What read makes of it.
abbrev pub read_of : Context → List ℕ → List ℕ
read_of c t = result (through (read_step c) t)

-- What browse makes of it.
abbrev pub browse_of : Kind → List ℕ → List ℕ
browse_of kind t = result (through (browse_step kind) t)

-- What encode in script_raw makes of it.
abbrev pub raw_of : List ℕ → List ℕ
raw_of t = result (through raw_step t)

-- Where the strict reader stops.
abbrev pub read_to : Context → List ℕ → ℕ
read_to c t = place (through (read_step c) t)
