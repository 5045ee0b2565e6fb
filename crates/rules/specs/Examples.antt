-- RULES 16. The examples: the first twelve as a single table, and those of the rest that are one call.
-- Assumes nothing.
use Rattle.std.specs.Prelude.{Bool, true, false, ◌&&◌, not, cond, List, [], ◌∷◌, ◌++◌, map, ℕ, ◌+◌, eqb, length as size}
use Rattle.rules.specs.Bytes.{ascii, count, over, same_bytes}
use Rattle.rules.specs.Refusals.{refusal, success, answer_of, out_of, view_of}
use Rattle.rules.specs.declared.Answer.{Answer}
use Rattle.rules.specs.declared.Html.TheVariants.{TextMinimal, Text, Safe}
use Rattle.rules.specs.declared.Quotes.TheVariants.{Single, Double, Both}
use Rattle.rules.specs.declared.Context.TheVariants.{InHtml, InScript, InStyle}
use Rattle.rules.specs.declared.AnyContext.{AnyContext}
use Rattle.rules.specs.declared.AnyContext.TheVariants.{Units, ScriptRaw}
use Rattle.rules.specs.declared.Operation.{Operation}
use Rattle.rules.specs.declared.Operation.TheVariants.{Encode, Decode, Read, Browse}

-- An example: the operation, the context, the text, the length of the output; the answer, and what view gives.
pub record Example : Type 0 where
  pub operation : Operation
  pub context : AnyContext
  pub text : List ℕ
  pub room : ℕ
  pub says : Answer
  pub gives : List ℕ

-- A call in an output of so many bytes that passes, with its result and how many places are replaced.
abbrev pub passes_in : ℕ → Operation → AnyContext → List ℕ → List ℕ → ℕ → Example
passes_in room o n t r k = record { operation = o; context = n; text = t; room = room; says = success (size r) k (0, 0); gives = r }

-- One in an output that is two bytes longer than the result.
abbrev pub example : Operation → AnyContext → List ℕ → List ℕ → ℕ → Example
example o n t r k = passes_in (size r + 2) o n t r k

-- The bytes stay as they are.
abbrev pub stays : Operation → AnyContext → List ℕ → Example
stays o n t = example o n t t 0

-- The same example, where a reference stays: its place and the reason.
abbrev pub leaving : ℕ → ℕ → Example → Example
leaving i r e = record {
  operation = e.operation;
  context = e.context;
  text = e.text;
  room = e.room;
  says = record {
    status = e.says.status;
    length = e.says.length;
    same = e.says.same;
    replaced = e.says.replaced;
    place = e.says.place;
    left = i;
    reason = r;
  };
  gives = e.gives;
}

-- A call in an output of so many bytes that is refused, with status, length and place.
abbrev pub refused_in : ℕ → Operation → AnyContext → List ℕ → ℕ → ℕ → ℕ → Example
refused_in room o n t s l p = record { operation = o; context = n; text = t; room = room; says = refusal s l p; gives = [] }

-- One in an output of nine bytes, with status and place.
abbrev pub refused : Operation → AnyContext → List ℕ → ℕ → ℕ → Example
refused o n t s p = refused_in 9 o n t s 0 p

-- Two answers are the same.
abbrev pub same_answer : Answer → Answer → Bool
same_answer a b =
    eqb a.status b.status && eqb a.length b.length && eqb a.same b.same && eqb a.replaced b.replaced
    && eqb a.place b.place && eqb a.left b.left && eqb a.reason b.reason

-- What a call leaves in the output: the result over what stood there, if it passes and does not lend the text.
abbrev pub leaves : Bool → Example → List ℕ → List ℕ
leaves borrows e out = cond (eqb e.says.status 0 && not (borrows && eqb e.says.same 1)) (over e.gives out) out

-- The example holds of the rules, the refusal table and view together, in a call that copies or borrows: the whole answer, the whole output, and the view.
abbrev pub holds_in : Bool → Example → Bool
holds_in borrows e =
    let out : List ℕ = map (λ (b : ℕ). 0x2E) (count 0 e.room) in
    let a = answer_of e.operation e.context borrows e.text out in
    let o = out_of e.operation e.context borrows e.text out in
    same_answer a e.says && same_bytes o (leaves borrows e out) && same_bytes (view_of e.text o a.same a.length) e.gives

-- It holds in both kinds of call.
abbrev pub holds : Example → Bool
holds e = holds_in false e && holds_in true e

-- The starred examples, numbered.
abbrev pub starred : List Example
starred =
    -- 1
    example Encode (Units (InHtml TextMinimal)) (ascii "a<b>&") (ascii "a&lt;b>&amp;") 2
    -- 2
    ∷ example Encode (Units (InHtml Safe)) (ascii "'/\"") (ascii "&#x27;&#x2F;&quot;") 3
    -- 3
    ∷ example Encode (Units (InScript Single)) (ascii "it's \"x\"\\") (ascii "it\\'s \"x\"\\\\") 2
    -- 4
    ∷ example Encode (Units (InScript Double)) (0x0A ∷ 0x3C ∷ []) (ascii "\\x0A\\x3C") 2
    -- 5
    ∷ example Encode (Units (InStyle Both)) (0x0A ∷ 0x3C ∷ 0x00 ∷ []) (ascii "\\0A \\3C " ++ 0xEF ∷ 0xBF ∷ 0xBD ∷ []) 3
    -- 6
    ∷ example Encode (Units (InScript Both)) (0xE2 ∷ 0x80 ∷ 0xA8 ∷ []) (ascii "\\u2028") 1
    ∷ stays Encode (Units (InScript Both)) (0xE2 ∷ 0x80 ∷ 0xAA ∷ [])
    -- 7
    ∷ example Encode ScriptRaw (ascii "<</script") (ascii "<<\\/script") 1
    ∷ stays Encode ScriptRaw (ascii "</scripts>")
    -- 8
    ∷ leaving 0 1 (example Decode (Units (InHtml Text)) (ascii "&&lt;") (ascii "&<") 1)
    ∷ example Decode (Units (InHtml Text)) (ascii "&amp;lt;") (ascii "&lt;") 1
    -- 9
    ∷ example Decode (Units (InHtml Text)) (ascii "&#9;") (0x09 ∷ []) 1
    ∷ leaving 0 5 (stays Decode (Units (InHtml Text)) (ascii "&#11;"))
    ∷ leaving 0 5 (stays Decode (Units (InHtml Text)) (ascii "&#0;"))
    ∷ leaving 0 4 (stays Decode (Units (InHtml Text)) (ascii "&#+65;"))
    ∷ leaving 0 5 (stays Decode (Units (InHtml Text)) (ascii "&#xD800;"))
    ∷ leaving 0 5 (stays Decode (Units (InHtml Text)) (ascii "&#4294967296;"))
    -- 10
    ∷ example Decode (Units (InScript Both)) (ascii "\\\\x3C") (ascii "\\x3C") 1
    ∷ stays Decode (Units (InScript Both)) (ascii "\\x3c")
    ∷ stays Decode (Units (InScript Both)) (ascii "\\x20")
    -- 11
    ∷ example Decode (Units (InStyle Both)) (ascii "\\3C ") (ascii "<") 1
    ∷ stays Decode (Units (InStyle Both)) (ascii "\\3C")
    ∷ stays Decode (Units (InStyle Both)) (ascii "\\00 ")
    -- 12
    ∷ refused Read (Units (InHtml TextMinimal)) (ascii "a&lt;&gt;") 4 5
    ∷ []

-- The rest.
abbrev pub rest : List Example
rest =
    -- 13
    example Decode (Units (InScript Both)) (ascii "<\\/SCRIPT ") (ascii "</SCRIPT ") 1
    ∷ stays Decode (Units (InScript Both)) (ascii "<\\/script")
    -- 14
    ∷ example Decode (Units (InHtml Text)) (ascii "&nGt;") (0xE2 ∷ 0x89 ∷ 0xAB ∷ 0xE2 ∷ 0x83 ∷ 0x92 ∷ []) 1
    ∷ refused_in 5 Decode (Units (InHtml Text)) (ascii "&nGt;") 3 6 0
    -- 15: its long texts differ from 65,536 and 65,537 letters only in the first byte, so that the first is judged by it
    ∷ refused Encode (Units (InHtml Text)) (0x61 ∷ 0xC3 ∷ 0x28 ∷ []) 2 1
    ∷ refused Encode (Units (InHtml Text)) (0x80 ∷ map (λ (b : ℕ). 0x61) (count 0 65535)) 2 0
    ∷ refused Encode (Units (InHtml Text)) (0x80 ∷ map (λ (b : ℕ). 0x61) (count 0 65536)) 1 0
    -- 16
    ∷ refused_in 3 Encode (Units (InHtml Text)) (ascii "<") 3 4 0
    ∷ passes_in 4 Encode (Units (InHtml Text)) (ascii "<") (ascii "&lt;") 1
    -- 17
    ∷ example Browse (Units (InHtml Text)) (ascii "&#0;") (0xEF ∷ 0xBF ∷ 0xBD ∷ []) 1
    -- 18
    ∷ passes_in 0 Encode (Units (InHtml Text)) [] [] 0
    ∷ passes_in 0 Decode (Units (InHtml Text)) [] [] 0
    ∷ passes_in 0 Read (Units (InHtml Text)) [] [] 0
    ∷ passes_in 0 Browse (Units (InHtml Text)) [] [] 0
    ∷ []
