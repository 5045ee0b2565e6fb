-- The program `entity` never answers NO_ROOM: its texts have at most 8,192 bytes, and no operation gives more than 22 bytes for 3 of its text.
-- Assumes nothing.
use mathlib.Core.Bool.{Bool, true, false, cond}
use mathlib.Core.Option.{Option, none, some, none-ne-some, some-injective}
use mathlib.Core.Path.{◌≡◌, refl, subst}
use mathlib.Core.List.{List}
use Prim.Native.Nat.{ℕ, ◌*◌, ◌≤◌, ◌<◌}
use native.Mathlib.Nat.{le_trans, mul-le-mul_right}
use native.Mathlib.Omega.{arith}
use lib.Dec.{leb, leb→le}
use lib.ListN.{length as size, drop}
use Rattle.rules.specs.Bytes.{ascii, first, stands}
use Rattle.rules.specs.Moves.{result}
use Rattle.rules.specs.Contexts.{Label, context_names, operation_names}
use Rattle.rules.specs.Browsing.{kind_of}
use Rattle.rules.specs.declared.Kind.TheVariants.{InAttribute}
use Rattle.rules.specs.Operations.{rule_of, encode_of}
use Rattle.rules.specs.Refusals.{Call, no_room, moves_of, moves_in, case_of}
use Rattle.rules.specs.Program.{line, result_room, text_of, context_line, request_of}
use Rattle.rules.specs.declared.Context.{Context}
use Rattle.rules.specs.declared.Context.TheVariants.{InHtml, InScript, InStyle, InJson, InAscii}
use Rattle.rules.specs.declared.AnyContext.{AnyContext}
use Rattle.rules.specs.declared.AnyContext.TheVariants.{Units, ScriptRaw, Unknown}
use Rattle.rules.specs.declared.Operation.{Operation}
use Rattle.rules.specs.declared.Operation.TheVariants.{Encode, Decode, Read, Browse}
use Rattle.rules.proofs.Laws.{encode-length, raw-length, decode-length, read_length, form-within, browse-length}
use Rattle.rules.proofs.Every.{every}
use Rattle.rules.proofs.Growth.{for_three}
use Rattle.rules.proofs.Refused.{case-iff}

-- No operation gives more than 22 bytes for 3 of its text.
pub result-length : (o : Operation) (n : AnyContext) (t : List ℕ) → 3 * size (result (moves_of (rule_of o n) t)) ≤ 22 * size t
result-length Encode (Units c) t = most (for_three c) (leb→le (for_three c) 22 (every (λ (c : Context). leb (for_three c) 22) tt c)) (encode-length c t)
  where
    most : (m : ℕ) → m ≤ 22 → 3 * size (encode_of c t) ≤ m * size t → 3 * size (encode_of c t) ≤ 22 * size t
    most m h k = le_trans k (mul-le-mul_right (size t) h)
result-length Encode ScriptRaw t = omega (arith, raw-length t)
result-length Encode Unknown t = omega arith
result-length Decode (Units c) t = omega (arith, decode-length c t)
result-length Decode ScriptRaw t = omega arith
result-length Decode Unknown t = omega arith
result-length Read (Units c) t = omega (arith, read_length c t, form-within c t)
result-length Read ScriptRaw t = omega arith
result-length Read Unknown t = omega arith
result-length Browse (Units (InHtml h)) t = omega (arith, browse-length (kind_of h) t)
result-length Browse (Units (InScript q)) t = omega arith
result-length Browse (Units (InStyle q)) t = omega arith
result-length Browse (Units InJson) t = omega arith
result-length Browse (Units InAscii) t = omega (arith, browse-length InAttribute t)
result-length Browse ScriptRaw t = omega arith
result-length Browse Unknown t = omega arith

-- The limit and the room of a call.
abbrev Bounded : Call → Type 0
Bounded k = (k.limit ≡ 8192) × (k.room ≡ result_room)

text-bounded : (o : Operation) (n : AnyContext) (s : List ℕ) (k : Call) → text_of o n s ≡ some k → Bounded k
text-bounded o n s k e = go (stands (ascii "text=") s) e
  where
    go : (b : Bool) → cond b (some (record { operation = o; context = n; borrows = false; limit = 8192; text = drop 5 s; room = result_room })) none ≡ some k → Bounded k
    go true e = subst Bounded (some-injective _ k e) (refl, refl)
    go false e = absurd (none-ne-some k e)

context-bounded : (o : Operation) (s : List ℕ) (k : Call) → context_line o s ≡ some k → Bounded k
context-bounded o s k e = go (first (λ (l : Label AnyContext). stands (line (ascii "context=") l)) context_names s) e
  where
    go : (f : Option (Label AnyContext)) → elim f [ none ↦ none | some l ↦ text_of o l.names (drop (size (line (ascii "context=") l)) s) ] ≡ some k → Bounded k
    go none e = absurd (none-ne-some k e)
    go (some l) e = text-bounded o l.names (drop (size (line (ascii "context=") l)) s) k e

request-bounded : (s : List ℕ) (k : Call) → request_of s ≡ some k → Bounded k
request-bounded s k e = go (first (λ (l : Label Operation). stands (line (ascii "op=") l)) operation_names s) e
  where
    go : (f : Option (Label Operation)) → elim f [ none ↦ none | some l ↦ context_line l.names (drop (size (line (ascii "op=") l)) s) ] ≡ some k → Bounded k
    go none e = absurd (none-ne-some k e)
    go (some l) e = context-bounded l.names (drop (size (line (ascii "op=") l)) s) k e

-- No request is answered with NO_ROOM.
pub roomy : (s : List ℕ) (k : Call) → request_of s ≡ some k → case_of k ≡ no_room → ⊥
roomy s k e f =
    let (limit, room) = request-bounded s k e in
    let given = (case-iff k no_room).0 f in
    enough (size k.text) (size (result (moves_in k))) k.limit k.room limit room (result-length k.operation k.context k.text) given.0 given.1.1.0
  where
    enough : (t r limit room : ℕ) → limit ≡ 8192 → room ≡ 60074 → 3 * r ≤ 22 * t → room < r → (limit < t → ⊥) → ⊥
    enough t r limit room a b h i j = j (omega arith)
