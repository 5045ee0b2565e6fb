-- The same of the calls that are linked: whatever answer and output the contract of encode allows, where the call passes what it gives stays in the place and is
-- held there as the table says. encode passed, so contained.
-- Assumes nothing.
use mathlib.Core.Bool.{Bool}
use mathlib.Core.Path.{◌≡◌, sym, ap, ◌∙◌, subst}
use mathlib.Core.List.{List}
use Prim.Native.Nat.{ℕ}
use lib.Dec.{T}
use Rattle.rules.specs.Bytes.{In}
use Rattle.rules.specs.Utf8.{IsText, IsFree}
use Rattle.rules.specs.Refusals.{Allowed, view_of}
use Rattle.rules.specs.declared.Answer.{Answer}
use Rattle.rules.specs.declared.AnyContext.{AnyContext}
use Rattle.rules.specs.declared.AnyContext.TheVariants.{Units, ScriptRaw, Unknown}
use Rattle.rules.specs.declared.Operation.TheVariants.{Encode}
use Rattle.rules.proofs.Calls.{passed-given, passed-view}
use Rattle.contained.specs.Matrix.{ScriptElement, StyleElement, place_of, form_of, Stays, Holds, allowed, holds, alters, Line, nul}
use Rattle.contained.proofs.Nested.{Keeps, Put, strings, attributes, in-script, in-style, in-value}
use Rattle.contained.proofs.Matrix.{Says, matrix-holds, matrix-stays, matrix-alters}

-- A call of encode that passed on the text t, copying or borrowing: its answer, its output, and what view gives of them.
pub record Encoded (n : AnyContext) (t : List ℕ) : Type 0 where
  pub borrows : Bool
  pub out : List ℕ
  pub answer : Answer
  pub output : List ℕ
  pub contract : Allowed Encode n borrows t out answer output
  pub passed : answer.status ≡ 0

abbrev pub seen : {n : AnyContext} {t : List ℕ} → Encoded n t → List ℕ
seen {n} {t} call = view_of t call.output call.answer.same call.answer.length

-- What it wrote is the form, and it got a text.
pub wrote : (n : AnyContext) (t : List ℕ) (call : Encoded n t) → seen call ≡ form_of n t
wrote (Units c) t call = passed-view Encode (Units c) call.borrows t call.out call.answer call.output call.contract call.passed
wrote ScriptRaw t call = passed-view Encode ScriptRaw call.borrows t call.out call.answer call.output call.contract call.passed
wrote Unknown t call = passed-view Encode Unknown call.borrows t call.out call.answer call.output call.contract call.passed

text : (n : AnyContext) (t : List ℕ) → Encoded n t → IsText t
text n t call = (passed-given Encode n call.borrows t call.out (sym (ap (λ (a : Answer). a.status) call.contract.0) ∙ call.passed)).0

-- ---- one call

module _ (l : Line) (n : AnyContext) (t : List ℕ) (call : Encoded n t) (put : T (allowed l.name t)) where
  -- Where the table says that the place holds the context's texts: what the call wrote stays there, whatever follows, and the place holds the text.
  pub encode-holds : (bad : List (List ℕ)) → Says l n (holds bad) → IsFree bad t → Holds l.name (seen call) t
  encode-holds bad says free = subst (λ (w : List ℕ). Holds l.name w t) (sym (wrote n t call)) (matrix-holds l n bad says t free put)

  -- There every text stays.
  pub encode-stays : (bad : List (List ℕ)) → Says l n (holds bad) → Stays l.name (seen call)
  encode-stays bad says = subst (Stays l.name) (sym (wrote n t call)) (matrix-stays l n bad says t (text n t call) put)

  -- So it does where the table says that some text is held as another one.
  pub encode-alters : (a : List ℕ) → Says l n (alters a) → Stays l.name (seen call)
  encode-alters a says = subst (Stays l.name) (sym (wrote n t call)) (matrix-alters l n a says t (text n t call) put)

-- ---- a string in an element or an attribute

module _ (i : Put) (listed : In i strings) (t : List ℕ) (free : IsFree nul t) (call : Encoded (Units i.0) t) where
  same : seen call ≡ form_of (Units i.0) t
  same = wrote (Units i.0) t call

  -- One call: the element holds what it wrote, and the string in it holds the text.
  pub encode-in-script : Keeps (place_of ScriptElement) (seen call) (seen call) × Keeps (place_of i.1) (seen call) t
  encode-in-script = subst (λ (w : List ℕ). Keeps (place_of ScriptElement) w w × Keeps (place_of i.1) w t) (sym same) (in-script i listed t free)

  pub encode-in-style : Keeps (place_of StyleElement) (seen call) (seen call) × Keeps (place_of i.1) (seen call) t
  encode-in-style = subst (λ (w : List ℕ). Keeps (place_of StyleElement) w w × Keeps (place_of i.1) w t) (sym same) (in-style i listed t free)

  -- Two calls, the second one on what the first one wrote: the attribute holds what the first one wrote, and the string in it holds the text.
  pub encode-in-value : (o : Put) → In o attributes → (outer : Encoded (Units o.0) (seen call))
      → Keeps (place_of o.1) (seen outer) (seen call) × Keeps (place_of i.1) (seen call) t
  encode-in-value o there outer =
      let (a, b) = in-value i listed o there t free in
      let both : seen outer ≡ form_of (Units o.0) (form_of (Units i.0) t) = wrote (Units o.0) (seen call) outer ∙ ap (form_of (Units o.0)) same in (
        (λ r. subst (λ (w : List ℕ). Keeps (place_of o.1) w (seen call)) (sym both) (subst (λ (v : List ℕ). Keeps (place_of o.1) (form_of (Units o.0) (form_of (Units i.0) t)) v) (sym same) a) r),
        subst (λ (w : List ℕ). Keeps (place_of i.1) w t) (sym same) b,
      )
