-- Every cell of the matrix, computed in one test, and what it says: a cell that holds is a law of all texts, a cell that alters is one of what stays, and the
-- texts of the others are computed.
-- Assumes nothing.
use mathlib.Core.Bool.{Bool, true, false, not, ◌&&◌, ◌||◌}
use mathlib.Core.Logic.{◌⊎◌, inl, inr}
use mathlib.Core.Path.{◌≡◌, refl, sym, subst}
use mathlib.Core.Option.{Option, none, some}
use mathlib.Core.List.{List, [], ◌∷◌, ◌++◌, map}
use Prim.Native.Nat.{ℕ}
use lib.Dec.{T, eqb, eqb→eq}
use Rattle.rules.specs.Bytes.{In, All, all, any, join, same_bytes}
use Rattle.rules.specs.Moves.{through, taken, result}
use Rattle.rules.specs.Utf8.{IsChar, IsText, IsFree, utf8}
use Rattle.rules.specs.Ascii.{name_of, by_rule}
use Rattle.rules.specs.Contexts.{Label, context_names}
use Rattle.rules.specs.Names.{names as name_table}
use Rattle.rules.specs.Bare.{bare}
use Rattle.rules.specs.References.{renumbering, renumbered}
use Rattle.rules.specs.Browsing.{identifiers}
use Rattle.rules.specs.Encoding.{encode_step, raw_step}
use Rattle.rules.specs.Operations.{encode_of, raw_of}
use Rattle.rules.specs.declared.Context.{Context}
use Rattle.rules.specs.declared.Context.TheVariants.{InHtml, InScript, InStyle, InJson, InAscii}
use Rattle.rules.specs.declared.AnyContext.{AnyContext}
use Rattle.rules.specs.declared.AnyContext.TheVariants.{Units, ScriptRaw, Unknown}
use Rattle.rules.proofs.Tests.{and_left, and_right, or_cases, all_in}
use Rattle.rules.proofs.AsciiBrowsed.{browsed, free-browsed}
use Rattle.places.specs.Places.{Place, place_step, begins, stage}
use Rattle.contained.specs.Matrix.{PlaceName, ElementText, TitleText, TextareaText, DoubleQuotedValue, SingleQuotedValue, UnquotedValue, ScriptElement, StyleElement, ScriptSingle, ScriptDouble, OldScriptSingle, OldScriptDouble, ScriptTemplate, StyleSingle, StyleDouble, JsonText, place_of, ends_of, form_of, Stays, Holds, allowed, Verdict, holds, alters, breaks, held_as, Line, matrix}
use Rattle.contained.proofs.Steps.{leaves_at}
use Rattle.contained.proofs.Ruled.{has_rule}
use Rattle.contained.proofs.Judged.{stays_in, holds_but}
use Rattle.contained.proofs.Contained.{contained, contained-text}
use Rattle.contained.proofs.Begins.{begins_in, form-begins}
use Rattle.contained.proofs.Less.{less_free, less_only, less-contained}
use Rattle.contained.proofs.Exact.{exact_in, held-exactly}
use Rattle.contained.proofs.RawContained.{raw-contained}

-- ---- what is computed of one text

-- Before that end the form begins the value, and exactly it is taken.
abbrev within : Place → List ℕ → List ℕ → Bool
within p end w = begins p.never (w ++ end) && same_bytes (taken (through (place_step p) (w ++ end))) w

-- Before each end the form w stays and is held as another text than t.
abbrev pub altered : PlaceName → List ℕ → List ℕ → Bool
altered name w t = all (λ (end : List ℕ). within (place_of name) end w && not (same_bytes (result (through (place_step (place_of name)) (w ++ end))) t)) (ends_of name)

-- Before some end it does not stay.
abbrev pub broken : PlaceName → List ℕ → Bool
broken name w = any (λ (end : List ℕ). not (within (place_of name) end w)) (ends_of name)

-- ---- what is computed of a cell

abbrev begins_less : List ℕ → Bool
begins_less [] = false
begins_less (b ∷ s) = eqb b 60

-- The place is left at `<` only, each end begins with it, and no form has it.
abbrev less_stays : PlaceName → Context → Bool
less_stays name c = less_free c && (less_only (place_of name) && all begins_less (ends_of name))

-- Forms stay: by the tests of context and place, or since they have no `<`.
abbrev forms_stay : PlaceName → Context → Bool
forms_stay name c = begins_in c (place_of name) && (stays_in c (place_of name) || less_stays name c)

-- Each exception is held as something else.
abbrev exceptions : List (List ℕ) → PlaceName → Context → Bool
exceptions bad name c = all (λ (a : List ℕ). altered name (encode_of c a) a) bad

abbrev texts_held : List (List ℕ) → PlaceName → Context → Bool
texts_held bad name c = begins_in c (place_of name) && (stays_in c (place_of name) && (holds_but bad c (place_of name) && exceptions bad name c))

abbrev is_script : PlaceName → Bool
is_script ElementText = false
is_script TitleText = false
is_script TextareaText = false
is_script DoubleQuotedValue = false
is_script SingleQuotedValue = false
is_script UnquotedValue = false
is_script ScriptElement = true
is_script StyleElement = false
is_script ScriptSingle = false
is_script ScriptDouble = false
is_script OldScriptSingle = false
is_script OldScriptDouble = false
is_script ScriptTemplate = false
is_script StyleSingle = false
is_script StyleDouble = false
is_script JsonText = false

-- What is computed for a verdict. script_raw stays in a script element only, by its own law, and holds no place's texts.
abbrev pub cell : PlaceName → AnyContext → Verdict → Bool
cell name (Units c) (holds bad) = texts_held bad name c
cell name (Units c) (alters t) = forms_stay name c && altered name (encode_of c t) t
cell name (Units c) (breaks t) = broken name (encode_of c t)
cell name ScriptRaw (holds bad) = false
cell name ScriptRaw (alters t) = is_script name && altered name (raw_of t) t
cell name ScriptRaw (breaks t) = broken name (raw_of t)
cell name Unknown v = false

-- A verdict for each context, in their order, and each passes.
abbrev pub cells : (AnyContext → Verdict → Bool) → List (Label AnyContext) → List Verdict → Bool
cells f [] [] = true
cells f [] (v ∷ vs) = false
cells f (l ∷ ls) [] = false
cells f (l ∷ ls) (v ∷ vs) = f l.names v && cells f ls vs

abbrev ends_leave : PlaceName → Bool
ends_leave name = all (leaves_at (place_of name)) (ends_of name)

abbrev pub checked : Line → Bool
checked l = ends_leave l.name && cells (cell l.name) context_names l.verdicts

pub matrix-checked : T (all checked matrix)
unfolding place_step encode_step raw_step name_table name_of bare identifiers renumbering
matrix-checked = tt

-- The empty text is no value without quotes, in any context.
pub empty-breaks : T (all (λ (l : Label AnyContext). broken UnquotedValue (form_of l.names [])) context_names)
empty-breaks = tt

-- ---- the cells that list more than one character

abbrev exact_but : PlaceName → Context → List (List ℕ) → Bool
exact_but name c [] = true
exact_but name c (a ∷ []) = true
exact_but name c (a ∷ b ∷ bad) = all (exact_in (a ∷ b ∷ bad) c (place_of name)) (ends_of name)

abbrev exact_for : PlaceName → Context → Verdict → Bool
exact_for name c (holds bad) = exact_but name c bad
exact_for name c (alters t) = true
exact_for name c (breaks t) = true

abbrev exact_cell : PlaceName → AnyContext → Verdict → Bool
exact_cell name (Units c) v = exact_for name c v
exact_cell name ScriptRaw v = true
exact_cell name Unknown v = true

abbrev exact_line : Line → Bool
exact_line l = cells (exact_cell l.name) context_names l.verdicts

exact-cells : T (all exact_line matrix)
unfolding renumbering
exact-cells = tt

-- ---- what a cell says

module _ (name : PlaceName) (ends : T (ends_leave name)) where
  end_leaves : (end : List ℕ) → In end (ends_of name) → T (leaves_at (place_of name) end)
  end_leaves = all_in (leaves_at (place_of name)) (ends_of name) ends

  -- The value begins with the form of each text that may be put there.
  begun : (c : Context) → T (begins_in c (place_of name)) → (t : List ℕ) → IsText t → T (allowed name t) → (r : List ℕ) → T (begins (place_of name).never (encode_of c t ++ r))
  begun c b [] h a r = go (place_of name).never a
    where
      go : (never : List ℕ) → T (begins never []) → T (begins never (encode_of c [] ++ r))
      go [] a = tt
      go (n ∷ ns) a = absurd a
  begun c b (x ∷ t) h a r = form-begins c (place_of name) b x t h r

  by_tests : (c : Context) → T (begins_in c (place_of name)) → T (stays_in c (place_of name)) → (t : List ℕ) → IsText t → T (allowed name t) → Stays name (encode_of c t)
  by_tests c b s t h a end i r = (begun c b t h a (end ++ r), contained c (place_of name) s end (end_leaves end i) t h r)

  by_less : (c : Context) → T (begins_in c (place_of name)) → T (less_stays name c) → (t : List ℕ) → IsText t → T (allowed name t) → Stays name (encode_of c t)
  by_less c b s t h a end i r = (begun c b t h a (end ++ r), go end (all_in begins_less (ends_of name) (and_right only less o) end i) (end_leaves end i))
    where
      only : Bool
      only = less_only (place_of name)

      less : Bool
      less = all begins_less (ends_of name)

      o : T (only && less)
      o = and_right (less_free c) (only && less) s

      go : (end : List ℕ) → T (begins_less end) → T (leaves_at (place_of name) end) → taken (through (place_step (place_of name)) (encode_of c t ++ (end ++ r))) ≡ encode_of c t
      go [] e l = absurd e
      go (x ∷ end) e l =
          subst (λ (y : ℕ). taken (through (place_step (place_of name)) (encode_of c t ++ (y ∷ end ++ r))) ≡ encode_of c t) (sym (eqb→eq x 60 e))
          (less-contained c (and_left (less_free c) (only && less) s) (place_of name) (and_left only less o) end (subst (λ (y : ℕ). T (leaves_at (place_of name) (y ∷ end))) (eqb→eq x 60 e) l) t h r)

  -- Where the cell says `holds`.
  cell_stays : (c : Context) (bad : List (List ℕ)) → T (texts_held bad name c) → (t : List ℕ) → IsText t → T (allowed name t) → Stays name (encode_of c t)
  cell_stays c bad k =
      let rest = holds_but bad c (place_of name) && exceptions bad name c in
      let s = and_right (begins_in c (place_of name)) (stays_in c (place_of name) && rest) k in
      by_tests c (and_left (begins_in c (place_of name)) (stays_in c (place_of name) && rest) k) (and_left (stays_in c (place_of name)) rest s)

  cell_holds : (c : Context) (bad : List (List ℕ)) → T (texts_held bad name c) → (t : List ℕ) → IsFree bad t → T (allowed name t) → Holds name (encode_of c t) t
  cell_holds c bad k t f a =
      let h = holds_but bad c (place_of name) in
      let rest = h && exceptions bad name c in
      let s = and_right (begins_in c (place_of name)) (stays_in c (place_of name) && rest) k in
      let y = and_left h (exceptions bad name c) (and_right (stays_in c (place_of name)) rest s) in (
        cell_stays c bad k t (f.0, f.1, f.3) a,
        λ end i r. contained-text c (place_of name) (and_left (stays_in c (place_of name)) rest s) end (end_leaves end i) bad y t f r,
      )

  -- Where it says `alters`.
  cell-alters : (c : Context) (a : List ℕ) → T (forms_stay name c && altered name (encode_of c a) a) → (t : List ℕ) → IsText t → T (allowed name t) → Stays name (encode_of c t)
  cell-alters c a k t h w =
      let f = and_left (forms_stay name c) (altered name (encode_of c a) a) k in
      let either = stays_in c (place_of name) || less_stays name c in
      go (and_left (begins_in c (place_of name)) either f) (or_cases (stays_in c (place_of name)) (less_stays name c) (and_right (begins_in c (place_of name)) either f))
    where
      go : T (begins_in c (place_of name)) → T (stays_in c (place_of name)) ⊎ T (less_stays name c) → Stays name (encode_of c t)
      go b (inl s) = by_tests c b s t h w
      go b (inr s) = by_less c b s t h w

-- script_raw in a script element.
raw-in-script : (t : List ℕ) → Stays ScriptElement (raw_of t)
raw-in-script t end (inl e) r =
    subst (λ (end : List ℕ). T true × (taken (through (place_step (place_of ScriptElement)) (raw_of t ++ (end ++ r))) ≡ raw_of t)) (sym e) (tt, raw-contained t r)
raw-in-script t end (inr i) r = absurd i

raw-stays : (name : PlaceName) → T (is_script name) → (t : List ℕ) → Stays name (raw_of t)
raw-stays ScriptElement k t = raw-in-script t
raw-stays ElementText k t = absurd k
raw-stays TitleText k t = absurd k
raw-stays TextareaText k t = absurd k
raw-stays DoubleQuotedValue k t = absurd k
raw-stays SingleQuotedValue k t = absurd k
raw-stays UnquotedValue k t = absurd k
raw-stays StyleElement k t = absurd k
raw-stays ScriptSingle k t = absurd k
raw-stays ScriptDouble k t = absurd k
raw-stays OldScriptSingle k t = absurd k
raw-stays OldScriptDouble k t = absurd k
raw-stays ScriptTemplate k t = absurd k
raw-stays StyleSingle k t = absurd k
raw-stays StyleDouble k t = absurd k
raw-stays JsonText k t = absurd k

-- ---- the matrix in words

-- Each context with its verdict.
abbrev pub paired : List (Label AnyContext) → List Verdict → List (AnyContext × Verdict)
paired [] vs = []
paired (l ∷ ls) [] = []
paired (l ∷ ls) (v ∷ vs) = (l.names, v) ∷ paired ls vs

-- The matrix says the verdict v of a context and a place.
abbrev pub Says : Line → AnyContext → Verdict → Type 0
Says l n v = In l matrix × In (n, v) (paired context_names l.verdicts)

cell-of : (f : AnyContext → Verdict → Bool) (ls : List (Label AnyContext)) (vs : List Verdict) → T (cells f ls vs) → (n : AnyContext) (v : Verdict) → In (n, v) (paired ls vs) → T (f n v)
cell-of f [] vs t n v i = absurd i
cell-of f (l ∷ ls) [] t n v i = absurd i
cell-of f (l ∷ ls) (w ∷ vs) t n v (inl e) = subst (λ (x : AnyContext × Verdict). T (f x.0 x.1)) (sym e) (and_left (f l.names w) (cells f ls vs) t)
cell-of f (l ∷ ls) (w ∷ vs) t n v (inr i) = cell-of f ls vs (and_right (f l.names w) (cells f ls vs) t) n v i

module _ (l : Line) where
  ends-checked : In l matrix → T (ends_leave l.name)
  ends-checked i = and_left (ends_leave l.name) (cells (cell l.name) context_names l.verdicts) (all_in checked matrix matrix-checked l i)

  cell-checked : (n : AnyContext) (v : Verdict) → Says l n v → T (cell l.name n v)
  cell-checked n v s =
      cell-of (cell l.name) context_names l.verdicts
      (and_right (ends_leave l.name) (cells (cell l.name) context_names l.verdicts) (all_in checked matrix matrix-checked l s.0)) n v s.1

  -- Where it says that a place holds the texts of a context: what is written stays there, whatever is typed and whatever follows, and the place holds the text.
  pub matrix-holds : (n : AnyContext) (bad : List (List ℕ)) → Says l n (holds bad) → (t : List ℕ) → IsFree bad t → T (allowed l.name t) → Holds l.name (form_of n t) t
  matrix-holds (Units c) bad s = cell_holds l.name (ends-checked s.0) c bad (cell-checked (Units c) (holds bad) s)
  matrix-holds ScriptRaw bad s = absurd (cell-checked ScriptRaw (holds bad) s)
  matrix-holds Unknown bad s = absurd (cell-checked Unknown (holds bad) s)

  -- There a text with one of the exceptions stays too.
  pub matrix-stays : (n : AnyContext) (bad : List (List ℕ)) → Says l n (holds bad) → (t : List ℕ) → IsText t → T (allowed l.name t) → Stays l.name (form_of n t)
  matrix-stays (Units c) bad s = cell_stays l.name (ends-checked s.0) c bad (cell-checked (Units c) (holds bad) s)
  matrix-stays ScriptRaw bad s = absurd (cell-checked ScriptRaw (holds bad) s)
  matrix-stays Unknown bad s = absurd (cell-checked Unknown (holds bad) s)

  -- Where it says that a text is held as another one, no text leaves the place.
  pub matrix-alters : (n : AnyContext) (a : List ℕ) → Says l n (alters a) → (t : List ℕ) → IsText t → T (allowed l.name t) → Stays l.name (form_of n t)
  matrix-alters (Units c) a s = cell-alters l.name (ends-checked s.0) c a (cell-checked (Units c) (alters a) s)
  matrix-alters ScriptRaw a s = λ t h w. raw-stays l.name (and_left (is_script l.name) (altered l.name (raw_of a) a) (cell-checked ScriptRaw (alters a) s)) t
  matrix-alters Unknown a s = absurd (cell-checked Unknown (alters a) s)

  -- Its counterexamples are some.
  pub matrix-breaks : (n : AnyContext) (a : List ℕ) → Says l n (breaks a) → T (broken l.name (form_of n a))
  matrix-breaks (Units c) a s = cell-checked (Units c) (breaks a) s
  matrix-breaks ScriptRaw a s = cell-checked ScriptRaw (breaks a) s
  matrix-breaks Unknown a s = absurd (cell-checked Unknown (breaks a) s)

  -- Where it lists CR too, and perhaps the 27 characters, the place holds of every text, with no exception, what its own input stage makes of that, each character
  -- as a browser takes it.
  pub matrix-exactly : (c : Context) (a b : List ℕ) (bad : List (List ℕ)) → Says l (Units c) (holds (a ∷ b ∷ bad)) → (cs : List (List ℕ)) → All IsChar cs
      → (end : List ℕ) → In end (ends_of l.name) → (r : List ℕ)
      → result (through (place_step (place_of l.name)) (encode_of c (join cs) ++ (end ++ r))) ≡ result (through (place_step (stage (place_of l.name))) (join (map (held_as c) cs)))
  matrix-exactly c a b bad s cs h end i r =
      let p = place_of l.name in
      let all-bad = a ∷ b ∷ bad in
      let k = cell-checked (Units c) (holds all-bad) s in
      let rest = holds_but all-bad c p && exceptions all-bad l.name c in
      let s' = and_right (begins_in c p) (stays_in c p && rest) k in
      let exact = cell-of (exact_cell l.name) context_names l.verdicts (all_in exact_line matrix exact-cells l s.0) (Units c) (holds all-bad) s.1 in
      held-exactly all-bad c p end (and_left (stays_in c p) rest s') (and_left (holds_but all-bad c p) (exceptions all-bad l.name c) (and_right (stays_in c p) rest s'))
      (all_in (exact_in all-bad c p) (ends_of l.name) exact end i) (end_leaves l.name (ends-checked s.0) end i) cs h r

-- A browser takes each character of a context without a rule for itself,
pub held_same : (c : Context) → T (not (has_rule c)) → (a : List ℕ) → held_as c a ≡ a
held_same (InHtml h) t a = refl
held_same (InScript q) t a = refl
held_same (InStyle q) t a = refl
held_same InJson t a = refl
held_same InAscii t a = absurd t

-- and of ascii_quoted each but the 27.
pub held-unmoved : (c : Context) (a : List ℕ) → IsChar a → (In a (map utf8 renumbered) → ⊥) → held_as c a ≡ a
held-unmoved c a h f = go (by_rule c a)
  where
    go : (o : Option (List ℕ)) → elim o [ none ↦ a | some v ↦ browsed a ] ≡ a
    go none = refl
    go (some v) = free-browsed a h f
