-- The script data place and the Standard's script data states. The place ends where the states do, where an end tag ends it. And a form in a script element,
-- whatever the page's script was before it, `<!--` and `<script` included: between tags it stays between tags, and leaves nothing.
-- Assumes nothing.
use mathlib.Core.Bool.{Bool, true, false, not, ◌&&◌, ◌||◌, cond}
use mathlib.Core.Logic.{inl, inr}
use mathlib.Core.Option.{Option, none, some}
use mathlib.Core.Path.{◌≡◌, refl, sym, ap, ◌∙◌, subst}
use mathlib.Core.List.{List, [], ◌∷◌, ◌++◌, map}
use Prim.Native.Nat.{ℕ, suc, pred, ◌+◌}
use native.Mathlib.Omega.{arith}
use lib.Dec.{T, eqb, eqb→eq, eqb_refl, T_not}
use lib.ListN.{length, drop}
use Rattle.rules.specs.Bytes.{ascii, is, In, all, fits, stands, one_of}
use Rattle.rules.specs.Moves.{Move, takes, and_then, moves, through, taken, place}
use Rattle.rules.specs.Utf8.{IsText}
use Rattle.rules.specs.Encoding.{any_case}
use Rattle.rules.specs.Operations.{encode_of}
use Rattle.rules.specs.ScriptData.{ScriptState, Data, LessThan, EndTagOpen, EndTagName, EscapeStart, EscapeStartDash, Escaped, EscapedDash, EscapedDashDash, EscapedLessThan, EscapedEndTagOpen, EscapedEndTagName, DoubleEscapeStart, DoubleEscaped, DoubleEscapedDash, DoubleEscapedDashDash, DoubleEscapedLessThan, DoubleEscapeEnd, lower, name_ends, ends_name, named, in_data, in_escaped, in_double, next, naming, leaves, is_script, closing_from, closing_tag, spells, end_from}
use Rattle.rules.specs.declared.ScriptMode.TheVariants.{Plain, Once}
use Rattle.rules.specs.declared.Context.{Context}
use Rattle.rules.proofs.Tests.{and_left, and_right, and_both, or_left, or_right, or-false, is_false, all_in, any-in, first-sound}
use Rattle.rules.proofs.ScriptModes.{modes-agree}
use Rattle.rules.proofs.RawCloses.{case-fits}
use Rattle.places.specs.Places.{leaves as leaving, Entry, place_step, entry_at, act, act_on, exactly, nul_replaced, line_ends}
use Rattle.places.specs.HtmlPlaces.{end_tag, script_data}
use Rattle.contained.proofs.Steps.{one_byte}
use Rattle.contained.proofs.Heads.{no-amp}
use Rattle.contained.proofs.Less.{no_less, less_free, form-less}

-- ---- the end tag as a pattern, and as the states spell it

-- The lower case of each choice is the letter.
abbrev lowers : List ℕ → Bool
lowers word = all (λ (c : ℕ). all (λ (y : ℕ). eqb (lower y) c) (any_case c)) word

abbrev tag_of : List ℕ → List (List ℕ)
tag_of word = map any_case word ++ name_ends ∷ []

fits-spells : (word s : List ℕ) → T (lowers word) → T (fits one_of (tag_of word) s) → T (spells word s)
fits-spells [] [] l t = absurd t
fits-spells [] (b ∷ s) l t = and_left (one_of name_ends b) true t
fits-spells (c ∷ word) [] l t = absurd t
fits-spells (c ∷ word) (b ∷ s) l t =
    let (y, i, e) = any-in (eqb b) (any_case c) (and_left (one_of (any_case c) b) (fits one_of (tag_of word) s) t) in
    let here = all (λ (y : ℕ). eqb (lower y) c) (any_case c) in
    and_both (eqb (lower b) c) (spells word s) (subst (λ (x : ℕ). T (eqb (lower x) c)) (sym (eqb→eq b y e)) (all_in (λ (y : ℕ). eqb (lower y) c) (any_case c) (and_left here (lowers word) l) y i))
    (fits-spells word s (and_right here (lowers word) l) (and_right (one_of (any_case c) b) (fits one_of (tag_of word) s) t))

spells-fits : (word s : List ℕ) → T (spells word s) → T (fits one_of (tag_of word) s)
spells-fits word [] t = absurd t
spells-fits [] (b ∷ s) t = and_both (one_of name_ends b) true t tt
spells-fits (c ∷ word) (b ∷ s) t =
    and_both (one_of (any_case c) b) (fits one_of (tag_of word) s) (case-fits b c (and_left (eqb (lower b) c) (spells word s) t))
    (spells-fits word s (and_right (eqb (lower b) c) (spells word s) t))

-- ---- the place ends where the states do

abbrev tag : List (List ℕ)
tag = (end_tag (ascii "script")).0

abbrev comment : List (List ℕ)
comment = exactly (ascii "<!--")

exact-fits : (word s : List ℕ) → T (stands word s) → T (fits one_of (exactly word) s)
exact-fits [] s t = tt
exact-fits (k ∷ word) [] t = absurd t
exact-fits (k ∷ word) (y ∷ s) t =
    and_both (eqb y k || false) (fits one_of (exactly word) s)
    (subst (λ (z : ℕ). T (eqb z k || false)) (eqb→eq k y (and_left (eqb k y) (stands word s) t)) (or_left (eqb k k) false (eqb_refl k)))
    (exact-fits word s (and_right (eqb k y) (stands word s) t))

none_more : (a : ℕ) → a ≡ a + 0
none_more a = omega arith

one_more : (a k : ℕ) → a + 1 + k ≡ a + suc k
one_more a k = omega arith

-- Where neither stands one byte is taken.
byte-taken : (b : ℕ) (s : List ℕ) → fits one_of tag (b ∷ s) ≡ false → fits one_of comment (b ∷ s) ≡ false → takes (place_step script_data 0 (b ∷ s)) ≡ b ∷ []
byte-taken b s e f = ap takes (no-amp script_data 0 b s (λ a. a)) ∙ go (entry_at script_data.entries (b ∷ s)) refl
  where
    found : (x : Entry) → In x script_data.entries → T (fits one_of x.0 (b ∷ s)) → takes (act x.1 (b ∷ s)) ≡ b ∷ []
    found x (inl q) t = absurd (subst T e (subst (λ (d : Entry). T (fits one_of d.0 (b ∷ s))) q t))
    found x (inr (inl q)) t = absurd (subst T f (subst (λ (d : Entry). T (fits one_of d.0 (b ∷ s))) q t))
    found x (inr (inr (inl q))) t = ap (λ (d : Entry). takes (act d.1 (b ∷ s))) q
    found x (inr (inr (inr (inl q)))) t = ap (λ (d : Entry). takes (act d.1 (b ∷ s))) q
    found x (inr (inr (inr (inr (inl q))))) t = ap (λ (d : Entry). takes (act d.1 (b ∷ s))) q
    found x (inr (inr (inr (inr (inr i))))) t = absurd i

    go : (o : Option Entry) → entry_at script_data.entries (b ∷ s) ≡ o → takes (act_on o (b ∷ s)) ≡ b ∷ []
    go none q = refl
    go (some x) q = let (i, t) = first-sound (λ (e : Entry). fits one_of e.0) script_data.entries (b ∷ s) x q in found x i t

-- Where one of them stands none is.
none-taken : (b : ℕ) (s : List ℕ) → T (fits one_of tag (b ∷ s) || fits one_of comment (b ∷ s)) → through (place_step script_data) (b ∷ s) ≡ []
unfolding place_step
none-taken b s t = go (fits one_of tag (b ∷ s)) (fits one_of comment (b ∷ s)) t (entry_at (nul_replaced ∷ line_ends) (b ∷ s))
  where
    after : Move → List Move
    after m = and_then m (moves (place_step script_data) b (pred (length (takes m))) s)

    go : (x y : Bool) → T (x || y) → (o : Option Entry)
        → after (act_on (elim x [ true ↦ some (end_tag (ascii "script")) | false ↦ elim y [ true ↦ some (comment, leaving) | false ↦ o ] ]) (b ∷ s)) ≡ []
    go true y t o = refl
    go false true t o = refl
    go false false t o = absurd t

-- The states at a byte that is taken: none is left, and no `<!--` begins.
plain-on : (at b : ℕ) (s : List ℕ) → fits one_of tag (b ∷ s) ≡ false → fits one_of comment (b ∷ s) ≡ false → end_from Plain at (b ∷ s) ≡ end_from Plain (at + 1) s
plain-on at b s e f = λ i. cond (ends i) (some at) (end_from (cond (opened i) Once Plain) (at + 1) s)
  where
    less : (ps : List (List ℕ)) (g : Bool) → (T g → T (fits one_of ps s)) → T (is "<" b && g) → T (fits one_of ((60 ∷ []) ∷ ps) (b ∷ s))
    less ps g h t = and_both (eqb b 60 || false) (fits one_of ps s) (or_left (eqb b 60) false (and_left (is "<" b) g t)) (h (and_right (is "<" b) g t))

    ends : (is "<" b && spells (ascii "/script") s) ≡ false
    ends = is_false (is "<" b && spells (ascii "/script") s) (λ t. subst T e (less (tag_of (ascii "/script")) (spells (ascii "/script") s) (spells-fits (ascii "/script") s) t))

    opened : (is "<" b && stands (ascii "!--") s) ≡ false
    opened = is_false (is "<" b && stands (ascii "!--") s) (λ t. subst T f (less (exactly (ascii "!--")) (stands (ascii "!--") s) (exact-fits (ascii "!--") s) t))

is_true : (b : Bool) → T b → b ≡ true
is_true true t = refl
is_true false t = absurd t

-- From any place on.
agrees_at : (s : List ℕ) (at : ℕ) → T (fits one_of tag (drop (place (through (place_step script_data) s)) s)) → end_from Plain at s ≡ some (at + place (through (place_step script_data) s))
agrees_at [] at t = absurd t
agrees_at (b ∷ s) at t = go (fits one_of tag (b ∷ s)) refl (fits one_of comment (b ∷ s)) refl (agrees_at s (at + 1))
  where
    stopped : (u : T (fits one_of tag (b ∷ s) || fits one_of comment (b ∷ s))) → T (fits one_of tag (b ∷ s)) → end_from Plain at (b ∷ s) ≡ some (at + place (through (place_step script_data) (b ∷ s)))
    stopped u h =
        ap (λ (x : Bool). cond x (some at) (end_from (cond (is "<" b && stands (ascii "!--") s) Once Plain) (at + 1) s)) (is_true (is "<" b && spells (ascii "/script") s) (tagged h))
        ∙ ap (λ (k : ℕ). some k) (none_more at) ∙ sym (ap (λ (ms : List Move). some (at + place ms)) (none-taken b s u))
      where
        tagged : T (fits one_of tag (b ∷ s)) → T (is "<" b && spells (ascii "/script") s)
        tagged h =
            and_both (is "<" b) (spells (ascii "/script") s) (or-false (eqb b 60) (and_left (eqb b 60 || false) (fits one_of (tag_of (ascii "/script")) s) h))
            (fits-spells (ascii "/script") s tt (and_right (eqb b 60 || false) (fits one_of (tag_of (ascii "/script")) s) h))

    go : (x : Bool) → fits one_of tag (b ∷ s) ≡ x → (y : Bool) → fits one_of comment (b ∷ s) ≡ y
        → (T (fits one_of tag (drop (place (through (place_step script_data) s)) s)) → end_from Plain (at + 1) s ≡ some (at + 1 + place (through (place_step script_data) s)))
        → end_from Plain at (b ∷ s) ≡ some (at + place (through (place_step script_data) (b ∷ s)))
    go true e y f ih = stopped (or_left (fits one_of tag (b ∷ s)) (fits one_of comment (b ∷ s)) (subst T (sym e) tt)) (subst T (sym e) tt)
    go false e true f ih =
        let u = or_right (fits one_of tag (b ∷ s)) (fits one_of comment (b ∷ s)) (subst T (sym f) tt) in
        absurd (subst T e (subst (λ (ms : List Move). T (fits one_of tag (drop (place ms) (b ∷ s)))) (none-taken b s u) t))
    go false e false f ih =
        let here = byte-taken b s e f in
        let one : place (through (place_step script_data) (b ∷ s)) ≡ suc (place (through (place_step script_data) s)) =
        ap place (one_byte script_data 0 b s here) ∙ ap (λ (a : List ℕ). length (a ++ taken (through (place_step script_data) s))) here in
        plain-on at b s e f
        ∙ ih (subst (λ (n : ℕ). T (fits one_of tag (drop n (b ∷ s)))) one t)
        ∙ ap (λ (k : ℕ). some k) (one_more at (place (through (place_step script_data) s)) ∙ sym (ap (λ (k : ℕ). at + k) one))

-- Where the place ends at an end tag, that is the one which leaves the script data states.
pub script-agrees : (s : List ℕ) → T (fits one_of tag (drop (place (through (place_step script_data) s)) s)) → closing_tag s ≡ some (place (through (place_step script_data) s))
script-agrees s t = modes-agree s ∙ agrees_at s 0 t ∙ ap (λ (k : ℕ). some k) (omega arith)

-- ---- a form in a script element

-- The states between tags: script data, escaped and double escaped, with or without dashes just read.
abbrev pub calm : ScriptState → Bool
calm Data = true
calm Escaped = true
calm EscapedDash = true
calm EscapedDashDash = true
calm DoubleEscaped = true
calm DoubleEscapedDash = true
calm DoubleEscapedDashDash = true
calm LessThan = false
calm EndTagOpen = false
calm EndTagName = false
calm EscapeStart = false
calm EscapeStartDash = false
calm EscapedLessThan = false
calm EscapedEndTagOpen = false
calm EscapedEndTagName = false
calm DoubleEscapeStart = false
calm DoubleEscapedLessThan = false
calm DoubleEscapeEnd = false

data-calm : (b : ℕ) → (T (eqb b 60) → ⊥) → T (calm (in_data b))
data-calm b n = go (eqb b 60) n
  where
    go : (x : Bool) → (T x → ⊥) → T (calm (cond x LessThan Data))
    go true n = n tt
    go false n = tt

escaped-calm : (b : ℕ) → (T (eqb b 60) → ⊥) → T (calm (in_escaped b))
escaped-calm b n = go (eqb b 45) (eqb b 60) n
  where
    go : (d x : Bool) → (T x → ⊥) → T (calm (cond d EscapedDash (cond x EscapedLessThan Escaped)))
    go true x n = tt
    go false true n = n tt
    go false false n = tt

double-calm : (b : ℕ) → (T (eqb b 60) → ⊥) → T (calm (in_double b))
double-calm b n = go (eqb b 45) (eqb b 60) n
  where
    go : (d x : Bool) → (T x → ⊥) → T (calm (cond d DoubleEscapedDash (cond x DoubleEscapedLessThan DoubleEscaped)))
    go true x n = tt
    go false true n = n tt
    go false false n = tt

-- One of two states, both calm.
either : (x : Bool) (s t : ScriptState) → T (calm s) → T (calm t) → T (calm (cond x s t))
either true s t a b = a
either false s t a b = b

next-calm : (st : ScriptState) (script : Bool) (b : ℕ) → T (calm st) → (T (eqb b 60) → ⊥) → T (calm (next st script b))
next-calm Data script b c n = data-calm b n
next-calm Escaped script b c n = escaped-calm b n
next-calm EscapedDash script b c n = either (eqb b 45) EscapedDashDash (in_escaped b) tt (escaped-calm b n)
next-calm EscapedDashDash script b c n = either (eqb b 45) EscapedDashDash (cond (eqb b 62) Data (in_escaped b)) tt (either (eqb b 62) Data (in_escaped b) tt (escaped-calm b n))
next-calm DoubleEscaped script b c n = double-calm b n
next-calm DoubleEscapedDash script b c n = either (eqb b 45) DoubleEscapedDashDash (in_double b) tt (double-calm b n)
next-calm DoubleEscapedDashDash script b c n = either (eqb b 45) DoubleEscapedDashDash (cond (eqb b 62) Data (in_double b)) tt (either (eqb b 62) Data (in_double b) tt (double-calm b n))
next-calm LessThan script b c n = absurd c
next-calm EndTagOpen script b c n = absurd c
next-calm EndTagName script b c n = absurd c
next-calm EscapeStart script b c n = absurd c
next-calm EscapeStartDash script b c n = absurd c
next-calm EscapedLessThan script b c n = absurd c
next-calm EscapedEndTagOpen script b c n = absurd c
next-calm EscapedEndTagName script b c n = absurd c
next-calm DoubleEscapeStart script b c n = absurd c
next-calm DoubleEscapedLessThan script b c n = absurd c
next-calm DoubleEscapeEnd script b c n = absurd c

no-leave : (st : ScriptState) (script : Bool) (b : ℕ) → T (calm st) → T (leaves st script b) → ⊥
no-leave st script b c t = go st c (and_right (ends_name b) (naming st && script) t)
  where
    go : (st : ScriptState) → T (calm st) → T (naming st && script) → ⊥
    go Data c t = t
    go Escaped c t = t
    go EscapedDash c t = t
    go EscapedDashDash c t = t
    go DoubleEscaped c t = t
    go DoubleEscapedDash c t = t
    go DoubleEscapedDashDash c t = t
    go LessThan c t = c
    go EndTagOpen c t = c
    go EndTagName c t = c
    go EscapeStart c t = c
    go EscapeStartDash c t = c
    go EscapedLessThan c t = c
    go EscapedEndTagOpen c t = c
    go EscapedEndTagName c t = c
    go DoubleEscapeStart c t = c
    go DoubleEscapedLessThan c t = c
    go DoubleEscapeEnd c t = c

-- Through bytes without `<` from a state between tags: nothing leaves, and the states go on from such a state.
calm-through : (st : ScriptState) (name : List ℕ) (less at : ℕ) (w s : List ℕ) → T (calm st) → T (no_less w)
    → (st' : ScriptState) × (name' : List ℕ) × T (calm st') × (closing_from st name less at (w ++ s) ≡ closing_from st' name' less (at + length w) s)
calm-through st name less at [] s c n = (st, name, c, ap (λ (k : ℕ). closing_from st name less k s) (none_more at))
calm-through st name less at (b ∷ w) s c n =
    let script = is_script name in
    let no = T_not (eqb b 60) (and_left (not (eqb b 60)) (no_less w) n) in
    let (st', name', c', e) = calm-through (next st script b) (named name b) less (at + 1) w s (next-calm st script b c no) (and_right (not (eqb b 60)) (no_less w) n) in (
      st',
      name',
      c',
      ap (λ (x : Bool). cond x (some less) (closing_from (next st script b) (named name b) (cond (eqb b 60) at less) (at + 1) (w ++ s))) (is_false (leaves st script b) (no-leave st script b c))
          ∙ ap (λ (x : Bool). closing_from (next st script b) (named name b) (cond x at less) (at + 1) (w ++ s)) (is_false (eqb b 60) no)
          ∙ e
          ∙ ap (λ (k : ℕ). closing_from st' name' less k s) (one_more at (length w)),
    )

-- So is each form of a context that replaces `<`.
pub form-calm : (c : Context) → T (less_free c) → (t : List ℕ) → IsText t → (st : ScriptState) (name : List ℕ) (less at : ℕ) (s : List ℕ) → T (calm st)
    → (st' : ScriptState) × (name' : List ℕ) × T (calm st') × (closing_from st name less at (encode_of c t ++ s) ≡ closing_from st' name' less (at + length (encode_of c t)) s)
form-calm c ok t h st name less at s k = calm-through st name less at (encode_of c t) s k (form-less c ok t h)
