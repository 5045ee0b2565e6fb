-- The eighteen states end an element where the three modes do: from each state on, what was read since the last `<` or dash and what stands next decide
-- as the mode did at that `<` or dash.
-- Assumes nothing.
use mathlib.Core.Bool.{Bool, true, false, not, ◌&&◌, cond}
use mathlib.Core.Option.{Option, none, some, none-ne-some, some-injective}
use mathlib.Core.Path.{◌≡◌, refl, sym, ap, ◌∙◌, subst}
use mathlib.Core.List.{List, [], ◌∷◌, ◌++◌}
use Prim.Native.Nat.{ℕ, suc, ◌+◌, ◌≤◌, ◌<◌}
use native.Mathlib.Omega.{arith}
use borrow.Author.Tests.{eqb-true, ne_eqb}
use lib.Dec.{T, eqb, leb, leb→le, eqb→eq}
use lib.ListN.{length, drop, get_or}
use Rattle.rules.specs.Bytes.{ascii, is, all, stands, between, same_bytes}
use Rattle.rules.specs.ScriptData.{ScriptState, Data, LessThan, EndTagOpen, EndTagName, EscapeStart, EscapeStartDash, Escaped, EscapedDash, EscapedDashDash, EscapedLessThan, EscapedEndTagOpen, EscapedEndTagName, DoubleEscapeStart, DoubleEscaped, DoubleEscapedDash, DoubleEscapedDashDash, DoubleEscapedLessThan, DoubleEscapeEnd, lower, alpha, name_ends, ends_name, named, in_data, in_escaped, in_double, next, leaves, is_script, closing_from, closing_tag, spells, ends, dashed, turn, end_from}
use Rattle.rules.specs.declared.ScriptMode.{ScriptMode}
use Rattle.rules.specs.declared.ScriptMode.TheVariants.{Plain, Once, Twice}
use Rattle.rules.proofs.Tests.{and_left, and_right, all_in, any-in}
use Rattle.rules.proofs.Below.{eqb_comm}

true-false : {A : Type 0} → true ≡ false → A
true-false e = absurd (subst T e tt)

and-off : (x : Bool) → (x && false) ≡ false
and-off true = refl
and-off false = refl

and-on : (x : Bool) → (x && true) ≡ x
and-on true = refl
and-on false = refl

off : (x : Bool) → T (not x) → x ≡ false
off true t = absurd t
off false t = refl

-- ---- kinds of bytes

-- A byte that ends a name passes no test that none of those bytes passes.
end-not : (f : ℕ → Bool) → T (all (λ (x : ℕ). not (f x)) name_ends) → (b : ℕ) → ends_name b ≡ true → f b ≡ false
end-not f t b e =
    let (x, i, q) = any-in (eqb b) name_ends (subst T (sym e) tt) in
    ap f (eqb→eq b x q) ∙ off (f x) (all_in (λ (x : ℕ). not (f x)) name_ends t x i)

-- A letter is no byte that ends a name, and none that is no letter.
letter-no-end : (b : ℕ) → alpha b ≡ true → ends_name b ≡ false
letter-no-end b a = go (ends_name b) refl
  where
    go : (x : Bool) → ends_name b ≡ x → x ≡ false
    go true e = sym a ∙ end-not alpha tt b e
    go false e = refl

letter-not : (b x : ℕ) → alpha x ≡ false → alpha b ≡ true → eqb b x ≡ false
letter-not b x n a = go (eqb b x) refl
  where
    go : (y : Bool) → eqb b x ≡ y → y ≡ false
    go true e = sym a ∙ ap alpha (eqb-true b x e) ∙ n
    go false e = refl

slash-lower : (b : ℕ) → is "/" b ≡ false → eqb (lower b) 47 ≡ false
slash-lower b e = go (between "A" "Z" b) refl
  where
    high : (b : ℕ) → 65 ≤ b → b + 32 ≡ 47 → ⊥
    high b h q = omega arith

    go : (x : Bool) → between "A" "Z" b ≡ x → eqb (cond x (b + 32) b) 47 ≡ false
    go true f = ne_eqb (b + 32) 47 (high b (leb→le 65 b (and_left (leb 65 b) (leb b 90) (subst T (sym f) tt))))
    go false f = e

-- A test for a character, the other way round as `stands` has it.
flip : (c b : ℕ) → eqb b c ≡ false → eqb c b ≡ false
flip c b e = eqb_comm c b ∙ e

-- ---- a name that was begun

-- What is left of a word behind the bytes that were read, if they are its start.
abbrev left : List ℕ → List ℕ → Option (List ℕ)
left [] word = some word
left (x ∷ read) [] = none
left (x ∷ read) (c ∷ word) = cond (eqb x c) (left read word) none

abbrev spells_rest : Option (List ℕ) → List ℕ → Bool
spells_rest none s = false
spells_rest (some word) s = spells word s

-- The letters `name` were read, and s goes on as `script` and a byte that ends it.
abbrev goes_on : List ℕ → List ℕ → Bool
goes_on name s = spells_rest (left name (ascii "script")) s

rest_end : (o : Option (List ℕ)) → spells_rest o [] ≡ false
rest_end none = refl
rest_end (some word) = refl

-- One byte more is read.
abbrev left_one : Option (List ℕ) → ℕ → Option (List ℕ)
left_one none x = none
left_one (some []) x = none
left_one (some (c ∷ word)) x = cond (eqb x c) (some word) none

left-more : (name word : List ℕ) (x : ℕ) → left (name ++ x ∷ []) word ≡ left_one (left name word) x
left-more [] [] x = refl
left-more [] (c ∷ word) x = refl
left-more (y ∷ name) [] x = refl
left-more (y ∷ name) (c ∷ word) x = go (eqb y c) (left-more name word x)
  where
    go : (z : Bool) → left (name ++ x ∷ []) word ≡ left_one (left name word) x → cond z (left (name ++ x ∷ []) word) none ≡ left_one (cond z (left name word) none) x
    go true ih = ih
    go false ih = refl

rest_more : (b : ℕ) (s : List ℕ) → alpha b ≡ true → (o : Option (List ℕ)) → spells_rest (left_one o (lower b)) s ≡ spells_rest o (b ∷ s)
rest_more b s a none = refl
rest_more b s a (some []) = sym (letter-no-end b a)
rest_more b s a (some (c ∷ word)) = go (eqb (lower b) c)
  where
    go : (z : Bool) → spells_rest (cond z (some word) none) s ≡ (z && spells word s)
    go true = refl
    go false = refl

-- A letter goes to the name.
letter : (name : List ℕ) (b : ℕ) (s : List ℕ) → alpha b ≡ true → goes_on (name ++ lower b ∷ []) s ≡ goes_on name (b ∷ s)
letter name b s a = ap (λ (o : Option (List ℕ)). spells_rest o s) (left-more name (ascii "script") (lower b)) ∙ rest_more b s a (left name (ascii "script"))

-- Any other byte ends it.
rest-other : (b : ℕ) (s : List ℕ) → alpha b ≡ false → (name word : List ℕ) → T (all (between "a" "z") word)
    → spells_rest (left name word) (b ∷ s) ≡ (ends_name b && same_bytes name word)
rest-other b s a [] [] t = sym (and-on (ends_name b))
rest-other b s a [] (c ∷ word) t = go (eqb (lower b) c) refl ∙ sym (and-off (ends_name b))
  where
    go : (x : Bool) → eqb (lower b) c ≡ x → (x && spells word s) ≡ false
    go true e = true-false (sym (letter-c (subst (λ (n : ℕ). between "a" "z" n ≡ false) (eqb-true (lower b) c e) a)))
      where
        letter-c : between "a" "z" c ≡ false → false ≡ true
        letter-c f = absurd (subst T f (and_left (between "a" "z" c) (all (between "a" "z") word) t))
    go false e = refl
rest-other b s a (x ∷ name) [] t = sym (and-off (ends_name b))
rest-other b s a (x ∷ name) (c ∷ word) t = go (eqb x c) (rest-other b s a name word)
  where
    go : (z : Bool) → (T (all (between "a" "z") word) → spells_rest (left name word) (b ∷ s) ≡ (ends_name b && same_bytes name word))
        → spells_rest (cond z (left name word) none) (b ∷ s) ≡ (ends_name b && (z && same_bytes name word))
    go true ih = ih (more (between "a" "z" c) t)
      where
        more : (y : Bool) → T (y && all (between "a" "z") word) → T (all (between "a" "z") word)
        more true u = u
        more false u = absurd u
    go false ih = sym (and-off (ends_name b))

other : (name : List ℕ) (b : ℕ) (s : List ℕ) → alpha b ≡ false → goes_on name (b ∷ s) ≡ (ends_name b && is_script name)
other name b s a = rest-other b s a name (ascii "script") tt

-- No name begins with a byte that is no letter.
no_name : (b : ℕ) (s : List ℕ) → alpha b ≡ false → spells (ascii "script") (b ∷ s) ≡ false
no_name b s a = other [] b s a ∙ and-off (ends_name b)

-- ---- what each state sees

-- Where s is yet to be read: the answer from each state on, by modes.
abbrev View : ScriptState → List ℕ → ℕ → ℕ → List ℕ → Option ℕ
View Data name less at s = end_from Plain at s
View LessThan name less at s = cond (spells (ascii "/script") s) (some less) (end_from (cond (stands (ascii "!--") s) Once Plain) at s)
View EndTagOpen name less at s = cond (spells (ascii "script") s) (some less) (end_from Plain at s)
View EndTagName name less at s = cond (goes_on name s) (some less) (end_from Plain at s)
View EscapeStart name less at s = end_from (cond (stands (ascii "--") s) Once Plain) at s
View EscapeStartDash name less at s = end_from (cond (stands (ascii "-") s) (dashed Once 45 s) Plain) at s
View Escaped name less at s = end_from Once at s
View EscapedDash name less at s = end_from (dashed Once 45 s) at s
View EscapedDashDash name less at s = end_from (cond (stands (ascii ">") s) Plain (dashed Once 45 s)) at s
View EscapedLessThan name less at s = cond (spells (ascii "/script") s) (some less) (end_from (cond (spells (ascii "script") s) Twice Once) at s)
View EscapedEndTagOpen name less at s = cond (spells (ascii "script") s) (some less) (end_from Once at s)
View EscapedEndTagName name less at s = cond (goes_on name s) (some less) (end_from Once at s)
View DoubleEscapeStart name less at s = end_from (cond (goes_on name s) Twice Once) at s
View DoubleEscaped name less at s = end_from Twice at s
View DoubleEscapedDash name less at s = end_from (dashed Twice 45 s) at s
View DoubleEscapedDashDash name less at s = end_from (cond (stands (ascii ">") s) Plain (dashed Twice 45 s)) at s
View DoubleEscapedLessThan name less at s = end_from (cond (spells (ascii "/script") s) Once Twice) at s
View DoubleEscapeEnd name less at s = end_from (cond (goes_on name s) Once Twice) at s

-- No letters were read yet in the states before a name.
abbrev Fresh : ScriptState → List ℕ → Type 0
Fresh Data name = Unit {0}
Fresh LessThan name = Unit {0}
Fresh EndTagOpen name = name ≡ []
Fresh EndTagName name = Unit {0}
Fresh EscapeStart name = Unit {0}
Fresh EscapeStartDash name = Unit {0}
Fresh Escaped name = Unit {0}
Fresh EscapedDash name = Unit {0}
Fresh EscapedDashDash name = Unit {0}
Fresh EscapedLessThan name = name ≡ []
Fresh EscapedEndTagOpen name = name ≡ []
Fresh EscapedEndTagName name = Unit {0}
Fresh DoubleEscapeStart name = Unit {0}
Fresh DoubleEscaped name = Unit {0}
Fresh DoubleEscapedDash name = Unit {0}
Fresh DoubleEscapedDashDash name = Unit {0}
Fresh DoubleEscapedLessThan name = Unit {0}
Fresh DoubleEscapeEnd name = Unit {0}

-- Neither `<` nor a dash: the mode stays.
quiet : (m : ScriptMode) (b at : ℕ) (s : List ℕ) → is "<" b ≡ false → is "-" b ≡ false → end_from m at (b ∷ s) ≡ end_from m (at + 1) s
quiet Plain b at s l d = rw l
quiet Once b at s l d = rw (l, d)
quiet Twice b at s l d = rw (l, d)

-- Escaped once, or twice.
abbrev deep : Bool → ScriptMode
deep true = Twice
deep false = Once

-- A dash behind a dash.
dash-dash : (t : Bool) (at : ℕ) (s : List ℕ)
    → end_from (cond (stands (ascii ">") s) Plain (dashed (deep t) 45 s)) (at + 1) s ≡ end_from (cond (stands (ascii ">") s) Plain (deep t)) at (45 ∷ s)
dash-dash t at s = go t (stands (ascii ">") s)
  where
    go : (t x : Bool) → end_from (cond x Plain (dashed (deep t) 45 s)) (at + 1) s ≡ end_from (cond x Plain (deep t)) at (45 ∷ s)
    go t true = refl
    go true false = refl
    go false false = refl

module _ (name : List ℕ) (less at b : ℕ) (s : List ℕ) where
  -- The state `to` behind the byte b answers what `st` does before it.
  abbrev Goes : ScriptState → ScriptState → Type 0
  Goes st to = (View to (named name b) (cond (is "<" b) at less) (at + 1) s ≡ View st name less at (b ∷ s)) × Fresh to (named name b)

  -- A byte that is read again in one of the three.
  data-again : (View (in_data b) (named name b) (cond (is "<" b) at less) (at + 1) s ≡ end_from Plain at (b ∷ s)) × Fresh (in_data b) (named name b)
  data-again = go (is "<" b)
    where
      go : (x : Bool)
          → (View (cond x LessThan Data) (named name b) (cond x at less) (at + 1) s
          ≡ cond (x && spells (ascii "/script") s) (some at) (end_from (cond (x && stands (ascii "!--") s) Once Plain) (at + 1) s))
          × Fresh (cond x LessThan Data) (named name b)
      go true = (refl, tt)
      go false = (refl, tt)

  once-again : (View (in_escaped b) (named name b) (cond (is "<" b) at less) (at + 1) s ≡ end_from Once at (b ∷ s)) × Fresh (in_escaped b) (named name b)
  once-again = go (is "-" b) refl (is "<" b) refl
    where
      go : (d : Bool) → is "-" b ≡ d → (l : Bool) → is "<" b ≡ l
          → (View (cond d EscapedDash (cond l EscapedLessThan Escaped)) (named name b) (cond l at less) (at + 1) s
          ≡ cond (l && spells (ascii "/script") s) (some at) (end_from (cond (l && spells (ascii "script") s) Twice (cond (d && stands (ascii "->") s) Plain Once)) (at + 1) s))
          × Fresh (cond d EscapedDash (cond l EscapedLessThan Escaped)) (named name b)
      go true e true f = true-false (sym f ∙ ap (is "<") (eqb-true b 45 e))
      go true e false f = (refl, tt)
      go false e true f = (refl, ap (named name) (eqb-true b 60 f))
      go false e false f = (refl, tt)

  twice-again : (View (in_double b) (named name b) (cond (is "<" b) at less) (at + 1) s ≡ end_from Twice at (b ∷ s)) × Fresh (in_double b) (named name b)
  twice-again = go (is "-" b) refl (is "<" b) refl
    where
      go : (d : Bool) → is "-" b ≡ d → (l : Bool) → is "<" b ≡ l
          → (View (cond d DoubleEscapedDash (cond l DoubleEscapedLessThan DoubleEscaped)) (named name b) (cond l at less) (at + 1) s
          ≡ end_from (cond (l && spells (ascii "/script") s) Once (cond (d && stands (ascii "->") s) Plain Twice)) (at + 1) s)
          × Fresh (cond d DoubleEscapedDash (cond l DoubleEscapedLessThan DoubleEscaped)) (named name b)
      go true e true f = true-false (sym f ∙ ap (is "<") (eqb-true b 45 e))
      go true e false f = (refl, tt)
      go false e true f = (refl, tt)
      go false e false f = (refl, tt)

  -- ---- a letter of a name, or what comes after it

  letter-stays : (m : ScriptMode) → alpha b ≡ true → end_from m (at + 1) s ≡ end_from m at (b ∷ s)
  letter-stays m a = sym (quiet m b at s (letter-not b 60 refl a) (letter-not b 45 refl a))

  end_stays : (m : ScriptMode) → ends_name b ≡ true → end_from m (at + 1) s ≡ end_from m at (b ∷ s)
  end_stays m e = sym (quiet m b at s (end-not (is "<") tt b e) (end-not (is "-") tt b e))

  letter-goes : alpha b ≡ true → goes_on (named name b) s ≡ goes_on name (b ∷ s)
  letter-goes a = rw a (letter name b s a)

  tag-letter : (m : ScriptMode) → alpha b ≡ true
      → cond (goes_on (named name b) s) (some (cond (is "<" b) at less)) (end_from m (at + 1) s) ≡ cond (goes_on name (b ∷ s)) (some less) (end_from m at (b ∷ s))
  tag-letter m a = λ i. cond (letter-goes a i) (some (cond (letter-not b 60 refl a i) at less)) (letter-stays m a i)

  -- A letter leaves no state.
  letter-keeps : {A : Type 0} (x y : A) (script : Bool) → alpha b ≡ true → cond (ends_name b && script) x y ≡ y
  letter-keeps {A} x y script a = ap (λ (z : Bool). cond (z && script) x y) (letter-no-end b a)

  -- Where a start or end tag changes the mode.
  module _ (p q : ScriptMode) where
    tag-more : alpha b ≡ true → end_from (cond (goes_on (named name b) s) p q) (at + 1) s ≡ end_from (cond (goes_on name (b ∷ s)) p q) at (b ∷ s)
    tag-more a = ap (λ (x : Bool). end_from (cond x p q) (at + 1) s) (letter-goes a) ∙ letter-stays (cond (goes_on name (b ∷ s)) p q) a

    tag-over : ends_name b ≡ true → end_from (cond (is_script name) p q) (at + 1) s ≡ end_from (cond (goes_on name (b ∷ s)) p q) at (b ∷ s)
    tag-over e =
        end_stays (cond (is_script name) p q) e
        ∙ ap (λ (x : Bool). end_from (cond x p q) at (b ∷ s)) (sym (other name b s (end-not alpha tt b e) ∙ ap (λ (z : Bool). z && is_script name) e))

    tag-not : ends_name b ≡ false → alpha b ≡ false → end_from q at (b ∷ s) ≡ end_from (cond (goes_on name (b ∷ s)) p q) at (b ∷ s)
    tag-not e a = ap (λ (x : Bool). end_from (cond x p q) at (b ∷ s)) (sym (other name b s a ∙ ap (λ (z : Bool). z && is_script name) e))

  -- ---- each state

  less-next : Goes LessThan (next LessThan (is_script name) b)
  less-next = go (is "/" b) refl (is "!" b) refl
    where
      escape : (x : Bool) → end_from (cond x Once Plain) (at + 1) s ≡ end_from (cond x Once Plain) at (33 ∷ s)
      escape true = refl
      escape false = refl

      go : (x : Bool) → is "/" b ≡ x → (y : Bool) → is "!" b ≡ y → Goes LessThan (cond x EndTagOpen (cond y EscapeStart (in_data b)))
      go true e y f = rw (eqb-true b 47 e) (refl, refl)
      go false e true f = rw (eqb-true b 33 f) (escape (stands (ascii "--") s), tt)
      go false e false f = (data-again.0 ∙ rw (slash-lower b e, flip 33 b f), data-again.1)

  open_next : name ≡ [] → Goes EndTagOpen (next EndTagOpen (is_script name) b)
  open_next h = go (alpha b) refl
    where
      go : (x : Bool) → alpha b ≡ x → Goes EndTagOpen (cond x EndTagName (in_data b))
      go true a = (tag-letter Plain a ∙ ap (λ (l : List ℕ). cond (goes_on l (b ∷ s)) (some less) (end_from Plain at (b ∷ s))) h, tt)
      go false a = (data-again.0 ∙ sym (ap (λ (x : Bool). cond x (some less) (end_from Plain at (b ∷ s))) (no_name b s a)), data-again.1)

  -- The same where the byte may leave.
  abbrev Leaves : ScriptState → ScriptState → Type 0
  Leaves st to =
      (cond (ends_name b && is_script name) (some less) (View to (named name b) (cond (is "<" b) at less) (at + 1) s) ≡ View st name less at (b ∷ s))
      × Fresh to (named name b)

  name-next : Leaves EndTagName (next EndTagName (is_script name) b)
  name-next = go (alpha b) refl
    where
      go : (x : Bool) → alpha b ≡ x → Leaves EndTagName (cond x EndTagName (in_data b))
      go true a = (letter-keeps (some less) (View EndTagName (named name b) (cond (is "<" b) at less) (at + 1) s) (is_script name) a ∙ tag-letter Plain a, tt)
      go false a = (λ i. cond (sym (other name b s a) i) (some less) (data-again.0 i), data-again.1)

  start-next : Goes EscapeStart (next EscapeStart (is_script name) b)
  start-next = go (is "-" b) refl
    where
      dash : (x : Bool) → end_from (cond x (dashed Once 45 s) Plain) (at + 1) s ≡ end_from (cond x Once Plain) at (45 ∷ s)
      dash true = refl
      dash false = refl

      go : (x : Bool) → is "-" b ≡ x → Goes EscapeStart (cond x EscapeStartDash (in_data b))
      go true e = rw (eqb-true b 45 e) (dash (stands (ascii "-") s), tt)
      go false e = (data-again.0 ∙ rw (flip 45 b e), data-again.1)

  start-dash-next : Goes EscapeStartDash (next EscapeStartDash (is_script name) b)
  start-dash-next = go (is "-" b) refl
    where
      go : (x : Bool) → is "-" b ≡ x → Goes EscapeStartDash (cond x EscapedDashDash (in_data b))
      go true e = rw (eqb-true b 45 e) (dash-dash false at s, tt)
      go false e = (data-again.0 ∙ rw (flip 45 b e), data-again.1)

  once-dash-next : Goes EscapedDash (next EscapedDash (is_script name) b)
  once-dash-next = go (is "-" b) refl
    where
      go : (x : Bool) → is "-" b ≡ x → Goes EscapedDash (cond x EscapedDashDash (in_escaped b))
      go true e = rw (eqb-true b 45 e) (dash-dash false at s, tt)
      go false e = (once-again.0 ∙ rw (flip 45 b e), once-again.1)

  once-dash-dash-next : Goes EscapedDashDash (next EscapedDashDash (is_script name) b)
  once-dash-dash-next = go (is "-" b) refl (is ">" b) refl
    where
      go : (x : Bool) → is "-" b ≡ x → (y : Bool) → is ">" b ≡ y → Goes EscapedDashDash (cond x EscapedDashDash (cond y Data (in_escaped b)))
      go true e y f = rw (eqb-true b 45 e) (dash-dash false at s, tt)
      go false e true f = rw (eqb-true b 62 f) (refl, tt)
      go false e false f = (once-again.0 ∙ rw (flip 62 b f, flip 45 b e), once-again.1)

  once-less-next : name ≡ [] → Goes EscapedLessThan (next EscapedLessThan (is_script name) b)
  once-less-next h = go (is "/" b) refl (alpha b) refl
    where
      tagless : (m : ScriptMode) → is "/" b ≡ false → end_from m at (b ∷ s) ≡ cond (spells (ascii "/script") (b ∷ s)) (some less) (end_from m at (b ∷ s))
      tagless m e = sym (ap (λ (x : Bool). cond (x && spells (ascii "script") s) (some less) (end_from m at (b ∷ s))) (slash-lower b e))

      go : (x : Bool) → is "/" b ≡ x → (y : Bool) → alpha b ≡ y → Goes EscapedLessThan (cond x EscapedEndTagOpen (cond y DoubleEscapeStart (in_escaped b)))
      go true e y a = rw (eqb-true b 47 e) (refl, refl)
      go false e true a = (
        tag-more Twice Once a
            ∙ ap (λ (l : List ℕ). end_from (cond (goes_on l (b ∷ s)) Twice Once) at (b ∷ s)) h
            ∙ tagless (cond (spells (ascii "script") (b ∷ s)) Twice Once) e,
        tt,
      )
      go false e false a = (
        once-again.0
            ∙ ap (λ (x : Bool). end_from (cond x Twice Once) at (b ∷ s)) (sym (no_name b s a))
            ∙ tagless (cond (spells (ascii "script") (b ∷ s)) Twice Once) e,
        once-again.1,
      )

  once-open-next : name ≡ [] → Goes EscapedEndTagOpen (next EscapedEndTagOpen (is_script name) b)
  once-open-next h = go (alpha b) refl
    where
      go : (x : Bool) → alpha b ≡ x → Goes EscapedEndTagOpen (cond x EscapedEndTagName (in_escaped b))
      go true a = (tag-letter Once a ∙ ap (λ (l : List ℕ). cond (goes_on l (b ∷ s)) (some less) (end_from Once at (b ∷ s))) h, tt)
      go false a = (once-again.0 ∙ sym (ap (λ (x : Bool). cond x (some less) (end_from Once at (b ∷ s))) (no_name b s a)), once-again.1)

  once-name-next : Leaves EscapedEndTagName (next EscapedEndTagName (is_script name) b)
  once-name-next = go (alpha b) refl
    where
      go : (x : Bool) → alpha b ≡ x → Leaves EscapedEndTagName (cond x EscapedEndTagName (in_escaped b))
      go true a = (letter-keeps (some less) (View EscapedEndTagName (named name b) (cond (is "<" b) at less) (at + 1) s) (is_script name) a ∙ tag-letter Once a, tt)
      go false a = (λ i. cond (sym (other name b s a) i) (some less) (once-again.0 i), once-again.1)

  double-start-next : Goes DoubleEscapeStart (next DoubleEscapeStart (is_script name) b)
  double-start-next = go (ends_name b) refl (alpha b) refl
    where
      over : (x : Bool) → (View (cond x DoubleEscaped Escaped) (named name b) (cond (is "<" b) at less) (at + 1) s ≡ end_from (cond x Twice Once) (at + 1) s) × Fresh (cond x DoubleEscaped Escaped) (named name b)
      over true = (refl, tt)
      over false = (refl, tt)

      go : (x : Bool) → ends_name b ≡ x → (y : Bool) → alpha b ≡ y
          → Goes DoubleEscapeStart (cond x (cond (is_script name) DoubleEscaped Escaped) (cond y DoubleEscapeStart (in_escaped b)))
      go true e y a = ((over (is_script name)).0 ∙ tag-over Twice Once e, (over (is_script name)).1)
      go false e true a = (tag-more Twice Once a, tt)
      go false e false a = (once-again.0 ∙ tag-not Twice Once e a, once-again.1)

  twice-dash-next : Goes DoubleEscapedDash (next DoubleEscapedDash (is_script name) b)
  twice-dash-next = go (is "-" b) refl
    where
      go : (x : Bool) → is "-" b ≡ x → Goes DoubleEscapedDash (cond x DoubleEscapedDashDash (in_double b))
      go true e = rw (eqb-true b 45 e) (dash-dash true at s, tt)
      go false e = (twice-again.0 ∙ rw (flip 45 b e), twice-again.1)

  twice-dash-dash-next : Goes DoubleEscapedDashDash (next DoubleEscapedDashDash (is_script name) b)
  twice-dash-dash-next = go (is "-" b) refl (is ">" b) refl
    where
      go : (x : Bool) → is "-" b ≡ x → (y : Bool) → is ">" b ≡ y → Goes DoubleEscapedDashDash (cond x DoubleEscapedDashDash (cond y Data (in_double b)))
      go true e y f = rw (eqb-true b 45 e) (dash-dash true at s, tt)
      go false e true f = rw (eqb-true b 62 f) (refl, tt)
      go false e false f = (twice-again.0 ∙ rw (flip 62 b f, flip 45 b e), twice-again.1)

  twice-less-next : Goes DoubleEscapedLessThan (next DoubleEscapedLessThan (is_script name) b)
  twice-less-next = go (is "/" b) refl
    where
      opens : (x : Bool) → end_from (cond x Once Twice) (at + 1) s ≡ end_from (cond x Once Twice) at (47 ∷ s)
      opens true = refl
      opens false = refl

      go : (x : Bool) → is "/" b ≡ x → Goes DoubleEscapedLessThan (cond x DoubleEscapeEnd (in_double b))
      go true e = rw (eqb-true b 47 e) (opens (spells (ascii "script") s), tt)
      go false e = (twice-again.0 ∙ rw (slash-lower b e), twice-again.1)

  double-end-next : Goes DoubleEscapeEnd (next DoubleEscapeEnd (is_script name) b)
  double-end-next = go (ends_name b) refl (alpha b) refl
    where
      over : (x : Bool) → (View (cond x Escaped DoubleEscaped) (named name b) (cond (is "<" b) at less) (at + 1) s ≡ end_from (cond x Once Twice) (at + 1) s) × Fresh (cond x Escaped DoubleEscaped) (named name b)
      over true = (refl, tt)
      over false = (refl, tt)

      go : (x : Bool) → ends_name b ≡ x → (y : Bool) → alpha b ≡ y
          → Goes DoubleEscapeEnd (cond x (cond (is_script name) Escaped DoubleEscaped) (cond y DoubleEscapeEnd (in_double b)))
      go true e y a = ((over (is_script name)).0 ∙ tag-over Once Twice e, (over (is_script name)).1)
      go false e true a = (tag-more Once Twice a, tt)
      go false e false a = (twice-again.0 ∙ tag-not Once Twice e a, twice-again.1)

  -- Any state: the byte leaves it, or goes on to the next.
  abbrev Step : ScriptState → Type 0
  Step st =
      (cond (leaves st (is_script name) b) (some less) (View (next st (is_script name) b) (named name b) (cond (is "<" b) at less) (at + 1) s)
      ≡ View st name less at (b ∷ s))
      × Fresh (next st (is_script name) b) (named name b)

  -- A state in which no end tag's name is read is not left.
  kept : {A : Type 0} (x y : A) → cond (ends_name b && false) x y ≡ y
  kept {A} x y = ap (λ (z : Bool). cond z x y) (and-off (ends_name b))

  abbrev to : ScriptState → Option ℕ
  to st = View (next st (is_script name) b) (named name b) (cond (is "<" b) at less) (at + 1) s

  step : (st : ScriptState) → Fresh st name → Step st
  step Data h = (kept (some less) (to Data) ∙ data-again.0, data-again.1)
  step LessThan h = (kept (some less) (to LessThan) ∙ less-next.0, less-next.1)
  step EndTagOpen h = (kept (some less) (to EndTagOpen) ∙ (open_next h).0, (open_next h).1)
  step EndTagName h = name-next
  step EscapeStart h = (kept (some less) (to EscapeStart) ∙ start-next.0, start-next.1)
  step EscapeStartDash h = (kept (some less) (to EscapeStartDash) ∙ start-dash-next.0, start-dash-next.1)
  step Escaped h = (kept (some less) (to Escaped) ∙ once-again.0, once-again.1)
  step EscapedDash h = (kept (some less) (to EscapedDash) ∙ once-dash-next.0, once-dash-next.1)
  step EscapedDashDash h = (kept (some less) (to EscapedDashDash) ∙ once-dash-dash-next.0, once-dash-dash-next.1)
  step EscapedLessThan h = (kept (some less) (to EscapedLessThan) ∙ (once-less-next h).0, (once-less-next h).1)
  step EscapedEndTagOpen h = (kept (some less) (to EscapedEndTagOpen) ∙ (once-open-next h).0, (once-open-next h).1)
  step EscapedEndTagName h = once-name-next
  step DoubleEscapeStart h = (kept (some less) (to DoubleEscapeStart) ∙ double-start-next.0, double-start-next.1)
  step DoubleEscaped h = (kept (some less) (to DoubleEscaped) ∙ twice-again.0, twice-again.1)
  step DoubleEscapedDash h = (kept (some less) (to DoubleEscapedDash) ∙ twice-dash-next.0, twice-dash-next.1)
  step DoubleEscapedDashDash h = (kept (some less) (to DoubleEscapedDashDash) ∙ twice-dash-dash-next.0, twice-dash-dash-next.1)
  step DoubleEscapedLessThan h = (kept (some less) (to DoubleEscapedLessThan) ∙ twice-less-next.0, twice-less-next.1)
  step DoubleEscapeEnd h = (kept (some less) (to DoubleEscapeEnd) ∙ double-end-next.0, double-end-next.1)

-- ---- a whole text

view-end : (st : ScriptState) (name : List ℕ) (less at : ℕ) → View st name less at [] ≡ none
view-end Data name less at = refl
view-end LessThan name less at = refl
view-end EndTagOpen name less at = refl
view-end EndTagName name less at = rw (rest_end (left name (ascii "script")))
view-end EscapeStart name less at = refl
view-end EscapeStartDash name less at = refl
view-end Escaped name less at = refl
view-end EscapedDash name less at = refl
view-end EscapedDashDash name less at = refl
view-end EscapedLessThan name less at = refl
view-end EscapedEndTagOpen name less at = refl
view-end EscapedEndTagName name less at = rw (rest_end (left name (ascii "script")))
view-end DoubleEscapeStart name less at = refl
view-end DoubleEscaped name less at = refl
view-end DoubleEscapedDash name less at = refl
view-end DoubleEscapedDashDash name less at = refl
view-end DoubleEscapedLessThan name less at = refl
view-end DoubleEscapeEnd name less at = refl

reads : (s : List ℕ) (st : ScriptState) (name : List ℕ) (less at : ℕ) → Fresh st name → closing_from st name less at s ≡ View st name less at s
reads [] st name less at h = sym (view-end st name less at)
reads (b ∷ s) st name less at h =
    let (e, f) = step name less at b s st h in
    ap (λ (o : Option ℕ). cond (leaves st (is_script name) b) (some less) o) (reads s (next st (is_script name) b) (named name b) (cond (is "<" b) at less) (at + 1) f) ∙ e

-- The states and the modes give the same place.
pub modes-agree : (s : List ℕ) → closing_tag s ≡ end_from Plain 0 s
unfolding closing_tag
modes-agree s = reads s Data [] 0 0 tt

-- ---- what is at the place

ends-tag : (m : ScriptMode) (b : ℕ) (s : List ℕ) → ends m b s ≡ true → (b ≡ 60) × T (spells (ascii "/script") s)
ends-tag Plain b s e = let t = subst T (sym e) tt in (eqb→eq b 60 (and_left (is "<" b) (spells (ascii "/script") s) t), and_right (is "<" b) (spells (ascii "/script") s) t)
ends-tag Once b s e = let t = subst T (sym e) tt in (eqb→eq b 60 (and_left (is "<" b) (spells (ascii "/script") s) t), and_right (is "<" b) (spells (ascii "/script") s) t)
ends-tag Twice b s e = true-false (sym e)

-- Behind k bytes of s is a `<`, and then `/script` and a byte that ends a name.
abbrev pub TagAt : ℕ → List ℕ → Type 0
TagAt k s = (k < length s) × (get_or s k 0 ≡ 60) × T (spells (ascii "/script") (drop (k + 1) s))

tag-found : (s : List ℕ) (m : ScriptMode) (at p : ℕ) → end_from m at s ≡ some p → (k : ℕ) × (p ≡ at + k) × TagAt k s
tag-found [] m at p e = absurd (none-ne-some p e)
tag-found (b ∷ s) m at p e = go (ends m b s) refl e (tag-found s (turn m b s) (at + 1) p)
  where
    go : (x : Bool) → ends m b s ≡ x → cond x (some at) (end_from (turn m b s) (at + 1) s) ≡ some p
        → (end_from (turn m b s) (at + 1) s ≡ some p → (k : ℕ) × (p ≡ at + 1 + k) × TagAt k s) → (k : ℕ) × (p ≡ at + k) × TagAt k (b ∷ s)
    go true f q ih = let (l, t) = ends-tag m b s f in (0, sym (some-injective at p q) ∙ omega arith, (omega arith, l, t))
    go false f q ih = let (k, r, t) = ih q in (suc k, r ∙ omega arith, (omega (arith, t.0), t.1, rest k t.2))
      where
        rest : (k : ℕ) → T (spells (ascii "/script") (drop (k + 1) s)) → T (spells (ascii "/script") (drop (suc k + 1) (b ∷ s)))
        rest k t = let q : suc k + 1 ≡ suc (k + 1) = omega arith in subst (λ (n : ℕ). T (spells (ascii "/script") (drop n (b ∷ s)))) (sym q) t

-- At the place that is given is such a tag.
pub closing-there : (s : List ℕ) (p : ℕ) → closing_tag s ≡ some p → TagAt p s
closing-there s p e = let (k, q, t) = tag-found s Plain 0 p (sym (modes-agree s) ∙ e) in subst (λ (n : ℕ). TagAt n s) (sym (q ∙ omega arith)) t
