-- The lines of the header: the first name that fits is found, and the request goes on after its line.
-- Assumes nothing.
use mathlib.Core.Bool.{Bool, true, false, not, ◌&&◌, and_assoc, cond}
use mathlib.Core.Option.{Option, none, some, some-ne-none}
use mathlib.Core.Path.{◌≡◌, refl, sym, ap, ◌∙◌, subst}
use mathlib.Core.List.{List, [], ◌∷◌, ◌++◌, append_assoc}
use Prim.Native.Nat.{ℕ, suc, ◌+◌, ◌-◌, ◌≤◌, ◌<◌, min}
use native.Mathlib.Omega.{arith}
use borrow.Author.Tests.{ltb-true, ltb-false}
use lib.Dec.{T, eqb, ltb}
use Rattle.std.specs.Prelude.{Option as Maybe, Some, None, MatchOption, ◌==◌}
use Rattle.std.specs.List.{position, position_or_len}
use lib.ListN.{length as size, take, drop, get_or, length-append, length-drop, drop_of_length-le}
use lib.Seq.{drop-drop, length-take-le}
use Rattle.rules.specs.Bytes.{ascii, first, stands}
use Rattle.rules.specs.Contexts.{Label, label, context_names, context_of}
use Rattle.rules.specs.Program.{line, text_of, context_line}
use Rattle.rules.specs.declared.AnyContext.{AnyContext}
use Rattle.rules.specs.declared.AnyContext.TheVariants.{Unknown}
use Rattle.rules.specs.declared.Operation.{Operation}
use Rattle.rules.proofs.Tests.{stands-split}
use Rattle.requests.specs.Asked.{asked}
use Rattle.requests.specs.Lines.{before, lines_of, line_length, name_lines, later, line_found}

-- What stands at the head of a text is no longer than it.
pub stands-within : (v s : List ℕ) → stands v s ≡ true → size v ≤ size s
stands-within v s e = let (r, x) = stands-split v s (subst T (sym e) tt) in omega (arith, ap size x ∙ length-append v r)

-- Two lists stand at the head of s, one after the other, if the first does and the second where it ends.
pub stands-append : (a b s : List ℕ) → stands (a ++ b) s ≡ stands a s && stands b (drop (size a) s)
stands-append [] b s = refl
stands-append (x ∷ a) b [] = refl
stands-append (x ∷ a) b (y ∷ s) = ap (λ (t : Bool). eqb x y && t) (stands-append a b s) ∙ sym (and_assoc (eqb x y) (stands a s) (stands b (drop (size a) s)))

-- So where the first does not, both do not.
pub stands-not : (a b s : List ℕ) → stands a s ≡ false → stands (a ++ b) s ≡ false
stands-not a b s e = stands-append a b s ∙ rw e

-- Where it does, the second decides.
pub stands_on : (a b s : List ℕ) → stands a s ≡ true → stands (a ++ b) s ≡ stands b (drop (size a) s)
stands_on a b s e = stands-append a b s ∙ rw e

-- ---- the lines of a table

-- The first line ends behind the first 0A, or is all there is.
line-runs : (s : List ℕ) → (position_or_len (λ b. b == 10) s ≤ size s) × (line_length s ≡ min (position_or_len (λ b. b == 10) s + 1) (size s))
unfolding line_length
line-runs [] = (omega arith, refl)
line-runs (x ∷ s) = go (x == 10) (position_or_len (λ b. b == 10) s) (line_length s) (line-runs s)
  where
    go : (b : Bool) (k l : ℕ) → (k ≤ size s) × (l ≡ min (k + 1) (size s))
        → (cond (not b) (1 + k) 0 ≤ suc (size s)) × (cond b 1 (suc l) ≡ min (cond (not b) (1 + k) 0 + 1) (suc (size s)))
    go true k l h = (omega arith, omega arith)
    go false k l h = (omega arith, omega arith)

pub line-feed : (s : List ℕ) (o : Maybe ℕ) → o ≡ position (λ b. b == 10) s → MatchOption o (size s ≡ line_length s) (λ n. (n + 1 ≡ line_length s) × (n < size s))
line-feed s o e = rw e (go (ltb (position_or_len (λ b. b == 10) s) (size s)) refl)
  where
    go : (b : Bool) → ltb (position_or_len (λ b. b == 10) s) (size s) ≡ b
        → MatchOption (cond b (Some (position_or_len (λ b. b == 10) s)) None) (size s ≡ line_length s) (λ n. (n + 1 ≡ line_length s) × (n < size s))
    go true q = let l = ltb-true (position_or_len (λ b. b == 10) s) (size s) q in let r = line-runs s in (omega arith, l)
    go false q = let l = ltb-false (position_or_len (λ b. b == 10) s) (size s) q in let r = line-runs s in omega arith

-- The lines of bytes are the first one and those of the rest.
pub lines_next : (s : List ℕ) → 0 < size s → lines_of s ≡ take (line_length s) s ∷ lines_of (drop (line_length s) s)
unfolding lines_of line_length
lines_next [] h = absurd (omega arith)
lines_next (x ∷ s) h = go (eqb x 10) s (lines_next s)
  where
    on : (s : List ℕ) → (0 < size s → lines_of s ≡ take (line_length s) s ∷ lines_of (drop (line_length s) s))
        → before x (lines_of s) ≡ take (suc (line_length s)) (x ∷ s) ∷ lines_of (drop (suc (line_length s)) (x ∷ s))
    on [] f = refl
    on (y ∷ s) f = ap (before x) (f (omega arith))

    go : (b : Bool) (s : List ℕ) → (0 < size s → lines_of s ≡ take (line_length s) s ∷ lines_of (drop (line_length s) s))
        → cond b ((x ∷ []) ∷ lines_of s) (before x (lines_of s)) ≡ take (cond b 1 (suc (line_length s))) (x ∷ s) ∷ lines_of (drop (cond b 1 (suc (line_length s))) (x ∷ s))
    go true s f = refl
    go false s f = on s f

-- ---- the first line that fits

-- A line that is found is within the text.
pub line-within : (field : List ℕ) (ls : List (List ℕ)) (s : List ℕ) (k n : ℕ) → some (k, n) ≡ line_found field ls s → n ≤ size s
unfolding line_found
line-within field [] s k n e = absurd (some-ne-none _ e)
line-within field (l ∷ ls) s k n e = go (stands (field ++ l) s) refl (line_found field ls s) (λ j q. line-within field ls s j n q) e
  where
    go : (t : Bool) → stands (field ++ l) s ≡ t → (o : Option (ℕ × ℕ)) → ((j : ℕ) → some (j, n) ≡ o → n ≤ size s)
        → some (k, n) ≡ cond t (some (0, size (field ++ l))) (later 1 o) → n ≤ size s
    go true h o f q = omega (arith, ap {B = ℕ} (λ (o : Option (ℕ × ℕ)). elim o [ none ↦ n | some p ↦ p.1 ]) q, stands-within (field ++ l) s h)
    go false h none f q = absurd (some-ne-none _ q)
    go false h (some p) f q = f p.0 (ap {B = Option (ℕ × ℕ)} (λ (o : Option (ℕ × ℕ)). elim o [ none ↦ none | some r ↦ some (p.0, r.1) ]) q)

-- A line found further on by k and by one more.
later_more : (k : ℕ) (o : Option (ℕ × ℕ)) → later k (later 1 o) ≡ later (k + 1) o
later_more k none = refl
later_more k (some p) = let e : k + (1 + p.0) ≡ k + 1 + p.0 = omega arith in ap (λ (n : ℕ). some (n, p.1)) e

-- Found where the search begins.
later-here : (o : Option (ℕ × ℕ)) → o ≡ later 0 o
later-here none = refl
later-here (some p) = let e : p.0 ≡ 0 + p.0 = omega arith in ap (λ (n : ℕ). some (n, p.1)) e

-- The search through the lines of `names`.
module _ (names field text : List ℕ) where
  -- The lines before `at` do not fit, and there are `number` of them.
  abbrev pub Passed : ℕ → ℕ → Type 0
  Passed at number = line_found field (lines_of names) text ≡ later number (line_found field (lines_of (drop at names)) text)

  -- At the start no line is passed.
  pub passed_none : Passed 0 0
  passed_none = later-here (line_found field (lines_of names) text)

  -- At the end all are.
  pub passed-all : (at number : ℕ) → size names ≤ at → Passed at number → none ≡ line_found field (lines_of names) text
  unfolding line_found lines_of
  passed-all at number h p = sym (p ∙ ap (λ (s : List ℕ). later number (line_found field (lines_of s) text)) (drop_of_length-le names h))

  -- The line from `at` to `end`.
  module _ (at end number : ℕ) (inside : at < size names) (ends : end ≡ at + line_length (drop at names)) (within : end ≤ size names) (passed : Passed at number) where
    abbrev here : List ℕ
    here = take (end - at) (drop at names)

    here-size : size (field ++ here) ≡ size field + (end - at)
    here-size = omega (arith, length-append field here, length-take-le (end - at) (drop at names) (omega (arith, length-drop at names)))

    next : lines_of (drop at names) ≡ here ∷ lines_of (drop end names)
    next =
        let l : line_length (drop at names) ≡ end - at = omega (arith, ends) in
        let e : at + (end - at) ≡ end = omega (arith, ends) in
        lines_next (drop at names) (omega (arith, length-drop at names))
        ∙ ap (λ (n : ℕ). take n (drop at names) ∷ lines_of (drop n (drop at names))) l
        ∙ rw (drop-drop, e)

    -- It fits, and is found.
    pub found_here : stands (field ++ here) text ≡ true → some (number, size field + (end - at)) ≡ line_found field (lines_of names) text
    unfolding line_found
    found_here e =
        let z : number + 0 ≡ number = omega arith in
        sym (passed ∙ ap (λ (ls : List (List ℕ)). later number (line_found field ls text)) next
        ∙ ap (λ (b : Bool). later number (cond b (some (0, size (field ++ here))) (later 1 (line_found field (lines_of (drop end names)) text)))) e
        ∙ (λ i. some (z i, here-size i)))

    -- It is no longer than the text then.
    pub here-within : stands (field ++ here) text ≡ true → size field + (end - at) ≤ size text
    here-within e = omega (arith, stands-within (field ++ here) text e, here-size)

    -- It does not, and is passed.
    pub passed_on : stands (field ++ here) text ≡ false → Passed end (number + 1)
    unfolding line_found
    passed_on e =
        passed ∙ ap (λ (ls : List (List ℕ)). later number (line_found field ls text)) next
        ∙ ap (λ (b : Bool). later number (cond b (some (0, size (field ++ here))) (later 1 (line_found field (lines_of (drop end names)) text)))) e
        ∙ later_more number (line_found field (lines_of (drop end names)) text)

one_more : (n : ℕ) → suc n ≡ 1 + n
one_more n = omega arith

module _ {A B : Type 0} (field s : List ℕ) (k : A → List ℕ → Option B) where
  -- What a request makes of a line, by the name that fits.
  abbrev pub on_label : Option (Label A) → Option B
  on_label none = none
  on_label (some l) = k l.names (drop (size (line field l)) s)

  -- The same by the number of the name; `other` is what any other number names.
  abbrev pub on_found : A → List (Label A) → Option (ℕ × ℕ) → Option B
  on_found other ls none = none
  on_found other ls (some p) = k (get_or ls p.0 (label [] other)).names (drop p.1 s)

  -- Both are one.
  pub by-line : (other : A) (ls : List (Label A)) → on_label (first (λ (l : Label A). stands (line field l)) ls s) ≡ on_found other ls (line_found field (name_lines ls) s)
  unfolding line_found
  by-line other [] = refl
  by-line other (l ∷ ls) =
      go (stands (line field l) s) (line_found field (name_lines ls) s) (by-line other ls)
      ∙ ap (λ (x : List ℕ). on_found other (l ∷ ls) (cond (stands x s) (some (0, size x)) (later 1 (line_found field (name_lines ls) s)))) (append_assoc field l.name (10 ∷ []))
    where
      go : (t : Bool) (o : Option (ℕ × ℕ)) → on_label (first (λ (l : Label A). stands (line field l)) ls s) ≡ on_found other ls o
          → on_label (elim t [ true ↦ some l | false ↦ first (λ (l : Label A). stands (line field l)) ls s ]) ≡ on_found other (l ∷ ls) (cond t (some (0, size (line field l))) (later 1 o))
      go true o h = refl
      go false none h = h
      go false (some p) h = h ∙ ap (λ (n : ℕ). k (get_or (l ∷ ls) n (label [] other)).names (drop p.1 s)) (one_more p.0)

  -- No line is found: there is no request.
  pub no_line : (other : A) (ls : List (Label A)) → none ≡ line_found field (name_lines ls) s → on_label (first (λ (l : Label A). stands (line field l)) ls s) ≡ none
  no_line other ls e = by-line other ls ∙ ap (on_found other ls) (sym e)

  -- A line is found: the request goes on after it.
  pub after_line : (other : A) (ls : List (Label A)) (j n : ℕ) → some (j, n) ≡ line_found field (name_lines ls) s
      → on_label (first (λ (l : Label A). stands (line field l)) ls s) ≡ k (get_or ls j (label [] other)).names (drop n s)
  after_line other ls j n e = by-line other ls ∙ ap (on_found other ls) (sym e)

-- ---- the line of the text

-- It does not stand there.
pub no_text : (o : Operation) (n : AnyContext) (s : List ℕ) → stands (ascii "text=") s ≡ false → text_of o n s ≡ none
no_text o n s e = rw e

-- It does, and the call is that of the rest.
pub some-text : (o : Operation) (number : ℕ) (s : List ℕ) → stands (ascii "text=") s ≡ true → text_of o (context_of number) s ≡ some (asked o number (drop 5 s) 60074)
some-text o number s e = rw e

-- ---- the line of the context, and `text=` behind it

module _ (o : Operation) (s : List ℕ) (j n : ℕ) (found : some (j, n) ≡ line_found (ascii "context=") (name_lines context_names) s) where
  -- Behind the line something else stands: it is no request.
  pub text-none : stands (ascii "text=") (drop n s) ≡ false → context_line o s ≡ none
  unfolding context_of
  text-none e = after_line (ascii "context=") s (text_of o) Unknown context_names j n found ∙ no_text o (context_of j) (drop n s) e

  -- `text=` does, and the text is the rest.
  pub text-some : stands (ascii "text=") (drop n s) ≡ true → context_line o s ≡ some (asked o j (drop (n + 5) s) 60074)
  unfolding context_of
  text-some e =
      after_line (ascii "context=") s (text_of o) Unknown context_names j n found ∙ some-text o j (drop n s) e
      ∙ ap (λ (t : List ℕ). some (asked o j t 60074)) (drop-drop 5 n s)

-- The text begins within the request.
pub text-within : (s : List ℕ) (n : ℕ) → n ≤ size s → stands (ascii "text=") (drop n s) ≡ true → n + 5 ≤ size s
text-within s n h e = let w : 5 ≤ size (drop n s) = stands-within (ascii "text=") (drop n s) e in omega (arith, h, w, length-drop n s)
