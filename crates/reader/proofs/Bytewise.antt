-- On a valid text the reader that keeps one byte at a time makes the moves of the reader that keeps one character at a time, with all that is
-- kept cut into bytes. So the two have the same result, stop at the same place, and replace as many places.
-- Assumes nothing.
use mathlib.Core.Bool.{Bool, true, false, not}
use mathlib.Core.Logic.{inl}
use mathlib.Core.Option.{Option, none, some, none-ne-some}
use mathlib.Core.Path.{◌≡◌, refl, sym, ap, ◌∙◌, subst}
use mathlib.Core.List.{List, [], ◌∷◌, ◌++◌, append_assoc, append-nil}
use Prim.Native.Nat.{ℕ, pred}
use native.Mathlib.Omega.{arith}
use native.Mathlib.Nat.{suc-ne-zero}
use lib.Dec.{T, eqb, eqb→eq, T_not}
use lib.ListN.{length, drop}
use lib.Seq.{drop-append_seam}
use Rattle.rules.specs.Bytes.{All, all, join, stands, Range}
use Rattle.rules.specs.Moves.{Move, keep, swap, leave, stop, takes, and_then, moves, result, replaced, first_of, first_left, place, through, from}
use Rattle.rules.specs.Utf8.{IsChar, IsText, char_at, sequence_at, keep_char, valid_to}
use Rattle.rules.specs.Tables.{Row, row_at, value, rows, replaced_chars}
use Rattle.rules.specs.Units.{IsRun}
use Rattle.rules.specs.Encoding.{keep_byte}
use Rattle.rules.specs.Answers.{Measures}
use Rattle.std.specs.Prelude.{None}
use Rattle.rules.specs.Ascii.{refer_to}
use Rattle.rules.specs.Reading.{undo, unless, read_by, rule_back, read_step}
use Rattle.rules.specs.Operations.{read_of, read_to}
use Rattle.rules.specs.declared.Context.{Context}
use Rattle.rules.specs.declared.Context.TheVariants.{InHtml, InScript, InStyle, InJson, InAscii}
use Rattle.rules.proofs.Tests.{and_left, is_false, all_in, any-in}
use Rattle.rules.proofs.Machine.{Makes, Follows, Fair, Ends, singly, cut, follows-cut, retrace, moves-fair, taken-cut, result-cut, replaced-cut}
use Rattle.rules.proofs.Reasons.{no-lefts, read-leaveless}
use Rattle.rules.proofs.Codes.{Reads}
use Rattle.rules.proofs.Chars.{is_tail, char-unique, char-singly, sequence-of-char, sequence-pos, pred_of}
use Rattle.rules.proofs.Tables.{IsEntry, barred, bar-stops, row-length, row_first, table-reads}
use Rattle.rules.proofs.Reader.{by_rows}
use Rattle.rules.proofs.Valid.{valid-iff}
use Rattle.rules.proofs.Every.{every, values-code}
use Rattle.rules.proofs.Encoder.{run-text}
use Rattle.base.proofs.Counted.{Counted, counted-end}
use Rattle.reader.specs.Units.{Ruleless, byte_step}
use Rattle.reader.proofs.Characters.{keeps-plain}

-- ---- what is left of a text after some of its characters is a text

char-long : (a : List ℕ) → IsChar a → length a ≡ 0 → ⊥
char-long a c e = suc-ne-zero (pred (length c.0)) (sym (sym e ∙ c.3 ∙ pred_of (length c.0) (sequence-pos c.0 c.1)))

empty-head : (a b : List ℕ) → a ++ b ≡ [] → length a ≡ 0
empty-head [] b e = refl
empty-head (x ∷ a) b e = absurd (suc-ne-zero (length (a ++ b)) (ap length e))

text-rest : (cs ds : List (List ℕ)) (r : List ℕ) → All IsChar cs → All IsChar ds → join cs ++ r ≡ join ds → IsText r
text-rest [] ds r f g e = (ds, g, e)
text-rest (a ∷ cs) [] r f g e = absurd (char-long a f.0 (empty-head a (join cs ++ r) (sym (append_assoc a (join cs) r) ∙ e)))
text-rest (a ∷ cs) (d ∷ ds) r f g e =
    let e' : a ++ (join cs ++ r) ≡ d ++ join ds = sym (append_assoc a (join cs) r) ∙ e in
    let h : a ≡ d = char-unique a d (join cs ++ r) (join ds) f.0 g.0 e' in
    text-rest cs ds r f.1 g.1
    (sym (drop-append_seam a (join cs ++ r)) ∙ ap (drop (length a)) (e' ∙ ap (λ (b : List ℕ). b ++ join ds) (sym h)) ∙ drop-append_seam a (join ds))

-- A text that is not empty begins with a character.
text-begins : (x : ℕ) (s : List ℕ) → IsText (x ∷ s) → sequence_at (x ∷ s) ≡ none → ⊥
text-begins x s ([], f, q) e = suc-ne-zero (length s) (ap length q)
text-begins x s (a ∷ cs, f, q) e = none-ne-some f.0.0 (sym e ∙ ap sequence_at q ∙ sequence-of-char a (join cs) f.0)

-- ---- the moves

-- No replaced character begins with a byte 80 to BF.
abbrev leads : List ℕ → Bool
leads [] = false
leads (x ∷ k) = not (is_tail x)

tail-plain : (c : Context) (y : ℕ) (s : List ℕ) → T (is_tail y) → barred (replaced_chars c) (y ∷ s) ≡ false
tail-plain c y s t = is_false (barred (replaced_chars c) (y ∷ s)) (λ b. let (k, i, h) = any-in (λ (k : List ℕ). stands k (y ∷ s)) (replaced_chars c) b in go k (all_in leads (replaced_chars c) (every (λ (c : Context). all leads (replaced_chars c)) tt c) k i) h)
  where
    go : (k : List ℕ) → T (leads k) → T (stands k (y ∷ s)) → ⊥
    go [] l h = l
    go (x ∷ k) l h = T_not (is_tail x) l (subst (λ (z : ℕ). T (is_tail z)) (sym (eqb→eq x y (and_left (eqb x y) (stands k s) h))) t)

-- Without a rule nothing is undone by one.
no-back : (c : Context) → Ruleless c → (s : List ℕ) → rule_back c s ≡ none
no-back (InHtml h) ruleless s = refl
no-back (InScript q) ruleless s = refl
no-back (InStyle q) ruleless s = refl
no-back InJson ruleless s = refl
no-back InAscii ruleless s = absurd (none-ne-some (refer_to (0xC3 ∷ 0xA9 ∷ [])) (sym (ruleless (0xC3 ∷ 0xA9 ∷ []))))

module _ (c : Context) (ruleless : Ruleless c) where
  -- The rows alone count.
  step-rows : (p : ℕ) (s : List ℕ) → read_step c p s ≡ read_by (rows c) (replaced_chars c) p s
  step-rows p s = by_rows c p s (no-back c ruleless s) (ap (λ (o : Option (List ℕ)). elim o [ none ↦ false | some v ↦ true ]) (ruleless (char_at s)))

  units-read : Reads (IsEntry (rows c) (replaced_chars c)) (read_step c)
  units-read =
      let reads = table-reads (rows c) (replaced_chars c) (values-code c) in
      record {
        finds = λ u i r. let (k, l, e) = reads.finds u i r in (k, l, λ p. step-rows p (takes u ++ r) ∙ e p);
        fair = λ p s. subst (λ (m : Move). Fair (IsEntry (rows c) (replaced_chars c)) m s) (sym (step-rows p s)) (reads.fair p s);
      }

  -- Its units are the context's.
  entries-run : (ms : List Move) → All (IsEntry (rows c) (replaced_chars c)) ms → IsRun c ms
  entries-run [] g = tt
  entries-run (keep a ∷ ms) g = ((g.0.0, g.0.1, ruleless a), entries-run ms g.1)
  entries-run (swap v k ∷ ms) g = (inl g.0, entries-run ms g.1)
  entries-run (leave w a ∷ ms) g = absurd g.0
  entries-run (stop w ∷ ms) g = absurd g.0

  byte-keeps : (a : List ℕ) → IsEntry (rows c) (replaced_chars c) (keep a) → (r : List ℕ) → Follows (byte_step c) (singly a) r
  byte-keeps [] u r = tt
  byte-keeps (x ∷ a) u r =
      char-singly (byte_step c) (λ p y s t. keeps-plain c p y s (tail-plain c y s t)) x a r u.0
      (λ p. keeps-plain c p x (a ++ r)
      (is_false (barred (replaced_chars c) (x ∷ (a ++ r)))
      (λ b. let (k, i, h) = any-in (λ (k : List ℕ). stands k (x ∷ (a ++ r))) (replaced_chars c) b in
      bar-stops value (rows c) (replaced_chars c) (values-code c) (x ∷ a) r u k i h)))

  byte-swaps : (v k : List ℕ) → IsEntry (rows c) (replaced_chars c) (swap v k) → (r : List ℕ) → Makes (byte_step c) (swap v k) r
  unfolding byte_step
  byte-swaps v k i r = (
    pred (length v),
    row-length value (rows c) (replaced_chars c) (values-code c) (k, v) i,
    λ p. ap (λ (o : Option Row). undo o (unless (barred (replaced_chars c) (v ++ r)) (keep_byte (v ++ r)))) (row_first value (rows c) (replaced_chars c) (values-code c) (k, v) i r),
  )

  -- Where the one reader stops before a text, so does the other.
  byte-stops : (r : List ℕ) → IsText r → Ends (read_step c) r → (q : ℕ) → moves (byte_step c) q 0 r ≡ []
  unfolding byte_step
  byte-stops [] t end q = refl
  byte-stops (x ∷ s) t end q = ap (λ (m : Move). and_then m (moves (byte_step c) x (pred (length (takes m))) s)) (go (row_at value (rows c) (x ∷ s)) (barred (replaced_chars c) (x ∷ s)) (sequence_at (x ∷ s)) refl (sym (step-rows end.0 (x ∷ s)) ∙ end.2))
    where
      go : (o : Option Row) (b : Bool) (w : Option (List Range)) → sequence_at (x ∷ s) ≡ w → undo o (unless b (keep_char w (x ∷ s))) ≡ stop end.1 → undo o (unless b (keep (x ∷ []))) ≡ stop end.1
      go (some e) b w h f = f
      go none true w h f = f
      go none false none h f = absurd (text-begins x s t h)
      go none false (some z) h f = absurd (let z : ◌≡◌ {A = ℕ} 0 1 = cc in omega arith)

  -- The moves of the one are those of the other, byte by byte.
  byte-moves : (t : List ℕ) → valid_to t ≡ length t → through (byte_step c) t ≡ cut (through (read_step c) t)
  byte-moves t h =
      let ms = through (read_step c) t in
      let (g, r, e, end) = moves-fair (IsEntry (rows c) (replaced_chars c)) (read_step c) units-read.fair 0 0 t in
      let (cs, f, q) = (valid-iff t).1 h in
      let (ds, f', q') = run-text c ms (entries-run ms g) in
      let left = text-rest ds cs r f' f (ap (λ (a : List ℕ). a ++ r) (sym q') ∙ sym e ∙ q) in
      let (p, w) = retrace (byte_step c) 0 (cut ms) r (follows-cut (byte_step c) (IsEntry (rows c) (replaced_chars c)) byte-keeps byte-swaps (λ w a u. u) ms g r) in
      ap (through (byte_step c)) (e ∙ ap (λ (a : List ℕ). a ++ r) (sym (taken-cut ms))) ∙ w ∙ ap (λ (ns : List Move). cut ms ++ ns) (byte-stops r left end p) ∙ append-nil (cut ms)

  pub byte-result : (t : List ℕ) → valid_to t ≡ length t → result (through (byte_step c) t) ≡ read_of c t
  byte-result t h = ap result (byte-moves t h) ∙ result-cut (through (read_step c) t)

  byte-place : (t : List ℕ) → valid_to t ≡ length t → place (through (byte_step c) t) ≡ read_to c t
  byte-place t h = ap place (byte-moves t h) ∙ ap length (taken-cut (through (read_step c) t))

  byte-replaced : (t : List ℕ) → valid_to t ≡ length t → replaced (through (byte_step c) t) ≡ replaced (through (read_step c) t)
  byte-replaced t h = ap replaced (byte-moves t h) ∙ replaced-cut (through (read_step c) t)

  -- A loop that has counted all of the one reader's moves has found what a pass of the other finds.
  pub read-measures : (t : List ℕ) (i n k : ℕ) → valid_to t ≡ length t → Counted (byte_step c) t i n k → from (byte_step c) t i ≡ []
      → Measures (record { length = n; place = i; replaced = k; left = None }) (through (read_step c) t)
  read-measures t i n k h f e =
      let (long, many, far) = counted-end f e in
      let none : first_left (through (read_step c) t) ≡ (0, 0) = ap first_of (no-lefts (read_step c) (read-leaveless c) 0 0 0 t) in
      record {
        long = long ∙ ap length (byte-result t h);
        reach = far ∙ byte-place t h;
        many = many ∙ byte-replaced t h;
        first = sym none;
      }
