-- Texts grow at their end, by a character or by a text; where no character stands after a text, the whole is valid just so far.
-- Assumes nothing.
use mathlib.Core.Path.{◌≡◌, refl, sym, ap, ◌∙◌}
use mathlib.Core.List.{List, [], ◌∷◌, ◌++◌, append_assoc, append-nil}
use mathlib.Core.Option.{Option, none, some}
use Prim.Native.Nat.{ℕ, zero, suc, ◌+◌, ◌-◌, ◌≤◌, ◌<◌}
use native.Mathlib.Omega.{arith}
use borrow.Author.Tests.{lt-ltb}
use lib.ListN.{length, take, drop, get_or, length-append, take-append-drop, drop_of_length-le}
use lib.Seq.{length-take-le, take-add, take-take}
use Rattle.rules.specs.Bytes.{All, join, fits, Range, inside}
use Rattle.rules.specs.Moves.{keep, takes, moves, place}
use Rattle.rules.specs.Utf8.{sequences, sequence_at, IsChar, IsText, char_step, valid_to}
use Rattle.rules.proofs.Machine.{one-move}
use Rattle.rules.proofs.Tests.{first-sound, fits-length}
use Rattle.rules.proofs.Chars.{sequence-pos}
use Rattle.rules.proofs.Tables.{table-reads}
use Rattle.rules.proofs.Valid.{valid-iff}
use Rattle.utf8.specs.Check.{tails_of}
use Rattle.utf8.proofs.Chars.{char-here, char_of_lem}

pub no_text : IsText []
no_text = ([], tt, refl)

pub char-text : (a u : List ℕ) → IsChar a → IsText u → IsText (a ++ u)
char-text a u c t = let (cs, h, e) = t in (a ∷ cs, (c, h), ap (λ (s : List ℕ). a ++ s) e)

text-append : (u v : List ℕ) → IsText u → IsText v → IsText (u ++ v)
text-append u v t s = let (cs, h, e) = t in rw e (go cs h)
  where
    go : (cs : List (List ℕ)) → All IsChar cs → IsText (join cs ++ v)
    go [] h = s
    go (a ∷ cs) h = rw append_assoc (char-text a (join cs ++ v) h.0 (go cs h.1))

-- ---- ASCII

ascii-char : (x : ℕ) → x < 128 → IsChar (x ∷ [])
unfolding tails_of
ascii-char x h = let e = lt-ltb x 128 h in char_of_lem x [] (rw e) (rw e) (rw e)

pub ascii-text : (t : List ℕ) → ((k : ℕ) → k < length t → get_or t k 0 < 128) → IsText t
ascii-text [] f = no_text
ascii-text (x ∷ t) f = char-text (x ∷ []) t (ascii-char x (f 0 (omega arith))) (ascii-text t (λ k h. f (suc k) (omega arith)))

-- A text of ASCII is valid.
pub ascii-valid : (t : List ℕ) → ((k : ℕ) → k < length t → get_or t k 0 < 128) → valid_to t ≡ length t
ascii-valid t f = (valid-iff t).0 (ascii-text t f)

-- ---- how far a text is valid

-- No character stands at the head of r.
abbrev pub NoChar : List ℕ → Type 0
NoChar r = length (takes (char_step 0 r)) ≡ 0

no_move : (p : ℕ) (r : List ℕ) → NoChar r → place (moves char_step p 0 r) ≡ 0
unfolding char_step
no_move p [] e = refl
no_move p (x ∷ r) e = go (sequence_at (x ∷ r)) refl
  where
    go : (o : Option (List Range)) → sequence_at (x ∷ r) ≡ o → place (moves char_step p 0 (x ∷ r)) ≡ 0
    go none f = rw f
    go (some q) f =
        let (i, t) = first-sound (fits inside) sequences (x ∷ r) q f in
        absurd (rw (sym (fits-length inside q (x ∷ r) t) ∙ rw f at e) at (sequence-pos q i))

-- The moves go through a text, and end where no character stands.
through-text : (p : ℕ) (cs : List (List ℕ)) (r : List ℕ) → All IsChar cs → NoChar r → place (moves char_step p 0 (join cs ++ r)) ≡ length (join cs)
unfolding char_step
through-text p [] r h e = no_move p r e
through-text p (a ∷ cs) r h e =
    let (q, m) = one-move char_step p (keep a) (join cs ++ r) ((table-reads [] [] tt).finds (keep a) (h.0, λ i. i) (join cs ++ r)) in
    rw (append_assoc, m, length-append, through-text q cs r h.1 e) (sym (length-append a (join cs)))

pub valid-here : (t : List ℕ) (i : ℕ) → i ≤ length t → IsText (take i t) → NoChar (drop i t) → i ≡ valid_to t
valid-here t i h s e =
    let (cs, c, j) = s in
    let w : join cs ++ drop i t ≡ t = rw (← j, take-append-drop) in
    sym (ap (λ (l : List ℕ). place (moves char_step 0 0 l)) (sym w) ∙ through-text 0 cs (drop i t) c e ∙ ap length (sym j) ∙ length-take-le i t h)

-- The end of the text ends it too.
pub end-no-char : (t : List ℕ) (i : ℕ) → length t ≤ i → NoChar (drop i t)
unfolding char_step
end-no-char t i h = rw (drop_of_length-le t h)

-- ---- a text grows by a part

-- What is taken at the head is a text, also where it is nothing.
pub head-text : (s : List ℕ) (n : ℕ) → n ≡ length (takes (char_step 0 s)) → IsText (take n s)
head-text s zero e = no_text
head-text s (suc n) e = rw append-nil at (char-text (take (suc n) s) [] (char-here s (suc n) e (omega arith)) no_text)

pub text-part : (t : List ℕ) (i n : ℕ) → i ≤ n → IsText (take i t) → IsText (take (n - i) (drop i t)) → IsText (take n t)
text-part t i n h u v =
    let e : i + (n - i) ≡ n = omega arith in
    rw (← e, take-add) (text-append (take i t) (take (n - i) (drop i t)) u v)

pub text-more : (t : List ℕ) (i k n : ℕ) → n ≤ k → IsText (take i t) → IsText (take n (take k (drop i t))) → IsText (take (i + n) t)
text-more t i k n h u v = rw take-add (text-append (take i t) (take n (drop i t)) u (rw take-take at v))
