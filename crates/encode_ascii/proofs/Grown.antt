-- How far the encoder has come through a valid text: what is counted so far, with what the rest gives, is what the whole gives. The next character
-- is a text, and texts are written one after the other.
-- Assumes nothing.
use mathlib.Core.Path.{◌≡◌, refl, sym, ap, ◌∙◌, subst}
use mathlib.Core.List.{List, [], ◌∷◌, ◌++◌, map, map-append, append-nil}
use Prim.Native.Nat.{ℕ, suc, ◌+◌, ◌*◌, ◌≤◌, ◌<◌}
use native.Mathlib.Omega.{arith}
use lib.Dec.{T, lt→ltb}
use lib.ListN.{length, take, drop, get_or, length-append, length-drop, drop_of_length-le}
use lib.Seq.{drop-drop, drop_at, take_at}
use Rattle.rules.specs.Bytes.{over, All, all}
use Rattle.rules.specs.Moves.{Move, result, replaced, through, first_left, first_of}
use Rattle.rules.specs.Utf8.{IsChar, IsText, char_at, valid_to}
use Rattle.rules.specs.Tables.{table}
use Rattle.rules.specs.Units.{IsUnit}
use Rattle.rules.specs.Answers.{Measures, whole}
use Rattle.rules.specs.Encoding.{encode_step}
use Rattle.rules.specs.Operations.{encode_of}
use Rattle.rules.specs.declared.Html.TheVariants.{Quoted}
use Rattle.rules.specs.declared.Context.TheVariants.{InHtml, InAscii}
use Rattle.rules.proofs.Tests.{and_both}
use Rattle.rules.proofs.Machine.{turn, replaced-cut}
use Rattle.rules.proofs.Blind.{result-append, replaced-append}
use Rattle.rules.proofs.Valid.{valid-iff}
use Rattle.rules.proofs.Encoder.{table-run, encode-moves}
use Rattle.rules.proofs.Growth.{encode-whole, encode-most}
use Rattle.rules.proofs.Ascii.{is_ascii}
use Rattle.rules.proofs.AsciiWritten.{ascii-quoted}
use Rattle.rules.proofs.Append.{all_append, encode-texts}
use Rattle.rules.proofs.Reasons.{no-lefts, encode-leaveless}
use Rattle.base.proofs.Filled.{Next}
use Rattle.encode_ascii.specs.declared.characters.Put.{Put}
use Rattle.encode_ascii.specs.Wide.{PutsNext}
use Rattle.encode_ascii.proofs.Heads.{text_head, head-is, rest-text}

-- ---- two texts, one behind the other

-- How many places of a text are replaced.
abbrev pub hits_in : List ℕ → ℕ
hits_in s = replaced (through (encode_step InAscii) s)

pub hits-texts : (s u : List ℕ) → IsText s → IsText u → hits_in (s ++ u) ≡ hits_in s + hits_in u
hits-texts s u (cs, h, e) (ds, i, f) =
    let (us, g, p) = table-run InAscii cs h in
    let (vs, k, q) = table-run InAscii ds i in
    ap hits_in ((λ j. (e ∙ p) j ++ (f ∙ q) j) ∙ sym (result-append us vs))
    ∙ run (us ++ vs) (all_append (IsUnit InAscii (table InAscii)) us vs g k)
    ∙ ap replaced (map-append turn us vs)
    ∙ replaced-append (map turn us) (map turn vs)
    ∙ (λ j. (sym (run us g) ∙ ap hits_in (sym (e ∙ p))) j + (sym (run vs k) ∙ ap hits_in (sym (f ∙ q))) j)
  where
    run : (us : List Move) → All (IsUnit InAscii (table InAscii)) us → hits_in (result us) ≡ replaced (map turn us)
    run us g = ap replaced (encode-moves InAscii us g) ∙ replaced-cut (map turn us)

-- ---- ASCII

-- Bytes below 128.
abbrev Low : List ℕ → Type 0
Low s = (k : ℕ) → k < length s → get_or s k 0 < 128

low-all : (s : List ℕ) → Low s → T (all is_ascii s)
low-all [] h = tt
low-all (b ∷ s) h = and_both (is_ascii b) (all is_ascii s) (lt→ltb b 128 (h 0 (omega arith))) (low-all s (λ k l. h (suc k) (omega arith)))

-- They are written as `quoted` writes them.
pub low-quoted : (s : List ℕ) → Low s → through (encode_step InAscii) s ≡ through (encode_step (InHtml Quoted)) s
low-quoted s h = ascii-quoted s (low-all s h)

-- ---- how far

pub record Grown (t : List ℕ) (i n k : ℕ) : Type 0 where
  pub inside : i ≤ length t
  pub text : IsText (drop i t)
  pub long : n + length (encode_of InAscii (drop i t)) ≡ length (encode_of InAscii t)
  pub many : k + hits_in (drop i t) ≡ hits_in t
  pub few : k ≤ i
  pub most : 3 * n ≤ 22 * length t

pub grown-start : (t : List ℕ) → valid_to t ≡ length t → Grown t 0 0 0
grown-start t v = record { inside = omega arith; text = (valid-iff t).1 v; long = omega arith; many = omega arith; few = omega arith; most = omega arith }

module _ {t : List ℕ} {i n k : ℕ} (g : Grown t i n k) where
  -- A part that is a text, with no more places than bytes, and a text behind it.
  grown-part : (e : ℕ) (s : List ℕ) → i ≤ e → e ≤ length t → drop i t ≡ s ++ drop e t → IsText s → IsText (drop e t) → i + hits_in s ≤ e
      → Grown t e (n + length (encode_of InAscii s)) (k + hits_in s)
  grown-part e s l m q a b few =
      let w : length (encode_of InAscii (drop i t)) ≡ length (encode_of InAscii s) + length (encode_of InAscii (drop e t)) =
      ap (λ (u : List ℕ). length (encode_of InAscii u)) q ∙ ap length (encode-texts InAscii s (drop e t) a b) ∙ length-append (encode_of InAscii s) (encode_of InAscii (drop e t)) in
      let z : hits_in (drop i t) ≡ hits_in s + hits_in (drop e t) = ap hits_in q ∙ hits-texts s (drop e t) a b in
      record {
        inside = m;
        text = b;
        long = omega (arith, g.long, w);
        many = omega (arith, g.many, z);
        few = omega (arith, g.few, few);
        most = omega (arith, g.long, w, encode-most InAscii t);
      }

  part-next : (e : ℕ) (s : List ℕ) → drop i t ≡ s ++ drop e t → IsText s → IsText (drop e t) → Next (encode_of InAscii (drop i t)) (encode_of InAscii s) (encode_of InAscii (drop e t))
  part-next e s q a b = record { next = ap (encode_of InAscii) q ∙ encode-texts InAscii s (drop e t) a b }

-- ---- the next character

module _ {t : List ℕ} {i n k : ℕ} (g : Grown t i n k) (l : i < length t) where
  abbrev a : List ℕ
  a = char_at (drop i t)

  -- It is a character, and the text goes on behind it.
  split : IsChar a × (drop i t ≡ a ++ drop (i + length a) t)
  split =
      let (b, r, c, u, e) = text_head (drop i t) g.text (omega (arith, length-drop i t)) in
      let q : a ≡ b = head-is (drop i t) b r c e in (
        subst IsChar (sym q) c,
        e ∙ (λ j. sym q j ++ (sym (drop_at b r (length b) refl) ∙ ap (drop (length b)) (sym e) ∙ ap (λ (s : List ℕ). drop (length s) (drop i t)) (sym q) ∙ drop-drop (length a) i t) j),
      )

  rest : IsText (drop (i + length a) t)
  rest = subst IsText (drop-drop (length a) i t) (rest-text (drop i t) g.text (omega (arith, length-drop i t)))

  one : IsText a
  one = (a ∷ [], (split.0, tt), sym (append-nil a))

  pub grown-next : (w : ℕ) (r : Put) (x y : List ℕ) → PutsNext (drop i t) r x y → w ≡ r.written → Grown t (i + r.width) (n + w) (k + r.replaced)
  grown-next w r x y p e =
      let z : i + length a ≡ i + r.width = omega (arith, p.2) in
      let m : i + length a ≤ length t = omega (arith, p.2, p.5, length-drop i t, l) in
      let v : length (encode_of InAscii a) ≡ w = sym p.0.0 ∙ sym e in
      let h : hits_in a ≡ r.replaced = sym p.3 in
      subst (λ (j : ℕ). Grown t j (n + w) (k + r.replaced)) z
      (subst (λ (j : ℕ). Grown t (i + length a) (n + w) (k + j)) h
      (subst (λ (j : ℕ). Grown t (i + length a) (n + j) (k + hits_in a)) v
      (grown-part g (i + length a) a (omega arith) m split.1 one rest (omega (arith, p.2, p.3, p.4, p.6)))))

  pub next-put : (r : Put) (x y : List ℕ) → PutsNext (drop i t) r x y → Next (encode_of InAscii (drop i t)) (encode_of InAscii a) (encode_of InAscii (drop (i + r.width) t))
  next-put r x y p =
      let z : i + length a ≡ i + r.width = omega (arith, p.2) in
      subst (λ (j : ℕ). Next (encode_of InAscii (drop i t)) (encode_of InAscii a) (encode_of InAscii (drop j t))) z (part-next g (i + length a) a split.1 one rest)

-- ---- the end

-- Where nothing is left, all is counted.
pub grown-end : {t : List ℕ} {i n k : ℕ} → Grown t i n k → length t ≤ i
    → Measures (whole n i k) (through (encode_step InAscii) t)
grown-end {t} {i} {n} {k} g h =
    let d : drop i t ≡ [] = drop_of_length-le t h in
    let none : first_left (through (encode_step InAscii) t) ≡ (0, 0) = ap first_of (no-lefts (encode_step InAscii) (encode-leaveless InAscii) 0 0 0 t) in
    record {
      long = omega (arith, g.long, ap (λ (s : List ℕ). length (encode_of InAscii s)) d);
      reach = let e : i ≡ length t = omega (arith, g.inside, h) in e ∙ sym (ap length (encode-whole InAscii t));
      many = omega (arith, g.many, ap hits_in d);
      first = sym none;
    }

-- What is written is then the whole.
pub rest-empty : (t : List ℕ) (i : ℕ) → length t ≤ i → encode_of InAscii (drop i t) ≡ []
rest-empty t i h = ap (encode_of InAscii) (drop_of_length-le t h)

-- What was put into a room is what its first bytes are.
pub put_holds : (v room last : List ℕ) (r : ℕ) → r ≡ length v → last ≡ over v room → take r last ≡ v
put_holds v room last r e p = ap (take r) p ∙ take_at v (drop (length v) room) r (sym e)
