-- What a repair is for: a field in which nothing is replaced stays as it is, and a text that was encoded some times comes back encoded once, with their
-- number. Each layer that comes off is one encoding, since read undoes it and an encoding that changes a text changes what it wrote, too.
-- Assumes nothing.
use mathlib.Core.Bool.{Bool, true, false}
use mathlib.Core.Option.{Option, none, some}
use mathlib.Core.Path.{◌≡◌, refl, sym, ap, ◌∙◌, subst}
use mathlib.Core.List.{List, [], ◌∷◌, ◌++◌}
use Prim.Native.Nat.{ℕ, zero, suc, ◌≤◌}
use native.Mathlib.Nat.{suc-ne-zero}
use native.Mathlib.Omega.{arith}
use borrow.Author.Tests.{eqb-true, eq-eqb, le-ltb}
use lib.Dec.{eqb}
use lib.ListN.{length as size}
use Rattle.rules.specs.Bytes.{All, In, ascii}
use Rattle.rules.specs.Moves.{through, replaced}
use Rattle.rules.specs.Utf8.{IsText, IsFree}
use Rattle.rules.specs.Units.{IsForm, unread}
use Rattle.rules.specs.Reading.{read_step}
use Rattle.rules.specs.Operations.{encode_of, read_of, read_to}
use Rattle.rules.specs.Program.{decimal}
use Rattle.rules.specs.declared.AnyContext.TheVariants.{Units}
use Rattle.rules.specs.declared.Context.{Context}
use Rattle.rules.specs.declared.Context.TheVariants.{InHtml, InScript, InStyle, InJson, InAscii}
use Rattle.rules.proofs.Machine.{same-result}
use Rattle.rules.proofs.Laws.{form-iff, form-text, read_whole, read-encode, encode-form, encode-any, encode_injective}
use Rattle.rules.proofs.Check.{check-form}
use Rattle.rules.proofs.Stream.{true-false}
use Rattle.repairs.specs.Repair.{peel, layers, core, is_html, status_of, mended, repaired}
use Rattle.repairs.proofs.Peeling.{layers-by, core-by, kept}

-- A field in form in which nothing is replaced comes out unchanged, with 0 layers.
pub core-same : (c : Context) (k : ℕ) (s : List ℕ) → IsForm c s → layers (suc k) (Units c) s ≡ 0 → encode_of c (core (suc k) (Units c) s) ≡ s
core-same c k s f z = go (peel (Units c) s) refl
  where
    go : (o : Option (List ℕ)) → peel (Units c) s ≡ o → encode_of c (core (suc k) (Units c) s) ≡ s
    go none e = ap (encode_of c) (core-by k (Units c) s none e) ∙ kept c s f e
    go (some u) e = absurd (suc-ne-zero (layers k (Units c) u) (sym (layers-by k (Units c) s (some u) e) ∙ z))

-- ---- a text that was encoded some times, in an HTML context

-- encode of an HTML context has a form for every text.
html-all : (c : Context) → is_html (Units c) ≡ true → unread c ≡ []
html-all (InHtml h) e = refl
html-all (InScript q) e = true-false (sym e)
html-all (InStyle q) e = true-false (sym e)
html-all InJson e = true-false (sym e)
html-all InAscii e = refl

module _ (html : Context) (is : is_html (Units html) ≡ true) where
  -- A text, encoded k times.
  abbrev pub encodes : ℕ → List ℕ → List ℕ
  encodes zero t = t
  encodes (suc k) t = encode_of html (encodes k t)

  free_all : (cs : List (List ℕ)) → All (λ (a : List ℕ). In a [] → ⊥) cs
  free_all [] = tt
  free_all (a ∷ cs) = ((λ i. i), free_all cs)

  text-free : (t : List ℕ) → IsText t → IsFree (unread html) t
  text-free t x = let (cs, g, e) = x in subst (λ (z : List (List ℕ)). IsFree z t) (sym (html-all html is)) (cs, g, free_all cs, e)

  encodes-text : (k : ℕ) (t : List ℕ) → IsText t → IsText (encodes k t)
  encodes-text zero t x = x
  encodes-text (suc k) t x = let y = encodes-text k t x in form-text html (encodes (suc k) t) (encode-form html (encodes k t) (text-free (encodes k t) y))

  -- An encoding that changes a text changes what it wrote, too.
  encodes-change : (k : ℕ) (t : List ℕ) → IsText t → (encode_of html t ≡ t → ⊥) → encodes (suc k) t ≡ encodes k t → ⊥
  encodes-change zero t x n e = n e
  encodes-change (suc k) t x n e =
      encodes-change k t x n
      (encode_injective html (encodes (suc k) t) (encodes k t) (text-free (encodes (suc k) t) (encodes-text (suc k) t x)) (text-free (encodes k t) (encodes-text k t x)) e)

  peel-encoded : (t : List ℕ) → IsText t → (encode_of html t ≡ t → ⊥) → peel (Units html) (encode_of html t) ≡ some t
  peel-encoded t x n = go (eqb (replaced (through (read_step html) (encode_of html t))) 0) refl
    where
      form : IsForm html (encode_of html t)
      form = encode-form html t (text-free t x)

      back : read_of html (encode_of html t) ≡ t
      back = read-encode html t (text-free t x)

      go : (y : Bool) → eqb (replaced (through (read_step html) (encode_of html t))) 0 ≡ y → peel (Units html) (encode_of html t) ≡ some t
      go true q =
          absurd (n (sym (same-result (through (read_step html) (encode_of html t)) (eqb-true (replaced (through (read_step html) (encode_of html t))) 0 q)
          ∙ read_whole html (encode_of html t) (let z = (form-iff html (encode_of html t)).0 form in omega (arith, z))) ∙ back))
      go false q = rw (eq-eqb (read_to html (encode_of html t)) (size (encode_of html t)) ((form-iff html (encode_of html t)).0 form), q, back)

  -- k layers come off, and the text is below: where encode changes it, and no layer comes off the text itself.
  pub layers-undo : (n k : ℕ) → k ≤ n → (t : List ℕ) → IsText t → peel (Units html) t ≡ none → (encode_of html t ≡ t → ⊥)
      → (layers n (Units html) (encodes k t) ≡ k) × (core n (Units html) (encodes k t) ≡ t)
  layers-undo zero zero l t x p c = (refl, refl)
  layers-undo zero (suc k) l t x p c = absurd (omega arith)
  layers-undo (suc n) zero l t x p c = (layers-by n (Units html) t none p, core-by n (Units html) t none p)
  layers-undo (suc n) (suc k) l t x p c =
      let (a, b) = layers-undo n k (omega arith) t x p c in
      let q = peel-encoded (encodes k t) (encodes-text k t x) (encodes-change k t x c) in
      (layers-by n (Units html) (encodes (suc k) t) (some (encodes k t)) q ∙ ap suc a, core-by n (Units html) (encodes (suc k) t) (some (encodes k t)) q ∙ b)

  -- A field in form of at most 8,192 bytes passes.
  form-passes : (s : List ℕ) → IsForm html s → size s ≤ 8192 → status_of (Units html) s ≡ 0
  form-passes s f m = rw (is, le-ltb 8192 (size s) m) ((check-form html s).1 (f, omega (arith, m)))

  -- What the program prints then.
  passes-prints : (s : List ℕ) → status_of (Units html) s ≡ 0 → repaired (Units html) s ≡ mended (Units html) s
  passes-prints s e = rw (eq-eqb (status_of (Units html) s) 0 e)

  -- So the program prints of a text that was encoded one to four times how many times, and the text encoded once.
  pub repair-undo : (k : ℕ) → suc k ≤ 4 → (t : List ℕ) → IsText t → peel (Units html) t ≡ none → (encode_of html t ≡ t → ⊥) → size (encodes (suc k) t) ≤ 8192
      → repaired (Units html) (encodes (suc k) t) ≡ ascii "layers=" ++ decimal (suc k) ++ ascii "\ntext=" ++ encode_of html t
  repair-undo k l t x p c m =
      let (a, b) = layers-undo 4 (suc k) l t x p c in
      passes-prints (encodes (suc k) t) (form-passes (encodes (suc k) t) (encode-any html (encodes k t) (encodes-text k t x)) m)
      ∙ (λ i. ascii "layers=" ++ decimal (a i) ++ ascii "\ntext=" ++ encode_of html (b i))

  -- And a field in form in which nothing is replaced as it is.
  pub repair-same : (s : List ℕ) → IsForm html s → size s ≤ 8192 → layers 4 (Units html) s ≡ 0 → repaired (Units html) s ≡ ascii "layers=" ++ decimal 0 ++ ascii "\ntext=" ++ s
  repair-same s f m z = passes-prints s (form-passes s f m) ∙ (λ i. ascii "layers=" ++ decimal (z i) ++ ascii "\ntext=" ++ core-same html 3 s f z i)
