-- Texts one after the other: each context writes, reads and decodes them part by part, since a run of units behind a run is a run.
-- Assumes nothing.
use mathlib.Core.Path.{◌≡◌, sym, ap, ◌∙◌, subst}
use mathlib.Core.List.{List, [], ◌∷◌, ◌++◌}
use Prim.Native.Nat.{ℕ}
use Rattle.rules.specs.Bytes.{In, All}
use Rattle.rules.specs.Moves.{result}
use Rattle.rules.specs.Utf8.{IsChar, IsText, IsFree}
use Rattle.rules.specs.Units.{IsForm, undecoded}
use Rattle.rules.specs.Operations.{encode_of, decode_of, read_of}
use Rattle.rules.specs.declared.Context.{Context}
use Rattle.rules.proofs.Machine.{taken-append}
use Rattle.rules.proofs.Blind.{result-append}
use Rattle.rules.proofs.Encoder.{join-append, table-run, encode-run}
use Rattle.rules.proofs.Laws.{form-moves, decode-read}

pub all_append : {A : Type 0} (p : A → Type 0) (xs ys : List A) → All p xs → All p ys → All p (xs ++ ys)
all_append p [] ys h i = i
all_append p (x ∷ xs) ys h i = (h.0, all_append p xs ys h.1 i)

-- Two texts without certain characters make one.
pub free-append : (bad : List (List ℕ)) (s u : List ℕ) → IsFree bad s → IsFree bad u → IsFree bad (s ++ u)
free-append bad s u a b =
    let (cs, h, f, e) = a in
    let (ds, i, g, q) = b in
    (cs ++ ds, all_append IsChar cs ds h i, all_append (λ (a : List ℕ). In a bad → ⊥) cs ds f g, (λ i. e i ++ q i) ∙ sym (join-append cs ds))

module _ (c : Context) where
  -- encode writes two texts, one behind the other, as it writes each.
  pub encode-texts : (s u : List ℕ) → IsText s → IsText u → encode_of c (s ++ u) ≡ encode_of c s ++ encode_of c u
  encode-texts s u t v =
      let (cs, h, e) = t in
      let (ds, i, f) = v in
      let (us, g, p) = table-run c cs h in
      let (vs, k, q) = table-run c ds i in
      ap (encode_of c) ((λ j. (e ∙ p) j ++ (f ∙ q) j) ∙ sym (result-append us vs))
      ∙ encode-run c (us ++ vs) (all_append _ us vs g k)
      ∙ taken-append us vs
      ∙ (λ j. (sym (encode-run c us g) ∙ ap (encode_of c) (sym (e ∙ p))) j ++ (sym (encode-run c vs k) ∙ ap (encode_of c) (sym (f ∙ q))) j)

  -- A form behind a form is a form.
  pub form-append : (s u : List ℕ) → IsForm c s → IsForm c u → IsForm c (s ++ u)
  form-append s u f g =
      let (us, h, e) = f in
      let (vs, i, q) = g in
      (us ++ vs, all_append _ us vs h i, (λ j. e j ++ q j) ∙ sym (taken-append us vs))

  -- It is read part by part,
  pub read-append : (s u : List ℕ) → IsForm c s → IsForm c u → read_of c (s ++ u) ≡ read_of c s ++ read_of c u
  read-append s u f g =
      let (us, h, e) = f in
      let (vs, i, q) = g in
      ap (read_of c) ((λ j. e j ++ q j) ∙ sym (taken-append us vs))
      ∙ ap result (form-moves c (us ++ vs) (all_append _ us vs h i))
      ∙ result-append us vs
      ∙ (λ j. (ap result (sym (form-moves c us h)) ∙ ap (read_of c) (sym e)) j ++ (ap result (sym (form-moves c vs i)) ∙ ap (read_of c) (sym q)) j)

  -- and decoded so, where no character of either text is one that decode does not give back.
  pub decode-append : (s u : List ℕ) → IsForm c s → IsForm c u → IsFree (undecoded c) (read_of c s) → IsFree (undecoded c) (read_of c u)
      → decode_of c (s ++ u) ≡ decode_of c s ++ decode_of c u
  decode-append s u f g a b =
      let both = read-append s u f g in
      decode-read c (s ++ u) (form-append s u f g) (subst (IsFree (undecoded c)) (sym both) (free-append (undecoded c) (read_of c s) (read_of c u) a b))
      ∙ both
      ∙ (λ j. sym (decode-read c s f a) j ++ sym (decode-read c u g b) j)
