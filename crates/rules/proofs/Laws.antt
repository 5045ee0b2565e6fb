-- The laws of encode, decode, read and browse, each once over the context.
-- Assumes nothing.
use mathlib.Core.Bool.{Bool, not, ◌&&◌}
use mathlib.Core.Logic.{inl, inr, ◌↔◌}
use mathlib.Core.Path.{◌≡◌, refl, sym, ap, ◌∙◌, subst}
use mathlib.Core.List.{List, [], ◌∷◌, ◌++◌}
use Prim.Native.Nat.{ℕ, ◌≤◌, ◌*◌, ◌+◌}
use native.Mathlib.Omega.{arith}
use lib.Dec.{T, leb, leb→le}
use lib.ListN.{length, take, length-append}
use Rattle.rules.specs.Bytes.{ascii, In, All, all, any, same_bytes}
use Rattle.rules.specs.Moves.{Move, keep, swap, leave, stop, gives, taken, result, replaced, growth, place, through}
use Rattle.rules.specs.Utf8.{IsText, IsFree, utf8}
use Rattle.rules.specs.Tables.{Row, key, value, rows}
use Rattle.rules.specs.Units.{IsUnit, IsRun, IsForm, unread, undecoded}
use Rattle.rules.specs.Encoding.{encode_step, raw_step}
use Rattle.rules.specs.Reading.{read_step}
use Rattle.rules.specs.Names.{names}
use Rattle.rules.specs.References.{reference_step}
use Rattle.rules.specs.Json.{json_step}
use Rattle.rules.specs.Browsing.{browse_step}
use Rattle.rules.specs.Operations.{decode_step, encode_of, decode_of, read_of, browse_of, raw_of, read_to}
use Rattle.rules.specs.declared.Kind.{Kind}
use Rattle.rules.specs.declared.Html.TheVariants.{Text, Quoted}
use Rattle.rules.specs.declared.Context.{Context}
use Rattle.rules.specs.declared.Context.TheVariants.{InHtml, InAscii}
use Rattle.rules.specs.Ascii.{name_of}
use Rattle.rules.proofs.Tests.{all_in, same_in}
use Rattle.rules.proofs.Machine.{moves-fair, same-result, place-within, whole-if, cut, result-cut}
use Rattle.rules.proofs.Codes.{Reads, units-read, units-unique, place-written, place-longest, written-iff}
use Rattle.rules.proofs.Every.{every}
use Rattle.rules.proofs.Reader.{context-reads}
use Rattle.rules.proofs.Encoder.{encode-run, run_of, run-free, wide, table-run, plain-run, run-text}
use Rattle.rules.proofs.Decoder.{IsDecoded, decode-cut, decode-run}
use Rattle.rules.proofs.Ascii.{rule-longer}
use Rattle.rules.proofs.Growth.{for_three, encode-whole, encode-none, encode-most, encode-sum, raw-whole, raw-none, raw-six, raw-sum}
use Rattle.rules.proofs.Whole.{decode-whole-if, decode-fifth}
use Rattle.rules.proofs.Browsing.{browse-whole, browse-fifth}

-- A row's key is no longer than its value.
abbrev no_longer : Row → Bool
no_longer e = leb (length (key e)) (length (value e))

-- ---- forms, and the texts that they stand for

module _ (c : Context) where
  units-reads : Reads (IsUnit c (rows c)) (read_step c)
  units-reads = context-reads c

  -- A text is a form exactly if the strict reader takes all of it.
  pub form-iff : (s : List ℕ) → IsForm c s ↔ (read_to c s ≡ length s)
  form-iff = written-iff units-reads

  -- Where it stops, what it took is a form.
  pub form-prefix : (s : List ℕ) → IsForm c (take (read_to c s) s)
  form-prefix = place-written units-reads

  -- No longer prefix is one.
  pub form-longest : (s u r : List ℕ) → IsForm c u → s ≡ u ++ r → length u ≤ read_to c s
  form-longest = place-longest units-reads

  -- It is a prefix.
  pub form-within : (s : List ℕ) → read_to c s ≤ length s
  form-within = place-within (IsUnit c (rows c)) (read_step c) units-reads.fair

  -- Where it takes as many bytes as the text has, it takes the text.
  pub read_whole : (s : List ℕ) → length s ≤ read_to c s → taken (through (read_step c) s) ≡ s
  read_whole = whole-if (IsUnit c (rows c)) (read_step c) units-reads.fair

  -- A form is one run of units only.
  pub form-unique : (us vs : List Move) → IsRun c us → IsRun c vs → taken us ≡ taken vs → us ≡ vs
  form-unique = units-unique units-reads

  -- The moves of the reader through a form are that run.
  pub form-moves : (us : List Move) → IsRun c us → through (read_step c) (taken us) ≡ us
  form-moves = units-read units-reads

  read-run : (us : List Move) → IsRun c us → read_of c (taken us) ≡ result us
  read-run us g = ap result (form-moves us g)

  -- What encode writes of a text that can be read back is a form.
  pub encode-form : (s : List ℕ) → IsFree (unread c) s → IsForm c (encode_of c s)
  encode-form s t =
      let (cs, h, f, e) = t in
      let (us, g, b, q) = run_of c (unread c) (λ a i. i) cs h f in
      (us, g, ap (encode_of c) (e ∙ q) ∙ encode-run c us (wide c us g))

  -- read of encode is the text.
  pub read-encode : (s : List ℕ) → IsFree (unread c) s → read_of c (encode_of c s) ≡ s
  read-encode s t =
      let (cs, h, f, e) = t in
      let (us, g, b, q) = run_of c (unread c) (λ a i. i) cs h f in
      ap (read_of c) (ap (encode_of c) (e ∙ q) ∙ encode-run c us (wide c us g)) ∙ read-run us g ∙ sym (e ∙ q)

  -- encode of read is the form.
  pub encode-read : (s : List ℕ) → IsForm c s → encode_of c (read_of c s) ≡ s
  encode-read s f = let (us, g, e) = f in ap (λ (x : List ℕ). encode_of c (read_of c x)) e ∙ ap (encode_of c) (read-run us g) ∙ encode-run c us (wide c us g) ∙ sym e

  -- What read gives is a text that can be read back.
  pub form-free : (s : List ℕ) → IsForm c s → IsFree (unread c) (read_of c s)
  form-free s f =
      let (us, g, e) = f in
      let (cs, h, b, q) = run-free c us g in
      (cs, h, b, ap (read_of c) e ∙ read-run us g ∙ q)

  -- The forms are what encode writes of such texts, and nothing else.
  pub form-written : (s : List ℕ) → IsForm c s ↔ ((x : List ℕ) × IsFree (unread c) x × (s ≡ encode_of c x))
  form-written s = (λ f. (read_of c s, form-free s f, sym (encode-read s f)), λ w. subst (IsForm c) (sym w.2) (encode-form w.0 w.1))

  -- What encode writes of any text is a form: in a style string NUL is written as another character is.
  pub encode-any : (s : List ℕ) → IsText s → IsForm c (encode_of c s)
  encode-any s t =
      let (cs, h, e) = t in
      let (us, g, q) = table-run c cs h in
      let (vs, i, f) = plain-run c us g in
      (vs, i, ap (encode_of c) (e ∙ q) ∙ encode-run c us g ∙ f)

  -- So a string is a form exactly if some text encodes to it.
  pub form-encoded : (s : List ℕ) → IsForm c s ↔ ((x : List ℕ) × IsText x × (s ≡ encode_of c x))
  form-encoded s = (
    λ f. let (cs, h, b, e) = form-free s f in (read_of c s, (cs, h, e), sym (encode-read s f)),
    λ w. subst (IsForm c) (sym w.2) (encode-any w.0 w.1),
  )

  -- A form is valid UTF-8.
  pub form-text : (s : List ℕ) → IsForm c s → IsText s
  form-text s f = let (us, g, e) = f in subst IsText (sym e) (run-text c us g)

  -- Two texts are never written alike.
  pub encode_injective : (s u : List ℕ) → IsFree (unread c) s → IsFree (unread c) u → encode_of c s ≡ encode_of c u → s ≡ u
  encode_injective s u h k e = sym (read-encode s h) ∙ ap (read_of c) e ∙ read-encode u k

  -- ---- decode

  both_hold : (us : List Move) → IsRun c us → All (λ (u : Move). In (gives u) (undecoded c) → ⊥) us → All (IsDecoded c) us
  both_hold [] g b = tt
  both_hold (u ∷ us) g b = ((g.0, b.0), both_hold us g.1 b.1)

  pub unread-undecoded : (a : List ℕ) → In a (unread c) → In a (undecoded c)
  unread-undecoded a i = same_in a (undecoded c)
      (all_in (λ (a : List ℕ). any (same_bytes a) (undecoded c)) (unread c) (every (λ (c : Context). all (λ (a : List ℕ). any (same_bytes a) (undecoded c)) (unread c)) tt c) a i)

  -- decode of encode is the text, where it is free of NUL (style), or of bytes 0 to 31 other than 9, 10, 12, 13 (unquoted).
  pub decode-encode : (s : List ℕ) → IsFree (undecoded c) s → decode_of c (encode_of c s) ≡ s
  decode-encode s t =
      let (cs, h, f, e) = t in
      let (us, g, b, q) = run_of c (undecoded c) unread-undecoded cs h f in
      ap (decode_of c) (ap (encode_of c) (e ∙ q) ∙ encode-run c us (wide c us g)) ∙ decode-run c us (both_hold us g b) ∙ sym (e ∙ q)

  -- On any written form of such a text the decoder makes the moves of the strict reader, byte by byte.
  pub decode-moves : (s : List ℕ) → IsForm c s → IsFree (undecoded c) (read_of c s) → through (decode_step c) s ≡ cut (through (read_step c) s)
  decode-moves s form t =
      let (cs, h, f, e) = t in
      let (us, g, b, q) = run_of c (undecoded c) unread-undecoded cs h f in
      let w : s ≡ taken us = sym (encode-read s form) ∙ ap (encode_of c) (e ∙ q) ∙ encode-run c us (wide c us g) in
      ap (through (decode_step c)) w ∙ decode-cut c us (both_hold us g b) ∙ ap cut (sym (ap (through (read_step c)) w ∙ form-moves us g))

  -- So decode and read agree there.
  pub decode-read : (s : List ℕ) → IsForm c s → IsFree (undecoded c) (read_of c s) → decode_of c s ≡ read_of c s
  decode-read s form t = ap result (decode-moves s form t) ∙ result-cut (through (read_step c) s)

  -- ---- what is replaced

  -- What encode writes is the text exactly if nothing is replaced.
  pub encode_same : (s : List ℕ) → (replaced (through (encode_step c) s) ≡ 0) ↔ (encode_of c s ≡ s)
  encode_same s = (λ z. same-result (through (encode_step c) s) z ∙ encode-whole c s, encode-none c s)

  -- Its length is the text's plus the growth of each replaced place.
  pub encode-growth : (s : List ℕ) → length (encode_of c s) ≡ length s + growth (through (encode_step c) s)
  encode-growth = encode-sum c

  -- It is at most 18 bytes for 3 of the text, six times as long; in ascii_quoted 22 for 3.
  pub encode-length : (s : List ℕ) → 3 * length (encode_of c s) ≤ for_three c * length s
  encode-length = encode-most c

  -- What decode gives is at most a fifth longer than the text.
  pub decode-length : (s : List ℕ) → 5 * length (decode_of c s) ≤ 6 * length s
  decode-length = decode-fifth c

  shorter : (us : List Move) → IsRun c us → length (result us) ≤ length (taken us)
  shorter [] g = omega arith
  shorter (keep a ∷ us) g = rw (length-append a (result us), length-append a (taken us)) (omega (arith, shorter us g.1))
  shorter (swap v k ∷ us) (inl u, g) =
      rw (length-append k (result us), length-append v (taken us))
      (omega (arith, shorter us g, leb→le (length k) (length v) (all_in no_longer (rows c) (every (λ (c : Context). all no_longer (rows c)) tt c) (k, v) u)))
  shorter (swap v k ∷ us) (inr u, g) = rw (length-append k (result us), length-append v (taken us)) (omega (arith, shorter us g, rule-longer c k v u))
  shorter (leave r a ∷ us) g = absurd g.0
  shorter (stop w ∷ us) g = absurd g.0

  -- What read gives is no longer than what it takes.
  pub read_length : (s : List ℕ) → length (read_of c s) ≤ read_to c s
  read_length s = shorter (through (read_step c) s) (moves-fair (IsUnit c (rows c)) (read_step c) units-reads.fair 0 0 s).0

  -- Where decode takes the text and replaces nothing, its result is the text.
  pub decode-same : (s : List ℕ) → length s ≤ place (through (decode_step c) s) → replaced (through (decode_step c) s) ≡ 0 → decode_of c s ≡ s
  decode-same s h z = same-result (through (decode_step c) s) z ∙ decode-whole-if c s h

-- What script_raw writes is the text exactly if nothing is replaced.
pub raw_same : (s : List ℕ) → (replaced (through raw_step s) ≡ 0) ↔ (raw_of s ≡ s)
raw_same s = (λ z. same-result (through raw_step s) z ∙ raw-whole s, raw-none s)

-- Its length is the text's plus the growth of each replaced place.
pub raw-growth : (s : List ℕ) → length (raw_of s) ≡ length s + growth (through raw_step s)
raw-growth = raw-sum

-- It is at most six times as long.
pub raw-length : (s : List ℕ) → length (raw_of s) ≤ 6 * length s
raw-length = raw-six

-- Where browse replaces nothing, its result is the text.
pub browse-same : (kind : Kind) (s : List ℕ) → replaced (through (browse_step kind) s) ≡ 0 → browse_of kind s ≡ s
browse-same kind s z = same-result (through (browse_step kind) s) z ∙ browse-whole kind s

-- What browse gives is at most a fifth longer than the text.
pub browse-length : (kind : Kind) (s : List ℕ) → 5 * length (browse_of kind s) ≤ 6 * length s
browse-length = browse-fifth

-- ---- the exceptions are real, and the figures are reached

-- Each character that decode does not give back is not given back, and each that read does not give back is not.
abbrev pub fails : Context → Bool
unfolding encode_step decode_step read_step reference_step names json_step
fails c =
    all (λ (a : List ℕ). not (same_bytes (decode_of c (encode_of c a)) a)) (undecoded c)
    && all (λ (a : List ℕ). not (same_bytes (read_of c (encode_of c a)) a)) (unread c)

pub exceptions-fail : (c : Context) → T (fails c)
unfolding encode_step decode_step read_step reference_step names json_step
exceptions-fail = every fails tt

-- `'` in a quoted attribute is written six times as long, and `&nGt;` stands for a text that is a fifth longer.
pub six-reached : length (encode_of (InHtml Quoted) (ascii "'")) ≡ 6 * length (ascii "'")
unfolding encode_step
six-reached = refl

pub fifth-reached : 5 * length (decode_of (InHtml Text) (ascii "&nGt;")) ≡ 6 * length (ascii "&nGt;")
unfolding decode_step reference_step names
fifth-reached = refl

-- U+25AB, three bytes, is written as `&EmptyVerySmallSquare;` in ascii_quoted, 22 bytes.
pub most-reached : 3 * length (encode_of InAscii (utf8 0x25AB)) ≡ for_three InAscii * length (utf8 0x25AB)
unfolding encode_step names name_of
most-reached = refl
