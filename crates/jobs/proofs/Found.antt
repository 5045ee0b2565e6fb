-- What the rooms below measure and write, said of the moves of a job.
-- Assumes nothing.
use mathlib.Core.Bool.{Bool, true, false, ◌&&◌}
use mathlib.Core.Option.{Option, none, some}
use mathlib.Core.Path.{◌≡◌, refl, sym, ap, ◌∙◌, subst}
use mathlib.Core.List.{List, []}
use Prim.Native.Nat.{ℕ, ◌+◌, ◌-◌, ◌*◌, ◌/◌, ◌≤◌, ◌<◌}
use native.Mathlib.Omega.{arith}
use borrow.Author.Tests.{ne_eqb}
use lib.Dec.{eqb}
use lib.ListN.{length as size, take, drop}
use Rattle.rules.specs.Moves.{Move, Rule, result, replaced, lefts, first_of, taken, place, through, before, why, why_at}
use Rattle.rules.specs.Bytes.{any, stands, Range}
use Rattle.rules.specs.Utf8.{char_at, sequence_at, keep_char, valid_to}
use Rattle.rules.specs.Tables.{Row, row_at, value, rows, replaced_chars}
use Rattle.rules.specs.Encoding.{encode_step, raw_step}
use Rattle.rules.specs.Ascii.{by_rule}
use Rattle.rules.specs.Reading.{undo, unless, read_by, rule_back, read_step}
use Rattle.rules.specs.Json.{json_step}
use Rattle.rules.specs.Browsing.{browse_step}
use Rattle.rules.specs.Operations.{decode_step, raw_of}
use Rattle.rules.specs.Answers.{Measures, whole}
use Rattle.rules.specs.declared.Context.{Context}
use Rattle.rules.specs.declared.Context.TheVariants.{InHtml, InJson, InAscii}
use Rattle.rules.specs.declared.Html.{Html}
use Rattle.rules.specs.declared.Html.TheVariants.{Text, Quoted}
use Rattle.rules.specs.declared.Kind.{Kind}
use Rattle.rules.proofs.Valid.{valid-within}
use Rattle.rules.proofs.Whole.{Endless, decode-whole, decode-whole-if, decode-fifth}
use Rattle.rules.proofs.Browsing.{browse-whole, browse-fifth}
use Rattle.rules.proofs.Growth.{Sixfold, encode-whole, encode-six, raw-whole, raw-six, raw-replaced}
use Rattle.rules.proofs.Laws.{read_whole}
use Rattle.rules.proofs.Reasons.{no-lefts, encode-leaveless, raw-leaveless}
use Rattle.base.proofs.Filled.{lent-rest}
use Rattle.encode_html.specs.declared.Scan.{Scan}
use Rattle.encode_ascii.proofs.Grown.{low-quoted}
use Rattle.rules.specs.Contexts.{string_of, written_in}
use Rattle.rules.specs.declared.Language.{Language}
use Rattle.rules.specs.declared.Language.TheVariants.{Script, Style}
use Rattle.rules.specs.declared.Quotes.{Quotes}
use Rattle.std.specs.Prelude.{Some}
use Rattle.jobs.specs.Jobs.{rule_by, counted_for, Fits, Low, Counts, Seen}
use Rattle.jobs.specs.declared.job.Job.{Job}
use Rattle.jobs.specs.declared.job.Job.TheVariants.{EncodeHtml, EncodeString, EncodeRaw, EncodeAscii, DecodeReferences, DecodeString, DecodeJson, BrowseReferences, Read}
use Rattle.rules.specs.declared.Measured.{Measured}

-- A string's escapes are decoded to the end of the text.
pub strings-endless : (language : Language) (q : Quotes) → Endless (string_of language q)
strings-endless Script q = tt
strings-endless Style q = tt

-- ---- a job takes the whole text

-- Every job does that gets to the end of it.
pub job-whole : (job : Job) (t : List ℕ) → size t ≤ place (through (rule_by job) t) → taken (through (rule_by job) t) ≡ t
unfolding rule_by decode_step
job-whole (EncodeHtml h) t e = encode-whole (InHtml h) t
job-whole (EncodeString notation q) t e = encode-whole (written_in notation q) t
job-whole EncodeRaw t e = raw-whole t
job-whole EncodeAscii t e = encode-whole InAscii t
job-whole DecodeReferences t e = decode-whole (InHtml Text) tt t
job-whole (DecodeString language q) t e = decode-whole (string_of language q) (strings-endless language q) t
job-whole DecodeJson t e = decode-whole-if InJson t e
job-whole (BrowseReferences kind) t e = browse-whole kind t
job-whole (Read c) t e = read_whole c t e

-- ---- why a job stops

-- A job that takes the whole text stops nowhere before its end.
goes_on_lem : (rule : Rule) (t : List ℕ) → taken (through rule t) ≡ t → place (through rule t) < size t → ⊥
goes_on_lem rule t w h = omega (arith, ap size w)

-- read stops for its form only.
read-four : (c : Context) (p : ℕ) (s : List ℕ) → why (read_step c p s) ≡ 10 → ⊥
unfolding read_step
read-four c p s = ruled (rule_back c s) (by_rule c (char_at s))
  where
    nought : ◌≡◌ {A = ℕ} 0 10 → ⊥
    nought e = omega arith

    four : ◌≡◌ {A = ℕ} 4 10 → ⊥
    four e = omega arith

    go : (o : Option Row) (b : Bool) (q : Option (List Range)) → why (undo o (unless b (keep_char q s))) ≡ 10 → ⊥
    go (some row) b q e = nought e
    go none true q e = four e
    go none false (some z) e = nought e
    go none false none e = four e

    ruled : (o : Option Row) (w : Option (List ℕ)) → why (undo o (unless (elim w [ none ↦ false | some v ↦ true ]) (read_by (rows c) (replaced_chars c) p s))) ≡ 10 → ⊥
    ruled (some row) w e = nought e
    ruled none (some v) e = four e
    ruled none none e = go (row_at value (rows c) s) (any (λ (k : List ℕ). stands k s) (replaced_chars c)) (sequence_at s) e

-- Only decode of a JSON string stops for half a surrogate pair.
pub four-only : (job : Job) (t : List ℕ) → (job ≡ DecodeJson → ⊥) → place (through (rule_by job) t) < size t → eqb (why_at (rule_by job) t) 10 ≡ false
unfolding rule_by decode_step
four-only (EncodeHtml h) t n l = absurd (goes_on_lem (encode_step (InHtml h)) t (encode-whole (InHtml h) t) l)
four-only (EncodeString notation q) t n l = absurd (goes_on_lem (encode_step (written_in notation q)) t (encode-whole (written_in notation q) t) l)
four-only EncodeRaw t n l = absurd (goes_on_lem raw_step t (raw-whole t) l)
four-only EncodeAscii t n l = absurd (goes_on_lem (encode_step InAscii) t (encode-whole InAscii t) l)
four-only DecodeReferences t n l = absurd (goes_on_lem (decode_step (InHtml Text)) t (decode-whole (InHtml Text) tt t) l)
four-only (BrowseReferences kind) t n l = absurd (goes_on_lem (browse_step kind) t (browse-whole kind t) l)
four-only (DecodeString language q) t n l =
    absurd (goes_on_lem (decode_step (string_of language q)) t (decode-whole (string_of language q) (strings-endless language q) t) l)
four-only DecodeJson t n l = absurd (n refl)
four-only (Read c) t n l = ne_eqb (why_at (read_step c) t) 10 (read-four c (before t (place (through (read_step c) t))) (drop (place (through (read_step c) t)) t))

-- What the test of the rest of the text tells is why decode of a JSON string stopped there.
pub half-there : (t : List ℕ) (p : ℕ) → p ≡ place (through (rule_by DecodeJson) t) → (b : Bool) → b ≡ eqb (why (json_step 0 (take (size t - p) (drop p t)))) 10
    → eqb (why_at (rule_by DecodeJson) t) 10 ≡ b
unfolding rule_by decode_step json_step
half-there t p e b f =
    ap (λ (q : ℕ). eqb (why (json_step (before t q) (drop q t))) 10) (sym e) ∙ sym (f ∙ ap (λ (s : List ℕ). eqb (why (json_step 0 s)) 10) (lent-rest p t))

-- ---- any result has room

pub encode-fits : (c : Context) → Sixfold c → (t : List ℕ) (room : ℕ) → 6 * size t ≤ room → Fits (encode_step c) t room
encode-fits c w t room e = (encode-whole c t, omega (arith, encode-six c w t))

pub raw-fits : (t : List ℕ) (room : ℕ) → 6 * size t ≤ room → Fits raw_step t room
raw-fits t room e = (raw-whole t, omega (arith, raw-six t))

pub browse-fits : (kind : Kind) (t : List ℕ) (room : ℕ) → size t + size t / 5 ≤ room → Fits (browse_step kind) t room
browse-fits kind t room e = (browse-whole kind t, omega (arith, browse-fifth kind t))

pub decode-fits : (c : Context) → Endless c → (t : List ℕ) (room : ℕ) → size t + size t / 5 ≤ room → Fits (decode_step c) t room
decode-fits c w t room e = (decode-whole c w t, omega (arith, decode-fifth c t))

-- ---- what is measured

-- Of moves that take a whole text and leave no reference, what `whole` says is what is measured.
pub whole-found : {found : Measured} {ms : List Move} {n k : ℕ} (t : List ℕ) → taken ms ≡ t → n ≡ size (result ms) → k ≡ replaced ms → lefts ms ≡ []
    → found ≡ whole n (size t) k → Measures found ms
whole-found t w e f g a = rw a (record { reach = ap size (sym w); long = e; many = f; first = sym (ap first_of g) })

-- So it is of an encoder.
pub encode-found : {found : Measured} {n k : ℕ} (c : Context) (t : List ℕ) → n ≡ size (result (through (encode_step c) t)) → k ≡ replaced (through (encode_step c) t)
    → found ≡ whole n (size t) k → Measures found (through (encode_step c) t)
encode-found c t e f a = whole-found t (encode-whole c t) e f (no-lefts (encode_step c) (encode-leaveless c) 0 0 0 t) a

-- What was counted for an HTML encoder is of its context.
pub html-counts : {job : Job} {h : Html} (scan : Scan) (t : List ℕ) → job ≡ EncodeHtml h → Seen job scan t → Counts (Some h) scan t
html-counts scan t e seen = subst (λ (job : Job). Counts (counted_for job) scan t) e seen.1

-- Through an ASCII text the moves of ascii_quoted are those of `quoted`.
pub ascii-moves : (t : List ℕ) (high : ℕ) → Low high t → high ≡ 0 → through (encode_step InAscii) t ≡ through (encode_step (InHtml Quoted)) t
ascii-moves t high low e = low-quoted t (low e)

-- So is what `by_ones` answers of script_raw.
pub raw-found : {found : Measured} {n : ℕ} (t : List ℕ) → n ≡ size (raw_of t) → found ≡ whole n (size t) (n - size t) → Measures found (through raw_step t)
raw-found t e a = whole-found t (raw-whole t) e (omega (arith, e, raw-replaced t)) (no-lefts raw_step raw-leaveless 0 0 0 t) a

-- It has room for the text.
pub raw-longer : (t : List ℕ) (n : ℕ) → n ≡ size (raw_of t) → size t ≤ n
raw-longer t n e = omega (arith, e, raw-replaced t)

-- ---- what the tests on the way tell

-- What is valid to its end is valid.
pub all_valid : (t : List ℕ) (v : ℕ) → v ≡ valid_to t → size t ≤ v → valid_to t ≡ size t
all_valid t v e h = omega (arith, valid-within t, e, h)

-- A text that is measured to its end.
module _ (job : Job) (t : List ℕ) (found : Measured) (m : Measures found (through (rule_by job) t)) (far : size t ≤ found.place) where
  pub found-whole : taken (through (rule_by job) t) ≡ t
  found-whole = job-whole job t (omega (arith, far, m.reach))

  pub found-same : found.replaced ≡ 0 → replaced (through (rule_by job) t) ≡ 0
  found-same e = sym m.many ∙ e

  -- Where something is replaced, a borrowing call copies too.
  pub found-copies : (borrows : Bool) → (found.replaced ≡ 0 → ⊥) → borrows && eqb (replaced (through (rule_by job) t)) 0 ≡ false
  found-copies true n = ne_eqb (replaced (through (rule_by job) t)) 0 (λ z. n (m.many ∙ z))
  found-copies false n = refl

-- A test that fails does not hold.
pub untrue : {A : Type 0} → false ≡ true → A
untrue e = let never : ◌≡◌ {A = ℕ} 0 1 = cc in absurd (omega arith)
