-- Every operation keeps a plain byte, in each context that it has: no character that the context replaces begins with the byte, and nothing that
-- it writes does; it is ASCII, and neither `&` nor `<` nor `\`. All this is computed for every context and every ASCII byte.
-- Assumes nothing.
use mathlib.Core.Bool.{Bool, true, false, not, ◌&&◌, ◌||◌, cond}
use mathlib.Core.Logic.{◌⊎◌, inl, inr}
use mathlib.Core.Option.{Option, some, some-injective, none-ne-some}
use mathlib.Core.Path.{◌≡◌, refl, sym, ap, ◌∙◌, subst}
use mathlib.Core.List.{List, [], ◌∷◌}
use Prim.Native.Nat.{ℕ, ◌≤◌, ◌<◌}
use native.Mathlib.Omega.{arith}
use lib.Dec.{T, eqb, eqb→eq, leb, leb→le, lt→ltb, T_not}
use Rattle.rules.specs.Bytes.{ascii, all, any, count, stands, Range, inside, one_of}
use Rattle.rules.specs.Moves.{keep, swap, Rule}
use Rattle.rules.specs.Utf8.{sequence_at, keep_char, IsChar}
use Rattle.rules.specs.Tables.{Row, key, value, rows, table, replaced_chars}
use Rattle.rules.specs.Encoding.{write, parted, encode_step, raw_step}
use Rattle.rules.specs.Reading.{undo, unless, read_step}
use Rattle.rules.specs.Browsing.{kind_of, browse_step}
use Rattle.rules.specs.Json.{escaped_only}
use Rattle.rules.specs.Operations.{decode_step, rule_of}
use Rattle.rules.specs.declared.Kind.{Kind}
use Rattle.rules.specs.declared.Kind.TheVariants.{InAttribute}
use Rattle.rules.specs.declared.Quotes.TheVariants.{Single}
use Rattle.rules.specs.declared.Context.{Context}
use Rattle.rules.specs.declared.Context.TheVariants.{InHtml, InScript, InStyle, InJson, InAscii}
use Rattle.rules.specs.declared.AnyContext.{AnyContext}
use Rattle.rules.specs.declared.AnyContext.TheVariants.{Units, ScriptRaw, Unknown}
use Rattle.rules.specs.declared.Operation.{Operation}
use Rattle.rules.specs.declared.Operation.TheVariants.{Encode, Decode, Read, Browse}
use Rattle.rules.proofs.Tests.{and_left, and_right, and_both, or_cases, or-false, is_false, all_in, any-in, first-none, map-in}
use Rattle.rules.proofs.Chars.{sequence-of-char}
use Rattle.rules.proofs.Every.{every}
use Rattle.rules.proofs.Below.{below}
use Rattle.rules.proofs.Decoder.{at_other}
use Rattle.rules.proofs.Browsing.{browse-quiet}
use Rattle.rules.proofs.AsciiWritten.{encode-low, read_low}
use Rattle.plain.specs.Plain.{unquoted_in, unquoted_at, plain}

-- ---- what is computed

-- The list begins with another byte than b.
abbrev off_head : ℕ → List ℕ → Bool
off_head b [] = false
off_head b (x ∷ v) = not (eqb x b)

-- A byte that is not plain, or one at which nothing begins that the context replaces or writes, and that is ASCII and no mark.
abbrev quiet : Context → ℕ → Bool
unfolding plain
quiet c b =
    not (plain (unquoted_in c) b)
    || (all (off_head b) (replaced_chars c) && (all (λ (e : Row). off_head b (value e)) (rows c) && (inside (0x00, 0x7F) b && not (one_of (38 ∷ 60 ∷ 92 ∷ []) b))))

quiet_all : (c : Context) → T (all (quiet c) (count 0 128))
unfolding plain
quiet_all = every (λ (c : Context). all (quiet c) (count 0 128)) tt

-- ---- a plain byte

upper-end : (lo hi b : ℕ) → T (inside (lo, hi) b) → b ≤ hi
upper-end lo hi b t = leb→le b hi (and_right (leb lo b) (leb b hi) t)

-- It is ASCII.
pub plain-low : (unquoted : Bool) (b : ℕ) → T (plain unquoted b) → b < 128
unfolding plain
plain-low true b t = go (or_cases (inside (48, 57) b || inside (65, 90) b) (inside (97, 122) b) t)
  where
    go : T (inside (48, 57) b || inside (65, 90) b) ⊎ T (inside (97, 122) b) → b < 128
    go (inl h) = early (or_cases (inside (48, 57) b) (inside (65, 90) b) h)
      where
        early : T (inside (48, 57) b) ⊎ T (inside (65, 90) b) → b < 128
        early (inl i) = omega (arith, upper-end 48 57 b i)
        early (inr i) = omega (arith, upper-end 65 90 b i)
    go (inr h) = omega (arith, upper-end 97 122 b h)
plain-low false b t = omega (arith, upper-end 32 127 b (and_left (inside (32, 127) b) (not (one_of (ascii "\"&'/<>\\") b)) t))

-- A list that begins with another byte does not stand here.
off-stands : (b : ℕ) (v s : List ℕ) → T (off_head b v) → T (stands v (b ∷ s)) → ⊥
off-stands b [] s t h = t
off-stands b (x ∷ v) s t h = T_not (eqb x b) t (and_left (eqb x b) (stands v s) h)

module _ (c : Context) (b : ℕ) (t : T (plain (unquoted_in c) b)) where
  abbrev no_key : Bool
  no_key = all (off_head b) (replaced_chars c)

  abbrev no_value : Bool
  no_value = all (λ (e : Row). off_head b (value e)) (rows c)

  abbrev low : Bool
  low = inside (0x00, 0x7F) b

  abbrev no_mark : Bool
  no_mark = not (one_of (38 ∷ 60 ∷ 92 ∷ []) b)

  found : T (no_key && (no_value && (low && no_mark)))
  unfolding plain
  found = go (or_cases (not (plain (unquoted_in c) b)) (no_key && (no_value && (low && no_mark))) (below (quiet c) 128 (quiet_all c) b (plain-low (unquoted_in c) b t)))
    where
      go : T (not (plain (unquoted_in c) b)) ⊎ T (no_key && (no_value && (low && no_mark))) → T (no_key && (no_value && (low && no_mark)))
      go (inl h) = absurd (T_not (plain (unquoted_in c) b) h t)
      go (inr h) = h

  no_key_lem : T no_key
  no_key_lem = and_left no_key (no_value && (low && no_mark)) found

  no_value_lem : T no_value
  no_value_lem = and_left no_value (low && no_mark) (and_right no_key (no_value && (low && no_mark)) found)

  is-low : T low
  is-low = and_left low no_mark (and_right no_value (low && no_mark) (and_right no_key (no_value && (low && no_mark)) found))

  no-mark : T (one_of (38 ∷ 60 ∷ 92 ∷ []) b) → ⊥
  no-mark = T_not (one_of (38 ∷ 60 ∷ 92 ∷ []) b) (and_right low no_mark (and_right no_value (low && no_mark) (and_right no_key (no_value && (low && no_mark)) found)))

  -- It is no byte of which decode makes anything.
  other : (m : ℕ) → T (one_of (38 ∷ 60 ∷ 92 ∷ []) m) → T (eqb b m) → ⊥
  other m i h = no-mark (subst (λ (x : ℕ). T (one_of (38 ∷ 60 ∷ 92 ∷ []) x)) (sym (eqb→eq b m h)) i)

  -- encode keeps it.
  encode-kept : (p : ℕ) (s : List ℕ) → encode_step c p (b ∷ s) ≡ keep (b ∷ [])
  encode-kept p s =
      encode-low c p b s (lt→ltb b 128 (plain-low (unquoted_in c) b t))
      ∙ ap (λ (o : Option Row). write o (keep (b ∷ [])))
      (first-none (λ (row : Row). stands (key row)) (table c) (b ∷ s)
      (λ e i. off-stands b (key e) s (all_in (off_head b) (replaced_chars c) no_key_lem (key e) (map-in key e (table c) i))))

  -- read keeps it.
  read_kept : (p : ℕ) (s : List ℕ) → read_step c p (b ∷ s) ≡ keep (b ∷ [])
  read_kept p s =
      read_low c p b s (lt→ltb b 128 (plain-low (unquoted_in c) b t)) (other 38 tt)
      ∙ ap (λ (o : Option Row). undo o (unless (any (λ (k : List ℕ). stands k (b ∷ s)) (replaced_chars c)) (keep_char (sequence_at (b ∷ s)) (b ∷ s))))
      (first-none (λ (row : Row). stands (value row)) (rows c) (b ∷ s)
      (λ e i. off-stands b (value e) s (all_in (λ (e : Row). off_head b (value e)) (rows c) no_value_lem e i)))
      ∙ ap (λ (x : Bool). unless x (keep_char (sequence_at (b ∷ s)) (b ∷ s))) (is_false (any (λ (k : List ℕ). stands k (b ∷ s)) (replaced_chars c)) unbarred)
      ∙ ap (λ (o : Option (List Range)). keep_char o (b ∷ s)) (sequence-of-char (b ∷ []) s one)
    where
      unbarred : T (any (λ (k : List ℕ). stands k (b ∷ s)) (replaced_chars c)) → ⊥
      unbarred h = let (k, i, u) = any-in (λ (k : List ℕ). stands k (b ∷ s)) (replaced_chars c) h in off-stands b k s (all_in (off_head b) (replaced_chars c) no_key_lem k i) u

      one : IsChar (b ∷ [])
      one = ((0x00, 0x7F) ∷ [], inl refl, and_both (inside (0x00, 0x7F) b) true is-low tt, refl)

-- Nor may any of them not stand by itself in a JSON string.
json-plain : (b : ℕ) → T (plain false b) → T (one_of escaped_only b) → ⊥
unfolding plain
json-plain b t u =
    let (e, i, same) = any-in (eqb b) escaped_only u in
    T_not (plain false e) (all_in (λ (e : ℕ). not (plain false e)) escaped_only tt e i) (subst (λ (x : ℕ). T (plain false x)) (eqb→eq b e same) t)

-- decode keeps it.
decode-kept : (c : Context) (b : ℕ) → T (plain (unquoted_in c) b) → (p : ℕ) (s : List ℕ) → decode_step c p (b ∷ s) ≡ keep (b ∷ [])
decode-kept (InHtml h) b t p s = at_other (InHtml h) p b s (λ u. other (InHtml h) b t 38 tt (or-false (eqb b 38) u))
decode-kept (InScript q) b t p s = at_other (InScript q) p b s (λ u. other (InScript q) b t 92 tt (or-false (eqb b 92) u))
decode-kept (InStyle q) b t p s = at_other (InStyle q) p b s (λ u. other (InStyle q) b t 92 tt (or-false (eqb b 92) u))
decode-kept InJson b t p s = at_other InJson p b s (json-plain b t)
decode-kept InAscii b t p s = at_other InAscii p b s (λ u. other InAscii b t 38 tt (or-false (eqb b 38) u))

browse-kept : (kind : Kind) (c : Context) (b : ℕ) → T (plain (unquoted_in c) b) → (p : ℕ) (s : List ℕ) → browse_step kind p (b ∷ s) ≡ keep (b ∷ [])
browse-kept kind c b t p s = browse-quiet kind p b s (other c b t 38 tt)

-- script_raw has the plain bytes of a script string.
raw-kept : (b : ℕ) → T (plain false b) → (p : ℕ) (s : List ℕ) → raw_step p (b ∷ s) ≡ keep (b ∷ [])
unfolding raw_step
raw-kept b t p s = ap (λ (x : Bool). cond (x && parted s) (swap (b ∷ []) (b ∷ ascii "\\")) (keep (b ∷ []))) (is_false (eqb b 60) (other (InScript Single) b t 60 tt))

-- Every operation keeps it, in each context that it has.
module _ (rule : Rule) (b p : ℕ) (s : List ℕ) where
  kept_by : (r : Rule) → some r ≡ some rule → r p (b ∷ s) ≡ keep (b ∷ []) → rule p (b ∷ s) ≡ keep (b ∷ [])
  kept_by r e k = subst (λ (r : Rule). r p (b ∷ s) ≡ keep (b ∷ [])) (some-injective r rule e) k

  pub plain-kept : (op : Operation) (n : AnyContext) → rule_of op n ≡ some rule → T (plain (unquoted_at n) b) → rule p (b ∷ s) ≡ keep (b ∷ [])
  plain-kept Encode (Units c) e t = kept_by (encode_step c) e (encode-kept c b t p s)
  plain-kept Decode (Units c) e t = kept_by (decode_step c) e (decode-kept c b t p s)
  plain-kept Read (Units c) e t = kept_by (read_step c) e (read_kept c b t p s)
  plain-kept Browse (Units (InHtml h)) e t = kept_by (browse_step (kind_of h)) e (browse-kept (kind_of h) (InHtml h) b t p s)
  plain-kept Browse (Units (InScript q)) e t = absurd (none-ne-some rule e)
  plain-kept Browse (Units (InStyle q)) e t = absurd (none-ne-some rule e)
  plain-kept Browse (Units InJson) e t = absurd (none-ne-some rule e)
  plain-kept Browse (Units InAscii) e t = kept_by (browse_step InAttribute) e (browse-kept InAttribute InAscii b t p s)
  plain-kept Encode ScriptRaw e t = kept_by raw_step e (raw-kept b t p s)
  plain-kept Decode ScriptRaw e t = absurd (none-ne-some rule e)
  plain-kept Read ScriptRaw e t = absurd (none-ne-some rule e)
  plain-kept Browse ScriptRaw e t = absurd (none-ne-some rule e)
  plain-kept Encode Unknown e t = absurd (none-ne-some rule e)
  plain-kept Decode Unknown e t = absurd (none-ne-some rule e)
  plain-kept Read Unknown e t = absurd (none-ne-some rule e)
  plain-kept Browse Unknown e t = absurd (none-ne-some rule e)
