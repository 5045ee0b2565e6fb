-- Where a value begins: no form of a text that is not empty begins with a byte that the value cannot begin with.
-- Assumes nothing.
use mathlib.Core.Bool.{Bool, true, false, not, ◌&&◌}
use mathlib.Core.Logic.{◌⊎◌, inl, inr}
use mathlib.Core.Path.{◌≡◌, sym, ap, ◌∙◌, subst}
use mathlib.Core.List.{List, [], ◌∷◌, ◌++◌, append_assoc}
use Prim.Native.Nat.{ℕ, ◌<◌}
use native.Mathlib.Nat.{suc-ne-zero}
use lib.Dec.{T, leb, ltb}
use lib.ListN.{length}
use Rattle.rules.specs.Bytes.{In, All, all, one_of}
use Rattle.rules.specs.Moves.{Move, keep, swap, leave, stop, takes, taken, result}
use Rattle.rules.specs.Utf8.{IsChar, IsText}
use Rattle.rules.specs.Tables.{Row, value, table, replaced_chars}
use Rattle.rules.specs.Units.{IsUnit}
use Rattle.rules.specs.Operations.{encode_of}
use Rattle.rules.specs.declared.Context.{Context}
use Rattle.rules.proofs.Tests.{and_left, and_right, all_in}
use Rattle.rules.proofs.Chars.{sequence-pos}
use Rattle.rules.proofs.Encoder.{encode-run, table-run}
use Rattle.places.specs.Places.{Place, begins}
use Rattle.contained.proofs.Heads.{char-case, ascii_set, high-apart}
use Rattle.contained.proofs.Ruled.{where_ruled, where-ruled, rule-amp}
use Rattle.contained.proofs.Judged.{plain_bytes, plain_byte}

pub to-not : (b : Bool) → (T b → ⊥) → T (not b)
to-not true f = f tt
to-not false f = tt

-- The byte can begin the value.
abbrev pub can_begin : Place → ℕ → Bool
can_begin p b = not (one_of p.never b)

abbrev row_begins : Place → Row → Bool
row_begins p e = begins p.never (value e)

-- What is written by rule begins with `&`.
abbrev rule_begins : Context → Place → Bool
rule_begins c p = where_ruled c (can_begin p 38)

-- No form begins with a byte that the value cannot begin with.
abbrev pub begins_in : Context → Place → Bool
begins_in c p = ascii_set p.never && (plain_bytes c (can_begin p) && (all (row_begins p) (table c) && rule_begins c p))

begins-append : (never v r : List ℕ) → T (begins never v) → T (begins never (v ++ r))
begins-append [] v r t = tt
begins-append (n ∷ ns) [] r t = absurd t
begins-append (n ∷ ns) (b ∷ v) r t = t

begins-byte : (never : List ℕ) (b : ℕ) (s : List ℕ) → T (not (one_of never b)) → T (begins never (b ∷ s))
begins-byte [] b s t = tt
begins-byte (n ∷ ns) b s t = t

no_char : IsChar [] → ⊥
no_char h = subst (λ (n : ℕ). T (ltb 0 n)) (sym h.3) (sequence-pos h.0 h.1)

module _ (c : Context) (p : Place) (ok : T (begins_in c p)) where
  abbrev plain : Bool
  plain = plain_bytes c (can_begin p)

  abbrev rows_begin : Bool
  rows_begin = all (row_begins p) (table c)

  rest : T (plain && (rows_begin && rule_begins c p))
  rest = and_right (ascii_set p.never) (plain && (rows_begin && rule_begins c p)) ok

  written : T (rows_begin && rule_begins c p)
  written = and_right plain (rows_begin && rule_begins c p) rest

  -- An ASCII byte that is copied, or one above 7F.
  byte-begins : (x : ℕ) → ((x < 128) × (In (x ∷ []) (replaced_chars c) → ⊥)) ⊎ T (leb 0x80 x) → T (can_begin p x)
  byte-begins x (inl h) = plain_byte c (can_begin p) (and_left plain (rows_begin && rule_begins c p) rest) x h.0 h.1
  byte-begins x (inr h) = to-not (one_of p.never x) (high-apart p.never x (and_left (ascii_set p.never) (plain && (rows_begin && rule_begins c p)) ok) h)

  unit-begins : (u : Move) → IsUnit c (table c) u → (r : List ℕ) → T (begins p.never (takes u ++ r))
  unit-begins (keep []) u r = absurd (no_char u.0)
  unit-begins (keep (x ∷ a)) u r = begins-byte p.never x (a ++ r) (byte-begins x (go (char-case x a u.0)))
    where
      go : ((x < 128) × (a ≡ [])) ⊎ T (leb 0x80 x) → ((x < 128) × (In (x ∷ []) (replaced_chars c) → ⊥)) ⊎ T (leb 0x80 x)
      go (inl l) = inl (l.0, subst (λ (b : List ℕ). In (x ∷ b) (replaced_chars c) → ⊥) l.1 u.1)
      go (inr h) = inr h
  unit-begins (swap v k) (inl i) r = begins-append p.never v r (all_in (row_begins p) (table c) (and_left rows_begin (rule_begins c p) written) (k, v) i)
  unit-begins (swap v k) (inr e) r =
      let (s, w) = rule-amp c k v e in
      subst (λ (v : List ℕ). T (begins p.never (v ++ r))) (sym w)
      (begins-byte p.never 38 (s ++ r) (where-ruled c (can_begin p 38) (and_right rows_begin (rule_begins c p) written) k v e))
  unit-begins (leave x a) u r = absurd u
  unit-begins (stop w) u r = absurd u

  -- The value of a text that is not empty begins with its form.
  pub form-begins : (x : ℕ) (s : List ℕ) → IsText (x ∷ s) → (r : List ℕ) → T (begins p.never (encode_of c (x ∷ s) ++ r))
  form-begins x s t r =
      let (cs, h, e) = t in
      let (us, g, q) = table-run c cs h in
      go us g (e ∙ q) (ap (encode_of c) (e ∙ q) ∙ encode-run c us g)
    where
      go : (us : List Move) → All (IsUnit c (table c)) us → x ∷ s ≡ result us → encode_of c (x ∷ s) ≡ taken us → T (begins p.never (encode_of c (x ∷ s) ++ r))
      go [] g e w = absurd (suc-ne-zero (length s) (ap length e))
      go (u ∷ us) g e w =
          subst (λ (l : List ℕ). T (begins p.never l)) (sym (ap (λ (l : List ℕ). l ++ r) w ∙ append_assoc (takes u) (taken us) r)) (unit-begins u g.0 (taken us ++ r))
