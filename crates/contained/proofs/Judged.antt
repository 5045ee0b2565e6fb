-- The computed tests of a context and a place: each row of the context's table and each ASCII byte is judged by itself.
-- Assumes nothing.
use mathlib.Core.Bool.{Bool, not, ◌&&◌, ◌||◌}
use mathlib.Core.Logic.{◌⊎◌, inl, inr}
use mathlib.Core.Option.{some}
use mathlib.Core.Path.{◌≡◌}
use mathlib.Core.List.{List, [], ◌∷◌, map}
use Prim.Native.Nat.{ℕ, ◌<◌}
use lib.Dec.{T}
use Rattle.rules.specs.Bytes.{In, all, any, bytes, same_bytes}
use Rattle.rules.specs.Moves.{through, taken, result}
use Rattle.rules.specs.Tables.{Row, key, value, table, replaced_chars}
use Rattle.rules.specs.Units.{unread}
use Rattle.rules.specs.Utf8.{utf8}
use Rattle.rules.specs.Ascii.{by_rule}
use Rattle.rules.specs.References.{renumbered}
use Rattle.rules.specs.declared.Context.{Context}
use Rattle.rules.proofs.Tests.{and_left, and_right, or_cases, all_in, same_in}
use Rattle.rules.proofs.Below.{below}
use Rattle.places.specs.Places.{Place, place_step}
use Rattle.contained.proofs.Steps.{steady}
use Rattle.contained.proofs.Heads.{mild, quiet, heads_apart}
use Rattle.contained.proofs.Written.{known}
use Rattle.contained.proofs.Ruled.{where_ruled, where-ruled, mark_bytes, rule-bytes, reads}

-- The context replaces the byte.
abbrev pub replaced_byte : Context → ℕ → Bool
replaced_byte c b = any (same_bytes (b ∷ [])) (replaced_chars c)

-- Each ASCII byte that the context copies passes.
abbrev pub plain_bytes : Context → (ℕ → Bool) → Bool
plain_bytes c f = all (λ (b : ℕ). replaced_byte c b || f b) (bytes 0 127)

-- The character is one of the list.
abbrev pub among : List (List ℕ) → List ℕ → Bool
among bad a = any (same_bytes a) bad

-- ---- the form stays

-- What a row writes is taken, whatever follows.
abbrev pub row_stays : Place → Row → Bool
row_stays p e = known p.references e || (steady p 0 (value e) && same_bytes (taken (through (place_step p) (value e))) (value e))

-- So is what is written by rule.
abbrev rule_stays : Context → Place → Bool
rule_stays c p = where_ruled c (reads p || mark_bytes (mild p))

-- The forms of the context stay in the place.
abbrev pub stays_in : Context → Place → Bool
stays_in c p = heads_apart c p && (plain_bytes c (mild p) && (all (row_stays p) (table c) && rule_stays c p))

-- ---- the text is held

-- What a row writes is held as its key.
abbrev pub row_holds : Place → Row → Bool
row_holds p e = (known p.references e && not (same_bytes (key e) (0 ∷ []))) || same_bytes (result (through (place_step p) (value e))) (key e)

abbrev pub row_holds_but : List (List ℕ) → Place → Row → Bool
row_holds_but bad p e = among bad (key e) || row_holds p e

abbrev pub byte_held_but : List (List ℕ) → Place → ℕ → Bool
byte_held_but bad p b = among bad (b ∷ []) || quiet p b

-- What is written by rule is read, but for the 27 characters whose numbers stand for others.
abbrev rule_holds : List (List ℕ) → Context → Place → Bool
rule_holds bad c p = where_ruled c (reads p && all (among bad) (map utf8 renumbered))

-- The place holds the text, if it is free of the bad characters.
abbrev pub holds_but : List (List ℕ) → Context → Place → Bool
holds_but bad c p = all (among bad) (unread c) && (plain_bytes c (byte_held_but bad p) && (all (row_holds_but bad p) (table c) && rule_holds bad c p))

-- ---- the form is held as it is written

abbrev pub row_copied : Place → Row → Bool
row_copied p e = not (known p.references e) && same_bytes (result (through (place_step p) (value e))) (value e)

abbrev rule_copied : Context → Place → Bool
rule_copied c p = where_ruled c (mark_bytes (quiet p))

-- The place keeps each byte of the forms.
abbrev pub copies_in : Context → Place → Bool
copies_in c p = plain_bytes c (quiet p) && (all (row_copied p) (table c) && rule_copied c p)

-- ---- what they say of one byte, one row and the rule

-- A byte that the context copies passes a test of all of them.
pub plain_byte : (c : Context) (f : ℕ → Bool) → T (plain_bytes c f) → (x : ℕ) → x < 128 → (In (x ∷ []) (replaced_chars c) → ⊥) → T (f x)
plain_byte c f t x l n = go (or_cases (replaced_byte c x) (f x) (below (λ (b : ℕ). replaced_byte c b || f b) 128 t x l))
  where
    go : T (replaced_byte c x) ⊎ T (f x) → T (f x)
    go (inl i) = absurd (n (same_in (x ∷ []) (replaced_chars c) i))
    go (inr j) = j

-- Either the character is bad, or it passes.
pub not-among : (bad : List (List ℕ)) (a : List ℕ) (b : Bool) → T (among bad a || b) → (In a bad → ⊥) → T b
not-among bad a b t f = go (or_cases (among bad a) b t)
  where
    go : T (among bad a) ⊎ T b → T b
    go (inl i) = absurd (f (same_in a bad i))
    go (inr j) = j

module _ (c : Context) (p : Place) (ok : T (stays_in c p)) where
  abbrev plain_stay : Bool
  plain_stay = plain_bytes c (mild p)

  abbrev rows_stay : Bool
  rows_stay = all (row_stays p) (table c)

  pub stays-high : T (heads_apart c p)
  stays-high = and_left (heads_apart c p) (plain_stay && (rows_stay && rule_stays c p)) ok

  stays-rest : T (plain_stay && (rows_stay && rule_stays c p))
  stays-rest = and_right (heads_apart c p) (plain_stay && (rows_stay && rule_stays c p)) ok

  stays-written : T (rows_stay && rule_stays c p)
  stays-written = and_right plain_stay (rows_stay && rule_stays c p) stays-rest

  pub stays-byte : (x : ℕ) → x < 128 → (In (x ∷ []) (replaced_chars c) → ⊥) → T (mild p x)
  stays-byte = plain_byte c (mild p) (and_left plain_stay (rows_stay && rule_stays c p) stays-rest)

  pub stays-row : (e : Row) → In e (table c) → T (row_stays p e)
  stays-row = all_in (row_stays p) (table c) (and_left rows_stay (rule_stays c p) stays-written)

  pub stays-rule : (k v : List ℕ) → by_rule c k ≡ some v → T (reads p) ⊎ T (all (mild p) v)
  stays-rule k v e = go (or_cases (reads p) (mark_bytes (mild p)) (where-ruled c (reads p || mark_bytes (mild p)) (and_right rows_stay (rule_stays c p) stays-written) k v e))
    where
      go : T (reads p) ⊎ T (mark_bytes (mild p)) → T (reads p) ⊎ T (all (mild p) v)
      go (inl r) = inl r
      go (inr m) = inr (rule-bytes c (mild p) m k v e)

module _ (bad : List (List ℕ)) (c : Context) (p : Place) (ok : T (holds_but bad c p)) where
  abbrev plain : Bool
  plain = plain_bytes c (byte_held_but bad p)

  abbrev keyed : Bool
  keyed = all (row_holds_but bad p) (table c)

  holds-rest : T (plain && (keyed && rule_holds bad c p))
  holds-rest = and_right (all (among bad) (unread c)) (plain && (keyed && rule_holds bad c p)) ok

  holds-written : T (keyed && rule_holds bad c p)
  holds-written = and_right plain (keyed && rule_holds bad c p) holds-rest

  pub holds-unread : (a : List ℕ) → In a (unread c) → In a bad
  holds-unread a i = same_in a bad (all_in (among bad) (unread c) (and_left (all (among bad) (unread c)) (plain && (keyed && rule_holds bad c p)) ok) a i)

  pub holds-byte : (x : ℕ) → x < 128 → (In (x ∷ []) (replaced_chars c) → ⊥) → (In (x ∷ []) bad → ⊥) → T (quiet p x)
  holds-byte x l n f = not-among bad (x ∷ []) (quiet p x) (plain_byte c (byte_held_but bad p) (and_left plain (keyed && rule_holds bad c p) holds-rest) x l n) f

  pub holds_row : (e : Row) → In e (table c) → (In (key e) bad → ⊥) → T (row_holds p e)
  holds_row e i f = not-among bad (key e) (row_holds p e) (all_in (row_holds_but bad p) (table c) (and_left keyed (rule_holds bad c p) holds-written) e i) f

  pub holds-rule : (k v : List ℕ) → by_rule c k ≡ some v → T (reads p) × ((a : List ℕ) → In a (map utf8 renumbered) → In a bad)
  holds-rule k v e =
      let moved = all (among bad) (map utf8 renumbered) in
      let t = where-ruled c (reads p && moved) (and_right keyed (rule_holds bad c p) holds-written) k v e in
      (and_left (reads p) moved t, λ a i. same_in a bad (all_in (among bad) (map utf8 renumbered) (and_right (reads p) moved t) a i))

module _ (c : Context) (p : Place) (ok : T (copies_in c p)) where
  abbrev rows_copied : Bool
  rows_copied = all (row_copied p) (table c)

  copies-written : T (rows_copied && rule_copied c p)
  copies-written = and_right (plain_bytes c (quiet p)) (rows_copied && rule_copied c p) ok

  pub copies-byte : (x : ℕ) → x < 128 → (In (x ∷ []) (replaced_chars c) → ⊥) → T (quiet p x)
  copies-byte = plain_byte c (quiet p) (and_left (plain_bytes c (quiet p)) (rows_copied && rule_copied c p) ok)

  pub copies-row : (e : Row) → In e (table c) → T (row_copied p e)
  copies-row = all_in (row_copied p) (table c) (and_left rows_copied (rule_copied c p) copies-written)

  pub copies-rule : (k v : List ℕ) → by_rule c k ≡ some v → T (all (quiet p) v)
  copies-rule k v e = rule-bytes c (quiet p) (where-ruled c (mark_bytes (quiet p)) (and_right rows_copied (rule_copied c p) copies-written) k v e) k v e
