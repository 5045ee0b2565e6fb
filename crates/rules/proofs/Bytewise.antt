-- Where every key of a context is one byte the encoder goes byte by byte: what it writes for a text is what it writes for each byte alone, one
-- after the other. The seven HTML contexts and the style strings are such; a script string is not.
-- Assumes nothing.
use mathlib.Core.Bool.{Bool, true, false, ◌&&◌}
use mathlib.Core.Option.{Option, none, some}
use mathlib.Core.Path.{◌≡◌, refl, sym, ap, ◌∙◌}
use mathlib.Core.List.{List, [], ◌∷◌, ◌++◌}
use Prim.Native.Nat.{ℕ, ◌+◌}
use native.Mathlib.Omega.{arith}
use lib.Dec.{T, eqb}
use lib.ListN.{length}
use Rattle.rules.specs.Bytes.{all, stands}
use Rattle.rules.specs.Moves.{Move, keep, takes, moves, through, result, replaced}
use Rattle.rules.specs.Tables.{Row, row_at, key, table}
use Rattle.rules.specs.Utf8.{char_at}
use Rattle.rules.specs.Ascii.{by_rule}
use Rattle.rules.specs.Encoding.{write, encode_by, encode_step}
use Rattle.rules.specs.Operations.{encode_of}
use Rattle.rules.specs.declared.Context.{Context}
use Rattle.rules.proofs.Tests.{all_in, first-sound}
use Rattle.rules.proofs.Loops.{from_next}
use Rattle.rules.proofs.Blind.{result-append, replaced-append}

-- One byte.
abbrev one : List ℕ → Bool
one [] = false
one (x ∷ []) = true
one (x ∷ y ∷ xs) = false

-- The row's key is one byte.
abbrev pub of_byte : Row → Bool
of_byte row = one (key row)

-- Which row is written for a byte does not depend on what follows.
row-alone : (rows : List Row) → T (all of_byte rows) → (b : ℕ) (t : List ℕ) → row_at key rows (b ∷ t) ≡ row_at key rows (b ∷ [])
row-alone [] h b t = refl
row-alone (([], v) ∷ rows) h b t = absurd h
row-alone ((x ∷ [], v) ∷ rows) h b t = ap (λ (o : Option Row). elim (eqb x b && true) [ true ↦ some (x ∷ [], v) | false ↦ o ]) (row-alone rows h b t)
row-alone ((x ∷ y ∷ k, v) ∷ rows) h b t = absurd h

one-long : (k : List ℕ) → T (one k) → length k ≡ 1
one-long [] h = absurd h
one-long (x ∷ []) h = refl
one-long (x ∷ y ∷ k) h = absurd h

-- No rule stands beside the table.
abbrev pub Ruleless : Context → Type 0
Ruleless c = (a : List ℕ) → by_rule c a ≡ none

-- So the table alone counts.
pub by-table : (c : Context) → Ruleless c → (p : ℕ) (s : List ℕ) → encode_step c p s ≡ encode_by (table c) p s
unfolding encode_step
by-table c ruleless p s =
    ap (λ (o : Option (List ℕ)). write (elim o [ none ↦ none | some v ↦ some (char_at s, v) ]) (encode_by (table c) p s)) (ruleless (char_at s))

module _ (c : Context) (ruleless : Ruleless c) (bytewise : T (all of_byte (table c))) where
  -- The move at a byte.
  step-alone : (b : ℕ) (t : List ℕ) → encode_step c 0 (b ∷ t) ≡ encode_step c 0 (b ∷ [])
  step-alone b t = by-table c ruleless 0 (b ∷ t) ∙ ap (λ (o : Option Row). write o (keep (b ∷ []))) (row-alone (table c) bytewise b t) ∙ sym (by-table c ruleless 0 (b ∷ []))

  -- It takes the byte.
  step-takes : (b : ℕ) → length (takes (encode_step c 0 (b ∷ []))) ≡ 1
  step-takes b = ap (λ (m : Move). length (takes m)) (by-table c ruleless 0 (b ∷ [])) ∙ go (row_at key (table c) (b ∷ [])) refl
    where
      go : (o : Option Row) → row_at key (table c) (b ∷ []) ≡ o → length (takes (write o (keep (b ∷ [])))) ≡ 1
      go none e = refl
      go (some row) e =
          let (i, s) = first-sound (λ (row : Row). stands (key row)) (table c) (b ∷ []) row e in
          one-long (key row) (all_in of_byte (table c) bytewise row i)

  -- The byte before does not count.
  no-before : (p : ℕ) (t : List ℕ) → moves (encode_step c) p 0 t ≡ moves (encode_step c) 0 0 t
  unfolding encode_step
  no-before p [] = refl
  no-before p (x ∷ t) = refl

  -- One byte, and then the rest.
  cons-moves : (b : ℕ) (t : List ℕ) → through (encode_step c) (b ∷ t) ≡ encode_step c 0 (b ∷ []) ∷ through (encode_step c) t
  cons-moves b t =
      let m = encode_step c 0 (b ∷ []) in
      from_next (encode_step c) (b ∷ t) 0 0 m (omega arith) (step-alone b t) (step-takes b) ∙ ap (λ (ms : List Move). m ∷ ms) (no-before b t)

  -- Two texts, one after the other.
  append-moves : (s t : List ℕ) → through (encode_step c) (s ++ t) ≡ through (encode_step c) s ++ through (encode_step c) t
  append-moves [] t = refl
  append-moves (b ∷ s) t =
      cons-moves b (s ++ t)
      ∙ ap (λ (ms : List Move). encode_step c 0 (b ∷ []) ∷ ms) (append-moves s t)
      ∙ ap (λ (ms : List Move). ms ++ through (encode_step c) t) (sym (cons-moves b s))

  -- What is written for them.
  pub encode-append : (s t : List ℕ) → encode_of c (s ++ t) ≡ encode_of c s ++ encode_of c t
  encode-append s t = ap result (append-moves s t) ∙ result-append (through (encode_step c) s) (through (encode_step c) t)

  -- And how many of their places are replaced.
  pub replaced-both : (s t : List ℕ) → replaced (through (encode_step c) (s ++ t)) ≡ replaced (through (encode_step c) s) + replaced (through (encode_step c) t)
  replaced-both s t = ap replaced (append-moves s t) ∙ replaced-append (through (encode_step c) s) (through (encode_step c) t)
