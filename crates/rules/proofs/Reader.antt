-- The strict reader of a context reads its units: those of its rule first, and where there is none of them those of its table.
-- Assumes nothing.
use mathlib.Core.Bool.{Bool, true, false, cond}
use mathlib.Core.Logic.{inl, inr}
use mathlib.Core.Option.{Option, none, some, none-ne-some}
use mathlib.Core.Path.{◌≡◌, refl, sym, ap, ◌∙◌, subst}
use mathlib.Core.List.{List, [], ◌∷◌, ◌++◌}
use Prim.Native.Nat.{ℕ, pred}
use lib.Dec.{T, eqb, ltb, eqb→eq, lt→ltb}
use lib.ListN.{length}
use Rattle.rules.specs.Bytes.{In, stands}
use Rattle.rules.specs.Moves.{Move, keep, swap, leave, stop, gives}
use Rattle.rules.specs.Utf8.{IsChar, char_at}
use Rattle.rules.specs.Tables.{Row, key, value, rows, replaced_chars}
use Rattle.rules.specs.Ascii.{by_rule}
use Rattle.rules.specs.Units.{IsUnit}
use Rattle.rules.specs.References.{body_of, reference_step}
use Rattle.rules.specs.Reading.{undo, unless, read_by, exactly, stands_in, rule_back, is_ruled, read_step}
use Rattle.rules.specs.declared.Context.{Context}
use Rattle.rules.specs.declared.Context.TheVariants.{InHtml, InScript, InStyle, InJson, InAscii}
use Rattle.rules.proofs.Tests.{is_false, all_in, same_in}
use Rattle.rules.proofs.Machine.{Makes, Fair}
use Rattle.rules.proofs.Codes.{Reads}
use Rattle.rules.proofs.Chars.{pred_of, sequence-pos}
use Rattle.rules.proofs.CharNumbers.{char-at}
use Rattle.rules.proofs.Tables.{IsEntry, bar-stops, read-finds, read-fair}
use Rattle.rules.proofs.Every.{values-code}
use Rattle.rules.proofs.Ascii.{rule-back, back-rule, rule-long, rule-refers}
use Rattle.rules.proofs.Encoder.{key-ruleless}
use Rattle.rules.proofs.Decoder.{quoted-refers}

-- ---- where the rule has written nothing

no_char : IsChar [] → ⊥
no_char (q, i, t, e) = subst (λ (n : ℕ). T (ltb 0 n)) (sym e) (sequence-pos q i)

-- At a plain character: it is not the `&` with which a rule begins what it writes.
plain_back : (c : Context) (a r : List ℕ) → IsUnit c (rows c) (keep a) → rule_back c (a ++ r) ≡ none
plain_back (InHtml h) a r u = refl
plain_back (InScript q) a r u = refl
plain_back (InStyle q) a r u = refl
plain_back InJson a r u = refl
plain_back InAscii [] r u = absurd (no_char u.0)
plain_back InAscii (x ∷ a) r u =
    ap (λ (b : Bool). cond b (exactly InAscii (body_of (a ++ r)) (stands_in (body_of (a ++ r)))) none)
    (is_false (eqb x 38) (λ t. bar-stops value (rows InAscii) (replaced_chars InAscii) (values-code InAscii) (x ∷ a) r (u.0, u.1) (38 ∷ []) (same_in (38 ∷ []) (replaced_chars InAscii) tt)
    (subst (λ (y : ℕ). T (stands (38 ∷ []) (y ∷ (a ++ r)))) (sym (eqb→eq x 38 t)) tt)))

-- At the value of a row: it is a reference to an ASCII character.
row_back : (c : Context) (k v : List ℕ) → In (k, v) (rows c) → (r : List ℕ) → rule_back c (v ++ r) ≡ none
row_back (InHtml h) k v i r = refl
row_back (InScript q) k v i r = refl
row_back (InStyle q) k v i r = refl
row_back InJson k v i r = refl
row_back InAscii k v i r = go (rule_back InAscii (v ++ r)) refl
  where
    go : (o : Option Row) → rule_back InAscii (v ++ r) ≡ o → o ≡ none
    go none e = refl
    go (some row) e =
        let (w, r', q) = back-rule (v ++ r) row e in
        let same : swap v k ≡ swap (value row) (key row) = sym (quoted-refers (k, v) i r 0) ∙ ap (reference_step 0) q ∙ rule-refers (key row) (value row) w 0 r' in
        absurd (none-ne-some (value row) (sym (key-ruleless InAscii (k, v) i) ∙ ap (by_rule InAscii) (ap gives same) ∙ w))

abbrev begins : Row → Bool
begins e = elim (value e) [ [] ↦ false | x ∷ v ↦ eqb x 38 ]

row-ruled : (c : Context) (k v : List ℕ) → In (k, v) (rows c) → (r : List ℕ) → is_ruled c (v ++ r) ≡ false
row-ruled (InHtml h) k v i r = refl
row-ruled (InScript q) k v i r = refl
row-ruled (InStyle q) k v i r = refl
row-ruled InJson k v i r = refl
row-ruled InAscii k v i r = go v (all_in begins (rows InAscii) tt (k, v) i)
  where
    go : (v : List ℕ) → T (begins (k, v)) → is_ruled InAscii (v ++ r) ≡ false
    go [] t = absurd t
    go (x ∷ v) t = subst (λ (y : ℕ). is_ruled InAscii (y ∷ (v ++ r)) ≡ false) (sym (eqb→eq x 38 t)) refl

-- ---- what it has written

rule_found : (c : Context) (k v : List ℕ) → by_rule c k ≡ some v → (r : List ℕ) → rule_back c (v ++ r) ≡ some (k, v)
rule_found InAscii k v e r = rule-back k v e r
rule_found (InHtml h) k v e r = absurd (none-ne-some v e)
rule_found (InScript q) k v e r = absurd (none-ne-some v e)
rule_found (InStyle q) k v e r = absurd (none-ne-some v e)
rule_found InJson k v e r = absurd (none-ne-some v e)

found-rule : (c : Context) (s : List ℕ) (row : Row) → rule_back c s ≡ some row → (by_rule c (key row) ≡ some (value row)) × (r : List ℕ) × (s ≡ value row ++ r)
found-rule InAscii s row e = back-rule s row e
found-rule (InHtml h) s row e = absurd (none-ne-some row e)
found-rule (InScript q) s row e = absurd (none-ne-some row e)
found-rule (InStyle q) s row e = absurd (none-ne-some row e)
found-rule InJson s row e = absurd (none-ne-some row e)

-- ---- each context

module _ (c : Context) where
  -- Where the rule has written nothing and writes nothing for the character that stands there, the rows count.
  pub by_rows : (p : ℕ) (s : List ℕ) → rule_back c s ≡ none → is_ruled c s ≡ false → read_step c p s ≡ read_by (rows c) (replaced_chars c) p s
  unfolding read_step
  by_rows p s e f =
      ap (λ (o : Option Row). undo o (unless (is_ruled c s) (read_by (rows c) (replaced_chars c) p s))) e
      ∙ ap (λ (b : Bool). unless b (read_by (rows c) (replaced_chars c) p s)) f

  -- At a unit the reader makes that unit's move.
  finds : (u : Move) → IsUnit c (rows c) u → (r : List ℕ) → Makes (read_step c) u r
  unfolding read_step
  finds (keep a) u r =
      let (k, l, e) = read-finds (rows c) (replaced_chars c) (values-code c) (keep a) (u.0, u.1) r in
      (k, l, λ p. by_rows p (a ++ r) (plain_back c a r u) (ap (λ (o : Option (List ℕ)). elim o [ none ↦ false | some v ↦ true ]) (ap (by_rule c) (char-at a r u.0) ∙ u.2)) ∙ e p)
  finds (swap v k) (inl i) r =
      let (n, l, e) = read-finds (rows c) (replaced_chars c) (values-code c) (swap v k) i r in
      (n, l, λ p. by_rows p (v ++ r) (row_back c k v i r) (row-ruled c k v i r) ∙ e p)
  finds (swap v k) (inr w) r = (
    pred (length v),
    pred_of (length v) (lt→ltb 0 (length v) (rule-long c k v w)),
    λ p. ap (λ (o : Option Row). undo o (unless (is_ruled c (v ++ r)) (read_by (rows c) (replaced_chars c) p (v ++ r)))) (rule_found c k v w r),
  )
  finds (leave w a) u r = absurd u
  finds (stop w) u r = absurd u

  -- Every move that it makes is a unit that stands there, or a stop.
  fair : (p : ℕ) (s : List ℕ) → Fair (IsUnit c (rows c)) (read_step c p s) s
  unfolding read_step
  fair p s = go (rule_back c s) refl (by_rule c (char_at s)) refl
    where
      entry : by_rule c (char_at s) ≡ none → (m : Move) → Fair (IsEntry (rows c) (replaced_chars c)) m s → Fair (IsUnit c (rows c)) m s
      entry n (keep a) f =
          let (u, r, e, k, l) = f in
          ((u.0, u.1, ap (by_rule c) (sym (ap char_at e ∙ char-at a r u.0)) ∙ n), r, e, k, l)
      entry n (swap a b) f = let (u, r, e, k, l) = f in (inl u, r, e, k, l)
      entry n (leave w a) f = absurd f.0
      entry n (stop w) f = tt

      go : (o : Option Row) → rule_back c s ≡ o → (w : Option (List ℕ)) → by_rule c (char_at s) ≡ w
          → Fair (IsUnit c (rows c)) (undo o (unless (elim w [ none ↦ false | some v ↦ true ]) (read_by (rows c) (replaced_chars c) p s))) s
      go (some row) e w f =
          let (u, r, q) = found-rule c s row e in
          (inr u, r, q, pred (length (value row)), pred_of (length (value row)) (lt→ltb 0 (length (value row)) (rule-long c (key row) (value row) u)))
      go none e (some v) f = tt
      go none e none f = entry f (read_by (rows c) (replaced_chars c) p s) (read-fair (rows c) (replaced_chars c) (values-code c) p s)

  pub context-reads : Reads (IsUnit c (rows c)) (read_step c)
  context-reads = record { finds = finds; fair = fair }
