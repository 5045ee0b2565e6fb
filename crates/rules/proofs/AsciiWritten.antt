-- What ascii_quoted writes of a text is ASCII, since each of its units is; decode gives every text back; and of an ASCII text it writes what `quoted`
-- writes, move by move.
-- Assumes nothing.
use mathlib.Core.Bool.{Bool, true, false, ◌&&◌, ◌||◌, cond}
use mathlib.Core.Logic.{◌⊎◌, inl, inr}
use mathlib.Core.Option.{Option, none, some, none-ne-some}
use mathlib.Core.Path.{◌≡◌, refl, sym, ap, ◌∙◌, subst}
use mathlib.Core.List.{List, [], ◌∷◌, append-nil}
use Prim.Native.Nat.{ℕ, zero, suc, pred, ◌≤◌}
use native.Mathlib.Nat.{suc-ne-zero, suc_inj}
use native.Mathlib.Omega.{arith}
use borrow.Author.Tests.{lt-ltb, le-leb, eq-eqb, ltb-false}
use lib.Dec.{T, eqb, leb, ltb, leb→le, ltb→lt}
use lib.ListN.{length, take, drop}
use Rattle.rules.specs.Bytes.{In, All, all, fits, first, Range, inside}
use Rattle.rules.specs.Moves.{Move, keep, swap, leave, stop, takes, and_then, moves, taken, through}
use Rattle.rules.specs.Utf8.{sequences, sequence_at, char_at, IsChar, IsText}
use Rattle.rules.specs.Tables.{Row, value, rows, replaced_chars}
use Rattle.rules.specs.Units.{IsRun, IsForm}
use Rattle.rules.specs.Ascii.{is_high, refer_to, by_rule}
use Rattle.rules.specs.Encoding.{write, encode_by, encode_step}
use Rattle.rules.specs.Tables.{table}
use Rattle.rules.specs.References.{body_of}
use Rattle.rules.specs.Reading.{read_by, exactly, stands_in, rule_back, read_step}
use Rattle.rules.specs.Operations.{encode_of, decode_of}
use Rattle.rules.specs.declared.Html.TheVariants.{Quoted}
use Rattle.rules.specs.declared.Context.{Context}
use Rattle.rules.specs.declared.Context.TheVariants.{InHtml, InScript, InStyle, InJson, InAscii}
use Rattle.rules.proofs.Tests.{and_left, and_right, or_cases, is_false, all_in}
use Rattle.rules.proofs.Chars.{sequence-of-char}
use Rattle.rules.proofs.Ascii.{is_ascii, all_append, rule-ascii}
use Rattle.rules.proofs.Encoder.{by-table}
use Rattle.rules.proofs.Reader.{by_rows}
use Rattle.rules.proofs.Laws.{encode-any, decode-encode}

-- ---- characters of one byte

-- A sequence has more than one range, or one that is ASCII.
abbrev low_sequence : List Range → Bool
low_sequence q = ltb 1 (length q) || elim q [ [] ↦ false | r ∷ rs ↦ ltb r.1 128 ]

-- A character that the rule writes nothing for is one ASCII byte.
pub char-low : (a : List ℕ) → IsChar a → by_rule InAscii a ≡ none → T (all is_ascii a)
char-low a (q, i, t, e) n = go (or_cases (ltb 1 (length q)) (elim q [ [] ↦ false | r ∷ rs ↦ ltb r.1 128 ]) (all_in low_sequence sequences tt q i))
  where
    at : sequence_at a ≡ some q
    at = ap sequence_at (sym (append-nil a)) ∙ sequence-of-char a [] (q, i, t, e)

    high : T (ltb 1 (length q)) → is_high a ≡ true
    high h =
        ap (λ (o : Option (List Range)). elim o [ none ↦ false | some q ↦ eqb (length a) (length q) && ltb 1 (length q) ]) at
        ∙ (rw (eq-eqb (length a) (length q) e, lt-ltb 1 (length q) (ltb→lt 1 (length q) h)) refl)

    single : (q : List Range) (a : List ℕ) → T (fits inside q a) → length a ≡ length q → length q ≤ 1 → T (elim q [ [] ↦ false | r ∷ rs ↦ ltb r.1 128 ]) → T (all is_ascii a)
    single [] a t e l h = absurd h
    single (r ∷ rs) [] t e l h = tt
    single (r ∷ rs) (x ∷ a) t e l h = both a (suc_inj e) (length-zero (length rs) l)
      where
        length-zero : (n : ℕ) → suc n ≤ 1 → n ≡ 0
        length-zero n h = omega arith

        both : (a : List ℕ) → length a ≡ length rs → length rs ≡ 0 → T (is_ascii x && all is_ascii a)
        both [] e z =
            let k = leb→le x r.1 (and_right (leb r.0 x) (leb x r.1) (and_left (inside r x) (fits inside rs _) t)) in
            let m = ltb→lt r.1 128 h in
            rw (lt-ltb x 128 (omega arith)) tt
        both (y ∷ a) e z = absurd (suc-ne-zero (length a) (e ∙ z))

    go : T (ltb 1 (length q)) ⊎ T (elim q [ [] ↦ false | r ∷ rs ↦ ltb r.1 128 ]) → T (all is_ascii a)
    go (inl h) = absurd (none-ne-some (refer_to a) (sym n ∙ ap (λ (b : Bool). cond b (some (refer_to a)) none) (high h)))
    go (inr h) = shortest (ltb 1 (length q)) refl
      where
        shortest : (b : Bool) → ltb 1 (length q) ≡ b → T (all is_ascii a)
        shortest true f = absurd (none-ne-some (refer_to a) (sym n ∙ ap (λ (b : Bool). cond b (some (refer_to a)) none) (high (subst T (sym f) tt))))
        shortest false f = single q a t e (ltb-false 1 (length q) f) h

-- ---- what is written

abbrev ascii_row : Row → Bool
ascii_row e = all is_ascii (value e)

run-ascii : (us : List Move) → IsRun InAscii us → T (all is_ascii (taken us))
run-ascii [] g = tt
run-ascii (keep a ∷ us) g = all_append is_ascii a (taken us) (char-low a g.0.0 g.0.2) (run-ascii us g.1)
run-ascii (swap v k ∷ us) (inl u, g) = all_append is_ascii v (taken us) (all_in ascii_row (rows InAscii) tt (k, v) u) (run-ascii us g)
run-ascii (swap v k ∷ us) (inr u, g) = all_append is_ascii v (taken us) (rule-ascii InAscii k v u) (run-ascii us g)
run-ascii (leave r a ∷ us) g = absurd g.0
run-ascii (stop w ∷ us) g = absurd g.0

-- A form is ASCII.
pub form-ascii : (s : List ℕ) → IsForm InAscii s → T (all is_ascii s)
form-ascii s (us, g, e) = subst (λ (s : List ℕ). T (all is_ascii s)) (sym e) (run-ascii us g)

-- What is written of any text is.
pub ascii-only : (t : List ℕ) → IsText t → T (all is_ascii (encode_of InAscii t))
ascii-only t h = form-ascii (encode_of InAscii t) (encode-any InAscii t h)

-- decode returns every text.
pub ascii-decoded : (t : List ℕ) → IsText t → decode_of InAscii (encode_of InAscii t) ≡ t
ascii-decoded t (cs, h, e) = decode-encode InAscii t (cs, h, none-bad cs, e)
  where
    none-bad : (cs : List (List ℕ)) → All (λ (a : List ℕ). In a [] → ⊥) cs
    none-bad [] = tt
    none-bad (a ∷ cs) = ((λ i. i), none-bad cs)

-- ---- an ASCII text

-- At an ASCII byte the rule writes nothing.
low-ruleless : (b : ℕ) (s : List ℕ) → T (is_ascii b) → by_rule InAscii (char_at (b ∷ s)) ≡ none
low-ruleless b s t = ap (λ (o : Option (List Range)). by_rule InAscii (elim o [ none ↦ [] | some q ↦ take (length q) (b ∷ s) ])) (led s) ∙ alone
  where
    in-range : inside (0x00, 0x7F) b ≡ true
    in-range = let l = ltb→lt b 128 t in rw (le-leb 0 b (omega arith), le-leb b 0x7F (omega arith)) refl

    led : (r : List ℕ) → sequence_at (b ∷ r) ≡ some ((0x00, 0x7F) ∷ [])
    led r = ap (λ (x : Bool). elim (x && true) [ true ↦ some ((0x00, 0x7F) ∷ []) | false ↦ first (fits inside) (drop 1 sequences) (b ∷ r) ]) in-range

    alone : by_rule InAscii (b ∷ []) ≡ none
    alone =
        ap (λ (o : Option (List Range)). cond (elim o [ none ↦ false | some q ↦ eqb 1 (length q) && ltb 1 (length q) ]) (some (refer_to (b ∷ []))) none) (led [])

-- So it is in every context.
low-none : (c : Context) (b : ℕ) (s : List ℕ) → T (is_ascii b) → by_rule c (char_at (b ∷ s)) ≡ none
low-none InAscii b s t = low-ruleless b s t
low-none (InHtml h) b s t = refl
low-none (InScript q) b s t = refl
low-none (InStyle q) b s t = refl
low-none InJson b s t = refl

-- There encode goes by the table,
pub encode-low : (c : Context) (p b : ℕ) (s : List ℕ) → T (is_ascii b) → encode_step c p (b ∷ s) ≡ encode_by (table c) p (b ∷ s)
encode-low c p b s t = by-table c p (b ∷ s) (low-none c b s t)

-- and read by the rows, but at an `&`.
low-back : (c : Context) (b : ℕ) (s : List ℕ) → (T (eqb b 38) → ⊥) → rule_back c (b ∷ s) ≡ none
low-back InAscii b s h = ap (λ (x : Bool). cond x (exactly InAscii (body_of s) (stands_in (body_of s))) none) (is_false (eqb b 38) h)
low-back (InHtml h) b s n = refl
low-back (InScript q) b s n = refl
low-back (InStyle q) b s n = refl
low-back InJson b s n = refl

pub read_low : (c : Context) (p b : ℕ) (s : List ℕ) → T (is_ascii b) → (T (eqb b 38) → ⊥) → read_step c p (b ∷ s) ≡ read_by (rows c) (replaced_chars c) p (b ∷ s)
read_low c p b s t h =
    by_rows c p (b ∷ s) (low-back c b s h) (ap (λ (o : Option (List ℕ)). elim o [ none ↦ false | some v ↦ true ]) (low-none c b s t))

-- So the step is the one of `quoted`.
pub low_step : (p b : ℕ) (s : List ℕ) → T (is_ascii b) → encode_step InAscii p (b ∷ s) ≡ encode_step (InHtml Quoted) p (b ∷ s)
unfolding encode_step
low_step p b s t =
    ap (λ (o : Option (List ℕ)). write (elim o [ none ↦ none | some v ↦ some (char_at (b ∷ s), v) ]) (encode_by (table InAscii) p (b ∷ s))) (low-ruleless b s t)

low-moves : (p k : ℕ) (t : List ℕ) → T (all is_ascii t) → moves (encode_step InAscii) p k t ≡ moves (encode_step (InHtml Quoted)) p k t
low-moves p zero [] h = refl
low-moves p (suc k) [] h = refl
low-moves p (suc k) (b ∷ t) h = low-moves b k t (and_right (is_ascii b) (all is_ascii t) h)
low-moves p zero (b ∷ t) h =
    ap (λ (m : Move). and_then m (moves (encode_step InAscii) b (pred (length (takes m))) t)) (low_step p b t (and_left (is_ascii b) (all is_ascii t) h))
    ∙ ap (and_then (encode_step (InHtml Quoted) p (b ∷ t)))
    (low-moves b (pred (length (takes (encode_step (InHtml Quoted) p (b ∷ t))))) t (and_right (is_ascii b) (all is_ascii t) h))

-- Through an ASCII text the moves are those of `quoted`.
pub ascii-quoted : (t : List ℕ) → T (all is_ascii t) → through (encode_step InAscii) t ≡ through (encode_step (InHtml Quoted)) t
ascii-quoted t = low-moves 0 0 t
