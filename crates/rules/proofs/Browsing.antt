-- browse takes the whole text. What it takes for a reference stands there, begins and ends with ASCII, and stands for a text that is at most a fifth longer: of
-- numbers without `;` only one digit could be too short, and the character of one digit has at most three bytes.
-- Assumes nothing.
use mathlib.Core.Bool.{Bool, true, false, not, ◌&&◌, ◌||◌, cond}
use mathlib.Core.Logic.{◌⊎◌, inl, inr}
use mathlib.Core.Option.{Option, none, some, some-injective, none-ne-some}
use mathlib.Core.Path.{◌≡◌, refl, sym, ap, ◌∙◌, subst}
use mathlib.Core.List.{List, [], ◌∷◌, ◌++◌, append_assoc}
use Prim.Native.Nat.{ℕ, suc, ◌+◌, ◌-◌, ◌*◌, ◌≤◌, ◌<◌}
use native.Mathlib.Omega.{arith}
use lib.Dec.{T, eqb, ltb, leb, eqb→eq, leb→le, lt→ltb}
use lib.ListN.{length, take, drop, get_or, length-append, take-append-drop}
use Rattle.rules.specs.Bytes.{ascii, is, In, all, count, stands, between}
use Rattle.rules.specs.Moves.{Move, keep, swap, leave, stop, takes, gives, moves, taken, result, through}
use Rattle.rules.specs.Utf8.{IsText}
use Rattle.rules.specs.Tables.{Row, key, value}
use Rattle.rules.specs.Names.{names}
use Rattle.rules.specs.References.{digit, hex_digit_at, digits, number, number_of, decode_char, renumbering, renumbered, browse_char, body_of, lookup, meaning, refer, at_amp as at_amp_of, reference_step}
use Rattle.rules.specs.Reasons.{Ampless}
use Rattle.rules.specs.Bare.{bare}
use Rattle.rules.specs.Browsing.{given, identifiers, Longest, matched, ended, goes_on, blocked, unblocked, digits_at, end_at, beside, browsed_as, number_at, reference_at, at_amp, browse_step}
use Rattle.rules.specs.declared.Reason.{Reason}
use Rattle.rules.specs.declared.Kind.{Kind}
use Rattle.rules.specs.declared.Kind.TheVariants.{InText, InAttribute}
use Rattle.rules.proofs.Tests.{and_left, and_right, and_both, or_cases, all_in, is_false, stands-split, fits-length}
use Rattle.rules.proofs.Below.{below}
use Rattle.rules.proofs.Machine.{Makes, Follows, Fair, Goes, moves-fair, whole, retrace, singly}
use Rattle.rules.proofs.Chars.{taken-singles}
use Rattle.rules.proofs.Valid.{valid-iff}
use Rattle.rules.proofs.Names.{value-valid, empty-unnamed, hash-unnamed}
use Rattle.rules.proofs.Whole.{Fifth, body-split, browse-short, at_most}
use Rattle.rules.proofs.Texts.{ends_ascii, edged, Regroups, moves-text, browse-char}
use Rattle.rules.proofs.Numbers.{browse-decode}
use Rattle.rules.proofs.Order.{lookup-in}
use Rattle.rules.proofs.Identifiers.{bare-named, Ended, Bare, identifier-cases, matched-longest, match-ended}

-- ---- what a reference is

-- A number: its digits are all that stand there, at least one, and it takes the `;` behind them.
abbrev Counted : (ℕ → Option ℕ) → ℕ → List ℕ → List ℕ → Row → Type 0
Counted d base mark s row =
    (key row ≡ mark ++ digits_at d s ++ end_at (drop (length (digits_at d s)) s))
    × (n : ℕ) × (number d base (digits_at d s) ≡ some n) × (browse_char n ≡ some (value row))

counted : (d : ℕ → Option ℕ) (base : ℕ) (mark s : List ℕ) (row : Row) → number_at d base mark s ≡ some row → Counted d base mark s row
counted d base mark s row e = go (number d base (digits_at d s)) refl e
  where
    a : List ℕ
    a = mark ++ digits_at d s ++ end_at (drop (length (digits_at d s)) s)

    read : (n : ℕ) → number d base (digits_at d s) ≡ some n → (o : Option (List ℕ)) → browse_char n ≡ o → beside a o ≡ some row → Counted d base mark s row
    read n f none q e = absurd (none-ne-some row e)
    read n f (some v) q e =
        let w : (a, v) ≡ row = some-injective (a, v) row e in
        (sym (ap key w), n, f, q ∙ ap (λ (r : Row). some (value r)) w)

    go : (o : Option ℕ) → number d base (digits_at d s) ≡ o → beside a (browsed_as o) ≡ some row → Counted d base mark s row
    go none f e = absurd (none-ne-some row e)
    go (some n) f e = read n f (browse_char n) refl e

-- A reference is the longest identifier that stands there, if it is not blocked; or a number after its mark.
abbrev pub Cases : Kind → List ℕ → Row → Type 0
Cases kind s row =
    (Longest s row × (blocked kind (key row) (drop (length (key row)) s) ≡ false))
    ⊎ ((T (stands (ascii "#x") s || stands (ascii "#X") s) × Counted hex_digit_at 16 (take 2 s) (drop 2 s) row)
    ⊎ (T (stands (ascii "#") s) × Counted digit 10 (take 1 s) (drop 1 s) row))

pub reference-cases : (kind : Kind) (s : List ℕ) (row : Row) → reference_at kind s ≡ some row → Cases kind s row
reference-cases kind s row e = go (stands (ascii "#x") s || stands (ascii "#X") s) refl (stands (ascii "#") s) refl e
  where
    passed : (x : Row) → matched s ≡ some x → (b : Bool) → blocked kind (key x) (drop (length (key x)) s) ≡ b → cond b none (some x) ≡ some row → Cases kind s row
    passed x m true f e = absurd (none-ne-some row e)
    passed x m false f e =
        let w : x ≡ row = some-injective x row e in
        inl (matched-longest s row (m ∙ ap some w), subst (λ (x : Row). blocked kind (key x) (drop (length (key x)) s) ≡ false) w f)

    named : (o : Option Row) → matched s ≡ o → unblocked kind s o ≡ some row → Cases kind s row
    named none m e = absurd (none-ne-some row e)
    named (some x) m e = passed x m (blocked kind (key x) (drop (length (key x)) s)) refl e

    go : (p : Bool) → stands (ascii "#x") s || stands (ascii "#X") s ≡ p → (q : Bool) → stands (ascii "#") s ≡ q
        → cond p (number_at hex_digit_at 16 (take 2 s) (drop 2 s)) (cond q (number_at digit 10 (take 1 s) (drop 1 s)) (unblocked kind s (matched s))) ≡ some row → Cases kind s row
    go true h q k e = inr (inl (subst T (sym h) tt, counted hex_digit_at 16 (take 2 s) (drop 2 s) row e))
    go false h true k e = inr (inr (subst T (sym k) tt, counted digit 10 (take 1 s) (drop 1 s) row e))
    go false h false k e = named (matched s) refl e

-- ---- it stands there

digits-split : (d : ℕ → Option ℕ) (s : List ℕ) → digits_at d s ++ drop (length (digits_at d s)) s ≡ s
digits-split d [] = refl
digits-split d (b ∷ s) = go (d b) (digits-split d s)
  where
    go : (o : Option ℕ) → digits_at d s ++ drop (length (digits_at d s)) s ≡ s
        → ◌++◌ {A = ℕ} (elim o [ none ↦ [] | some k ↦ b ∷ digits_at d s ]) (drop (length {A = ℕ} (elim o [ none ↦ [] | some k ↦ b ∷ digits_at d s ])) (b ∷ s)) ≡ b ∷ s
    go none ih = refl
    go (some k) ih = ap (λ (l : List ℕ). b ∷ l) ih

end-split : (s : List ℕ) → (r : List ℕ) × (s ≡ end_at s ++ r)
end-split s = go (stands (ascii ";") s) refl
  where
    go : (b : Bool) → stands (ascii ";") s ≡ b → (r : List ℕ) × (s ≡ cond b (ascii ";") [] ++ r)
    go true e = stands-split (ascii ";") s (subst T (sym e) tt)
    go false e = (s, refl)

counted-here : (d : ℕ → Option ℕ) (base k : ℕ) (s : List ℕ) (row : Row) → Counted d base (take k s) (drop k s) row → (r : List ℕ) × (s ≡ key row ++ r)
counted-here d base k s row c =
    let ds = digits_at d (drop k s) in
    let after = drop (length ds) (drop k s) in
    let (r, e) = end-split after in (
      r,
      sym (take-append-drop k s)
          ∙ ap (λ (l : List ℕ). take k s ++ l) (sym (digits-split d (drop k s)))
          ∙ sym (append_assoc (take k s) ds after)
          ∙ ap (λ (l : List ℕ). take k s ++ ds ++ l) e
          ∙ sym (append_assoc (take k s ++ ds) (end_at after) r)
          ∙ ap (λ (l : List ℕ). l ++ r) (sym c.0),
    )

pub reference-here : (kind : Kind) (s : List ℕ) (row : Row) → reference_at kind s ≡ some row → (r : List ℕ) × (s ≡ key row ++ r)
reference-here kind s row e = go (reference-cases kind s row e)
  where
    go : Cases kind s row → (r : List ℕ) × (s ≡ key row ++ r)
    go (inl (l, f)) = stands-split (key row) s l.1
    go (inr (inl (t, c))) = counted-here hex_digit_at 16 2 s row c
    go (inr (inr (t, c))) = counted-here digit 10 1 s row c

-- ---- it is at most a fifth shorter than what it stands for

abbrev short_row : Row → Bool
short_row row = leb (5 * length (value row)) (6 * suc (length (key row)))

identifiers-short : T (all short_row identifiers)
unfolding identifiers names bare
identifiers-short = tt

-- The character of one digit has at most three bytes.
abbrev at_most_three : ℕ → Bool
at_most_three n = leb (length (given (browse_char n))) 3

low-short : T (all at_most_three (count 0 10))
unfolding renumbering
low-short = tt

digit_low : (b k : ℕ) → digit b ≡ some k → k < 10
digit_low b k e = go (between "0" "9" b) refl e
  where
    go : (t : Bool) → between "0" "9" b ≡ t → cond t (some (b - 48)) none ≡ some k → k < 10
    go true f e =
        let h : b ≤ 57 = leb→le b 57 (and_right (leb 48 b) (leb b 57) (subst T (sym f) tt)) in
        let w : b - 48 ≡ k = some-injective (b - 48) k e in
        omega (arith, h, w)
    go false f e = absurd (none-ne-some k e)

-- One digit is too short for four bytes; two are not.
decimal-short : (ds : List ℕ) (n : ℕ) (v : List ℕ) → number digit 10 ds ≡ some n → browse_char n ≡ some v → 5 * length v ≤ 6 * (2 + length ds)
decimal-short [] n v f q = absurd (none-ne-some n f)
decimal-short (b ∷ []) n v f q = go (digit b) refl f
  where
    go : (o : Option ℕ) → digit b ≡ o → ◌≡◌ {A = Option ℕ} (elim o [ none ↦ none | some k ↦ some (0 * 10 + k) ]) (some n) → 5 * length v ≤ 6 * (2 + length (b ∷ []))
    go none g e = absurd (none-ne-some n e)
    go (some k) g e =
        let same : 0 * 10 + k ≡ n = some-injective (0 * 10 + k) n e in
        let low : n < 10 = let h = digit_low b k g in omega (arith, h, same) in
        let three : length (given (browse_char n)) ≤ 3 = leb→le (length (given (browse_char n))) 3 (below at_most_three 10 low-short n low) in
        let h : length v ≤ 3 = subst (λ (o : Option (List ℕ)). length (given o) ≤ 3) q three in
        omega (arith, h)
decimal-short (b ∷ c ∷ ds) n v f q = let h = browse-short n v q in omega (arith, h)

hex-short : (ds : List ℕ) (n : ℕ) (v : List ℕ) → number hex_digit_at 16 ds ≡ some n → browse_char n ≡ some v → 5 * length v ≤ 6 * (3 + length ds)
hex-short [] n v f q = absurd (none-ne-some n f)
hex-short (b ∷ ds) n v f q = let h = browse-short n v q in omega (arith, h)

hex-mark : (s : List ℕ) → T (stands (ascii "#x") s || stands (ascii "#X") s) → length (take 2 s) ≡ 2
hex-mark s t = go (or_cases (stands (ascii "#x") s) (stands (ascii "#X") s) t)
  where
    go : T (stands (ascii "#x") s) ⊎ T (stands (ascii "#X") s) → length (take 2 s) ≡ 2
    go (inl h) = fits-length eqb (ascii "#x") s h
    go (inr h) = fits-length eqb (ascii "#X") s h

pub reference-fifth : (kind : Kind) (s : List ℕ) (row : Row) → reference_at kind s ≡ some row → 5 * length (value row) ≤ 6 * suc (length (key row))
reference-fifth kind s row e = go (reference-cases kind s row e)
  where
    long : (m ds z : List ℕ) → key row ≡ m ++ ds ++ z → length m + length ds ≤ length (key row)
    long m ds z w = rw (w, length-append (m ++ ds) z, length-append m ds) (omega arith)

    go : Cases kind s row → 5 * length (value row) ≤ 6 * suc (length (key row))
    go (inl (l, f)) = leb→le (5 * length (value row)) (6 * suc (length (key row))) (all_in short_row identifiers identifiers-short row l.0)
    go (inr (inl (t, c))) =
        let ds = digits_at hex_digit_at (drop 2 s) in
        let h = long (take 2 s) ds (end_at (drop (length ds) (drop 2 s))) c.0 in
        let k = hex-short ds c.1 (value row) c.2 c.3 in
        let m = hex-mark s t in
        omega (arith, h, k, m)
    go (inr (inr (t, c))) =
        let ds = digits_at digit (drop 1 s) in
        let h = long (take 1 s) ds (end_at (drop (length ds) (drop 1 s))) c.0 in
        let k = decimal-short ds c.1 (value row) c.2 c.3 in
        let m = fits-length eqb (ascii "#") s t in
        omega (arith, h, k, m)

-- ---- it begins and ends with ASCII, and stands for a text

abbrev low : ℕ → Bool
low b = ltb b 0x80

low-ends : (x : ℕ) (a : List ℕ) → T (low x) → T (all low a) → T (ends_ascii (x ∷ a))
low-ends x [] t u = t
low-ends x (y ∷ a) t u = low-ends y a (and_left (low y) (all low a) u) (and_right (low y) (all low a) u)

low-append : (a b : List ℕ) → T (all low a) → T (all low b) → T (all low (a ++ b))
low-append [] b t u = u
low-append (x ∷ a) b t u = and_both (low x) (all low (a ++ b)) (and_left (low x) (all low a) t) (low-append a b (and_right (low x) (all low a) t) u)

between-low : (z b : ℕ) → z < 0x80 → T (leb b z) → T (low b)
between-low z b h t = lt→ltb b 0x80 (let k = leb→le b z t in omega (arith, h, k))

digit-ascii : (b k : ℕ) → digit b ≡ some k → T (low b)
digit-ascii b k e = go (between "0" "9" b) refl e
  where
    go : (t : Bool) → between "0" "9" b ≡ t → cond t (some (b - 48)) none ≡ some k → T (low b)
    go true f e = between-low 57 b (omega arith) (and_right (leb 48 b) (leb b 57) (subst T (sym f) tt))
    go false f e = absurd (none-ne-some k e)

hex-ascii : (b k : ℕ) → hex_digit_at b ≡ some k → T (low b)
hex-ascii b k e = go (between "A" "F" b) refl (between "a" "f" b) refl e
  where
    go : (t : Bool) → between "A" "F" b ≡ t → (u : Bool) → between "a" "f" b ≡ u → cond t (some (b - 55)) (cond u (some (b - 87)) (digit b)) ≡ some k → T (low b)
    go true f u g e = between-low 70 b (omega arith) (and_right (leb 65 b) (leb b 70) (subst T (sym f) tt))
    go false f true g e = between-low 102 b (omega arith) (and_right (leb 97 b) (leb b 102) (subst T (sym g) tt))
    go false f false g e = digit-ascii b k e

digits_low : (d : ℕ → Option ℕ) → ((b k : ℕ) → d b ≡ some k → T (low b)) → (s : List ℕ) → T (all low (digits_at d s))
digits_low d h [] = tt
digits_low d h (b ∷ s) = go (d b) refl (digits_low d h s)
  where
    go : (o : Option ℕ) → d b ≡ o → T (all low (digits_at d s)) → T (all low (elim o [ none ↦ [] | some k ↦ b ∷ digits_at d s ]))
    go none e ih = tt
    go (some k) e ih = and_both (low b) (all low (digits_at d s)) (h b k e) ih

end_low : (s : List ℕ) → T (all low (end_at s))
end_low s = go (stands (ascii ";") s)
  where
    go : (b : Bool) → T (all low (cond b (ascii ";") []))
    go true = tt
    go false = tt

hex-mark-low : (s : List ℕ) → T (stands (ascii "#x") s || stands (ascii "#X") s) → T (all low (take 2 s))
hex-mark-low s t = go (or_cases (stands (ascii "#x") s) (stands (ascii "#X") s) t)
  where
    go : T (stands (ascii "#x") s) ⊎ T (stands (ascii "#X") s) → T (all low (take 2 s))
    go (inl h) = let (r, e) = stands-split (ascii "#x") s h in subst (λ (l : List ℕ). T (all low (take 2 l))) (sym e) tt
    go (inr h) = let (r, e) = stands-split (ascii "#X") s h in subst (λ (l : List ℕ). T (all low (take 2 l))) (sym e) tt

mark-low : (s : List ℕ) → T (stands (ascii "#") s) → T (all low (take 1 s))
mark-low s t = let (r, e) = stands-split (ascii "#") s t in subst (λ (l : List ℕ). T (all low (take 1 l))) (sym e) tt

counted-regroups : (d : ℕ → Option ℕ) (base : ℕ) (mark s : List ℕ) (row : Row) → ((b k : ℕ) → d b ≡ some k → T (low b)) → T (all low mark)
    → Counted d base mark s row → T (edged (38 ∷ key row)) × IsText (value row)
counted-regroups d base mark s row h t c =
    let ds = digits_at d s in
    let z = end_at (drop (length ds) s) in
    let u : T (all low (mark ++ ds ++ z)) = low-append (mark ++ ds) z (low-append mark ds t (digits_low d h s)) (end_low (drop (length ds) s)) in
    (subst (λ (l : List ℕ). T (ends_ascii (38 ∷ l))) (sym c.0) (low-ends 38 (mark ++ ds ++ z) tt u), browse-char c.1 (value row) c.3)

abbrev edged_row : Row → Bool
edged_row row = edged (38 ∷ key row)

identifiers-edged : T (all edged_row identifiers)
unfolding identifiers names bare
identifiers-edged = tt

identifier-text : (row : Row) → In row identifiers → IsText (value row)
identifier-text row i = go (identifier-cases row i)
  where
    named : (n : List ℕ) (o : Option (List ℕ)) → lookup names n ≡ o → T (ltb 0 (length (given o))) → IsText (given o)
    named n none f t = absurd t
    named n (some v) f t = (valid-iff v).1 (value-valid n v f)

    go : Ended row ⊎ Bare row → IsText (value row)
    go (inl (x, j, p)) = subst (λ (o : Row). IsText (value o)) (sym p) ((valid-iff (value x)).1 (value-valid (key x) (value x) (lookup-in x j)))
    go (inr (n, j, p)) =
        subst (λ (o : Row). IsText (value o)) (sym p) (named n (lookup names n) refl (all_in (λ (n : List ℕ). ltb 0 (length (given (lookup names n)))) bare bare-named n j))

reference-regroups : (kind : Kind) (s : List ℕ) (row : Row) → reference_at kind s ≡ some row → Regroups (swap (ascii "&" ++ key row) (value row))
reference-regroups kind s row e = go (reference-cases kind s row e)
  where
    go : Cases kind s row → T (edged (38 ∷ key row)) × IsText (value row)
    go (inl (l, f)) = (all_in edged_row identifiers identifiers-edged row l.0, identifier-text row l.0)
    go (inr (inl (t, c))) = counted-regroups hex_digit_at 16 (take 2 s) (drop 2 s) row hex-ascii (hex-mark-low s t) c
    go (inr (inr (t, c))) = counted-regroups digit 10 (take 1 s) (drop 1 s) row digit-ascii (mark-low s t) c

-- ---- the moves

module _ (kind : Kind) where
  -- What a rule takes and gives is good, if a kept byte is, and each reference.
  fair : (good : Move → Type 0) → ((x : ℕ) → good (keep (x ∷ [])))
      → ((s : List ℕ) (row : Row) → reference_at kind s ≡ some row → good (swap (ascii "&" ++ key row) (value row)))
      → (p : ℕ) (s : List ℕ) → Fair good (browse_step kind p s) s
  unfolding browse_step
  fair good kept read p [] = tt
  fair good kept read p (x ∷ xs) = go (eqb x 38) refl (reference_at kind xs) refl
    where
      go : (b : Bool) → eqb x 38 ≡ b → (o : Option Row) → reference_at kind xs ≡ o → Fair good (cond b (at_amp o) (keep (x ∷ []))) (x ∷ xs)
      go false h o f = (kept x, xs, refl, 0, refl)
      go true h none f = (kept 38, xs, (λ i. eqb→eq x 38 (subst T (sym h) tt) i ∷ xs), 0, refl)
      go true h (some row) f =
          let (r, w) = reference-here kind xs row f in
          (read xs row f, r, (λ i. eqb→eq x 38 (subst T (sym h) tt) i ∷ w i), length (key row), refl)

  goes : (p x : ℕ) (xs : List ℕ) → Goes (browse_step kind p (x ∷ xs))
  unfolding browse_step
  goes p x xs = go (eqb x 38) (reference_at kind xs)
    where
      go : (b : Bool) (o : Option Row) → Goes (cond b (at_amp o) (keep (x ∷ [])))
      go false o = tt
      go true none = tt
      go true (some row) = tt

  kept-fifth : (x : ℕ) → Fifth (keep (x ∷ []))
  kept-fifth x = leb→le 5 6 tt

  pub browse-fair : (p : ℕ) (s : List ℕ) → Fair Fifth (browse_step kind p s) s
  browse-fair = fair Fifth kept-fifth (λ s row e. reference-fifth kind s row e)

  -- browse takes the whole text.
  pub browse-whole : (s : List ℕ) → taken (through (browse_step kind) s) ≡ s
  browse-whole = whole Fifth (browse_step kind) browse-fair goes

  -- What it gives is at most a fifth longer.
  pub browse-fifth : (s : List ℕ) → 5 * length (result (through (browse_step kind) s)) ≤ 6 * length s
  browse-fifth s =
      subst (λ (l : List ℕ). 5 * length (result (through (browse_step kind) s)) ≤ 6 * length l) (browse-whole s)
      (at_most (through (browse_step kind) s) (moves-fair Fifth (browse_step kind) browse-fair 0 0 s).0)

  -- What it gives of a valid text is valid UTF-8.
  pub browse-text : (s : List ℕ) → IsText s → IsText (result (through (browse_step kind) s))
  browse-text s t =
      moves-text (through (browse_step kind) s) (moves-fair Regroups (browse_step kind) (fair Regroups (λ x. tt) (reference-regroups kind)) 0 0 s).0
      (subst IsText (sym (browse-whole s)) t)

  -- ---- what stays

  pub browse-quiet : (p x : ℕ) (s : List ℕ) → (T (is "&" x) → ⊥) → browse_step kind p (x ∷ s) ≡ keep (x ∷ [])
  unfolding browse_step
  browse-quiet p x s h = ap (λ (b : Bool). cond b (at_amp (reference_at kind s)) (keep (x ∷ []))) (is_false (eqb x 38) h)

  any-before : (p q : ℕ) (s : List ℕ) → moves (browse_step kind) p 0 s ≡ moves (browse_step kind) q 0 s
  unfolding browse_step
  any-before p q [] = refl
  any-before p q (x ∷ s) = refl

  singly-kept : (a r : List ℕ) → Ampless a → Follows (browse_step kind) (singly a) r
  singly-kept [] r g = tt
  singly-kept (x ∷ a) r g = ((0, refl, λ p. browse-quiet p x (taken (singly a) ++ r) (g x (inl refl))), singly-kept a r (λ y i. g y (inr i)))

  amp-kept : (p : ℕ) (s : List ℕ) → reference_at kind s ≡ none → browse_step kind p (38 ∷ s) ≡ keep (ascii "&")
  unfolding browse_step
  amp-kept p s e = ap at_amp e

  -- Where no reference is taken, the `&` is kept and all that follows up to the next `&`: what the Standard flushes is among it.
  pub flush : (p q : ℕ) (a r : List ℕ) → Ampless a → reference_at kind (a ++ r) ≡ none
      → moves (browse_step kind) p 0 (38 ∷ a ++ r) ≡ singly (38 ∷ a) ++ moves (browse_step kind) q 0 r
  flush p q a r g e =
      let amp : Makes (browse_step kind) (keep (ascii "&")) (taken (singly a) ++ r) =
      (0, refl, λ p. amp-kept p (taken (singly a) ++ r) (ap (λ (t : List ℕ). reference_at kind (t ++ r)) (taken-singles a) ∙ e)) in
      let (q', f) = retrace (browse_step kind) p (singly (38 ∷ a)) r (amp, singly-kept a r g) in
      ap (λ (t : List ℕ). moves (browse_step kind) p 0 (38 ∷ t ++ r)) (sym (taken-singles a))
      ∙ f ∙ ap (λ (ms : List Move). singly (38 ∷ a) ++ ms) (any-before q' q r)

-- ---- what the attribute rule leaves alone

-- A name with its `;` is never blocked.
pub ended-passes : (kind : Kind) (name after : List ℕ) → blocked kind (name ++ ascii ";") after ≡ false
ended-passes InText name after = refl
ended-passes InAttribute name after = ap (λ (b : Bool). not b && goes_on after) (last name)
  where
    last : (n : List ℕ) → ended (n ++ ascii ";") ≡ true
    last [] = refl
    last (x ∷ []) = refl
    last (x ∷ y ∷ n) = last (y ∷ n)

-- In text nothing is.
pub text-passes : (s : List ℕ) (o : Option Row) → unblocked InText s o ≡ o
text-passes s none = refl
text-passes s (some row) = refl

-- ---- what decode takes

-- A name that decode takes browse takes too, for the same: the body with its `;`.
pub named-alike : (kind : Kind) (s body v : List ℕ) → body_of s ≡ some body → lookup names body ≡ some v → reference_at kind s ≡ some (body ++ ascii ";", v)
named-alike kind s body v e f = go (stands (ascii "#") s) refl
  where
    unmarked : (t : List ℕ) → stands (ascii "#") t ≡ false → stands (ascii "#x") t || stands (ascii "#X") t ≡ false
    unmarked [] h = refl
    unmarked (x ∷ t) h = head (eqb 35 x) (stands (ascii "x") t) (stands (ascii "X") t) h
      where
        head : (b p q : Bool) → b && true ≡ false → b && p || b && q ≡ false
        head true p q h = absurd (subst T h tt)
        head false p q h = refl

    -- No name begins with `#`.
    marked : T (stands (ascii "#") s) → ⊥
    marked t =
        let (r, w) = stands-split (ascii "#") s t in
        first body r (w ∙ refl) e f
      where
        first : (body r : List ℕ) → s ≡ ascii "#" ++ r → body_of s ≡ some body → lookup names body ≡ some v → ⊥
        first [] r w e f = none-ne-some v (sym empty-unnamed ∙ f)
        first (b ∷ body) r w e f =
            let (z, q) = body-split s (b ∷ body) e in
            let same : b ≡ 35 = ap (λ (l : List ℕ). get_or l 0 0) (sym q ∙ w) in
            none-ne-some v (sym (hash-unnamed body) ∙ subst (λ (x : ℕ). lookup names (x ∷ body) ≡ some v) same f)

    go : (b : Bool) → stands (ascii "#") s ≡ b → reference_at kind s ≡ some (body ++ ascii ";", v)
    go true h = absurd (marked (subst T (sym h) tt))
    go false h =
        ap (λ (b : Bool). cond b (number_at hex_digit_at 16 (take 2 s) (drop 2 s)) (cond (stands (ascii "#") s) (number_at digit 10 (take 1 s) (drop 1 s)) (unblocked kind s (matched s)))) (unmarked s h)
        ∙ ap (λ (b : Bool). cond b (number_at digit 10 (take 1 s) (drop 1 s)) (unblocked kind s (matched s))) h
        ∙ ap (unblocked kind s) (match-ended s body v e f)
        ∙ ap (λ (b : Bool). cond {A = Option Row} b none (some (body ++ ascii ";", v))) (ended-passes kind body (drop (length (body ++ ascii ";")) s))

-- Digits before a `;` are read up to it.
digits-up-to : (d : ℕ → Option ℕ) → d 59 ≡ none → (base m n : ℕ) (ds r : List ℕ) → digits d base m ds ≡ some n → digits_at d (ds ++ 59 ∷ r) ≡ ds
digits-up-to d z base m n [] r e = ap (λ (o : Option ℕ). elim o [ none ↦ [] | some k ↦ 59 ∷ digits_at d r ]) z
digits-up-to d z base m n (b ∷ ds) r e = go (d b) e (λ k. digits-up-to d z base (m * base + k) n ds r)
  where
    go : (o : Option ℕ) → ◌≡◌ {A = Option ℕ} (elim o [ none ↦ none | some k ↦ digits d base (m * base + k) ds ]) (some n)
        → ((k : ℕ) → digits d base (m * base + k) ds ≡ some n → digits_at d (ds ++ 59 ∷ r) ≡ ds)
        → ◌≡◌ {A = List ℕ} (elim o [ none ↦ [] | some k ↦ b ∷ digits_at d (ds ++ 59 ∷ r) ]) (b ∷ ds)
    go none e ih = absurd (none-ne-some n e)
    go (some k) e ih = ap (λ (l : List ℕ). b ∷ l) (ih k e)

drop-front : (a b : List ℕ) → drop (length a) (a ++ b) ≡ b
drop-front [] b = refl
drop-front (x ∷ a) b = drop-front a b

-- A number with its `;`.
number-ended : (d : ℕ → Option ℕ) → d 59 ≡ none → (base n : ℕ) (mark ds r v : List ℕ) → number d base ds ≡ some n → browse_char n ≡ some v
    → number_at d base mark (ds ++ 59 ∷ r) ≡ some (mark ++ ds ++ ascii ";", v)
number-ended d z base n mark [] r v e f = absurd (none-ne-some n e)
number-ended d z base n mark (b ∷ ds) r v e f =
    ap (λ (l : List ℕ). beside (mark ++ l ++ end_at (drop (length l) (b ∷ ds ++ 59 ∷ r))) (browsed_as (number d base l))) (digits-up-to d z base 0 n (b ∷ ds) r e)
    ∙ ap (λ (o : Option ℕ). beside (mark ++ (b ∷ ds) ++ end_at (drop (length ds) (ds ++ 59 ∷ r))) (browsed_as o)) e
    ∙ ap (λ (o : Option (List ℕ)). beside (mark ++ (b ∷ ds) ++ end_at (drop (length ds) (ds ++ 59 ∷ r))) o) f
    ∙ ap (λ (l : List ℕ). some (mark ++ (b ∷ ds) ++ end_at l, v)) (drop-front ds (59 ∷ r))

-- A number that decode takes browse takes too, for what it stands for there.
pub numbered-alike : (kind : Kind) (s body v : List ℕ) (n : ℕ) → body_of s ≡ some body → number_of body ≡ some n → browse_char n ≡ some v
    → reference_at kind s ≡ some (body ++ ascii ";", v)
numbered-alike kind s body v n e f g = let (r, w) = body-split s body e in ap (reference_at kind) w ∙ marked body r f
  where
    marked : (body r : List ℕ) → number_of body ≡ some n → reference_at kind (body ++ 59 ∷ r) ≡ some (body ++ ascii ";", v)
    marked [] r f = absurd (none-ne-some n f)
    marked (x ∷ []) r f = absurd (go (eqb 35 x) f)
      where
        go : (b : Bool) → cond (b && false || b && false) (number hex_digit_at 16 []) (cond (b && true) (number digit 10 []) none) ≡ some n → ⊥
        go true f = none-ne-some n f
        go false f = none-ne-some n f
    marked (x ∷ y ∷ ds) r f = go (stands (ascii "#x") (x ∷ y ∷ ds) || stands (ascii "#X") (x ∷ y ∷ ds)) (stands (ascii "#") (x ∷ y ∷ ds)) f
      where
        s' : List ℕ
        s' = x ∷ y ∷ (ds ++ 59 ∷ r)

        go : (p q : Bool) → cond p (number hex_digit_at 16 ds) (cond q (number digit 10 (y ∷ ds)) none) ≡ some n
            → cond p (number_at hex_digit_at 16 (x ∷ y ∷ []) (ds ++ 59 ∷ r)) (cond q (number_at digit 10 (x ∷ []) (y ∷ (ds ++ 59 ∷ r))) (unblocked kind s' (matched s')))
            ≡ some (x ∷ y ∷ (ds ++ ascii ";"), v)
        go true q f = number-ended hex_digit_at refl 16 n (x ∷ y ∷ []) ds r v f g
        go false true f = number-ended digit refl 10 n (x ∷ []) (y ∷ ds) r v f g
        go false false f = absurd (none-ne-some n f)

-- A body before its `;`, taken for what it stands for in browse.
pub body_alike : (kind : Kind) (s body v : List ℕ) → body_of s ≡ some body → meaning browse_char body ≡ some v → reference_at kind s ≡ some (body ++ ascii ";", v)
body_alike kind s body v e f = go (number_of body) refl f
  where
    go : (o : Option ℕ) → number_of body ≡ o → ◌≡◌ {A = Option (List ℕ)} (elim o [ some n ↦ browse_char n | none ↦ lookup names body ]) (some v)
        → reference_at kind s ≡ some (body ++ ascii ";", v)
    go none g f = named-alike kind s body v e f
    go (some n) g f = numbered-alike kind s body v n e g f

-- What decode takes for a reference browse takes too, for the same, unless it is one of the 27 numbers.
pub decode-alike : (kind : Kind) (s body v : List ℕ) → body_of s ≡ some body → meaning decode_char body ≡ some v
    → ((n : ℕ) → number_of body ≡ some n → In n renumbered → ⊥) → reference_at kind s ≡ some (body ++ ascii ";", v)
decode-alike kind s body v e f h = go (number_of body) refl f
  where
    go : (o : Option ℕ) → number_of body ≡ o → ◌≡◌ {A = Option (List ℕ)} (elim o [ some n ↦ decode_char n | none ↦ lookup names body ]) (some v)
        → reference_at kind s ≡ some (body ++ ascii ";", v)
    go none g f = named-alike kind s body v e f
    go (some n) g f = numbered-alike kind s body v n e g (browse-decode n v f (h n g))

-- ---- the moves of decode at an `&`, by the body

abbrev Swaps : Move → Type 0
Swaps (keep a) = ⊥
Swaps (swap a b) = Unit {0}
Swaps (leave r a) = ⊥
Swaps (stop w) = ⊥

-- The reference gives way: there is a body, and it stands for what takes its place.
pub decode-takes : (p : ℕ) (s a v : List ℕ) → reference_step p (38 ∷ s) ≡ swap a v
    → (body : List ℕ) × (body_of s ≡ some body) × (a ≡ ascii "&" ++ body ++ ascii ";") × (meaning decode_char body ≡ some v)
unfolding reference_step
decode-takes p s a v e = go (body_of s) refl e
  where
    meant : (body : List ℕ) → body_of s ≡ some body → (o : Option (List ℕ)) → meaning decode_char body ≡ o → refer body o ≡ swap a v
        → (body : List ℕ) × (body_of s ≡ some body) × (a ≡ ascii "&" ++ body ++ ascii ";") × (meaning decode_char body ≡ some v)
    meant body f none g e = absurd (subst Swaps (sym e) tt)
    meant body f (some w) g e = (body, f, sym (ap takes e), g ∙ ap (λ (m : Move). some (gives m)) e)

    go : (o : Option (List ℕ)) → body_of s ≡ o → at_amp_of decode_char o ≡ swap a v
        → (body : List ℕ) × (body_of s ≡ some body) × (a ≡ ascii "&" ++ body ++ ascii ";") × (meaning decode_char body ≡ some v)
    go none f e = absurd (subst Swaps (sym e) tt)
    go (some body) f e = meant body f (meaning decode_char body) refl e

-- It stays: no body stands for anything.
pub decode-stays : (p : ℕ) (s : List ℕ) (w : Reason) → reference_step p (38 ∷ s) ≡ leave w (ascii "&")
    → (body v : List ℕ) → body_of s ≡ some body → meaning decode_char body ≡ some v → ⊥
unfolding reference_step
decode-stays p s w e body v f g = subst Swaps (sym (ap (at_amp_of decode_char) f ∙ ap (refer body) g) ∙ e) tt
