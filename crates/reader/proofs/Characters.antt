-- A replaced character stands at a place exactly if one begins with the byte there, and where it is E2, U+2028 or U+2029 stands there. Where
-- none does, the reader keeps the byte; where one does, it takes a unit or stops.
-- Assumes nothing.
use mathlib.Core.Bool.{Bool, true, false, not, ◌&&◌, ◌||◌, and-true, and-false, or-false, or-true, or_assoc}
use mathlib.Core.Option.{none}
use mathlib.Core.Path.{◌≡◌, refl, sym, ap, ◌∙◌, subst}
use mathlib.Core.List.{List, [], ◌∷◌, ◌++◌, append_assoc}
use Prim.Native.Nat.{ℕ, ◌+◌, ◌%◌, ◌^◌, ◌≤◌, ◌<◌}
use native.Mathlib.Omega.{arith}
use lib.Dec.{T, eqb, leb, eqb→eq, leb→le, T_not}
use borrow.Author.Tests.{ne_eqb}
use lib.ListN.{length, take, drop, get_or}
use Rattle.rules.specs.Bytes.{In, all, any, count, stands, same_bytes, one_of}
use Rattle.rules.specs.Moves.{keep, swap, stop, before}
use Rattle.rules.specs.Utf8.{utf8}
use Rattle.rules.specs.Tables.{Row, row_at, value, rows, replaced_chars}
use Rattle.rules.specs.Encoding.{keep_byte}
use Rattle.rules.specs.Reading.{undo, unless}
use Rattle.rules.specs.declared.Html.{Html}
use Rattle.rules.specs.declared.Context.{Context}
use Rattle.rules.specs.declared.Context.TheVariants.{InHtml, InScript, InStyle, InJson, InAscii}
use Rattle.rules.specs.declared.Escape.{Escape}
use Rattle.std.specs.Prelude.{Some, None}
use Rattle.rules.proofs.Tests.{and_left, and_right, is_false, all_in, any-in, any-intro, first-none, same_bytes_lem, same_in, stands_self, stands-split}
use Rattle.rules.proofs.Tables.{barred}
use Rattle.rules.proofs.Every.{every}
use Rattle.rules.proofs.EveryByte.{every_byte_lem}
use Rattle.rules.proofs.Below.{agree, agrees, eqb_comm}
use Rattle.rules.proofs.Loops.{drop-next}
use Rattle.rules.proofs.Quiet.{Keeps}
use Rattle.base.specs.First.{First}
use Rattle.decode_strings.specs.Finds.{Finds}
use Rattle.decode_strings.proofs.Strings.{within-rest}
use Rattle.reader.specs.Replaced.{begins, Leads, is_lead, is_whole, replaced_at}
use Rattle.reader.specs.Units.{mark_of, byte_step}
use Rattle.reader.proofs.Placed.{finds-none, has, none-there}

-- ---- replaced characters of one byte, and the longer ones

-- The bytes that are replaced characters.
abbrev ones : List (List ℕ) → List ℕ
ones [] = []
ones ([] ∷ ks) = ones ks
ones ((y ∷ []) ∷ ks) = y ∷ ones ks
ones ((y ∷ z ∷ k) ∷ ks) = ones ks

-- The others.
abbrev longs : List (List ℕ) → List (List ℕ)
longs [] = []
longs ([] ∷ ks) = [] ∷ longs ks
longs ((y ∷ []) ∷ ks) = longs ks
longs ((y ∷ z ∷ k) ∷ ks) = (y ∷ z ∷ k) ∷ longs ks

between : (a b c : Bool) → (a || (b || c)) ≡ (b || (a || c))
between true true c = refl
between true false c = refl
between false b c = refl

barred-split : (ks : List (List ℕ)) (x : ℕ) (s : List ℕ) → barred ks (x ∷ s) ≡ (one_of (ones ks) x || barred (longs ks) (x ∷ s))
barred-split [] x s = refl
barred-split ([] ∷ ks) x s = sym (or-true (one_of (ones ks) x))
barred-split ((y ∷ []) ∷ ks) x s =
    (λ i. (and-true (eqb y x) ∙ eqb_comm y x) i || barred-split ks x s i) ∙ sym (or_assoc (eqb x y) (one_of (ones ks) x) (barred (longs ks) (x ∷ s)))
barred-split ((y ∷ z ∷ k) ∷ ks) x s =
    ap (λ (b : Bool). stands (y ∷ z ∷ k) (x ∷ s) || b) (barred-split ks x s) ∙ between (stands (y ∷ z ∷ k) (x ∷ s)) (one_of (ones ks) x) (barred (longs ks) (x ∷ s))

T→true : (b : Bool) → T b → b ≡ true
T→true true t = refl
T→true false t = absurd t

-- ---- each context

-- Whether U+2028 and U+2029 are replaced.
abbrev separates : Context → Bool
separates (InHtml h) = false
separates (InScript q) = true
separates (InStyle q) = false
separates InJson = true
separates InAscii = false

abbrev separators_in : Bool → List (List ℕ)
separators_in true = (0xE2 ∷ 0x80 ∷ 0xA8 ∷ []) ∷ (0xE2 ∷ 0x80 ∷ 0xA9 ∷ []) ∷ []
separators_in false = []

abbrev same_lists : List (List ℕ) → List (List ℕ) → Bool
same_lists [] [] = true
same_lists [] (k ∷ ks) = false
same_lists (j ∷ js) [] = false
same_lists (j ∷ js) (k ∷ ks) = same_bytes j k && same_lists js ks

same-lists : (js ks : List (List ℕ)) → T (same_lists js ks) → js ≡ ks
same-lists [] [] t = refl
same-lists [] (k ∷ ks) t = absurd t
same-lists (j ∷ js) [] t = absurd t
same-lists (j ∷ js) (k ∷ ks) t =
    λ i. same_bytes_lem j k (and_left (same_bytes j k) (same_lists js ks) t) i ∷ same-lists js ks (and_right (same_bytes j k) (same_lists js ks) t) i

module _ (c : Context) where
  -- They are the only ones of more than one byte.
  longs-of : longs (replaced_chars c) ≡ separators_in (separates c)
  longs-of = same-lists (longs (replaced_chars c)) (separators_in (separates c)) (every (λ (c : Context). same_lists (longs (replaced_chars c)) (separators_in (separates c))) tt c)

  -- No other begins with E2.
  no_other : one_of (ones (replaced_chars c)) 0xE2 ≡ false
  no_other = is_false (one_of (ones (replaced_chars c)) 0xE2) (T_not (one_of (ones (replaced_chars c)) 0xE2) (every (λ (c : Context). not (one_of (ones (replaced_chars c)) 0xE2)) tt c))

-- A test that agrees on every byte passes the bytes that replaced characters begin with.
pub leads-checked : (c : Context) (test : ℕ → Bool) → T (all (λ (b : ℕ). agree (test b) (begins c b)) (count 0 256)) → Leads c test
leads-checked c test ok b h = agrees (test b) (begins c b) (every_byte_lem (λ (b : ℕ). agree (test b) (begins c b)) ok b h)

abbrev ranged : Context → ℕ → Bool
unfolding begins
ranged c b = agree (begins c b) (one_of (ones (replaced_chars c)) b || (eqb b 0xE2 && separates c))

-- These bytes are the replaced characters of one byte, and E2 where U+2028 and U+2029 are replaced.
ranges : (c : Context) (b : ℕ) → b < 256 → begins c b ≡ (one_of (ones (replaced_chars c)) b || (eqb b 0xE2 && separates c))
unfolding begins
ranges c b h =
    agrees (begins c b) (one_of (ones (replaced_chars c)) b || (eqb b 0xE2 && separates c))
    (every_byte_lem (ranged c) (every (λ (c : Context). all (ranged c) (count 0 256)) tt c) b h)

-- Two of a bit of a word are no more than the word holds.
pub bit-small : (b : ℕ) → b < 256 → 2 ^ (b % 64) + 2 ^ (b % 64) ≤ 18446744073709551616
bit-small b h =
    leb→le (2 ^ (b % 64) + 2 ^ (b % 64)) 18446744073709551616 (every_byte_lem (λ (b : ℕ). leb (2 ^ (b % 64) + 2 ^ (b % 64)) 18446744073709551616) tt b h)

-- And a bit is not 0.
pub bit-some : (b : ℕ) → b < 256 → 1 ≤ 2 ^ (b % 64)
bit-some b h = leb→le 1 (2 ^ (b % 64)) (every_byte_lem (λ (b : ℕ). leb 1 (2 ^ (b % 64))) tt b h)

alone : (ks : List (List ℕ)) (b : ℕ) → any (same_bytes (b ∷ [])) ks ≡ one_of (ones ks) b
alone [] b = refl
alone ([] ∷ ks) b = alone ks b
alone ((y ∷ []) ∷ ks) b = λ i. and-true (eqb b y) i || alone ks b i
alone ((y ∷ z ∷ k) ∷ ks) b = λ i. and-false (eqb b y) i || alone ks b i

-- In an HTML context they are the replaced characters.
pub begins-alone : (h : Html) (b : ℕ) → b < 256 → begins (InHtml h) b ≡ any (same_bytes (b ∷ [])) (replaced_chars (InHtml h))
begins-alone h b l =
    ranges (InHtml h) b l
    ∙ ap (λ (e : Bool). one_of (ones (replaced_chars (InHtml h))) b || e) (and-false (eqb b 0xE2))
    ∙ or-false (one_of (ones (replaced_chars (InHtml h))) b)
    ∙ sym (alone (replaced_chars (InHtml h)) b)

separators-replaced : (d : Bool) (s : List ℕ) → barred (separators_in d) s ≡ (d && (stands (0xE2 ∷ 0x80 ∷ 0xA8 ∷ []) s || stands (0xE2 ∷ 0x80 ∷ 0xA9 ∷ []) s))
separators-replaced true s = ap (λ (b : Bool). stands (0xE2 ∷ 0x80 ∷ 0xA8 ∷ []) s || b) (or-false (stands (0xE2 ∷ 0x80 ∷ 0xA9 ∷ []) s))
separators-replaced false s = refl

-- What the code looks at tells whether a replaced character stands there.
pub replaced-here : (c : Context) (x : ℕ) (s : List ℕ) → x < 256 → (begins c x && is_whole (x ∷ s)) ≡ barred (replaced_chars c) (x ∷ s)
replaced-here c x s h =
    ap (λ (b : Bool). b && is_whole (x ∷ s)) (ranges c x h)
    ∙ go (one_of (ones (replaced_chars c)) x) refl (eqb x 0xE2) refl
    ∙ sym (barred-split (replaced_chars c) x s ∙ ap (λ (b : Bool). one_of (ones (replaced_chars c)) x || b) (ap (λ (ks : List (List ℕ)). barred ks (x ∷ s)) (longs-of c) ∙ separators-replaced (separates c) (x ∷ s)))
  where
    go : (o : Bool) → one_of (ones (replaced_chars c)) x ≡ o → (e : Bool) → eqb x 0xE2 ≡ e
        → ((o || (e && separates c)) && (not e || (stands (0xE2 ∷ 0x80 ∷ 0xA8 ∷ []) (x ∷ s) || stands (0xE2 ∷ 0x80 ∷ 0xA9 ∷ []) (x ∷ s))))
        ≡ (o || (separates c && (stands (0xE2 ∷ 0x80 ∷ 0xA8 ∷ []) (x ∷ s) || stands (0xE2 ∷ 0x80 ∷ 0xA9 ∷ []) (x ∷ s))))
    go true p true q =
        absurd (subst T (no_other c) (subst (λ (x : ℕ). T (one_of (ones (replaced_chars c)) x)) (eqb→eq x 0xE2 (subst T (sym q) tt)) (subst T (sym p) tt)))
    go true p false q = refl
    go false p true q = refl
    go false p false q = rw (eqb_comm 0xE2 x ∙ q) (sym (and-false (separates c)))

-- ---- what the reader does there

-- A row's value begins with a replaced character.
values-replaced : (c : Context) → T (all (λ (e : Row). barred (replaced_chars c) (value e)) (rows c))
values-replaced = every (λ (c : Context). all (λ (e : Row). barred (replaced_chars c) (value e)) (rows c)) tt

-- So no row stands where no such character does.
no_row : (c : Context) (s : List ℕ) → barred (replaced_chars c) s ≡ false → row_at value (rows c) s ≡ none
no_row c s e = first-none (λ (row : Row). stands (value row)) (rows c) s (λ row i t. subst T e (there row i t))
  where
    there : (row : Row) → In row (rows c) → T (stands (value row) s) → T (barred (replaced_chars c) s)
    there row i t =
        let v = value row in
        let (k, j, h) = any-in (λ (k : List ℕ). stands k v) (replaced_chars c) (all_in (λ (e : Row). barred (replaced_chars c) (value e)) (rows c) (values-replaced c) row i) in
        let (r₁, e₁) = stands-split v s t in
        let (r₂, e₂) = stands-split k v h in
        any-intro (λ (k : List ℕ). stands k s) (replaced_chars c) k j
        (subst (λ (l : List ℕ). T (stands k l)) (sym (e₁ ∙ ap (λ (v : List ℕ). v ++ r₁) e₂ ∙ append_assoc k r₂ r₁)) (stands_self k (r₂ ++ r₁)))

module _ (c : Context) (p : ℕ) where
  -- Where no replaced character stands, the byte is kept.
  pub keeps-plain : (x : ℕ) (s : List ℕ) → barred (replaced_chars c) (x ∷ s) ≡ false → byte_step c p (x ∷ s) ≡ keep (x ∷ [])
  unfolding byte_step
  keeps-plain x s e = (λ i. undo (no_row c (x ∷ s) e i) (unless (e i) (keep (x ∷ []))))

  -- A unit that is found gives way to its character.
  pub takes-unit : (s : List ℕ) (e : Escape) → Finds (rows c) s (Some e) → byte_step c p s ≡ swap (take e.taken s) (utf8 e.character)
  unfolding byte_step
  takes-unit s e f = f.undoes (unless (barred (replaced_chars c) s) (keep_byte s))

  -- Where one does and no unit is found, nothing can be taken.
  pub stops-there : (s : List ℕ) → barred (replaced_chars c) s ≡ true → Finds (rows c) s None → byte_step c p s ≡ stop 4
  unfolding byte_step
  stops-there s e f = f.undoes (unless (barred (replaced_chars c) s) (keep_byte s)) ∙ ap (λ (b : Bool). unless b (keep_byte s)) e

module _ (c : Context) (t : List ℕ) (bytes : (k : ℕ) → get_or t k 0 < 256) (leads : List ℕ) (right : Leads c (is_lead leads)) where
  -- At a place of a text.
  pub replaced-there : (k : ℕ) → k < length t → replaced_at leads t k ≡ barred (replaced_chars c) (drop k t)
  replaced-there k h =
      ap (λ (b : Bool). b && is_whole (drop k t)) (right (get_or t k 0) (bytes k)) ∙ rw (drop-next t k h) (replaced-here c (get_or t k 0) (drop (k + 1) t) (bytes k))

  -- Up to the next replaced character each byte is kept.
  pub clear-keeps : (i r : ℕ) → First (replaced_at leads t) (length t) i r → Keeps (byte_step c) t i r
  clear-keeps i r f k h l =
      let b : k < length t = omega (arith, f.within) in
      let d = drop-next t k b in
      rw d (keeps-plain c (before t k) (get_or t k 0) (drop (k + 1) t) (rw d at (sym (replaced-there k b) ∙ f.none k h l)))

-- ---- the byte that units begin with

module _ (c : Context) where
  -- Every value begins with it, and it is a replaced character.
  marks : T (all (has 0 (λ (b : ℕ). eqb b (mark_of c))) (rows c))
  marks = every (λ (c : Context). all (has 0 (λ (b : ℕ). eqb b (mark_of c))) (rows c)) tt c

  mark-replaced : (s : List ℕ) → barred (replaced_chars c) (mark_of c ∷ s) ≡ true
  mark-replaced s = T→true (barred (replaced_chars c) (mark_of c ∷ s))
      (any-intro (λ (k : List ℕ). stands k (mark_of c ∷ s)) (replaced_chars c) (mark_of c ∷ []) (same_in (mark_of c ∷ []) (replaced_chars c) (every (λ (c : Context). any (same_bytes (mark_of c ∷ [])) (replaced_chars c)) tt c)) (stands_self (mark_of c ∷ []) s))

-- A unit of n bytes at place i gives way to its character, and is within the text.
pub record UnitAt (c : Context) (t : List ℕ) (i n ch : ℕ) : Type 0 where
  pub moves : byte_step c (before t i) (drop i t) ≡ swap (take n (drop i t)) (utf8 ch)
  pub some : 1 ≤ n
  pub ends : i + n ≤ length t
  pub shorter : length (utf8 ch) ≤ n
  pub scalar : ch ≤ 0x10FFFF

module _ (c : Context) (t : List ℕ) (i : ℕ) (h : i < length t) where
  -- That is the move where one is found.
  pub unit-here : (e : Escape) → Finds (rows c) (drop i t) (Some e) → UnitAt c t i e.taken e.character
  unit-here e f =
      let w = within-rest t i e f.within in
      record { moves = takes-unit c (before t i) (drop i t) e f; some = w.0; ends = w.1; shorter = w.2; scalar = w.3 }

  -- Where none stands at that byte, nothing can be taken,
  pub no-unit-here : get_or t i 0 ≡ mark_of c → Finds (rows c) (drop i t) None → byte_step c (before t i) (drop i t) ≡ stop 4
  no-unit-here m f = stops-there c (before t i) (drop i t) (rw (drop-next t i h, m) (mark-replaced c (drop (i + 1) t))) f

  -- nor at another replaced character.
  pub no-mark-here : (bytes : (k : ℕ) → get_or t k 0 < 256) (leads : List ℕ) → Leads c (is_lead leads) → (get_or t i 0 ≡ mark_of c → ⊥) → First (replaced_at leads t) (length t) i i
      → byte_step c (before t i) (drop i t) ≡ stop 4
  no-mark-here bytes leads right m f =
      stops-there c (before t i) (drop i t) (sym (replaced-there c t bytes leads right i h) ∙ f.here h)
      (finds-none (none-there 0 (λ (b : ℕ). eqb b (mark_of c)) (rows c) (marks c) (drop i t) (rw (drop-next t i h) (ne_eqb (get_or t i 0) (mark_of c) m))))
