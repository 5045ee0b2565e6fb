-- browse gives a text that ascii_quoted has written back exactly if the text has none of the 27 characters whose numbers browse takes for others. Each unit
-- is read by itself, since it ends in `;`: by name it stands for its character, and by number for what browse takes the number for.
-- The law is stated of any rule that keeps every byte but `&` and reads each reference that ends in `;`, and then of browse.
-- Assumes nothing.
use mathlib.Core.Bool.{Bool, true, false, not, ◌&&◌, cond}
use mathlib.Core.Logic.{◌↔◌, inl, inr}
use mathlib.Core.Option.{Option, none, some, none-ne-some}
use mathlib.Core.Path.{◌≡◌, refl, sym, ap, ◌∙◌, subst}
use mathlib.Core.List.{List, [], ◌∷◌, ◌++◌, map, append_assoc}
use Prim.Native.Nat.{ℕ, suc, pred, ◌≤◌}
use native.Mathlib.Omega.{arith}
use borrow.Author.Tests.{ne_eqb, eq-eqb}
use lib.Dec.{T, eqb, leb, eqb→eq, leb→le, lt→ltb, T_not}
use lib.ListN.{length, drop}
use lib.Seq.{drop_at}
use Rattle.rules.specs.Bytes.{ascii, In, All, all, stands, join, inside}
use Rattle.rules.specs.Moves.{Move, keep, swap, leave, stop, takes, gives, Rule, taken, result, through}
use Rattle.rules.specs.Utf8.{IsChar, IsText, IsFree, utf8, code_of, substitute}
use Rattle.rules.specs.Tables.{Row, value, rows, replaced_chars}
use Rattle.rules.specs.Names.{names}
use Rattle.rules.specs.Ascii.{name_of, is_high, body_for, refer_to}
use Rattle.rules.specs.Units.{IsUnit, IsRun}
use Rattle.rules.specs.References.{scalar, meaning, browse_char, renumbering, renumbered, stands_for}
use Rattle.rules.specs.Operations.{encode_of, browse_of}
use Rattle.rules.specs.declared.Reason.{Reason}
use Rattle.rules.specs.declared.Context.TheVariants.{InAscii}
use Rattle.rules.proofs.Tests.{and_left, and_right, all_in, in_map, map-in, same_in}
use Rattle.rules.proofs.Machine.{Makes, Follows, singly, cut-moves, result-cut}
use Rattle.rules.proofs.Chars.{is_tail, char-unique, char-singly, pred_of}
use Rattle.rules.proofs.Characters.{utf8-char}
use Rattle.rules.proofs.CharNumbers.{utf8-code, code-scalar, code-high, code-utf8}
use Rattle.rules.proofs.Tables.{bar-stops}
use Rattle.rules.proofs.Every.{values-code}
use Rattle.rules.proofs.Numbers.{stands-out, stands-scalar}
use Rattle.rules.specs.Browsing.{at_amp, browse_step}
use Rattle.rules.specs.declared.Kind.{Kind}
use Rattle.rules.proofs.Search.{body-some}
use Rattle.rules.proofs.Browsing.{browse-quiet, body_alike}
use Rattle.rules.proofs.Ascii.{high-char, rule-high, is_bodily, body-bodily, body-means, rule-long}
use Rattle.rules.proofs.Encoder.{encode-run, unit-of, wide}

-- ---- what browse takes a character's number for

-- The character that browse gives for the number of a.
abbrev pub browsed : List ℕ → List ℕ
browsed a = utf8 (stands_for renumbering (code_of a))

-- Each of the 27 numbers stands for another; its character is above 7F and has no name.
abbrev is_moved : ℕ → Bool
is_moved n = not (eqb (stands_for renumbering n) n) && (is_high (utf8 n) && (elim (name_of (utf8 n)) [ none ↦ true | some m ↦ false ] && leb n 0x10FFFF))

all_moved : T (all is_moved renumbered)
unfolding renumbering names name_of
all_moved = tt

-- A character whose number is none of the 27 stays.
same-browsed : (a : List ℕ) → IsChar a → (In (code_of a) renumbered → ⊥) → browsed a ≡ a
same-browsed a c h = ap utf8 (stands-out renumbering (code_of a) h) ∙ utf8-code a c

module _ (a : List ℕ) (c : IsChar a) (i : In (code_of a) renumbered) where
  moved : T (is_moved (code_of a))
  moved = all_in is_moved renumbered all_moved (code_of a) i

  rest : T (is_high (utf8 (code_of a)) && (elim (name_of (utf8 (code_of a))) [ none ↦ true | some m ↦ false ] && leb (code_of a) 0x10FFFF))
  rest = and_right (not (eqb (stands_for renumbering (code_of a)) (code_of a))) (is_high (utf8 (code_of a)) && (elim (name_of (utf8 (code_of a))) [ none ↦ true | some m ↦ false ] && leb (code_of a) 0x10FFFF)) moved

  -- One whose number is, is above 7F,
  moved-high : T (is_high a)
  moved-high = subst (λ (b : List ℕ). T (is_high b)) (utf8-code a c) (and_left (is_high (utf8 (code_of a))) (elim (name_of (utf8 (code_of a))) [ none ↦ true | some m ↦ false ] && leb (code_of a) 0x10FFFF) rest)

  -- has no name,
  moved-unnamed : (m : List ℕ) → name_of a ≡ some m → ⊥
  moved-unnamed m e =
      subst (λ (o : Option (List ℕ)). T (elim o [ none ↦ true | some m ↦ false ])) (ap name_of (utf8-code a c) ∙ e)
      (and_left (elim (name_of (utf8 (code_of a))) [ none ↦ true | some m ↦ false ]) (leb (code_of a) 0x10FFFF)
      (and_right (is_high (utf8 (code_of a))) (elim (name_of (utf8 (code_of a))) [ none ↦ true | some m ↦ false ] && leb (code_of a) 0x10FFFF) rest))

  -- and does not stay.
  moved-away : browsed a ≡ a → ⊥
  moved-away e =
      let top : stands_for renumbering (code_of a) ≤ 0x10FFFF = leb→le (stands_for renumbering (code_of a)) 0x10FFFF (and_left (leb (stands_for renumbering (code_of a)) 0x10FFFF) (not (inside (0xD800, 0xDFFF) (stands_for renumbering (code_of a)))) (stands-scalar (code_of a) (code-scalar a c))) in
      let same : stands_for renumbering (code_of a) ≡ code_of a = sym (code-utf8 (stands_for renumbering (code_of a)) top) ∙ ap code_of e in
      T_not (eqb (stands_for renumbering (code_of a)) (code_of a))
      (and_left (not (eqb (stands_for renumbering (code_of a)) (code_of a))) (is_high (utf8 (code_of a)) && (elim (name_of (utf8 (code_of a))) [ none ↦ true | some m ↦ false ] && leb (code_of a) 0x10FFFF)) moved)
      (subst T (sym (eq-eqb (stands_for renumbering (code_of a)) (code_of a) same)) tt)

-- A character is one of the 27 exactly if its number is.
number_in : (a : List ℕ) → IsChar a → In (code_of a) renumbered → In a (map utf8 renumbered)
number_in a c i = subst (λ (b : List ℕ). In b (map utf8 renumbered)) (utf8-code a c) (map-in utf8 (code_of a) renumbered i)

in-number : (a : List ℕ) → In a (map utf8 renumbered) → In (code_of a) renumbered
in-number a i =
    let (n, j, e) = in_map utf8 a renumbered i in
    let t = all_in is_moved renumbered all_moved n j in
    let top = and_right (elim (name_of (utf8 n)) [ none ↦ true | some m ↦ false ]) (leb n 0x10FFFF) (and_right (is_high (utf8 n)) (elim (name_of (utf8 n)) [ none ↦ true | some m ↦ false ] && leb n 0x10FFFF) (and_right (not (eqb (stands_for renumbering n) n)) (is_high (utf8 n) && (elim (name_of (utf8 n)) [ none ↦ true | some m ↦ false ] && leb n 0x10FFFF)) t)) in
    subst (λ (m : ℕ). In m renumbered) (sym (ap code_of e ∙ code-utf8 n (leb→le n 0x10FFFF top))) j

-- What browse reads the number of a character above 7F as.
browse-high : (a : List ℕ) → T (is_high a) → browse_char (code_of a) ≡ some (browsed a)
browse-high a t =
    let (c, l) = high-char a t in
    ap (λ (b : Bool). some (cond (b && not (eqb (code_of a) 0)) (browsed a) substitute)) (yes (scalar (code_of a)) (code-scalar a c))
    ∙ ap (λ (b : Bool). some (cond (not b) (browsed a) substitute)) (ne_eqb (code_of a) 0 (let h = code-high a c l in λ e. omega arith))
  where
    yes : (b : Bool) → T b → b ≡ true
    yes true t = refl
    yes false t = absurd t

-- What it reads the body that is written for it as.
pub body-browsed : (a : List ℕ) → T (is_high a) → meaning browse_char (body_for a) ≡ some (browsed a)
body-browsed a t =
    body-means browse_char a (browsed a) t (λ m q. sym (same-browsed a (high-char a t).0 (λ i. moved-unnamed a (high-char a t).0 i m q))) (λ q. browse-high a t)

-- A character that is none of the 27 stays.
pub free-browsed : (a : List ℕ) → IsChar a → (In a (map utf8 renumbered) → ⊥) → browsed a ≡ a
free-browsed a c h = same-browsed a c (λ i. h (number_in a c i))

-- ---- a rule that reads references

-- A row of the context: its body, which stands for its key.
abbrev Refers : Row → Type 0
Refers (k, v) = (body : List ℕ) × (v ≡ 38 ∷ (body ++ ascii ";")) × T (all is_bodily body) × (meaning browse_char body ≡ some k) × (browsed k ≡ k)

row-refers : (row : Row) → In row (rows InAscii) → Refers row
unfolding names renumbering
row-refers row (inl e) = subst Refers (sym e) (ascii "amp", refl, tt, refl, refl)
row-refers row (inr (inl e)) = subst Refers (sym e) (ascii "lt", refl, tt, refl, refl)
row-refers row (inr (inr (inl e))) = subst Refers (sym e) (ascii "gt", refl, tt, refl, refl)
row-refers row (inr (inr (inr (inl e)))) = subst Refers (sym e) (ascii "quot", refl, tt, refl, refl)
row-refers row (inr (inr (inr (inr (inl e))))) = subst Refers (sym e) (ascii "#x27", refl, tt, refl, refl)
row-refers row (inr (inr (inr (inr (inr i))))) = absurd i

abbrev IsKeep : Move → Type 0
IsKeep (keep a) = Unit {0}
IsKeep (swap a b) = ⊥
IsKeep (leave r a) = ⊥
IsKeep (stop w) = ⊥

abbrev IsLeave : Move → Type 0
IsLeave (keep a) = ⊥
IsLeave (swap a b) = ⊥
IsLeave (leave r a) = Unit {0}
IsLeave (stop w) = ⊥

-- The unit as it is browsed.
abbrev change : Move → Move
change (keep a) = keep a
change (swap v k) = swap v (browsed k)
change (leave r a) = leave r a
change (stop w) = stop w

abbrev IsChanged : Move → Type 0
IsChanged m = (u : Move) × IsUnit InAscii (rows InAscii) u × (m ≡ change u)

taken-change : (us : List Move) → taken (map change us) ≡ taken us
taken-change [] = refl
taken-change (keep a ∷ us) = ap (λ (s : List ℕ). a ++ s) (taken-change us)
taken-change (swap v k ∷ us) = ap (λ (s : List ℕ). v ++ s) (taken-change us)
taken-change (leave r a ∷ us) = ap (λ (s : List ℕ). a ++ s) (taken-change us)
taken-change (stop w ∷ us) = taken-change us

changed : (us : List Move) → IsRun InAscii us → All IsChanged (map change us)
changed [] g = tt
changed (u ∷ us) g = ((u, g.0, refl), changed us g.1)

-- A plain character stays.
plain-browsed : (a : List ℕ) → IsUnit InAscii (rows InAscii) (keep a) → browsed a ≡ a
plain-browsed a u = same-browsed a u.0 (λ i. none-ne-some (refer_to a) (sym u.2 ∙ written (is_high a) (moved-high a u.0 i)))
  where
    written : (b : Bool) → T b → cond b (some (refer_to a)) none ≡ some (refer_to a)
    written true t = refl
    written false t = absurd t

-- Each character of a text has its unit, which gives the character as it is browsed.
unit-browsed : (u : Move) (a : List ℕ) → IsUnit InAscii (rows InAscii) u → gives u ≡ a → gives (change u) ≡ browsed a
unit-browsed (keep b) a u e = sym (plain-browsed b u) ∙ ap browsed e
unit-browsed (swap v k) a u e = ap browsed e
unit-browsed (leave r b) a u e = absurd u
unit-browsed (stop w) a u e = absurd u

units-browsed : (cs : List (List ℕ)) → All IsChar cs
    → (us : List Move) × IsRun InAscii us × (join cs ≡ result us) × (result (map change us) ≡ join (map browsed cs))
units-browsed [] h = ([], tt, refl, refl)
units-browsed (a ∷ cs) h =
    let (u, i, e) = unit-of InAscii a h.0 in
    let (us, g, q, f) = units-browsed cs h.1 in
    (u ∷ us, (i, g), (λ i. sym e i ++ q i), λ j. unit-browsed u a i e j ++ f j)

-- ---- two texts are equal only character by character

cancel : (a x y : List ℕ) → a ++ x ≡ a ++ y → x ≡ y
cancel a x y e = sym (drop_at a x (length a) refl) ∙ ap (drop (length a)) e ∙ drop_at a y (length a) refl

all_stay : (cs : List (List ℕ)) → All IsChar cs → join (map browsed cs) ≡ join cs → All (λ (a : List ℕ). In a (map utf8 renumbered) → ⊥) cs
all_stay [] h e = tt
all_stay (a ∷ cs) h e =
    let c : IsChar (browsed a) = utf8-char (stands_for renumbering (code_of a)) (stands-scalar (code_of a) (code-scalar a h.0)) in
    let w : browsed a ≡ a = char-unique (browsed a) a (join (map browsed cs)) (join cs) c h.0 e in (
      (λ i. moved-away a h.0 (in-number a i) w),
      all_stay cs h.1 (cancel a (join (map browsed cs)) (join cs) (ap (λ (b : List ℕ). b ++ join (map browsed cs)) (sym w) ∙ e)),
    )

stay_all : (cs : List (List ℕ)) → All IsChar cs → All (λ (a : List ℕ). In a (map utf8 renumbered) → ⊥) cs → join (map browsed cs) ≡ join cs
stay_all [] h b = refl
stay_all (a ∷ cs) h b = λ i. free-browsed a h.0 b.0 i ++ stay_all cs h.1 b.1 i

-- ---- the law

module _ (rule : Rule) (quiet : (p x : ℕ) (s : List ℕ) → (T (eqb x 38) → ⊥) → rule p (x ∷ s) ≡ keep (x ∷ []))
    (refers : (p : ℕ) (body v r : List ℕ) → T (all is_bodily body) → meaning browse_char body ≡ some v → rule p (38 ∷ (body ++ 59 ∷ r)) ≡ swap (38 ∷ (body ++ ascii ";")) v) where
  keeps : (a : List ℕ) → IsUnit InAscii (rows InAscii) (keep a) → (r : List ℕ) → Follows rule (singly a) r
  keeps [] u r = tt
  keeps (x ∷ a) u r =
      char-singly rule (λ p y s t. quiet p y s (λ e. subst (λ (z : ℕ). T (is_tail z)) (eqb→eq y 38 e) t)) x a r u.0
      (λ p. quiet p x (a ++ r)
      (λ t. bar-stops value (rows InAscii) (replaced_chars InAscii) (values-code InAscii) (x ∷ a) r (u.0, u.1) (38 ∷ []) (same_in (38 ∷ []) (replaced_chars InAscii) tt)
      (subst (λ (y : ℕ). T (stands (38 ∷ []) (y ∷ (a ++ r)))) (sym (eqb→eq x 38 t)) tt)))

  -- A reference whose body stands for k.
  reads : (body v k r : List ℕ) → v ≡ 38 ∷ (body ++ ascii ";") → T (all is_bodily body) → meaning browse_char body ≡ some k → (p : ℕ) → rule p (v ++ r) ≡ swap v k
  reads body v k r e b m p =
      subst (λ (v : List ℕ). rule p (v ++ r) ≡ swap v k) (sym e)
      (ap (λ (s : List ℕ). rule p (38 ∷ s)) (append_assoc body (ascii ";") r) ∙ refers p body k r b m)

  swaps : (v k : List ℕ) → IsUnit InAscii (rows InAscii) (swap v k) → (r : List ℕ) (p : ℕ) → rule p (v ++ r) ≡ swap v (browsed k)
  swaps v k (inl i) r p = let (body, e, b, m, s) = row-refers (k, v) i in reads body v k r e b m p ∙ ap (swap v) (sym s)
  swaps v k (inr w) r p =
      let (t, e) = rule-high k v w in
      reads (body_for k) v (browsed k) r (sym e) (body-bodily k) (body-browsed k t) p

  long : (v k : List ℕ) → IsUnit InAscii (rows InAscii) (swap v k) → length v ≡ suc (pred (length v))
  long v k (inl i) = let (body, e, b, m, s) = row-refers (k, v) i in subst (λ (v : List ℕ). length v ≡ suc (pred (length v))) (sym e) refl
  long v k (inr w) = pred_of (length v) (lt→ltb 0 (length v) (rule-long InAscii k v w))

  -- Through a form the rule makes these moves, byte by byte.
  through-form : (us : List Move) → IsRun InAscii us → result (through rule (taken us)) ≡ result (map change us)
  through-form us g =
      ap (λ (s : List ℕ). result (through rule s)) (sym (taken-change us))
      ∙ ap result (cut-moves rule IsChanged kept swapped (λ w a h. none_left w a h) 0 (map change us) (changed us g))
      ∙ result-cut (map change us)
    where
      kept : (a : List ℕ) → IsChanged (keep a) → (r : List ℕ) → Follows rule (singly a) r
      kept a (keep b, u, e) r = subst (λ (m : List ℕ). Follows rule (singly m) r) (sym (ap takes e)) (keeps b u r)
      kept a (swap v k, u, e) r = absurd (subst IsKeep e tt)
      kept a (leave w b, u, e) r = absurd u
      kept a (stop w, u, e) r = absurd u

      swapped : (a b : List ℕ) → IsChanged (swap a b) → (r : List ℕ) → Makes rule (swap a b) r
      swapped a b (keep c, u, e) r = absurd (subst IsKeep (sym e) tt)
      swapped a b (swap v k, u, e) r =
          subst (λ (m : Move). Makes rule m r) (sym e) (pred (length v), long v k u, swaps v k u r)
      swapped a b (leave w c, u, e) r = absurd u
      swapped a b (stop w, u, e) r = absurd u

      none_left : (w : Reason) (a : List ℕ) → IsChanged (leave w a) → ⊥
      none_left w a (keep c, u, e) = subst IsLeave e tt
      none_left w a (swap v k, u, e) = subst IsLeave e tt
      none_left w a (leave z c, u, e) = u
      none_left w a (stop z, u, e) = u

  -- The characters of a text, each as it is browsed.
  through-text : (cs : List (List ℕ)) → All IsChar cs → result (through rule (encode_of InAscii (join cs))) ≡ join (map browsed cs)
  through-text cs h = go (units-browsed cs h)
    where
      go : (us : List Move) × IsRun InAscii us × (join cs ≡ result us) × (result (map change us) ≡ join (map browsed cs)) → result (through rule (encode_of InAscii (join cs))) ≡ join (map browsed cs)
      go (us, g, e, f) =
          ap (λ (s : List ℕ). result (through rule s)) (ap (encode_of InAscii) e ∙ encode-run InAscii us (wide InAscii us g)) ∙ through-form us g ∙ f

  -- The law: it is the text exactly if no character is one of the 27.
  pub back-iff : (t : List ℕ) → IsText t → (result (through rule (encode_of InAscii t)) ≡ t) ↔ IsFree (map utf8 renumbered) t
  back-iff t (cs, h, e) = (
    λ q. (cs, h, all_stay cs h (sym (through-text cs h) ∙ ap (λ (s : List ℕ). result (through rule (encode_of InAscii s))) (sym e) ∙ q ∙ e), e),
    λ f. let (ds, i, b, w) = f in ap (λ (s : List ℕ). result (through rule (encode_of InAscii s))) w ∙ through-text ds i ∙ stay_all ds i b ∙ sym w,
  )

-- ---- browse

bodily-not : (body : List ℕ) (b : ℕ) → (T (is_bodily b) → ⊥) → T (all is_bodily body) → (x : ℕ) → In x body → T (eqb x b) → ⊥
bodily-not body b h t x i e = h (subst (λ (y : ℕ). T (is_bodily y)) (eqb→eq x b e) (all_in is_bodily body t x i))

-- browse returns a text that ascii_quoted has written exactly if it has none of the 27 characters.
pub browse-back-iff : (kind : Kind) (t : List ℕ) → IsText t → (browse_of kind (encode_of InAscii t) ≡ t) ↔ IsFree (map utf8 renumbered) t
unfolding browse_step
browse-back-iff kind =
    back-iff (browse_step kind) (browse-quiet kind)
    (λ p body v r b m. ap at_amp (body_alike kind (body ++ 59 ∷ r) body v (body-some body r (bodily-not body 38 (λ f. f) b) (bodily-not body 59 (λ f. f) b)) m))
