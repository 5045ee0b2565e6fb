-- Records as numbers: where the numbers of records are laid over a list, the i-th record is read at i times ten, and to write it there is to lay the
-- records with that one set.
-- Assumes nothing.
use mathlib.Core.Path.{◌≡◌, refl, sym, ap, ◌∙◌, subst}
use mathlib.Core.List.{List, [], ◌∷◌, ◌++◌, map, append_assoc, append-nil}
use Prim.Native.Nat.{ℕ, zero, suc, ◌+◌, ◌-◌, ◌*◌, ◌/◌, ◌^◌, ◌≤◌, ◌<◌, min}
use native.Mathlib.Numerals.{add-one}
use native.Mathlib.Omega.{arith}
use lib.ListN.{length as size, get_or, set, take, drop, length-append, length-take, length-drop}
use lib.Seq.{drop-append-add, take-append-add, take_all, get_or-take}
use Rattle.rules.specs.Pages.{field_numbers, field_size, field_as, records_of, laid, records_in, Page, page_of, NumbersAllowed}
use Rattle.rules.specs.declared.Field.{Field}
use Rattle.rules.specs.declared.Filled.{Filled}
use Rattle.page.specs.Turns.{begun, turned, output_after, nobody, after}
use Rattle.page.specs.declared.Turned.{Turned}
use Rattle.page.proofs.Turns.{drop_past}
use Rattle.page.proofs.Loop.{kept-fields, kept-output, kept-contexts, after-all}

-- How many records there are, and their contexts.
records-size : (cs l : List ℕ) → size (records_of cs l) ≡ size cs
records-size [] l = refl
records-size (c ∷ cs) l = ap suc (records-size cs (drop field_size l))

pub records-count : (cs l : List ℕ) → size (records_in cs l) ≡ min (size l / field_size) (size cs)
records-count cs l = records-size (take (size l / field_size) cs) l ∙ length-take (size l / field_size) cs

pub records-contexts : (cs l : List ℕ) → map (λ (f : Field). f.context) (records_of cs l) ≡ cs
records-contexts [] l = refl
records-contexts (c ∷ cs) l = ap (λ (r : List ℕ). c ∷ r) (records-contexts cs (drop field_size l))

-- The numbers of the records of a list, laid over it, are the list.
pub records-laid : (cs l : List ℕ) → size cs * field_size ≤ size l → laid (records_of cs l) l ≡ l
records-laid [] l h = refl
records-laid (c ∷ cs) l h = ten l (drop field_size l) refl (omega arith) (records-laid cs (drop field_size l) (subst (λ (k : ℕ). size cs * field_size ≤ k) (sym (length-drop field_size l)) (omega arith)))
  where
    ten : (l r : List ℕ) → drop field_size l ≡ r → field_size ≤ size l → laid (records_of cs r) r ≡ r → field_numbers (field_as c l) ++ laid (records_of cs r) r ≡ l
    ten (x0 ∷ x1 ∷ x2 ∷ x3 ∷ x4 ∷ x5 ∷ x6 ∷ x7 ∷ x8 ∷ x9 ∷ m) r e q ih = ap (λ (m : List ℕ). x0 ∷ x1 ∷ x2 ∷ x3 ∷ x4 ∷ x5 ∷ x6 ∷ x7 ∷ x8 ∷ x9 ∷ m) (ih ∙ sym e)
    ten [] r e q ih = absurd (omega arith)
    ten (x0 ∷ []) r e q ih = absurd (omega arith)
    ten (x0 ∷ x1 ∷ []) r e q ih = absurd (omega arith)
    ten (x0 ∷ x1 ∷ x2 ∷ []) r e q ih = absurd (omega arith)
    ten (x0 ∷ x1 ∷ x2 ∷ x3 ∷ []) r e q ih = absurd (omega arith)
    ten (x0 ∷ x1 ∷ x2 ∷ x3 ∷ x4 ∷ []) r e q ih = absurd (omega arith)
    ten (x0 ∷ x1 ∷ x2 ∷ x3 ∷ x4 ∷ x5 ∷ []) r e q ih = absurd (omega arith)
    ten (x0 ∷ x1 ∷ x2 ∷ x3 ∷ x4 ∷ x5 ∷ x6 ∷ []) r e q ih = absurd (omega arith)
    ten (x0 ∷ x1 ∷ x2 ∷ x3 ∷ x4 ∷ x5 ∷ x6 ∷ x7 ∷ []) r e q ih = absurd (omega arith)
    ten (x0 ∷ x1 ∷ x2 ∷ x3 ∷ x4 ∷ x5 ∷ x6 ∷ x7 ∷ x8 ∷ []) r e q ih = absurd (omega arith)

-- The record of numbers as the code reads them.
pub field-read : (c : ℕ) (l : List ℕ)
    → ◌≡◌ {A = Field} (record { context = c; start = get_or l 0 0; length = get_or l 1 0; begins = get_or l 2 0; answer = record { status = get_or l 3 0; length = get_or l 4 0; same = get_or l 5 0; replaced = get_or l 6 0; place = get_or l 7 0; left = get_or l 8 0; reason = get_or l 9 0 } }) (field_as c l)
field-read c [] = refl
field-read c (x0 ∷ []) = refl
field-read c (x0 ∷ x1 ∷ []) = refl
field-read c (x0 ∷ x1 ∷ x2 ∷ l) = refl

next-record : (i : ℕ) → suc i * field_size ≡ field_size + i * field_size
next-record i = omega arith

-- The i-th record stands at i times ten.
pub read-laid : (fs : List Field) (l : List ℕ) (i : ℕ) → i < size fs → field_as (get_or (map (λ (f : Field). f.context) fs) i 0) (drop (i * field_size) (laid fs l)) ≡ get_or fs i nobody
read-laid [] l i h = absurd (omega arith)
read-laid (f ∷ fs) l zero h = refl
read-laid (f ∷ fs) l (suc i) h =
    ap (λ (k : ℕ). field_as c (drop k (laid (f ∷ fs) l))) (next-record i)
    ∙ ap (field_as c) (drop-append-add (field_numbers f) (laid fs (drop field_size l)) (i * field_size))
    ∙ read-laid fs (drop field_size l) i (omega arith)
  where
    c : ℕ
    c = get_or (map (λ (f : Field). f.context) fs) i 0

-- To write its numbers there is to lay the records with that one set.
pub write-laid : (fs : List Field) (l : List ℕ) (i : ℕ) (g : Field) → i < size fs
    → take (i * field_size) (laid fs l) ++ (field_numbers g ++ drop field_size (drop (i * field_size) (laid fs l))) ≡ laid (set fs i g) l
write-laid [] l i g h = absurd (omega arith)
write-laid (f ∷ fs) l zero g h = refl
write-laid (f ∷ fs) l (suc i) g h =
    ap (λ (k : ℕ). take k (laid (f ∷ fs) l) ++ (field_numbers g ++ drop field_size (drop k (laid (f ∷ fs) l)))) (next-record i)
    ∙ (λ j. take-append-add (field_numbers f) rest (i * field_size) j ++ (field_numbers g ++ drop field_size (drop-append-add (field_numbers f) rest (i * field_size) j)))
    ∙ append_assoc (field_numbers f) (take (i * field_size) rest) (field_numbers g ++ drop field_size (drop (i * field_size) rest))
    ∙ ap (λ (m : List ℕ). field_numbers f ++ m) (write-laid fs (drop field_size l) i g (omega arith))
  where
    rest : List ℕ
    rest = laid fs (drop field_size l)

-- The numbers from a place on, as they are lent.
pub from : (m : List ℕ) (k : ℕ) → take (size m - k) (drop k m) ≡ drop k m
from m k = take_all (size m - k) (drop k m) (subst (λ (j : ℕ). j ≤ size m - k) (sym (length-drop k m)) (omega arith))

-- The same as the code lends the numbers from there on and has them back.
pub wrote-laid : (fs : List Field) (l m last : List ℕ) (i : ℕ) (g : Field) → i < size fs → m ≡ laid fs l
    → last ≡ field_numbers g ++ drop field_size (take (size m - i * field_size) (drop (i * field_size) m))
    → take (i * field_size) m ++ (last ++ drop (size m - i * field_size) (drop (i * field_size) m)) ≡ laid (set fs i g) l
wrote-laid fs l m last i g h e q =
    ap (λ (r : List ℕ). take k m ++ (last ++ r)) (drop_past (size m - k) (drop k m) (subst (λ (j : ℕ). j ≤ size m - k) (sym (length-drop k m)) (omega arith)))
    ∙ ap (λ (r : List ℕ). take k m ++ r) (append-nil last ∙ q ∙ ap (λ (r : List ℕ). field_numbers g ++ drop field_size r) (from m k))
    ∙ ap (λ (m : List ℕ). take k m ++ (field_numbers g ++ drop field_size (drop k m))) e
    ∙ write-laid fs l i g h
  where
    k : ℕ
    k = i * field_size

-- The list keeps its length.
laid-size : (fs : List Field) (l : List ℕ) → size fs * field_size ≤ size l → size (laid fs l) ≡ size l
laid-size [] l h = refl
laid-size (f ∷ fs) l h =
    let less : size fs * field_size ≤ size (drop field_size l) = subst (λ (k : ℕ). size fs * field_size ≤ k) (sym (length-drop field_size l)) (omega arith) in
    let back : field_size + (size l - field_size) ≡ size l = omega arith in
    length-append (field_numbers f) (laid fs (drop field_size l)) ∙ ap (λ (k : ℕ). field_size + k) (laid-size fs (drop field_size l) less ∙ length-drop field_size l) ∙ back

-- ---- the loop over numbers

below : (i count n m : ℕ) → i < count → count ≡ min n m → i < n
below i count n m h e = omega arith

same : (i count n : ℕ) → i ≤ count → count ≤ i → count ≡ n → i ≡ n
same i count n h k e = omega arith

module _ (cs l text out : List ℕ) where
  abbrev fs : List Field
  fs = records_in cs l

  -- What is left after i turns.
  abbrev made : ℕ → Page
  made i = after text fs out i

  -- The loop's state after i turns: there are so many records, and numbers and contexts for them; the rest is what the turns of the records leave.
  pub record Going (count : ℕ) (numbers output : List ℕ) (filled : Filled) (end i : ℕ) : Type 0 where
    pub all : count ≡ size fs
    pub some-numbers : count * field_size ≤ size l
    pub some-contexts : count ≤ size cs
    pub up_to : i ≤ count
    pub as_many : size numbers ≡ size l
    pub filled_is : filled ≡ (made i).filled
    pub end_is : end ≡ (made i).end
    pub output-is : output ≡ (made i).output
    pub numbers-are : numbers ≡ laid (made i).fields l

  pub starts : (count : ℕ) (filled : Filled) → count ≡ min (size l / field_size) (size cs) → filled ≡ begun count → Going count l out filled 0 0
  starts count filled e q = record {
    all = e ∙ sym (records-count cs l);
    some-numbers = enough;
    some-contexts = omega arith;
    up_to = omega arith;
    as_many = refl;
    filled_is = q ∙ ap begun (e ∙ sym (records-count cs l));
    end_is = refl;
    output-is = refl;
    numbers-are = sym (records-laid (take (size l / field_size) cs) l (subst (λ (k : ℕ). k * field_size ≤ size l) (e ∙ sym (length-take (size l / field_size) cs)) enough));
  }
    where
      enough : count * field_size ≤ size l
      enough = omega (arith, e)

  -- One more turn.
  pub goes_on_lem : (count : ℕ) (numbers output : List ℕ) (filled : Filled) (end i : ℕ) (g : Going count numbers output filled end i) → i < count
      → (field : Field) (t : Turned) (o last : List ℕ)
      → field ≡ field_as (get_or cs i 0) (take (size numbers - i * field_size) (drop (i * field_size) numbers))
      → t ≡ turned text filled end i field output → o ≡ output_after text filled end field output
      → last ≡ field_numbers t.field ++ drop field_size (take (size numbers - i * field_size) (drop (i * field_size) numbers))
      → Going count (take (i * field_size) numbers ++ (last ++ drop (size numbers - i * field_size) (drop (i * field_size) numbers))) o t.filled t.end (i + 1)
  goes_on_lem count numbers output filled end i g h field t o last read turn wrote store =
      subst (Going count _ o t.filled t.end) (sym (add-one i))
      (record {
        all = g.all;
        some-numbers = g.some-numbers;
        some-contexts = g.some-contexts;
        up_to = h;
        as_many = ap size written ∙ laid-size (made (suc i)).fields l (subst (λ (k : ℕ). k * field_size ≤ size l) (g.all ∙ sym (kept-fields text fs out (suc i))) g.some-numbers);
        filled_is = ap (λ (t : Turned). t.filled) turned-is;
        end_is = ap (λ (t : Turned). t.end) turned-is;
        output-is = wrote ∙ (λ j. output_after text (g.filled_is j) (g.end_is j) (field_is j) (g.output-is j));
        numbers-are = written;
      })
    where
      within : i < size (made i).fields
      within = subst (λ (k : ℕ). i < k) (g.all ∙ sym (kept-fields text fs out i)) h

      context-is : get_or cs i 0 ≡ get_or (map (λ (f : Field). f.context) (made i).fields) i 0
      context-is =
          sym (get_or-take (size l / field_size) cs i 0 (below i count (size l / field_size) (size cs) h (g.all ∙ records-count cs l)))
          ∙ ap (λ (m : List ℕ). get_or m i 0) (sym (kept-contexts text fs out i ∙ records-contexts (take (size l / field_size) cs) l))

      field_is : field ≡ get_or (made i).fields i nobody
      field_is =
          read ∙ ap (field_as (get_or cs i 0)) (from numbers (i * field_size) ∙ ap (drop (i * field_size)) g.numbers-are)
          ∙ ap (λ (c : ℕ). field_as c (drop (i * field_size) (laid (made i).fields l))) context-is
          ∙ read-laid (made i).fields l i within

      turned-is : t ≡ turned text (made i).filled (made i).end i (get_or (made i).fields i nobody) (made i).output
      turned-is = turn ∙ (λ j. turned text (g.filled_is j) (g.end_is j) i (field_is j) (g.output-is j))

      written : take (i * field_size) numbers ++ (last ++ drop (size numbers - i * field_size) (drop (i * field_size) numbers)) ≡ laid (made (suc i)).fields l
      written = wrote-laid (made i).fields l numbers last i t.field within g.numbers-are store ∙ ap (λ (t : Turned). laid (set (made i).fields i t.field) l) turned-is

  -- The place of the record in memory, by bytes, is a number, and the output keeps its length.
  pub place-fits : (count : ℕ) (numbers output : List ℕ) (filled : Filled) (end i : ℕ) → Going count numbers output filled end i → i < count → size l * 8 < 2 ^ 63 → i * field_size * 8 < 2 ^ 64
  place-fits count numbers output filled end i g h q = let k = g.some-numbers in omega arith

  pub output-kept : (count : ℕ) (numbers output : List ℕ) (filled : Filled) (end i : ℕ) → Going count numbers output filled end i → size output ≡ size out
  output-kept count numbers output filled end i g = ap size g.output-is ∙ kept-output text fs out i

  -- After all turns it is the page.
  pub ends : (count : ℕ) (numbers output : List ℕ) (filled : Filled) (end i : ℕ) → Going count numbers output filled end i → count ≤ i → NumbersAllowed text cs l out filled numbers output
  ends count numbers output filled end i g h =
      (g.filled_is ∙ ap (λ (p : Page). p.filled) page, g.numbers-are ∙ ap (λ (p : Page). laid p.fields l) page, g.output-is ∙ ap (λ (p : Page). p.output) page)
    where
      whole : i ≡ size fs
      whole = same i count (size fs) g.up_to h g.all

      page : made i ≡ page_of text fs out
      page = ap made whole ∙ after-all text fs out
