-- A field that passes, from its copy to what is printed: the copy is the field, so the layers and the last text are its own.
-- Assumes nothing.
use mathlib.Core.Path.{◌≡◌, sym, ap, ◌∙◌, subst}
use mathlib.Core.List.{List, ◌++◌}
use Prim.Native.Nat.{ℕ}
use lib.ListN.{length as size, take, drop}
use lib.Seq.{take-append_seam}
use Rattle.rules.specs.Bytes.{ascii, over}
use Rattle.rules.specs.Program.{decimal}
use Rattle.rules.specs.declared.AnyContext.{AnyContext}
use Rattle.repairs.specs.Repair.{writing, layers, core, status_of, mended}
use Rattle.repairs.specs.Layers.{PeeledOff, Writable}
use Rattle.repairs.specs.declared.Peeled.{Peeled}
use Rattle.repairs.proofs.Peeling.{writable}

module _ (n : AnyContext) (t empty field last : List ℕ) (r : ℕ) (p : Peeled) (long : r ≡ size t) (copied : field ≡ over t empty) (off : PeeledOff n (take r field) p last) where
  -- The copy is the field.
  same : take r field ≡ t
  same = (λ i. take (long i) (copied i)) ∙ take-append_seam t (drop (size t) empty)

  many : p.layers ≡ layers 4 n t
  many = off.0 ∙ ap (λ (x : List ℕ). layers 4 n x) same

  below : take p.length last ≡ core 4 n t
  below = off.1 ∙ ap (λ (x : List ℕ). core 4 n x) same

  -- encode takes the last text.
  pub last-writable : status_of n t ≡ 0 → Writable n (take p.length last)
  last-writable e = subst (λ (x : List ℕ). Writable n x) (sym below) (writable n t e).0

  -- What is printed of it is what is to be printed of the field.
  pub last-printed : ascii "layers=" ++ decimal p.layers ++ ascii "\ntext=" ++ writing n (take p.length last) ≡ mended n t
  last-printed = λ i. ascii "layers=" ++ decimal (many i) ++ ascii "\ntext=" ++ writing n (below i)
