-- What one turn of a page's loop does, and what so many turns leave.
-- Assumes nothing.
use Rattle.std.specs.Prelude.{cond, List, ℕ, zero, suc, ◌+◌, eqb, ltb, length as size, get_or, set, drop}
use Rattle.std.proofs.Math.Option.{Option, none, some}
use Rattle.rules.specs.Moves.{Rule}
use Rattle.rules.specs.Contexts.{context_of}
use Rattle.rules.specs.Operations.{rule_of}
use Rattle.rules.specs.Refusals.{refusal}
use Rattle.rules.specs.Pages.{single, field_limit, filled_as, answered, Page, output_by}
use Rattle.rules.specs.declared.Answer.{Answer}
use Rattle.rules.specs.declared.Field.{Field}
use Rattle.rules.specs.declared.Filled.{Filled}
use Rattle.rules.specs.declared.Operation.TheVariants.{Encode}
use Rattle.page.specs.declared.Turned.{Turned}

-- How a page of so many records begins.
abbrev pub begun : ℕ → Filled
begun n = cond (ltb field_limit n) (filled_as 1 0) (filled_as 0 n)

-- The refusal of a part outside the text, by the rule of encode in the record's context.
abbrev pub outside_at : Option Rule → Answer
outside_at none = refusal 5 0 0
outside_at (some rule) = refusal 8 0 0

abbrev pub outside_by : ℕ → Answer
outside_by c = outside_at (rule_of Encode (context_of c))

abbrev pub turned_to : Filled → ℕ → Field → Turned
turned_to p end f = record { filled = p; end = end; field = f }

-- The record's call behind the results, by its answer: it passes, or the page stops at it.
abbrev pub turned_by : Answer → Filled → ℕ → ℕ → Field → Turned
turned_by a p end i f =
    cond (eqb a.status 0)
    (turned_to p (end + a.length) (answered f a end))
    (turned_to (filled_as a.status i) end (answered f a 0))

-- A turn: nothing after a refusal.
unfoldable pub turned : List ℕ → Filled → ℕ → ℕ → Field → List ℕ → Turned
turned text p end i f out = cond (eqb p.status 0) (turned_by (single text f (drop end out)) p end i f) (turned_to p end f)

-- The output after it.
unfoldable pub output_after : List ℕ → Filled → ℕ → Field → List ℕ → List ℕ
output_after text p end f out = cond (eqb p.status 0) (output_by text end f out) out

-- A record that is never looked at.
abbrev pub nobody : Field
nobody = record { context = 0; start = 0; length = 0; begins = 0; answer = refusal 0 0 0 }

-- One more turn, for the record i.
abbrev pub next : List ℕ → Page → ℕ → Page
next text p i =
    let t = turned text p.filled p.end i (get_or p.fields i nobody) p.output in
    record {
      fields = set p.fields i t.field;
      output = output_after text p.filled p.end (get_or p.fields i nobody) p.output;
      filled = t.filled;
      end = t.end;
    }

-- What the turns of the first k records leave.
abbrev pub after : List ℕ → List Field → List ℕ → ℕ → Page
after text fs out zero = record { fields = fs; output = out; filled = begun (size fs); end = 0 }
after text fs out (suc k) = next text (after text fs out k) k
