-- All but the last seven bytes, and then these: what the first spill the last write over, since they give at least seven.
-- Assumes nothing.
use mathlib.Core.List.{List}
use mathlib.Core.Path.{sym, ap, ◌∙◌}
use Prim.Native.Nat.{ℕ, ◌-◌}
use native.Mathlib.Omega.{arith}
use lib.ListN.{length, take, drop, length-drop}
use lib.Seq.{length-take-le}
use Rattle.rules.specs.Bytes.{over}
use Rattle.rules.specs.Operations.{encode_of}
use Rattle.rules.specs.declared.Context.TheVariants.{InHtml}
use Rattle.rules.specs.declared.Html.{Html}
use Rattle.base.proofs.Filled.{lent-rest}
use Rattle.base.proofs.Spilt.{over-spilt}
use Rattle.encode_html.proofs.Text.{halves, half-sizes}
use Rattle.encode_html.proofs.write.Goals as goal

pub slice_bounds-write_most-end : goal.slice_bounds-write_most-end
slice_bounds-write_most-end c = sym (length-take-le _ _ (omega arith))

pub write_most-at-requires : goal.write_most-at-requires
write_most-at-requires c =
    let s = c in
    let a = s.args in
    let t = a.text.now in omega (arith, half-sizes c.words_of-w.result.html t (length t - 7), s.requires.text_in_bounds, ap (λ (h : Html). length (encode_of (InHtml h) c.args.text.now)) c.words_of-w.ensures)

pub slice_bounds-write_exactly-count-2 : goal.slice_bounds-write_exactly-count-2
slice_bounds-write_exactly-count-2 c =
    let s = c in
    let a = s.args in
    let t = a.text.now in
    let m = c.write_most-at in
    omega (arith, half-sizes c.words_of-w.result.html t (length t - 7), s.requires.text_in_bounds, ap (λ (h : Html). length (encode_of (InHtml h) c.args.text.now)) c.words_of-w.ensures, m.ensures.value, m.auto.output)

pub slice_bounds-write_exactly-start-2 : goal.slice_bounds-write_exactly-start-2
slice_bounds-write_exactly-start-2 c =
    let s = c in
    let a = s.args in
    let t = a.text.now in
    let m = c.write_most-at in
    omega (arith, half-sizes c.words_of-w.result.html t (length t - 7), s.requires.text_in_bounds, ap (λ (h : Html). length (encode_of (InHtml h) c.args.text.now)) c.words_of-w.ensures, m.ensures.value, m.auto.output)

pub write_exactly-requires-2 : goal.write_exactly-requires-2
write_exactly-requires-2 c =
    let s = c in
    let a = s.args in
    let t = a.text.now in
    let m = c.write_most-at in
    let sizes = half-sizes c.words_of-w.result.html t (length t - 7) in record { w_value = omega arith; text_in_bounds = rw (lent-rest m.result m.new.output, length-drop) (omega (arith, s.requires.text_in_bounds, ap (λ (h : Html). length (encode_of (InHtml h) c.args.text.now)) c.words_of-w.ensures, m.ensures.value, m.auto.output)) }

pub overflow_add-result : goal.overflow_add-result
overflow_add-result c =
    let s = c in
    let a = s.args in
    let t = a.text.now in
    let m = c.write_most-at in
    omega (arith, half-sizes c.words_of-w.result.html t (length t - 7), s.requires.text_in_bounds, ap (λ (h : Html). length (encode_of (InHtml h) c.args.text.now)) c.words_of-w.ensures, m.ensures.value, c.write_exactly-2.ensures.value)

pub returns : goal.returns
returns c =
    let a = c.args in
    let t = a.text.now in
    let m = c.write_most-at in
    let x = c.write_exactly-2 in
    let first = encode_of (InHtml c.words_of-w.result.html) (take (length t - 7) t) in
    let rest = encode_of (InHtml c.words_of-w.result.html) (take (length t - (length t - 7)) (drop (length t - 7) t)) in
    let sizes = half-sizes c.words_of-w.result.html t (length t - 7) in
    let spilt = m.new.output in
    let out = over-spilt 7 first rest a.output.now spilt x.new.output m.result m.ensures.value (omega arith) m.ensures.spills x.ensures.output_after in record {
      value = omega (arith, sizes, m.ensures.value, x.ensures.value, ap (λ (h : Html). length (encode_of (InHtml h) t)) c.words_of-w.ensures);
      output_after = out ∙ ap (λ (w : List ℕ). over w a.output.now) (sym (halves c.words_of-w.result.html t (length t - 7)) ∙ ap (λ (h : Html). encode_of (InHtml h) t) c.words_of-w.ensures);
    }
