-- `gained` meets its contract: in a style sheet the bytes grow by themselves, less one for each NUL; in a script line separators are replaced too, each
-- by three bytes more.
-- Assumes nothing.
-- src/growth.rt:129:9
-- src/growth.rt:130:9
-- src/growth.rt:131:8
-- src/growth.rt:132:13
-- src/growth.rt:134:13
-- src/growth.rt:134:13
use native.Mathlib.Omega.{arith}
use Rattle.encode_strings.proofs.Sums.{lead-free, gained-style, gained-script}
use mathlib.Core.Path.{sym, ◌∙◌}
use Rattle.encode_strings.proofs.growth.gained.Goals as goal

pub returns-then-found-eq0 : goal.returns-then-found-eq0
returns-then-found-eq0 c =
    let a = c.args in
    let w = c.weigh-found in
    let escaped = rw (c.single_key-single.ensures, c.double_key-double.ensures) at w.ensures.escaped_value.0 in
    let by = sym c.separates.ensures ∙ c.if-separates.true in
    let z = lead-free a.part.now (sym w.ensures.escaped_value.2 ∙ c.if-found-eq0.true) in
    let g = gained-script a.notation a.quotes a.part.now w.result.escaped w.result.hexed escaped w.ensures.escaped_value.1 by 0 (sym z) in
    (omega (arith, g.0, c.sum.ensures.0), omega (arith, g.1, c.sum.ensures.1), omega (arith, w.ensures.escaped_in_bounds, c.sum.ensures.1))

-- src/growth.rt:136:37

-- src/growth.rt:136:9

-- src/growth.rt:136:9

pub returns-then-separates : goal.returns-then-separates
returns-then-separates c =
    let a = c.args in
    let w = c.weigh-found in
    let escaped = rw (c.single_key-single.ensures, c.double_key-double.ensures) at w.ensures.escaped_value.0 in
    let by = sym c.separates.ensures ∙ c.if-separates.true in
    let n = c.separators in
    let g = gained-script a.notation a.quotes a.part.now w.result.escaped w.result.hexed escaped w.ensures.escaped_value.1 by n.result n.ensures.0 in
    (omega (arith, g.0, c.sum-then-separates.ensures.0), omega (arith, g.1, c.sum-then-separates.ensures.1), omega (arith, w.ensures.escaped_in_bounds, n.ensures.1, c.sum-then-separates.ensures.1))

-- src/growth.rt:138:9

-- src/growth.rt:139:9

-- src/growth.rt:141:30

-- src/growth.rt:141:17

pub overflow_sub-result : goal.overflow_sub-result
overflow_sub-result c =
    let a = c.args in
    let w = c.weigh-found-2 in
    let escaped = rw (c.single_key-single.ensures, c.double_key-double.ensures) at w.ensures.escaped_value.0 in
    let by = sym c.separates.ensures ∙ c.if-separates.false in
    let all = c.sum-all in
    let g = gained-style a.notation a.quotes a.part.now w.result.escaped w.result.hexed escaped w.ensures.escaped_value.1 by w.result.odd w.ensures.escaped_value.2 in
    omega (arith, g.0, all.ensures.0)

-- src/growth.rt:125:1

pub returns : goal.returns
returns c =
    let a = c.args in
    let w = c.weigh-found-2 in
    let escaped = rw (c.single_key-single.ensures, c.double_key-double.ensures) at w.ensures.escaped_value.0 in
    let by = sym c.separates.ensures ∙ c.if-separates.false in
    let all = c.sum-all in
    let g = gained-style a.notation a.quotes a.part.now w.result.escaped w.result.hexed escaped w.ensures.escaped_value.1 by w.result.odd w.ensures.escaped_value.2 in
    (omega (arith, g.0, g.1, all.ensures.0), omega (arith, g.2, all.ensures.1), omega (arith, w.ensures.escaped_in_bounds, all.ensures.1))
