use native.Mathlib.Omega.{arith}
use mathlib.Core.Path.{◌∙◌}
use Rattle.elements.specs.AnswerLaws.{leaves}
use Rattle.elements.proofs.RunLaws.{run_start, run_end, run_deep, run_no, run_kept, run_plain, run_inner, run_inner_no, end_past, end_in}
use Rattle.elements.proofs.seals.+sealed.Goals as goal

pub loop-i-init : goal.loop-i-init
loop-i-init t c = search run_start

pub returns-then-levels-eq0 : goal.returns-then-levels-eq0
returns-then-levels-eq0 t c = search run_deep

pub returns-in_err-b : goal.returns-in_err-b
returns-in_err-b t c = leaves c.from_residual.ensures ∙ (run_no c.loop-i.invariant c.loop-i-test.true c.if-levels-eq0.false c.in_err-b.ensures)

pub returns-then-among : goal.returns-then-among
returns-then-among t c = run_kept c.loop-i.invariant c.loop-i-test.true c.if-levels-eq0.false c.in_ok-b.ensures c.among.ensures c.if-among.true

pub sealed-requires : goal.sealed-requires
sealed-requires t c = (omega arith, end_in _ _ _ _ c.requires c.in_ok-b.ensures)

pub returns-in_err-sealed : goal.returns-in_err-sealed
returns-in_err-sealed t c = leaves c.from_residual-in_err-sealed.ensures ∙ (run_inner_no c.loop-i.invariant c.loop-i-test.true c.if-levels-eq0.false c.in_ok-b.ensures c.among.ensures c.if-among.false (omega arith) c.in_err-sealed.ensures)

pub loop-i-smaller-in_ok-sealed : goal.loop-i-smaller-in_ok-sealed
loop-i-smaller-in_ok-sealed t c = end_past _ _ _ c.loop-i-test.true c.in_ok-b.ensures

pub loop-i-preserved-in_ok-sealed : goal.loop-i-preserved-in_ok-sealed
loop-i-preserved-in_ok-sealed t c = run_inner c.loop-i.invariant c.loop-i-test.true c.if-levels-eq0.false c.in_ok-b.ensures c.among.ensures c.if-among.false (omega arith) c.in_ok-sealed.ensures

pub loop-i-smaller : goal.loop-i-smaller
loop-i-smaller t c = end_past _ _ _ c.loop-i-test.true c.in_ok-b.ensures

pub loop-i-preserved : goal.loop-i-preserved
loop-i-preserved t c = run_plain c.loop-i.invariant c.loop-i-test.true c.if-levels-eq0.false c.in_ok-b.ensures c.among.ensures c.if-among.false c.if-b-eq1.false

pub returns : goal.returns
returns t c = search run_end
