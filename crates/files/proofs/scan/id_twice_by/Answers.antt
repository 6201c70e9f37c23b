use Rattle.files.specs.LiesLaws.{whole}
use Rattle.files.proofs.ScanLaws.{apart_none, indexed_none, apart_met, apart_object, apart_next, indexed_next, apart_all}
use borrow.Author.Rules.{rules}
use native.Mathlib.Omega.{arith}
use Rattle.files.proofs.scan.id_twice_by.Goals as goal

pub loop-j-init : goal.loop-j-init
loop-j-init c = search (apart_none, indexed_none, rules)

pub repeats_own-requires : goal.repeats_own-requires
repeats_own-requires c = search (whole, rules)

pub returns-then-repeats_own : goal.returns-then-repeats_own
returns-then-repeats_own c = search apart_met

pub noted-c-requires : goal.noted-c-requires
noted-c-requires c = search (whole, rules)

pub overflow_add-j : goal.overflow_add-j
overflow_add-j c = let w = whole c.loop-j.invariant.1.gone.after c.loop-j-test.true in omega (arith, w.fits)

pub word-requires : goal.word-requires
word-requires c = let w = whole c.loop-j.invariant.1.gone.after c.loop-j-test.true in omega (arith, w.fits, w.least)

pub after-j-requires : goal.after-j-requires
after-j-requires c = whole c.loop-j.invariant.1.gone.after c.loop-j-test.true

pub loop-j-preserved-then-word-eq288 : goal.loop-j-preserved-then-word-eq288
loop-j-preserved-then-word-eq288 c = (search rules, search apart_object, indexed_next c.loop-j.invariant.2 c.loop-j.invariant.1 c.loop-j-test.true c.noted-c.ensures c.after-j.ensures)

pub after-j-requires-in-loop-j : goal.after-j-requires-in-loop-j
after-j-requires-in-loop-j c = whole c.loop-j.invariant.1.gone.after c.loop-j-test.true

pub loop-j-preserved : goal.loop-j-preserved
loop-j-preserved c = (search rules, search apart_next, indexed_next c.loop-j.invariant.2 c.loop-j.invariant.1 c.loop-j-test.true c.noted-c.ensures c.after-j-in-loop-j.ensures)

pub returns : goal.returns
returns c = search apart_all
