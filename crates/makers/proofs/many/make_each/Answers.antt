use Rattle.makers.specs.MadeLaws.{among_there, made_left_by}
use Rattle.makers.specs.ManyLaws.{repeating_start, repeating_next, repeating_long, repeating_all, onward_less}
use borrow.Author.Rules.{rules}
use Rattle.makers.proofs.many.make_each.Goals as goal

pub loop-one-init : goal.loop-one-init
loop-one-init g c = λ q m. repeating_start _ _ q _ _ (search rules) (search rules)

pub is_among-requires : goal.is_among-requires
is_among-requires g c = let h = c.loop-one.invariant c.requires.makes.0 c.requires.makes.1 in (h.high, search rules)

pub one-requires : goal.one-requires
one-requires g c = let h = c.loop-one.invariant c.requires.makes.0 c.requires.makes.1 in c.requires.may_make _ _ c.loop-one-test.ensures (among_there _ _ c.args.kinds.now c.is_among.ensures c.loop-one-test.true) (h.high, search rules, h.room, search rules) h.same

pub returns-in_err-done : goal.returns-in_err-done
returns-in_err-done g c = λ q m.
    let p = m _ _ _ _ c.loop-one-test.ensures c.in_err-done.ensures in
    made_left_by (repeating_long (c.loop-one.invariant q m) c.is_among.ensures c.loop-one-test.true p.0) c.from_residual.ensures

pub loop-one-preserved : goal.loop-one-preserved
loop-one-preserved g c = λ q m.
    let p = m _ _ _ _ c.loop-one-test.ensures c.in_ok-done.ensures in
    repeating_next (c.loop-one.invariant q m) c.is_among.ensures c.loop-one-test.true p.0 (onward_less p.1)

pub returns : goal.returns
returns g c = λ q m. repeating_all (c.loop-one.invariant q m) c.is_among.ensures c.loop-one-test.false
