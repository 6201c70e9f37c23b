use native.Mathlib.Omega.{arith}
use Rattle.files.specs.ObjectsLaws.{objects_left}
use Rattle.reader.proofs.LinearLaws.{records_start, records_few, records_word, records_mid, records_high, records_room, records_small, records_fell, records_less, records_next, records_all}
use borrow.Author.Rules.{rules}
use Rattle.reader.proofs.linear.records.Goals as goal

pub loop-at-init : goal.loop-at-init
loop-at-init c = records_start _ _ _ _ _ _ (λ i. omega (arith, c.shared_slice_known-1.given i)) (search rules) (search rules) (search rules) (search rules) (search rules) (search rules)

pub word-requires : goal.word-requires
word-requires c = records_word c.loop-at.invariant c.loop-at-test.true

pub held-requires : goal.held-requires
held-requires c = (records_few c.loop-at.invariant, records_room c.loop-at.invariant c.loop-at-test.true c.word.ensures, (records_mid c.loop-at.invariant c.loop-at-test.true c.word.ensures, records_high c.loop-at.invariant c.loop-at-test.true c.word.ensures, c.loop-at.invariant.short, records_small c.loop-at.invariant c.loop-at-test.true c.word.ensures))

pub returns-in_err-next : goal.returns-in_err-next
returns-in_err-next c = objects_left c.from_residual.ensures (records_fell c.loop-at.invariant c.loop-at-test.true c.word.ensures c.held.ensures c.in_err-next.was)

pub loop-at-smaller : goal.loop-at-smaller
loop-at-smaller c = records_less c.loop-at.invariant c.loop-at-test.true c.word.ensures c.held.ensures c.in_ok-next.was

pub loop-at-preserved : goal.loop-at-preserved
loop-at-preserved c = records_next c.loop-at.invariant c.loop-at-test.true c.word.ensures c.held.ensures c.in_ok-next.was

pub returns : goal.returns
returns c = records_all c.loop-at.invariant c.loop-at-test.false
