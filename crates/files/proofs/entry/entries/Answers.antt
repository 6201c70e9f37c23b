use native.Mathlib.Omega.{arith}
use Rattle.files.proofs.EntryLaws.{entries_start, entries_hold, entries_whole, entries_left, entries_broke, entries_next, entries_less, entries_all}
use borrow.Author.Rules.{rules}
use Rattle.files.proofs.entry.entries.Goals as goal

pub loop-site-init : goal.loop-site-init
loop-site-init c = entries_start _ (record { bytes = (λ i. omega (arith, c.shared_slice_known-1.given i)); inside = search rules; short = search rules; room = search rules; wide = search rules }) (search rules) (search rules)

pub returns-in_err-next : goal.returns-in_err-next
returns-in_err-next c = entries_left c.from_residual.ensures (entries_broke c.loop-site.invariant c.goes_on.ensures c.loop-site-test.true c.in_err-next.ensures.0)

pub first_again-again-requires : goal.first_again-again-requires
first_again-again-requires c = (entries_hold c.loop-site.invariant c.goes_on.ensures c.loop-site-test.true c.in_ok-next.ensures.0, entries_whole c.loop-site.invariant c.goes_on.ensures c.loop-site-test.true c.in_ok-next.ensures.0)

pub loop-site-smaller : goal.loop-site-smaller
loop-site-smaller c = entries_less c.loop-site.invariant c.goes_on.ensures c.loop-site-test.true c.in_ok-next.ensures.0 c.in_ok-next.ensures.1

pub loop-site-preserved : goal.loop-site-preserved
loop-site-preserved c = entries_next c.loop-site.invariant c.goes_on.ensures c.loop-site-test.true c.in_ok-next.ensures.0 c.in_ok-next.ensures.1 c.first_again-again.ensures

pub returns : goal.returns
returns c = entries_all c.loop-site.invariant c.goes_on.ensures (search rules)
