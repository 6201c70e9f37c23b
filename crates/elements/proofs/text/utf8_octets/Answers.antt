use borrow.Author.Rules.{rules}
use native.Mathlib.Omega.{arith}
use Rattle.elements.specs.Text.{text}
use Rattle.elements.proofs.CharLaws.{octets_never, octets_fit, octets_on, octets_end}
use Rattle.elements.proofs.text.utf8_octets.Goals as goal

pub loop-i-init : goal.loop-i-init
unfolding text
loop-i-init c = search rules

pub returns-then-k-eq0 : goal.returns-then-k-eq0
unfolding text
returns-then-k-eq0 c = search (octets_never, rules)

pub overflow_add-i : goal.overflow_add-i
unfolding text
overflow_add-i c = let f = (octets_fit _ _ _ _ c.loop-i.invariant.2 c.utf8_char-k.ensures (search rules)) in omega (arith, f)

pub loop-i-smaller : goal.loop-i-smaller
unfolding text
loop-i-smaller c = let f = (octets_fit _ _ _ _ c.loop-i.invariant.2 c.utf8_char-k.ensures (search rules)) in omega (arith, f)

pub loop-i-preserved : goal.loop-i-preserved
unfolding text
loop-i-preserved c = let f = (octets_fit _ _ _ _ c.loop-i.invariant.2 c.utf8_char-k.ensures (search rules)) in (omega (arith, f), f, search (octets_on, rules))

pub returns : goal.returns
unfolding text
returns c = search (octets_end, rules)
