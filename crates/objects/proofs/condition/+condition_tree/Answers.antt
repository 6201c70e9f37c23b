use Rattle.std.specs.Prelude.{◌+◌}
use native.Mathlib.Omega.{arith}
use borrow.Author.Rules.{rules}
use Rattle.std.proofs.Common.{sym, ◌∙◌, refl}
use borrow.Author.Tests.{lt-ltb, le-ltb}
use Rattle.elements.specs.AnswerLaws.{leaves}
use Rattle.rules.specs.Conditions as conditions
use Rattle.rules.specs.Objects.{condition_as, condition_body}
use Rattle.objects.specs.Did.{fell}
use Rattle.objects.specs.DidLaws.{did_one, did_left, did_fails, did_ends, element_fails, element_here, head_low, head_element, forward_in, forward_fails}
use Rattle.objects.proofs.PartLaws.{before}
use Rattle.objects.proofs.ConditionLaws.{no_level, condition_by, listing_none, listing_fell, listing_next, listing_all, listed_bad, listed_few, listed_put, few_fit}
use Rattle.objects.proofs.condition.+condition_tree.Goals as goal

pub condition-returns-then-at-end : goal.condition-returns-then-at-end
condition-returns-then-at-end t c = (rw (no_level _ _ _ _ _ c.if-levels-eq0.true, lt-ltb c.args.at.dump c.args.end c.if-at-end.true) (fell refl), forward_fails _ _)

pub condition-returns-then-levels-eq0 : goal.condition-returns-then-levels-eq0
condition-returns-then-levels-eq0 t c = (rw (no_level _ _ _ _ _ c.if-levels-eq0.true, le-ltb c.args.at.dump c.args.end c.if-at-end.false) (fell refl), forward_fails _ _)

pub condition-returns-in_err-x : goal.condition-returns-in_err-x
condition-returns-in_err-x t c = rw (leaves c.from_residual.ensures) (condition_by _ _ _ _ _ c.if-levels-eq0.false (element_fails _ _ _ _ c.in_err-x.ensures _ _), forward_fails _ _)

pub condition-returns-then-is_bad_null : goal.condition-returns-then-is_bad_null
unfolding condition_body condition_as conditions.body_by_sort
condition-returns-then-is_bad_null t c = (condition_by _ _ _ _ _ c.if-levels-eq0.false (element_here _ _ _ _ c.in_ok-x.ensures (rw (sym c.is_bad_null.ensures ∙ c.if-is_bad_null.true) (fell refl))), forward_fails _ _)

pub condition-returns-then-k-ge255 : goal.condition-returns-then-k-ge255
unfolding condition_body condition_as conditions.body_by_sort
condition-returns-then-k-ge255 t c = (condition_by _ _ _ _ _ c.if-levels-eq0.false (element_here _ _ _ _ c.in_ok-x.ensures (rw (sym c.is_bad_null.ensures ∙ c.if-is_bad_null.false, lt-ltb 255 (c.args.k + 1) (omega arith)) (fell refl))), forward_fails _ _)

pub condition-condition_as-requires : goal.condition-condition_as-requires
condition-condition_as-requires t c = (omega arith, head_element _ _ _ c.in_ok-x.ensures c.requires)

pub condition-returns : goal.condition-returns
unfolding condition_body condition_as conditions.body_by_sort
condition-returns t c = (condition_by _ _ _ _ _ c.if-levels-eq0.false (element_here _ _ _ _ c.in_ok-x.ensures (rw (sym c.is_bad_null.ensures ∙ c.if-is_bad_null.false, le-ltb 255 (c.args.k + 1) (omega arith)) (rw c.sort_of.ensures at c.condition_as.ensures))), forward_in _ (head_low _ _ _ c.in_ok-x.ensures) c.condition_as.ensures)

pub condition_as-returns-in-Always : goal.condition_as-returns-in-Always
unfolding condition_as
condition_as-returns-in-Always t c = rw c.in-Always.is (did_one _ _ _ _ c.put_bare-book.ensures.1 (omega arith) (omega arith))

pub condition_as-returns-in-Identifier : goal.condition_as-returns-in-Identifier
unfolding condition_as
condition_as-returns-in-Identifier t c = rw c.in-Identifier.is c.identifier.ensures

pub condition_as-returns-in-Not : goal.condition_as-returns-in-Not
unfolding condition_as
condition_as-returns-in-Not t c = rw c.in-Not.is c.negated.ensures

pub condition_as-returns-in-And : goal.condition_as-returns-in-And
unfolding condition_as
condition_as-returns-in-And t c = rw c.in-And.is c.listed.ensures

pub condition_as-returns-in-Or : goal.condition_as-returns-in-Or
unfolding condition_as
condition_as-returns-in-Or t c = rw c.in-Or.is c.listed-in-Or.ensures

pub condition_as-returns-in-Other : goal.condition_as-returns-in-Other
unfolding condition_as
condition_as-returns-in-Other t c = rw c.in-Other.is c.sealed.ensures

pub negated-returns-in_err-at : goal.negated-returns-in_err-at
unfolding condition_as
negated-returns-in_err-at t c = did_left c.from_residual.ensures (before _ _ c.put_bare-book.ensures.1 (did_fails c.in_err-at.ensures.0 _))

pub negated-returns : goal.negated-returns
unfolding condition_as
negated-returns t c = before _ _ c.put_bare-book.ensures.1 (did_ends c.in_ok-at.ensures.0 _ c.ended.ensures)

pub conditions-loop-n-init : goal.conditions-loop-n-init
conditions-loop-n-init t c = search (listing_none, rules)

pub conditions-returns-in_err-n : goal.conditions-returns-in_err-n
conditions-returns-in_err-n t c = rw (leaves c.from_residual.ensures) (listing_fell c.loop-n.invariant c.loop-n-test.true c.in_err-n.ensures.0)

pub conditions-loop-n-preserved : goal.conditions-loop-n-preserved
conditions-loop-n-preserved t c = listing_next c.loop-n.invariant c.loop-n-test.true c.in_ok-n.ensures.0 c.in_ok-n.ensures.1

pub conditions-returns : goal.conditions-returns
conditions-returns t c = listing_all c.loop-n.invariant c.loop-n-test.false

pub listed-returns-in_err-n : goal.listed-returns-in_err-n
listed-returns-in_err-n t c = rw (leaves c.from_residual.ensures) (listed_bad c.args.kind c.args.x.1 c.args.x.2 c.put_two-book.ensures.1 c.in_err-n.ensures)

pub listed-returns-then-count-lt2 : goal.listed-returns-then-count-lt2
listed-returns-then-count-lt2 t c = listed_few c.args.kind c.args.x.1 c.args.x.2 c.put_two-book.ensures.1 c.in_ok-n.ensures c.if-count-lt2.true

pub listed-overflow_cast-count : goal.listed-overflow_cast-count
listed-overflow_cast-count t c = search (few_fit c.args.s.now c.args.levels c.args.x.1 c.args.x.2 c.in_ok-n.ensures (omega arith) (omega arith), rules)

pub listed-returns : goal.listed-returns
listed-returns t c = listed_put c.args.kind c.args.x.1 c.args.x.2 c.put_two-book.ensures.1 c.in_ok-n.ensures c.if-count-lt2.false c.put_le16.ensures
