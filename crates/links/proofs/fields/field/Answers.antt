use Rattle.links.specs.Agreement.{handed_fits, handed_sum, handed_part, handed_none}
use borrow.Author.Rules.{rules}
use Rattle.links.proofs.fields.field.Goals as goal

pub overflow_add-result : goal.overflow_add-result
overflow_add-result c = search (handed_sum, rules)

pub slice_bounds-result-end : goal.slice_bounds-result-end
slice_bounds-result-end c = search (handed_fits, rules)

pub returns-in-Ok : goal.returns-in-Ok
returns-in-Ok c = search (handed_part, rules)

pub returns-in-Err : goal.returns-in-Err
returns-in-Err c = handed_none c.field_place.ensures c.in-Err.is
