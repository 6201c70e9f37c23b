use Rattle.std.proofs.Common.{rules, refl}
use Rattle.elements.specs.Lists.{count_take}
use Rattle.layouts.specs.Service.{read_fits, write_fits}
use Rattle.lister.proofs.card_of.Goals as goal

pub slice_bounds-result-end : goal.slice_bounds-result-end
slice_bounds-result-end c = let fits = write_fits c.in_ok-n.ensures refl in search (count_take, rules)

pub slice_bounds-result-end-2 : goal.slice_bounds-result-end-2
slice_bounds-result-end-2 c = let fits = read_fits c.in_ok-n-2.ensures refl in search (count_take, rules)
