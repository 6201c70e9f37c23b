use Rattle.std.proofs.Common.{rules, refl}
use Rattle.elements.specs.Lists.{count_take}
use Rattle.links.specs.Serving.{list_fits}
use Rattle.lister.proofs.listed.Goals as goal

pub slice_bounds-links-end : goal.slice_bounds-links-end
slice_bounds-links-end g c = list_fits c.in-Ok.ensures refl

pub slice_bounds-links-end-in-Ok : goal.slice_bounds-links-end-in-Ok
slice_bounds-links-end-in-Ok g c = let fits = list_fits c.in-Ok.ensures refl in search (count_take, rules)
