use borrow.Author.Rules.{rules}
use Rattle.layouts.specs.GivingLaws.{gives_none, gives_all}
use Rattle.links.proofs.ServiceLaws.{list_put}
use Rattle.links.proofs.listing.list_by.Goals as goal

pub returns-then-rows-m : goal.returns-then-rows-m
returns-then-rows-m c = search (gives_none, rules)

pub returns : goal.returns
returns c = search (gives_all, list_put, rules)
