use Rattle.files.proofs.ScanLaws.{key_spans, indexed_holds, indexed_places, repeat_placed, repeat_none}
use borrow.Author.Rules.{rules}
use Rattle.files.proofs.scan.repeats_own.Goals as goal

pub repeats-requires : goal.repeats-requires
repeats-requires c = search (indexed_holds, rules)

pub met_own-requires : goal.met_own-requires
met_own-requires c = search (key_spans, indexed_places, rules)

pub returns-then-is_bearing : goal.returns-then-is_bearing
returns-then-is_bearing c = search repeat_placed

pub returns : goal.returns
returns c = search repeat_none
