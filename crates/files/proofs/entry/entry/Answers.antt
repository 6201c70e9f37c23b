use Rattle.objects.specs.DidLaws.{head_low, head_element}
use Rattle.files.specs.ObjectsLaws.{objects_left}
use Rattle.files.proofs.EntryLaws.{element_none, element_objects, forward_many, forward_left}
use Rattle.files.proofs.entry.entry.Goals as goal

pub returns-in_err-x : goal.returns-in_err-x
returns-in_err-x c = (objects_left c.from_residual.ensures (element_none _ _ _ _ _ c.in_err-x.ensures _ _ _), forward_left _ c.in_err-x.field-0.0 c.from_residual.ensures)

pub entry_body-requires : goal.entry_body-requires
entry_body-requires c = (c.requires.0, head_element _ _ _ c.in_ok-x.ensures c.requires.1)

pub returns : goal.returns
returns c = (element_objects _ _ _ _ _ c.in_ok-x.ensures c.entry_body.ensures, forward_many _ (head_low _ _ _ c.in_ok-x.ensures) c.entry_body.ensures)
