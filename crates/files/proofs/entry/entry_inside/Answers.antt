use native.Mathlib.Omega.{arith}
use Rattle.objects.specs.DidLaws.{head_element}
use Rattle.files.specs.ObjectsLaws.{objects_left, objects_fell, objects_did}
use Rattle.files.proofs.EntryLaws.{element_none, element_objects, in_path, in_objects, in_other, plain_path}
use borrow.Author.Rules.{rules}
use Rattle.files.proofs.entry.entry_inside.Goals as goal

pub returns-in_err-x : goal.returns-in_err-x
returns-in_err-x c = search (objects_left, element_none, rules)

pub path_entry-requires : goal.path_entry-requires
path_entry-requires c = let h = head_element _ _ _ c.in_ok-x.ensures c.requires.1 in (h.1, h.2, h.3, omega (arith, h.0, h.4))

pub returns-in_err-at-in-48 : goal.returns-in_err-at-in-48
returns-in_err-at-in-48 c = objects_left c.from_residual-in_err-at-in-48.ensures (element_objects _ _ _ _ _ c.in_ok-x.ensures (in_path _ _ _ _ _ _ _ _ c.in-48.is (objects_fell _ _ c.in_err-at-in-48.ensures)))

pub inline-requires : goal.inline-requires
inline-requires c = (c.requires.0, head_element _ _ _ c.in_ok-x.ensures c.requires.1)

pub returns-in_ok-at-in-48 : goal.returns-in_ok-at-in-48
returns-in_ok-at-in-48 c = element_objects _ _ _ _ _ c.in_ok-x.ensures (in_path _ _ _ _ _ _ _ _ c.in-48.is (objects_did _ _ (plain_path _ _ _ _) c.requires.0 c.in_ok-at-in-48.ensures))

pub returns-in-160 : goal.returns-in-160
returns-in-160 c = element_objects _ _ _ _ _ c.in_ok-x.ensures (in_objects _ _ _ _ _ _ _ _ c.in-160.is c.inline.ensures)

pub returns-in_default : goal.returns-in_default
returns-in_default c = element_objects _ _ _ _ _ c.in_ok-x.ensures (in_other _ _ _ _ _ _ _ _ _ _ _ (search rules) (search rules))
