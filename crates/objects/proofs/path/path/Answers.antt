use Rattle.objects.specs.DidLaws.{did_left, did_then, did_ends, did_fails}
use Rattle.objects.proofs.PathLaws.{path_fails, path_pairs}
use Rattle.objects.proofs.path.path.Goals as goal

pub returns-in_err-i : goal.returns-in_err-i
returns-in_err-i c = did_left c.from_residual.ensures (path_fails _ _ _ _ _ _ c.requires.0 (did_fails (did_fails c.in_err-i.ensures _) _))

pub returns-in_err-j : goal.returns-in_err-j
returns-in_err-j c = did_left c.from_residual-in_err-j.ensures (path_fails _ _ _ _ _ _ c.requires.0 (did_fails (did_then c.in_ok-i.ensures _ (did_fails c.in_err-j.ensures _)) _))

pub returns-in_err-k : goal.returns-in_err-k
returns-in_err-k c = did_left c.from_residual-in_err-k.ensures (path_fails _ _ _ _ _ _ c.requires.0 (did_fails (did_then c.in_ok-i.ensures _ (did_then c.in_ok-j.ensures _ c.in_err-k.ensures)) _))

pub returns-in_err-n : goal.returns-in_err-n
returns-in_err-n c = did_left c.from_residual-in_err-n.ensures (path_fails _ _ _ _ _ _ c.requires.0 (did_ends (did_then c.in_ok-i.ensures _ (did_then c.in_ok-j.ensures _ c.in_ok-k.ensures)) _ c.in_err-n.ensures))

pub returns : goal.returns
returns c = path_pairs _ _ _ _ _ _ c.requires.0 c.in_ok-i.ensures c.in_ok-j.ensures c.in_ok-k.ensures c.in_ok-n.ensures c.paired.ensures
