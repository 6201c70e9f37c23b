-- What stands in front of contents, put.
use Prim.Native.Nat.{ℕ, ◌+◌}
use mathlib.Core.List.{List}
use lib.ListN.{length}
use Rattle.elements.specs.Put.{Put}

-- where it ends, by its length
pub put_ends : {a c : List ℕ} {o r : ℕ} {x : List ℕ} → Put a c o r x → Put a c o (o + length x) x
put_ends f = rw f.at at f
