-- A field is sought object by object.
use Prim.Native.Nat.{ℕ}
use mathlib.Core.Path.{◌≡◌}
use mathlib.Core.List.{List}
use Rattle.links.specs.Links.{object_at}
use Rattle.links.specs.Finding.{Within, objects_at}

-- the loop of `sought`: the object that was sought is the one after `left` others, from i on
pub record Numbering (b : List ℕ) (object i left : ℕ) : Type 0 where
  pub within : Within b i
  pub is : object_at (objects_at b 0) object ≡ object_at (objects_at b i) left
