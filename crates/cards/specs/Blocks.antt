-- A card's book in blocks: each object with all its records, and nothing of it cut off.
use Rattle.std.specs.Prelude.{ℕ, List, [], ◌∷◌, ◌++◌, not, ◌&&◌, eqb, T}
use Rattle.rules.specs.Reading.{Rec, rec}
use Rattle.rules.specs.Blocks.{closing}
use Rattle.cards.specs.Card.{Object, front, behind}

-- the records of these objects, in turn, each whole; between them records of other kinds that close an object
pub data Blocks : List Object → List Rec → Type 0 where
  nothing : Blocks [] []
  other : {os : List Object} {rs : List Rec} (kind : ℕ) (p : List ℕ) → T (closing kind && not (eqb kind 0x0120)) → Blocks os rs → Blocks os (rec kind p ∷ rs)
  whole : {os : List Object} {rs : List Rec} (o : Object) → Blocks os rs → Blocks (o ∷ os) (rec 0x0120 (front o) ∷ (behind o ++ rs))
