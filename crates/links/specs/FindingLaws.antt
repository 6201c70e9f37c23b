-- The first of the records from a place on.
use Rattle.std.specs.Prelude.{ℕ, zero, suc, ◌+◌, ◌<◌, ◌≤◌, ◌≡◌, List, [], ◌∷◌, length, drop, eqb, Option, Some, None}
use Rattle.std.proofs.Math.Path.{refl}
use Rattle.std.proofs.Common.{arith}
use Rattle.std.proofs.Math.Seq.{slice, length-slice}
use Rattle.elements.specs.Choice.{choose}
use Rattle.elements.specs.ChoiceLaws.{by_less}
use Rattle.rules.specs.Files.{two}
use Rattle.rules.specs.Book.{records, records_from, Ends}
use Rattle.rules.specs.BookLaws.{ends_least, ends_good, ends_cut}
use Rattle.rules.specs.Blocks.{closing}
use Rattle.links.specs.declared.index.Index.{Index}
use Rattle.links.specs.Links.{Object, held_from, objects_from, links_from, links, chosen, object_at}
use Rattle.links.specs.Finding.{Entered, Within, objects_at, held_at, object_there, held_there, FoundAt, Lies, id_at, entry_at}

-- all records are those from the start on
pub from_start : (b : List ℕ) → records_from b 0 ≡ records b
unfolding records_from
from_start b = refl

-- the rows of all objects are the list
pub rows_links : (b : List ℕ) → links_from (objects_at b 0) 0 (objects_at b 0) ≡ links (records b)
unfolding links
rows_links b = rw (from_start b) refl

-- where a record ends is a place
pub within_end : {b : List ℕ} {i j e : ℕ} → Within b i → Ends b j e → Within b e
within_end w d = record { high = d.high; small = w.small }

-- what begins with the record from r to e
module _ {b : List ℕ} {r e : ℕ} (d : Ends b r e) where
  behind : r + 4 + length (slice (r + 4) e b) ≡ e
  behind = omega (arith, length-slice (r + 4) e b d.high)

  pub objects_first : objects_at b r ≡ choose (eqb (two b (r + 2)) 0x0120) (λ _. object_there b r e ∷ objects_at b e) (λ _. objects_at b e)
  unfolding objects_from
  objects_first = rw (d.is, behind) refl

  pub held_first : held_at b r ≡ choose (closing (two b (r + 2))) (λ _. []) (λ _. held_there b r e ∷ held_at b e)
  unfolding held_from
  held_first = rw (d.is, behind) refl

-- a record ends somewhere
pub some_end : {A : Type 0} (b : List ℕ) (j : ℕ) → j + 4 ≤ length b → ((e : ℕ) → Ends b j e → A) → A
some_end b j h f =
    by_less (two b j) 2 (λ l. f (j + 4) (ends_least b j h refl l))
    (λ l. by_less (length b) (j + 2 + two b j) (λ m. f (length b) (ends_cut b j h refl l m)) (λ m. f (j + 2 + two b j) (ends_good b j h refl l m)))

-- the j-th object, and those after it
pub at_number : (os : List Object) (j : ℕ) → j < length os → (o : Object) × (object_at os j ≡ chosen o) × (drop j os ≡ o ∷ drop (suc j) os)
at_number [] j h = absurd (omega arith)
at_number (o ∷ os) zero h = (o, refl, refl)
at_number (o ∷ os) (suc j) h = at_number os j (omega arith)

-- a place of the index is in the bytes
pub place_within : {b : List ℕ} {x : Index} {e j : ℕ} → Entered b x → Within b e → j < x.n → Lies b (entry_at x.entries j).id
place_within {b} {x} {j = j} g v h = go (entry_at x.entries j).id (g.entries.ids j h)
  where
    go : (r : Option ℕ) → FoundAt b (id_at b j) r → Lies b r
    go None w = (tt, v.small)
    go (Some p) w = (w.inside, v.small)
