-- What the code does of the renderer, of whole files.
use Rattle.std.specs.Prelude.{ℕ, ◌+◌, ◌%◌, ◌≤◌, ◌<◌, ◌≡◌, List, ◌∷◌, ◌++◌, length, drop, Ok, Err}
use Rattle.std.specs.Borrow.{MutBor}
use Rattle.std.proofs.Math.Seq.{slice}
use Rattle.elements.specs.Put.{Put}
use Rattle.makers.specs.declared.made.Made.{Made}
use Rattle.makers.specs.declared.made.TooLong.{TooLong}
use Rattle.makers.specs.Making.{Answer, Walk, Makes}
use Rattle.rules.specs.Reading.{Rec}
use Rattle.rules.specs.Files.{names_of}
use Rattle.rules.specs.Book.{records_from}
use Rattle.rules.specs.Render.{Renderer, gives, r_file, r_directories}

-- contents behind f of their length
abbrev pub fronted_by : (ℕ → List ℕ) → List ℕ → List ℕ
fronted_by f x = f (length x) ++ x

-- what puts k bytes in front of contents may do so at any place, for any length
abbrev pub MayFront : (MutBor (List ℕ) → ℕ → ℕ → Type 0) → Type 0
MayFront asks = (out : MutBor (List ℕ)) (o n : ℕ) → o ≤ 32768 → n ≤ 32768 → asks out o n

-- and puts f of the length
abbrev pub Fronts : (MutBor (List ℕ) → ℕ → ℕ → Unit {0} → MutBor (List ℕ) → Type 0) → ℕ → (ℕ → List ℕ) → Type 0
Fronts puts k f = ((n : ℕ) → length (f n) ≡ k) × ((out : MutBor (List ℕ)) (o n : ℕ) (out' : MutBor (List ℕ)) → puts out o n tt out' → Put out.now out'.now o (o + length (f n)) (f n))

-- an entry's own bytes start at r
pub record Tail (i e r : ℕ) : Type 0 where
  pub is : (b : List ℕ) → e ≤ length b → drop 2 (slice (i + 4) e b) ≡ slice r e b

-- x from o on fits, or does not
pub data Fitted (a c : List ℕ) (o : ℕ) (x : List ℕ) : Answer → Type 0 where
  fits : {m : Made} → Put a c o m.end x → m.end ≤ length a → Fitted a c o x (Ok m)
  beyond : {m : TooLong} → length a < o + length x → length c ≡ length a → Fitted a c o x (Err m)

-- a directory file for the record at j, which ends at e and names a path, from the records that start at i
pub record FileMade (b a c : List ℕ) (j e i o : ℕ) (r : Answer) : Type 0 where
  pub is : Makes b a c i o (r_file (slice (j + 6) e b) (records_from b i)) r

-- the directory files for the records from j to `end`
pub record FilesMade (b a c : List ℕ) (j end i o : ℕ) (r : Answer) : Type 0 where
  pub is : (rs : List Rec) → Walk b j end rs → Makes b a c i o (r_directories (names_of rs) (records_from b i)) r

-- a path behind its length
pub record Named (b a c : List ℕ) (p e o r : ℕ) : Type 0 where
  pub is : Put a c o r (length (slice p e b) % 256 ∷ slice p e b)

-- a path behind its length, then what q is
abbrev pub named : List ℕ → Renderer → Renderer
named path q rs = let x = q rs in gives (length path % 256 ∷ (path ++ x.bytes)) x.left
