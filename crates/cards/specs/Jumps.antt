-- Item 8 of document 02, "Take us to the bytes": in the file of the number that an object's 0120 tells, at the offset that it tells, stands the object's whole element.
use Rattle.std.specs.Prelude.{ℕ, ◌+◌, ◌⊎◌, ◌≡◌, length}
use mathlib.Core.List.{List, [], ◌∷◌, ◌++◌, Memᴰ}
use Rattle.std.proofs.Common.{inl, inr}
use Rattle.elements.specs.Put.{le16}
use Rattle.elements.specs.Record.{record_bytes}
use Rattle.rules.specs.Files.{Name}
use Rattle.rules.specs.Entries as entries
use Rattle.cards.specs.Card as card
use Rattle.cards.specs.Card.{Card, Object, dump_of, front}

-- b stands in d, behind p bytes
pub record Stands (d : List ℕ) (p : ℕ) (b : List ℕ) : Type 0 where
  pub before : List ℕ
  pub after : List ℕ
  pub is : d ≡ before ++ (b ++ after)
  pub behind : length before ≡ p

-- a file of the dump: its number, the place of its first byte, its bytes
pub record Filed : Type 0 where
  pub number : ℕ
  pub start : ℕ
  pub bytes : List ℕ

abbrev pub bytes_in : (t : ℕ) → (card.directory t).Of ⊎ (card.linear t).Of → List ℕ
bytes_in t (inl x) = (card.directory t).bytes x
bytes_in t (inr x) = (card.linear t).bytes x

-- "1 upward in dump order": the nth of them is in a record at that place
unfoldable pub filed : (n at : ℕ) (ms : List Name) → (card.files n ms).Of → List Filed
unfolding card.files
filed n at [] x = []
filed n at (m ∷ ms) (f, x) = record { number = n; start = at + (5 + length m.path); bytes = bytes_in m.tag f } ∷ filed (n + 1) (at + length ((card.file n m).bytes f)) ms x

-- "0 for EF.OD"
abbrev pub main_at : Card → ℕ
main_at c = length ((card.ef_dir).bytes c.dir) + length (record_bytes 1 ((card.cia).bytes c.info))

abbrev pub files_of : Card → List Filed
files_of c = record { number = 0; start = main_at c + 4; bytes = (card.od).bytes c.main } ∷ filed 1 (main_at c + length (record_bytes 2 ((card.od).bytes c.main))) (card.names_of c.main) c.dirs

-- an object's tag and its whole element, from its tag on
unfoldable pub tag_of : Object → ℕ
unfolding entries.object
tag_of (entry, (tag, contents), v) = tag

abbrev pub element_of : Object → List ℕ
element_of (entry, object, v) = (entries.object entry).part.bytes object

-- where an operator jumps to
pub record Jump (c : Card) (o : Object) : Type 0 where
  pub file : Filed
  pub there : Memᴰ file (files_of c)
  pub offset : ℕ
  -- "Record 0120 gains a 2-byte file number .. and a 2-byte offset of the object inside that file"
  pub told : front o ≡ o.0 ∷ tag_of o ∷ (le16 file.number ++ le16 offset)
  pub in_file_lem : Stands file.bytes offset (element_of o)
  pub in_dump : Stands (dump_of c) (file.start + offset) (element_of o)
  -- and it begins with the object's tag
  pub tag : (more : List ℕ) × (element_of o ≡ tag_of o ∷ more)
