-- The services list, field_place and field.
use Prim.Native.Nat.{ℕ, ◌*◌, ◌<◌, ◌≤◌}
use mathlib.Core.Path.{◌≡◌, refl, sym, ◌∙◌}
use mathlib.Core.Bool.{Bool, true, false}
use mathlib.Core.List.{List}
use native.Mathlib.Omega.{arith}
use lib.ListN.{length}
use borrow.Author.Tests.{le-leb, lt-leb}
use Rattle.elements.specs.Lists.{Bytes}
use Rattle.elements.specs.Put.{Put}
use Rattle.elements.specs.declared.fault.Fault.TheVariants.{NoDump, NotThere}
use Rattle.elements.specs.Answer.{Outcome}
use Rattle.elements.specs.Answer as code
use Rattle.rules.specs.Book.{records}
use Rattle.rules.specs.Write.{write_dump}
use Rattle.layouts.specs.Service.{served, giving, Gives}
use Rattle.layouts.specs.Accept.{BookTold}
use Rattle.links.specs.Links.{links, links_from, listed, object_at, field_in, field_of}
use Rattle.links.specs.Finding.{objects_at, RowsPut}
use Rattle.links.specs.Told.{four_each}
use Rattle.links.specs.FindingLaws.{from_start, rows_links}
use Rattle.links.specs.BookFacts.{if_book_lem, if_none}
use Rattle.links.specs.Serving.{Sought, if_book, listing, ListTold, place_of, placing, PlaceTold}

-- the book is one, or none
module _ {b : List ℕ} {t : Bool} (k : BookTold b t) where
  written_as : t ≡ true → (i l : ℕ) → if_book (write_dump b) (place_of (field_of i l (records b))) (code.refused NoDump 0) ≡ place_of (field_of i l (records b))
  written_as e i l = if_book_lem k (place_of (field_of i l (records b))) (code.refused NoDump 0) e

  pub list_yes : {a c : List ℕ} {r : Outcome} → t ≡ true → Gives (listed (links (records b))) a c r → ListTold b a c r
  unfolding listing
  list_yes {a} e g = record { is = rw (if_book_lem k (giving (listed (links (records b))) a) (served (code.refused NoDump 0) a) e) g.is }

  pub list_no : {a : List ℕ} → t ≡ false → Bytes b → ListTold b a a (code.refused NoDump 0)
  unfolding listing
  list_no {a} e h = record { is = sym (if_none k (giving (listed (links (records b))) a) (served (code.refused NoDump 0) a) e h) }

  pub place_no : (i l : ℕ) → t ≡ false → Bytes b → PlaceTold b i l (code.refused NoDump 0)
  unfolding placing
  place_no i l e h = record { is = sym (if_none k (place_of (field_of i l (records b))) (code.refused NoDump 0) e h) }

  pub place_low : (i l : ℕ) → t ≡ true → l < 0x0121 → PlaceTold b i l (code.refused NotThere 0)
  unfolding placing field_of
  place_low i l e h = record { is = rw (written_as e i l, lt-leb 0x0121 l h) refl }

  pub place_high : (i l : ℕ) → t ≡ true → 0x0121 ≤ l → 0x01ff < l → PlaceTold b i l (code.refused NotThere 0)
  unfolding placing field_of
  place_high i l e h g = record { is = rw (written_as e i l, le-leb 0x0121 l h, lt-leb l 0x01ff g) refl }

  pub place_by : (i l : ℕ) {r : Sought} → t ≡ true → 0x0121 ≤ l → l ≤ 0x01ff → r ≡ place_of (field_in l (object_at (objects_at b 0) i)) → PlaceTold b i l r
  unfolding placing field_of
  place_by i l e h g q = record { is = q ∙ rw (written_as e i l, le-leb 0x0121 l h, le-leb l 0x01ff g, from_start b) refl }

-- the rows that are put are the list's numbers
pub list_put : (b : List ℕ) {a c : List ℕ} {p : ℕ} → RowsPut 0 a c 0 p (links_from (objects_at b 0) 0 (objects_at b 0)) → Put a c 0 (length (listed (links (records b)))) (listed (links (records b)))
list_put b f = record { at = omega arith; to = rw (← rows_links b) f.to }

-- and so many
pub numbers_are : (b : List ℕ) {w : ℕ} {a c : List ℕ} {m : ℕ} → RowsPut w a c 0 m (links_from (objects_at b 0) 0 (objects_at b 0)) → 4 * m ≡ length (listed (links (records b)))
numbers_are b f = rw (← rows_links b) (omega (arith, f.at, four_each (links_from (objects_at b 0) 0 (objects_at b 0))))
