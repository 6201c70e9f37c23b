-- What is known of bytes that were told to be a book, or none.
use Rattle.std.specs.Prelude.{ℕ, ◌≤◌, ◌≡◌, refl, Bool, true, false, List, length}
use Rattle.std.proofs.Common.{arith}
use Rattle.elements.specs.Lists.{Bytes}
use Rattle.rules.specs.Book.{records}
use Rattle.rules.specs.Write.{write_dump}
use Rattle.cards.proofs.WriteLaws.{records_of_lem}
use Rattle.cards.proofs.Demand2.{read_then_written, refused_if_none, book_most}
use Rattle.layouts.specs.Accept.{BookTold}
use Rattle.links.specs.Finding.{Within, objects_at}
use Rattle.links.specs.FindingLaws.{from_start}
use Rattle.links.specs.WholeLaws.{few_objects}
use Rattle.links.specs.Serving.{if_book}

module _ {b : List ℕ} {t : Bool} (k : BookTold b t) where
  -- its length, its number of objects
  pub book_start : t ≡ true → Within b 0
  book_start e = record { high = omega arith; small = book_most (k.yes e).has }

  pub book_few : t ≡ true → length (objects_at b 0) ≤ 128
  book_few e =
      let a = k.yes e in
      let h = a.has in
      let q : records b ≡ h.records = rw h.book at (records_of_lem a.dump h.records h.bytes h.reads) in
      rw (from_start b, q) (few_objects a.dump h.records h.bytes h.reads)

  -- what a service answers of a book, and of what is none
  pub if_book_lem : {A : Type 0} (x y : A) → t ≡ true → if_book (write_dump b) x y ≡ x
  if_book_lem x y e = rw (read_then_written (k.yes e).has) refl

  pub if_none : {A : Type 0} (x y : A) → t ≡ false → Bytes b → if_book (write_dump b) x y ≡ y
  if_none x y e h = rw (refused_if_none h (k.no e)) refl
