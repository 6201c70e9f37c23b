-- Item 7 of document 02: "A tool takes a book and a row number (from 0) of its link list and answers: met, with the book offset of the answering identifier; no object of the right class at all; the value stands in a record .. that does not state a link of the same number, with the lowest such book offset and its kind; or it stands in no such record.
-- Each answer is given exactly when its fact holds and none before it does, over the book and not over the search; an offset shown bears that value. Refusals: 15, then 16 where there is no such row."
-- The facts are those of WhyFacts; a card is that of Card; the proofs are in RowFacts and BookRecords.
use Rattle.std.specs.Prelude.{Ok, ℕ, ◌≤◌, ◌≡◌, ◌↔◌, ◌⊎◌, length}
use mathlib.Core.List.{List, Memᴰ}
use Rattle.elements.specs.declared.fault.Fault.TheVariants.{NoDump, NotThere}
use Rattle.elements.specs.Lists.{Bytes}
use Rattle.rules.specs.Book.{encode}
use Rattle.rules.specs.Meaning.{AcceptedBook}
use Rattle.cards.specs.Card.{Card, Meets, dump_of, book_of}
use Rattle.links.specs.Links.{Held, held, Object, objects_of, Row, links, chosen, object_at, States}
use Rattle.elements.specs.Answer.{refused}
use Rattle.why.specs.declared.answer.Why.TheVariants as answer
use Rattle.why.specs.Why.{the_row, row_at}
use Rattle.why.specs.Whys.{Reasoned, WhyTold}
use Rattle.why.specs.WhyFacts.{Stands}
use Rattle.why.specs.BookRecords as book
use Rattle.why.specs.BookRecords.{InBook}
use Rattle.why.specs.RowFacts as rows
use Rattle.why.specs.RowFacts.{Says}

-- x is a card of document 01; why was given its book and a row number n
module _ (x : Card) (meets : Meets x) (bytes : Bytes (dump_of x)) (n : ℕ) where
  module _ (w : Row) (there : row_at (links (book_of x)) n ≡ the_row w) where
    -- the value: what the row's stating record holds
    abbrev pub value : (v : List ℕ) × States (objects_of (book_of x)) w.link w.object w.at v
    value = rows.value (book_of x) n w there

    -- "Each answer is given exactly when its fact holds and none before it does"
    pub exactly_when : (r : Reasoned) → WhyTold (encode (book_of x)) n r ↔ Says (objects_of (book_of x)) w.link value.0 w.reply r
    exactly_when r = rows.exactly_when x meets bytes n w there r

    -- "over the book and not over the search": the records of which the facts say that the value stands in them are those of the book that do, whatever object they are in
    pub over_the_book : (h : Held) → Stands (objects_of (book_of x)) w.link value.0 h ↔ InBook (book_of x) w.link value.0 h
    over_the_book h = book.over_the_book x w.link value.1.some value.0 h

    -- "an offset shown bears that value": there stands a record of that kind with it, an object's
    pub shown_bears : {p k : ℕ} {r : Reasoned} → WhyTold (encode (book_of x)) n r → (r ≡ Ok (answer.Met p k)) ⊎ (r ≡ Ok (answer.Elsewhere p k)) → (i : ℕ) × (o : Object) × (object_at (objects_of (book_of x)) i ≡ chosen o) × Memᴰ (held p k value.0) o.records
    shown_bears t e = rows.shown_bears ((exactly_when _).0 t) e

  -- "16 where there is no such row"
  pub no_such_row : length (links (book_of x)) ≤ n → (r : Reasoned) → WhyTold (encode (book_of x)) n r ↔ (r ≡ refused NotThere 0)
  no_such_row h r = rows.no_such_row x meets bytes n h r

-- "Refusals: 15"
pub no_book_lem : {b : List ℕ} → Bytes b → (AcceptedBook b → ⊥) → (n : ℕ) (r : Reasoned) → WhyTold b n r ↔ (r ≡ refused NoDump 0)
no_book_lem bytes none n r = rows.no_book_lem bytes none n r
