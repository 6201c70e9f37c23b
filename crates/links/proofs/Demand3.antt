-- Demand 3: "The link list holds each link the objects state, nested access conditions among them, with each object that answers it, once, in the stated order;
-- a link is marked missing exactly when no object of the right class bears that identifier in the right field. Nothing else is on the list."
-- The words are those of Links; a card and its objects are those of Card; the proofs are in Told, ToldLaws, AnswerLaws, WholeLaws and RisingLaws.
use Rattle.std.specs.Prelude.{ℕ, ◌*◌, ◌<◌, ◌≤◌, ◌≡◌, ◌↔◌, length, take, drop}
use mathlib.Core.List.{List, ◌++◌, Memᴰ}
use Rattle.elements.specs.declared.fault.Fault.TheVariants.{NoRoom}
use Rattle.elements.specs.Lists.{Bytes}
use Rattle.elements.specs.Answer.{Outcome}
use Rattle.elements.specs.Answer as code
use Rattle.std.specs.Prelude.{Ok}
use Rattle.rules.specs.declared.table.Sort.TheVariants.{Identifier}
use Rattle.rules.specs.Reading.{rec}
use Rattle.rules.specs.Tables.{kind_of}
use Rattle.rules.specs.Book.{encode}
use Rattle.cards.specs.Card as card
use Rattle.cards.specs.Card.{Card, Meets, dump_of, book_of, behind, identifiers}
use Rattle.links.specs.Links.{Object, objects_of, by, missing, Row, row, links, states, id_kind, States, Bears, Rises}
use Rattle.links.specs.Serving.{ListTold}
use Rattle.links.proofs.AnswerLaws.{rows_answered, rows_missing, rows_stated}
use Rattle.links.specs.WholeLaws as whole
use Rattle.links.specs.WholeLaws.{WholeObject, WholeObjects, held_pays, At}
use Rattle.links.proofs.RisingLaws.{rows_rising}
use Rattle.links.specs.Told as told
use Rattle.links.specs.Told.{rows_in}
use Rattle.links.proofs.ToldLaws as told_laws

-- x is a card of document 01; list was given its book, with a slice that was a and then is c
module _ (x : Card) (meets : Meets x) (bytes : Bytes (dump_of x)) where
  -- with room for four numbers a row it accepts; without, it is 14 with their number, and the slice is what it was
  pub room : {a c : List ℕ} {r : Outcome} → ListTold (encode (book_of x)) a c r →
      (4 * length (links (book_of x)) ≤ length a → r ≡ Ok (4 * length (links (book_of x)))) × (length a < 4 * length (links (book_of x)) → (r ≡ code.refused NoRoom (4 * length (links (book_of x)))) × (c ≡ a))
  room t = told.room x meets bytes t

  -- "The link list": the numbers of the lent slice, four by four, are the rows of the card's book, and past them it is what it was
  pub lent : {a c : List ℕ} {n : ℕ} → ListTold (encode (book_of x)) a c (Ok n) → (rows_in (take n c) ≡ links (book_of x)) × (n ≡ 4 * length (links (book_of x))) × (c ≡ take n c ++ drop n a)
  lent t = told_laws.lent x meets bytes t

-- "holds each link the objects state": the objects of a card's book are the card's, in turn, each with all its records
pub whole_objects : (x : Card) → WholeObjects (objects_of (book_of x)) (card.objects_of x)
whole_objects x = whole.whole_objects x

-- so each link that a record of the card's object j makes is stated
pub each_stated : (x : Card) {o : card.Object} {j : ℕ} → At o j (card.objects_of x) → (kind : ℕ) (id : List ℕ) {link : ℕ} → Memᴰ (rec kind id) (behind o) → states o.0 kind ≡ link → (link ≡ 0 → ⊥) → (p : ℕ) × States (objects_of (book_of x)) link j p id
each_stated x a kind id m s z = whole.each_says x a kind id m s z

-- "nested access conditions among them": each identifier in a condition of its rules, at any depth, is stated as link 2
pub nested_stated : (x : Card) {o : card.Object} {j : ℕ} → At o j (card.objects_of x) → (id : List ℕ) → Memᴰ id (identifiers o) → (p : ℕ) × States (objects_of (book_of x)) 2 j p id
nested_stated x a id m = whole.each_nested x a id m

-- and its records 0127 are just these, as many and in the same order
pub nested_only : {held : Object} {o : card.Object} → WholeObject held o → held_pays (kind_of Identifier) held.records ≡ identifiers o
nested_only w = whole.nested_held w

-- "bears that identifier in the right field": an object has at most one record of the kind that holds its identifier, 0140 or 0150, so the first is the only one
pub one_identifier : {held : Object} {o : card.Object} → WholeObject held o → length (held_pays (id_kind held.entry) held.records) ≤ 1
one_identifier w = whole.one_held w

-- on the list that was accepted
module _ (x : Card) (meets : Meets x) (bytes : Bytes (dump_of x)) {a c : List ℕ} {n : ℕ} (t : ListTold (encode (book_of x)) a c (Ok n)) where
  -- "with each object that answers it": a row with an answer stands on the list if and only if object i states that link at p, and object j bears the identifier
  pub answered : (link i p j : ℕ) → Memᴰ (row link i p (by j)) (rows_in (take n c)) ↔ ((id : List ℕ) × States (objects_of (book_of x)) link i p id × Bears (objects_of (book_of x)) link id j)
  answered link i p j = rw (lent x meets bytes t).0 (rows_answered (book_of x) link i p j)

  -- "once, in the stated order"
  pub rising : Rises (rows_in (take n c))
  rising = rw (lent x meets bytes t).0 (rows_rising (book_of x))

  -- "a link is marked missing exactly when no object of the right class bears that identifier in the right field"
  pub unanswered : (link i p : ℕ) → Memᴰ (row link i p missing) (rows_in (take n c)) ↔ ((id : List ℕ) × States (objects_of (book_of x)) link i p id × ((j : ℕ) → Bears (objects_of (book_of x)) link id j → ⊥))
  unanswered link i p = rw (lent x meets bytes t).0 (rows_missing (book_of x) link i p)

  -- "Nothing else is on the list."
  pub nothing_else : (r : Row) → Memᴰ r (rows_in (take n c)) → (id : List ℕ) × States (objects_of (book_of x)) r.link r.object r.at id
  nothing_else r m = rows_stated (book_of x) r (rw (lent x meets bytes t).0 at m)
