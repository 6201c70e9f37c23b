-- The lent numbers, four by four, are the rows, and no answering object's number is that of a missing one (demand 3).
use Rattle.std.specs.Prelude.{ℕ, ◌*◌, ◌≤◌, ◌≡◌, length, take, drop}
use Rattle.std.proofs.Math.Path.{refl}
use Rattle.std.proofs.Common.{◌∙◌, arith}
use mathlib.Core.List.{List, ◌++◌, Memᴰ}
use Rattle.elements.specs.Lists.{Bytes}
use Rattle.std.specs.Prelude.{Ok}
use Rattle.rules.specs.Reading.{Rec}
use Rattle.rules.specs.Book.{encode}
use Rattle.cards.specs.Card.{Card, Meets, dump_of, book_of}
use Rattle.layouts.specs.GivingLaws.{handed, handed_first}
use Rattle.links.specs.Links.{objects_of, Reply, by, missing, Row, links, listed}
use Rattle.links.specs.WholeLaws.{few_objects}
use Rattle.links.specs.Serving.{ListTold}
use Rattle.links.specs.Told.{rows_in, Below, rows_told, four_each, at_below, reads, gives}
use Rattle.links.proofs.AnswerLaws.{rows_answered}

-- what answers is an object
pub replies_below : (rs : List Rec) → length (objects_of rs) ≤ 128 → (r : Row) → Memᴰ r (links rs) → Below r.reply
replies_below rs few r m = go r.reply refl
  where
    go : (q : Reply) → r.reply ≡ q → Below q
    go missing e = tt
    go (by j) e =
        let w = (rows_answered rs r.link r.object r.at j).0 (rw (← e) m) in
        omega (arith, at_below (objects_of rs) j w.2.numbered)

-- what list answered of the book of a card of document 01
module _ (x : Card) (meets : Meets x) (bytes : Bytes (dump_of x)) where
  pub lent : {a c : List ℕ} {n : ℕ} → ListTold (encode (book_of x)) a c (Ok n) → (rows_in (take n c) ≡ links (book_of x)) × (n ≡ 4 * length (links (book_of x))) × (c ≡ take n c ++ drop n a)
  lent {a} {c} {n} t =
      let rows = listed (links (book_of x)) in
      let h = handed rows a c (gives x meets bytes t) in
      let f : take n c ≡ rows = handed_first rows a c (gives x meets bytes t) in
      (rw f (rows_told (links (book_of x)) (replies_below (book_of x) (few_objects (dump_of x) (book_of x) bytes (reads x meets bytes)))), h.0 ∙ four_each (links (book_of x)), rw f h.1)
