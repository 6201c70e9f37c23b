-- The lent numbers, four by four, are the rows (demand 3).
use Rattle.std.specs.Prelude.{ℕ, zero, suc, ◌*◌, ◌<◌, ◌≤◌, ◌≡◌, length, eqb}
use Rattle.std.proofs.Math.Path.{refl}
use Rattle.std.proofs.Common.{◌∙◌, arith, ne_eqb}
use mathlib.Core.List.{List, [], ◌∷◌, Memᴰ}
use Rattle.elements.specs.declared.fault.Fault.TheVariants.{NoRoom}
use Rattle.elements.specs.Choice.{choose}
use Rattle.elements.specs.Lists.{Bytes}
use Rattle.elements.specs.Answer.{Outcome}
use Rattle.elements.specs.Answer as code
use Rattle.std.specs.Prelude.{Ok}
use Rattle.rules.specs.Book.{encode}
use Rattle.rules.specs.Files.{accepted, read_dump}
use Rattle.cards.specs.Card.{Card, Meets, dump_of, book_of}
use Rattle.cards.proofs.WriteLaws.{records_of_lem}
use Rattle.cards.proofs.Demand2.{accepted_cards, read_then_written}
use Rattle.layouts.specs.Service.{served, giving}
use Rattle.layouts.specs.GivingLaws.{fitting, too_long}
use Rattle.links.specs.Links.{Object, Reply, by, missing, Row, row, links, number, listed, chosen, object_at}
use Rattle.links.specs.Serving.{listing, ListTold}

-- "answering object, or 4,294,967,295 for missing"
abbrev pub reply_of : ℕ → Reply
reply_of n = choose (eqb n 4294967295) (λ _. missing) (λ _. by n)

-- the rows that numbers tell, four by four
unfoldable pub rows_in : List ℕ → List Row
rows_in (link ∷ i ∷ p ∷ n ∷ ns) = row link i p (reply_of n) ∷ rows_in ns
rows_in (link ∷ i ∷ p ∷ []) = []
rows_in (link ∷ i ∷ []) = []
rows_in (link ∷ []) = []
rows_in [] = []

-- an answering object's number is not taken for missing
abbrev pub Below : Reply → Type 0
Below (by j) = j < 4294967295
Below missing = Unit {0}

reply_told : (r : Reply) → Below r → reply_of (number r) ≡ r
reply_told (by j) h = rw (ne_eqb j 4294967295 (λ e. omega arith)) refl
reply_told missing h = refl

pub rows_told : (rs : List Row) → ((r : Row) → Memᴰ r rs → Below r.reply) → rows_in (listed rs) ≡ rs
unfolding rows_in listed
rows_told [] h = refl
rows_told (r ∷ rs) h = rw (reply_told r.reply (h r (Memᴰ.head refl)), rows_told rs (λ q m. h q (Memᴰ.tail m))) refl

-- four numbers a row
pub four_each : (rs : List Row) → length (listed rs) ≡ 4 * length rs
unfolding listed
four_each [] = refl
four_each (r ∷ rs) = omega (arith, four_each rs)

-- object j is one of them
pub at_below : (os : List Object) (j : ℕ) {o : Object} → object_at os j ≡ chosen o → j < length os
at_below [] j e = absurd (let z : ◌≡◌ {A = ℕ} 0 1 = cc in omega arith)
at_below (o ∷ os) zero e = omega arith
at_below (o ∷ os) (suc j) e = omega (arith, at_below os j e)

-- what list answered of the book of a card of document 01
module _ (x : Card) (meets : Meets x) (bytes : Bytes (dump_of x)) where
  pub reads : read_dump (dump_of x) ≡ accepted (book_of x)
  reads = (accepted_cards (dump_of x) (book_of x) bytes).1 (x, meets, refl, refl)

  pub gives : {a c : List ℕ} {r : Outcome} → ListTold (encode (book_of x)) a c r → served r c ≡ giving (listed (links (book_of x))) a
  unfolding listing
  gives t = t.is ∙ rw (read_then_written (record { bytes = bytes; records = book_of x; reads = reads; book = refl }), records_of_lem (dump_of x) (book_of x) bytes reads) refl

  pub room : {a c : List ℕ} {r : Outcome} → ListTold (encode (book_of x)) a c r → (4 * length (links (book_of x)) ≤ length a → r ≡ Ok (4 * length (links (book_of x)))) × (length a < 4 * length (links (book_of x)) → (r ≡ code.refused NoRoom (4 * length (links (book_of x)))) × (c ≡ a))
  room {a} {c} {r} t =
      let rows = listed (links (book_of x)) in
      rw (← four_each (links (book_of x))) ((λ l. (fitting rows a c r (gives t) l).0), (λ l. too_long rows a c r (gives t) l))
