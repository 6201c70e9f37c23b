-- "Why is this link missing?" of document 02, over the records of a book.
use Rattle.std.specs.Prelude.{ℕ, zero, suc, List, [], ◌∷◌, Bool, false, ◌||◌, ◌&&◌, not, eqb}
use Rattle.elements.specs.Choice.{choose}
use Rattle.elements.specs.Sealed.{among}
use Rattle.rules.specs.Reading.{Rec}
use Rattle.rules.specs.Files.{equal}
use Rattle.links.specs.Finding.{id_in}
use Rattle.links.specs.Links.{Held, Object, objects_of, states, answering, Found, none, found, Reply, by, missing, Row, links, Chosen, nobody, chosen, object_at}

-- "a row number (from 0) of its link list"
pub data Sought : Type 0 where
  no_row : Sought
  the_row : Row → Sought

abbrev pub row_at : List Row → ℕ → Sought
row_at [] n = no_row
row_at (r ∷ rs) zero = the_row r
row_at (r ∷ rs) (suc n) = row_at rs n

-- "the value": what the object's record at this offset holds
unfoldable pub pay_at : ℕ → List Held → List ℕ
pay_at p [] = []
pay_at p (h ∷ hs) = choose (eqb h.at p) (λ _. h.pay) (λ _. pay_at p hs)

abbrev pub value_in : ℕ → Chosen → List ℕ
value_in p nobody = []
value_in p (chosen o) = pay_at p o.records

-- "no object of the right class at all": whether there is one
unfoldable pub peopled : ℕ → List Object → Bool
peopled link [] = false
peopled link (o ∷ os) = answering link o.entry || peopled link os

-- "a record 0123, 0127, 0130, 0140 or 0150"
abbrev pub identifier_kinds : List ℕ
identifier_kinds = 0x0123 ∷ 0x0127 ∷ 0x0130 ∷ 0x0140 ∷ 0x0150 ∷ []

-- "that does not state a link of the same number"
unfoldable pub aside : ℕ → ℕ → ℕ → Bool
aside link entry kind = among kind identifier_kinds && not (eqb (states entry kind) link)

-- "the value stands in" such a record: the first of an object's, and of all
unfoldable pub stands_in : ℕ → List ℕ → ℕ → List Held → Found
stands_in link x entry [] = none
stands_in link x entry (h ∷ hs) = choose (aside link entry h.kind && equal x h.pay) (λ _. found h) (λ _. stands_in link x entry hs)

abbrev pub or_else : Found → Found → Found
or_else none g = g
or_else (found h) g = found h

unfoldable pub stands : ℕ → List ℕ → List Object → Found
stands link x [] = none
stands link x (o ∷ os) = or_else (stands_in link x o.entry o.records) (stands link x os)

-- the answers: "met, with the book offset of the answering identifier; no object of the right class at all; the value stands in a record .. that does not state a link of the same number, with the lowest such book offset and its kind; or it stands in no such record"
pub data Reason : Type 0 where
  met : Held → Reason
  no_object : Reason
  elsewhere : Held → Reason
  nowhere : Reason

abbrev pub met_in : Found → Reason
met_in none = nowhere
met_in (found h) = met h

abbrev pub unmet : Found → Reason
unmet none = nowhere
unmet (found h) = elsewhere h

abbrev pub reason_for : List Object → ℕ → List ℕ → Reply → Reason
reason_for os link x (by j) = met_in (id_in (object_at os j))
reason_for os link x missing = choose (peopled link os) (λ _. unmet (stands link x os)) (λ _. no_object)

-- "16 where there is no such row"
pub data Told : Type 0 where
  because : Reason → Told
  no_such : Told

abbrev pub on_row : List Object → Sought → Told
on_row os no_row = no_such
on_row os (the_row r) = because (reason_for os r.link (value_in r.at (object_at os r.object)) r.reply)

unfoldable pub why : List Rec → ℕ → Told
why rs n = on_row (objects_of rs) (row_at (links rs) n)
