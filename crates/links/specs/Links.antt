-- "The links" of document 01, over the records of a book.
use Rattle.std.specs.Prelude.{ℕ, zero, suc, ◌+◌, ◌<◌, ◌≡◌, ◌⊎◌, Bool, true, false, ◌&&◌, length, get_or, leb, eqb}
use mathlib.Core.List.{List, [], ◌∷◌, ◌++◌, map, Memᴰ}
use Rattle.elements.specs.Choice.{pick, choose}
use Rattle.rules.specs.Reading.{Rec}
use Rattle.rules.specs.Tables.{certificate_id_row, own_id_row}
use Rattle.rules.specs.Files.{equal}
use Rattle.rules.specs.Blocks.{closing}

-- a record of an object, and its book offset
pub record Held : Type 0 where
  pub at : ℕ
  pub kind : ℕ
  pub pay : List ℕ

abbrev pub held : ℕ → ℕ → List ℕ → Held
held p k x = record { at = p; kind = k; pay = x }

-- an object: its entry's tag, and its records
pub record Object : Type 0 where
  pub entry : ℕ
  pub records : List Held

-- the book offset behind a record
abbrev pub past : ℕ → Rec → ℕ
past at r = at + 4 + length r.pay

-- an object's records reach up to the next record that closes it, or the end
unfoldable pub held_from : ℕ → List Rec → List Held
held_from at [] = []
held_from at (r ∷ rs) = choose (closing r.kind) (λ _. []) (λ _. held at r.kind r.pay ∷ held_from (past at r) rs)

-- "Book 0120: entry tag, object tag": each is an object, "numbered from 0 in book order"
unfoldable pub objects_from : ℕ → List Rec → List Object
objects_from at [] = []
objects_from at (r ∷ rs) =
    choose (eqb r.kind 0x0120)
    (λ _. record { entry = get_or r.pay 0 0; records = held_from (past at r) rs } ∷ objects_from (past at r) rs)
    (λ _. objects_from (past at r) rs)

abbrev pub objects_of : List Rec → List Object
objects_of rs = objects_from 0 rs

-- "certificate (A4, A5, A6)"
abbrev pub certifying : ℕ → Bool
certifying entry = leb 0xa4 entry && leb entry 0xa6

-- "1. auth: each 0123"; "2. condition: each 0127"; "3. cert: each 0130 of a private key (entry A0)"; 0 is no link
unfoldable pub states : ℕ → ℕ → ℕ
states entry kind = pick (eqb kind 0x0123) 1 (pick (eqb kind 0x0127) 2 (pick (eqb kind 0x0130 && eqb entry 0xa0) 3 0))

-- 1 and 2 are "answered by an authentication object", 3 "by each certificate"
unfoldable pub answering : ℕ → ℕ → Bool
answering link entry = pick (eqb link 3) (certifying entry) (eqb entry 0xa8)

-- an authentication object bears its 0150, a certificate its 0140
unfoldable pub id_kind : ℕ → ℕ
id_kind entry = pick (certifying entry) certificate_id_row.kind own_id_row.kind

-- "the first such record"
pub data Found : Type 0 where
  none : Found
  found : Held → Found

unfoldable pub first_of : ℕ → List Held → Found
first_of k [] = none
first_of k (h ∷ hs) = choose (eqb h.kind k) (λ _. found h) (λ _. first_of k hs)

-- "Bytes are compared whole; the empty identifier equals itself."
abbrev pub is_id : List ℕ → Found → Bool
is_id x none = false
is_id x (found h) = equal x h.pay

-- the object is of the class that answers the link, and bears the identifier
unfoldable pub bears : ℕ → List ℕ → Object → Bool
bears link x o = answering link o.entry && is_id x (first_of (id_kind o.entry) o.records)

-- the numbers of the objects that answer, from object j on
unfoldable pub answers : ℕ → List ℕ → ℕ → List Object → List ℕ
answers link x j [] = []
answers link x j (o ∷ os) = choose (bears link x o) (λ _. j ∷ answers link x (suc j) os) (λ _. answers link x (suc j) os)

-- "answering object, or 4,294,967,295 for missing"
pub data Reply : Type 0 where
  by : ℕ → Reply
  missing : Reply

-- "four a row: link number, object, book offset of the stating record, answering object"
pub record Row : Type 0 where
  pub link : ℕ
  pub object : ℕ
  pub at : ℕ
  pub reply : Reply

abbrev pub row : ℕ → ℕ → ℕ → Reply → Row
row l i p r = record { link = l; object = i; at = p; reply = r }

-- each object that answers, or that none does
abbrev pub replies : List ℕ → List Reply
replies [] = missing ∷ []
replies (j ∷ js) = by j ∷ map by js

abbrev pub rows_of : ℕ → ℕ → ℕ → List ℕ → List Row
rows_of link i p js = map (row link i p) (replies js)

module _ (os : List Object) where
  -- the rows of a record of object i
  unfoldable pub record_rows : ℕ → ℕ → Held → List Row
  record_rows i entry h = choose (eqb (states entry h.kind) 0) (λ _. []) (λ _. rows_of (states entry h.kind) i h.at (answers (states entry h.kind) h.pay 0 os))

  unfoldable pub object_rows : ℕ → ℕ → List Held → List Row
  object_rows i entry [] = []
  object_rows i entry (h ∷ hs) = record_rows i entry h ++ object_rows i entry hs

  -- "Rows go by stating offset, then answering object": from object i on
  unfoldable pub links_from : ℕ → List Object → List Row
  links_from i [] = []
  links_from i (p ∷ ps) = object_rows i p.entry p.records ++ links_from (suc i) ps

unfoldable pub links : List Rec → List Row
links rs = links_from (objects_of rs) 0 (objects_of rs)

abbrev pub number : Reply → ℕ
number (by j) = j
number missing = 4294967295

-- "The list goes into a lent slice of 32-bit numbers"
unfoldable pub listed : List Row → List ℕ
listed [] = []
listed (r ∷ rs) = r.link ∷ r.object ∷ r.at ∷ number r.reply ∷ listed rs

-- object i, if there is one
pub data Chosen : Type 0 where
  nobody : Chosen
  chosen : Object → Chosen

abbrev pub object_at : List Object → ℕ → Chosen
object_at [] i = nobody
object_at (o ∷ os) zero = chosen o
object_at (o ∷ os) (suc i) = object_at os i

abbrev pub field_in : ℕ → Chosen → Found
field_in k nobody = none
field_in k (chosen o) = first_of k o.records

-- "Kinds outside 0121 to 01FF and unknown kinds answer 16": an object's field
unfoldable pub field_of : ℕ → ℕ → List Rec → Found
field_of i k rs = choose (leb 0x0121 k && leb k 0x01ff) (λ _. field_in k (object_at (objects_of rs) i)) (λ _. none)

-- What demand 3 says of the list, in these words:
-- object i states the link at book offset p: a record of it there holds the identifier x
pub record States (os : List Object) (link i p : ℕ) (x : List ℕ) : Type 0 where
  pub object : Object
  pub numbered : object_at os i ≡ chosen object
  pub kind : ℕ
  pub holds : Memᴰ (held p kind x) object.records
  pub says : states object.entry kind ≡ link
  pub some : link ≡ 0 → ⊥

-- object j is of the class that answers the link, and bears the identifier x in the right field
pub record Bears (os : List Object) (link : ℕ) (x : List ℕ) (j : ℕ) : Type 0 where
  pub object : Object
  pub numbered : object_at os j ≡ chosen object
  pub class : answering link object.entry ≡ true
  pub field : Held
  pub first : first_of (id_kind object.entry) object.records ≡ found field
  pub equal : field.pay ≡ x

-- an answering object before another
abbrev pub Lower : Reply → Reply → Type 0
Lower (by j) (by k) = j < k
Lower (by j) missing = ⊥
Lower missing (by k) = ⊥
Lower missing missing = ⊥

-- "Rows go by stating offset, then answering object"
abbrev pub Before : Row → Row → Type 0
Before r q = (r.at < q.at) ⊎ ((r.at ≡ q.at) × Lower r.reply q.reply)

-- each row comes before all that follow it
abbrev pub Rises : List Row → Type 0
Rises [] = Unit {0}
Rises (r ∷ rs) = ((q : Row) → Memᴰ q rs → Before r q) × Rises rs
