-- What the code finds in a book's bytes: objects, their records, an index of them, and the rows that it puts.
use Rattle.std.specs.Prelude.{ℕ, ◌+◌, ◌-◌, ◌*◌, ◌≤◌, ◌<◌, ◌≡◌, List, [], ◌∷◌, Bool, ◌&&◌, length, get_or, drop, Option, None, MatchOption}
use Rattle.std.proofs.Math.Seq.{slice}
use Rattle.std.proofs.lemmas.List.Edits.{sets}
use Rattle.rules.specs.Files.{two}
use Rattle.rules.specs.Book.{records_from, Ends}
use Rattle.links.specs.declared.index.Entry.{Entry}
use Rattle.links.specs.declared.index.Index.{Index}
use Rattle.links.specs.Links.{Held, held, Object, held_from, objects_from, answering, id_kind, Found, none, found, first_of, is_id, Row, listed, Chosen, nobody, chosen, object_at}

-- a place in bytes that may be a book
pub record Within (b : List ℕ) (i : ℕ) : Type 0 where
  pub high : i ≤ length b
  pub small : length b ≤ 131072

-- the objects from place i on, and an object's records from there on
abbrev pub objects_at : List ℕ → ℕ → List Object
objects_at b i = objects_from i (records_from b i)

abbrev pub held_at : List ℕ → ℕ → List Held
held_at b i = held_from i (records_from b i)

-- the object whose 0120 reaches from r to e
abbrev pub object_there : List ℕ → ℕ → ℕ → Object
object_there b r e = record { entry = get_or (slice (r + 4) e b) 0 0; records = held_at b e }

-- the record from r to e
abbrev pub held_there : List ℕ → ℕ → ℕ → Held
held_there b r e = held r (two b (r + 2)) (slice (r + 4) e b)

-- the next object's 0120 is at r; or there is none
pub record ObjectAt (b : List ℕ) (i r : ℕ) : Type 0 where
  pub low : i ≤ r
  pub inside : r + 4 ≤ length b
  pub is : (e : ℕ) → Ends b r e → objects_at b i ≡ object_there b r e ∷ objects_at b e

abbrev pub NextObject : List ℕ → ℕ → Option ℕ → Type 0
NextObject b i r = MatchOption r (objects_at b i ≡ []) (λ p. ObjectAt b i p)

-- the record that was sought is at r; or there is none
pub record RecordAt (b : List ℕ) (f : Found) (r : ℕ) : Type 0 where
  pub inside : r + 4 ≤ length b
  pub is : (e : ℕ) → Ends b r e → f ≡ found (held_there b r e)

abbrev pub FoundAt : List ℕ → Found → Option ℕ → Type 0
FoundAt b f r = MatchOption r (f ≡ none) (λ p. RecordAt b f p)

-- a record's place, if there is one, in bytes that may be a book
abbrev pub Lies : List ℕ → Option ℕ → Type 0
Lies b r = MatchOption r Unit (λ p. p + 4 ≤ length b) × (length b ≤ 131072)

-- the entry's tag and the identifier of an object, if there is one
abbrev pub tag_in : Chosen → ℕ
tag_in nobody = 0
tag_in (chosen o) = o.entry

abbrev pub id_in : Chosen → Found
id_in nobody = none
id_in (chosen o) = first_of (id_kind o.entry) o.records

-- those of object j
abbrev pub tag_at : List ℕ → ℕ → ℕ
tag_at b j = tag_in (object_at (objects_at b 0) j)

abbrev pub id_at : List ℕ → ℕ → Found
id_at b j = id_in (object_at (objects_at b 0) j)

-- entry j
abbrev pub entry_at : List Entry → ℕ → Entry
entry_at entries j = get_or entries j (record { tag = 0; id = None })

-- the entries of the first n objects: their tags, and where the records of their identifiers are
pub record Entries (b : List ℕ) (entries : List Entry) (n : ℕ) : Type 0 where
  pub long : n ≤ length entries
  pub tags : (j : ℕ) → j < n → tag_at b j ≡ (entry_at entries j).tag
  pub ids : (j : ℕ) → j < n → FoundAt b (id_at b j) (entry_at entries j).id

-- all objects are entered
pub record Entered (b : List ℕ) (x : Index) : Type 0 where
  pub count : length (objects_at b 0) ≡ x.n
  pub few : x.n ≤ 128
  pub entries : Entries b x.entries x.n

-- whether an object with this entry answers the link that the record from p to e states
pub record AnswerTold (b : List ℕ) (p e link tag : ℕ) (id : Option ℕ) (r : Bool) : Type 0 where
  pub is : (f : Found) → FoundAt b f id → r ≡ (answering link tag && is_id (slice (p + 4) e b) f)

-- rows of the list, those from number o up to r, are put into lent numbers, which were a and are c and begin with row w of the list
pub record RowsPut (w : ℕ) (a c : List ℕ) (o r : ℕ) (rs : List Row) : Type 0 where
  pub at : r ≡ o + length rs
  pub to : c ≡ sets a (4 * (o - w)) (listed (drop (w - o) rs))
