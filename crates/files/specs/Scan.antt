-- A book's records as they lie in bytes, and what the code finds by going over them.
use Rattle.std.specs.Prelude.{ℕ, ◌+◌, ◌≤◌, ◌<◌, ◌≡◌, List, [], ◌∷◌, ◌++◌, map, Bool, true, ◌&&◌, length, get_or, take, eqb, Some, None, Option}
use Rattle.std.proofs.Math.Seq.{slice}
use Rattle.elements.specs.Choice.{pick}
use Rattle.elements.specs.declared.fault.Fault.TheVariants.{AuthIdTwice}
use Rattle.files.specs.declared.scan.Key.{Key}
use Rattle.files.specs.declared.scan.Key.TheVariants.{Path, Own}
use Rattle.rules.specs.Reading.{Rec}
use Rattle.rules.specs.Tables.{own_id_row}
use Rattle.rules.specs.Files.{Name, names_path, names_of, paths, met, two, Check, fine, wrong_at, repeated}
use Rattle.rules.specs.Book.{encode}
use Rattle.rules.specs.LookLaws.{Laid}
use Rattle.rules.specs.Pays.{ids_of}

-- from i to `end` b holds just the records rs
pub record Lies (b : List ℕ) (i end : ℕ) (rs : List Rec) : Type 0 where
  pub low : i ≤ end
  pub high : end ≤ length b
  pub are : slice i end b ≡ encode rs
  pub size : ℕ
  pub small : size ≤ 32768
  pub laid : Laid size rs

-- from i to `end` b holds records
pub record Holds (b : List ℕ) (i end : ℕ) : Type 0 where
  pub rs : List Rec
  pub lies : Lies b i end rs

-- 13: the place of the first object that repeats an own authId, by the objects' places
abbrev pub clash_of : Option ℕ → Check
clash_of (Some p) = wrong_at AuthIdTwice p
clash_of None = fine

pub record IdsTold (b marks : List ℕ) (i end : ℕ) (r : Option ℕ) : Type 0 where
  pub is : (rs : List Rec) → Lies b i end rs → repeated [] 0 marks rs ≡ clash_of r

-- the next record that names a path; or there is none
pub data NextName (b : List ℕ) (end : ℕ) (rs : List Rec) : Option ℕ → Type 0 where
  last : names_of rs ≡ [] → NextName b end rs None
  found : {r : ℕ} (n : Name) (left : List Rec) → names_of rs ≡ n ∷ names_of left → r < end → n.tag ≡ get_or b (r + 4) 0 → n.path ≡ slice (r + 6) (r + 2 + two b r) b → 6 ≤ 2 + two b r → Lies b (r + 2 + two b r) end left → NextName b end rs (Some r)

pub record NameTold (b : List ℕ) (i end : ℕ) (r : Option ℕ) : Type 0 where
  pub is : (rs : List Rec) → Lies b i end rs → NextName b end rs r

-- where the record at j ends
abbrev pub behind : List ℕ → ℕ → ℕ
behind b j = j + 2 + two b j

-- the record at j lies in b
pub record Whole (b : List ℕ) (j : ℕ) : Type 0 where
  pub least : 2 ≤ two b j
  pub fits : behind b j ≤ length b

-- the record at j bears a key: an entry that names a path, an own authId
unfoldable pub bears : List ℕ → Key → ℕ → Bool
bears b Path j = names_path (two b (j + 2)) (slice (j + 4) (behind b j) b)
bears b Own j = eqb (two b (j + 2)) own_id_row.kind

-- what stands before its key in a record, from the record's start on
abbrev pub skip : Key → ℕ
skip Path = 6
skip Own = 4

-- its key
unfoldable pub key_at : List ℕ → Key → ℕ → List ℕ
key_at b x j = slice (j + skip x) (behind b j) b

-- the keys that records bear
abbrev pub keys_of : Key → List Rec → List (List ℕ)
keys_of Path rs = paths (names_of rs)
keys_of Own rs = ids_of rs

-- from p to e there are bytes of b
pub record Spans (b : List ℕ) (p e : ℕ) : Type 0 where
  pub low : p ≤ e
  pub high : e ≤ length b

-- whether what stands from p to e is borne by one of the records from i to j
pub record MetTold (b : List ℕ) (x : Key) (i j p e : ℕ) (r : Bool) : Type 0 where
  pub is : (rs : List Rec) → Lies b i j rs → r ≡ met (slice p e b) (keys_of x rs)

-- whether the record at j bears a key that one of the records from i to j bears
pub record RepeatTold (b : List ℕ) (x : Key) (i j : ℕ) (r : Bool) : Type 0 where
  pub is : (rs : List Rec) → Lies b i j rs → r ≡ (bears b x j && met (key_at b x j) (keys_of x rs))

-- what was told before, or else this
abbrev pub or_else : Option ℕ → Option ℕ → Option ℕ
or_else (Some p) r = Some p
or_else None r = r

-- `again`, if it is a place; else `place`, if the record at j names a path that one of the records from i to j names
pub record AgainTold (b : List ℕ) (i j place : ℕ) (again r : Option ℕ) : Type 0 where
  pub is : (rs : List Rec) → Lies b i j rs → r ≡ or_else again (pick (bears b Path j && met (key_at b Path j) (keys_of Path rs)) (Some place) None)

-- the keys of the records at the first c places of an index
abbrev pub placed_keys : List ℕ → List ℕ → ℕ → List (List ℕ)
placed_keys b own c = map (key_at b Own) (take c own)

-- at each of the first c places of an index a record bears an own authId
pub record Places (b own : List ℕ) (c : ℕ) : Type 0 where
  pub within : c ≤ length own
  pub whole : (k : ℕ) → k < c → Whole b (get_or own k 0)
  pub bearing : (k : ℕ) → k < c → bears b Own (get_or own k 0) ≡ true

-- an index of own authIds: it has room for 128 places, and with c below 128 they are those of all
pub record Index (b own : List ℕ) (c : ℕ) (ids : List (List ℕ)) : Type 0 where
  pub room : 128 ≤ length own
  pub places : c < 128 → Places b own c
  pub are : c < 128 → placed_keys b own c ≡ ids

-- an index of the records from i to j
pub record Indexed (b own : List ℕ) (i j c : ℕ) : Type 0 where
  pub rs : List Rec
  pub lies : Lies b i j rs
  pub index : Index b own c (ids_of rs)

-- the index has the own authId of the record at j as well, if it bears one
pub record Noted (b own own' : List ℕ) (c j r : ℕ) : Type 0 where
  pub is : (ids : List (List ℕ)) → Index b own c ids → Index b own' r (ids ++ pick (bears b Own j) (key_at b Own j ∷ []) [])
