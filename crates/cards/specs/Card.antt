-- A card, in the order and the words of documents 01 and 02: what may stand in it, its dump and its book. Nothing is read here.
use Rattle.std.specs.Prelude.{ℕ, zero, suc, ◌+◌, ◌≤◌, ◌≡◌, List, [], ◌∷◌, ◌++◌, ◌⊎◌, length}
use Rattle.std.proofs.Common.{inl, inr}
use Rattle.std.proofs.Math.Option.{Option, none, some}
use Rattle.elements.specs.Record.{record_bytes}
use Rattle.rules.specs.declared.table.Class.{Class}
use Rattle.rules.specs.declared.table.Class.TheVariants.{Keys, Certificates, Containers, Authentications}
use Rattle.rules.specs.declared.table.Sort.TheVariants.{Always, Identifier, Not, And, Or, Other}
use Rattle.rules.specs.Reading.{Rec, rec}
use Rattle.rules.specs.Tables.{class_of}
use Rattle.rules.specs.Files.{Name, paths}
use Rattle.rules.specs.Grammar as grammar
use Rattle.rules.specs.Grammar.{Where, opening, origin, ◌on◌, into, low, numbers, each, Part, empty, ◌and◌, many, one_of, possibly, lengthed, flat}
use Rattle.rules.specs.Conditions.{condition}
use Rattle.rules.specs.Layouts as layouts
use Rattle.rules.specs.Entries as entries
use Rattle.rules.specs.FileLayouts as filing

-- "CIAInfo", with its fill
abbrev pub cia : Part
cia = (layouts.cia).part

-- "EF.OD: entries .. Then fill"
abbrev pub od : Part
od = (filing.od).part

-- the path that an entry names
abbrev pub name_in : (entries.item).Of → List Name
name_in (inl (t, inl path)) = record { tag = t; path = path } ∷ []
name_in (inl (t, inr objects)) = []
name_in (inr unknown) = []

abbrev pub names_of : od.Of → List Name
names_of (list, fill) = flat name_in list

-- "for each path entry 0118, its objects, its fill"
abbrev pub directory : ℕ → Part
directory t = (filing.directory t).part

-- "A record holds one object or none, then fill": "a 2-byte length and its bytes"
abbrev pub record_in : ℕ → Part
record_in t = lengthed (filing.record_in t).part

-- "The book opens such a file with 0119 instead of 0118": its records
abbrev pub linear : ℕ → Part
linear t = grammar.behind (many (record_in t)) (λ _. rec 0x0119 [])

-- "one byte of path length 1 to 64, path, directory file"; "A file is at most 16,383 bytes"
-- the nth of the files, "1 upward in dump order": the places of its objects count from its own first byte
abbrev pub named : ℕ → ℕ → List ℕ → Part → Part
named n kind path P = record {
  Of = P.Of;
  bytes = λ x. record_bytes kind (length path ∷ path ++ P.bytes x);
  book = λ _. P.book (opening n 0);
  Meets = λ x. P.Meets x × (1 ≤ length path) × (length path ≤ 64) × (length (P.bytes x) ≤ 16383);
}

-- a file is transparent, of kind 0003, or of records, of kind 0004
abbrev pub file : ℕ → Name → Part
file n m = one_of (named n 3 m.path (directory m.tag)) (named n 4 m.path (linear m.tag))

-- "then records 0003" and 0004, "in the order of the EF.OD entries that name a path"
unfoldable pub files : ℕ → List Name → Part
files n [] = empty
files n (m ∷ ms) = file n m and files (n + 1) ms

-- "EF.DIR comes with the dump": "application templates", other elements, fill
abbrev pub templates : Part
templates = (filing.dir).part

-- "It stands as a dump record 0005, allowed once, before 0001"; "A file is at most 16,383 bytes"
abbrev pub framed_dir : Part
framed_dir = record {
  Of = templates.Of;
  bytes = λ x. record_bytes 5 (templates.bytes x);
  book = λ _. templates.book origin;
  Meets = λ x. templates.Meets x × (length (templates.bytes x) ≤ 16383);
}

abbrev pub ef_dir : Part
ef_dir = possibly framed_dir

-- EF.DIR if there is one, CIAInfo, EF.OD, and a directory file for each entry that names a path
pub record Card : Type 0 where
  pub dir : ef_dir.Of
  pub info : cia.Of
  pub main : od.Of
  pub dirs : (files 1 (names_of main)).Of

-- "one record of kind 0001 (CIAInfo), one 0002 (EF.OD), then records 0003" and 0004; 0005 before them
abbrev pub dump_of : Card → List ℕ
dump_of c = ef_dir.bytes c.dir ++ (record_bytes 1 (cia.bytes c.info) ++ (record_bytes 2 (od.bytes c.main) ++ (files 1 (names_of c.main)).bytes c.dirs))

abbrev pub book_of : Card → List Rec
book_of c = (cia.book origin c.info ++ (od.book origin c.main ++ (files 1 (names_of c.main)).book origin c.dirs)) ++ ef_dir.book origin c.dir

-- an object: its entry's tag, what it is, and where it stands in its file
abbrev pub Object : Type 0
Object = (entry : ℕ) × (entries.object entry).part.Of × Where

-- its records, from its 0120 on
abbrev pub records_of : Object → List Rec
records_of (entry, object, v) = (entries.object entry).part.book v object

-- "Book 0120: entry tag, object tag", "a 2-byte file number .. and a 2-byte offset", and the records behind it
unfoldable pub front : Object → List ℕ
unfolding entries.object
front (entry, (tag, contents), v) = entry ∷ tag ∷ numbers v

unfoldable pub behind : Object → List Rec
unfolding entries.object
behind (entry, (tag, contents), v) = (layouts.contents entry tag).part.book (into v (low tag ((layouts.contents entry tag).part.bytes contents))) contents

-- "contents common 30, class 30, subclass A0?, type A1"
unfoldable pub common_part : (entry : ℕ) → (entries.object entry).part.Of → (layouts.common).part.Of
unfolding entries.object layouts.contents
common_part entry (tag, (((common, class), subclass), type)) = common

unfoldable pub class_part : (entry : ℕ) → (entries.object entry).part.Of → (layouts.class (class_of entry)).part.Of
unfolding entries.object layouts.contents
class_part entry (tag, (((common, class), subclass), type)) = class

-- the objects of a card, "numbered from 0 in book order": those in EF.OD, then those of the files
abbrev pub under : (t : ℕ) → Where → List (entries.object t).part.Of → List Object
under t = each (entries.object t).part.bytes (λ v o. (t, o, v) ∷ [])

-- inside the entry, inside its A0
abbrev pub in_entry : Where → (entries.item).Of → List Object
in_entry v (inl (t, inl path)) = []
in_entry v (inl (t, inr objects)) = under t (into (into v ((entries.item).shape (inl (t, inr objects)))) ((entries.inline t).shape objects)) objects
in_entry v (inr unknown) = []

abbrev pub in_od : od.Of → List Object
in_od (list, fill) = each (grammar.one entries.item).bytes in_entry origin list

-- behind the record's length
abbrev pub in_records : (t : ℕ) → Where → (linear t).Of → List Object
in_records t = each (record_in t).bytes (λ v r. under t (v on 2) r.0)

abbrev pub in_file : (t : ℕ) → Where → (directory t).Of ⊎ (linear t).Of → List Object
in_file t v (inl (objects, fill)) = under t v objects
in_file t v (inr records) = in_records t v records

unfoldable pub in_files : (n : ℕ) (ms : List Name) → (files n ms).Of → List Object
unfolding files
in_files n [] x = []
in_files n (m ∷ ms) (f, x) = in_file m.tag (opening n 0) f ++ in_files (n + 1) ms x

abbrev pub objects_of : Card → List Object
objects_of c = in_od c.main ++ in_files 1 (names_of c.main) c.dirs

-- an authentication object's "own authId 04? 0150"
abbrev pub given : Option (List ℕ) → List (List ℕ)
given none = []
given (some id) = id ∷ []

unfoldable pub own_id_in : (c : Class) → (layouts.class c).part.Of → List (List ℕ)
unfolding layouts.class
own_id_in Keys x = []
own_id_in Certificates x = []
own_id_in Containers x = []
own_id_in Authentications ((id, references), rest) = given id

abbrev pub own_id : Object → List (List ℕ)
own_id (entry, object, v) = own_id_in (class_of entry) (class_part entry object)

-- no two are equal
abbrev pub NotIn : List ℕ → List (List ℕ) → Type 0
NotIn x [] = Unit {0}
NotIn x (y ∷ ys) = (x ≡ y → ⊥) × NotIn x ys

abbrev pub Distinct : List (List ℕ) → Type 0
Distinct [] = Unit {0}
Distinct (x ∷ xs) = NotIn x xs × Distinct xs

-- what a card has to meet
pub record Meets (c : Card) : Type 0 where
  pub dir : ef_dir.Meets c.dir
  pub info : cia.Meets c.info
  pub main : od.Meets c.main
  pub dirs : (files 1 (names_of c.main)).Meets c.dirs
  -- "Dump, at most 32,768 bytes (house)", "A file is at most 16,383 bytes"
  pub dump_size : length (dump_of c) ≤ 32768
  pub info_size : length (cia.bytes c.info) ≤ 16383
  pub main_size : length (od.bytes c.main) ≤ 16383
  -- "At most 128 objects (house)"
  pub few : length (objects_of c) ≤ 128
  -- "12 paths: EF.OD names a path twice"
  pub paths_once : Distinct (paths (names_of c.main))
  -- "13 twice: two authentication objects with equal own authId"
  pub ids_once : Distinct (flat own_id (objects_of c))

-- the identifiers in a condition, at any depth, one after the other
unfoldable pub identifiers_in : (levels : ℕ) → (condition levels).item.Of → List (List ℕ)
unfolding condition
identifiers_in zero x = absurd x
identifiers_in (suc l) (Always, nothing) = []
identifiers_in (suc l) (Identifier, id) = id ∷ []
identifiers_in (suc l) (Not, inner) = identifiers_in l inner
identifiers_in (suc l) (And, inner) = flat (identifiers_in l) inner
identifiers_in (suc l) (Or, inner) = flat (identifiers_in l) inner
identifiers_in (suc l) (Other, sealed) = []

-- and in an object's rules
unfoldable pub in_rule : (layouts.rule).part.Of → List (List ℕ)
unfolding layouts.rule
in_rule ((mode, condition), rest) = identifiers_in 8 condition

unfoldable pub in_rules : (layouts.rules).part.Of → List (List ℕ)
unfolding layouts.rules
in_rules (first, others) = in_rule first ++ flat in_rule others

unfoldable pub in_common : (layouts.common).part.Of → List (List ℕ)
unfolding layouts.common
in_common ((fields, none), rest) = []
in_common ((fields, some rules), rest) = in_rules rules

abbrev pub identifiers : Object → List (List ℕ)
identifiers (entry, object, v) = in_common (common_part entry object)
