-- What a part of a card is, said without reading it: its contents as data, the bytes and the records of the book that they stand as, and what they must meet.
use Rattle.std.specs.Prelude.{ℕ, suc, ◌+◌, ◌-◌, ◌*◌, ◌/◌, ◌%◌, ◌≤◌, ◌<◌, ◌≡◌, List, [], ◌∷◌, ◌++◌, Bool, true, false, ◌⊎◌, ℤ, pos, ◌≤ℤ◌, length, replicate, ltb}
use Rattle.std.proofs.Common.{inl, inr}
use Rattle.std.proofs.Math.Option.{Option, none, some}
use Rattle.elements.specs.declared.answer.Form.{Form}
use Rattle.elements.specs.declared.answer.Form.TheVariants as form
use Rattle.elements.specs.Choice.{pick}
use Rattle.elements.specs.Length.{shortest, tag_bytes}
use Rattle.elements.specs.Sealed.{among, constructed}
use Rattle.elements.specs.Encodings.{utf8s, Worth, Proper, contents_of, tells}
use Rattle.elements.specs.Put.{le16, le32}
pub use Rattle.rules.specs.declared.site.Site.{Site}
use Rattle.rules.specs.declared.table.Need.{Need}
use Rattle.rules.specs.declared.table.Need.TheVariants.{Required, Optional, Default}
use Rattle.rules.specs.declared.table.Row.{Row}
use Rattle.rules.specs.declared.table.Sort.{Sort}
use Rattle.rules.specs.Reading.{Rec, rec, twos}

-- an element: class and constructed bit (the first byte's top three bits), the tag's number, the contents
pub record Element : Type 0 where
  pub lead : ℕ
  pub number : ℕ
  pub contents : List ℕ

-- of a tag of one byte
abbrev pub low : ℕ → List ℕ → Element
low t c = record { lead = t / 32; number = t % 32; contents = c }

-- "definite, shortest form"
unfoldable pub element_bytes : Element → List ℕ
element_bytes x = tag_bytes x.lead x.number ++ shortest (length x.contents) ++ x.contents

abbrev pub first_of : Element → ℕ
first_of x = pick (ltb x.number 31) (x.lead * 32 + x.number) (x.lead * 32 + 31)

-- "in at most three further bytes; tag 00 is no tag"
pub record IsElement (x : Element) : Type 0 where
  pub lead_fits : x.lead < 8
  pub number_fits : x.number < 2097152
  pub some_tag : x.lead ≡ 0 → x.number ≡ 0 → ⊥

-- "A sealed part is checked for tags, lengths and exact nesting only": elements one after the other, none on this level with a tag kept out
pub data SealedRun : ℕ → List ℕ → List ℕ → Type 0 where
  over : {l : ℕ} {out c : List ℕ} → c ≡ [] → SealedRun l out c
  shallow : {l : ℕ} {out c : List ℕ} (x : Element) (w : List ℕ) → IsElement x → among (first_of x) out ≡ false → constructed (first_of x) ≡ false →
      SealedRun (suc l) out w → c ≡ element_bytes x ++ w → SealedRun (suc l) out c
  deep : {l : ℕ} {out c : List ℕ} (x : Element) (w : List ℕ) → IsElement x → among (first_of x) out ≡ false → constructed (first_of x) ≡ true →
      SealedRun l [] x.contents → SealedRun (suc l) out w → c ≡ element_bytes x ++ w → SealedRun (suc l) out c

-- "at most 16 deep (house, the outermost counts 1)": the contents of a sealed element
abbrev pub SealedIn : Bool → List ℕ → Type 0
SealedIn true c = SealedRun 15 [] c
SealedIn false c = Unit {0}

-- where something stands: in such a file, at a place of the dump
pub record Where : Type 0 where
  pub file : Site
  pub at : ℕ

-- a file, by its number and the place where it starts
abbrev pub site_of : ℕ → ℕ → Site
site_of n p = record { number = n; start = p }

abbrev pub here : Site → ℕ → Where
here f n = record { file = f; at = n }

-- where file n starts
abbrev pub opening : ℕ → ℕ → Where
opening n p = here (site_of n p) p

-- at the first byte of a file that is looked at alone
abbrev pub origin : Where
origin = opening 0 0

-- so many bytes further on
abbrev pub ◌on◌ : Where → ℕ → Where
◌on◌ v n = here v.file (v.at + n)

-- the same where the file starts so many bytes later
abbrev pub ◌later◌ : Where → ℕ → Where
◌later◌ v n = here (site_of v.file.number (n + v.file.start)) (n + v.at)

-- where the contents of an element stand
abbrev pub into : Where → Element → Where
into v x = v on (length (element_bytes x) - length x.contents)

pub record Part : Type 1 where
  pub Of : Type 0
  pub bytes : Of → List ℕ
  -- its records, where it stands there
  pub book : Where → Of → List Rec
  pub Meets : Of → Type 0

-- a part that is one element
pub record Item : Type 1 where
  pub Of : Type 0
  pub shape : Of → Element
  pub book : Where → Of → List Rec
  pub Meets : Of → Type 0

abbrev pub empty : Part
empty = record { Of = Unit {0}; bytes = λ _. []; book = λ _ _. []; Meets = λ _. Unit {0} }

abbrev pub ◌and◌ : Part → Part → Part
◌and◌ P Q = record {
  Of = P.Of × Q.Of;
  bytes = λ x. P.bytes x.0 ++ Q.bytes x.1;
  book = λ v x. P.book v x.0 ++ Q.book (v on length (P.bytes x.0)) x.1;
  Meets = λ x. P.Meets x.0 × Q.Meets x.1;
}

abbrev pub ◌or◌ : Item → Item → Item
◌or◌ I J = record {
  Of = I.Of ⊎ J.Of;
  shape = λ x. elim x [ inl i ↦ I.shape i | inr j ↦ J.shape j ];
  book = λ v x. elim x [ inl i ↦ I.book v i | inr j ↦ J.book v j ];
  Meets = λ x. elim x [ inl i ↦ I.Meets i | inr j ↦ J.Meets j ];
}

abbrev pub one : Item → Part
one I = record { Of = I.Of; bytes = λ i. element_bytes (I.shape i); book = I.book; Meets = I.Meets }

-- there, or not
abbrev pub possibly : Part → Part
possibly P = record {
  Of = Option P.Of;
  bytes = λ x. elim x [ none ↦ [] | some y ↦ P.bytes y ];
  book = λ v x. elim x [ none ↦ [] | some y ↦ P.book v y ];
  Meets = λ x. elim x [ none ↦ Unit {0} | some y ↦ P.Meets y ];
}

abbrev pub optional : Item → Part
optional I = possibly (one I)

abbrev pub slot : Need → Item → Part
slot Required I = one I
slot Optional I = optional I
slot (Default d) I = optional I

abbrev pub tagged : ℕ → Part → Item
tagged t P = record { Of = P.Of; shape = λ x. low t (P.bytes x); book = λ v x. P.book (into v (low t (P.bytes x))) x; Meets = P.Meets }

-- what is more to meet
abbrev pub with : (P : Part) → (P.Of → Type 0) → Part
with P f = record { Of = P.Of; bytes = P.bytes; book = P.book; Meets = λ x. P.Meets x × f x }

-- a record in front
abbrev pub behind : (P : Part) → (P.Of → Rec) → Part
behind P f = record { Of = P.Of; bytes = P.bytes; book = λ v x. f x ∷ P.book v x; Meets = P.Meets }

-- one after the other
abbrev pub flat : {A B : Type 0} → (A → List B) → List A → List B
flat f [] = []
flat f (x ∷ xs) = f x ++ flat f xs

abbrev pub total : {A : Type 0} → (A → ℕ) → List A → ℕ
total f [] = 0
total f (x ∷ xs) = f x + total f xs

abbrev pub AllMeet : {A : Type 0} → (A → Type 0) → List A → Type 0
AllMeet f [] = Unit {0}
AllMeet f (x ∷ xs) = f x × AllMeet f xs

-- the same of each where it stands, behind the bytes of those before it
abbrev pub each : {A B : Type 0} → (A → List ℕ) → (Where → A → List B) → Where → List A → List B
each b f v [] = []
each b f v (x ∷ xs) = f v x ++ each b f (v on length (b x)) xs

abbrev pub many : Part → Part
many P = record { Of = List P.Of; bytes = flat P.bytes; book = each P.bytes P.book; Meets = AllMeet P.Meets }

-- one or the other
abbrev pub one_of : Part → Part → Part
one_of P Q = record {
  Of = P.Of ⊎ Q.Of;
  bytes = λ x. elim x [ inl y ↦ P.bytes y | inr y ↦ Q.bytes y ];
  book = λ v x. elim x [ inl y ↦ P.book v y | inr y ↦ Q.book v y ];
  Meets = λ x. elim x [ inl y ↦ P.Meets y | inr y ↦ Q.Meets y ];
}

-- "a 2-byte length and its bytes"
abbrev pub lengthed : Part → Part
lengthed P = record { Of = P.Of; bytes = λ x. le16 (length (P.bytes x)) ++ P.bytes x; book = λ v. P.book (v on 2); Meets = P.Meets }

-- a sealed element whose first tag byte is one of these, behind what stands in front of it in its record
abbrev pub sealed_one : (ℕ → Bool) → ℕ → (ℕ → List ℕ) → Item
sealed_one which kind front = record {
  Of = Element;
  shape = λ x. x;
  book = λ v x. rec kind (front (first_of x) ++ element_bytes x) ∷ [];
  Meets = λ x. IsElement x × SealedIn (constructed (first_of x)) x.contents × (which (first_of x) ≡ true);
}

-- an element with one of these tags, and what is inside it
abbrev pub choice : (ℕ → Bool) → (ℕ → Part) → Item
choice which P = record {
  Of = (t : ℕ) × (P t).Of;
  shape = λ x. low x.0 ((P x.0).bytes x.1);
  book = λ v x. (P x.0).book (into v (low x.0 ((P x.0).bytes x.1))) x.1;
  Meets = λ x. (which x.0 ≡ true) × (P x.0).Meets x.1;
}

-- "a 2-byte file number .. and a 2-byte offset of the object inside that file"
abbrev pub numbers : Where → List ℕ
numbers v = le16 v.file.number ++ le16 (v.at - v.file.start)

-- an element with one of these tags, behind a record that tells x, its tag and where it stands
abbrev pub numbered : ℕ → (ℕ → Bool) → ℕ → (ℕ → Part) → Item
numbered kind which x P = record {
  Of = (choice which P).Of;
  shape = (choice which P).shape;
  book = λ v i. rec kind (x ∷ i.0 ∷ numbers v) ∷ (choice which P).book v i;
  Meets = (choice which P).Meets;
}

-- an element of one of several sorts
abbrev pub by_sort : (Sort → Item) → Item
by_sort I = record {
  Of = (x : Sort) × (I x).Of;
  shape = λ i. (I i.0).shape i.1;
  book = λ v i. (I i.0).book v i.1;
  Meets = λ i. (I i.0).Meets i.1;
}

-- none
abbrev pub never : Item
never = record { Of = ⊥; shape = λ x. absurd x; book = λ v x. absurd x; Meets = λ x. ⊥ }

-- bytes as they are, in a record of their own
abbrev pub raw : (List ℕ → Rec) → (List ℕ → Type 0) → Part
raw r f = record { Of = List ℕ; bytes = λ c. c; book = λ v c. r c ∷ []; Meets = f }

-- what has no byte has no record
abbrev pub unless_empty : ℕ → List ℕ → List Rec
unless_empty kind [] = []
unless_empty kind (x ∷ c) = rec kind (x ∷ c) ∷ []

-- "Rest means sealed elements after the listed components; the tag of an optional or defaulted component of that sequence may not occur there."
abbrev pub rest : ℕ → List ℕ → Part
rest kind out = record { Of = List ℕ; bytes = λ c. c; book = λ v. unless_empty kind; Meets = SealedRun 16 out }

-- "Flags, integers and enumerations are numbers in the book; BOOLEANs one byte, 00 or 01"
abbrev pub pay_of : (f : Form) → Worth f → List ℕ
pay_of form.Boolean v = v ∷ []
pay_of form.Integer v = le32 (twos v)
pay_of form.Bits v = le32 v
pay_of form.Null v = []
pay_of form.Text v = utf8s v
pay_of form.Time v = v
pay_of form.Octets v = v

-- "A component equal to its DEFAULT is not written."
abbrev pub NotDefault : Need → ℤ → Type 0
NotDefault Required z = Unit {0}
NotDefault Optional z = Unit {0}
NotDefault (Default d) z = z ≡ pos d → ⊥

-- "every component should then state its own bounds": on what its form tells of the value
abbrev pub Within : Row → ℤ → Type 0
Within r z = (r.low ≤ℤ z) × (z ≤ℤ r.high)

-- which forms have them, and which a default
abbrev pub Stated : (f : Form) → Row → ℤ → Type 0
Stated form.Boolean r z = NotDefault r.need z
Stated form.Integer r z = Within r z × NotDefault r.need z
Stated form.Bits r z = Unit {0}
Stated form.Null r z = Unit {0}
Stated form.Text r z = Within r z
Stated form.Time r z = Unit {0}
Stated form.Octets r z = Within r z

abbrev pub Fine : (f : Form) → Row → Worth f → Type 0
Fine f r v = Proper f v × Stated f r (tells f v)

abbrev pub field : Row → Part
field r = record {
  Of = Worth r.form;
  bytes = contents_of r.form;
  book = λ _ v. rec r.kind (pay_of r.form v) ∷ [];
  Meets = Fine r.form r;
}

-- the components of a table, in its order
abbrev pub fields : List Row → Part
fields [] = empty
fields (r ∷ rs) = slot r.need (tagged r.tag (field r)) and fields rs

-- "a first byte 00 or FF where an element would start begins the fill, and all bytes to the end must equal it"; "fill byte, 2-byte count"
abbrev pub fill : ℕ → Part
fill kind = record {
  Of = Option (ℕ × ℕ);
  bytes = λ x. elim x [ none ↦ [] | some (b, n) ↦ replicate n b ];
  book = λ v x. elim x [ none ↦ [] | some (b, n) ↦ rec kind (b ∷ le16 n) ∷ [] ];
  Meets = λ x. elim x [ none ↦ Unit {0} | some (b, n) ↦ ((b ≡ 0) ⊎ (b ≡ 0xff)) × (1 ≤ n) × (n < 65536) ];
}

infixl 20 ◌and◌
infixl 20 ◌on◌
infixl 20 ◌later◌
infixr 18 ◌or◌
