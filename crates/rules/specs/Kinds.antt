-- Which kinds of records a part has: those that its layout lists, and no others. Said of data alone.
use Rattle.std.specs.Prelude.{ℕ, List, [], ◌∷◌, ◌++◌, Bool, refl, length, T}
use Rattle.std.proofs.Math.Option.{none, some}
use Rattle.std.proofs.Common.{inl, inr, eq-eqb}
use Rattle.elements.specs.Sealed.{among}
use Rattle.rules.specs.declared.table.Need.{Need}
use Rattle.rules.specs.declared.table.Need.TheVariants.{Required, Optional, Default}
use Rattle.rules.specs.declared.table.Row.{Row}
use Rattle.rules.specs.Reading.{Rec, rec}
use Rattle.rules.specs.LookLaws.{among_more, among_later}
use Rattle.rules.specs.Grammar.{Where, ◌on◌, Part, Item, ◌and◌, ◌or◌, one, optional, slot, tagged, many, sealed_one, raw, rest, pay_of, field, fields, fill}

-- records of these kinds
pub data Among (ks : List ℕ) : List Rec → Type 0 where
  none_there : Among ks []
  there : {r : Rec} {rs : List Rec} → T (among r.kind ks) → Among ks rs → Among ks (r ∷ rs)

-- whatever its data, a part has records of these kinds
abbrev pub Only : Part → List ℕ → Type 0
Only P ks = (v : Where) (x : P.Of) → Among ks (P.book v x)

-- a kind is one of a list that begins with it
pub itself : (k : ℕ) (l : List ℕ) → T (among k (k ∷ l))
itself k l = rw (eq-eqb k k refl) tt

-- more kinds behind these, or in front
pub early : (k l : List ℕ) {bs : List Rec} → Among k bs → Among (k ++ l) bs
early k l none_there = none_there
early k l (there {r = r} h g) = there (among_more r.kind k l h) (early k l g)

pub late : (k l : List ℕ) {bs : List Rec} → Among l bs → Among (k ++ l) bs
late k l none_there = none_there
late k l (there {r = r} h g) = there (among_later r.kind k l h) (late k l g)

-- records behind records
pub append : {k : List ℕ} {bs cs : List Rec} → Among k bs → Among k cs → Among k (bs ++ cs)
append none_there g = g
append (there h f) g = there h (append f g)

-- one record
pub sole : (kind : ℕ) (p : List ℕ) → Among (kind ∷ []) (rec kind p ∷ [])
sole kind p = there (itself kind []) none_there

-- the kinds of a table
abbrev pub kinds_of : List Row → List ℕ
kinds_of [] = []
kinds_of (r ∷ rs) = r.kind ∷ kinds_of rs

-- one part after the other
pub and_only : (P Q : Part) {k l : List ℕ} → Only P k → Only Q l → Only (P and Q) (k ++ l)
and_only P Q {k} {l} f g v x = append (early k l (f v x.0)) (late k l (g (v on length (P.bytes x.0)) x.1))

-- a component
pub slot_only : (P : Part) (d : Need) (t : ℕ) {k : List ℕ} → Only P k → Only (slot d (tagged t P)) k
slot_only P Required t f v x = f _ x
slot_only P Optional t f v none = none_there
slot_only P Optional t f v (some x) = f _ x
slot_only P (Default d) t f v none = none_there
slot_only P (Default d) t f v (some x) = f _ x

-- the components of a table
pub fields_only : (rs : List Row) → Only (fields rs) (kinds_of rs)
fields_only [] v x = none_there
fields_only (r ∷ rs) v x = and_only (slot r.need (tagged r.tag (field r))) (fields rs) {k = r.kind ∷ []} (slot_only (field r) r.need r.tag (λ _ w. sole r.kind (pay_of r.form w))) (fields_only rs) v x

-- any number, and at least one
pub many_only : (P : Part) {k : List ℕ} → Only P k → Only (many P) k
many_only P f v [] = none_there
many_only P f v (x ∷ xs) = append (f v x) (many_only P f (v on length (P.bytes x)) xs)

pub least_only : (P : Part) {k : List ℕ} → Only P k → Only (P and many P) k
least_only P f v x = append (f v x.0) (many_only P f (v on length (P.bytes x.0)) x.1)

-- one or the other
pub or_only : (I J : Item) {k l : List ℕ} → Only (one I) k → Only (one J) l → Only (one (I or J)) (k ++ l)
or_only I J {k} {l} f g v = elim [ inl x ↦ early k l (f v x) | inr y ↦ late k l (g v y) ]

-- what is kept as it is: contents, an element, the rest of a sequence
pub raw_only : (kind : ℕ) (f : List ℕ → Type 0) → Only (raw (rec kind) f) (kind ∷ [])
raw_only kind f v x = there (itself kind []) none_there

pub sealed_only : (kind : ℕ) (which : ℕ → Bool) (front : ℕ → List ℕ) → Only (one (sealed_one which kind front)) (kind ∷ [])
sealed_only kind which front v x = there (itself kind []) none_there

pub optional_only : (kind : ℕ) (which : ℕ → Bool) → Only (optional (sealed_one which kind (λ _. []))) (kind ∷ [])
optional_only kind which v none = none_there
optional_only kind which v (some x) = there (itself kind []) none_there

pub rest_only : (kind : ℕ) (out : List ℕ) → Only (rest kind out) (kind ∷ [])
rest_only kind out v [] = none_there
rest_only kind out v (x ∷ c) = there (itself kind []) none_there

-- the fill
pub fill_only : (kind : ℕ) → Only (fill kind) (kind ∷ [])
fill_only kind v none = none_there
fill_only kind v (some (b, n)) = there (itself kind []) none_there
