-- That the faces of a layout fit together: read as it is and only so, rendered to its bytes. One lemma for each way to put parts together.
use Rattle.std.specs.Prelude.{ℕ, ◌≤◌, List, [], ◌≡◌, length}
use Rattle.rules.specs.declared.table.Need.{Need}
use Rattle.rules.specs.declared.table.Row.{Row}
use Rattle.rules.specs.declared.table.Class.{Class}
use Rattle.rules.specs.declared.table.ObjectType.{ObjectType}
use Rattle.std.proofs.Common.{refl, le_refl}
use Rattle.rules.specs.Reading.{Rec, Res}
use Rattle.rules.specs.Grammar.{Where}
use Rattle.rules.specs.Faces.{Spot}
use Rattle.rules.specs.Layout as layout
use Rattle.rules.specs.Layout.{Layout, Single, ◌and◌}
use Rattle.rules.proofs.Lawful.{Lawful, LawfulOne, Checks, and_lawful, fields_lawful, rest_lawful, ended_lawful, apart_lawful, due_lawful, offered_lawful, least_lawful, with_lawful, headed_lawful, sealed_slot_lawful, sealed_lawful, one_lawful, sealed_one_lawful, kept_lawful, or_lawful, closing, freely, alone_lawful}

-- tags of one byte, kinds of two, none taken for another: then the faces fit together
pub record Sound (P : Layout) : Type 0 where
  pub lawful : P.Fine → Lawful P.part P.read P.render P.kinds P.tags

-- the same of one element, by its tag
pub record SoundOne (I : Single) : Type 0 where
  pub lawful : I.Fine → LawfulOne I.item I.body I.render I.kinds

-- one after the other
pub and_sound : {P Q : Layout} → Sound P → Sound Q → Sound (P and Q)
and_sound f g = record { lawful = λ z. and_lawful (f.lawful z.0) (g.lawful z.1) z.2 z.3 }

-- the components of a table, in its order
pub fields_sound : (rs : List Row) → Sound (layout.fields rs)
fields_sound rs = record { lawful = λ z. fields_lawful rs z.0 z.1 }

-- the rest of a sequence
pub rest_sound : (kind : ℕ) (out : List ℕ) → Sound (layout.rest kind out)
rest_sound kind out = record { lawful = rest_lawful kind out }

-- and nothing more is due
pub ended_sound : {P : Layout} → Sound P → Sound (layout.ended P)
ended_sound f = record { lawful = λ z. ended_lawful (f.lawful z) }

-- what does not look at the place of its element
pub apart_sound : {P : Layout} → Sound P → Sound (layout.apart P)
apart_sound f = record { lawful = λ z. apart_lawful (f.lawful z) }

-- a component that is due, by what is inside it
pub due_sound : {P : Layout} (t : ℕ) → Sound P → Sound (layout.due t P)
due_sound t f = record { lawful = λ z. due_lawful (f.lawful z.0) t z.1.0 z.1.1 z.1.2 }

-- one that its kinds tell: it is due, or it may lack
pub offered_sound : {P : Layout} (d : Need) (t : ℕ) → Sound P → Sound (layout.offered d t P)
offered_sound d t f = record { lawful = λ z. offered_lawful (f.lawful z.0) d t z.2.0 z.2.1 z.2.2 z.1 }

-- at least one
pub least_sound : {P : Layout} → Sound P → Sound (layout.at_least_one P)
least_sound f = record { lawful = λ z. least_lawful (f.lawful z.0) z.1 z.2 z.3 z.4 }

-- what is more to meet, of all that was read, and the check that says it
pub with_sound : {P : Layout} {f : ℕ → Res → Res} {more : P.part.Of → Type 0} (w : Spot) → Sound P → Checks P.part f more → Sound (layout.with_at w P f more)
with_sound {P} {f} {more} w x c = record { lawful = λ z. with_lawful (x.lawful z) f more c w }

-- behind a record that tells something of it
pub headed_sound : {P : Layout} → Sound P → (kind most : ℕ) (by : List Rec → List ℕ) (g : P.part.Of → List ℕ) (same : (v : Where) (x : P.part.Of) → P.part.Meets x → by (P.part.book v x) ≡ g x) (short : (x : P.part.Of) → length (g x) ≤ most) →
    Sound (layout.headed kind most by P g same short)
headed_sound f kind most by g same short = record { lawful = λ z. headed_lawful (f.lawful z.0) kind most g by same z.1 z.2 short }

-- an empty record in front
pub opened_sound : {P : Layout} (kind : ℕ) → Sound P → Sound (layout.opened kind P)
opened_sound kind f = headed_sound f kind 0 (λ _. []) (λ _. []) (λ _ _ _. refl) (λ _. le_refl 0)

-- sealed, of one tag, and it may lack
pub sealed_if_sound : (t kind : ℕ) → Sound (layout.sealed_if t kind)
sealed_if_sound t kind = record { lawful = sealed_slot_lawful t kind }

-- sealed contents, present even when empty
pub sealed_all_sound : (kind : ℕ) → Sound (layout.sealed_all kind)
sealed_all_sound kind = record { lawful = sealed_lawful kind }

-- an element that must be there, by its tag
pub one_sound : {I : Single} → SoundOne I → Sound (layout.one I)
one_sound f = record { lawful = λ z. one_lawful (f.lawful z) }

-- sealed, whatever its tag
pub sealed_one_sound : (kind : ℕ) → SoundOne (layout.sealed_one kind)
sealed_one_sound kind = record { lawful = sealed_one_lawful kind }

-- the same, known by its kind
pub kept_sound : (kind : ℕ) → Sound (layout.kept kind)
kept_sound kind = record { lawful = kept_lawful kind }

-- one of a tag, or else sealed
pub or_sound : {P : Layout} (t : ℕ) → Sound P → (kind : ℕ) → SoundOne (layout.or_sealed t P kind)
or_sound t f kind = record { lawful = λ z. or_lawful (f.lawful z.0) t kind z.1.0 z.1.1 z.1.2 z.2 z.3 z.4 }

-- one of several, known by what is common to all
pub class_of_sound : (f : Class → Layout) → ((c : Class) → Sound (f c)) → (c : Class) → Sound (layout.by_class f c)
class_of_sound f g c = record { lawful = λ z. closing ((g c).lawful (z c).0) (layout.class_kinds f) (z c).1 (z c).2 }

pub type_of_sound : (f : ObjectType → Layout) → ((x : ObjectType) → Sound (f x)) → (x : ObjectType) → Sound (layout.by_type f x)
type_of_sound f g x = record { lawful = λ z. freely ((g x).lawful (z x).0) (layout.type_kinds f) (z x).1 (z x).2 (z x).3 }

-- just one element, and then possibly fill
pub alone_sound : {P : Layout} (kind : ℕ) → Sound P → Sound (layout.alone kind P)
alone_sound kind f = record { lawful = λ z. alone_lawful (f.lawful z.0) kind z.1 z.2 z.3 z.4 z.5 }
