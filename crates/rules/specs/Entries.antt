-- Objects, EF.OD's entries and the files that hold them: what they are, how they are read, how they are rendered.
use Rattle.std.specs.Prelude.{ℕ, ◌-◌, ◌≤◌, List, [], ◌∷◌, Bool, not, ◌||◌, ◌&&◌, length, get_or, drop, ltb, leb, eqb}
use Rattle.std.proofs.Common.{inl, inr}
use Rattle.std.proofs.Math.Seq.{slice}
use Rattle.elements.specs.declared.fault.Fault.TheVariants.{BadSize, NotDue, ManyObjects}
use Rattle.elements.specs.Choice.{choose}
use Rattle.elements.specs.Length.{wrap}
use Rattle.rules.specs.declared.table.Need.TheVariants.{Required}
use Rattle.rules.specs.Reading.{Rec, rec, took, fails, also, ◌then◌, Body}
use Rattle.rules.specs.Parts.{component, ended, element, sealed}
use Rattle.rules.specs.Rendering.{gives, Renderer, within, from}
use Rattle.rules.specs.Grammar.{Site, Item, ◌or◌, one, tagged, behind, sealed_one, choice, raw}
use Rattle.rules.specs.Layouts.{contents}
use Rattle.rules.specs.Counted.{Counted, numbered, listed}

-- "Object: tag 30 or A0 to A7 .. Book 0120: entry tag, object tag", "a 2-byte file number .. and a 2-byte offset", "At most 128 objects (house)"
abbrev pub object_tag : ℕ → Bool
object_tag t = eqb t 0x30 || (leb 0xa0 t && leb t 0xa7)

unfoldable pub object : ℕ → Counted
object = numbered 128 ManyObjects 0x0120 object_tag contents

-- a form of entry: its element; how many objects are counted in it; how it is read, after k objects, once its header is; how it is rendered from its record's payload
pub record Form : Type 1 where
  pub item : Item
  pub inside : item.Of → ℕ
  pub body : Site → List ℕ → ℕ → Body
  pub render : List ℕ → Renderer

-- "An EF.OD path holds one OCTET STRING of 1 to 64 bytes and nothing more (house)"
abbrev pub PathSize : List ℕ → Type 0
PathSize c = (1 ≤ length c) × (length c ≤ 64)

unfoldable pub named_path : List ℕ → ℕ → Body
named_path s entry at a e =
    choose (leb 1 (e - a) && leb (e - a) 64) (λ _. took (rec 0x0110 (entry ∷ 0 ∷ slice a e s) ∷ []) [] e) (λ _. fails BadSize at)

-- "Inside is a Path 30 .. Book: 0110 with entry tag, then 00 and path bytes"
abbrev pub named : ℕ → Form
named t = record {
  item = tagged 0x30 (one (tagged 0x04 (raw (λ c. rec 0x0110 (t ∷ 0 ∷ c)) PathSize)));
  inside = λ _. 0;
  body = λ site s k at a e. (component s 0x04 Required (named_path s t) then ended s) e a;
  render = λ p rs. gives (wrap 0x30 (wrap 0x04 (drop 2 p))) rs;
}

-- ".. or objects A0 .. or 01 and its objects follow"
abbrev pub holding : ℕ → Form
holding t = record {
  item = tagged 0xa0 (behind (listed (object t)).part (λ _. rec 0x0110 (t ∷ 1 ∷ [])));
  inside = (listed (object t)).count;
  body = λ site s k at a e. also (rec 0x0110 (t ∷ 1 ∷ []) ∷ []) [] ((listed (object t)).read site s k e a);
  render = λ p. within 0xa0 (listed (object 0)).render;
}

-- "entries A0 to A8"
abbrev pub known_tag : ℕ → Bool
known_tag t = leb 0xa0 t && leb t 0xa8

abbrev pub context_tag : ℕ → Bool
context_tag t = leb 0x80 t && leb t 0xbf

-- "Any other context-specific tag: 0110 with first tag byte, 02, the sealed element"
abbrev pub other : ℕ → Form
other t = record {
  item = sealed_one (λ t. not (known_tag t) && context_tag t) 0x0110 (λ t. t ∷ 2 ∷ []);
  inside = λ _. 0;
  body = λ site s k at a e. sealed s 0x0110 (t ∷ 2 ∷ []) t at a e;
  render = λ p rs. gives (drop 2 p) rs;
}

-- an entry, by its tag and by the tag inside it; in the book by the byte behind the tag
abbrev pub naming : ℕ → Item
naming t = (named t).item

abbrev pub inline : ℕ → Item
inline t = (holding t).item

abbrev pub item : Item
item = choice known_tag (λ t. one (naming t or inline t)) or (other 0).item

abbrev pub in_known : (t : ℕ) → (naming t or inline t).Of → ℕ
in_known t (inl p) = (named t).inside p
in_known t (inr os) = (holding t).inside os

abbrev pub in_entry : item.Of → ℕ
in_entry (inl (t, x)) = in_known t x
in_entry (inr x) = 0

module _ (site : Site) (s : List ℕ) where
  unfoldable pub entry_inside : ℕ → ℕ → ℕ → Body
  entry_inside entry k t at a e =
      choose (eqb t 0x30) (λ _. (named entry).body site s k at a e)
      (λ _. choose (eqb t 0xa0) (λ _. (holding entry).body site s k at a e)
      (λ _. fails NotDue at))

  unfoldable pub entry_body : ℕ → ℕ → Body
  entry_body k t at a e =
      choose (known_tag t) (λ _. (element s (entry_inside t k) then ended s) e a)
      (λ _. choose (context_tag t) (λ _. (other t).body site s k at a e)
      (λ _. fails NotDue at))

unfoldable pub r_inside : Renderer
r_inside = from (λ k p. choose (eqb (get_or p 1 0) 0) (λ _. (named 0).render p) (λ _. (holding 0).render p))

unfoldable pub r_entry_of : Rec → Renderer
r_entry_of r rs = choose (ltb (get_or r.pay 1 0) 2) (λ _. within (get_or r.pay 0 0) r_inside (r ∷ rs)) (λ _. (other 0).render r.pay rs)

unfoldable pub r_entry : Renderer
r_entry [] = gives [] []
r_entry (r ∷ rs) = r_entry_of r rs
