-- EF.OD, a transparent directory file, a record of a record file and EF.DIR, each said once.
use Rattle.std.specs.Prelude.{ℕ, List, [], ◌∷◌, ◌++◌, Bool, false, ◌&&◌, not, eqb, T}
use Rattle.std.proofs.Math.Option.{none, some}
use Rattle.elements.specs.declared.fault.Fault.TheVariants.{NotDue, SecondObject}
use Rattle.rules.specs.Reading.{rec, fails, Body}
use Rattle.elements.specs.Choice.{choose}
use Rattle.rules.specs.Parts as parts
use Rattle.rules.specs.Parts.{element}
use Rattle.rules.specs.Grammar as grammar
use Rattle.rules.specs.Grammar.{Item, one, many}
use Rattle.rules.specs.Kinds.{Only, there, late, and_only, many_only, or_only, sealed_only, fill_only}
use Rattle.rules.specs.Looks.{Look, look, elem_look, join_look}
use Rattle.rules.specs.LookLaws.{avoids, bodily}
use Rattle.rules.specs.Rendering.{within, either, plain}
use Rattle.rules.specs.Faces.{no_front, is_not, plain_look}
use Rattle.rules.specs.GrammarLaws as exact
use Rattle.rules.specs.GrammarLaws.{tags, is_close, low_tag}
use Rattle.rules.specs.Counted.{Counted, FileLayout, listed, filed, single}
use Rattle.rules.specs.Layouts.{template}
use Rattle.rules.specs.Entries.{object, context_tag, item, in_entry, entry_body, r_entry}

-- what may follow an entry: no object of its list
abbrev pub entry_look : Look
entry_look = look (0x0110 ∷ []) false (listed (object 0)).kinds.stop 0

-- an entry of EF.OD
abbrev pub entry : Counted
entry = record {
  most = 128;
  part = one item;
  count = in_entry;
  read = λ site s k. element s (entry_body site s k);
  render = r_entry;
  kinds = entry_look;
  tags = exact.look context_tag false (tags []);
  Fine = Unit {0};
}

-- "EF.OD: entries .. Then fill, 0107"
abbrev pub od : FileLayout
od = filed none 0x0107 entry

-- "for each path entry 0118, its objects, its fill"
abbrev pub directory : ℕ → FileLayout
directory tag = filed (some (rec 0x0118 [])) 0x0107 (object tag)

-- "A record holds one object or none, then fill"; "each record with 011A"; "17 where a record holds a second object"
abbrev pub record_in : ℕ → FileLayout
record_in tag = single SecondObject (some (rec 0x011a [])) 0x0107 (object tag)

-- "another element of the file is sealed"; 00 and FF begin the fill
abbrev pub dir_tag : ℕ → Bool
dir_tag t = not (eqb t 0) && not (eqb t 0xff)

abbrev pub other_tag : ℕ → Bool
other_tag t = is_not 0x61 t && dir_tag t

abbrev pub dir_item : Item
dir_item = grammar.◌or◌ (grammar.tagged 0x61 template.part) (grammar.sealed_one other_tag 0x0211 no_front)

abbrev pub dir_body : List ℕ → ℕ → Body
dir_body s t at a e = choose (dir_tag t) (λ _. choose (eqb t 0x61) (λ _. template.read s at e a) (λ _. parts.sealed s 0x0211 [] t at a e)) (λ _. fails NotDue at)

-- "Add a reader and writer for it: application templates"
abbrev pub dir_entry : Counted
dir_entry = record {
  most = 0;
  part = one dir_item;
  count = λ _. 0;
  read = λ site s k. element s (dir_body s);
  render = either template.kinds.first (within 0x61 template.render) plain;
  kinds = join_look (elem_look template.kinds) (plain_look 0x0211);
  tags = exact.look dir_tag false (tags []);
  Fine = template.Fine × T (bodily template.kinds) × T (low_tag 0x61) × T (is_close template.tags.stop) × T (not template.kinds.empty) × T (avoids (0x0211 ∷ []) template.kinds.first);
}

-- "It stands as a dump record 0005"; "0200 EF.DIR is there"; fill 0212
abbrev pub dir : FileLayout
dir = filed (some (rec 0x0200 [])) 0x0212 dir_entry

-- its records' kinds
abbrev pub dir_kinds : List ℕ
dir_kinds = (0x0200 ∷ []) ++ ((template.all ++ 0x0211 ∷ []) ++ 0x0212 ∷ [])

pub dir_only : Only dir.part dir_kinds
dir_only v x = there tt (late (0x0200 ∷ []) ((template.all ++ 0x0211 ∷ []) ++ 0x0212 ∷ [])
    (and_only (many (one dir_item)) (grammar.fill 0x0212) (many_only (one dir_item) (or_only (grammar.tagged 0x61 template.part) (grammar.sealed_one other_tag 0x0211 no_front) (λ v x. template.only _ x) (sealed_only 0x0211 other_tag no_front))) (fill_only 0x0212) v x))
