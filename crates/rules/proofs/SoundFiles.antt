-- The same of EF.OD, of a transparent directory file, of a record of a record file and of EF.DIR.
use Rattle.std.specs.Prelude.{ℕ, [], Bool, true, false, ◌||◌, ◌&&◌, not, ◌≡◌, leb, eqb}
use Rattle.std.proofs.Math.Option.{none, some}
use Rattle.std.proofs.Common.{refl, arith, leb-true, eqb-true}
use Rattle.std.proofs.lemmas.Bool.{eqb-false, not-true}
use Rattle.elements.specs.declared.fault.Fault.TheVariants.{SecondObject}
use Rattle.elements.specs.ChoiceLaws.{both_true}
use Rattle.rules.specs.Reading.{rec}
use Rattle.rules.specs.Layouts.{insides, template, discretionary, path_from}
use Rattle.rules.specs.Entries.{object_tag, object, context_tag}
use Rattle.rules.specs.FileLayouts.{entry, od, directory, record_in, dir_tag, dir_entry, dir}
use Rattle.rules.proofs.Lawful.{those_lawful}
use Rattle.rules.proofs.SoundLayouts.{template_sound, template_fine}
use Rattle.rules.proofs.SoundCounted.{SoundCounted, SoundFile, filed_sound, single_sound, object_sound}
use Rattle.rules.proofs.EntryLaws.{object_fine, entry_lawful}

entry_sound : SoundCounted entry
entry_sound = record { lawful = λ _. entry_lawful }

pub od_sound : SoundFile od
od_sound = filed_sound none 0x0107 entry_sound

pub directory_sound : (tag : ℕ) → SoundFile (directory tag)
directory_sound tag = filed_sound (some (rec 0x0118 [])) 0x0107 (object_sound tag)

pub record_sound : (tag : ℕ) → SoundFile (record_in tag)
record_sound tag = single_sound SecondObject (some (rec 0x011a [])) 0x0107 (object_sound tag)

dir_entry_sound : SoundCounted dir_entry
dir_entry_sound = record { lawful = λ z. those_lawful (template_sound.lawful z.0) 0x61 0x0211 dir_tag refl z.1 z.2 z.3 z.4 z.5 tt }

pub dir_sound : SoundFile dir
dir_sound = filed_sound (some (rec 0x0200 [])) 0x0212 dir_entry_sound

-- fill does not begin as they do
context_real : (t : ℕ) → context_tag t ≡ true → (t ≡ 0 → ⊥) × (t ≡ 0xff → ⊥)
context_real t e =
    let v = both_true (leb 0x80 t) (leb t 0xbf) e in
    let x = leb-true 0x80 t v.0 in
    let y = leb-true t 0xbf v.1 in
    ((λ z. omega arith), (λ z. omega arith))

object_real : (t : ℕ) → object_tag t ≡ true → (t ≡ 0 → ⊥) × (t ≡ 0xff → ⊥)
object_real t e = go (eqb t 0x30) refl e
  where
    go : (b : Bool) → eqb t 0x30 ≡ b → (b || (leb 0xa0 t && leb t 0xa7)) ≡ true → (t ≡ 0 → ⊥) × (t ≡ 0xff → ⊥)
    go true z e = let q = eqb-true t 0x30 z in ((λ z. omega arith), (λ z. omega arith))
    go false z e =
        let v = both_true (leb 0xa0 t) (leb t 0xa7) e in
        let x = leb-true 0xa0 t v.0 in
        let y = leb-true t 0xa7 v.1 in
        ((λ z. omega arith), (λ z. omega arith))

pub od_fine : od.Fine
unfolding object insides
od_fine = search (tt, context_real)

pub directory_fine : (tag : ℕ) → (directory tag).Fine
unfolding object insides
directory_fine tag = search (tt, object_fine, object_real)

pub record_fine : (tag : ℕ) → (record_in tag).Fine
unfolding object insides
record_fine tag = (directory_fine tag, (λ _. refl), tt)

dir_real : (t : ℕ) → dir_tag t ≡ true → (t ≡ 0 → ⊥) × (t ≡ 0xff → ⊥)
dir_real t e =
    let v = both_true (not (eqb t 0)) (not (eqb t 0xff)) e in
    ((λ z. eqb-false t 0 (not-true (eqb t 0) v.0) z), (λ z. eqb-false t 0xff (not-true (eqb t 0xff) v.1) z))

pub dir_fine : dir.Fine
unfolding template discretionary path_from
dir_fine = search (tt, dir_real, template_fine)
