-- That each layout's faces fit together, and that in none a tag or a kind is taken for another.
use Rattle.std.specs.Prelude.{ℕ, ◌≡◌, eqb, true}
use Rattle.std.proofs.Common.{refl, le_refl, arith, eqb-true}
use Rattle.rules.specs.declared.table.Need.TheVariants.{Optional}
use Rattle.rules.specs.declared.table.Class.{Class}
use Rattle.rules.specs.declared.table.Class.TheVariants.{Keys, Certificates, Containers, Authentications}
use Rattle.rules.specs.declared.table.ObjectType.{ObjectType}
use Rattle.rules.specs.declared.table.ObjectType.TheVariants.{PrivateKey, Certificate, Password, Sealed}
use Rattle.rules.specs.declared.table.Sequence.TheVariants.{PasswordAttributes, Path}
use Rattle.rules.specs.Tables.{path_kind, path_rows_from, password_rows, rest_of, kept_of}
use Rattle.rules.specs.Rulings.{flag_of, ours_in}
use Rattle.rules.specs.Faces.{itself, ending}
use Rattle.rules.specs.ConditionRender.{condition_renders, condition_clean}
use Rattle.rules.specs.Layout.{OfClass, class_kinds, OfType, type_kinds}
use Rattle.rules.specs.Layouts.{info, cia, path_from, path, condition_of, rule, rules, common, classes, class, subclass, private_key, certificate_value, certificate, password, types, typed, contents, discretionary, template_parts, template, insides}
use Rattle.rules.proofs.ConditionLaws.{plain_condition_lem}
use Rattle.rules.proofs.CheckingLaws.{pairs, flags, reaches}
use Rattle.rules.proofs.Sound.{Sound, SoundOne, and_sound, fields_sound, rest_sound, ended_sound, apart_sound, due_sound, offered_sound, least_sound, with_sound, headed_sound, opened_sound, sealed_if_sound, sealed_all_sound, one_sound, sealed_one_sound, kept_sound, or_sound, class_of_sound, type_of_sound, alone_sound}

-- by the way in which a layout is put together
ruleset ways = (and_sound, fields_sound, rest_sound, ended_sound, apart_sound, due_sound, offered_sound, least_sound, sealed_if_sound, sealed_all_sound, one_sound, sealed_one_sound, kept_sound, or_sound, opened_sound, alone_sound)

info_sound : Sound info
unfolding info
info_sound = search ways

pub cia_sound : Sound cia
unfolding cia
cia_sound = search (ways, info_sound)

path_from_sound : (k : ℕ) → Sound (path_from k)
unfolding path_from
path_from_sound k = with_sound itself (ended_sound (fields_sound (path_rows_from k))) (pairs k)

path_sound : Sound path
path_sound = path_from_sound (path_kind Path)

condition_sound : (l : ℕ) → Sound (condition_of l)
condition_sound l = record { lawful = λ _. record { exact = λ site s b m own o. plain_condition_lem site s b m l; renders = condition_renders l; clean = condition_clean l } }

rule_sound : Sound rule
unfolding rule
rule_sound = search (ways, condition_sound)

rules_sound : Sound rules
unfolding rules
rules_sound = search (ways, rule_sound)

pub common_sound : Sound common
unfolding common
common_sound = search (ways, rules_sound)

classes_sound : (c : Class) → Sound (classes c)
classes_sound Keys = search ways
classes_sound Certificates = search ways
classes_sound Authentications = search ways
classes_sound Containers = search ways

pub class_sound : (c : Class) → Sound (class c)
unfolding class
class_sound = class_of_sound classes classes_sound

pub subclass_sound : Sound subclass
unfolding subclass
subclass_sound = search ways

private_sound : Sound private_key
unfolding private_key
private_sound = search (ways, path_sound)

certificate_value_sound : SoundOne certificate_value
unfolding certificate_value
certificate_value_sound = search (ways, path_sound)

certificate_sound : Sound certificate
unfolding certificate
certificate_sound = search (ways, certificate_value_sound)

password_sound : Sound password
unfolding password
password_sound = with_sound itself (and_sound (and_sound (fields_sound password_rows) (offered_sound Optional 0x30 path_sound)) (rest_sound (rest_of PasswordAttributes) (kept_of PasswordAttributes))) (flags path.part)

types_sound : (x : ObjectType) → Sound (types x)
types_sound PrivateKey = search (ways, private_sound)
types_sound Certificate = search (ways, certificate_sound)
types_sound Password = search (ways, password_sound)
types_sound Sealed = search ways

pub typed_sound : (x : ObjectType) → Sound (typed x)
unfolding typed
typed_sound = type_of_sound types types_sound

pub contents_sound : (entry tag : ℕ) → Sound (contents entry tag)
unfolding contents
contents_sound entry tag = search (ways, common_sound, class_sound, subclass_sound, typed_sound) depth 12

discretionary_sound : Sound discretionary
unfolding discretionary
discretionary_sound = search (ways, path_from_sound) depth 12

parts_sound : Sound template_parts
parts_sound = search (ways, discretionary_sound)

pub template_sound : Sound template
unfolding template
template_sound = headed_sound (with_sound ending parts_sound (reaches discretionary.part)) 0x0201 1 ours_in (λ (((aid, _), _), _). flag_of aid) (λ _ _ _. refl) (λ _. le_refl 1)

-- no tag and no kind in it is taken for another
classes_fine : (c : Class) → OfClass (class_kinds classes) (classes c)
classes_fine Keys = search tt
classes_fine Certificates = search tt
classes_fine Authentications = search tt
classes_fine Containers = search tt

types_fine : (x : ObjectType) → OfType (type_kinds types) (types x)
unfolding insides
types_fine PrivateKey = search tt
types_fine Certificate = search tt
types_fine Password = search tt
types_fine Sealed = search tt

pub contents_fine : (entry tag : ℕ) → (contents entry tag).Fine
unfolding insides
contents_fine entry tag = search (tt, classes_fine, types_fine)

is_30 : (t : ℕ) → eqb t 0x30 ≡ true → (t ≡ 0 → ⊥) × (t ≡ 0xff → ⊥)
is_30 t e = let q = eqb-true t 0x30 e in ((λ z. omega arith), (λ z. omega arith))

pub cia_fine : cia.Fine
unfolding cia info
cia_fine = search (tt, is_30)

-- the same of EF.DIR's templates
pub template_fine : template.Fine
unfolding template discretionary path_from
template_fine = search tt
