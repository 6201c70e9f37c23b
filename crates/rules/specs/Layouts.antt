-- "Layouts and book kinds" of document 01, each said once: what it is, how it is read and rendered; that these agree is in proofs/SoundLayouts.
use Rattle.std.specs.Prelude.{ℕ, ◌/◌, ◌%◌, ◌≡◌, refl, []}
use Rattle.std.proofs.Common.{le_refl}
use Rattle.rules.specs.declared.table.Class.{Class}
use Rattle.rules.specs.declared.table.Class.TheVariants.{Keys, Certificates, Containers, Authentications}
use Rattle.rules.specs.declared.table.ObjectType.{ObjectType}
use Rattle.rules.specs.declared.table.ObjectType.TheVariants.{PrivateKey, Certificate, Password, Sealed}
use Rattle.rules.specs.declared.table.Sequence.{Sequence}
use Rattle.rules.specs.declared.table.Sequence.TheVariants.{Info, Common, Rule, Key, CertificateAttributes, Authentication, PrivateKeyAttributes, PasswordAttributes, Path, Template, Discretionary, OdfPath, InfoPath}
use Rattle.rules.specs.Tables.{cia_rows, common_rows, rule_rows, key_rows, certificate_rows, authentication_rows, path_kind, path_rows_from, private_rows, password_rows, template_rows, discretionary_rows, rest_of, kept_of, type_of, class_of}
use Rattle.rules.specs.Rulings.{paired, flagged, flag_of, ours_in, reached, quiet}
use Rattle.rules.specs.Grammar as grammar
use Rattle.rules.specs.Conditions.{condition}
use Rattle.rules.specs.ConditionRender.{kinds_look, condition_only}
use Rattle.rules.specs.Faces.{cond_look}
use Rattle.rules.specs.Layout.{Layout, Single, ◌and◌, fields, rest, ended, apart, with, with_at, headed, opened, sealed_if, due, told, maybe, at_least_one, sealed_all, one, sealed_one, kept, or_sealed, by_class, by_type, alone}
use Rattle.rules.specs.Checking.{BothOrNeither, OursReached}
use Rattle.rules.specs.Faces.{ending}

-- "Rest means sealed elements after the listed components": of a sequence whose components stand in a table
abbrev pub rest_in : Sequence → Layout
rest_in q = rest (rest_of q) (kept_of q)

-- "CIAInfo, SEQUENCE 30: .. rest 0106"
unfoldable pub info : Layout
info = fields cia_rows and rest_in Info

-- "CIAInfo's file has just one element: none, even before fill, is 5 at the file's end, before 11; a second is 3", "CIAInfo's fill, 0108"
unfoldable pub cia : Layout
cia = alone 0x0108 (due 0x30 info)

-- "Path 30 { 04, 0 to 64 bytes, 0180; index 02? 0181; length 80? 0182 }, both to 65,535, both or neither"
unfoldable pub path_from : ℕ → Layout
path_from k = with (ended (fields (path_rows_from k))) (paired k) (λ (p, (index, (len, _))). BothOrNeither index len)

abbrev pub path : Layout
path = path_from (path_kind Path)

-- "Conditions in prefix order", of at most so many levels
abbrev pub condition_of : ℕ → Layout
condition_of l = record {
  part = grammar.one (condition l).item;
  read = λ s own end at. quiet ((condition l).read s 0 end at);
  render = (condition l).render;
  kinds = kinds_look;
  tags = cond_look;
  all = kinds_look.first;
  only = condition_only l;
  Fine = Unit {0};
}

-- "At most 8 deep (house), a leaf at the top being 1"
abbrev pub plain_condition : Layout
plain_condition = condition_of 8

-- "A rule is 30 { accessMode 03 0125, condition, rest 012C }"
unfoldable pub rule : Layout
rule = fields rule_rows and plain_condition and rest_in Rule

-- "rules 30?, at least one"
unfoldable pub rules : Layout
rules = at_least_one (due 0x30 rule)

-- "Common: label .. userConsent ..; rules 30?, at least one; rest 012F"
unfoldable pub common : Layout
common = fields common_rows and maybe 0x30 rules and rest_in Common

-- "Class, keys: .. rest 013F. Certificates: .. rest 014F. Authentication: .. rest 015F. Data containers: sealed contents, 0160, present even when empty"
abbrev pub classes : Class → Layout
classes Keys = fields key_rows and rest_in Key
classes Certificates = fields certificate_rows and rest_in CertificateAttributes
classes Authentications = fields authentication_rows and rest_in Authentication
classes Containers = sealed_all 0x0160

unfoldable pub class : Class → Layout
class = by_class classes

-- "Subclass: one sealed element inside the A0, 0170"
unfoldable pub subclass : Layout
subclass = ended (one (sealed_one 0x0170))

-- "Private key of tag 30, as 30 { Path, modulusLength 02 (to 65,535) 0183, rest 018F }"
unfoldable pub private_key : Layout
private_key = told 0x30 path and fields private_rows and rest_in PrivateKeyAttributes

-- "Path where the first element has tag 30, otherwise that element sealed 0184"
unfoldable pub certificate_value : Single
certificate_value = or_sealed 0x30 path 0x0184

-- "Certificate of tag 30, as 30 { .., rest 018F }"
unfoldable pub certificate : Layout
certificate = one certificate_value and rest 0x018f []

-- "Password (authentication, tag 30), as 30 { pwdFlags .. lastPasswordChange 18? 0197, Path? 30, rest 019F }"; "8: pwdFlags bits 6 and 7 both set"
unfoldable pub password : Layout
password = with (fields password_rows and maybe 0x30 path and rest_in PasswordAttributes) flagged (λ (((bits, _), _), _). bits / 64 % 4 ≡ 3 → ⊥)

-- "Private key .. Certificate .. Password .. All others sealed, 01A0"
abbrev pub types : ObjectType → Layout
types PrivateKey = due 0x30 private_key
types Certificate = due 0x30 certificate
types Password = due 0x30 password
types Sealed = kept 0x01a0

unfoldable pub typed : ObjectType → Layout
typed = by_type types

-- "contents common 30, class 30, subclass A0?, type A1", "Type is one element."
unfoldable pub contents : ℕ → ℕ → Layout
contents entry tag = ended (due 0x30 common and due 0x30 (class (class_of entry)) and maybe 0xa0 subclass and due 0xa1 (ended (apart (typed (type_of entry tag)))))

-- "73's contents as clause 7.4 of source document 001 sets out (providerId and the SET sealed)"
unfoldable pub discretionary : Layout
discretionary = sealed_if 0x06 0x0206 and maybe 0x30 (path_from (path_kind OdfPath)) and maybe 0xa0 (path_from (path_kind InfoPath)) and fields discretionary_rows and sealed_if 0x31 0x020e and rest_in Discretionary

-- "application templates 61 { identifier 4F of 1 to 16 bytes, label 50?, path 51? of up to 64, 73?, rest } in this order": what stands inside
abbrev pub template_parts : Layout
template_parts = fields template_rows and maybe 0x73 (opened 0x0205 discretionary) and rest_in Template

-- "5 where a template of ours has neither path nor 73", at its end; "The answer says which templates are ours": 0201 in front
unfoldable pub template : Layout
template = headed 0x0201 1 ours_in (with_at ending template_parts reached (OursReached discretionary.part)) (λ (((aid, _), _), _). flag_of aid) (λ _ _ _. refl) (λ _. le_refl 1)

-- all of these, where a law computes with them
unfoldable pub insides : Unit {0}
unfolding contents common rules rule class subclass typed private_key certificate certificate_value password path_from
insides = tt
