-- A table for each sequence, in the order of document 01: tag, book kind, form, need, bounds (of what the form tells: a number, how many bytes, how many characters). Names are Annex A's.
use Rattle.std.specs.Prelude.{ℕ, ◌+◌, ◌-◌, get_or, List, [], ◌∷◌, ◌++◌, ◌&&◌, eqb, leb}
use Rattle.elements.specs.Choice.{choose}
use Rattle.elements.specs.declared.answer.Form.TheVariants.{Integer, Bits, Boolean, Octets, Text, Time}
use Rattle.rules.specs.declared.table.Need.TheVariants.{Required, Optional, Default}
use Rattle.rules.specs.declared.table.Row.{Row}
use Rattle.rules.specs.declared.table.Class.{Class}
use Rattle.rules.specs.declared.table.Class.TheVariants.{Keys, Certificates, Containers, Authentications}
use Rattle.rules.specs.declared.table.ObjectType.{ObjectType}
use Rattle.rules.specs.declared.table.ObjectType.TheVariants.{PrivateKey, Certificate, Password, Sealed}
use Rattle.rules.specs.declared.table.Sequence.{Sequence}
use Rattle.rules.specs.declared.table.Sequence.TheVariants.{Info, Common, Rule, Key, CertificateAttributes, Authentication, PrivateKeyAttributes, PasswordAttributes, Path, Template, Discretionary, OdfPath, InfoPath}
use Rattle.rules.specs.declared.table.Sort.{Sort}
use Rattle.rules.specs.declared.table.Sort.TheVariants.{Always, Identifier, Not, And, Or, Other}
use Rattle.rules.specs.Parts.{◌to◌, minus◌to◌, unbounded, row, kept_out}

-- CIAInfo
abbrev pub cia_rows : List Row
cia_rows =
    -- version
    row 0x02 0x0101 Integer Required (0 to 255) ∷
    -- serialNumber
    row 0x04 0x0102 Octets Optional (0 to 255) ∷
    -- manufacturerID
    row 0x0c 0x0103 Text Optional (0 to 255) ∷
    -- label
    row 0x80 0x0104 Text Optional (0 to 255) ∷
    -- cardflags
    row 0x03 0x0105 Bits Required unbounded ∷
    []

-- CommonObjectAttributes
abbrev pub common_rows : List Row
common_rows =
    -- label
    row 0x0c 0x0121 Text Optional (0 to 255) ∷
    -- flags
    row 0x03 0x0122 Bits Optional unbounded ∷
    -- authId
    row 0x04 0x0123 Octets Optional (0 to 255) ∷
    -- userConsent: Annex A has 1 to cia-ub-userConsent, 32,767, and it decides over "1 to 15"
    row 0x02 0x0124 Integer Optional (1 to 32767) ∷
    []

-- AccessControlRule
abbrev pub rule_rows : List Row
rule_rows =
    -- accessMode
    row 0x03 0x0125 Bits Required unbounded ∷ []

-- CommonKeyAttributes
abbrev pub key_rows : List Row
key_rows =
    -- iD
    row 0x04 0x0130 Octets Required (0 to 255) ∷
    -- usage
    row 0x03 0x0131 Bits Required unbounded ∷
    -- native
    row 0x01 0x0132 Boolean (Default 1) unbounded ∷
    -- accessFlags
    row 0x03 0x0133 Bits Optional unbounded ∷
    -- keyReference
    row 0x02 0x0134 Integer Optional (minus 128 to 255) ∷
    -- startDate
    row 0x18 0x0135 Time Optional unbounded ∷
    -- endDate
    row 0x80 0x0136 Time Optional unbounded ∷
    []

-- CommonCertificateAttributes: iD
abbrev pub certificate_id_row : Row
certificate_id_row = row 0x04 0x0140 Octets Required (0 to 255)

abbrev pub certificate_rows : List Row
certificate_rows =
    certificate_id_row ∷
    -- authority
    row 0x01 0x0141 Boolean (Default 0) unbounded ∷
    []

-- CommonAuthenticationObjectAttributes: authId is the object's own
abbrev pub own_id_row : Row
own_id_row = row 0x04 0x0150 Octets Optional (0 to 255)

abbrev pub authentication_rows : List Row
authentication_rows =
    own_id_row ∷
    -- authReference
    row 0x02 0x0151 Integer Optional (0 to 255) ∷
    -- seIdentifier
    row 0x80 0x0152 Integer Optional (0 to 255) ∷
    []

-- PrivateRSAKeyAttributes, behind its Path
abbrev pub private_rows : List Row
private_rows =
    -- modulusLength
    row 0x02 0x0183 Integer Required (0 to 65535) ∷ []

-- PasswordAttributes, before its Path: pwdFlags has a rule of its own
abbrev pub pwd_flags_row : Row
pwd_flags_row = row 0x03 0x0190 Bits Required unbounded

abbrev pub password_rows : List Row
password_rows =
    pwd_flags_row ∷
    -- pwdType
    row 0x0a 0x0191 Integer Required (0 to 4) ∷
    -- minLength
    row 0x02 0x0192 Integer Required (4 to 8) ∷
    -- storedLength
    row 0x02 0x0193 Integer Required (0 to 64) ∷
    -- maxLength
    row 0x02 0x0194 Integer Optional (0 to 65535) ∷
    -- pwdReference
    row 0x80 0x0195 Integer (Default 0) (0 to 255) ∷
    -- padChar
    row 0x04 0x0196 Octets Optional (1 to 1) ∷
    -- lastPasswordChange
    row 0x18 0x0197 Time Optional unbounded ∷
    []

-- the kind of a Path's first record; 0 of what is none
abbrev pub path_kind : Sequence → ℕ
path_kind Info = 0
path_kind Common = 0
path_kind Rule = 0
path_kind Key = 0
path_kind CertificateAttributes = 0
path_kind Authentication = 0
path_kind PrivateKeyAttributes = 0
path_kind PasswordAttributes = 0
path_kind Path = 0x0180
path_kind Template = 0
path_kind Discretionary = 0
path_kind OdfPath = 0x0207
path_kind InfoPath = 0x020a

-- Path, with records from kind k on: index and length, "both or neither"
abbrev pub efid_or_path_row : ℕ → Row
efid_or_path_row k = row 0x04 k Octets Required (0 to 64)

abbrev pub index_row : ℕ → Row
index_row k = row 0x02 (k + 1) Integer Optional (0 to 65535)

abbrev pub length_row : ℕ → Row
length_row k = row 0x80 (k + 2) Integer Optional (0 to 65535)

abbrev pub path_rows_from : ℕ → List Row
path_rows_from k =
    efid_or_path_row k ∷
    index_row k ∷
    length_row k ∷
    []

abbrev pub path_rows : List Row
path_rows = path_rows_from (path_kind Path)

-- ApplicationTemplate, before its 73: application identifier, application label, path
abbrev pub template_id_row : Row
template_id_row = row 0x4f 0x0202 Octets Required (1 to 16)

abbrev pub template_label_row : Row
template_label_row = row 0x50 0x0203 Text Optional (0 to 255)

abbrev pub template_path_row : Row
template_path_row = row 0x51 0x0204 Octets Optional (0 to 64)

abbrev pub template_rows : List Row
template_rows =
    template_id_row ∷
    template_label_row ∷
    template_path_row ∷
    []

-- CIODDO, between its Paths and its SET
abbrev pub discretionary_rows : List Row
discretionary_rows =
    -- aid
    row 0x4f 0x020d Octets Optional (1 to 16) ∷ []

-- "fixed tables": of each sequence
abbrev pub rows_of : Sequence → List Row
rows_of Info = cia_rows
rows_of Common = common_rows
rows_of Rule = rule_rows
rows_of Key = key_rows
rows_of CertificateAttributes = certificate_rows
rows_of Authentication = authentication_rows
rows_of PrivateKeyAttributes = private_rows
rows_of PasswordAttributes = password_rows
rows_of Path = path_rows
rows_of Template = template_rows
rows_of Discretionary = discretionary_rows
rows_of OdfPath = path_rows_from (path_kind OdfPath)
rows_of InfoPath = path_rows_from (path_kind InfoPath)

-- every sequence with a table
abbrev pub sequences : List Sequence
sequences = Info ∷ Common ∷ Rule ∷ Key ∷ CertificateAttributes ∷ Authentication ∷ PrivateKeyAttributes ∷ PasswordAttributes ∷ Path ∷ Template ∷ Discretionary ∷ OdfPath ∷ InfoPath ∷ []

-- "rest 0106", "rest 012F" ..: the kind that a sequence's rest is kept as; a Path has none
abbrev pub rest_of : Sequence → ℕ
rest_of Info = 0x0106
rest_of Common = 0x012f
rest_of Rule = 0x012c
rest_of Key = 0x013f
rest_of CertificateAttributes = 0x014f
rest_of Authentication = 0x015f
rest_of PrivateKeyAttributes = 0x018f
rest_of PasswordAttributes = 0x019f
rest_of Path = 0
rest_of Template = 0x0210
rest_of Discretionary = 0x020f
rest_of OdfPath = 0
rest_of InfoPath = 0

-- "rules 30?", "Path? 30": the tags of components that may be absent and have no row
abbrev pub beside : Sequence → List ℕ
beside Info = []
beside Common = 0x30 ∷ []
beside Rule = []
beside Key = []
beside CertificateAttributes = []
beside Authentication = []
beside PrivateKeyAttributes = []
beside PasswordAttributes = 0x30 ∷ []
beside Path = []
beside Template = 0x73 ∷ []
beside Discretionary = 0x06 ∷ 0x30 ∷ 0xa0 ∷ 0x31 ∷ []
beside OdfPath = []
beside InfoPath = []

-- "the tag of an optional or defaulted component of that sequence may not occur there"
abbrev pub kept_of : Sequence → List ℕ
kept_of q = beside q ++ kept_out (rows_of q)

-- what stands behind a table's end
abbrev pub no_row : Row
no_row = row 0 0 Boolean Required unbounded

-- the kind of a table's first record: by it a renderer knows that the sequence comes
abbrev pub mark : List Row → List ℕ
mark [] = []
mark (r ∷ rs) = r.kind ∷ []

-- "Conditions in prefix order: 05 00 always 0126; 04 identifier 0127; A0 not .. 0129; A1 and 012A, A2 or 012B ..; another tag, sealed 0128"
abbrev pub tag_of : Sort → ℕ
tag_of Always = 0x05
tag_of Identifier = 0x04
tag_of Not = 0xa0
tag_of And = 0xa1
tag_of Or = 0xa2
tag_of Other = 0

-- the kind of its record
abbrev pub kind_of : Sort → ℕ
kind_of Always = 0x0126
kind_of Identifier = 0x0127
kind_of Not = 0x0129
kind_of And = 0x012a
kind_of Or = 0x012b
kind_of Other = 0x0128

-- the sort of condition that has this tag, or this kind
unfoldable pub sort_by : (Sort → ℕ) → ℕ → Sort
sort_by f x =
    choose (eqb x (f Always)) (λ _. Always)
    (λ _. choose (eqb x (f Identifier)) (λ _. Identifier)
    (λ _. choose (eqb x (f Not)) (λ _. Not)
    (λ _. choose (eqb x (f And)) (λ _. And)
    (λ _. choose (eqb x (f Or)) (λ _. Or)
    (λ _. Other)))))

-- "Private key of tag 30 .. Certificate of tag 30 .. Password (authentication, tag 30) .. All others sealed": by the entry's tag and the object's own
unfoldable pub type_of : ℕ → ℕ → ObjectType
type_of entry tag =
    choose (eqb tag 0x30)
    (λ _. choose (eqb entry 0xa0) (λ _. PrivateKey)
    (λ _. choose (leb 0xa4 entry && leb entry 0xa6) (λ _. Certificate)
    (λ _. choose (eqb entry 0xa8) (λ _. Password)
    (λ _. Sealed))))
    (λ _. Sealed)

-- "which entry tag reads which class": A0 to A8
abbrev pub classes : List Class
classes = Keys ∷ Keys ∷ Keys ∷ Keys ∷ Certificates ∷ Certificates ∷ Certificates ∷ Containers ∷ Authentications ∷ []

abbrev pub class_of : ℕ → Class
class_of entry = get_or classes (entry - 0xa0) Keys
