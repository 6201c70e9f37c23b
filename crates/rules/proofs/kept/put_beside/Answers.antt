use Rattle.rules.proofs.KeptLaws.{beside_none, beside_one, beside_four}
use mathlib.Core.Path.{refl}
use borrow.Author.Rules.{rules}
use Rattle.rules.specs.declared.table.Sequence.TheVariants.{Info, Common, Rule, Key, CertificateAttributes, Authentication, PrivateKeyAttributes, PasswordAttributes, Path, Template, OdfPath, InfoPath}
use Rattle.rules.proofs.kept.put_beside.Goals as goal

pub returns-in-Info : goal.returns-in-Info
returns-in-Info c = search (beside_none Info refl, rules)

pub returns-in-Common : goal.returns-in-Common
returns-in-Common c = search (beside_one Common 0x30 refl, rules)

pub returns-in-Rule : goal.returns-in-Rule
returns-in-Rule c = search (beside_none Rule refl, rules)

pub returns-in-Key : goal.returns-in-Key
returns-in-Key c = search (beside_none Key refl, rules)

pub returns-in-CertificateAttributes : goal.returns-in-CertificateAttributes
returns-in-CertificateAttributes c = search (beside_none CertificateAttributes refl, rules)

pub returns-in-Authentication : goal.returns-in-Authentication
returns-in-Authentication c = search (beside_none Authentication refl, rules)

pub returns-in-PrivateKeyAttributes : goal.returns-in-PrivateKeyAttributes
returns-in-PrivateKeyAttributes c = search (beside_none PrivateKeyAttributes refl, rules)

pub returns-in-PasswordAttributes : goal.returns-in-PasswordAttributes
returns-in-PasswordAttributes c = search (beside_one PasswordAttributes 0x30 refl, rules)

pub returns-in-Path : goal.returns-in-Path
returns-in-Path c = search (beside_none Path refl, rules)

pub returns-in-Template : goal.returns-in-Template
returns-in-Template c = search (beside_one Template 0x73 refl, rules)

pub returns-in-Discretionary : goal.returns-in-Discretionary
returns-in-Discretionary c = search (beside_four, rules)

pub returns-in-OdfPath : goal.returns-in-OdfPath
returns-in-OdfPath c = search (beside_none OdfPath refl, rules)

pub returns-in-InfoPath : goal.returns-in-InfoPath
returns-in-InfoPath c = search (beside_none InfoPath refl, rules)
