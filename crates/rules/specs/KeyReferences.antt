-- "For keyReference the bounds become minus 128 to 255, and 0134 holds the two's complement in four bytes."
use Rattle.std.specs.Prelude.{ℕ, zero, suc, ◌≤◌, ◌<◌, ◌≡◌, refl, true, false, List, [], ◌∷◌, ◌++◌, ℤ, pos, negsuc, neg_ℤ, length, get_or, ltb}
use Rattle.std.proofs.Common.{sym, true≢false, arith}
use Rattle.std.specs.Int.Signed.{le_z, non_neg}
use Rattle.std.proofs.Math.Seq.{slice}
use Rattle.elements.specs.declared.fault.Fault.TheVariants.{OutOfRange}
use Rattle.elements.specs.declared.answer.Form.TheVariants as form
use Rattle.elements.specs.Choice.{choose}
use Rattle.elements.specs.ChoiceLaws.{by_pick}
use Rattle.elements.specs.Integer.{most, least, spread_by, spread, integer_bytes, signed}
use Rattle.elements.proofs.ValueLaws.{value_complete}
use Rattle.elements.specs.Put.{le32}
use Rattle.rules.specs.declared.table.Need.{Need}
use Rattle.rules.specs.declared.table.Need.TheVariants.{Required, Optional, Default}
use Rattle.rules.specs.declared.table.Row.{Row}
use Rattle.rules.specs.declared.table.Sequence.{Sequence}
use Rattle.rules.specs.declared.table.Sequence.TheVariants.{Info, Common, Rule, Key, CertificateAttributes, Authentication, PrivateKeyAttributes, PasswordAttributes, Path, Template, Discretionary, OdfPath, InfoPath}
use Rattle.rules.specs.Reading.{fails, twos}
use Rattle.rules.specs.Parts.{is_default, payload, row_body}
use Rattle.rules.specs.Tables.{rows_of, sequences}
use Rattle.rules.specs.Grammar.{flat}

-- the rows that take a negative number, by kind and bounds
abbrev negatives : List Row → List (ℕ × ℤ × ℤ)
negatives [] = []
negatives (r ∷ rs) = choose (non_neg r.low) (λ _. []) (λ _. (r.kind, r.low, r.high) ∷ []) ++ negatives rs

-- keyReference's is the only one of all the tables
pub only_0134 : negatives (flat rows_of sequences) ≡ (0x0134, neg_ℤ (pos 128), pos 255) ∷ []
only_0134 = refl

-- "Every other component still refuses a negative number as 7"
never_default : (d : Need) (m : ℕ) → is_default d true m ≡ false
never_default Required m = refl
never_default Optional m = refl
never_default (Default d) m = refl

below_all : (l : ℤ) (m : ℕ) → non_neg l ≡ true → 1 ≤ m → le_z l (signed true m) ≡ false
below_all l zero e h = absurd (omega arith)
below_all (pos l) (suc m) e h = refl
below_all (negsuc l) (suc m) e h = absurd (true≢false (sym e))

told_some : (w : ℕ) → 1 ≤ least (suc w) most
told_some w = by_pick (λ v. 1 ≤ v) (ltb (suc w) most) (λ _. omega arith) (λ _. omega arith)

pub negative_7 : (s : List ℕ) (r : Row) (at a e w : ℕ) → r.form ≡ form.Integer → non_neg r.low ≡ true → slice a e s ≡ integer_bytes (negsuc w) → row_body s r at a e ≡ fails OutOfRange at
unfolding row_body payload
negative_7 s r at a e w f n q =
    let v = value_complete form.Integer (integer_bytes (negsuc w)) (record { worth = negsuc w; proper = tt; bytes = refl; told = (refl, refl) }) in
    rw (f, q, v, never_default r.need (least (suc w) most), below_all r.low (least (suc w) most) n (told_some w)) refl

-- "Minus 127 and 129 stay two values with two encodings, 020181 and 02020081", and two payloads
pub two_encodings : (integer_bytes (neg_ℤ (pos 127)) ≡ 0x81 ∷ []) × (integer_bytes (pos 129) ≡ 0x00 ∷ 0x81 ∷ [])
unfolding integer_bytes spread spread_by
two_encodings = (refl, refl)

pub two_payloads : (le32 (twos (neg_ℤ (pos 127))) ≡ 0x81 ∷ 0xff ∷ 0xff ∷ 0xff ∷ []) × (le32 (twos (pos 129)) ≡ 0x81 ∷ 0x00 ∷ 0x00 ∷ 0x00 ∷ [])
two_payloads = (refl, refl)

-- "every other component": the tables are all, since each sequence has its place on that list
pub each_sequence : (q : Sequence) → (n : ℕ) × (n < length sequences) × (get_or sequences n Info ≡ q)
each_sequence Info = (0, omega arith, refl)
each_sequence Common = (1, omega arith, refl)
each_sequence Rule = (2, omega arith, refl)
each_sequence Key = (3, omega arith, refl)
each_sequence CertificateAttributes = (4, omega arith, refl)
each_sequence Authentication = (5, omega arith, refl)
each_sequence PrivateKeyAttributes = (6, omega arith, refl)
each_sequence PasswordAttributes = (7, omega arith, refl)
each_sequence Path = (8, omega arith, refl)
each_sequence Template = (9, omega arith, refl)
each_sequence Discretionary = (10, omega arith, refl)
each_sequence OdfPath = (11, omega arith, refl)
each_sequence InfoPath = (12, omega arith, refl)
