-- What is checked of a part once it is read, and what is counted in it.
use Rattle.std.specs.Prelude.{ℕ, ◌-◌, ◌/◌, ◌%◌, List, [], ◌∷◌, Bool, true, false, ◌||◌, ◌&&◌, not, length, leb, eqb}
use Rattle.std.proofs.Math.Seq.{slice}
use Rattle.elements.specs.declared.fault.Fault.TheVariants.{BadSize, Missing, PathPair, PasswordFlags}
use Rattle.elements.specs.Choice.{choose, pick}
use Rattle.elements.specs.Put.{le16}
use Rattle.rules.specs.declared.table.Sort.TheVariants.{Identifier}
use Rattle.rules.specs.Reading.{Rec, rec, Res, took, fails, Body, number}
use Rattle.rules.specs.Tables.{index_row, length_row, kind_of}

-- a record of the kind is there
abbrev pub has : ℕ → List Rec → Bool
has k [] = false
has k (r ∷ rs) = eqb r.kind k || has k rs

abbrev pub same : Bool → Bool → Bool
same true b = b
same false b = not b

-- "8 rule: index without length or the reverse; place is the sequence"
abbrev pub paired : ℕ → ℕ → Res → Res
paired k at (fails f p) = fails f p
paired k at (took bs ms n) = choose (same (has (index_row k).kind bs) (has (length_row k).kind bs)) (λ _. took bs ms n) (λ _. fails PathPair at)

-- "8 rule: pwdFlags bits 6 and 7 both set; place is the sequence": pwdFlags is the first record
abbrev pub flagged : ℕ → Res → Res
flagged at (fails f p) = fails f p
flagged at (took [] ms n) = took [] ms n
flagged at (took (r ∷ bs) ms n) = choose (eqb (number r.pay / 64 % 4) 3) (λ _. fails PasswordFlags at) (λ _. took (r ∷ bs) ms n)

-- an object, and a condition of a list, is counted once, by its place, whatever is inside it
abbrev pub counts : ℕ → Res → Res
counts at (took bs ms n) = took bs (at ∷ []) n
counts at (fails f p) = fails f p

-- what is counted in a condition is no object
abbrev pub quiet : Res → Res
quiet (took bs ms n) = took bs [] n
quiet (fails f p) = fails f p

-- the conditions of a list, two at least, behind their count
abbrev pub listed : ℕ → ℕ → Res → Res
listed kind e (fails f p) = fails f p
listed kind e (took bs ms n) = choose (leb 2 (length ms)) (λ _. took (rec kind (le16 (length ms)) ∷ bs) [] n) (λ _. fails Missing e)

module _ (s : List ℕ) where
  -- "04 identifier": "Identifiers are 0 to 255 bytes"
  unfoldable pub identified : Body
  identified at a e = choose (leb (e - a) 255) (λ _. took (rec (kind_of Identifier) (slice a e s) ∷ []) [] e) (λ _. fails BadSize at)

-- "those whose 4F begins with E8 28 BD 08 0F, the fixed start that clause 7.5.5 gives"
abbrev pub starts_with : List ℕ → List ℕ → Bool
starts_with [] c = true
starts_with (x ∷ l) [] = false
starts_with (x ∷ l) (y ∷ c) = eqb y x && starts_with l c

abbrev pub ours : List ℕ → Bool
ours = starts_with (0xe8 ∷ 0x28 ∷ 0xbd ∷ 0x08 ∷ 0x0f ∷ [])

-- "0201, one byte, 01 ours or 00 not": of a template's records, the first of which is its 4F
abbrev pub flag_of : List ℕ → List ℕ
flag_of aid = pick (ours aid) 1 0 ∷ []

abbrev pub ours_in : List Rec → List ℕ
ours_in [] = flag_of []
ours_in (r ∷ rs) = flag_of r.pay

-- a record in front, told by those behind it
abbrev pub headed_by : ℕ → (List Rec → List ℕ) → Res → Res
headed_by kind f (fails x p) = fails x p
headed_by kind f (took bs ms n) = took (rec kind (f bs) ∷ bs) ms n

-- "5 where a template of ours has neither path nor 73": the records behind its 4F begin, behind a label, with neither
abbrev pub neither : List Rec → Bool
neither [] = true
neither (r ∷ rs) = not (eqb r.kind 0x0204 || eqb r.kind 0x0205)

abbrev pub unreached : List Rec → Bool
unreached [] = true
unreached (r ∷ rs) = pick (eqb r.kind 0x0203) (neither rs) (neither (r ∷ rs))

abbrev pub reached : ℕ → Res → Res
reached end (fails f p) = fails f p
reached end (took [] ms n) = took [] ms n
reached end (took (r ∷ bs) ms n) = choose (ours r.pay && unreached bs) (λ _. fails Missing end) (λ _. took (r ∷ bs) ms n)
