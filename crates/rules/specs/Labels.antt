-- Labels in two scripts: "The bound becomes 255 characters, so at most 1,020 bytes, for 0103, 0104 and 0121."
use Rattle.std.specs.Prelude.{ℕ, ◌≤◌, ◌<◌, ◌≡◌, refl, false, List, [], ◌∷◌, ◌++◌, ℤ, pos, ◌≤ℤ◌, length}
use Rattle.std.proofs.Common.{sym, arith, leb→le}
use Rattle.elements.specs.declared.answer.Form.{Form}
use Rattle.elements.specs.declared.answer.Form.TheVariants as form
use Rattle.elements.specs.Encodings.{Scalars, utf8s, contents_of}
use Rattle.elements.specs.ToldLaws.{least_is}
use Rattle.elements.specs.Integer.{most}
use Rattle.elements.specs.CharacterLaws.{utf8s_most}
use Rattle.elements.proofs.ValueLaws.{value_complete}
use Rattle.elements.specs.Values.{value}
use Rattle.rules.specs.declared.table.Row.{Row}
use Rattle.rules.specs.Parts.{sized, judged, payload}
use Rattle.rules.specs.Tables.{rows_of, sequences}
use Rattle.rules.specs.Grammar.{flat, Fine}

-- the rows of text, by kind and bounds
abbrev of_text : Form → Row → List (ℕ × ℤ × ℤ)
of_text form.Text r = (r.kind, r.low, r.high) ∷ []
of_text form.Boolean r = []
of_text form.Integer r = []
of_text form.Bits r = []
of_text form.Null r = []
of_text form.Time r = []
of_text form.Octets r = []

abbrev texts : List Row → List (ℕ × ℤ × ℤ)
texts [] = []
texts (r ∷ rs) = of_text r.form r ++ texts rs

-- "for 0103, 0104 and 0121", and for EF.DIR's label, 0203: these are all the texts of all the tables
pub texts_255 : texts (flat rows_of sequences) ≡ (0x0103, pos 0, pos 255) ∷ (0x0104, pos 0, pos 255) ∷ (0x0121, pos 0, pos 255) ∷ (0x0203, pos 0, pos 255) ∷ []
texts_255 = refl

-- a text is judged by how many characters it has, whatever bytes they take
pub judged_by_characters : (r : Row) (us : List ℕ) → Scalars us → length us < most → r.form ≡ form.Text → judged r (utf8s us) (value form.Text (utf8s us)) ≡ sized r (utf8s us) false (length us)
unfolding payload
judged_by_characters r us w h e =
    let v = value_complete form.Text (utf8s us) (record { worth = us; proper = w; bytes = refl; told = (refl, sym (least_is (length us) (omega arith))) }) in
    rw (v, e) refl

-- "so at most 1,020 bytes"
pub bytes_1020 : (r : Row) (us : List ℕ) → r.high ≡ pos 255 → Fine form.Text r us → length (contents_of form.Text us) ≤ 1020
bytes_1020 r us e w = let h : pos (length us) ≤ℤ pos 255 = rw e at w.1.1 in omega (arith, utf8s_most us, leb→le (length us) 255 h.le)
