-- One law over the form: a value is read of contents if and only if they are its encoding.
use Rattle.std.specs.Prelude.{ℕ, zero, suc, ◌<◌, ◌≡◌, refl, List, [], ◌∷◌, Bool, false, length, eqb}
use Rattle.std.proofs.Common.{arith, eqb-true, ne_eqb}
use Rattle.elements.specs.Lists.{Bytes}
use Rattle.elements.specs.declared.answer.Form.{Form}
use Rattle.elements.specs.declared.answer.Form.TheVariants as form
use Rattle.elements.specs.Boolean.{boolean, boolean_bytes}
use Rattle.elements.specs.Told.{told}
use Rattle.elements.specs.Values.{null, value}
use Rattle.elements.specs.Encodings.{Encodes}
use Rattle.elements.specs.ToldLaws.{least_is}
use Rattle.elements.specs.Says.{Says, wrong, says, by_test, said}
use Rattle.elements.specs.IntegerLaws.{integer_sound, integer_complete}
use Rattle.elements.proofs.FlagLaws.{bits_sound, bits_complete}
use Rattle.elements.specs.TextLaws.{text_sound, text_complete}
use Rattle.elements.specs.TimeLaws.{time_sound, time_complete}
use Rattle.elements.specs.Answer.{of}

boolean_says : (c : List ℕ) → Says (Encodes form.Boolean c) (boolean c)
unfolding boolean boolean_bytes
boolean_says [] = wrong
boolean_says (x ∷ []) =
    by_test (eqb x 0) (λ t. says {n = false} {m = 0} (record { worth = 0; proper = omega arith; bytes = rw (eqb-true x 0 t); told = (refl, refl) })) (λ _.
    by_test (eqb x 255) (λ t. says {n = false} {m = 1} (record { worth = 1; proper = omega arith; bytes = rw (eqb-true x 255 t); told = (refl, refl) })) (λ _. wrong))
boolean_says (x ∷ y ∷ l) = rw (ne_eqb (length (x ∷ y ∷ l)) 1 (omega arith)) wrong

boolean_complete : (m : ℕ) → m < 2 → boolean (boolean_bytes m) ≡ of false m
unfolding boolean boolean_bytes
boolean_complete zero h = refl
boolean_complete (suc zero) h = refl
boolean_complete (suc (suc m)) h = absurd (omega arith)

null_says : (c : List ℕ) → Says (Encodes form.Null c) (null c)
unfolding null
null_says [] = says {n = false} {m = 0} (record { worth = tt; proper = tt; bytes = refl; told = (refl, refl) })
null_says (x ∷ l) = rw (ne_eqb (length (x ∷ l)) 0 (omega arith)) wrong

octets_says : (c : List ℕ) → Says (Encodes form.Octets c) (told (length c))
unfolding told
octets_says c = says (record { worth = c; proper = tt; bytes = refl; told = (refl, refl) })

-- what is read is an encoding of what is told
pub value_sound : (f : Form) (c : List ℕ) → Bytes c → {n : Bool} {m : ℕ} → value f c ≡ of n m → Encodes f c n m
unfolding value
value_sound form.Boolean c b e = said (boolean_says c) e
value_sound form.Integer c b e = integer_sound c b e
value_sound form.Bits c b e = bits_sound c b e
value_sound form.Null c b e = said (null_says c) e
value_sound form.Text c b e = text_sound c e
value_sound form.Time c b e = let t = time_sound c e in record { worth = c; proper = t.2; bytes = refl; told = (t.0, t.1) }
value_sound form.Octets c b e = said (octets_says c) e

-- and every encoding is read, as its value
pub value_complete : (f : Form) (c : List ℕ) {n : Bool} {m : ℕ} → Encodes f c n m → value f c ≡ of n m
unfolding value null told
value_complete form.Boolean c e = rw (e.bytes, e.told.0, e.told.1, least_is e.worth (omega (arith, e.proper))) (boolean_complete e.worth e.proper)
value_complete form.Integer c e = rw e.bytes (integer_complete e.worth e.told)
value_complete form.Bits c e = rw (e.bytes, e.told.0, e.told.1, least_is e.worth e.proper) (bits_complete e.worth e.proper)
value_complete form.Null c e = rw (e.bytes, e.told.0, e.told.1) refl
value_complete form.Text c e = rw (e.bytes, e.told.0, e.told.1) (text_complete e.proper)
value_complete form.Time c e = rw (e.bytes, e.told.0, e.told.1) (time_complete e.proper)
value_complete form.Octets c e = rw (e.bytes, e.told.0, e.told.1) refl
