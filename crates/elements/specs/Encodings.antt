-- What an element, a sealed run and the contents of each form are, said without reading them: as encodings.
use Rattle.std.specs.Prelude.{ℕ, suc, ◌+◌, ◌-◌, ◌/◌, ◌%◌, ◌^◌, ◌≤◌, ◌<◌, ◌≡◌, List, [], ◌∷◌, ◌++◌, Bool, true, false, ℤ, pos, negsuc, nat_abs, length, get_or, ltb}
use Rattle.std.proofs.Math.Seq.{slice}
use Rattle.elements.specs.Choice.{pick}
use Rattle.elements.specs.declared.answer.Form.{Form}
use Rattle.elements.specs.declared.answer.Form.TheVariants as form
use Rattle.elements.specs.Length.{shortest, tag_bytes}
use Rattle.elements.specs.Sealed.{among, constructed}
use Rattle.elements.specs.Boolean.{boolean_bytes}
use Rattle.elements.specs.Integer.{least, most, integer_bytes}
use Rattle.elements.specs.Bits.{flag_bytes}
use Rattle.elements.specs.Time.{days_of}

-- the bytes from `at` to a are a tag and the shortest length of the contents, which go from a to e inside the container
pub record Der (s : List ℕ) (at end b a e : ℕ) : Type 0 where
  -- class and constructed bit: the first byte's top three bits
  pub lead : ℕ
  -- the tag's number, "in at most three further bytes"
  pub number : ℕ
  pub lead_fits : lead < 8
  pub number_fits : number < 2097152
  -- "tag 00 is no tag"
  pub some : lead ≡ 0 → number ≡ 0 → ⊥
  pub order : a ≤ e
  pub inside : e ≤ end
  pub short : e - a ≤ 65535
  pub first : b ≡ get_or s at 0
  pub bytes : slice at a s ≡ tag_bytes lead number ++ shortest (e - a)

-- elements one after the other from `at` to the very end, none on this level with a tag kept out, the contents of constructed ones nested in the levels left
pub data Nested (s : List ℕ) : (levels : ℕ) (out : List ℕ) (at end : ℕ) → Type 0 where
  over : {l : ℕ} {out : List ℕ} {at end : ℕ} → at ≡ end → Nested s l out at end
  plain : {l : ℕ} {out : List ℕ} {at end b a e : ℕ} → Der s at end b a e → among b out ≡ false → constructed b ≡ false →
      Nested s (suc l) out e end → Nested s (suc l) out at end
  deep : {l : ℕ} {out : List ℕ} {at end b a e : ℕ} → Der s at end b a e → among b out ≡ false → constructed b ≡ true →
      Nested s l [] a e → Nested s (suc l) out e end → Nested s (suc l) out at end

-- a Unicode scalar value: at most 10FFFF, and no surrogate
pub data Scalar (u : ℕ) : Type 0 where
  below : u < 0xd800 → Scalar u
  above : 0xe000 ≤ u → u ≤ 0x10ffff → Scalar u

pub data Scalars : List ℕ → Type 0 where
  none : Scalars []
  more : {u : ℕ} {l : List ℕ} → Scalar u → Scalars l → Scalars (u ∷ l)

-- RFC 3629, section 3: the bytes of a character
unfoldable pub utf8 : ℕ → List ℕ
utf8 u =
    pick (ltb u 0x80) (u ∷ [])
    (pick (ltb u 0x800) ((0xc0 + u / 64) ∷ (0x80 + u % 64) ∷ [])
    (pick (ltb u 0x10000) ((0xe0 + u / 4096) ∷ (0x80 + u / 64 % 64) ∷ (0x80 + u % 64) ∷ [])
    ((0xf0 + u / 262144) ∷ (0x80 + u / 4096 % 64) ∷ (0x80 + u / 64 % 64) ∷ (0x80 + u % 64) ∷ [])))

unfoldable pub utf8s : List ℕ → List ℕ
utf8s [] = []
utf8s (u ∷ l) = utf8 u ++ utf8s l

-- two decimal digits
unfoldable pub pair : ℕ → List ℕ
pair n = (48 + n / 10) ∷ (48 + n % 10) ∷ []

-- c is YYYYMMDDhhmmssZ of a day of the Gregorian calendar and a time of day
pub record Moment (c : List ℕ) : Type 0 where
  pub year : ℕ
  pub month : ℕ
  pub day : ℕ
  pub hour : ℕ
  pub minute : ℕ
  pub second : ℕ
  pub year_fits : year < 10000
  pub day_from : 1 ≤ day
  pub day_to : day ≤ days_of year month
  pub hour_to : hour ≤ 23
  pub minute_to : minute ≤ 59
  pub second_to : second ≤ 59
  pub bytes : c ≡ pair (year / 100) ++ pair (year % 100) ++ pair month ++ pair day ++ pair hour ++ pair minute ++ pair second ++ (90 ∷ [])

-- the values of a form: a text is its characters, octets are their bytes
abbrev pub Worth : Form → Type 0
Worth form.Boolean = ℕ
Worth form.Integer = ℤ
Worth form.Bits = ℕ
Worth form.Null = Unit {0}
Worth form.Text = List ℕ
Worth form.Time = List ℕ
Worth form.Octets = List ℕ

-- those that there are: 0 and 1, 32 bits, scalar values, a day of the calendar and a time of day
abbrev pub Proper : (f : Form) → Worth f → Type 0
Proper form.Boolean v = v < 2
Proper form.Integer v = Unit {0}
Proper form.Bits v = v < 2 ^ 32
Proper form.Null v = Unit {0}
Proper form.Text v = Scalars v
Proper form.Time v = Moment v
Proper form.Octets v = Unit {0}

-- their contents: of a number the shortest two's complement
abbrev pub contents_of : (f : Form) → Worth f → List ℕ
contents_of form.Boolean v = boolean_bytes v
contents_of form.Integer v = integer_bytes v
contents_of form.Bits v = flag_bytes v
contents_of form.Null v = []
contents_of form.Text v = utf8s v
contents_of form.Time v = v
contents_of form.Octets v = v

-- what a form tells of a value, and bounds are on: a number itself, how many characters a text is, how many bytes octets are
abbrev pub tells : (f : Form) → Worth f → ℤ
tells form.Boolean v = pos v
tells form.Integer v = v
tells form.Bits v = pos v
tells form.Null v = pos 0
tells form.Text v = pos (length v)
tells form.Time v = pos 0
tells form.Octets v = pos (length v)

-- by its sign and its magnitude, the largest for all above
abbrev pub negative : ℤ → Bool
negative (pos m) = false
negative (negsuc w) = true

abbrev pub ToldAs : ℤ → Bool → ℕ → Type 0
ToldAs z n m = (n ≡ negative z) × (m ≡ least (nat_abs z) most)

-- contents c are the encoding of a value of which n and m are told
pub record Encodes (f : Form) (c : List ℕ) (n : Bool) (m : ℕ) : Type 0 where
  pub worth : Worth f
  pub proper : Proper f worth
  pub bytes : c ≡ contents_of f worth
  pub told : ToldAs (tells f worth) n m
