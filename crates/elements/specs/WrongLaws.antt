-- What is wrong with contents, form by form: "Split 6 into 61 (BOOLEAN ..), 62 (INTEGER or ENUMERATED ..), 63 (bit string ..), 64 (bit string ..), 65 (text), 66 (time), 67 (NULL ..)".
use Rattle.std.specs.Prelude.{ℕ, ◌+◌, ◌≡◌, Bool, List, [], ◌∷◌, T, Err}
use Rattle.std.proofs.Common.{subst}
use Rattle.elements.specs.declared.fault.Fault.{Fault}
use Rattle.elements.specs.declared.fault.Fault.TheVariants.{BadBoolean, BadInteger, BadBits, TrailingBits, BadText, BadTime, BadNull, ManyBits}
use Rattle.elements.specs.declared.answer.Form.{Form}
use Rattle.elements.specs.declared.answer.Form.TheVariants as form
use Rattle.elements.specs.Choice.{pick}
use Rattle.elements.specs.ChoiceLaws.{by_pick}
use Rattle.elements.specs.Faults.{number_of}
use Rattle.elements.specs.Sealed.{among}
use Rattle.elements.specs.Told.{told}
use Rattle.elements.specs.Boolean.{boolean}
use Rattle.elements.specs.Integer.{magnitude, whole, integer}
use Rattle.elements.specs.Bits.{bits_of, bits}
use Rattle.elements.specs.Text.{Due, Next, Then, Never, step_of, starts, text_from, text}
use Rattle.elements.specs.Time.{time}
use Rattle.elements.specs.Values.{null, value}
use Rattle.elements.specs.Answer.{Value, of}

-- the faults that contents of a form can have: its own, and of a bit string that it has more than 32 bits
pub data Faulty : Form → Fault → Type 0 where
  boolean_61 : Faulty form.Boolean BadBoolean
  integer_62 : Faulty form.Integer BadInteger
  bits_63 : Faulty form.Bits BadBits
  bits_64 : Faulty form.Bits TrailingBits
  bits_7 : Faulty form.Bits ManyBits
  text_65 : Faulty form.Text BadText
  time_66 : Faulty form.Time BadTime
  null_67 : Faulty form.Null BadNull

-- their numbers
abbrev pub numbers_of : Form → List ℕ
numbers_of form.Boolean = 61 ∷ []
numbers_of form.Integer = 62 ∷ []
numbers_of form.Bits = 63 ∷ 64 ∷ 7 ∷ []
numbers_of form.Text = 65 ∷ []
numbers_of form.Time = 66 ∷ []
numbers_of form.Null = 67 ∷ []
numbers_of form.Octets = []

-- what contents of a form come to
data Says (f : Form) : Value → Type 0 where
  fine : {n : Bool} {m : ℕ} → Says f (of n m)
  wrong : {x : Fault} → Faulty f x → Says f (Err x)

says_by : {f : Form} (t : Bool) {x y : Value} → Says f x → Says f y → Says f (pick t x y)
says_by {f} t x y = by_pick (Says f) t (λ _. x) (λ _. y)

text_says : (d : Due) (n : ℕ) (c : List ℕ) → Says form.Text (text_from d n c)
unfolding text_from told
text_says d n [] = search (says_by, fine, wrong, text_65)
text_says d n (b ∷ l) = go (λ t. text_says t (n + starts d) l) (step_of d b)
  where
    go : ((t : Due) → Says form.Text (text_from t (n + starts d) l)) → (x : Next) → Says form.Text (elim x [ Then t ↦ text_from t (n + starts d) l | Never ↦ Err BadText ])
    go h (Then t) = h t
    go h Never = wrong text_65

value_says : (f : Form) (c : List ℕ) → Says f (value f c)
unfolding value boolean integer whole magnitude bits bits_of null text time told
value_says form.Boolean c = search (says_by, fine, wrong, boolean_61) depth 12
value_says form.Integer c = search (says_by, fine, wrong, integer_62) depth 12
value_says form.Bits c = search (says_by, fine, wrong, bits_63, bits_64, bits_7) depth 12
value_says form.Null c = search (says_by, fine, wrong, null_67) depth 12
value_says form.Text c = text_says _ 0 c
value_says form.Time c = search (says_by, fine, wrong, time_66) depth 12
value_says form.Octets c = fine

-- contents that are refused have a fault of their form
pub own_fault : (f : Form) (c : List ℕ) {x : Fault} → value f c ≡ Err x → Faulty f x
own_fault f c {x} e = go (subst (Says f) e (value_says f c))
  where
    go : Says f (Err x) → Faulty f x
    go (wrong w) = w

pub own_number : (f : Form) (c : List ℕ) {x : Fault} → value f c ≡ Err x → T (among (number_of x) (numbers_of f))
own_number f c e = go (own_fault f c e)
  where
    go : {g : Form} {x : Fault} → Faulty g x → T (among (number_of x) (numbers_of g))
    go boolean_61 = tt
    go integer_62 = tt
    go bits_63 = tt
    go bits_64 = tt
    go bits_7 = tt
    go text_65 = tt
    go time_66 = tt
    go null_67 = tt
