-- The value of an element, from its contents, in each form.
use Rattle.std.specs.Prelude.{ℕ, List, false, length, eqb, Err, Ok}
use Rattle.std.proofs.Math.Seq.{slice}
use Rattle.elements.specs.Choice.{pick}
use Rattle.elements.specs.declared.fault.Fault.TheVariants.{BadNull, NotDue}
use Rattle.elements.specs.declared.answer.Form.{Form}
use Rattle.elements.specs.declared.answer.Form.TheVariants as form
use Rattle.elements.specs.Header.{header}
use Rattle.elements.specs.Boolean.{boolean}
use Rattle.elements.specs.Integer.{integer}
use Rattle.elements.specs.Bits.{bits}
use Rattle.elements.specs.Text.{text}
use Rattle.elements.specs.Time.{time}
use Rattle.elements.specs.Told.{told}
use Rattle.elements.specs.Answer.{Head, Read, Value, of, refused, taken}

-- "NULL is empty."
unfoldable pub null : List ℕ → Value
null c = pick (eqb (length c) 0) (of false 0) (Err BadNull)

-- octet strings by their length
unfoldable pub value : Form → List ℕ → Value
value form.Boolean c = boolean c
value form.Integer c = integer c
value form.Bits c = bits c
value form.Null c = null c
value form.Text c = text c
value form.Time c = time c
value form.Octets c = told (length c)

-- a value with the next place, or a refusal with its place: the element is at `at` and ends at e
abbrev pub placed : ℕ → ℕ → Value → Read
placed at e (Ok x) = taken x.0 x.1 e
placed at e (Err f) = refused f at

abbrev pub due_element : Form → ℕ → List ℕ → ℕ → Head → Read
due_element f tag s at (Err r) = refused r.0 r.1
due_element f tag s at (Ok x) = pick (eqb x.0 tag) (placed at x.2 (value f (slice x.1 x.2 s))) (refused NotDue at)

-- one element of a tag and a form, in a container that ends at `end`: tag form, length, tag due, value
unfoldable pub element : Form → ℕ → List ℕ → ℕ → ℕ → Read
element f tag s at end = due_element f tag s at (header s at end)
