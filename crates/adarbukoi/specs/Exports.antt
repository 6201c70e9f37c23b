-- What the exported functions answer: 0 or the refusal's number, and the number pointed to.
use Rattle.std.specs.Prelude.{ℕ, ◌≡◌, List, Ok, Err}
use Rattle.std.proofs.Common.{sym, ap, ◌∙◌}
use Rattle.elements.specs.Faults.{number_of}
use Rattle.elements.specs.Answer.{Outcome}
use Rattle.layouts.specs.Service.{ReadTold, WriteTold, one_read, one_write}
use Rattle.links.specs.Serving.{Sought, ListTold, PlaceTold, one_list, one_place}
use Rattle.why.specs.declared.answer.Why.TheVariants as why
use Rattle.why.specs.Whys.{Reasoned, WhyTold, one_why}

-- "each answering 0 for accepted or the refusal's number"
abbrev pub code_of : Outcome → ℕ
code_of (Ok n) = 0
code_of (Err r) = number_of r.0

-- the length, or "on a refusal the number pointed to is the place"
abbrev pub number_in : Outcome → ℕ
number_in (Ok n) = n
number_in (Err r) = r.1

pub record Told (r : Outcome) (c n : ℕ) : Type 0 where
  pub code : c ≡ code_of r
  pub number : n ≡ number_in r

-- what a service may answer, and what it then leaves in the lent slice, which was a and is b
abbrev pub Service : Type 1
Service = List ℕ → List ℕ → List ℕ → Outcome → Type 0

-- the service's own answer, told so
pub record Exported (service : Service) (s a b : List ℕ) (c n : ℕ) : Type 0 where
  pub answer : Outcome
  pub served : service s a b answer
  pub told : Told answer c n

-- a field's place: its offset and length; or the refusal's place, and the length is what it was
abbrev pub field_code : Sought → ℕ
field_code (Ok x) = 0
field_code (Err r) = number_of r.0

abbrev pub offset_in : Sought → ℕ
offset_in (Ok x) = x.at
offset_in (Err r) = r.1

abbrev pub size_in : Sought → ℕ → ℕ
size_in (Ok x) l = x.size
size_in (Err r) l = l

pub record PlaceSaid (r : Sought) (c n l m : ℕ) : Type 0 where
  pub code : c ≡ field_code r
  pub offset : n ≡ offset_in r
  pub size : m ≡ size_in r l

pub record FieldExported (b : List ℕ) (i k c n l m : ℕ) : Type 0 where
  pub answer : Sought
  pub served : PlaceTold b i k answer
  pub told : PlaceSaid answer c n l m

-- "1 met, 2 no object of the class, 3 elsewhere, 4 nowhere"; on a refusal it is what it was
abbrev pub answer_in : Reasoned → ℕ → ℕ
answer_in (Ok (why.Met p k)) a = 1
answer_in (Ok why.NoObject) a = 2
answer_in (Ok (why.Elsewhere p k)) a = 3
answer_in (Ok why.Nowhere) a = 4
answer_in (Err r) a = a

abbrev pub why_code : Reasoned → ℕ
why_code (Ok (why.Met p k)) = 0
why_code (Ok why.NoObject) = 0
why_code (Ok (why.Elsewhere p k)) = 0
why_code (Ok why.Nowhere) = 0
why_code (Err r) = number_of r.0

-- "the offset, 0 where there is none, or the refusal's place"
abbrev pub shown_at : Reasoned → ℕ
shown_at (Ok (why.Met p k)) = p
shown_at (Ok why.NoObject) = 0
shown_at (Ok (why.Elsewhere p k)) = p
shown_at (Ok why.Nowhere) = 0
shown_at (Err r) = r.1

-- "the record's kind for 1 and 3, else 0"
abbrev pub kind_in : Reasoned → ℕ → ℕ
kind_in (Ok (why.Met p k)) l = k
kind_in (Ok why.NoObject) l = 0
kind_in (Ok (why.Elsewhere p k)) l = k
kind_in (Ok why.Nowhere) l = 0
kind_in (Err r) l = l

pub record WhySaid (r : Reasoned) (c a b n l m : ℕ) : Type 0 where
  pub code : c ≡ why_code r
  pub answer : b ≡ answer_in r a
  pub offset : n ≡ shown_at r
  pub kind : m ≡ kind_in r l

pub record WhyExported (s : List ℕ) (row c a b n l m : ℕ) : Type 0 where
  pub reason : Reasoned
  pub served : WhyTold s row reason
  pub told : WhySaid reason c a b n l m

-- any two results that a contract allows are equal, since the service's are
one_exported : {service : Service} {s a b e : List ℕ} {c d n m : ℕ} → ((q r : Outcome) → service s a b q → service s a e r → (q ≡ r) × (b ≡ e)) → Exported service s a b c n → Exported service s a e d m → (b ≡ e) × (c ≡ d) × (n ≡ m)
one_exported one h g =
    let w = one h.answer g.answer h.served g.served in
    let t = h.told in
    let u = g.told in
    (w.1, t.code ∙ ap code_of w.0 ∙ sym u.code, t.number ∙ ap number_in w.0 ∙ sym u.number)

pub one_read_exported : {s a b e : List ℕ} {c d n m : ℕ} → Exported ReadTold s a b c n → Exported ReadTold s a e d m → (b ≡ e) × (c ≡ d) × (n ≡ m)
one_read_exported = one_exported (λ q r. one_read)

pub one_write_exported : {s a b e : List ℕ} {c d n m : ℕ} → Exported WriteTold s a b c n → Exported WriteTold s a e d m → (b ≡ e) × (c ≡ d) × (n ≡ m)
one_write_exported = one_exported (λ q r. one_write)

pub one_list_exported : {s a b e : List ℕ} {c d n m : ℕ} → Exported ListTold s a b c n → Exported ListTold s a e d m → (b ≡ e) × (c ≡ d) × (n ≡ m)
one_list_exported = one_exported (λ q r. one_list)

pub one_field_exported : {b : List ℕ} {i k c d n m l x y : ℕ} → FieldExported b i k c n l x → FieldExported b i k d m l y → (c ≡ d) × (n ≡ m) × (x ≡ y)
one_field_exported {l = l} h g =
    let e = one_place h.served g.served in
    let t = h.told in
    let u = g.told in
    (t.code ∙ ap field_code e ∙ sym u.code, t.offset ∙ ap offset_in e ∙ sym u.offset, t.size ∙ ap (λ (z : Sought). size_in z l) e ∙ sym u.size)

pub one_why_exported : {s : List ℕ} {row c d a b e n m l x y : ℕ} → WhyExported s row c a b n l x → WhyExported s row d a e m l y → (c ≡ d) × (b ≡ e) × (n ≡ m) × (x ≡ y)
one_why_exported {a = a} {l = l} h g =
    let e = one_why h.served g.served in
    let t = h.told in
    let u = g.told in
    (t.code ∙ ap why_code e ∙ sym u.code, t.answer ∙ ap (λ (z : Reasoned). answer_in z a) e ∙ sym u.answer, t.offset ∙ ap shown_at e ∙ sym u.offset, t.kind ∙ ap (λ (z : Reasoned). kind_in z l) e ∙ sym u.kind)
