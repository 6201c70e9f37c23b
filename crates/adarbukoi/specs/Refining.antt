-- Item 3 of document 02, of the services as C sees them: "Each answer of 6 turns into just one of these, at the same place, and no other answer changes".
use Rattle.std.specs.Prelude.{ℕ, ◌≤◌, ◌≡◌, refl, ◌⊎◌, false, List, eqb, Ok, Err}
use Rattle.std.proofs.Common.{sym, ap, ◌∙◌, inl, inr, ne_eqb}
use Rattle.std.proofs.lemmas.Bool.{eqb-false}
use Rattle.elements.specs.declared.fault.Fault.{Fault}
use Rattle.elements.specs.Faults.{number_of}
use Rattle.elements.specs.Refines.{first_number_of, coarse, refines, split, unsplit}
use Rattle.elements.specs.Lists.{Bytes}
use Rattle.elements.specs.Answer.{Outcome}
use Rattle.elements.specs.Answer as code
use Rattle.layouts.specs.Service.{ReadTold, WriteTold, one_read, one_write}
use Rattle.layouts.specs.Demands.{Short, NoBook, write_refusal}
use Rattle.links.specs.Serving.{Sought, ListTold, PlaceTold, one_list, one_place}
use Rattle.links.specs.Refusals.{NoField, list_refusal, place_refusal}
use Rattle.adarbukoi.specs.Exports.{code_of, number_in, Service, Exported, field_code, offset_in, size_in, FieldExported}

-- what was answered before: 0, or the number that the fault had
abbrev first_code : Outcome → ℕ
first_code (Ok n) = 0
first_code (Err r) = first_number_of r.0

abbrev first_field_code : Sought → ℕ
first_field_code (Ok x) = 0
first_field_code (Err r) = first_number_of r.0

-- the service's own answer, told as it was before
pub record FirstExported (service : Service) (s a b : List ℕ) (c n : ℕ) : Type 0 where
  pub answer : Outcome
  pub served : service s a b answer
  pub code : c ≡ first_code answer
  pub number : n ≡ number_in answer

pub record FirstFieldExported (b : List ℕ) (i k c n l m : ℕ) : Type 0 where
  pub answer : Sought
  pub served : PlaceTold b i k answer
  pub code : c ≡ first_field_code answer
  pub offset : n ≡ offset_in answer
  pub size : m ≡ size_in answer l

-- an answer's code was the one that it has, with 61 to 68 taken to 6; "6 is no longer given"
codes : (r : Outcome) → (first_code r ≡ coarse (code_of r)) × (eqb (code_of r) 6 ≡ false)
codes (Ok n) = (refl, refl)
codes (Err r) = refines r.0

-- 14, 15 and 16 were what they are
stays : (f : Fault) (n : ℕ) → number_of f ≡ n → coarse n ≡ n → first_number_of f ≡ number_of f
stays f n e q = (refines f).0 ∙ rw e q

-- what a service told and what it tells, of one input with one slice: its own answers are equal
beside : {service : Service} {s a b e : List ℕ} {c d n m : ℕ} → ((q r : Outcome) → service s a b q → service s a e r → (q ≡ r) × (b ≡ e)) →
    (h : FirstExported service s a b c n) → Exported service s a e d m → (d ≡ code_of h.answer) × (m ≡ n) × (e ≡ b)
beside one h g =
    let w = one h.answer g.answer h.served g.served in
    let t = g.told in
    (t.code ∙ ap code_of (sym w.0), t.number ∙ ap number_in (sym w.0) ∙ sym h.number, sym w.1)

-- where no refusal's number changed, no answer did
unchanged : {service : Service} {s a b e : List ℕ} {c d n m : ℕ} → ((q r : Outcome) → service s a b q → service s a e r → (q ≡ r) × (b ≡ e)) →
    ((f : Fault) (p : ℕ) → service s a b (code.refused f p) → first_number_of f ≡ number_of f) → FirstExported service s a b c n → Exported service s a e d m → (d ≡ c) × (m ≡ n) × (e ≡ b)
unchanged {service} {s} {a} {b} one same h g = let w = beside one h g in (w.0 ∙ sym (h.code ∙ go h.answer h.served), w.1, w.2)
  where
    go : (r : Outcome) → service s a b r → first_code r ≡ code_of r
    go (Ok k) t = refl
    go (Err r) t = same r.0 r.1 t

-- 15 and 14 are what they were
of_a_book : {Asked : List ℕ → Type 0} {x a : List ℕ} (f : Fault) {p : ℕ} → NoBook x f p ⊎ Short Asked a f p → first_number_of f ≡ number_of f
of_a_book f (inl k) = stays f 15 k.number refl
of_a_book f (inr k) = stays f 14 k.number refl

-- "6 is no longer given"
pub never_6 : {s a e : List ℕ} {d m : ℕ} → Exported ReadTold s a e d m → d ≡ 6 → ⊥
never_6 g q = eqb-false (code_of g.answer) 6 (codes g.answer).1 (sym g.told.code ∙ q)

-- for every dump: what is answered now, with 61 to 68 taken to 6, was the answer before, with the same place, or length, and lent bytes
pub before : {s a e : List ℕ} {d m : ℕ} → Exported ReadTold s a e d m → FirstExported ReadTold s a e (coarse d) m
before g = record { answer = g.answer; served = g.served; code = ap coarse g.told.code ∙ sym (codes g.answer).0; number = g.told.number }

module _ {s a b e : List ℕ} {d n m : ℕ} where
  -- and no other was
  pub taken_to_6 : {c : ℕ} → FirstExported ReadTold s a b c n → Exported ReadTold s a e d m → (c ≡ coarse d) × (m ≡ n) × (e ≡ b)
  taken_to_6 h g = let w = beside (λ q r. one_read) h g in (h.code ∙ (codes h.answer).0 ∙ ap coarse (sym w.0), w.1, w.2)

  -- "Each answer of 6 turns into just one of these, at the same place": into one, since any two results are equal (`one-read-exported`)
  pub each_6 : FirstExported ReadTold s a b 6 n → Exported ReadTold s a e d m → (61 ≤ d) × (d ≤ 68) × (m ≡ n) × (e ≡ b)
  each_6 h g = let w = taken_to_6 h g in let z = split d (ne_eqb d 6 (never_6 g)) (sym w.0) in (z.0, z.1, w.1, w.2)

  -- "and no other answer changes"
  pub no_other : {c : ℕ} → FirstExported ReadTold s a b c n → Exported ReadTold s a e d m → (c ≡ 6 → ⊥) → (d ≡ c) × (m ≡ n) × (e ≡ b)
  no_other h g f = let w = taken_to_6 h g in (sym (w.0 ∙ unsplit d (λ q. f (w.0 ∙ q))), w.1, w.2)

  -- nor any answer of a book, of a list
  pub write_same : {c : ℕ} → Bytes s → FirstExported WriteTold s a b c n → Exported WriteTold s a e d m → (d ≡ c) × (m ≡ n) × (e ≡ b)
  write_same bytes = unchanged (λ q r. one_write) (λ f p t. of_a_book f (write_refusal bytes t).1)

  pub list_same : {c : ℕ} → Bytes s → FirstExported ListTold s a b c n → Exported ListTold s a e d m → (d ≡ c) × (m ≡ n) × (e ≡ b)
  list_same bytes = unchanged (λ q r. one_list) (λ f p t. of_a_book f (list_refusal bytes t).1)

-- or of a field
pub field_same : {b : List ℕ} {i k c d n m l x y : ℕ} → Bytes b → FirstFieldExported b i k c n l x → FieldExported b i k d m l y → (d ≡ c) × (m ≡ n) × (y ≡ x)
field_same {b} {i} {k} {l = l} bytes h g =
    let w = one_place h.served g.served in
    let t = g.told in
    (t.code ∙ ap field_code (sym w) ∙ sym (h.code ∙ go h.answer h.served), t.offset ∙ ap offset_in (sym w) ∙ sym h.offset, t.size ∙ ap (λ (z : Sought). size_in z l) (sym w) ∙ sym h.size)
  where
    go : (r : Sought) → PlaceTold b i k r → first_field_code r ≡ field_code r
    go (Ok x) t = refl
    go (Err r) t = by (place_refusal bytes t)
      where
        by : NoBook b r.0 r.1 ⊎ NoField b i k r.0 r.1 → first_number_of r.0 ≡ number_of r.0
        by (inl z) = stays r.0 15 z.number refl
        by (inr z) = stays r.0 16 z.number refl
