-- What the services list, field_place and field answer, and what list leaves in the lent numbers.
use Rattle.std.specs.Prelude.{ℕ, ◌+◌, ◌≤◌, ◌≡◌, List, [], length, Option, Result, Ok}
use Rattle.std.proofs.Common.{sym, ap, ◌∙◌, arith}
use Rattle.elements.specs.declared.fault.Fault.TheVariants.{NoDump, NotThere}
use Rattle.elements.specs.Answer.{Outcome}
use Rattle.elements.specs.Answer as code
use Rattle.rules.specs.Book.{records}
use Rattle.rules.specs.Write.{Written, written, no_book, write_dump}
use Rattle.layouts.specs.Service.{Served, served, giving, giving_fits}
use Rattle.links.specs.declared.fields.Place.{Place}
use Rattle.elements.specs.declared.answer.Refusal.{Refusal}
use Rattle.elements.specs.AnswerLaws.{answer_or}
use Rattle.links.specs.Finding.{FoundAt}
use Rattle.links.specs.Links.{Found, none, found, links, listed, field_of}

-- "refuse 15, then 16, then 14": a book is one exactly if it can be written
abbrev pub if_book : {A : Type 0} → Written → A → A → A
if_book (written d) x y = x
if_book no_book x y = y

-- the list of a book's links, into numbers that were a
unfoldable pub listing : List ℕ → List ℕ → Served
listing b a = if_book (write_dump b) (giving (listed (links (records b))) a) (served (code.refused NoDump 0) a)

-- the service list answered r, and the lent numbers, which were a, are c
pub record ListTold (b a c : List ℕ) (r : Outcome) : Type 0 where
  pub is : served r c ≡ listing b a

-- where a field's payload is, or a refusal
abbrev pub Sought : Type 0
Sought = Result Place Refusal

abbrev pub at_place : ℕ → ℕ → Sought
at_place p n = Ok (record { at = p; size = n })

-- "the payload's book offset and length, or the refusal"
abbrev pub place_of : Found → Sought
place_of none = code.refused NotThere 0
place_of (found h) = at_place (h.at + 4) (length h.pay)

pub same_place : {p n q m : ℕ} → at_place p n ≡ at_place q m → (p ≡ q) × (n ≡ m)
same_place {p} {n} e =
    let d : Place = record { at = p; size = n } in
    (ap (λ r. (answer_or d r).at) e, ap (λ r. (answer_or d r).size) e)

-- what a record that was found at p, or not, says of its payload
pub record PlacedAt (b : List ℕ) (p : Option ℕ) (r : Sought) : Type 0 where
  pub is : (f : Found) → FoundAt b f p → r ≡ place_of f

unfoldable pub placing : List ℕ → ℕ → ℕ → Sought
placing b i k = if_book (write_dump b) (place_of (field_of i k (records b))) (code.refused NoDump 0)

-- the service field_place answered r
pub record PlaceTold (b : List ℕ) (i k : ℕ) (r : Sought) : Type 0 where
  pub is : r ≡ placing b i k

-- "It returns the first such record's payload"; "on a refusal the part is empty"
abbrev pub pay_of : Found → List ℕ
pay_of none = []
pay_of (found h) = h.pay

unfoldable pub handing : List ℕ → ℕ → ℕ → List ℕ
handing b i k = if_book (write_dump b) (pay_of (field_of i k (records b))) []

-- the service field handed back x
pub record FieldTold (b : List ℕ) (i k : ℕ) (x : List ℕ) : Type 0 where
  pub is : x ≡ handing b i k

-- any two results that a contract allows are equal
pub one_list : {b a c e : List ℕ} {q r : Outcome} → ListTold b a c q → ListTold b a e r → (q ≡ r) × (c ≡ e)
one_list h g = let e = h.is ∙ sym g.is in (ap (λ (x : Served). x.answer) e, ap (λ (x : Served). x.lent) e)

pub one_place : {b : List ℕ} {i k : ℕ} {q r : Sought} → PlaceTold b i k q → PlaceTold b i k r → q ≡ r
one_place h g = h.is ∙ sym g.is

pub one_field : {b : List ℕ} {i k : ℕ} {x y : List ℕ} → FieldTold b i k x → FieldTold b i k y → x ≡ y
one_field h g = h.is ∙ sym g.is

-- what was accepted has room
pub list_fits : {b a c : List ℕ} {r : Outcome} {n : ℕ} → ListTold b a c r → r ≡ Ok n → n ≤ length c
unfolding listing
list_fits {b} {a} {c} {r} {n} h e = go (write_dump b) (rw e at h.is)
  where
    go : (w : Written) → served (Ok n) c ≡ if_book w (giving (listed (links (records b))) a) (served (code.refused NoDump 0) a) → n ≤ length c
    go (written d) q = giving_fits (listed (links (records b))) a q
    go no_book q = let w : Ok n ≡ code.refused NoDump 0 = ap (λ (x : Served). x.answer) q in absurd (let z : ◌≡◌ {A = ℕ} 0 1 = cc in omega arith)
