-- What a refusal of list and of field_place tells, and what list leaves. (On a refusal field hands back nothing: `no_part`, Agreement.)
use Rattle.std.specs.Prelude.{ℕ, ◌⊎◌, List}
use Rattle.std.proofs.Math.Path.{◌≡◌, refl, ap}
use Rattle.std.proofs.Math.Logic.{inl, inr}
use Rattle.std.proofs.Common.{arith}
use Rattle.elements.specs.declared.fault.Fault.{Fault}
use Rattle.elements.specs.declared.fault.Fault.TheVariants.{NoDump}
use Rattle.elements.specs.Faults.{number_of}
use Rattle.elements.specs.Lists.{Bytes}
use Rattle.elements.specs.Answer as code
use Rattle.elements.specs.AnswerLaws.{refused_same}
use Rattle.rules.specs.Book.{records}
use Rattle.rules.specs.Write.{Written, written, no_book, write_dump}
use Rattle.rules.specs.Meaning.{AcceptedBook}
use Rattle.cards.proofs.Demand2.{written_then_read, none_if_refused}
use Rattle.layouts.specs.Service.{served, giving}
use Rattle.layouts.specs.Demands.{Short, NoBook, short, no_book_lem}
use Rattle.links.specs.Links.{Found, none, found, links, listed, field_of}
use Rattle.links.specs.Serving.{if_book, listing, ListTold, place_of, placing, PlaceTold}

-- "16 none: object or field not there; place 0"
pub record NoField (b : List ℕ) (i k : ℕ) (f : Fault) (p : ℕ) : Type 0 where
  pub number : number_of f ≡ 16
  pub place : p ≡ 0
  pub accepted : AcceptedBook b
  pub lacking : field_of i k (records b) ≡ none

-- the numbers of a book's links were asked for
pub record Numbers (b x : List ℕ) : Type 0 where
  pub accepted : AcceptedBook b
  pub is : x ≡ listed (links (records b))

module _ {b : List ℕ} (bytes : Bytes b) {f : Fault} {p : ℕ} where
  -- list refuses 15, then 14, and the lent numbers are what they were
  pub list_refusal : {a c : List ℕ} → ListTold b a c (code.refused f p) → (c ≡ a) × (NoBook b f p ⊎ Short (Numbers b) a f p)
  unfolding listing
  list_refusal {a} {c} h = go (write_dump b) refl h.is
    where
      go : (w : Written) → write_dump b ≡ w → served (code.refused f p) c ≡ if_book w (giving (listed (links (records b))) a) (served (code.refused NoDump 0) a) → (c ≡ a) × (NoBook b f p ⊎ Short (Numbers b) a f p)
      go (written d) e q = let u = short {Asked = Numbers b} (listed (links (records b))) a c (record { accepted = record { dump = d; has = written_then_read bytes e }; is = refl }) q in (u.0, inr u.1)
      go no_book e q = let u = no_book_lem b a c e q in (u.0, inl u.1)

  -- field_place refuses 15, then 16
  pub place_refusal : {i k : ℕ} → PlaceTold b i k (code.refused f p) → NoBook b f p ⊎ NoField b i k f p
  unfolding placing
  place_refusal {i} {k} h = go (write_dump b) refl (field_of i k (records b)) refl h.is
    where
      go : (w : Written) → write_dump b ≡ w → (x : Found) → field_of i k (records b) ≡ x → code.refused f p ≡ if_book w (place_of x) (code.refused NoDump 0) → NoBook b f p ⊎ NoField b i k f p
      go (written d) e none z q =
          let y = refused_same q in
          inr (record { number = ap number_of y.0; place = y.1; accepted = record { dump = d; has = written_then_read bytes e }; lacking = z })
      go (written d) e (found h) z q = absurd (let z : ◌≡◌ {A = ℕ} 0 1 = cc in omega arith)
      go no_book e x z q =
          let y = refused_same q in
          inl (record { number = ap number_of y.0; place = y.1; lacking = none_if_refused e })
