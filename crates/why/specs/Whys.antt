-- What the service why answers, and what its parts tell it.
use Rattle.std.specs.Prelude.{ℕ, ◌+◌, ◌<◌, ◌≤◌, ◌≡◌, Bool, true, false, List, length, Option, Result, Ok}
use Rattle.std.proofs.Common.{sym, ◌∙◌}
use Rattle.std.proofs.Math.Seq.{slice}
use Rattle.elements.specs.declared.fault.Fault.TheVariants.{NoDump, NotThere}
use Rattle.rules.specs.Book.{records, Ends}
use Rattle.rules.specs.Write.{write_dump}
use Rattle.links.specs.Links.{answering, Found, missing}
use Rattle.links.specs.declared.index.Entry.{Entry}
use Rattle.links.specs.declared.index.Index.{Index}
use Rattle.links.specs.Finding.{objects_at, FoundAt, entry_at}
use Rattle.links.specs.Serving.{if_book}
use Rattle.elements.specs.declared.answer.Refusal.{Refusal}
use Rattle.elements.specs.Answer.{refused}
use Rattle.why.specs.declared.answer.Why.{Why}
use Rattle.why.specs.declared.answer.Why.TheVariants as answer
use Rattle.why.specs.Why.{Reason, met, no_object, elsewhere, nowhere, met_in, unmet, reason_for, Told, because, no_such, why}

-- a record is shown by its book offset and its kind
abbrev pub reason_told : Reason → Why
reason_told (met h) = answer.Met h.at h.kind
reason_told no_object = answer.NoObject
reason_told (elsewhere h) = answer.Elsewhere h.at h.kind
reason_told nowhere = answer.Nowhere

-- or a refusal
abbrev pub Reasoned : Type 0
Reasoned = Result Why Refusal

abbrev pub why_told : Told → Reasoned
why_told (because q) = Ok (reason_told q)
why_told no_such = refused NotThere 0

-- "Refusals 15, then 16 where there is no such row"
unfoldable pub whying : List ℕ → ℕ → Reasoned
whying b n = if_book (write_dump b) (why_told (why (records b) n)) (refused NoDump 0)

-- the service why answered r
pub record WhyTold (b : List ℕ) (n : ℕ) (r : Reasoned) : Type 0 where
  pub is : r ≡ whying b n

-- any two results are equal
pub one_why : {b : List ℕ} {n : ℕ} {q r : Reasoned} → WhyTold b n q → WhyTold b n r → q ≡ r
one_why h g = h.is ∙ sym g.is

-- what a record that was found at p, or not, says: it answers, or the value stands in it
pub record MetAt (b : List ℕ) (p : Option ℕ) (r : Why) : Type 0 where
  pub is : (f : Found) → FoundAt b f p → r ≡ reason_told (met_in f)

pub record UnmetAt (b : List ℕ) (p : Option ℕ) (r : Why) : Type 0 where
  pub is : (f : Found) → FoundAt b f p → r ≡ reason_told (unmet f)

-- whether one of these entries is of the class that answers the link
pub record PeopledTold (link : ℕ) (entries : List Entry) (r : Bool) : Type 0 where
  pub some : r ≡ true → (j : ℕ) × (j < length entries) × (answering link (entry_at entries j).tag ≡ true)
  pub none : r ≡ false → (j : ℕ) → j < length entries → answering link (entry_at entries j).tag ≡ false

-- of a missing link that the record at p states
pub record Missed (b : List ℕ) (link p : ℕ) (r : Why) : Type 0 where
  pub end : ℕ
  pub ends : Ends b p end
  pub is : r ≡ reason_told (reason_for (objects_at b 0) link (slice (p + 4) end b) missing)

-- of a row by its numbers
pub record Explained (b : List ℕ) (link at answer : ℕ) (x : Index) (r : Why) : Type 0 where
  pub met : answer < x.n → MetAt b (entry_at x.entries answer).id r
  pub unmet : x.n ≤ answer → Missed b link at r
