-- The P cases of document 01, with the numbers that document 02 gives: one table, one statement.
use Rattle.std.specs.Prelude.{ℕ, ◌≡◌, refl, List, [], ◌∷◌, map, Bool, true, false, length, Ok, Err}
use Rattle.elements.specs.declared.answer.Form.{Form}
use Rattle.elements.specs.declared.answer.Form.TheVariants.{Integer, Bits, Time}
use Rattle.elements.specs.Answer.{Read}
use Rattle.elements.specs.Faults.{number_of}
use Rattle.elements.specs.Header.{header, high_tag, further, length_at, long1, long2, long2_of, fitted}
use Rattle.elements.specs.Integer.{integer, whole, padded, magnitude, bare, big}
use Rattle.elements.specs.Bits.{bits, bits_of, weigh, reversed}
use Rattle.elements.specs.Time.{time, stated, digits, two, dated, clocked, days_of, leap}
use Rattle.elements.specs.Values.{value, element}
use Rattle.rules.specs.Book.{records, records_of}
use Rattle.links.specs.Links.{held_from, objects_from, states, answering, id_kind, first_of, bears, answers, record_rows, object_rows, links_from, links, listed}
use Rattle.rules.specs.Computing.{Seen, reads_condition, book, dump, refusal, answered, reading}
use Rattle.rules.specs.Examples.{shared}

-- an answer as document 01 gives it
pub data Answer : Type 0 where
  -- a value and the next place
  is : ℕ → ℕ → Answer
  minus : ℕ → ℕ → Answer
  -- a refusal's number and place
  refused : ℕ → ℕ → Answer
  -- a dump that is accepted, with the bytes of its book
  accepted : ℕ → Answer
  -- the rows of a book's links, four numbers a row
  rows : List ℕ → Answer

abbrev signed : Bool → ℕ → ℕ → Answer
signed false m e = is m e
signed true m e = minus m e

abbrev answer : Read → Answer
answer (Ok x) = signed x.0.0 x.0.1 x.1
answer (Err r) = refused (number_of r.0) r.1

abbrev shown : Seen → Answer
shown (book b) = accepted (length b)
shown (dump d) = accepted (length d)
shown (refusal n p) = refused n p

-- the links of a dump's book
unfoldable linked : Seen → Answer
unfolding records records_of held_from objects_from states answering id_kind first_of bears answers record_rows object_rows links_from links listed
linked (book b) = rows (listed (links (records b)))
linked (dump d) = accepted (length d)
linked (refusal n p) = refused n p

-- reading one element of a tag and a form at the start of the bytes
unfoldable element_read : Form → ℕ → List ℕ → Answer
unfolding element value header high_tag further length_at long1 long2 long2_of fitted integer whole padded magnitude bare big bits bits_of weigh reversed time stated digits two dated clocked days_of leap
element_read f tag s = answer (element f tag s 0 (length s))

pub data Name : Type 0 where
  -- the number behind the P
  P : ℕ → Name
  -- the shared dump
  Shared : Name

pub record Case : Type 0 where
  pub name : Name
  pub got : Answer
  pub want : Answer

abbrev case : Name → Answer → Answer → Case
case n g w = record { name = n; got = g; want = w }

pub table : List Case
unfolding element_read answered linked
table =
    case (P 1) (element_read Bits 0x03 (0x03 ∷ 0x02 ∷ 0x07 ∷ 0x80 ∷ [])) (is 1 4) ∷
    case (P 2) (element_read Bits 0x03 (0x03 ∷ 0x03 ∷ 0x06 ∷ 0x20 ∷ 0x40 ∷ [])) (is 516 5) ∷
    case (P 3) (element_read Bits 0x03 (0x03 ∷ 0x02 ∷ 0x03 ∷ 0x98 ∷ [])) (is 25 4) ∷
    case (P 4) (element_read Bits 0x03 (0x03 ∷ 0x02 ∷ 0x05 ∷ 0x80 ∷ [])) (refused 64 0) ∷
    case (P 5) (element_read Integer 0x02 (0x02 ∷ 0x02 ∷ 0x00 ∷ 0xff ∷ [])) (is 255 4) ∷
    case (P 6) (element_read Integer 0x02 (0x02 ∷ 0x01 ∷ 0x00 ∷ 0xff ∷ [])) (is 0 3) ∷
    case (P 7) (element_read Integer 0x02 (0x02 ∷ 0x02 ∷ 0x00 ∷ 0x7f ∷ [])) (refused 62 0) ∷
    case (P 8) (shown (answered (reads_condition (0xa1 ∷ 0x02 ∷ 0x05 ∷ 0x00 ∷ [])))) (refused 5 4) ∷
    case (P 9) (shown (reading [])) (refused 2 0) ∷
    -- 20000229000000Z holds, 19000229000000Z does not
    case (P 10) (element_read Time 0x18 (0x18 ∷ 0x0f ∷ 50 ∷ 48 ∷ 48 ∷ 48 ∷ 48 ∷ 50 ∷ 50 ∷ 57 ∷ 48 ∷ 48 ∷ 48 ∷ 48 ∷ 48 ∷ 48 ∷ 90 ∷ [])) (is 0 17) ∷
    case (P 10) (element_read Time 0x18 (0x18 ∷ 0x0f ∷ 49 ∷ 57 ∷ 48 ∷ 48 ∷ 48 ∷ 50 ∷ 50 ∷ 57 ∷ 48 ∷ 48 ∷ 48 ∷ 48 ∷ 48 ∷ 48 ∷ 90 ∷ [])) (refused 66 0) ∷
    case Shared (shown (reading shared)) (accepted 134) ∷
    -- "auth 0 46 1", "cert 0 51 -", "auth 1 92 -"
    case Shared (linked (reading shared)) (rows (1 ∷ 0 ∷ 46 ∷ 1 ∷ 3 ∷ 0 ∷ 51 ∷ 4294967295 ∷ 1 ∷ 1 ∷ 92 ∷ 4294967295 ∷ [])) ∷
    []

-- every case is answered so
pub all_hold : map (λ c. c.got) table ≡ map (λ c. c.want) table
unfolding table element_read answered linked
all_hold = refl
