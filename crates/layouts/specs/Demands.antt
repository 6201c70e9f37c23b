-- Demands 1 and 2 of the services: what a refusal tells and leaves; what read and write promise together, on every input and with slices long enough.
use Rattle.std.specs.Prelude.{ℕ, ◌<◌, ◌≤◌, ◌≡◌, ◌⊎◌, List, ◌++◌, take, drop, Ok}
use Rattle.std.proofs.Math.Path.{refl, ap}
use Rattle.std.proofs.Common.{sym, ◌∙◌, arith}
use Rattle.std.proofs.Math.Logic.{inl, inr}
use Rattle.std.proofs.Math.ListN.{length}
use Rattle.elements.specs.declared.fault.Fault.{Fault}
use Rattle.elements.specs.declared.fault.Fault.TheVariants.{NoRoom, NoDump}
use Rattle.elements.specs.Faults.{number_of}
use Rattle.elements.specs.Lists.{Bytes}
use Rattle.rules.specs.Files.{Answer, accepted, refused, read_dump}
use Rattle.rules.specs.Book.{encode}
use Rattle.rules.specs.Write.{Written, written, no_book, write_dump}
use Rattle.rules.specs.Meaning.{Has, AcceptedBook}
use Rattle.cards.proofs.Demand2.{place_in_dump, fault_of_a_dump, read_then_written, written_then_read, refused_if_none, none_if_refused}
use Rattle.layouts.specs.GivingLaws.{unhanded, handed_first, fitting, too_long}
use Rattle.layouts.specs.Service.{Served, served, giving, by_answer, reading, ReadTold, by_written, writing, WriteTold}
use Rattle.elements.specs.Answer.{Outcome}
use Rattle.elements.specs.Answer as code
use Rattle.elements.specs.AnswerLaws.{refused_same}

-- "14 room: output too short; place is the size needed": what was asked for is there, and longer than the slice that was lent
pub record Short (Asked : List ℕ → Type 0) (a : List ℕ) (f : Fault) (p : ℕ) : Type 0 where
  pub number : number_of f ≡ 14
  pub asked : List ℕ
  pub is : Asked asked
  pub size : p ≡ length asked
  pub longer : length a < length asked

-- "15 book: no accepted dump has this book; place 0"
pub record NoBook (b : List ℕ) (f : Fault) (p : ℕ) : Type 0 where
  pub number : number_of f ≡ 15
  pub place : p ≡ 0
  pub lacking : AcceptedBook b → ⊥

-- too short a slice is the one refusal of handing over, and leaves it
pub short : {Asked : List ℕ → Type 0} (x a b : List ℕ) {f : Fault} {p : ℕ} → Asked x → served (code.refused f p) b ≡ giving x a → (b ≡ a) × Short Asked a f p
short x a b i e = let u = unhanded x a b e in (u.0, record { number = ap number_of u.1; asked = x; is = i; size = u.2; longer = u.3 })

pub no_book_lem : (b a c : List ℕ) {f : Fault} {p : ℕ} → write_dump b ≡ no_book → served (code.refused f p) c ≡ served (code.refused NoDump 0) a → (c ≡ a) × NoBook b f p
no_book_lem b a c {f} {p} e q =
    let y = refused_same {A = ℕ} (ap (λ (y : Served). y.answer) q) in
    (ap (λ (y : Served). y.lent) q, record { number = ap number_of y.0; place = y.1; lacking = none_if_refused e })

module _ {a b : List ℕ} {f : Fault} {p : ℕ} where
  -- "A refusal gives its number and place, and the lent output is what it was": the definition's, its place "from 0 to the input's length" and its number another than 14; or 14
  pub read_refusal : {d : List ℕ} → Bytes d → ReadTold d a b (code.refused f p) → (b ≡ a) × (((read_dump d ≡ refused f p) × (p ≤ length d) × (number_of f ≡ 14 → ⊥)) ⊎ Short (λ x. Has d x) a f p)
  unfolding reading
  read_refusal {d} bytes h = go (read_dump d) refl h.is
    where
      go : (w : Answer) → read_dump d ≡ w → served (code.refused f p) b ≡ by_answer w a → (b ≡ a) × (((w ≡ refused f p) × (p ≤ length d) × (number_of f ≡ 14 → ⊥)) ⊎ Short (λ x. Has d x) a f p)
      go (accepted rs) e q = let u = short {Asked = λ x. Has d x} (encode rs) a b (record { bytes = bytes; records = rs; reads = e; book = refl }) q in (u.0, inr u.1)
      go (refused g r) e q =
          let y = refused_same {A = ℕ} (ap (λ (y : Served). y.answer) q) in
          let z : r ≡ p = sym y.1 in
          let v : g ≡ f = sym y.0 in
          (ap (λ (y : Served). y.lent) q, inl (rw (v, z) refl, rw z at (place_in_dump d bytes e), rw (← v) (fault_of_a_dump d bytes e).0))

  -- and of a book: 15, or 14
  pub write_refusal : {x : List ℕ} → Bytes x → WriteTold x a b (code.refused f p) → (b ≡ a) × (NoBook x f p ⊎ Short (λ d. Has d x) a f p)
  unfolding writing
  write_refusal {x} bytes h = go (write_dump x) refl h.is
    where
      go : (w : Written) → write_dump x ≡ w → served (code.refused f p) b ≡ by_written w a → (b ≡ a) × (NoBook x f p ⊎ Short (λ d. Has d x) a f p)
      go (written d) e q = let u = short {Asked = λ d. Has d x} d a b (written_then_read bytes e) q in (u.0, inr u.1)
      go no_book e q = let u = no_book_lem x a b e q in (u.0, inl u.1)

-- an accepted dump, and room for its book: read accepts it with that book; no room: 14 with the size
pub has_read : {d b a c : List ℕ} {r : Outcome} → Has d b → ReadTold d a c r → (length b ≤ length a → (r ≡ Ok (length b)) × (c ≡ b ++ drop (length b) a)) × (length a < length b → (r ≡ code.refused NoRoom (length b)) × (c ≡ a))
unfolding reading
has_read {d} {b} {a} {c} {r} h t =
    let q : served r c ≡ giving b a = t.is ∙ rw (h.reads, h.book) refl in
    (fitting b a c r q, too_long b a c r q)

-- and write its book with that dump
pub has_write : {d b a c : List ℕ} {r : Outcome} → Has d b → WriteTold b a c r → (length d ≤ length a → (r ≡ Ok (length d)) × (c ≡ d ++ drop (length d) a)) × (length a < length d → (r ≡ code.refused NoRoom (length d)) × (c ≡ a))
unfolding writing
has_write {d} {b} {a} {c} {r} h t =
    let q : served r c ≡ giving d a = t.is ∙ rw (read_then_written h) refl in
    (fitting d a c r q, too_long d a c r q)

-- a dump that read accepts has the book that it hands over
pub read_has : {d a b : List ℕ} {n : ℕ} → Bytes d → ReadTold d a b (Ok n) → Has d (take n b)
unfolding reading
read_has {d} {a} {b} {n} bytes h = go (read_dump d) refl h.is
  where
    go : (w : Answer) → read_dump d ≡ w → served (Ok n) b ≡ by_answer w a → Has d (take n b)
    go (accepted rs) e q = record { bytes = bytes; records = rs; reads = e; book = sym (handed_first (encode rs) a b q) }
    go (refused f p) e q =
        let y : Ok n ≡ code.refused f p = ap (λ (y : Served). y.answer) q in
        absurd (let z : ◌≡◌ {A = ℕ} 0 1 = cc in omega arith)

-- a dump that write hands over is the one that has the book
pub write_has : {b a c : List ℕ} {n : ℕ} → Bytes b → WriteTold b a c (Ok n) → Has (take n c) b
unfolding writing
write_has {b} {a} {c} {n} bytes h = go (write_dump b) refl h.is
  where
    go : (w : Written) → write_dump b ≡ w → served (Ok n) c ≡ by_written w a → Has (take n c) b
    go (written d) e q = rw (handed_first d a c q) (written_then_read bytes e)
    go no_book e q =
        let y : Ok n ≡ code.refused NoDump 0 = ap (λ (y : Served). y.answer) q in
        absurd (let z : ◌≡◌ {A = ℕ} 0 1 = cc in omega arith)

-- "Read and written, it comes back byte for byte"
pub read_then_write : {d a b e c : List ℕ} {n : ℕ} {r : Outcome} → Bytes d → ReadTold d a b (Ok n) → WriteTold (take n b) e c r → length d ≤ length e → (r ≡ Ok (length d)) × (c ≡ d ++ drop (length d) e)
read_then_write bytes h g l = (has_write (read_has bytes h) g).0 l

-- "so does an accepted book, written and read"
pub write_then_read : {b a c e f : List ℕ} {n : ℕ} {r : Outcome} → Bytes b → WriteTold b a c (Ok n) → ReadTold (take n c) e f r → length b ≤ length e → (r ≡ Ok (length b)) × (f ≡ b ++ drop (length b) e)
write_then_read bytes h g l = (has_read (write_has bytes h) g).0 l

-- "A book is refused exactly when no accepted dump has it": 15 at 0, and the slice is what it was
pub refused_when_none : {b a c : List ℕ} {r : Outcome} → Bytes b → (AcceptedBook b → ⊥) → WriteTold b a c r → (r ≡ code.refused NoDump 0) × (c ≡ a)
unfolding writing
refused_when_none {b} {a} {c} {r} bytes f h =
    let q : served r c ≡ served (code.refused NoDump 0) a = h.is ∙ rw (refused_if_none bytes f) refl in
    (ap (λ (y : Served). y.answer) q, ap (λ (y : Served). y.lent) q)

pub none_when_refused : {b a c : List ℕ} → WriteTold b a c (code.refused NoDump 0) → AcceptedBook b → ⊥
unfolding writing
none_when_refused {b} {a} {c} h f = go (write_dump b) refl h.is
  where
    go : (w : Written) → write_dump b ≡ w → served (code.refused NoDump 0) c ≡ by_written w a → ⊥
    go (written d) e q = let y : NoDump ≡ NoRoom = (unhanded d a c q).1 in let z : ◌≡◌ {A = ℕ} 0 1 = cc in omega arith
    go no_book e q = none_if_refused e f
