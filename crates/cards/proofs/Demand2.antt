-- Demand 2, sentence by sentence, as theorems about the definitions.
use Rattle.std.specs.Prelude.{ℕ, ◌*◌, ◌≤◌, ◌≡◌, refl, ◌↔◌, List, length}
use Rattle.std.proofs.Common.{sym, arith}
use Rattle.elements.specs.declared.fault.Fault.{Fault}
use Rattle.elements.specs.Faults.{number_of}
use Rattle.elements.specs.Lists.{Bytes}
use Rattle.rules.specs.Reading.{Rec}
use Rattle.rules.specs.Files.{accepted, refused, read_dump}
use Rattle.rules.specs.Book.{encode, records}
use Rattle.rules.specs.Render.{render}
use Rattle.rules.specs.Write.{Written, written, no_book, write_dump}
use Rattle.rules.specs.Meaning.{Has, AcceptedBook}
use Rattle.cards.specs.Card.{Card, dump_of, book_of, Meets}
use Rattle.cards.proofs.CardRender as rendered
use Rattle.cards.proofs.WriteLaws as laws
use Rattle.cards.proofs.DumpLaws as dumps

-- "A dump is accepted exactly when it meets the DER rules, the 7816-15 layouts and the limits of document 01, and its book is the one they define": it is the dump of a card that meets them, and its book is the card's
pub accepted_cards : (d : List ℕ) (rs : List Rec) → Bytes d → (read_dump d ≡ accepted rs) ↔ ((c : Card) × Meets c × (dump_of c ≡ d) × (book_of c ≡ rs))
accepted_cards d rs b = dumps.accepted_cards d rs b

-- a book is accepted if and only if it is the book of such a card
pub accepted_books : (b : List ℕ) → AcceptedBook b ↔ ((c : Card) × Meets c × Bytes (dump_of c) × (encode (book_of c) ≡ b))
accepted_books b = dumps.accepted_books b

-- a dump has one card
pub one_card : (c e : Card) → Meets c → Meets e → Bytes (dump_of c) → dump_of c ≡ dump_of e → c ≡ e
one_card c e m n b q =
    let x = (accepted_cards (dump_of c) (book_of c) b).1 (c, m, refl, refl) in
    let y = (accepted_cards (dump_of c) (book_of e) b).1 (e, n, sym q, refl) in
    let z : book_of c ≡ book_of e = cc in
    rendered.one_card c e m n z

-- a dump has one book
pub one_book : {d b c : List ℕ} → Has d b → Has d c → b ≡ c
one_book h g = let e : h.records ≡ g.records = cc (h.reads, g.reads) in cc (h.book, g.book, e)

-- "Read and written, it comes back byte for byte"
pub read_then_written : {d b : List ℕ} → Has d b → write_dump b ≡ written d
read_then_written {d} h = rw (← h.book) (laws.read_write d h.records h.bytes h.reads)

-- "so does an accepted book, written and read"
pub written_then_read : {d b : List ℕ} → Bytes b → write_dump b ≡ written d → Has d b
written_then_read {d} {b} c e = let w = laws.write_read b d e in record { bytes = laws.written_bytes b d c e; records = w.0; reads = w.1; book = w.2 }

-- "A book is refused exactly when no accepted dump has it"
pub refused_if_none : {b : List ℕ} → Bytes b → (AcceptedBook b → ⊥) → write_dump b ≡ no_book
refused_if_none {b} c none = go (write_dump b) refl
  where
    go : (w : Written) → write_dump b ≡ w → w ≡ no_book
    go (written d) e = absurd (none (record { dump = d; has = written_then_read c e }))
    go no_book e = refl

pub none_if_refused : {b : List ℕ} → write_dump b ≡ no_book → AcceptedBook b → ⊥
none_if_refused e a =
    let w = read_then_written a.has in
    let z : ◌≡◌ {A = ℕ} 0 1 = cc in omega arith

-- so a book is accepted if and only if reading its candidate gives it
pub candidate : {b : List ℕ} → AcceptedBook b → Has (render (records b)) b
candidate {b} a = rw (laws.written_is b a.dump (read_then_written a.has)) a.has

-- no two accepted dumps have one book
pub one_dump : {d e b : List ℕ} → Has d b → Has e b → d ≡ e
one_dump h g = let x = read_then_written h in let y = read_then_written g in cc

-- the book of a dump of n bytes has at most 4n, so at most 131,072
pub book_bound : {d b : List ℕ} → Has d b → length b ≤ 4 * length d
book_bound {d} h = rw (← h.book) (laws.book_bound d h.records h.bytes h.reads)

pub book_most : {d b : List ℕ} → Has d b → length b ≤ 131072
book_most {d} h = omega (arith, book_bound h, (laws.laid_out d h.records h.bytes h.reads).1)

-- "in every refusal but 14 it lies from 0 to the input's length"
pub place_in_dump : (d : List ℕ) {f : Fault} {p : ℕ} → Bytes d → read_dump d ≡ refused f p → p ≤ length d
place_in_dump d {f} {p} c e = (dumps.told d f p c e).0

-- 14, 15 and 16 are no faults of a dump
pub fault_of_a_dump : (d : List ℕ) {f : Fault} {p : ℕ} → Bytes d → read_dump d ≡ refused f p → (number_of f ≡ 14 → ⊥) × (number_of f ≡ 15 → ⊥) × (number_of f ≡ 16 → ⊥)
fault_of_a_dump d {f} {p} c e = let t = (dumps.told d f p c e).1 in ((λ z. rw z at t), (λ z. rw z at t), (λ z. rw z at t))
