-- What demand 2 asks, from what a card is: both round trips, refused exactly when no dump has the book, no two dumps with one book.
use Rattle.std.specs.Prelude.{ℕ, zero, suc, ◌+◌, ◌-◌, ◌*◌, ◌≤◌, List, [], ◌∷◌, Bool, true, false, ◌≡◌, refl, length}
use Rattle.std.proofs.Common.{sym, ap, ◌∙◌, arith, length-append, take_at, drop_at, ltb→lt}
use Rattle.elements.specs.Choice.{choose}
use Rattle.elements.specs.Lists.{Bytes}
use Rattle.elements.specs.Record.{record_bytes}
use Rattle.rules.specs.Reading.{Rec}
use Rattle.rules.specs.Files.{Answer, accepted, refused, equal, read_dump}
use Rattle.rules.specs.Book.{encode, records_of, records}
use Rattle.rules.specs.Render.{render}
use Rattle.rules.specs.Write.{written, no_book, confirmed, write_dump}
use Rattle.rules.specs.LookLaws.{Laid, size}
use Rattle.rules.specs.ValueLaws.{two_bytes}
use Rattle.rules.specs.EqualLaws.{equal_is, equal_self}
use Rattle.rules.specs.BookLaws.{book_size}
use Rattle.rules.proofs.ByteLaws.{candidate_bytes}
use Rattle.cards.proofs.CardRender.{card_renders, card_bound, card_laid}
use Rattle.cards.proofs.DumpLaws.{accepted_card}

-- rendering the records of an accepted dump gives the dump, since they are a card's
pub round : (d : List ℕ) (rs : List Rec) → Bytes d → read_dump d ≡ accepted rs → render rs ≡ d
round d rs b e = let c = accepted_card d rs b e in ap render (sym c.book) ∙ card_renders c.it c.meets ∙ c.dump

-- its book has at most four bytes for each of its own, and its records fit a book
pub bound : (d : List ℕ) (rs : List Rec) → Bytes d → read_dump d ≡ accepted rs → size rs ≤ 4 * length d
bound d rs b e = let c = accepted_card d rs b e in rw (c.book, c.dump) at (card_bound c.it c.meets)

pub laid_out : (d : List ℕ) (rs : List Rec) → Bytes d → read_dump d ≡ accepted rs → Laid (length d) rs × (length d ≤ 32768)
laid_out d rs b e = let c = accepted_card d rs b e in (rw (c.book, c.dump) at (card_laid c.it c.meets), rw c.dump at c.meets.dump_size)

records_encode : (n : ℕ) (rs : List Rec) → n ≤ 32768 → Laid n rs → (g : ℕ) → length rs ≤ g → records_of g (encode rs) ≡ rs
unfolding records_of encode record_bytes
records_encode n [] l h zero k = refl
records_encode n [] l h (suc g) k = refl
records_encode n (r ∷ rs) l h zero k = absurd (omega arith)
records_encode n (r ∷ rs) l h (suc g) k =
    let a = two_bytes (length r.pay + 2) (omega (arith, h.1)) in
    let b = two_bytes r.kind (ltb→lt r.kind 65536 h.0) in
    let c : length r.pay ≡ length r.pay + 2 - 2 = omega arith in
    rw (a, b, take_at r.pay (encode rs) (length r.pay + 2 - 2) c, drop_at r.pay (encode rs) (length r.pay + 2 - 2) c, records_encode n rs l h.2 g (omega arith)) refl

longer : (rs : List Rec) → length rs ≤ length (encode rs)
unfolding encode record_bytes
longer [] = omega arith
longer (r ∷ rs) = omega (arith, length-append r.pay (encode rs), longer rs)

-- the records of an accepted dump's book
pub records_of_lem : (d : List ℕ) (rs : List Rec) → Bytes d → read_dump d ≡ accepted rs → records (encode rs) ≡ rs
unfolding records
records_of_lem d rs bytes e = let w = laid_out d rs bytes e in records_encode (length d) rs w.1 w.0 (length (encode rs)) (longer rs)

-- reading, then writing
pub read_write : (d : List ℕ) (rs : List Rec) → Bytes d → read_dump d ≡ accepted rs → write_dump (encode rs) ≡ written d
unfolding write_dump
read_write d rs bytes e = rw (records_of_lem d rs bytes e, round d rs bytes e, e, equal_self (encode rs)) refl

-- writing, then reading
pub write_read : (b d : List ℕ) → write_dump b ≡ written d → (rs : List Rec) × (read_dump d ≡ accepted rs) × (encode rs ≡ b)
unfolding write_dump
write_read b d e = go (read_dump (render (records b))) refl e
  where
    by_equal : (rs : List Rec) (t : Bool) → equal (encode rs) b ≡ t → read_dump (render (records b)) ≡ accepted rs →
        choose t (λ _. written (render (records b))) (λ _. no_book) ≡ written d → (rs : List Rec) × (read_dump d ≡ accepted rs) × (encode rs ≡ b)
    by_equal rs true q r e = let z : render (records b) ≡ d = cc in (rs, rw z at r, equal_is (encode rs) b q)
    by_equal rs false q r e = absurd (let z : ◌≡◌ {A = ℕ} 0 1 = cc in omega arith)

    go : (a : Answer) → read_dump (render (records b)) ≡ a → confirmed b (render (records b)) a ≡ written d → (rs : List Rec) × (read_dump d ≡ accepted rs) × (encode rs ≡ b)
    go (refused f p) r e = absurd (let z : ◌≡◌ {A = ℕ} 0 1 = cc in omega arith)
    go (accepted rs) r e = by_equal rs (equal (encode rs) b) refl r e

-- four bytes of book for each of the dump's are enough
pub book_bound : (d : List ℕ) (rs : List Rec) → Bytes d → read_dump d ≡ accepted rs → length (encode rs) ≤ 4 * length d
book_bound d rs bytes e = rw (book_size rs) (bound d rs bytes e)

-- a book is written as its candidate
pub written_is : (b d : List ℕ) → write_dump b ≡ written d → render (records b) ≡ d
unfolding write_dump
written_is b d e = go (read_dump (render (records b))) e
  where
    by_equal : (t : Bool) → choose t (λ _. written (render (records b))) (λ _. no_book) ≡ written d → render (records b) ≡ d
    by_equal true e = cc
    by_equal false e = absurd (let z : ◌≡◌ {A = ℕ} 0 1 = cc in omega arith)

    go : (a : Answer) → confirmed b (render (records b)) a ≡ written d → render (records b) ≡ d
    go (refused f p) e = absurd (let z : ◌≡◌ {A = ℕ} 0 1 = cc in omega arith)
    go (accepted rs) e = by_equal (equal (encode rs) b) e

pub written_bytes : (b d : List ℕ) → Bytes b → write_dump b ≡ written d → Bytes d
written_bytes b d c e = rw (← written_is b d e) (candidate_bytes b c)
