-- "the link list is the same with it and without it": an accepted dump with its 0005 taken out is accepted, and its list is the same, row for row.
use Rattle.std.specs.Prelude.{ℕ, suc, ◌≤◌, ◌≡◌, Bool, true, false, ◌&&◌, not, leb, eqb}
use Rattle.std.proofs.Math.Path.{refl}
use Rattle.std.proofs.Common.{sym, ap, ◌∙◌, subst, true≢false, arith}
use mathlib.Core.List.{List, [], ◌∷◌, ◌++◌}
use Rattle.std.proofs.Math.Option as option
use Rattle.std.proofs.lemmas.Bool.{lt-leb}
use Rattle.elements.specs.Choice.{choose}
use Rattle.elements.specs.ChoiceLaws.{all_both}
use Rattle.elements.specs.Lists.{Bytes}
use Rattle.elements.specs.Record.{record_bytes}
use Rattle.elements.specs.Answer.{Outcome}
use Rattle.rules.specs.Reading.{Rec, rec}
use Rattle.rules.specs.Book.{encode}
use Rattle.rules.specs.Files.{accepted, has_dir, read_dump}
use Rattle.rules.specs.Blocks.{closing}
use Rattle.rules.specs.Grammar.{origin}
use Rattle.cards.specs.Card as card
use Rattle.cards.specs.Card.{Card, Meets, dump_of, book_of}
use Rattle.cards.specs.Blocks.{Blocks, nothing, other}
use Rattle.cards.proofs.BlockLaws.{dir_blocks}
use Rattle.cards.specs.Without.{without}
use Rattle.cards.proofs.WithoutLaws.{book_without, meets_without}
use Rattle.cards.proofs.DumpLaws.{accepted_card}
use Rattle.cards.proofs.Demand2.{accepted_cards}
use Rattle.layouts.specs.Service.{Served, served, giving}
use Rattle.links.specs.Links.{past, held_from, objects_from, objects_of, links, listed, none, object_at, field_in, field_of}
use Rattle.links.specs.WholeLaws.{untrue, held_none}
use Rattle.links.specs.Serving.{ListTold}
use Rattle.links.specs.Told.{gives}

-- ---- records that are no object's, behind all others, change no object
no_objects : {es : List Rec} → Blocks [] es → (at : ℕ) → objects_from at es ≡ []
unfolding objects_from
no_objects nothing at = refl
no_objects (other kind p h b) at = rw (untrue (eqb kind 0x0120) (all_both (closing kind) (not (eqb kind 0x0120)) h).1) (no_objects b (past at (rec kind p)))

module _ {es : List Rec} (b : Blocks [] es) where
  held_same : (at : ℕ) (rs : List Rec) → held_from at (rs ++ es) ≡ held_from at rs
  unfolding held_from
  held_same at [] = held_none b at
  held_same at (r ∷ rs) = rw (held_same (past at r) rs) refl

  objects_same : (at : ℕ) (rs : List Rec) → objects_from at (rs ++ es) ≡ objects_from at rs
  unfolding objects_from
  objects_same at [] = no_objects b at
  objects_same at (r ∷ rs) = rw (objects_same (past at r) rs, held_same (past at r) rs) refl

-- nor the list
pub links_same : (c : Card) → links (book_of c) ≡ links (book_of (without c))
unfolding links
links_same c = rw (book_without c, objects_same (dir_blocks origin c.dir) 0 (book_of (without c))) refl

-- nor a field
pub fields_same : (c : Card) (i k : ℕ) → field_of i k (book_of c) ≡ field_of i k (book_of (without c))
unfolding field_of
fields_same c i k = rw (book_without c, objects_same (dir_blocks origin c.dir) 0 (book_of (without c))) refl

-- and "kinds from 0200 are no field's"
pub no_field : (i k : ℕ) (rs : List Rec) → 0x0200 ≤ k → field_of i k rs ≡ none
unfolding field_of
no_field i k rs h = rw (lt-leb k 0x01ff (omega arith)) (go (leb 0x0121 k))
  where
    go : (t : Bool) → choose (t && false) (λ _. field_in k (object_at (objects_of rs) i)) (λ _. none) ≡ none
    go true = refl
    go false = refl

-- ---- of accepted dumps
bytes_behind : (l m : List ℕ) → Bytes (l ++ m) → Bytes m
bytes_behind [] m b = b
bytes_behind (x ∷ l) m b = bytes_behind l m (λ i. b (suc i))

bytes_without : (c : Card) → Bytes (dump_of c) → Bytes (dump_of (without c))
bytes_without c b = bytes_behind ((card.ef_dir).bytes c.dir) (dump_of (without c)) b

-- d is a record 0005 and another dump, which is accepted, and the links are the same
pub record TakenOut (d : List ℕ) (rs : List Rec) : Type 0 where
  pub file : List ℕ
  pub others : List ℕ
  pub records : List Rec
  pub dump : d ≡ record_bytes 5 file ++ others
  pub accepts : read_dump others ≡ accepted records
  pub same : links rs ≡ links records

pub taken_out : (d : List ℕ) (rs : List Rec) → Bytes d → read_dump d ≡ accepted rs → has_dir d ≡ true → TakenOut d rs
unfolding record_bytes
taken_out d rs bytes e h =
    let c = accepted_card d rs bytes e in
    go c.it c.it.dir refl c.meets c.dump c.book
  where
    go : (c : Card) (x : (card.ef_dir).Of) → c.dir ≡ x → Meets c → dump_of c ≡ d → book_of c ≡ rs → TakenOut d rs
    go c option.none q m z y =
        let w : dump_of (without c) ≡ d = rw q at z in
        absurd (true≢false (sym h ∙ subst (λ (l : List ℕ). has_dir l ≡ false) w refl))
    go c (option.some x) q m z y =
        let w : record_bytes 5 ((card.templates).bytes x) ++ dump_of (without c) ≡ d = rw q at z in
        record {
          file = (card.templates).bytes x;
          others = dump_of (without c);
          records = book_of (without c);
          dump = sym w;
          accepts = (accepted_cards (dump_of (without c)) (book_of (without c)) (bytes_without c (subst Bytes (sym z) bytes))).1 (without c, meets_without c m, refl, refl);
          same = rw (← y) (links_same c);
        }

-- ---- of the service: lent the same numbers, list answers the same, and leaves the same
pub list_same : (c : Card) → Meets c → Bytes (dump_of c) → {a u v : List ℕ} {q r : Outcome} → ListTold (encode (book_of c)) a u q → ListTold (encode (book_of (without c))) a v r → (q ≡ r) × (u ≡ v)
list_same c m bytes {a} {u} {v} {q} {r} t s =
    let e : served q u ≡ giving (listed (links (book_of (without c)))) a = rw (← links_same c) (gives c m bytes t) in
    let f : served q u ≡ served r v = e ∙ sym (gives (without c) (meets_without c m) (bytes_without c bytes) s) in
    (ap (λ (x : Served). x.answer) f, ap (λ (x : Served). x.lent) f)
