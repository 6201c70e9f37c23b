-- The objects of a card's book are the card's, in turn, each whole (demand 3).
use Rattle.std.specs.Prelude.{ℕ, suc, ◌≤◌, ◌≡◌, refl, Bool, true, false, ◌||◌, not, length, leb, eqb, T}
use Rattle.std.proofs.Common.{ap, ◌∙◌, ⊎_elim, true≢false, arith}
use mathlib.Core.List.Memᴰ
use mathlib.Core.List.{List, [], ◌∷◌, ◌++◌, append_assoc, Memᴰ}
use Rattle.std.proofs.lemmas.Bool.{not-true}
use Rattle.elements.specs.Choice.{pick, choose}
use Rattle.elements.specs.ChoiceLaws.{all_both}
use Rattle.elements.specs.Lists.{Bytes}
use Rattle.rules.specs.declared.table.Sort.TheVariants.{Identifier}
use Rattle.rules.specs.Reading.{Rec, rec}
use Rattle.rules.specs.Tables.{kind_of, certificate_id_row, own_id_row}
use Rattle.rules.specs.Files.{read_dump, accepted}
use Rattle.rules.specs.TestLaws.{is_true}
use Rattle.rules.specs.Pays.{pays}
use Rattle.rules.specs.Blocks.{closing, inner, info_inner}
use Rattle.rules.specs.Grammar.{origin}
use Rattle.cards.specs.Card as card
use Rattle.cards.specs.Card.{Card, book_of, records_of, front, behind, identifiers}
use Rattle.cards.proofs.CardKinds.{certificate_once, own_once, nested, occurs}
use Rattle.cards.specs.Blocks.{Blocks, nothing, other, whole}
use Rattle.cards.proofs.BlockLaws.{records_are, front_entry, behind_inner, card_blocks}
use Rattle.cards.proofs.DumpLaws.{accepted_card}
use Rattle.links.specs.Links.{Held, held, Object, past, held_from, objects_from, objects_of, certifying, id_kind, chosen, object_at, states, States}
use Rattle.elements.specs.Sealed.{among}

-- a record that closes nothing starts no object
pub not_closing : (k : ℕ) → closing k ≡ false → eqb k 0x0120 ≡ false
not_closing k e = go (eqb k 0x0120) (among k (0x0110 ∷ 0x0107 ∷ 0x0118 ∷ 0x0119 ∷ 0x011a ∷ [])) (leb 0x0200 k) e
  where
    go : (t u v : Bool) → ((t || u) || v) ≡ false → t ≡ false
    go true u v z = absurd (true≢false z)
    go false u v z = refl

-- these records, each with its book offset
unfoldable pub held_all : ℕ → List Rec → List Held
held_all at [] = []
held_all at (r ∷ rs) = held at r.kind r.pay ∷ held_all (past at r) rs

-- object o of the book is the card's object x, with all its records
pub record WholeObject (o : Object) (x : card.Object) : Type 0 where
  pub tag : o.entry ≡ x.0
  pub from : ℕ
  pub all : o.records ≡ held_all from (behind x)

-- objects of a book are these of a card, in turn
pub data WholeObjects : List Object → List card.Object → Type 0 where
  no_more : WholeObjects [] []
  one_more : {o : Object} {os : List Object} {x : card.Object} {xs : List card.Object} → WholeObject o x → WholeObjects os xs → WholeObjects (o ∷ os) (x ∷ xs)

-- a test that fails
pub untrue : (t : Bool) → T (not t) → t ≡ false
untrue t h = not-true t (is_true (not t) h)

-- the first of records that close no object, and those behind it
pub inner_first : (r : Rec) (rs : List Rec) → T (inner (r ∷ rs)) → (closing r.kind ≡ false) × T (inner rs)
inner_first r rs h = let t = all_both (not (closing r.kind)) (inner rs) h in (untrue (closing r.kind) t.0, t.1)

-- they start none either, and an object holds all of them
objects_behind : (P : List Object → Type 0) (at : ℕ) (rs bs : List Rec) → T (inner rs) → ((q : ℕ) → P (objects_from q bs)) → P (objects_from at (rs ++ bs))
unfolding objects_from
objects_behind P at [] bs h f = f at
objects_behind P at (r ∷ rs) bs h f =
    let t = inner_first r rs h in
    rw (not_closing r.kind t.0) (objects_behind P (past at r) rs bs t.1 f)

pub held_behind : (at : ℕ) (rs bs : List Rec) → T (inner rs) → ((q : ℕ) → held_from q bs ≡ []) → held_from at (rs ++ bs) ≡ held_all at rs
unfolding held_from held_all
held_behind at [] bs h f = f at
held_behind at (r ∷ rs) bs h f =
    let t = inner_first r rs h in
    rw (t.0, held_behind (past at r) rs bs t.1 f) refl

-- and nothing of the blocks behind them, since these begin with a record that closes an object
pub held_none : {xs : List card.Object} {bs : List Rec} → Blocks xs bs → (at : ℕ) → held_from at bs ≡ []
unfolding held_from
held_none nothing at = refl
held_none (other kind p h b) at = rw (is_true (closing kind) (all_both (closing kind) (not (eqb kind 0x0120)) h).0) refl
held_none (whole o b) at = refl

-- the objects in blocks are whole, and so are those of the book
whole_blocks : {xs : List card.Object} {bs : List Rec} → Blocks xs bs → (at : ℕ) → WholeObjects (objects_from at bs) xs
unfolding objects_from
whole_blocks nothing at = no_more
whole_blocks (other kind p h b) at = rw (untrue (eqb kind 0x0120) (all_both (closing kind) (not (eqb kind 0x0120)) h).1) (whole_blocks b (past at (rec kind p)))
whole_blocks (whole {os = xs} {rs = bs} x b) at =
    let q = past at (rec 0x0120 (front x)) in
    one_more
    (record { tag = front_entry x; from = q; all = held_behind q (behind x) bs (behind_inner x) (held_none b) })
    (objects_behind (λ os. WholeObjects os xs) q (behind x) bs (behind_inner x) (λ i. whole_blocks b i))

pub whole_objects : (c : Card) → WholeObjects (objects_of (book_of c)) (card.objects_of c)
whole_objects c =
    let others = (card.od).book origin c.main ++ (card.files 1 (card.names_of c.main)).book origin c.dirs in
    rw (append_assoc ((card.cia).book origin c.info) others ((card.ef_dir).book origin c.dir)) (objects_behind (λ os. WholeObjects os (card.objects_of c)) 0 ((card.cia).book origin c.info) (others ++ (card.ef_dir).book origin c.dir) (info_inner origin c.info) (whole_blocks (card_blocks c)))

-- as many as the card has
same_length : {os : List Object} {xs : List card.Object} → WholeObjects os xs → length os ≡ length xs
same_length no_more = refl
same_length (one_more o w) = ap suc (same_length w)

-- "At most 128 objects (house)"
pub few_objects : (d : List ℕ) (rs : List Rec) → Bytes d → read_dump d ≡ accepted rs → length (objects_of rs) ≤ 128
few_objects d rs b e = let c = accepted_card d rs b e in rw (← c.book) (omega (arith, c.meets.few, same_length (whole_objects c.it)))

-- the payloads of an object's records of kind k, in order
unfoldable pub held_pays : ℕ → List Held → List (List ℕ)
held_pays k [] = []
held_pays k (h ∷ hs) = choose (eqb h.kind k) (λ _. h.pay ∷ held_pays k hs) (λ _. held_pays k hs)

held_pays_lem : (k at : ℕ) (rs : List Rec) → held_pays k (held_all at rs) ≡ pays k rs
unfolding held_pays held_all pays
held_pays_lem k at [] = refl
held_pays_lem k at (r ∷ rs) = rw (held_pays_lem k (past at r) rs) refl

-- they are those of the card's object
held_as : {o : Object} {x : card.Object} → WholeObject o x → (k : ℕ) → eqb 0x0120 k ≡ false → held_pays k o.records ≡ pays k (records_of x)
unfolding pays
held_as {x = x} w k e = rw (w.all, held_pays_lem k w.from (behind x), records_are x, e) refl

-- the 0127s of an object are the identifiers in the conditions of its rules, at any depth, as many and in the same order
pub nested_held : {o : Object} {x : card.Object} → WholeObject o x → held_pays (kind_of Identifier) o.records ≡ identifiers x
nested_held {x = x} w = held_as w (kind_of Identifier) refl ∙ nested x

-- the record that holds an object's identifier is the only one of its kind
pub one_held : {o : Object} {x : card.Object} → WholeObject o x → length (held_pays (id_kind o.entry) o.records) ≤ 1
unfolding id_kind
one_held {o} {x} w = go (certifying o.entry)
  where
    go : (b : Bool) → length (held_pays (pick b certificate_id_row.kind own_id_row.kind) o.records) ≤ 1
    go true = rw (held_as w certificate_id_row.kind refl) (certificate_once x)
    go false = rw (held_as w own_id_row.kind refl) (own_once x)

-- a record among these is held at some offset
held_mem : (kind : ℕ) (x : List ℕ) (at : ℕ) (rs : List Rec) → Memᴰ (rec kind x) rs → (q : ℕ) × Memᴰ (held q kind x) (held_all at rs)
unfolding held_all
held_mem kind x at rs (Memᴰ.head e) = (at, Memᴰ.head (ap (λ (r : Rec). held at r.kind r.pay) e))
held_mem kind x at rs (Memᴰ.tail {x = r} {xs = rs'} m) = let w = held_mem kind x (past at r) rs' m in (w.0, Memᴰ.tail w.1)

-- object j of the card is x
pub data At (x : card.Object) : ℕ → List card.Object → Type 0 where
  here : {xs : List card.Object} → At x 0 (x ∷ xs)
  later : {y : card.Object} {xs : List card.Object} {j : ℕ} → At x j xs → At x (suc j) (y ∷ xs)

whole_at : {os : List Object} {x : card.Object} {xs : List card.Object} {j : ℕ} → WholeObjects os xs → At x j xs → (o : Object) × (object_at os j ≡ chosen o) × WholeObject o x
whole_at no_more x7 = elim x7 [ ]
whole_at (one_more {o = o} w ws) here = (o, refl, w)
whole_at (one_more w ws) (later a) = whole_at ws a

-- what a record of the card's object j says is stated
pub each_says : (c : Card) {x : card.Object} {j : ℕ} → At x j (card.objects_of c) → (kind : ℕ) (id : List ℕ) {link : ℕ} → Memᴰ (rec kind id) (behind x) → states x.0 kind ≡ link → (link ≡ 0 → ⊥) → (p : ℕ) × States (objects_of (book_of c)) link j p id
each_says c {x} a kind id m s z =
    let w = whole_at (whole_objects c) a in
    let h = held_mem kind id w.2.from (behind x) m in
    (h.0, record { object = w.0; numbered = w.1; kind = kind; holds = rw w.2.all h.1; says = rw w.2.tag s; some = z })

-- and so is each identifier in a condition of its rules
pub each_nested : (c : Card) {x : card.Object} {j : ℕ} → At x j (card.objects_of c) → (id : List ℕ) → Memᴰ id (identifiers x) → (p : ℕ) × States (objects_of (book_of c)) 2 j p id
unfolding states
each_nested c {x} a id m =
    each_says c a (kind_of Identifier) id (⊎_elim (λ e. absurd (omega (arith, ap (λ (r : Rec). r.kind) e))) (λ t. t) (Memᴰ.cases_cons (rw (records_are x) at ((occurs x id).0 m)))) refl (λ z. omega arith)
