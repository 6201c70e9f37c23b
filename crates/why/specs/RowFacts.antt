-- Each answer of `why` and its fact, of a row of the list.
use Rattle.std.specs.Prelude.{ℕ, zero, suc, ◌≤◌, ◌≡◌, ◌↔◌, ◌⊎◌, Bool, true, false, length, eqb, Ok}
use Rattle.std.proofs.Math.Path.{refl}
use Rattle.std.proofs.Common.{sym, ap, ◌∙◌, inl, inr, arith}
use mathlib.Core.List.{List, [], ◌∷◌, Memᴰ}
use Rattle.elements.specs.declared.fault.Fault.TheVariants.{NoDump, NotThere}
use Rattle.elements.specs.Choice.{choose}
use Rattle.elements.specs.Lists.{Bytes}
use Rattle.rules.specs.Reading.{Rec}
use Rattle.rules.specs.Files.{accepted, read_dump}
use Rattle.rules.specs.Book.{encode}
use Rattle.rules.specs.Meaning.{AcceptedBook}
use Rattle.cards.specs.Card.{Card, Meets, dump_of, book_of}
use Rattle.cards.proofs.Demand2.{accepted_cards, read_then_written, refused_if_none}
use Rattle.cards.proofs.WriteLaws.{records_of_lem}
use Rattle.links.specs.Links.{Held, held, Object, objects_of, id_kind, found, first_of, Reply, by, missing, Row, links, Chosen, nobody, chosen, object_at, States}
use Rattle.links.specs.Finding.{id_in}
use Rattle.links.proofs.AnswerLaws.{rows_answered, rows_stated}
use Rattle.elements.specs.Answer.{refused}
use Rattle.why.specs.declared.answer.Why.TheVariants as answer
use Rattle.why.specs.Why.{no_row, the_row, row_at, value_in, Reason, reason_for, because, no_such, why}
use Rattle.why.specs.Whys.{Reasoned, reason_told, why_told, whying, WhyTold}
use Rattle.why.specs.WhyFacts.{Fact, is_met, is_no_object, is_elsewhere, is_nowhere, missing_fact, exactly}
use Rattle.why.specs.OffsetLaws.{value_there, laid}

-- "16 where there is no such row": the list is not so long; else the row stands on it
pub row_there : (rs : List Row) (n : ℕ) {r : Row} → row_at rs n ≡ the_row r → Memᴰ r rs
row_there [] n e = absurd (let z : ◌≡◌ {A = ℕ} 0 1 = cc in omega arith)
row_there (q ∷ rs) zero {r} e = Memᴰ.head (let y : r ≡ q = cc in y)
row_there (q ∷ rs) (suc n) e = Memᴰ.tail (row_there rs n e)

pub row_past : (rs : List Row) (n : ℕ) → length rs ≤ n → row_at rs n ≡ no_row
row_past [] n h = refl
row_past (r ∷ rs) zero h = absurd (omega arith)
row_past (r ∷ rs) (suc n) h = row_past rs n (omega arith)

why_past : (rs : List Rec) (n : ℕ) → length (links rs) ≤ n → why rs n ≡ no_such
unfolding why
why_past rs n h = rw (row_past (links rs) n h) refl

-- what the object's record at an offset holds is what was stated there
pub stated_value : (rs : List Rec) (link i p : ℕ) (x : List ℕ) → States (objects_of rs) link i p x → value_in p (object_at (objects_of rs) i) ≡ x
stated_value rs link i p x w =
    let l = laid 0 rs i w.numbered in
    rw (w.numbered, l.are) (value_there l.at l.rest p w.kind x (rw l.are at w.holds))

-- an answer's fact holds, of a row of this link, value and reply; a record is shown by its offset and kind
pub record Says (os : List Object) (link : ℕ) (x : List ℕ) (reply : Reply) (r : Reasoned) : Type 0 where
  pub reason : Reason
  pub fact : Fact os link x reply reason
  pub shown : r ≡ Ok (reason_told reason)

module _ (rs : List Rec) (n : ℕ) (r : Row) (e : row_at (links rs) n ≡ the_row r) where
  on_list : Memᴰ r (links rs)
  on_list = row_there (links rs) n e

  -- the answering object of a row bears the identifier that the row's record holds
  met_fact : (x : List ℕ) → States (objects_of rs) r.link r.object r.at x → (j : ℕ) → r.reply ≡ by j → Fact (objects_of rs) r.link x (by j) (reason_for (objects_of rs) r.link x (by j))
  met_fact x w j q =
      let a = (rows_answered rs r.link r.object r.at j).0 (rw (← q) on_list) in
      let y : a.0 ≡ x = sym (stated_value rs r.link r.object r.at a.0 a.1) ∙ stated_value rs r.link r.object r.at x w in
      let f : id_in (object_at (objects_of rs) j) ≡ found a.2.field = rw a.2.numbered a.2.first in
      rw f (is_met f (a.2.equal ∙ y))

  fact : (x : List ℕ) → States (objects_of rs) r.link r.object r.at x → (p : Reply) → r.reply ≡ p → Fact (objects_of rs) r.link x p (reason_for (objects_of rs) r.link x p)
  fact x w missing q = missing_fact rs r.link x
  fact x w (by j) q = met_fact x w j q

  answers : (x : List ℕ) → States (objects_of rs) r.link r.object r.at x → why rs n ≡ because (reason_for (objects_of rs) r.link x r.reply)
  unfolding why
  answers x w = rw (e, stated_value rs r.link r.object r.at x w) refl

  pub value : (x : List ℕ) × States (objects_of rs) r.link r.object r.at x
  value = rows_stated rs r on_list

  -- each answer is given exactly when its fact holds
  pub row_told : (q : Reasoned) → (q ≡ why_told (why rs n)) ↔ Says (objects_of rs) r.link value.0 r.reply q
  row_told q =
      let a = answers value.0 value.1 in (
        (λ e. record { reason = reason_for (objects_of rs) r.link value.0 r.reply; fact = fact value.0 value.1 r.reply refl; shown = e ∙ ap why_told a }),
        (λ s. s.shown ∙ ap (λ (y : Reason). Ok (reason_told y)) (sym (exactly rs r.link value.0 s.fact)) ∙ ap why_told (sym a)),
      )

-- what was found is among the records
first_held : (k : ℕ) (hs : List Held) {h : Held} → first_of k hs ≡ found h → Memᴰ h hs
unfolding first_of
first_held k [] e = absurd (let z : ◌≡◌ {A = ℕ} 0 1 = cc in omega arith)
first_held k (g ∷ hs) {h} e = go (eqb g.kind k) (first_held k hs) e
  where
    go : (t : Bool) → (first_of k hs ≡ found h → Memᴰ h hs) → choose t (λ _. found g) (λ _. first_of k hs) ≡ found h → Memᴰ h (g ∷ hs)
    go true f z = Memᴰ.head (let y : h ≡ g = cc in y)
    go false f z = Memᴰ.tail (f z)

id_held : (os : List Object) (j : ℕ) {h : Held} → id_in (object_at os j) ≡ found h → (o : Object) × (object_at os j ≡ chosen o) × Memᴰ h o.records
id_held os j {h} e = go (object_at os j) refl e
  where
    go : (c : Chosen) → object_at os j ≡ c → id_in c ≡ found h → (o : Object) × (object_at os j ≡ chosen o) × Memᴰ h o.records
    go nobody q z = absurd (let y : ◌≡◌ {A = ℕ} 0 1 = cc in omega arith)
    go (chosen o) q z = (o, q, first_held (id_kind o.entry) o.records z)

-- an offset shown is a record of that kind with that value
pub shown_bears : {os : List Object} {link : ℕ} {x : List ℕ} {reply : Reply} {r : Reasoned} {p k : ℕ} → Says os link x reply r → (r ≡ Ok (answer.Met p k)) ⊎ (r ≡ Ok (answer.Elsewhere p k)) → (i : ℕ) × (o : Object) × (object_at os i ≡ chosen o) × Memᴰ (held p k x) o.records
shown_bears {os} {link} {x} {r = r} {p} {k} s e = go s.fact s.shown e
  where
    go : {reply : Reply} {q : Reason} → Fact os link x reply q → r ≡ Ok (reason_told q) → (r ≡ Ok (answer.Met p k)) ⊎ (r ≡ Ok (answer.Elsewhere p k)) → (i : ℕ) × (o : Object) × (object_at os i ≡ chosen o) × Memᴰ (held p k x) o.records
    go (is_met {j = j} {h = h} i v) z (inl u) =
        let w = id_held os j i in
        let y : Ok (answer.Met h.at h.kind) ≡ Ok (answer.Met p k) = sym z ∙ u in
        let a : h.at ≡ p = cc in
        let c : h.kind ≡ k = cc in
        let m : h ≡ held p k x = rw (← a, ← c, ← v) refl in
        (j, w.0, w.1, rw (← m) w.2)
    go (is_met i v) z (inr u) = absurd (let y : ◌≡◌ {A = ℕ} 0 1 = cc in omega arith)
    go (is_no_object n) z (inl u) = absurd (let y : ◌≡◌ {A = ℕ} 0 1 = cc in omega arith)
    go (is_no_object n) z (inr u) = absurd (let y : ◌≡◌ {A = ℕ} 0 1 = cc in omega arith)
    go (is_elsewhere c w l) z (inl u) = absurd (let y : ◌≡◌ {A = ℕ} 0 1 = cc in omega arith)
    go (is_elsewhere {h = h} c w l) z (inr u) =
        let y : Ok (answer.Elsewhere h.at h.kind) ≡ Ok (answer.Elsewhere p k) = sym z ∙ u in
        let a : h.at ≡ p = cc in
        let b : h.kind ≡ k = cc in
        let m : h ≡ held p k x = rw (← a, ← b, ← w.value) refl in
        (w.number, w.object, w.numbered, rw (← m) w.holds)
    go (is_nowhere c n) z (inl u) = absurd (let y : ◌≡◌ {A = ℕ} 0 1 = cc in omega arith)
    go (is_nowhere c n) z (inr u) = absurd (let y : ◌≡◌ {A = ℕ} 0 1 = cc in omega arith)

-- of the book of a card of document 01
module _ (x : Card) (meets : Meets x) (bytes : Bytes (dump_of x)) (n : ℕ) where
  reads : read_dump (dump_of x) ≡ accepted (book_of x)
  reads = (accepted_cards (dump_of x) (book_of x) bytes).1 (x, meets, refl, refl)

  answered : whying (encode (book_of x)) n ≡ why_told (why (book_of x) n)
  unfolding whying
  answered = rw (read_then_written (record { bytes = bytes; records = book_of x; reads = reads; book = refl }), records_of_lem (dump_of x) (book_of x) bytes reads) refl

  told : (r : Reasoned) → WhyTold (encode (book_of x)) n r ↔ (r ≡ why_told (why (book_of x) n))
  told r = ((λ t. t.is ∙ answered), (λ e. record { is = e ∙ sym answered }))

  pub exactly_when : (w : Row) (there : row_at (links (book_of x)) n ≡ the_row w) (r : Reasoned) → WhyTold (encode (book_of x)) n r ↔ Says (objects_of (book_of x)) w.link (value (book_of x) n w there).0 w.reply r
  exactly_when w there r = let s = row_told (book_of x) n w there r in ((λ t. s.0 ((told r).0 t)), (λ y. (told r).1 (s.1 y)))

  pub no_such_row : length (links (book_of x)) ≤ n → (r : Reasoned) → WhyTold (encode (book_of x)) n r ↔ (r ≡ refused NotThere 0)
  no_such_row h r = let e = ap why_told (why_past (book_of x) n h) in ((λ t. (told r).0 t ∙ e), (λ z. (told r).1 (z ∙ sym e)))

pub no_book_lem : {b : List ℕ} → Bytes b → (AcceptedBook b → ⊥) → (n : ℕ) (r : Reasoned) → WhyTold b n r ↔ (r ≡ refused NoDump 0)
unfolding whying
no_book_lem {b} bytes none n r = let e : whying b n ≡ refused NoDump 0 = rw (refused_if_none bytes none) refl in ((λ t. t.is ∙ e), (λ z. record { is = z ∙ sym e }))
