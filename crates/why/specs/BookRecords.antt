-- "over the book and not over the search": the records that the facts of `why` are of are all of a card's book.
use Rattle.std.specs.Prelude.{ℕ, suc, ◌≡◌, ◌↔◌, ◌⊎◌, Bool, T}
use Rattle.std.proofs.Math.Path.{refl}
use Rattle.std.proofs.Common.{sym, ap, ◌∙◌, inl, inr, ⊎_elim, true≢false}
use mathlib.Core.List.Memᴰ
use mathlib.Core.List.{List, [], ◌∷◌, ◌++◌, append_assoc, Memᴰ}
use Rattle.std.proofs.Math.Bool.{true, false, not}
use Rattle.std.proofs.Math.Dec.{eqb}
use borrow.Author.Tests.{eq-eqb, eqb-true}
use Rattle.elements.specs.Sealed.{among}
use Rattle.elements.specs.ChoiceLaws.{all_both, both_true}
use Rattle.rules.specs.Reading.{Rec, rec}
use Rattle.rules.specs.TestLaws.{is_true, from_true, clash}
use Rattle.rules.specs.Grammar.{origin}
use Rattle.rules.specs.Kinds.{Among, none_there, there}
use Rattle.rules.specs.Blocks.{closing, every, every_kind, inner, info_inner}
use Rattle.rules.specs.Layouts as layouts
use Rattle.cards.specs.Card as card
use Rattle.cards.specs.Card.{Card, book_of, front, behind}
use Rattle.cards.specs.Blocks.{Blocks, nothing, other, whole}
use Rattle.cards.proofs.BlockLaws.{behind_inner, card_blocks}
use Rattle.links.specs.Links.{Held, held, Object, past, objects_from, objects_of, states, chosen, object_at, States}
use Rattle.links.specs.WholeLaws.{not_closing, held_all, untrue, inner_first, held_behind, held_none}
use Rattle.why.specs.Why.{identifier_kinds, aside}
use Rattle.why.specs.WhyFacts.{Stands}
use Rattle.why.specs.OffsetLaws.{one_held, laid, one_object}

-- h, at its offset, is "a record 0123, 0127, 0130, 0140 or 0150 that does not state a link of the same number" of a book, and "the value stands in" it
pub record InBook (rs : List Rec) (link : ℕ) (x : List ℕ) (h : Held) : Type 0 where
  pub holds : Memᴰ h (held_all 0 rs)
  pub one_of : among h.kind identifier_kinds ≡ true
  pub silent : (i : ℕ) → States (objects_of rs) link i h.at x → ⊥
  pub value : h.pay ≡ x

-- a record of one of the objects
abbrev Inside : List Object → Held → Type 0
Inside os h = (i : ℕ) × (o : Object) × (object_at os i ≡ chosen o) × Memᴰ h o.records

-- one of records that start no object, or one of those behind them
behind_or : (at : ℕ) (rs bs : List Rec) (h : Held) → T (inner rs) → Memᴰ h (held_all at (rs ++ bs)) → Memᴰ h (held_all at rs) ⊎ ((q : ℕ) × (objects_from at (rs ++ bs) ≡ objects_from q bs) × Memᴰ h (held_all q bs))
unfolding held_all objects_from
behind_or at [] bs h t m = inr (at, refl, m)
behind_or at (r ∷ rs) bs h t (Memᴰ.head e) = inl (Memᴰ.head e)
behind_or at (r ∷ rs) bs h t (Memᴰ.tail m) =
    let u = inner_first r rs t in
    ⊎_elim (λ n. inl (Memᴰ.tail n)) (λ w. inr (w.0, rw (not_closing r.kind u.0) w.1, w.2)) (behind_or (past at r) rs bs h u.1 m)

-- in blocks, each record that closes no object is one's
in_blocks : {xs : List card.Object} {bs : List Rec} → Blocks xs bs → (at : ℕ) (h : Held) → closing h.kind ≡ false → Memᴰ h (held_all at bs) → Inside (objects_from at bs) h
unfolding held_all objects_from
in_blocks nothing at h z m = absurd (Memᴰ.not-nil m)
in_blocks (other kind p t b) at h z (Memᴰ.head e) = absurd (clash (closing kind) (is_true (closing kind) (all_both (closing kind) (not (eqb kind 0x0120)) t).0) (rw e at z))
in_blocks (other kind p t b) at h z (Memᴰ.tail m) = rw (untrue (eqb kind 0x0120) (all_both (closing kind) (not (eqb kind 0x0120)) t).1) (in_blocks b (past at (rec kind p)) h z m)
in_blocks (whole x b) at h z (Memᴰ.head e) = absurd (true≢false (rw e at z))
in_blocks (whole {rs = bs} x b) at h z (Memᴰ.tail m) =
    let q = past at (rec 0x0120 (front x)) in
    ⊎_elim
    (λ n. (0, _, refl, rw (held_behind q (behind x) bs (behind_inner x) (held_none b)) n))
    (λ w. let i = in_blocks b w.0 h z w.2 in (suc i.0, i.1, rw w.1 i.2, i.3))
    (behind_or q (behind x) bs h (behind_inner x) m)

-- none of CIAInfo's is of these kinds
not_info : (ks : List ℕ) → T (every (λ k. not (among k identifier_kinds)) ks) → (at : ℕ) {rs : List Rec} (h : Held) → Among ks rs → among h.kind identifier_kinds ≡ true → Memᴰ h (held_all at rs) → ⊥
unfolding held_all
not_info ks t at h none_there e m = Memᴰ.not-nil m
not_info ks t at h (there {r = r} a g) e (Memᴰ.head q) = clash (among r.kind identifier_kinds) (rw q at e) (untrue (among r.kind identifier_kinds) (every_kind (λ k. not (among k identifier_kinds)) r.kind ks t a))
not_info ks t at h (there {r = r} a g) e (Memᴰ.tail m) = not_info ks t (past at r) h g e m

-- so each record of these kinds, of a card's book, is an object's
in_book : (c : Card) (h : Held) → among h.kind identifier_kinds ≡ true → Memᴰ h (held_all 0 (book_of c)) → Inside (objects_of (book_of c)) h
unfolding layouts.cia layouts.info
in_book c h e m =
    let info = (card.cia).book origin c.info in
    let others = (card.od).book origin c.main ++ (card.files 1 (card.names_of c.main)).book origin c.dirs in
    let bs = others ++ (card.ef_dir).book origin c.dir in
    let a = append_assoc info others ((card.ef_dir).book origin c.dir) in
    let within : closing h.kind ≡ false = untrue (closing h.kind) (every_kind (λ k. not (closing k)) h.kind identifier_kinds tt (from_true (among h.kind identifier_kinds) e)) in
    rw a
    (⊎_elim
    (λ n. absurd (not_info (layouts.cia).all tt 0 h ((layouts.cia).only origin c.info) e n))
    (λ w. rw w.1 (in_blocks (card_blocks c) w.0 h within w.2))
    (behind_or 0 info bs h (info_inner origin c.info) (rw a at m)))

-- the facts speak of all of them, and of no others
module _ (c : Card) (link : ℕ) (some : link ≡ 0 → ⊥) (x : List ℕ) (h : Held) where
  abbrev os : List Object
  os = objects_of (book_of c)

  in_the_book : Stands os link x h → InBook (book_of c) link x h
  unfolding aside
  in_the_book w = record { holds = (laid 0 (book_of c) w.number w.numbered).within h w.holds; one_of = t.0; silent = quiet; value = w.value }
    where
      t : (among h.kind identifier_kinds ≡ true) × (not (eqb (states w.object.entry h.kind) link) ≡ true)
      t = both_true (among h.kind identifier_kinds) (not (eqb (states w.object.entry h.kind) link)) w.other

      quiet : (i : ℕ) → States os link i h.at x → ⊥
      quiet i s =
          let e : h ≡ held h.at s.kind x = one_held 0 (book_of c) h (held h.at s.kind x) ((laid 0 (book_of c) w.number w.numbered).within h w.holds) ((laid 0 (book_of c) i s.numbered).within _ s.holds) refl in
          let k : h.kind ≡ s.kind = ap (λ (y : Held). y.kind) e in
          let o : w.object ≡ s.object = one_object 0 (book_of c) w.number i h w.numbered s.numbered w.holds (rw e s.holds) in
          true≢false (sym t.1 ∙ rw (o, k, s.says, eq-eqb link link refl) refl)

  by_facts : InBook (book_of c) link x h → Stands os link x h
  unfolding aside
  by_facts v =
      let i = in_book c h v.one_of v.holds in
      record { number = i.0; object = i.1; numbered = i.2; holds = i.3; other = rw v.one_of (unsaid i (eqb (states i.1.entry h.kind) link) refl); value = v.value }
    where
      unsaid : (i : Inside os h) (t : Bool) → eqb (states i.1.entry h.kind) link ≡ t → not t ≡ true
      unsaid i false e = refl
      unsaid i true e = absurd (v.silent i.0 (record { object = i.1; numbered = i.2; kind = h.kind; holds = rw (← v.value) i.3; says = eqb-true (states i.1.entry h.kind) link e; some = some }))

  pub over_the_book : Stands os link x h ↔ InBook (book_of c) link x h
  over_the_book = (in_the_book, by_facts)
