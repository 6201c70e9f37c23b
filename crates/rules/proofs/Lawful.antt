-- What holds of a layout's faces together: it is read as it is and only so, rendering its records gives its bytes, and what is rendered of any records is bytes. One lemma for each way to put layouts together.
use Rattle.std.specs.Prelude.{ℕ, ◌+◌, ◌-◌, ◌≤◌, List, [], ◌∷◌, Bool, true, false, ◌&&◌, not, ◌≡◌, refl, length, ltb, leb, eqb, T, Err, Ok}
use Rattle.std.proofs.Common.{append-nil, ◌∙◌, le_refl, arith, T_not, eqb-true, eq-eqb}
use Rattle.std.proofs.Math.Option.{Option, none, some}
use Rattle.std.proofs.Math.Seq.{slice}
use Rattle.std.proofs.lemmas.Bool.{not-true}
use Rattle.elements.specs.declared.fault.Fault.{Fault}
use Rattle.elements.specs.declared.fault.Fault.TheVariants.{NotDue}
use Rattle.elements.specs.Choice.{choose}
use Rattle.elements.specs.ChoiceLaws.{both_true}
use Rattle.elements.specs.Lists.{Bytes}
use Rattle.elements.specs.Sealed.{among, sealed_run}
use Rattle.elements.specs.SealedLaws.{sealed_refuses}
use Rattle.rules.specs.declared.table.Need.{Need}
use Rattle.rules.specs.declared.table.Need.TheVariants.{Required, Optional}
use Rattle.rules.specs.declared.table.Row.{Row}
use Rattle.rules.specs.Reading.{Rec, rec, Res, took, fails, also, and_then, ◌then◌, Reader, Body}
use Rattle.rules.specs.Parts as parts
use Rattle.rules.specs.Parts.{component, components, repeat, up_to, to_end, inside, keep}
use Rattle.rules.specs.Looks.{Look, look, seq_look, elem_look, offer_look, rest_look, many_look, least_look, join_look, rows_look, fill_look}
use Rattle.rules.specs.Rulings.{headed_by}
use Rattle.rules.specs.Rendering.{Renderer, ◌next◌, within, when, either, from, plain, r_rows, r_keep, r_all, r_fill}
use Rattle.rules.specs.Fills.{to_fill, fill, before_fill, only_fill}
use Rattle.rules.specs.Grammar as grammar
use Rattle.rules.specs.Grammar.{first_of, SealedRun, Site, Where, here, Part, Item, many, total}
use Rattle.rules.specs.ElementLaws.{run_sound, run_complete}
use Rattle.rules.specs.FaultLaws.{of_reading, sealed_fault}
use Rattle.rules.specs.LookLaws.{avoids, bodily, repeats, under}
use Rattle.rules.specs.RenderLaws.{Renders, and_renders, with_renders, weaken, within_renders, offered_renders, sealed_renders, kept_renders, sealed_all_renders, rest_renders, or_renders, many_renders, least_renders, optional_renders, rows_fit, fields_renders, fill_renders, behind_renders}
use Rattle.rules.specs.GrammarLaws as exact
use Rattle.rules.specs.GrammarLaws.{Stop, tags, close, is_close, Plain, PlainBody, BodyLaw, Any, ItemLaw, clear, slot_look, low_tag, low_tag_lem, inside_law}
use Rattle.rules.specs.Faces.{any_tag, no_front, is_free, Solid, least_tags, Spot, itself, ending, spot, is_not, plain_look, ahead, r_ahead, part_ahead, ahead_look, Short, row_tags, rows_clear}
use Rattle.rules.proofs.FieldLaws.{fields_law}
use Rattle.rules.specs.ItemLaws.{narrow, or_law, otherwise_law, sealed_law, list_law, behind_body, lift_law, recount, total_none}
use Rattle.rules.specs.FillLaws.{filed_law, single_law, alone_law}
use Rattle.rules.specs.Bytewise.{Outs, next_b, within_b, when_b, either_b, from_b, plain_b, keep_b, rows_b, all_b, fill_b}
use Rattle.elements.specs.Answer.{Run}

-- what holds of a layout's faces together
pub record Lawful (part : Part) (read : List ℕ → ℕ → Reader) (render : Renderer) (kinds : Look) (tags : exact.Look) : Type 0 where
  pub exact : (site : Site) (s : List ℕ) → Bytes s → length s ≤ 32768 → (own : ℕ) → own ≤ length s → Plain site s (read s own) part tags
  pub renders : Renders part render kinds
  pub clean : Outs render

-- the same of one element, by its tag
pub record LawfulOne (item : Item) (body : List ℕ → ℕ → Body) (render : Renderer) (kinds : Look) : Type 0 where
  pub exact : (site : Site) (s : List ℕ) → Bytes s → length s ≤ 32768 → ItemLaw site s (body s) item (λ _. 0) 0 0 Any
  pub renders : Renders (grammar.one item) render kinds
  pub clean : Outs render

-- the same of a part in which something is counted, `most` at most, k before it
pub record LawfulCounted (most : ℕ) (part : Part) (count : part.Of → ℕ) (read : Site → List ℕ → ℕ → Reader) (render : Renderer) (kinds : Look) (tags : exact.Look) : Type 0 where
  pub exact : (site : Site) (s : List ℕ) → Bytes s → length s ≤ 32768 → (k : ℕ) → k ≤ most → exact.Law site s (read site s k) part count k most tags
  pub renders : Renders part render kinds
  pub clean : Outs render

-- the same of a file: it ends where the file ends, and need not begin with an element
pub record LawfulFile (most : ℕ) (part : Part) (count : part.Of → ℕ) (read : Site → List ℕ → ℕ → Reader) (render : Renderer) (kinds : Look) : Type 0 where
  pub exact : (site : Site) (s : List ℕ) → Bytes s → length s ≤ 32768 → (k : ℕ) → k ≤ most → BodyLaw site s (inside (read site s k)) part count k most
  pub renders : Renders part render kinds
  pub clean : Outs render

-- what may follow: nothing, or anything
pub closed : (t : Stop) → T (is_close t) → t ≡ close
closed (tags l) z = absurd z
closed close z = refl

pub free : (t : Stop) → T (is_free t) → t ≡ tags []
free (tags []) z = refl
free (tags (t ∷ l)) z = absurd z
free close z = absurd z

-- one after the other
pub and_lawful : {P Q : Part} {p q : List ℕ → ℕ → Reader} {f g : Renderer} {L M : Look} {A B : exact.Look} → Lawful P p f L A → Lawful Q q g M B → T (avoids M.first L.stop) → T (clear B.first A.stop) →
    Lawful (grammar.◌and◌ P Q) (λ s own. p s own then q s own) (f next g) (seq_look L M) (exact.seq_look A B)
and_lawful x y t u = record { exact = λ site s b m own o. exact.seq (x.exact site s b m own o) (y.exact site s b m own o) u; renders = and_renders x.renders y.renders t; clean = next_b x.clean y.clean }

-- the components of a table
pub fields_lawful : (rs : List Row) → T (rows_fit rs) → T (rows_clear rs) → Lawful (grammar.fields rs) (λ s own. components s rs) (r_rows rs) (rows_look rs) (row_tags rs)
fields_lawful rs t u = record { exact = λ site s b m own o. fields_law site s b m rs u; renders = fields_renders rs t; clean = rows_b rs t }

-- the rest of a sequence
pub rest_lawful : (kind : ℕ) (out : List ℕ) → T (ltb kind 65536) → Lawful (grammar.rest kind out) (λ s own. parts.rest s kind out) (r_keep kind) (rest_look kind) (exact.look (λ t. not (among t out)) true close)
rest_lawful kind out t = record { exact = λ site s b m own o. exact.rest_law site s b m kind out; renders = rest_renders kind out t; clean = keep_b kind }

module _ {P : Part} {p : List ℕ → ℕ → Reader} {f : Renderer} {L : Look} {A : exact.Look} (x : Lawful P p f L A) where
  -- and nothing more is due
  pub ended_lawful : Lawful P (λ s own. p s own then parts.ended s) f L (exact.look A.first A.empty close)
  ended_lawful = record { exact = λ site s b m own o. exact.ended_law site s b m (x.exact site s b m own o); renders = x.renders; clean = x.clean }

  -- what does not look at the place of its element
  pub apart_lawful : Lawful P (λ s own. p s 0) f L A
  apart_lawful = record { exact = λ site s b m own o. x.exact site s b m 0 (omega arith); renders = x.renders; clean = x.clean }

  -- what is inside an element
  body_exact : T (is_close A.stop) → (site : Site) (s : List ℕ) → Bytes s → length s ≤ 32768 → PlainBody site s (λ at a e. p s at e a) P
  body_exact z site s b m = record {
    sound = λ at a e i h l. (inside_law (x.exact site s b m at (omega arith)) (closed A.stop z)).sound at a e i h l;
    complete = λ at a e i h l v y r q. (inside_law (x.exact site s b m at (omega arith)) (closed A.stop z)).complete at a e i h l v y r q;
  }

  -- a component that is due
  pub due_lawful : (t : ℕ) → T (bodily L) → T (low_tag t) → T (is_close A.stop) → Lawful (grammar.one (grammar.tagged t P)) (λ s own. component s t Required (λ at a e. p s at e a)) (within t f) (elem_look L) (slot_look Required t)
  due_lawful t u v w = record {
    exact = λ site s b m own o. exact.component_law site s b m t (low_tag_lem t v) (body_exact w site s b m) Required;
    renders = within_renders t (low_tag_lem t v) u x.renders;
    clean = within_b t (low_tag_lem t v).byte x.clean;
  }

  -- one that its kinds tell
  pub offered_lawful : (d : Need) (t : ℕ) → T (bodily L) → T (low_tag t) → T (is_close A.stop) → T (not L.empty) →
      Lawful (grammar.slot d (grammar.tagged t P)) (λ s own. component s t d (λ at a e. p s at e a)) (when L.first (within t f)) (offer_look d L) (slot_look d t)
  offered_lawful d t u v w y = record {
    exact = λ site s b m own o. exact.component_law site s b m t (low_tag_lem t v) (body_exact w site s b m) d;
    renders = offered_renders d t (low_tag_lem t v) u y x.renders;
    clean = when_b L.first (within_b t (low_tag_lem t v).byte x.clean);
  }

  -- at least one
  pub least_lawful : T (repeats L) → T (not A.empty) → T (is_free A.stop) → T (clear A.first A.stop) →
      Lawful (grammar.◌and◌ P (many P)) (λ s own. p s own then (λ end at. repeat to_end (λ _. p s own) (end - at) 0 end at)) (r_all L.first f) (least_look L) (least_tags A)
  least_lawful t u v w = record {
    exact = λ site s b m own o. exact.seq (x.exact site s b m own o) (recount (λ _. 0) total_none (list_law m (λ _. p s own) (λ j h. lift_law j 0 h (x.exact site s b m own o)) u (free A.stop v) 0 (omega arith))) w;
    renders = least_renders t x.renders;
    clean = all_b L.first x.clean;
  }

  -- just one element, and then possibly fill
  pub alone_lawful : (kind : ℕ) → T (ltb kind 65536) → T (avoids (kind ∷ []) L.stop) → T (not A.empty) → T (is_free A.stop) → Solid A.first →
      Lawful (grammar.◌and◌ P (grammar.fill kind)) (λ s own. before_fill s (p s own) then only_fill s kind) (f next r_fill kind) (seq_look L (fill_look kind)) (exact.look A.first false close)
  alone_lawful kind t u n z real = record {
    exact = λ site s b m own o. alone_law site s b m (x.exact site s b m own o) n (free A.stop z) real kind;
    renders = and_renders x.renders (fill_renders kind t) u;
    clean = next_b x.clean (fill_b kind);
  }

-- a check of what was read: it refuses at the sequence, or lets it pass
pub data Judges (own : ℕ) (r : Res) : Res → Type 0 where
  passes : {w : Res} → w ≡ r → Judges own r w
  refuses : (x : Fault) → T (of_reading x) → {w : Res} → w ≡ fails x own → Judges own r w

-- where a check refuses lies in what is read
spot_in : (w : Spot) {own end n : ℕ} → own ≤ n → end ≤ n → spot w own end ≤ n
spot_in itself o l = o
spot_in ending o l = l

-- such a check says what is more to meet
pub record Checks (P : Part) (f : ℕ → Res → Res) (more : P.Of → Type 0) : Type 0 where
  pub fallen : (own : ℕ) (x : Fault) (p : ℕ) → f own (fails x p) ≡ fails x p
  pub judges : (own : ℕ) (bs : List Rec) (ms : List ℕ) (n : ℕ) → Judges own (took bs ms n) (f own (took bs ms n))
  pub sound : (own : ℕ) (v : Where) (y : P.Of) → P.Meets y → (ms : List ℕ) (n : ℕ) → f own (took (P.book v y) ms n) ≡ took (P.book v y) ms n → more y
  pub complete : (own : ℕ) (v : Where) (y : P.Of) → P.Meets y → more y → (ms : List ℕ) (n : ℕ) → f own (took (P.book v y) ms n) ≡ took (P.book v y) ms n

module _ {P : Part} {p : List ℕ → ℕ → Reader} {f : Renderer} {L : Look} {A : exact.Look} (x : Lawful P p f L A) (g : ℕ → Res → Res) (more : P.Of → Type 0) (c : Checks P g more) where
  with_reads : {site : Site} {s : List ℕ} (own : ℕ) → own ≤ length s → {t : Stop} {end at : ℕ} {r : Res} → exact.Reads site s P (λ _. 0) 0 0 t end at r → exact.Reads site s (grammar.with P more) (λ _. 0) 0 0 t end at (g own r)
  with_reads own o (exact.refuses {f = y} q i) = rw (c.fallen own y q) (exact.refuses q i)
  with_reads {site} {s} own o {t} {end} {at} (exact.takes {rs = rs} {ms = ms} {n = n} k) = go (c.judges own rs ms n) refl
    where
      go : {w : Res} → Judges own (took rs ms n) w → g own (took rs ms n) ≡ w → exact.Reads site s (grammar.with P more) (λ _. 0) 0 0 t end at w
      go (refuses y t e) z = rw e (exact.refuses own (o, t))
      go (passes e) z = rw e (exact.takes {rs = rs} {ms = ms} {n = n} (record {
        it = k.it;
        meets = (k.meets, c.sound own (here site at) k.it k.meets ms n (rw k.book at (z ∙ e)));
        low = k.low;
        high = k.high;
        bytes = k.bytes;
        book = k.book;
        counted = k.counted;
        marks = k.marks;
        room = k.room;
        closes = k.closes;
      }))

  -- where there is more to meet
  pub with_lawful : (w : Spot) → Lawful (grammar.with P more) (λ s own end at. g (spot w own end) (p s own end at)) f L A
  with_lawful w = record {
    exact = λ site s b m own o.
        let k = x.exact site s b m own o in
        record {
          sound = λ end at h l. with_reads (spot w own end) (spot_in w o l) (k.sound end at h l);
          starts = λ y z. k.starts y z.0;
          complete = λ end at h l y z r v u e.
              let q = k.complete end at h l y z.0 r v u e in
              record { ms = q.ms; n = q.n; is = rw q.is (c.complete (spot w own end) (here site at) y z.0 z.1 q.ms q.n); counted = q.counted; low = q.low; high = q.high; left = q.left };
        };
    renders = with_renders more x.renders;
    clean = x.clean;
  }

-- sealed contents, present even when empty
module _ (kind : ℕ) where
  abbrev sealed_read : List ℕ → ℕ → Reader
  sealed_read s own end at = keep (rec kind (slice at end s) ∷ []) end (sealed_run 16 s [] at end)

  sealed_exact : (site : Site) (s : List ℕ) → Bytes s → length s ≤ 32768 → (own : ℕ) → Plain site s (sealed_read s own) (grammar.raw (rec kind) (SealedRun 16 [])) (exact.look any_tag true close)
  sealed_exact site s b m own = record {
    sound = λ end at h l. go end at h l (sealed_run 16 s [] at end) refl;
    starts = λ x y. begins x y;
    complete = λ end at h l x y r w v q.
        let z : slice at end s ≡ x = q ∙ rw v (append-nil x) in
        rw v (exact.whole_goes h (rw (run_complete s m 16 [] at end h l (rw z y), z) refl));
  }
    where
      go : (end at : ℕ) → at ≤ end → end ≤ length s → (r : Run) → sealed_run 16 s [] at end ≡ r → exact.Reads site s (grammar.raw (rec kind) (SealedRun 16 [])) (λ _. 0) 0 0 close end at (keep (rec kind (slice at end s) ∷ []) end r)
      go end at h l (Err r) q = exact.refuses r.1 (omega (arith, (sealed_refuses 16 s [] at end h q).1), sealed_fault 16 s [] at end q)
      go end at h l (Ok i) q = exact.whole_reads (grammar.raw (rec kind) (SealedRun 16 [])) (rec kind (slice at end s) ∷ []) (slice at end s) (run_sound s b 16 [] at end h l q) h refl refl

      begins : {l : ℕ} (c : List ℕ) → SealedRun l [] c → exact.Starts any_tag true c
      begins c (grammar.over e) = exact.without tt e
      begins c (grammar.shallow x w i m k n e) = exact.begun x w i refl e
      begins c (grammar.deep x w i m k j n e) = exact.begun x w i refl e

  pub sealed_lawful : T (ltb kind 65536) → Lawful (grammar.raw (rec kind) (SealedRun 16 [])) sealed_read (r_keep kind) (look (kind ∷ []) false (kind ∷ []) 8) (exact.look any_tag true close)
  sealed_lawful t = record { exact = λ site s b m own o. sealed_exact site s b m own; renders = sealed_all_renders kind t; clean = keep_b kind }

-- a sealed component of one tag, which may lack
pub sealed_slot_lawful : (t kind : ℕ) → T (ltb kind 65536) → Lawful (grammar.optional (grammar.sealed_one (λ x. eqb x t) kind no_front)) (λ s own. component s t Optional (parts.sealed s kind [] t)) (r_keep kind) (rest_look kind) (slot_look Optional t)
unfolding r_keep
sealed_slot_lawful t kind k = record {
  exact = λ site s b m own o. exact.slot_law site s b m (grammar.sealed_one (λ x. eqb x t) kind no_front) t (narrow (λ x. first_of x ≡ t) (λ x e. eq-eqb (first_of x) t e) (λ x e. eqb-true (first_of x) t e) (sealed_law site s b m (λ x. eqb x t) kind no_front)) Optional;
  renders = optional_renders (grammar.sealed_one (λ x. eqb x t) kind no_front) tt (sealed_renders (λ x. eqb x t) kind k);
  clean = keep_b kind;
}

-- a record in front, told by what is behind it
module _ {P : Part} {p : List ℕ → ℕ → Reader} {f : Renderer} {L : Look} {A : exact.Look} (x : Lawful P p f L A) (kind most : ℕ) (g : P.Of → List ℕ) (by : List Rec → List ℕ) (same : (v : Where) (y : P.Of) → P.Meets y → by (P.book v y) ≡ g y) where
  headed_reads : {site : Site} {s : List ℕ} {t : Stop} {end at : ℕ} {r : Res} → exact.Reads site s P (λ _. 0) 0 0 t end at r → exact.Reads site s (grammar.behind P (λ y. rec kind (g y))) (λ _. 0) 0 0 t end at (headed_by kind by r)
  headed_reads (exact.refuses q i) = exact.refuses q i
  headed_reads {site} {at = at} (exact.takes {rs = rs} {ms = ms} {n = n} k) = exact.takes {rs = rec kind (by rs) ∷ rs} {ms = ms} {n = n} (record {
    it = k.it;
    meets = k.meets;
    low = k.low;
    high = k.high;
    bytes = k.bytes;
    book = rw (k.book, same (here site at) k.it k.meets) refl;
    counted = k.counted;
    marks = k.marks;
    room = k.room;
    closes = k.closes;
  })

  pub headed_lawful : T (ltb kind 65536) → T (leb most 4) → ((y : P.Of) → length (g y) ≤ most) → Lawful (grammar.behind P (λ y. rec kind (g y))) (λ s own end at. headed_by kind by (p s own end at)) (from (λ k q. f)) (look (kind ∷ []) false L.stop (4 + most + L.credit)) A
  headed_lawful t u short = record {
    exact = λ site s b m own o.
        let k = x.exact site s b m own o in
        record {
          sound = λ end at h l. headed_reads (k.sound end at h l);
          starts = k.starts;
          complete = λ end at h l y z r v w e.
              let q = k.complete end at h l y z r v w e in
              record { ms = q.ms; n = q.n; is = rw (q.is, same (here site at) y z) refl; counted = q.counted; low = q.low; high = q.high; left = q.left };
        };
    renders = behind_renders kind most g t u short x.renders;
    clean = from_b (λ k p a. x.clean);
  }

-- an element that must be there, by its tag
pub one_lawful : {I : Item} {b : List ℕ → ℕ → Body} {f : Renderer} {L : Look} → LawfulOne I b f L → Lawful (grammar.one I) (λ s own. parts.element s (b s)) f L (exact.look any_tag false (tags []))
one_lawful x = record { exact = λ site s b m own o. exact.element_law site s b m any_tag (x.exact site s b m) (λ _ _. refl); renders = x.renders; clean = x.clean }

-- sealed, whatever its tag
sealed_any : (kind : ℕ) (site : Site) (s : List ℕ) → Bytes s → length s ≤ 32768 → ItemLaw site s (λ t. parts.sealed s kind [] t) (grammar.sealed_one any_tag kind no_front) (λ _. 0) 0 0 Any
sealed_any kind site s b m = narrow Any (λ _ _. refl) (λ _ _. tt) (sealed_law site s b m any_tag kind no_front)

pub sealed_one_lawful : (kind : ℕ) → T (ltb kind 65536) → LawfulOne (grammar.sealed_one any_tag kind no_front) (λ s t. parts.sealed s kind [] t) plain (look (kind ∷ []) false [] 0)
sealed_one_lawful kind t = record { exact = sealed_any kind; renders = sealed_renders any_tag kind t; clean = plain_b }

-- the same, known by its kind
pub kept_lawful : (kind : ℕ) → T (ltb kind 65536) → Lawful (grammar.one (grammar.sealed_one any_tag kind no_front)) (λ s own. parts.element s (parts.sealed s kind [])) (r_keep kind) (look (kind ∷ []) false (kind ∷ []) 0) (exact.look any_tag false (tags []))
kept_lawful kind t = record { exact = λ site s b m own o. exact.element_law site s b m any_tag (sealed_any kind site s b m) (λ _ _. refl); renders = kept_renders any_tag kind t; clean = keep_b kind }

-- one of a tag, or else sealed
module _ {P : Part} {p : List ℕ → ℕ → Reader} {f : Renderer} {L : Look} {A : exact.Look} (x : Lawful P p f L A) (t kind : ℕ) where
  pub or_lawful : T (bodily L) → T (low_tag t) → T (is_close A.stop) → T (not L.empty) → T (avoids (kind ∷ []) L.first) → T (ltb kind 65536) →
      LawfulOne (grammar.◌or◌ (grammar.tagged t P) (grammar.sealed_one (is_not t) kind no_front)) (λ s v at a e. choose (eqb v t) (λ _. p s at e a) (λ _. parts.sealed s kind [] v at a e)) (either L.first (within t f) plain) (join_look (elem_look L) (plain_look kind))
  or_lawful u v w n d k = record {
    exact = λ site s b m. or_law (grammar.tagged t P) (grammar.sealed_one (is_not t) kind no_front) (λ _. 0) Any (λ v. eqb v t)
        (narrow (λ y. Any y × (eqb (first_of y) t ≡ true)) (λ y e. eqb-true (first_of y) t e.1) (λ y e. (tt, eq-eqb (first_of y) t e)) (exact.tagged_law site s b m t (low_tag_lem t v) (body_exact x w site s b m)))
        (narrow (λ y. Any y × (eqb (first_of y) t ≡ false)) (λ y e. rw e.1 refl) (λ y e. (tt, not-true (eqb (first_of y) t) e)) (sealed_law site s b m (is_not t) kind no_front));
    renders = or_renders (grammar.tagged t P) (grammar.sealed_one (is_not t) kind no_front) (within_renders t (low_tag_lem t v) u x.renders) (sealed_renders (is_not t) kind k) n tt d;
    clean = either_b L.first (within_b t (low_tag_lem t v).byte x.clean) plain_b;
  }

  -- the same where only these tags may come
  module _ (which : ℕ → Bool) (with_it : which t ≡ true) where
    abbrev others : ℕ → Bool
    others v = is_not t v && which v

    abbrev bodies : List ℕ → ℕ → Body
    bodies s v at a e = choose (eqb v t) (λ _. p s at e a) (λ _. parts.sealed s kind [] v at a e)

    each_law : T (low_tag t) → T (is_close A.stop) → (site : Site) (s : List ℕ) → Bytes s → length s ≤ 32768 → ItemLaw site s (bodies s) (grammar.◌or◌ (grammar.tagged t P) (grammar.sealed_one others kind no_front)) (λ _. 0) 0 0 (λ y. Any y × (which (first_of y) ≡ true))
    each_law v w site s b m = or_law (grammar.tagged t P) (grammar.sealed_one others kind no_front) (λ _. 0) (λ y. Any y × (which (first_of y) ≡ true)) (λ v. eqb v t)
        (narrow (λ y. (Any y × (which (first_of y) ≡ true)) × (eqb (first_of y) t ≡ true)) (λ y e. eqb-true (first_of y) t e.1) (λ y e. ((tt, rw e with_it), eq-eqb (first_of y) t e)) (exact.tagged_law site s b m t (low_tag_lem t v) (body_exact x w site s b m)))
        (narrow (λ y. (Any y × (which (first_of y) ≡ true)) × (eqb (first_of y) t ≡ false)) (λ y e. rw (e.1, e.0.1) refl) (λ y e. let g = both_true (is_not t (first_of y)) (which (first_of y)) e in ((tt, g.1), not-true (eqb (first_of y) t) g.0)) (sealed_law site s b m others kind no_front))

    pub those_lawful : T (bodily L) → T (low_tag t) → T (is_close A.stop) → T (not L.empty) → T (avoids (kind ∷ []) L.first) → T (ltb kind 65536) →
        LawfulCounted 0 (grammar.one (grammar.◌or◌ (grammar.tagged t P) (grammar.sealed_one others kind no_front))) (λ _. 0) (λ _ s k. parts.element s (λ v at a e. choose (which v) (λ _. bodies s v at a e) (λ _. fails NotDue at)))
        (either L.first (within t f) plain) (join_look (elem_look L) (plain_look kind)) (exact.look which false (tags []))
    those_lawful u v w n d k = record {
      exact = λ site s b m j h.
          let z : j ≡ 0 = omega (arith, h) in
          let g = each_law v w site s b m in
          rw z (exact.element_law site s b m which (otherwise_law Any which g) (λ i y. (g.begins i y).1));
      renders = or_renders (grammar.tagged t P) (grammar.sealed_one others kind no_front) (within_renders t (low_tag_lem t v) u x.renders) (sealed_renders others kind k) n tt d;
      clean = either_b L.first (within_b t (low_tag_lem t v).byte x.clean) plain_b;
    }

-- one of several, known by what is common to all
begins_any : {f : ℕ → Bool} {d : Bool} {c : List ℕ} (e : Bool) → (T d → T e) → exact.Starts f d c → exact.Starts any_tag e c
begins_any e h (exact.without z q) = exact.without (h z) q
begins_any e h (exact.begun x w i m q) = exact.begun x w i refl q

module _ {P : Part} {p : List ℕ → ℕ → Reader} {f : Renderer} {L : Look} {A : exact.Look} (x : Lawful P p f L A) (M : Look) (u : T (under L M)) where
  loose : (e : Bool) → (T A.empty → T e) → (t : Stop) → A.stop ≡ t → Lawful P p f M (exact.look any_tag e t)
  loose e h t q =
      let l : Lawful P p f M (exact.look any_tag e A.stop) = record {
        exact = λ site s b m own o. let k = x.exact site s b m own o in record { sound = k.sound; starts = λ y z. begins_any e h (k.starts y z); complete = k.complete };
        renders = weaken L M u x.renders;
        clean = x.clean;
      } in
      rw q at l

  pub closing : T (is_close A.stop) → Lawful P p f M (exact.look any_tag true close)
  closing z = loose true (λ _. tt) close (closed A.stop z)

  pub freely : T (is_free A.stop) → T (not A.empty) → Lawful P p f M (exact.look any_tag false (tags []))
  freely z n = loose false (λ e. absurd (T_not A.empty n e)) (tags []) (free A.stop z)

also_then : (r : Rec) (x : Res) (q : ℕ → Res) → and_then (also (r ∷ []) [] x) q ≡ also (r ∷ []) [] (and_then x q)
also_then r (fails f p) q = refl
also_then r (took bs ms n) q = go (q n)
  where
    go : (y : Res) → also (r ∷ bs) ms y ≡ also (r ∷ []) [] (also bs ms y)
    go (fails f p) = refl
    go (took cs ns m) = refl

ahead_exact : (f : Option Rec) (p q : Reader) {site : Site} {s : List ℕ} {P : Part} {c : P.Of → ℕ} {k N : ℕ} → BodyLaw site s (inside (p then q)) P c k N → BodyLaw site s (inside (ahead f p then q)) (part_ahead f P) c k N
ahead_exact none p q g = g
ahead_exact (some r) p q g =
    let f = behind_body r g in
    record {
      sound = λ at a e i h l. rw (also_then r (p e a) (λ n. q e n)) (f.sound at a e i h l);
      complete = λ at a e i h l x y z w. rw (also_then r (p e a) (λ n. q e n)) (f.complete at a e i h l x y z w);
    }

ahead_renders : (f : Option Rec) → Short f → {P Q : Part} {p q : Renderer} {L M : Look} → Renders P p L → Renders Q q M → T (avoids M.first (ahead_look f L).stop) → Renders (part_ahead f (grammar.◌and◌ P Q)) (r_ahead f p next q) (seq_look (ahead_look f L) M)
ahead_renders none z x y a = and_renders x y a
ahead_renders (some r) z {P} x y a = and_renders {P = grammar.behind P (λ _. r)} (behind_renders r.kind (length r.pay) (λ _. r.pay) z.0 z.1 (λ _. le_refl (length r.pay)) x) y a

ahead_clean : (f : Option Rec) {q : Renderer} → Outs q → Outs (r_ahead f q)
ahead_clean none g = g
ahead_clean (some r) g = from_b (λ k p a. g)

module _ {N : ℕ} {P : Part} {c : P.Of → ℕ} {p : Site → List ℕ → ℕ → Reader} {q : Renderer} {L : Look} {A : exact.Look} (x : LawfulCounted N P c p q L A) where
  -- one after the other, to the end of the container
  pub listed_lawful : T (repeats L) → T (not A.empty) → T (is_free A.stop) →
      LawfulCounted N (many P) (total c) (λ site s k end at. repeat to_end (p site s) (end - at) k end at) (r_all L.first q) (many_look L) (exact.look A.first true close)
  listed_lawful t n f = record {
    exact = λ site s b m k h. list_law m (p site s) (λ j i. x.exact site s b m j i) n (free A.stop f) k h;
    renders = many_renders t x.renders;
    clean = all_b L.first x.clean;
  }

  -- the same behind a record, and then possibly fill
  pub filed_lawful : (f : Option Rec) (kind : ℕ) → Short f → T (repeats L) → T (not A.empty) → T (is_free A.stop) → Solid A.first → T (ltb kind 65536) → T (avoids (kind ∷ []) (ahead_look f (many_look L)).stop) →
      LawfulFile N (part_ahead f (grammar.◌and◌ (many P) (grammar.fill kind))) (λ x. total c x.0) (λ site s k. ahead f (λ end at. repeat (to_fill s) (p site s) (end - at) k end at) then fill s kind)
      (r_ahead f (r_all L.first q) next r_fill kind) (seq_look (ahead_look f (many_look L)) (fill_look kind))
  filed_lawful f kind z t n u real w v = record {
    exact = λ site s b m k h. ahead_exact f (λ end at. repeat (to_fill s) (p site s) (end - at) k end at) (fill s kind) (filed_law m P c N (p site s) (λ j i. x.exact site s b m j i) n (free A.stop u) real kind k h);
    renders = ahead_renders f z (many_renders t x.renders) (fill_renders kind w) v;
    clean = next_b (ahead_clean f (all_b L.first x.clean)) (fill_b kind);
  }

  -- the same of at most one
  pub single_lawful : (f : Option Rec) (kind : ℕ) → Short f → T (repeats L) → T (not A.empty) → T (is_free A.stop) → Solid A.first → T (ltb kind 65536) → T (avoids (kind ∷ []) (ahead_look f (many_look L)).stop) →
      (g : Fault) → ((x : P.Of) → c x ≡ 1) → T (of_reading g) →
      LawfulFile N (grammar.with (part_ahead f (grammar.◌and◌ (many P) (grammar.fill kind))) (λ x. length x.0 ≤ 1)) (λ x. total c x.0) (λ site s k. ahead f (λ end at. repeat (to_fill s) (up_to (k + 1) g (p site s)) (end - at) k end at) then fill s kind)
      (r_ahead f (r_all L.first q) next r_fill kind) (seq_look (ahead_look f (many_look L)) (fill_look kind))
  single_lawful f kind z t n u real w v g once told = record {
    exact = λ site s b m k h. ahead_exact f (λ end at. repeat (to_fill s) (up_to (k + 1) g (p site s)) (end - at) k end at) (fill s kind) (single_law m P c once N (p site s) (λ j i. x.exact site s b m j i) n (free A.stop u) real g told kind k h);
    renders = with_renders (λ x. length x.0 ≤ 1) (filed_lawful f kind z t n u real w v).renders;
    clean = (filed_lawful f kind z t n u real w v).clean;
  }
