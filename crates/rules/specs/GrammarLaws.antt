-- A reader reads a part: what it takes is the part's encoding, and every encoding is taken. One law for each way to put parts together.
use Prim.Native.Nat.{ℕ, suc, ◌+◌, ◌-◌, ◌≤◌, ◌<◌}
use mathlib.Core.List.{List, [], ◌∷◌, ◌++◌, append_assoc, append-nil}
use Rattle.std.specs.Prelude.{Bool, true, not, ◌||◌, ◌&&◌, ◌≡◌, ltb, eqb, T, Err, Ok}
use Rattle.std.proofs.Math.Bool.{false}
use Rattle.std.proofs.Math.Option.{none, some}
use Rattle.std.proofs.Math.Path.{refl, sym, ap}
use Rattle.std.proofs.Common.{◌∙◌, subst, length-append}
use native.Mathlib.Omega.{arith}
use Rattle.std.proofs.Math.Nat.{le_refl}
use Rattle.std.proofs.Math.ListN.{length}
use Rattle.std.proofs.Math.Seq.{slice, slice_empty, length-slice}
use borrow.Author.Tests.{ltb-true, ltb-false, lt-ltb, le-ltb, eqb-true, eq-eqb}
use Rattle.elements.specs.declared.fault.Fault.{Fault}
use Rattle.elements.specs.declared.fault.Fault.TheVariants.{BadSize, NotDue, Missing}
use Rattle.elements.specs.Choice.{choose}
use Rattle.elements.specs.ChoiceLaws.{by_choose}
use Rattle.elements.specs.Lists.{Bytes, cons, join}
use Rattle.elements.specs.Header.{header}
use Rattle.elements.specs.HeaderLaws.{header_refuses}
use Rattle.elements.specs.SealedLaws.{sealed_refuses}
use Rattle.elements.specs.Sealed.{among, sealed_run}
use Rattle.rules.specs.declared.table.Need.{Need}
use Rattle.rules.specs.declared.table.Need.TheVariants.{Required, Optional, Default}
use Rattle.rules.specs.Reading.{Rec, rec, Res, took, fails, also, and_then, ◌then◌, Reader, Body}
use Rattle.rules.specs.Parts as parts
use Rattle.rules.specs.Parts.{component, due, absent, surplus, whatever, inside, keep}
use Rattle.rules.specs.Grammar.{Element, low, element_bytes, first_of, IsElement, SealedRun, over, shallow, deep, Site, Where, here, into, Part, Item, empty, ◌and◌, one, optional, slot, tagged, choice, raw, unless_empty, rest}
use Rattle.rules.specs.ElementLaws.{is_end, Stands, Headed, head_sound, Placed, head_complete, run_sound, run_complete}
use Rattle.rules.specs.FaultLaws.{Told, header_fault, sealed_fault}
use Rattle.elements.specs.Answer.{Head, Run, found, refused}
pub use Rattle.rules.specs.ElementLaws.{low_tag, LowTag, low_tag_lem, low_is, low_first, low_bytes}

-- what may not follow a part: elements with one of these tags, or anything
pub data Stop : Type 0 where
  tags : List ℕ → Stop
  close : Stop

abbrev pub is_close : Stop → Bool
is_close (tags l) = false
is_close close = true

-- the tags that a part may begin with, whether it may have no byte, what may not follow it
pub record Look : Type 0 where
  pub first : ℕ → Bool
  pub empty : Bool
  pub stop : Stop

abbrev pub look : (ℕ → Bool) → Bool → Stop → Look
look f e t = record { first = f; empty = e; stop = t }

pub data Starts (f : ℕ → Bool) (e : Bool) (c : List ℕ) : Type 0 where
  without : T e → c ≡ [] → Starts f e c
  begun : (x : Element) (w : List ℕ) → IsElement x → f (first_of x) ≡ true → c ≡ element_bytes x ++ w → Starts f e c

-- nothing more, or an element whose tag is none of these
pub data Next (l w : List ℕ) : Type 0 where
  nothing : w ≡ [] → Next l w
  another : (x : Element) (v : List ℕ) → IsElement x → among (first_of x) l ≡ false → w ≡ element_bytes x ++ v → Next l w

abbrev pub Follows : Stop → List ℕ → Type 0
Follows close w = w ≡ []
Follows (tags []) w = Unit {0}
Follows (tags (t ∷ l)) w = Next (t ∷ l) w

pub follows_end : (t : Stop) → Follows t []
follows_end close = refl
follows_end (tags []) = tt
follows_end (tags (t ∷ l)) = nothing refl

-- places that lie in the dump
abbrev pub Marks : ℕ → List ℕ → Type 0
Marks n [] = Unit {0}
Marks n (m ∷ ms) = (m ≤ n) × Marks n ms

pub marks_append : (n : ℕ) (l m : List ℕ) → Marks n l → Marks n m → Marks n (l ++ m)
marks_append n [] m h g = g
marks_append n (x ∷ l) m h g = (h.0, marks_append n l m h.1 g)

-- what was taken: c counts what is counted in it, of N in all, k before it; ms are the places of these
pub record Facts (site : Site) (s : List ℕ) (P : Part) (c : P.Of → ℕ) (k N : ℕ) (t : Stop) (end at : ℕ) (rs : List Rec) (ms : List ℕ) (n : ℕ) : Type 0 where
  pub it : P.Of
  pub meets : P.Meets it
  pub low : at ≤ n
  pub high : n ≤ end
  pub bytes : slice at end s ≡ P.bytes it ++ slice n end s
  pub book : rs ≡ P.book (here site at) it
  pub counted : length ms ≡ c it
  pub marks : Marks (length s) ms
  pub room : k + c it ≤ N
  pub closes : T (is_close t) → n ≡ end

pub data Reads (site : Site) (s : List ℕ) (P : Part) (c : P.Of → ℕ) (k N : ℕ) (t : Stop) (end at : ℕ) : Res → Type 0 where
  refuses : {f : Fault} (p : ℕ) → Told s f p → Reads site s P c k N t end at (fails f p)
  takes : {rs : List Rec} {ms : List ℕ} {n : ℕ} → Facts site s P c k N t end at rs ms n → Reads site s P c k N t end at (took rs ms n)

pub record Goes (s : List ℕ) (end at : ℕ) (rs : List Rec) (m : ℕ) (w : List ℕ) (r : Res) : Type 0 where
  pub ms : List ℕ
  pub n : ℕ
  pub is : r ≡ took rs ms n
  pub counted : length ms ≡ m
  pub low : at ≤ n
  pub high : n ≤ end
  pub left : slice n end s ≡ w

-- a part ends so many bytes behind its start
pub progress : (s b w : List ℕ) (at n end : ℕ) → at ≤ end → n ≤ end → end ≤ length s → slice at end s ≡ b ++ w → slice n end s ≡ w → n ≡ at + length b
progress s b w at n end h i l e q =
    let x : end - at ≡ length b + length w = sym (length-slice at end s l) ∙ ap length e ∙ length-append b w in
    let y : end - n ≡ length w = sym (length-slice n end s l) ∙ ap length q in
    omega arith

pub reached : {site : Site} {s : List ℕ} {P : Part} {c : P.Of → ℕ} {k N : ℕ} {t : Stop} {end at : ℕ} {rs : List Rec} {ms : List ℕ} {n : ℕ} → end ≤ length s → (f : Facts site s P c k N t end at rs ms n) → n ≡ at + length (P.bytes f.it)
reached {s = s} {P = P} {end = end} {at = at} {n = n} l f = progress s (P.bytes f.it) (slice n end s) at n end (omega (arith, f.low, f.high)) f.high l f.bytes refl

-- one after the other
pub then_goes : {s : List ℕ} {end at : ℕ} {bs cs : List Rec} {m : ℕ} {v w : List ℕ} {r : Res} (k : ℕ → Res) (a : Goes s end at bs m v r) → Goes s end a.n cs 0 w (k a.n) → Goes s end at (bs ++ cs) m w (and_then r k)
then_goes k a b = record {
  ms = a.ms ++ b.ms;
  n = b.n;
  is = rw (a.is, b.is) refl;
  counted = length-append a.ms b.ms ∙ omega (arith, a.counted, b.counted);
  low = omega (arith, a.low, b.low);
  high = b.high;
  left = b.left;
}

pub record Law (site : Site) (s : List ℕ) (p : Reader) (P : Part) (c : P.Of → ℕ) (k N : ℕ) (L : Look) : Type 0 where
  pub sound : (end at : ℕ) → at ≤ end → end ≤ length s → Reads site s P c k N L.stop end at (p end at)
  pub starts : (x : P.Of) → P.Meets x → Starts L.first L.empty (P.bytes x)
  pub complete : (end at : ℕ) → at ≤ end → end ≤ length s → (x : P.Of) → P.Meets x → k + c x ≤ N → (w : List ℕ) → Follows L.stop w → slice at end s ≡ P.bytes x ++ w →
      Goes s end at (P.book (here site at) x) (c x) w (p end at)

-- the same of what is inside an element
pub record BodyLaw (site : Site) (s : List ℕ) (b : Body) (P : Part) (c : P.Of → ℕ) (k N : ℕ) : Type 0 where
  pub sound : (at a e : ℕ) → at ≤ a → a ≤ e → e ≤ length s → Reads site s P c k N close e a (b at a e)
  pub complete : (at a e : ℕ) → at ≤ a → a ≤ e → e ≤ length s → (x : P.Of) → P.Meets x → k + c x ≤ N → slice a e s ≡ P.bytes x → Goes s e a (P.book (here site a) x) (c x) [] (b at a e)

-- where nothing is counted
abbrev pub Plain : Site → List ℕ → Reader → (P : Part) → Look → Type 0
Plain site s p P L = Law site s p P (λ _. 0) 0 0 L

abbrev pub PlainBody : Site → List ℕ → Body → Part → Type 0
PlainBody site s b P = BodyLaw site s b P (λ _. 0) 0 0

-- one part after the other
abbrev pub seq_stop : Stop → Bool → Stop → Stop
seq_stop t e close = close
seq_stop t false (tags l) = tags l
seq_stop (tags m) true (tags l) = tags (l ++ m)
seq_stop close true (tags l) = close

abbrev pub none_of : (ℕ → Bool) → List ℕ → Bool
none_of f [] = true
none_of f (x ∷ l) = not (f x) && none_of f l

abbrev pub clear : (ℕ → Bool) → Stop → Bool
clear f (tags l) = none_of f l
clear f close = false

abbrev pub seq_look : Look → Look → Look
seq_look L M = look (λ t. L.first t || (L.empty && M.first t)) (L.empty && M.empty) (seq_stop L.stop M.empty M.stop)

pub or_false : (a b : Bool) → (a || b) ≡ false → (a ≡ false) × (b ≡ false)
or_false true b e = let z : ◌≡◌ {A = ℕ} 0 1 = cc in absurd (omega arith)
or_false false b e = (refl, e)

among_append : (x : ℕ) (l m : List ℕ) → among x (l ++ m) ≡ false → (among x l ≡ false) × (among x m ≡ false)
among_append x [] m e = (refl, e)
among_append x (y ∷ l) m e =
    let a = or_false (eqb x y) (among x (l ++ m)) e in
    let b = among_append x l m a.1 in
    (rw a.0 b.0, b.1)

none_among : (f : ℕ → Bool) (x : ℕ) (l : List ℕ) → T (none_of f l) → f x ≡ true → among x l ≡ false
none_among f x [] t e = refl
none_among f x (y ∷ l) t e = go (eqb x y) refl (f y) refl t (none_among f x l)
  where
    go : (b : Bool) → eqb x y ≡ b → (d : Bool) → f y ≡ d → T (not d && none_of f l) → (T (none_of f l) → f x ≡ true → among x l ≡ false) → (b || among x l) ≡ false
    go true u true v w ih = absurd w
    go true u false v w ih = let z : x ≡ y = eqb-true x y u in let o : ◌≡◌ {A = Bool} true false = cc in let q : ◌≡◌ {A = ℕ} 0 1 = cc in absurd (omega arith)
    go false u true v w ih = absurd w
    go false u false v w ih = ih w e

next_later : (l m : List ℕ) {w : List ℕ} → Next (l ++ m) w → Next m w
next_later l m (nothing q) = nothing q
next_later l m (another x v i j q) = another x v i (among_append (first_of x) l m j).1 q

next_sooner : (l m : List ℕ) {w : List ℕ} → Next (l ++ m) w → Next l w
next_sooner l m (nothing q) = nothing q
next_sooner l m (another x v i j q) = another x v i (among_append (first_of x) l m j).0 q

pub follow_on : (f : ℕ → Bool) (d : Bool) (t u : Stop) {b : List ℕ} (w : List ℕ) → T (clear f t) → Starts f d b → Follows (seq_stop t d u) w → Follows t (b ++ w)
follow_on f d close u w g a h = absurd g
follow_on f d (tags []) u w g a h = tt
follow_on f d (tags (y ∷ l)) u {b} w g (begun x v i m e) h = another x (v ++ w) i (none_among f (first_of x) (y ∷ l) g m) (rw e (append_assoc (element_bytes x) v w))
follow_on f true (tags (y ∷ l)) close w g (without z e) h = rw e (nothing h)
follow_on f true (tags (y ∷ l)) (tags []) w g (without z e) h = rw e h
follow_on f true (tags (y ∷ l)) (tags (x ∷ m)) w g (without z e) h = rw e (next_later (x ∷ m) (y ∷ l) h)
follow_on f false (tags (y ∷ l)) u w g (without z e) h = absurd z

pub follow_right : (d : Bool) (t u : Stop) (w : List ℕ) → Follows (seq_stop t d u) w → Follows u w
follow_right d t close w h = h
follow_right false t (tags l) w h = h
follow_right true close (tags []) w h = tt
follow_right true close (tags (x ∷ l)) w h = nothing h
follow_right true (tags m) (tags []) w h = tt
follow_right true (tags m) (tags (x ∷ l)) w h = next_sooner (x ∷ l) m h

pub starts_seq : (f g : ℕ → Bool) (d e : Bool) {a b : List ℕ} → Starts f d a → Starts g e b → Starts (λ t. f t || (d && g t)) (d && e) (a ++ b)
starts_seq f g d e {b = b} (begun x w i m q) h = begun x (w ++ b) i (rw m refl) (rw q (append_assoc (element_bytes x) w b))
starts_seq f g false e (without z q) h = absurd z
starts_seq f g true e (without z q) (without y r) = without y (rw (q, r) refl)
starts_seq f g true e (without z q) (begun x w i m r) = begun x w i (rw m (go (f (first_of x)))) (rw (q, r) refl)
  where
    go : (b : Bool) → (b || true) ≡ true
    go true = refl
    go false = refl

seq_closes : (t u : Stop) (d : Bool) {m n end : ℕ} → m ≤ n → n ≤ end → (T (is_close t) → m ≡ end) → (T (is_close u) → n ≡ end) → T (is_close (seq_stop t d u)) → n ≡ end
seq_closes t close d h k f g z = g z
seq_closes t (tags l) false h k f g z = absurd z
seq_closes (tags m) (tags l) true h k f g z = absurd z
seq_closes close (tags l) true h k f g z = let e = f tt in omega arith

module _ {site : Site} {s : List ℕ} {P Q : Part} {c : P.Of → ℕ} {k N : ℕ} where
  pub seq_also : {t u : Stop} {end at m : ℕ} (d : Bool) {bs : List Rec} {ms : List ℕ} {r : Res} → end ≤ length s → Facts site s P c k N t end at bs ms m → Reads site s Q (λ _. 0) 0 0 u end m r →
      Reads site s (P and Q) (λ x. c x.0) k N (seq_stop t d u) end at (also bs ms r)
  seq_also d l f (refuses p o) = refuses p o
  seq_also {t} {u} {end} {at} {m} d {bs} {ms} l f (takes {rs = cs} {ms = ns} {n = n} g) = takes {rs = bs ++ cs} {ms = ms ++ ns} {n = n} (record {
    it = (f.it, g.it);
    meets = (f.meets, g.meets);
    low = omega (arith, f.low, g.low);
    high = g.high;
    bytes = f.bytes ∙ rw g.bytes (sym (append_assoc (P.bytes f.it) (Q.bytes g.it) (slice n end s)));
    book = rw (f.book, g.book) (ap (λ i. P.book (here site at) f.it ++ Q.book (here site i) g.it) (reached l f));
    counted = length-append ms ns ∙ omega (arith, f.counted, g.counted);
    marks = marks_append (length s) ms ns f.marks g.marks;
    room = f.room;
    closes = seq_closes t u d g.low g.high f.closes g.closes;
  })

  pub seq_reads : {t u : Stop} {end at : ℕ} (d : Bool) {r : Res} {q : ℕ → Res} → end ≤ length s → Reads site s P c k N t end at r → ((m : ℕ) → at ≤ m → m ≤ end → Reads site s Q (λ _. 0) 0 0 u end m (q m)) →
      Reads site s (P and Q) (λ x. c x.0) k N (seq_stop t d u) end at (and_then r q)
  seq_reads d l (refuses p o) g = refuses p o
  seq_reads d l (takes {n = n} f) g = seq_also d l f (g n f.low f.high)

  pub seq : {p q : Reader} {L M : Look} → Law site s p P c k N L → Plain site s q Q M → T (clear M.first L.stop) → Law site s (p then q) (P and Q) (λ x. c x.0) k N (seq_look L M)
  seq {p} {q} {L} {M} f g z = record {
    sound = λ end at h l. seq_reads M.empty l (f.sound end at h l) (λ m i j. g.sound end m j l);
    starts = λ x y. starts_seq L.first M.first L.empty M.empty (f.starts x.0 y.0) (g.starts x.1 y.1);
    complete = λ end at h l x y r w v e.
        let a = f.complete end at h l x.0 y.0 r (Q.bytes x.1 ++ w)
        (follow_on M.first M.empty L.stop M.stop w z (g.starts x.1 y.1) v) (e ∙ append_assoc (P.bytes x.0) (Q.bytes x.1) w) in
        let z = progress s (P.bytes x.0) (Q.bytes x.1 ++ w) at a.n end h a.high l (e ∙ append_assoc (P.bytes x.0) (Q.bytes x.1) w) a.left in
        then_goes (λ n. q end n) a (subst (λ (i : ℕ). Goes s end a.n (Q.book (here site i) x.1) 0 w (q end a.n)) z (g.complete end a.n a.high l x.1 y.1 (le_refl 0) w (follow_right M.empty L.stop M.stop w v) a.left));
  }

-- nothing
pub none_law : (site : Site) (s : List ℕ) → Plain site s (λ end at. took [] [] at) empty (look (λ _. false) true (tags []))
none_law site s = record {
  sound = λ end at h l. takes (record { it = tt; meets = tt; low = le_refl at; high = h; bytes = refl; book = refl; counted = refl; marks = tt; room = le_refl 0; closes = λ u. absurd u });
  starts = λ x y. without tt refl;
  complete = λ end at h l x y r w v e. record { ms = []; n = at; is = refl; counted = refl; low = le_refl at; high = h; left = e };
}

-- up to the end of a container
pub inside_law : {site : Site} {s : List ℕ} {p : Reader} {P : Part} {c : P.Of → ℕ} {k N : ℕ} {L : Look} → Law site s p P c k N L → L.stop ≡ close → BodyLaw site s (inside p) P c k N
inside_law {site} {s} {p} {P} {c} {k} {N} {L} f z = record {
  sound = λ at a e _ h l. subst (λ (t : Stop). Reads site s P c k N t e a (p e a)) z (f.sound e a h l);
  complete = λ at a e _ h l x y r q. f.complete e a h l x y r [] (follows_end L.stop) (q ∙ sym (append-nil (P.bytes x)));
}

-- what ends with its container
pub whole_reads : {site : Site} {s : List ℕ} (P : Part) {a e : ℕ} (rs : List Rec) (x : P.Of) → P.Meets x → a ≤ e → slice a e s ≡ P.bytes x → rs ≡ P.book (here site a) x → Reads site s P (λ _. 0) 0 0 close e a (took rs [] e)
whole_reads {s = s} P {a} {e} rs x y h q r = takes {n = e} (record {
  it = x;
  meets = y;
  low = h;
  high = le_refl e;
  bytes = rw (slice_empty e s) (q ∙ sym (append-nil (P.bytes x)));
  book = r;
  counted = refl;
  marks = tt;
  room = le_refl 0;
  closes = λ _. refl;
})

pub whole_goes : {s : List ℕ} {a e : ℕ} {rs : List Rec} {r : Res} → a ≤ e → r ≡ took rs [] e → Goes s e a rs 0 [] r
whole_goes {s} {a} {e} h q = record { ms = []; n = e; is = q; counted = refl; low = h; high = le_refl e; left = slice_empty e s }

-- bytes in a record of their own, by a test of their length
pub raw_law : {site : Site} {s : List ℕ} (r : List ℕ → Rec) (M : List ℕ → Type 0) (test : ℕ → Bool) → ((c : List ℕ) → test (length c) ≡ true → M c) → ((c : List ℕ) → M c → test (length c) ≡ true) →
    PlainBody site s (λ at a e. choose (test (e - a)) (λ _. took (r (slice a e s) ∷ []) [] e) (λ _. fails BadSize at)) (raw r M)
raw_law {site} {s} r M test g k = record {
  sound = λ at a e i h l.
      by_choose (Reads site s (raw r M) (λ _. 0) 0 0 close e a) (test (e - a))
      (λ _ u. whole_reads (raw r M) (r (slice a e s) ∷ []) (slice a e s) (g (slice a e s) (rw (length-slice a e s l) u)) h refl refl) (λ _ _. refuses at (omega arith, tt));
  complete = λ at a e _ h l x y _ q.
      let z : e - a ≡ length x = sym (length-slice a e s l) ∙ ap length q in
      whole_goes h (rw (z, k x y, q) refl);
}

module _ (s : List ℕ) (bytes : Bytes s) (small : length s ≤ 32768) where
  -- by the header at a place
  pub by_head : (X : Res → Type 0) (g : Head → Res) (end at : ℕ) → at ≤ end → end ≤ length s → ((f : Fault) (p : ℕ) → Told s f p → X (g (refused f p))) → ((t a e : ℕ) → Headed s at end t a e → X (g (found t a e))) → X (g (header s at end))
  by_head X g end at h l x y = go (header s at end) refl
    where
      go : (w : Head) → header s at end ≡ w → X (g w)
      go (Err r) q = x r.0 r.1 (omega (arith, (header_refuses s at end h q).1), header_fault s at end q)
      go (Ok x) q = y x.0 x.1 x.2 (head_sound s bytes at end l q)

module _ (site : Site) (s : List ℕ) (bytes : Bytes s) (small : length s ≤ 32768) where
  -- the rest of a sequence
  rest_sound : (kind : ℕ) (out : List ℕ) (end at : ℕ) → at ≤ end → end ≤ length s → Reads site s (rest kind out) (λ _. 0) 0 0 close end at (parts.rest s kind out end at)
  unfolding parts.rest
  rest_sound kind out end at h l =
      by_choose (Reads site s (rest kind out) (λ _. 0) 0 0 close end at) (ltb at end) (λ _ u. go (ltb-true at end u) (sealed_run 16 s out at end) refl)
      (λ _ u. takes {n = at} (record { it = []; meets = over refl; low = le_refl at; high = h; bytes = refl; book = refl; counted = refl; marks = tt; room = le_refl 0; closes = λ _. omega (arith, ltb-false at end u) }))
    where
      go : at < end → (r : Run) → sealed_run 16 s out at end ≡ r → Reads site s (rest kind out) (λ _. 0) 0 0 close end at (keep (rec kind (slice at end s) ∷ []) end r)
      go u (Err r) q = refuses r.1 (omega (arith, (sealed_refuses 16 s out at end h q).1), sealed_fault 16 s out at end q)
      go u (Ok i) q = whole_reads (rest kind out) (rec kind (slice at end s) ∷ []) (slice at end s) (run_sound s bytes 16 out at end h l q) h refl (rw (cons s at end u l) refl)

  rest_starts : (out c : List ℕ) {l : ℕ} → SealedRun l out c → Starts (λ t. not (among t out)) true c
  rest_starts out c (over e) = without tt e
  rest_starts out c (shallow x w i m k n e) = begun x w i (rw m refl) e
  rest_starts out c (deep x w i m k j n e) = begun x w i (rw m refl) e

  rest_complete : (kind : ℕ) (out c : List ℕ) (end at : ℕ) → at ≤ end → end ≤ length s → SealedRun 16 out c → slice at end s ≡ c → Goes s end at (unless_empty kind c) 0 [] (parts.rest s kind out end at)
  unfolding parts.rest
  rest_complete kind out [] end at h l r e = record { ms = []; n = at; is = rw (le-ltb at end (omega (arith, is_end s at end h l e))) refl; counted = refl; low = le_refl at; high = h; left = e }
  rest_complete kind out (x ∷ c) end at h l r e =
      let z : end - at ≡ suc (length c) = sym (length-slice at end s l) ∙ ap length e in
      whole_goes h (rw (lt-ltb at end (omega arith), run_complete s small 16 out at end h l (rw e r), e) refl)

  pub rest_law : (kind : ℕ) (out : List ℕ) → Plain site s (parts.rest s kind out) (rest kind out) (look (λ t. not (among t out)) true close)
  rest_law kind out = record {
    sound = rest_sound kind out;
    starts = λ x y. rest_starts out x y;
    complete = λ end at h l x y _ w v e. rw v (rest_complete kind out x end at h l y (e ∙ rw v (append-nil x)));
  }

  -- and nothing more is due
  ended_reads : {P : Part} {c : P.Of → ℕ} {k N : ℕ} {t : Stop} {end at : ℕ} {r : Res} → end ≤ length s → Reads site s P c k N t end at r → Reads site s P c k N close end at (and_then r (λ n. parts.ended s end n))
  unfolding parts.ended
  ended_reads l (refuses p o) = refuses p o
  ended_reads {P} {c} {k} {N} {t} {end} {at} l (takes {rs = rs} {ms = ms} {n = n} f) =
      by_choose (λ x. Reads site s P c k N close end at (also rs ms x)) (ltb n end)
      (λ _ _. by_head s bytes small (λ x. Reads site s P c k N close end at (also rs ms x)) (surplus n) end n f.high l (λ _ p o. refuses p o) (λ _ _ _ _. refuses n (omega (arith, f.high), tt)))
      (λ _ u. takes {rs = rs ++ []} {ms = ms ++ []} {n = n} (record { it = f.it; meets = f.meets; low = f.low; high = f.high; bytes = f.bytes; book = append-nil rs ∙ f.book; counted = rw append-nil f.counted; marks = rw append-nil f.marks; room = f.room; closes = λ _. omega (arith, f.high, ltb-false n end u) }))

  ended_goes : {end at : ℕ} {rs : List Rec} {m : ℕ} {r : Res} → end ≤ length s → Goes s end at rs m [] r → Goes s end at rs m [] (and_then r (λ n. parts.ended s end n))
  unfolding parts.ended
  ended_goes {end} {at} {rs} l g =
      let z : g.n ≡ end = is_end s g.n end g.high l g.left in
      record { ms = g.ms ++ []; n = g.n; is = rw (g.is, le-ltb g.n end (omega arith), append-nil rs) refl; counted = rw append-nil g.counted; low = g.low; high = g.high; left = g.left }

  pub ended_law : {p : Reader} {P : Part} {c : P.Of → ℕ} {k N : ℕ} {L : Look} → Law site s p P c k N L → Law site s (p then parts.ended s) P c k N (look L.first L.empty close)
  ended_law {p} {P} {c} {k} {N} {L} f = record {
    sound = λ end at h l. ended_reads l (f.sound end at h l);
    starts = f.starts;
    complete = λ end at h l x y r w v e. rw v (ended_goes l (f.complete end at h l x y r [] (follows_end L.stop) (e ∙ rw v refl)));
  }

-- every element
abbrev pub Any : Element → Type 0
Any x = Unit {0}

-- an element by its body, for those of `dom`
pub record ItemLaw (site : Site) (s : List ℕ) (b : ℕ → Body) (I : Item) (c : I.Of → ℕ) (k N : ℕ) (dom : Element → Type 0) : Type 0 where
  pub sound : (x : Element) → IsElement x → dom x → (end at a e : ℕ) → Stands s at end x a e → end ≤ length s → Reads site s (one I) c k N close e at (b (first_of x) at a e)
  pub is : (i : I.Of) → I.Meets i → IsElement (I.shape i)
  pub begins : (i : I.Of) → I.Meets i → dom (I.shape i)
  pub complete : (i : I.Of) → I.Meets i → k + c i ≤ N → (end at a e : ℕ) → Stands s at end (I.shape i) a e → end ≤ length s → Goes s e at (I.book (here site at) i) (c i) [] (b (first_of (I.shape i)) at a e)

-- where its contents start
stands_inside : {s : List ℕ} {at end a e : ℕ} {x : Element} → Stands s at end x a e → e ≤ length s → a ≡ at + (length (element_bytes x) - length x.contents)
stands_inside {s} {at} {end} {a} {e} st l =
    let y = sym (length-slice at e s l) ∙ ap length st.whole in
    let z = sym (length-slice a e s l) ∙ ap length st.within in
    omega (arith, st.after, st.order)

module _ (site : Site) (s : List ℕ) (bytes : Bytes s) (small : length s ≤ 32768) where
  widen : {P : Part} {c : P.Of → ℕ} {k N : ℕ} {end at e : ℕ} (l : List ℕ) {r : Res} → at ≤ e → e ≤ end → Reads site s P c k N close e at r → Reads site s P c k N (tags l) end at r
  widen l h i (refuses p o) = refuses p o
  widen {P} {end = end} {at = at} {e = e} l h i (takes {n = n} f) =
      let z : n ≡ e = f.closes tt in
      takes {n = n} (record {
        it = f.it;
        meets = f.meets;
        low = f.low;
        high = omega (arith, f.high);
        bytes = sym (join at e end s h i) ∙ rw (f.bytes, z, slice_empty e s, append-nil (P.bytes f.it)) refl;
        book = f.book;
        counted = f.counted;
        marks = f.marks;
        room = f.room;
        closes = λ u. absurd u;
      })

  element_goes : {end at : ℕ} {x : Element} {w : List ℕ} {rs : List Rec} {m : ℕ} {r : Res} (v : Placed s at end x w) → end ≤ length s → Goes s v.e at rs m [] r → Goes s end at rs m w r
  element_goes v l g =
      let st = v.stands in
      let z : g.n ≡ v.e = is_end s g.n v.e g.high (omega (arith, st.inside)) g.left in
      record { ms = g.ms; n = g.n; is = g.is; counted = g.counted; low = g.low; high = omega (arith, g.high, st.inside); left = rw z v.left }

  pub element_law : {b : ℕ → Body} {I : Item} {c : I.Of → ℕ} {k N : ℕ} (first : ℕ → Bool) → ItemLaw site s b I c k N Any → ((i : I.Of) → I.Meets i → first (first_of (I.shape i)) ≡ true) →
      Law site s (parts.element s b) (one I) c k N (look first false (tags []))
  unfolding parts.element
  element_law {b} {I} {c} {k} {N} first f g = record {
    sound = λ end at h l.
        by_choose (Reads site s (one I) c k N (tags []) end at) (ltb at end) (λ _ _.
        by_head s bytes small (Reads site s (one I) c k N (tags []) end at) (whatever b at) end at h l (λ _ p o. refuses p o) (λ t a e v.
        let st = v.stands in
        rw v.tag at (widen [] (omega (arith, st.after, st.order)) st.inside (f.sound v.x v.element tt end at a e st l))))
        (λ _ _. refuses end (l, tt));
    starts = λ i y. begun (I.shape i) [] (f.is i y) (g i y) (sym (append-nil (element_bytes (I.shape i))));
    complete = λ end at h l i y r w _ e.
        let v = head_complete s small at end (I.shape i) w h l (f.is i y) e in
        let st = v.stands in
        element_goes v l (rw (lt-ltb at end (omega (arith, st.after, st.order, st.inside)), st.is) (f.complete i y r end at v.a v.e st l));
  }

  -- an element of a tag t, from what is inside it: f makes the item
  pub shaped_reads : (at : ℕ) (P : Part) (I : Item) {c : P.Of → ℕ} (d : I.Of → ℕ) {k N : ℕ} (t : ℕ) (f : P.Of → I.Of) → ((y : P.Of) → I.shape (f y) ≡ low t (P.bytes y)) → ((y : P.Of) → P.book (into (here site at) (low t (P.bytes y))) y ≡ I.book (here site at) (f y)) →
      ((y : P.Of) → P.Meets y → I.Meets (f y)) → ((y : P.Of) → c y ≡ d (f y)) → LowTag t → (x : Element) → first_of x ≡ t → {end a e : ℕ} {r : Res} → Stands s at end x a e → e ≤ length s → Reads site s P c k N close e a r → Reads site s (one I) d k N close e at r
  shaped_reads at P I d t f sh bk mt ct z x q st l (refuses p o) = refuses p o
  shaped_reads at P I d t f sh bk mt ct z x q {end} {a} {e} st l (takes {n = n} g) =
      let n≡e : n ≡ e = g.closes tt in
      let w : slice a e s ≡ P.bytes g.it = g.bytes ∙ rw (n≡e, slice_empty e s) (append-nil (P.bytes g.it)) in
      let y : element_bytes (low t (P.bytes g.it)) ≡ element_bytes x = rw (← w, st.within) (low_bytes x t z q) in
      let i : a ≡ at + (length (element_bytes (low t (P.bytes g.it))) - length (P.bytes g.it)) = stands_inside st l ∙ rw (y, ← w, st.within) refl in
      takes {n = n} (record {
        it = f g.it;
        meets = mt g.it g.meets;
        low = omega (arith, st.after, st.order);
        high = omega arith;
        bytes = st.whole ∙ rw (sh g.it, y, n≡e, slice_empty e s) (sym (append-nil (element_bytes x)));
        book = g.book ∙ ap (λ j. P.book (here site j) g.it) i ∙ bk g.it;
        counted = g.counted ∙ ct g.it;
        marks = g.marks;
        room = omega (arith, g.room, ct g.it);
        closes = g.closes;
      })

  pub inside_goes : {end at a e : ℕ} {x : Element} {m : ℕ} {r : Res} (f : Where → List Rec) → Stands s at end x a e → e ≤ length s → Goes s e a (f (here site a)) m [] r → Goes s e at (f (into (here site at) x)) m [] r
  inside_goes {end} {at} {a} {e} {x} {m} {r} f st l h =
      let g : Goes s e a (f (into (here site at) x)) m [] r = subst (λ (i : ℕ). Goes s e a (f (here site i)) m [] r) (stands_inside st l) h in
      record { ms = g.ms; n = g.n; is = g.is; counted = g.counted; low = omega (arith, st.after, g.low); high = g.high; left = g.left }

  -- an element of one tag
  pub tagged_law : {b : Body} {P : Part} {c : P.Of → ℕ} {k N : ℕ} (tag : ℕ) → LowTag tag → BodyLaw site s b P c k N → ItemLaw site s (λ _. b) (tagged tag P) c k N (λ x. first_of x ≡ tag)
  tagged_law {b} {P} {c} tag z f = record {
    sound = λ x i d end at a e st l. shaped_reads at P (tagged tag P) c tag (λ y. y) (λ _. refl) (λ _. refl) (λ _ m. m) (λ _. refl) z x d st (omega (arith, st.inside)) (f.sound at a e (omega (arith, st.after)) st.order (omega (arith, st.inside)));
    is = λ i y. low_is tag (P.bytes i) z;
    begins = λ i y. low_first tag (P.bytes i) z;
    complete = λ i y r end at a e st l. inside_goes (λ v. P.book v i) st (omega (arith, st.inside)) (f.complete at a e (omega (arith, st.after)) st.order (omega (arith, st.inside)) i y r st.within);
  }

  -- an element with one of the tags
  pub choice_law : (which : ℕ → Bool) {b : ℕ → Body} (P : ℕ → Part) (c : (t : ℕ) → (P t).Of → ℕ) {k N : ℕ} → ((t : ℕ) → which t ≡ true → LowTag t) → ((t : ℕ) → which t ≡ true → BodyLaw site s (b t) (P t) (c t) k N) →
      ItemLaw site s b (choice which P) (λ x. c x.0 x.1) k N (λ x. which (first_of x) ≡ true)
  choice_law which {b} P c z f = record {
    sound = λ x i m end at a e st l.
        let t = first_of x in
        shaped_reads at (P t) (choice which P) (λ x. c x.0 x.1) t (λ y. (t, y)) (λ _. refl) (λ _. refl) (λ _ y. (m, y)) (λ _. refl) (z t m) x refl st (omega (arith, st.inside)) ((f t m).sound at a e (omega (arith, st.after)) st.order (omega (arith, st.inside)));
    is = λ i y. low_is i.0 ((P i.0).bytes i.1) (z i.0 y.0);
    begins = λ i y. rw (low_first i.0 ((P i.0).bytes i.1) (z i.0 y.0)) y.0;
    complete = λ i y r end at a e st l. rw (low_first i.0 ((P i.0).bytes i.1) (z i.0 y.0)) (inside_goes (λ v. (P i.0).book v i.1) st (omega (arith, st.inside)) ((f i.0 y.0).complete at a e (omega (arith, st.after)) st.order (omega (arith, st.inside)) i.1 y.1 r st.within));
  }

-- a component: it is there, or it may lack
abbrev pub slot_look : Need → ℕ → Look
slot_look Required t = look (λ x. eqb x t) false (tags [])
slot_look Optional t = look (λ x. eqb x t) true (tags (t ∷ []))
slot_look (Default d) t = look (λ x. eqb x t) true (tags (t ∷ []))

module _ {site : Site} {s : List ℕ} (I : Item) {end at : ℕ} where
  to_some : {l m : List ℕ} {r : Res} → Reads site s (one I) (λ _. 0) 0 0 (tags l) end at r → Reads site s (optional I) (λ _. 0) 0 0 (tags m) end at r
  to_some (refuses p o) = refuses p o
  to_some (takes f) = takes (record { it = some f.it; meets = f.meets; low = f.low; high = f.high; bytes = f.bytes; book = f.book; counted = f.counted; marks = f.marks; room = f.room; closes = λ u. absurd u })

  lacking : {l : List ℕ} → at ≤ end → Reads site s (optional I) (λ _. 0) 0 0 (tags l) end at (took [] [] at)
  lacking h = takes (record { it = none; meets = tt; low = le_refl at; high = h; bytes = refl; book = refl; counted = refl; marks = tt; room = le_refl 0; closes = λ u. absurd u })

  slot_there : (need : Need) (t : ℕ) {r : Res} → Reads site s (one I) (λ _. 0) 0 0 (tags []) end at r → Reads site s (slot need I) (λ _. 0) 0 0 (slot_look need t).stop end at r
  slot_there Required t f = f
  slot_there Optional t f = to_some f
  slot_there (Default d) t f = to_some f

  slot_absent : (need : Need) (t : ℕ) (f : Fault) (p : ℕ) → Told s f p → at ≤ end → Reads site s (slot need I) (λ _. 0) 0 0 (slot_look need t).stop end at (absent need at (fails f p))
  slot_absent Required t f p o h = refuses p o
  slot_absent Optional t f p o h = lacking h
  slot_absent (Default d) t f p o h = lacking h

-- a component of one tag, by the law of its element
module _ (site : Site) (s : List ℕ) (bytes : Bytes s) (small : length s ≤ 32768) (I : Item) {b : ℕ → Body} (tag : ℕ) (law : ItemLaw site s b I (λ _. 0) 0 0 (λ x. first_of x ≡ tag)) where
  due_sound : (need : Need) (end at : ℕ) → at ≤ end → end ≤ length s → Reads site s (slot need I) (λ _. 0) 0 0 (slot_look need tag).stop end at (component s tag need (b tag) end at)
  unfolding component
  due_sound need end at h l =
      by_choose (Reads site s (slot need I) (λ _. 0) 0 0 (slot_look need tag).stop end at) (ltb at end) (λ _ _.
      by_head s bytes small (Reads site s (slot need I) (λ _. 0) 0 0 (slot_look need tag).stop end at) (due tag need (b tag) at) end at h l (λ _ p o. refuses p o) (λ t a e v.
      let st = v.stands in
      by_choose (Reads site s (slot need I) (λ _. 0) 0 0 (slot_look need tag).stop end at) (eqb t tag)
      (λ _ q. let first : first_of v.x ≡ tag = v.tag ∙ eqb-true t tag q in slot_there I need tag (widen site s bytes small [] (omega (arith, st.after, st.order)) st.inside (rw first at (law.sound v.x v.element first end at a e st l))))
      (λ _ _. slot_absent I need tag NotDue at (omega arith, tt) h)))
      (λ _ _. slot_absent I need tag Missing end (l, tt) h)

  -- it is there
  there : (need : Need) (end at : ℕ) → at ≤ end → end ≤ length s → (x : I.Of) → I.Meets x → (w : List ℕ) → slice at end s ≡ element_bytes (I.shape x) ++ w → Goes s end at (I.book (here site at) x) 0 w (component s tag need (b tag) end at)
  unfolding component
  there need end at h l x y w e =
      let v = head_complete s small at end (I.shape x) w h l (law.is x y) e in
      let st = v.stands in
      let first = law.begins x y in
      let g = law.complete x y (le_refl 0) end at v.a v.e st l in
      element_goes site s bytes small v l (rw (lt-ltb at end (omega (arith, st.after, st.order, st.inside)), st.is, first, eq-eqb tag tag refl) (rw first at g))

  -- it is not there
  away : (need : Need) (end at : ℕ) → at ≤ end → end ≤ length s → ((r : Res) → absent need at r ≡ took [] [] at) → (w : List ℕ) → Next (tag ∷ []) w → slice at end s ≡ w → Goes s end at [] 0 w (component s tag need (b tag) end at)
  unfolding component
  away need end at h l k w (nothing q) e =
      let n : at ≡ end = is_end s at end h l (e ∙ q) in
      record { ms = []; n = at; is = rw (le-ltb at end (omega arith)) (k (fails Missing end)); counted = refl; low = le_refl at; high = h; left = e }
  away need end at h l k w (another x u i m q) e =
      let v = head_complete s small at end x u h l i (e ∙ q) in
      let st = v.stands in
      record { ms = []; n = at; is = rw (lt-ltb at end (omega (arith, st.after, st.order, st.inside)), st.is, (or_false (eqb (first_of x) tag) false m).0) (k (fails NotDue at)); counted = refl; low = le_refl at; high = h; left = e }

  begins_it : (e : Bool) (x : I.Of) → I.Meets x → Starts (λ t. eqb t tag) e (element_bytes (I.shape x))
  begins_it e x y = begun (I.shape x) [] (law.is x y) (rw (law.begins x y) (eq-eqb tag tag refl)) (sym (append-nil (element_bytes (I.shape x))))

  slot_starts : (need : Need) (x : (slot need I).Of) → (slot need I).Meets x → Starts (slot_look need tag).first (slot_look need tag).empty ((slot need I).bytes x)
  slot_starts Required x y = begins_it false x y
  slot_starts Optional none y = without tt refl
  slot_starts Optional (some x) y = begins_it true x y
  slot_starts (Default d) none y = without tt refl
  slot_starts (Default d) (some x) y = begins_it true x y

  due_complete : (need : Need) (end at : ℕ) → at ≤ end → end ≤ length s → (x : (slot need I).Of) → (slot need I).Meets x → (w : List ℕ) → Follows (slot_look need tag).stop w →
      slice at end s ≡ (slot need I).bytes x ++ w → Goes s end at ((slot need I).book (here site at) x) 0 w (component s tag need (b tag) end at)
  due_complete Required end at h l x y w v e = there Required end at h l x y w e
  due_complete Optional end at h l none y w v e = away Optional end at h l (λ _. refl) w v e
  due_complete Optional end at h l (some x) y w v e = there Optional end at h l x y w e
  due_complete (Default d) end at h l none y w v e = away (Default d) end at h l (λ _. refl) w v e
  due_complete (Default d) end at h l (some x) y w v e = there (Default d) end at h l x y w e

  pub slot_law : (need : Need) → Plain site s (component s tag need (b tag)) (slot need I) (slot_look need tag)
  slot_law need = record { sound = due_sound need; starts = slot_starts need; complete = λ end at h l x y _ w v e. due_complete need end at h l x y w v e }

-- by what is inside it
pub component_law : (site : Site) (s : List ℕ) → Bytes s → length s ≤ 32768 → {P : Part} {b : Body} (tag : ℕ) → LowTag tag → PlainBody site s b P → (need : Need) → Plain site s (component s tag need b) (slot need (tagged tag P)) (slot_look need tag)
component_law site s bytes small {P} tag z f need = slot_law site s bytes small (tagged tag P) tag (tagged_law site s bytes small tag z f) need
