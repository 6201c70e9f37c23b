-- Fill is read as it is, and only so.
use Prim.Native.Nat.{ℕ, zero, suc, ◌+◌, ◌-◌, ◌≤◌, ◌<◌}
use Rattle.std.specs.Prelude.{List, [], ◌∷◌, ◌++◌, Bool, true, false, not, ◌||◌, ◌⊎◌, ◌≡◌, get_or, replicate, ltb, eqb, T}
use Rattle.std.proofs.Common.{append-nil, append_assoc, inl, inr, ◌∙◌, T_not}
use Rattle.std.proofs.Math.Option.{none, some}
use Rattle.std.proofs.Math.Path.{refl, sym, ap}
use native.Mathlib.Omega.{arith}
use Rattle.std.proofs.Math.Nat.{le_refl}
use Rattle.std.proofs.Math.ListN.{length}
use Rattle.std.proofs.Math.Seq.{slice, slice_empty, length-slice}
use borrow.Author.Tests.{ltb-true, ltb-false, lt-ltb, le-ltb, eqb-true, eq-eqb, ne_eqb}
use Rattle.elements.specs.declared.fault.Fault.{Fault}
use Rattle.elements.specs.ChoiceLaws.{by_choose, by_less}
use Rattle.elements.specs.Lists.{Bytes, Begins, begins, cons}
use Rattle.elements.specs.Put.{le16}
use Rattle.rules.specs.Reading.{rec, Res, took, fails, and_then, ◌then◌, Reader}
use Rattle.rules.specs.Parts.{repeat, up_to, inside, surplus}
use Rattle.rules.specs.Grammar.{Element, low, element_bytes, first_of, IsElement, Part, ◌and◌, with, many, rest, flat, each, AllMeet, total, Site, Where, here, ◌on◌}
use Rattle.rules.specs.ElementLaws.{is_end, head_complete}
use Rattle.rules.specs.FaultLaws.{of_reading, Told}
use Rattle.rules.specs.GrammarLaws.{Stop, Starts, without, begun, tags, close, Look, look, Reads, refuses, takes, Goes, then_goes, whole_reads, whole_goes, Law, BodyLaw, Plain, seq_also, seq_reads, by_head}
use Rattle.rules.specs.ItemLaws.{lift_law, ManyReads, stopped, went, many_sound, many_complete}
use Rattle.rules.specs.Fills as files
use Rattle.rules.specs.Fills.{to_fill, filled, before_fill, only_fill}
use Rattle.rules.specs.Grammar as card

-- fill
data Filled (s : List ℕ) (b g at : ℕ) : Res → Type 0 where
  no_fill : {f : Fault} (p : ℕ) → Told s f p → Filled s b g at (fails f p)
  fills : (n : ℕ) → n ≡ at + g → slice at n s ≡ replicate g b → Filled s b g at (took [] [] n)

module _ (s : List ℕ) where
  fill_more : (b g at : ℕ) → at + suc g ≤ length s → get_or s at 0 ≡ b → {r : Res} → Filled s b g (at + 1) r → Filled s b (suc g) at r
  fill_more b g at h e (no_fill p o) = no_fill p o
  fill_more b g at h e (fills n q w) = fills n (omega arith) (cons s at n (omega arith) (omega arith) ∙ rw (e, w) refl)

  filled_is : (b g end at : ℕ) → at + g ≤ length s → Filled s b g at (filled s b g end at)
  unfolding filled
  filled_is b zero end at h = fills at (omega arith) (slice_empty at s)
  filled_is b (suc g) end at h = by_choose (Filled s b (suc g) at) (eqb (get_or s at 0) b) (λ _ e. fill_more b g at h (eqb-true (get_or s at 0) b e) (filled_is b g end (at + 1) (omega arith))) (λ _ _. no_fill at (omega arith, tt))

  filled_complete : (b g end at : ℕ) → at + g ≤ length s → slice at (at + g) s ≡ replicate g b → filled s b g end at ≡ took [] [] (at + g)
  unfolding filled
  filled_complete b zero end at h e = let z : at + 0 ≡ at = omega arith in rw z refl
  filled_complete b (suc g) end at h e =
      let f : Begins s at (at + suc g) b (replicate g b) = begins s at (at + suc g) h e in
      let z : at + 1 + g ≡ at + suc g = omega arith in
      rw (f.first, eq-eqb b b refl) (filled_complete b g end (at + 1) (omega arith) (rw z f.rest) ∙ rw z refl)

  -- where elements end
  stop_byte : (end at : ℕ) → at < end → to_fill s end at ≡ false → (get_or s at 0 ≡ 0) ⊎ (get_or s at 0 ≡ 0xff)
  stop_byte end at h e = go (eqb (get_or s at 0) 0) refl (eqb (get_or s at 0) 0xff) refl (rw (lt-ltb at end h) at e)
    where
      go : (a : Bool) → eqb (get_or s at 0) 0 ≡ a → (b : Bool) → eqb (get_or s at 0) 0xff ≡ b → not (a || b) ≡ false → (get_or s at 0 ≡ 0) ⊎ (get_or s at 0 ≡ 0xff)
      go true p b q r = inl (eqb-true (get_or s at 0) 0 p)
      go false p true q r = inr (eqb-true (get_or s at 0) 0xff q)
      go false p false q r = let z : ◌≡◌ {A = ℕ} 0 1 = cc in absurd (omega arith)

  fill_part : (site : Site) → length s ≤ 32768 → (kind end at : ℕ) → at < end → end ≤ length s → (get_or s at 0 ≡ 0) ⊎ (get_or s at 0 ≡ 0xff) → {r : Res} → Filled s (get_or s at 0) (end - at) at r →
      Reads site s (card.fill kind) (λ _. 0) 0 0 close end at (and_then r (λ n. took (rec kind (get_or s at 0 ∷ le16 (end - at)) ∷ []) [] n))
  fill_part site small kind end at h l b (no_fill p o) = refuses p o
  fill_part site small kind end at h l b (fills n q w) =
      let z : n ≡ end = omega arith in
      rw z (whole_reads (card.fill kind) (rec kind (get_or s at 0 ∷ le16 (end - at)) ∷ []) (some (get_or s at 0, end - at)) (b, omega arith, omega arith) (omega arith) (rw z at w) refl)

  fill_sound : (site : Site) → length s ≤ 32768 → (kind end at : ℕ) → at ≤ end → end ≤ length s → to_fill s end at ≡ false → Reads site s (card.fill kind) (λ _. 0) 0 0 close end at (files.fill s kind end at)
  unfolding files.fill
  fill_sound site small kind end at h l e = by_choose (Reads site s (card.fill kind) (λ _. 0) 0 0 close end at) (ltb at end)
      (λ _ u. let i = ltb-true at end u in fill_part site small kind end at i l (stop_byte end at i e) (filled_is (get_or s at 0) (end - at) end at (omega arith)))
      (λ _ u. takes {n = at} (record { it = none; meets = tt; low = le_refl at; high = h; bytes = refl; book = refl; counted = refl; marks = tt; room = le_refl 0; closes = λ _. omega (arith, ltb-false at end u) }))

  -- where elements end and fill begins, or the file does
  fill_stops : (kind end at : ℕ) (x : (card.fill kind).Of) → at ≤ end → end ≤ length s → (card.fill kind).Meets x → slice at end s ≡ (card.fill kind).bytes x → to_fill s end at ≡ false
  fill_stops kind end at none h l m e = let z : at ≡ end = is_end s at end h l e in rw (le-ltb at end (omega arith)) refl
  fill_stops kind end at (some (b, zero)) h l m e = absurd (omega (arith, m.1))
  fill_stops kind end at (some (b, suc n)) h l m e =
      let f : Begins s at end b (replicate n b) = begins s at end l e in
      rw (lt-ltb at end f.before, f.first) (go b m.0)
    where
      go : (b : ℕ) → (b ≡ 0) ⊎ (b ≡ 0xff) → not (eqb b 0 || eqb b 0xff) ≡ false
      go b (inl z) = rw z refl
      go b (inr z) = rw z refl

  length-replicate : (n b : ℕ) → length (replicate n b) ≡ n
  length-replicate zero b = refl
  length-replicate (suc n) b = omega (arith, length-replicate n b)

  fill_complete : (kind end at : ℕ) (x : (card.fill kind).Of) → at ≤ end → end ≤ length s → (card.fill kind).Meets x → slice at end s ≡ (card.fill kind).bytes x → (v : Where) → Goes s end at ((card.fill kind).book v x) 0 [] (files.fill s kind end at)
  unfolding files.fill
  fill_complete kind end at none h l m e v = let z : at ≡ end = is_end s at end h l e in record { ms = []; n = at; is = rw (le-ltb at end (omega arith)) refl; counted = refl; low = le_refl at; high = h; left = e }
  fill_complete kind end at (some (b, zero)) h l m e v = absurd (omega (arith, m.1))
  fill_complete kind end at (some (b, suc n)) h l m e v =
      let f : Begins s at end b (replicate n b) = begins s at end l e in
      let z : end - at ≡ suc n = sym (length-slice at end s l) ∙ ap length e ∙ length-replicate (suc n) b in
      let w : at + suc n ≡ end = omega (arith, f.before) in
      whole_goes h (rw (lt-ltb at end f.before, f.first, z, filled_complete b (suc n) end at (omega arith) (rw w e), w) refl)

-- elements, and then fill
module _ {site : Site} {s : List ℕ} (small : length s ≤ 32768) (P : Part) (c : P.Of → ℕ) (N : ℕ) (f : ℕ → Reader) {L : Look} (item : (j : ℕ) → j ≤ N → Law site s (f j) P c j N L) (solid : T (not L.empty)) (free : L.stop ≡ tags [])
    (real : (t : ℕ) → L.first t ≡ true → (t ≡ 0 → ⊥) × (t ≡ 0xff → ⊥)) where
  filed_goes : (end at : ℕ) (x : Element) (w : List ℕ) → at ≤ end → end ≤ length s → IsElement x → L.first (first_of x) ≡ true → slice at end s ≡ element_bytes x ++ w → to_fill s end at ≡ true
  filed_goes end at x w h l i m e =
      let v = head_complete s small at end x w h l i e in
      let b : first_of x ≡ get_or s at 0 = v.der.first in
      let r = real (first_of x) m in
      rw (lt-ltb at end (omega (arith, v.stands.after, v.stands.order, v.stands.inside)), ← b, ne_eqb (first_of x) 0 r.0, ne_eqb (first_of x) 0xff r.1) refl

  filed_reads : (kind : ℕ) {k end at : ℕ} {r : Res} → end ≤ length s → ManyReads site s P c k N (to_fill s) end at r → Reads site s (many P and card.fill kind) (λ x. total c x.0) k N close end at (and_then r (λ n. files.fill s kind end n))
  filed_reads kind l (stopped p o) = refuses p o
  filed_reads kind {end = end} l (went {n = n} x g) = seq_also true l x (fill_sound s site small kind end n x.high l g)

  filed_complete : (kind k : ℕ) (xs : List P.Of) (v : (card.fill kind).Of) → AllMeet P.Meets xs → (card.fill kind).Meets v → (end at : ℕ) → at ≤ end → end ≤ length s → k + total c xs ≤ N → slice at end s ≡ flat P.bytes xs ++ (card.fill kind).bytes v →
      Goes s end at (each P.bytes P.book (here site at) xs ++ (card.fill kind).book (here site at on length (flat P.bytes xs)) v) (total c xs) [] (and_then (repeat (to_fill s) f (end - at) k end at) (λ n. files.fill s kind end n))
  filed_complete kind k xs v y m end at h l r e =
      let a = many_complete P c N (to_fill s) f item solid free filed_goes xs y (end - at) k end at r h l (le_refl (end - at)) ((card.fill kind).bytes v) e (λ i u q. fill_stops s kind end i v u l m q) in
      then_goes (λ n. files.fill s kind end n) a (fill_complete s kind end a.n v a.high l m a.left (here site at on length (flat P.bytes xs)))

  pub filed_law : (kind k : ℕ) → k ≤ N → BodyLaw site s (inside ((λ end at. repeat (to_fill s) f (end - at) k end at) then files.fill s kind)) (many P and card.fill kind) (λ x. total c x.0) k N
  filed_law kind k i = record {
    sound = λ at a e _ h l. filed_reads kind l (many_sound P c N (to_fill s) f item (e - a) k e a i h l);
    complete = λ at a e _ h l x y r q. filed_complete kind k x.0 x.1 y.0 y.1 e a h l r q;
  }

-- at most one element, and then fill: a second is g
module _ {site : Site} {s : List ℕ} (small : length s ≤ 32768) (P : Part) (c : P.Of → ℕ) (once : (x : P.Of) → c x ≡ 1) (N : ℕ) (f : ℕ → Reader) {L : Look} (item : (j : ℕ) → j ≤ N → Law site s (f j) P c j N L) (solid : T (not L.empty)) (free : L.stop ≡ tags [])
    (real : (t : ℕ) → L.first t ≡ true → (t ≡ 0 → ⊥) × (t ≡ 0xff → ⊥)) (g : Fault) (told : T (of_reading g)) where
  -- up to m of them, and N in all: the lesser is M
  record Least (m M : ℕ) : Type 0 where
    first : M ≤ m
    second : M ≤ N
    both : (i : ℕ) → i ≤ m → i ≤ N → i ≤ M

  fewer_reads : {m M : ℕ} → Least m M → (j : ℕ) → j < m → {t : Stop} {end at : ℕ} {r : Res} → Reads site s P c j N t end at r → Reads site s P c j M t end at r
  fewer_reads v j h (refuses p o) = refuses p o
  fewer_reads v j h (takes {rs = rs} {ms = ms} {n = n} k) = takes {rs = rs} {ms = ms} {n = n} (record {
    it = k.it;
    meets = k.meets;
    low = k.low;
    high = k.high;
    bytes = k.bytes;
    book = k.book;
    counted = k.counted;
    marks = k.marks;
    room = v.both (j + c k.it) (omega (arith, once k.it)) k.room;
    closes = k.closes;
  })

  up_to_law : {m M : ℕ} → Least m M → (j : ℕ) → j ≤ M → Law site s (up_to m g f j) P c j M L
  up_to_law {m} {M} v j h =
      let l = item j (omega (arith, v.second)) in
      record {
        sound = λ end at i e. by_choose (Reads site s P c j M L.stop end at) (ltb j m) (λ _ u. fewer_reads v j (ltb-true j m u) (l.sound end at i e)) (λ _ _. refuses at (omega arith, told));
        starts = l.starts;
        complete = λ end at i e x y r w q z. rw (lt-ltb j m (omega (arith, once x, v.first))) (l.complete end at i e x y (omega (arith, v.second)) w q z);
      }

  total_once : (xs : List P.Of) → total c xs ≡ length xs
  total_once [] = refl
  total_once (x ∷ xs) = omega (arith, once x, total_once xs)

  abbrev Few : List P.Of × (card.fill 0).Of → Type 0
  Few x = length x.0 ≤ 1

  single_reads : (kind : ℕ) {k M : ℕ} → Least (k + 1) M → {end at : ℕ} {r : Res} → Reads site s (many P and card.fill kind) (λ x. total c x.0) k M close end at r → Reads site s (with (many P and card.fill kind) Few) (λ x. total c x.0) k N close end at r
  single_reads kind v (refuses p o) = refuses p o
  single_reads kind v (takes {rs = rs} {ms = ms} {n = n} k) = takes {rs = rs} {ms = ms} {n = n} (record {
    it = k.it;
    meets = (k.meets, omega (arith, total_once k.it.0, k.room, v.first));
    low = k.low;
    high = k.high;
    bytes = k.bytes;
    book = k.book;
    counted = k.counted;
    marks = k.marks;
    room = omega (arith, k.room, v.second);
    closes = k.closes;
  })

  pub single_law : (kind k : ℕ) → k ≤ N → BodyLaw site s (inside ((λ end at. repeat (to_fill s) (up_to (k + 1) g f) (end - at) k end at) then files.fill s kind)) (with (many P and card.fill kind) Few) (λ x. total c x.0) k N
  single_law kind k i =
      by_less k N
      (λ l. go (k + 1) (omega arith) (record { first = le_refl (k + 1); second = omega arith; both = λ j a b. a }))
      (λ l. go N i (record { first = omega arith; second = le_refl N; both = λ j a b. b }))
    where
      go : (M : ℕ) → k ≤ M → Least (k + 1) M → BodyLaw site s (inside ((λ end at. repeat (to_fill s) (up_to (k + 1) g f) (end - at) k end at) then files.fill s kind)) (with (many P and card.fill kind) Few) (λ x. total c x.0) k N
      go M h v =
          let l = filed_law small P c M (up_to (k + 1) g f) (up_to_law v) solid free real kind k h in
          record {
            sound = λ at a e i h l'. single_reads kind v (l.sound at a e i h l');
            complete = λ at a e i h l' x y r q. l.complete at a e i h l' x y.0 (v.both (k + total c x.0) (omega (arith, total_once x.0, y.1)) r) q;
          }

-- just one element, and then fill
module _ (site : Site) (s : List ℕ) (bytes : Bytes s) (small : length s ≤ 32768) {P : Part} {p : Reader} {L : Look} (law : Plain site s p P L) (solid : T (not L.empty)) (free : L.stop ≡ tags []) (real : (t : ℕ) → L.first t ≡ true → (t ≡ 0 → ⊥) × (t ≡ 0xff → ⊥)) where
  alone_first : (end at : ℕ) → at ≤ end → end ≤ length s → Reads site s P (λ _. 0) 0 0 L.stop end at (before_fill s p end at)
  alone_first end at h l = by_choose (Reads site s P (λ _. 0) 0 0 L.stop end at) (to_fill s end at) (λ _ _. law.sound end at h l) (λ _ _. refuses end (l, tt))

  alone_fill : (kind end at : ℕ) → at ≤ end → end ≤ length s → Reads site s (card.fill kind) (λ _. 0) 0 0 close end at (only_fill s kind end at)
  alone_fill kind end at h l = by_choose (Reads site s (card.fill kind) (λ _. 0) 0 0 close end at) (to_fill s end at)
      (λ _ _. by_head s bytes small (Reads site s (card.fill kind) (λ _. 0) 0 0 close end at) (surplus at) end at h l (λ _ p o. refuses p o) (λ _ _ _ _. refuses at (omega arith, tt))) (λ _ e. fill_sound s site small kind end at h l e)

  alone_goes : (end at : ℕ) {b : List ℕ} (w : List ℕ) → at ≤ end → end ≤ length s → {d : Bool} → T (not d) → Starts L.first d b → slice at end s ≡ b ++ w → to_fill s end at ≡ true
  alone_goes end at w h l {d} z (without u e) q = absurd (T_not d z u)
  alone_goes end at w h l z (begun x v i m e) q = filed_goes small P (λ _. 0) 0 (λ _. p) (λ j k. lift_law j 0 k law) solid free real end at x (v ++ w) h l i m (q ∙ rw e (append_assoc (element_bytes x) v w))

  pub alone_law : (kind : ℕ) → Plain site s (before_fill s p then only_fill s kind) (P and card.fill kind) (look L.first false close)
  alone_law kind = record {
    sound = λ end at h l. seq_reads true l (alone_first end at h l) (λ m i j. alone_fill kind end m j l);
    starts = λ x y. begins_more ((card.fill kind).bytes x.1) solid (law.starts x.0 y.0);
    complete = λ end at h l x y r w v e.
        let b = (card.fill kind).bytes x.1 in
        let q : slice at end s ≡ P.bytes x.0 ++ b = e ∙ rw v (append-nil (P.bytes x.0 ++ b)) in
        let a = law.complete end at h l x.0 y.0 (le_refl 0) b (rw free tt) q in
        let d = fill_complete s kind end a.n x.1 a.high l y.1 a.left (here site at on length (P.bytes x.0)) in
        rw (v, alone_goes end at b h l solid (law.starts x.0 y.0) q) (then_goes (λ n. only_fill s kind end n) a (rw (fill_stops s kind end a.n x.1 a.high l y.1 a.left) d));
  }
    where
      begins_more : {d : Bool} {b : List ℕ} (w : List ℕ) → T (not d) → Starts L.first d b → Starts L.first false (b ++ w)
      begins_more {d} w z (without u e) = absurd (T_not d z u)
      begins_more w z (begun x v i m e) = begun x (v ++ w) i m (rw e (append_assoc (element_bytes x) v w))
