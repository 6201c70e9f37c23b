-- Laws of what is chosen by a tag, of what is sealed, of a record in front, and of repetition.
use Prim.Native.Nat.{ℕ, zero, suc, ◌+◌, ◌-◌, ◌≤◌}
use mathlib.Core.List.{List, [], ◌∷◌, ◌++◌, append_assoc}
use Rattle.std.specs.Prelude.{Bool, false, not, ◌⊎◌, ◌≡◌, T, Err, Ok}
use Rattle.std.proofs.Math.Bool.{true}
use Rattle.std.proofs.Common.{inl, inr, ◌∙◌, subst, arith, T_not, ltb-false, lt-ltb, le-ltb}
use Rattle.std.proofs.Math.Path.{refl, sym, ap}
use Rattle.std.proofs.Math.Nat.{le_refl}
use Rattle.std.proofs.Math.ListN.{length, length-append}
use Rattle.std.proofs.Math.Seq.{slice, length-slice}
use Rattle.elements.specs.declared.fault.Fault.{Fault}
use Rattle.elements.specs.declared.fault.Fault.TheVariants.{NotDue}
use Rattle.elements.specs.Choice.{choose}
use Rattle.elements.specs.ChoiceLaws.{by_choose}
use Rattle.elements.specs.Lists.{Bytes}
use Rattle.elements.specs.Length.{tag_bytes}
use Rattle.elements.specs.Sealed.{constructed, sealed_run}
use Rattle.elements.specs.SealedLaws.{sealed_refuses}
use Rattle.rules.specs.Reading.{Rec, rec, Res, took, fails, also, Reader, Body}
use Rattle.rules.specs.Parts as parts
use Rattle.rules.specs.Rulings.{counts}
use Rattle.rules.specs.Parts.{counted, repeat, to_end, keep}
use Rattle.rules.specs.Grammar.{Element, element_bytes, first_of, IsElement, SealedIn, Part, Item, ◌or◌, one, behind, many, sealed_one, flat, each, AllMeet, total, Site, Where, here}
use Rattle.rules.specs.ElementLaws.{tag_is, is_end, Stands, run_sound, run_complete, head_complete}
use Rattle.rules.specs.FaultLaws.{Told, sealed_fault}
use Rattle.rules.specs.GrammarLaws.{marks_append, Stop, tags, close, Look, look, Starts, without, begun, Follows, Facts, Reads, refuses, takes, Goes, progress, reached, Law, BodyLaw, Plain, PlainBody, ItemLaw, whole_reads, whole_goes}
use Rattle.elements.specs.Answer.{Run, refused}

-- the same with more room
pub lift_reads : {site : Site} {s : List ℕ} {P : Part} {t : Stop} {end at : ℕ} (k N : ℕ) {r : Res} → k ≤ N → Reads site s P (λ _. 0) 0 0 t end at r → Reads site s P (λ _. 0) k N t end at r
lift_reads k N h (refuses p o) = refuses p o
lift_reads k N h (takes f) = takes (record { it = f.it; meets = f.meets; low = f.low; high = f.high; bytes = f.bytes; book = f.book; counted = f.counted; marks = f.marks; room = omega arith; closes = f.closes })

pub lift_body : {site : Site} {s : List ℕ} {b : Body} {P : Part} (k N : ℕ) → k ≤ N → PlainBody site s b P → BodyLaw site s b P (λ _. 0) k N
lift_body k N h f = record { sound = λ at a e j i l. lift_reads k N h (f.sound at a e j i l); complete = λ at a e j i l x y _ q. f.complete at a e j i l x y (le_refl 0) q }

pub lift_item : {site : Site} {s : List ℕ} {b : ℕ → Body} {I : Item} {dom : Element → Type 0} (k N : ℕ) → k ≤ N → ItemLaw site s b I (λ _. 0) 0 0 dom → ItemLaw site s b I (λ _. 0) k N dom
lift_item k N h f = record {
  sound = λ x i d end at a e st l. lift_reads k N h (f.sound x i d end at a e st l);
  is = f.is;
  begins = f.begins;
  complete = λ i y _ end at a e st l. f.complete i y (le_refl 0) end at a e st l;
}

-- for others
pub narrow : {site : Site} {s : List ℕ} {b : ℕ → Body} {I : Item} {c : I.Of → ℕ} {k N : ℕ} {dom : Element → Type 0} (to : Element → Type 0) → ((x : Element) → to x → dom x) → ((x : Element) → dom x → to x) → ItemLaw site s b I c k N dom → ItemLaw site s b I c k N to
narrow to g h f = record {
  sound = λ x i d end at a e st l. f.sound x i (g x d) end at a e st l;
  is = f.is;
  begins = λ i y. h _ (f.begins i y);
  complete = f.complete;
}

-- the same element as another item
pub mapped_reads : {site : Site} {s : List ℕ} (I J : Item) {c : I.Of → ℕ} (d : J.Of → ℕ) {k N : ℕ} {t : Stop} {end at : ℕ} (f : I.Of → J.Of) → ((i : I.Of) → J.shape (f i) ≡ I.shape i) → ((v : Where) (i : I.Of) → I.book v i ≡ J.book v (f i)) →
    ((i : I.Of) → I.Meets i → J.Meets (f i)) → ((i : I.Of) → c i ≡ d (f i)) → {r : Res} → Reads site s (one I) c k N t end at r → Reads site s (one J) d k N t end at r
mapped_reads I J d f sh bk mt ct (refuses p o) = refuses p o
mapped_reads {site} I J d {at = at} f sh bk mt ct (takes {n = n} g) = takes {n = n} (record { it = f g.it; meets = mt g.it g.meets; low = g.low; high = g.high; bytes = g.bytes ∙ rw (sh g.it) refl; book = g.book ∙ bk (here site at) g.it; counted = g.counted ∙ ct g.it; marks = g.marks; room = omega (arith, g.room, ct g.it); closes = g.closes })

-- one way or the other, by a test of the tag
module _ {site : Site} {s : List ℕ} (I J : Item) (C : (I.Of ⊎ J.Of) → ℕ) {k N : ℕ} where
  pub or_law : {b d : ℕ → Body} (h : Element → Type 0) (test : ℕ → Bool) → ItemLaw site s b I (λ i. C (inl i)) k N (λ x. h x × (test (first_of x) ≡ true)) → ItemLaw site s d J (λ j. C (inr j)) k N (λ x. h x × (test (first_of x) ≡ false)) →
      ItemLaw site s (λ t at a e. choose (test t) (λ _. b t at a e) (λ _. d t at a e)) (I or J) C k N h
  or_law h test f g = record {
    sound = λ x i m end at a e st l.
        by_choose (Reads site s (one (I or J)) C k N close e at) (test (first_of x))
        (λ _ q. mapped_reads I (I or J) C inl (λ _. refl) (λ _ _. refl) (λ _ m. m) (λ _. refl) (f.sound x i (m, q) end at a e st l))
        (λ _ q. mapped_reads J (I or J) C inr (λ _. refl) (λ _ _. refl) (λ _ m. m) (λ _. refl) (g.sound x i (m, q) end at a e st l));
    is = elim [ inl i ↦ f.is i | inr j ↦ g.is j ];
    begins = elim [ inl i ↦ (λ y. (f.begins i y).0) | inr j ↦ (λ y. (g.begins j y).0) ];
    complete = elim [
      | inl i ↦ (λ y r end at a e st l. rw (f.begins i y).1 (f.complete i y r end at a e st l))
      | inr j ↦ (λ y r end at a e st l. rw (g.begins j y).1 (g.complete j y r end at a e st l))
    ];
  }

-- or a refusal
pub otherwise_law : {site : Site} {s : List ℕ} {b : ℕ → Body} {I : Item} {c : I.Of → ℕ} {k N : ℕ} (h : Element → Type 0) (test : ℕ → Bool) → ItemLaw site s b I c k N (λ x. h x × (test (first_of x) ≡ true)) → ItemLaw site s (λ t at a e. choose (test t) (λ _. b t at a e) (λ _. fails NotDue at)) I c k N h
otherwise_law {site} {s} {b} {I} {c} {k} {N} h test f = record {
  sound = λ x i m end at a e st l. by_choose (Reads site s (one I) c k N close e at) (test (first_of x)) (λ _ q. f.sound x i (m, q) end at a e st l) (λ _ _. refuses at (omega (arith, st.after, st.order, st.inside), tt));
  is = f.is;
  begins = λ i y. (f.begins i y).0;
  complete = λ i y r end at a e st l. rw (f.begins i y).1 (f.complete i y r end at a e st l);
}

-- a record in front
pub behind_reads : {site : Site} {s : List ℕ} {P : Part} {c : P.Of → ℕ} {k N : ℕ} {t : Stop} {end at : ℕ} {r : Res} (b : Rec) → Reads site s P c k N t end at r → Reads site s (behind P (λ _. b)) c k N t end at (also (b ∷ []) [] r)
behind_reads b (refuses p o) = refuses p o
behind_reads b (takes {rs = rs} {ms = ms} {n = n} f) = takes {rs = b ∷ rs} {ms = ms} {n = n} (record { it = f.it; meets = f.meets; low = f.low; high = f.high; bytes = f.bytes; book = rw f.book refl; counted = f.counted; marks = f.marks; room = f.room; closes = f.closes })

pub behind_goes : {s : List ℕ} {end at : ℕ} {rs : List Rec} {m : ℕ} {w : List ℕ} {r : Res} (b : Rec) → Goes s end at rs m w r → Goes s end at (b ∷ rs) m w (also (b ∷ []) [] r)
behind_goes b g = record { ms = g.ms; n = g.n; is = rw g.is refl; counted = g.counted; low = g.low; high = g.high; left = g.left }

pub behind_body : {site : Site} {s : List ℕ} {b : Body} {P : Part} {c : P.Of → ℕ} {k N : ℕ} (r : Rec) → BodyLaw site s b P c k N → BodyLaw site s (λ at a e. also (r ∷ []) [] (b at a e)) (behind P (λ _. r)) c k N
behind_body r f = record { sound = λ at a e i h l. behind_reads r (f.sound at a e i h l); complete = λ at a e i h l x y z q. behind_goes r (f.complete at a e i h l x y z q) }

module _ (site : Site) (s : List ℕ) (bytes : Bytes s) (small : length s ≤ 32768) where
  -- a sealed element
  inner_sound : (b : Bool) (c : List ℕ) (a e n : ℕ) → a ≤ e → e ≤ length s → slice a e s ≡ c → choose b (λ _. sealed_run 15 s [] a e) (λ _. Ok e) ≡ Ok n → SealedIn b c
  inner_sound true c a e n h l q r = rw q at (run_sound s bytes 15 [] a e h l r)
  inner_sound false c a e n h l q r = tt

  inner_complete : (b : Bool) (c : List ℕ) (a e : ℕ) → a ≤ e → e ≤ length s → slice a e s ≡ c → SealedIn b c → choose b (λ _. sealed_run 15 s [] a e) (λ _. Ok e) ≡ Ok e
  inner_complete true c a e h l q r = run_complete s small 15 [] a e h l (rw q r)
  inner_complete false c a e h l q r = refl

  inner_placed : (b : Bool) (a e : ℕ) {f : Fault} {p : ℕ} → a ≤ e → e ≤ length s → choose b (λ _. sealed_run 15 s [] a e) (λ _. Ok e) ≡ refused f p → Told s f p
  inner_placed true a e h l q = (omega (arith, (sealed_refuses 15 s [] a e h q).1), sealed_fault 15 s [] a e q)
  inner_placed false a e h l q = let z : ◌≡◌ {A = ℕ} 0 1 = cc in absurd (omega arith)

  pub sealed_law : (which : ℕ → Bool) (kind : ℕ) (front : ℕ → List ℕ) → ItemLaw site s (λ t at a e. parts.sealed s kind (front t) t at a e) (sealed_one which kind front) (λ _. 0) 0 0 (λ x. which (first_of x) ≡ true)
  unfolding parts.sealed
  sealed_law which kind front = record {
    sound = λ x i m end at a e st l. go x i m end at a e st l (choose (constructed (first_of x)) (λ _. sealed_run 15 s [] a e) (λ _. Ok e)) refl;
    is = λ x y. y.0;
    begins = λ x y. y.2;
    complete = λ x y r end at a e st l. whole_goes (omega (arith, st.after, st.order)) (rw (inner_complete (constructed (first_of x)) x.contents a e st.order (omega (arith, st.inside)) st.within y.1, st.whole) refl);
  }
    where
      go : (x : Element) → IsElement x → which (first_of x) ≡ true → (end at a e : ℕ) → Stands s at end x a e → end ≤ length s → (r : Run) → choose (constructed (first_of x)) (λ _. sealed_run 15 s [] a e) (λ _. Ok e) ≡ r →
          Reads site s (one (sealed_one which kind front)) (λ _. 0) 0 0 close e at (keep (rec kind (front (first_of x) ++ slice at e s) ∷ []) e r)
      go x i m end at a e st l (Err r) q = refuses r.1 (inner_placed (constructed (first_of x)) a e st.order (omega (arith, st.inside)) q)
      go x i m end at a e st l (Ok n) q =
          whole_reads (one (sealed_one which kind front)) (rec kind (front (first_of x) ++ slice at e s) ∷ []) x (i, inner_sound (constructed (first_of x)) x.contents a e n st.order (omega (arith, st.inside)) st.within q, m) (omega (arith, st.after, st.order)) st.whole (rw st.whole refl)

pub bytes_some : (x : Element) → 1 ≤ length (element_bytes x)
unfolding element_bytes
bytes_some x =
    let g = tag_is x in
    let n : length (tag_bytes x.lead x.number) ≡ suc (length g.more) = ap length g.is in
    simp (length-append) (omega arith)

some_bytes : {f : ℕ → Bool} {d : Bool} {b : List ℕ} → T (not d) → Starts f d b → 1 ≤ length b
some_bytes {d = d} z (without u e) = absurd (T_not d z u)
some_bytes {b = b} z (begun x w i m e) = let n : length b ≡ length (element_bytes x) + length w = ap length e ∙ length-append (element_bytes x) w in omega (arith, bytes_some x)

pub data ManyReads (site : Site) (s : List ℕ) (P : Part) (c : P.Of → ℕ) (k N : ℕ) (more : ℕ → ℕ → Bool) (end at : ℕ) : Res → Type 0 where
  stopped : {f : Fault} (p : ℕ) → Told s f p → ManyReads site s P c k N more end at (fails f p)
  went : {rs : List Rec} {ms : List ℕ} {n : ℕ} → Facts site s (many P) (total c) k N (tags []) end at rs ms n → more end n ≡ false → ManyReads site s P c k N more end at (took rs ms n)

module _ {site : Site} {s : List ℕ} (P : Part) (c : P.Of → ℕ) (N : ℕ) (more : ℕ → ℕ → Bool) (f : ℕ → Reader) {L : Look} (item : (j : ℕ) → j ≤ N → Law site s (f j) P c j N L) where
  many_also : {k end at m : ℕ} {bs : List Rec} {ms : List ℕ} {r : Res} → end ≤ length s → Facts site s P c k N L.stop end at bs ms m → ManyReads site s P c (k + length ms) N more end m r → ManyReads site s P c k N more end at (also bs ms r)
  many_also l x (stopped p o) = stopped p o
  many_also {k} {end} {at} {m} {bs} {ms} l x (went {rs = cs} {ms = ns} {n = n} y g) = went {rs = bs ++ cs} {ms = ms ++ ns} {n = n} (record {
    it = x.it ∷ y.it;
    meets = (x.meets, y.meets);
    low = omega (arith, x.low, y.low);
    high = y.high;
    bytes = x.bytes ∙ rw y.bytes (sym (append_assoc (P.bytes x.it) (flat P.bytes y.it) (slice n end s)));
    book = rw (x.book, y.book) (ap (λ i. P.book (here site at) x.it ++ each P.bytes P.book (here site i) y.it) (reached l x));
    counted = length-append ms ns ∙ omega (arith, x.counted, y.counted);
    marks = marks_append (length s) ms ns x.marks y.marks;
    room = omega (arith, y.room, x.counted);
    closes = λ u. absurd u;
  }) g

  many_counted : {k end at : ℕ} {r : Res} {q : ℕ → ℕ → Res} → end ≤ length s → ((i n : ℕ) → k + i ≤ N → at ≤ n → n ≤ end → ManyReads site s P c (k + i) N more end n (q i n)) → Reads site s P c k N L.stop end at r → ManyReads site s P c k N more end at (counted r q)
  many_counted l ih (refuses p o) = stopped p o
  many_counted l ih (takes {ms = ms} {n = n} x) = many_also l x (ih (length ms) n (omega (arith, x.counted, x.room)) x.low x.high)

  many_end : (k end at : ℕ) → k ≤ N → at ≤ end → more end at ≡ false → ManyReads site s P c k N more end at (took [] [] at)
  many_end k end at i h g = went {rs = []} {ms = []} {n = at} (record { it = []; meets = tt; low = le_refl at; high = h; bytes = refl; book = refl; counted = refl; marks = tt; room = omega arith; closes = λ u. absurd u }) g

  pub many_sound : (g k end at : ℕ) → k ≤ N → at ≤ end → end ≤ length s → ManyReads site s P c k N more end at (repeat more f g k end at)
  unfolding repeat
  many_sound zero k end at i h l = by_choose (ManyReads site s P c k N more end at) (more end at) (λ _ _. stopped end (l, tt)) (λ _ e. many_end k end at i h e)
  many_sound (suc g) k end at i h l =
      by_choose (ManyReads site s P c k N more end at) (more end at) (λ _ _. many_counted l (λ j n u v w. many_sound g (k + j) end n u w l) ((item k i).sound end at h l)) (λ _ e. many_end k end at i h e)

  many_starts : (x : List P.Of) → AllMeet P.Meets x → T (not L.empty) → Starts L.first true (flat P.bytes x)
  many_starts [] y z = without tt refl
  many_starts (x ∷ xs) y z = go ((item 0 (omega arith)).starts x y.0) z
    where
      go : {b : List ℕ} {d : Bool} → Starts L.first d b → T (not d) → Starts L.first true (b ++ flat P.bytes xs)
      go {d = d} (without u e) z = absurd (T_not d z u)
      go (begun v w i m e) z = begun v (w ++ flat P.bytes xs) i m (rw e (append_assoc (element_bytes v) w (flat P.bytes xs)))

  module _ (solid : T (not L.empty)) (free : L.stop ≡ tags [])
      (goes : (end at : ℕ) (x : Element) (w : List ℕ) → at ≤ end → end ≤ length s → IsElement x → L.first (first_of x) ≡ true → slice at end s ≡ element_bytes x ++ w → more end at ≡ true) where
    item_goes : (end at : ℕ) {b : List ℕ} (w : List ℕ) → at ≤ end → end ≤ length s → {d : Bool} → T (not d) → Starts L.first d b → slice at end s ≡ b ++ w → more end at ≡ true
    item_goes end at w h l {d} z (without u e) q = absurd (T_not d z u)
    item_goes end at w h l z (begun x v i m e) q = goes end at x (v ++ w) h l i m (q ∙ rw e (append_assoc (element_bytes x) v w))

    pub many_complete : (xs : List P.Of) → AllMeet P.Meets xs → (g k end at : ℕ) → k + total c xs ≤ N → at ≤ end → end ≤ length s → end - at ≤ g → (w : List ℕ) → slice at end s ≡ flat P.bytes xs ++ w →
        ((n : ℕ) → n ≤ end → slice n end s ≡ w → more end n ≡ false) → Goes s end at (each P.bytes P.book (here site at) xs) (total c xs) w (repeat more f g k end at)
    unfolding repeat
    many_complete [] y zero k end at r h l i w e stop = record { ms = []; n = at; is = rw (stop at h e) refl; counted = refl; low = le_refl at; high = h; left = e }
    many_complete [] y (suc g) k end at r h l i w e stop = record { ms = []; n = at; is = rw (stop at h e) refl; counted = refl; low = le_refl at; high = h; left = e }
    many_complete (x ∷ xs) y zero k end at r h l i w e stop =
        let n : end - at ≡ length (P.bytes x) + length (flat P.bytes xs) + length w = sym (length-slice at end s l) ∙ ap length e ∙ simp (length-append) refl in
        absurd (omega (arith, some_bytes solid ((item 0 (omega arith)).starts x y.0)))
    many_complete (x ∷ xs) y (suc g) k end at r h l i w e stop =
        let q : slice at end s ≡ P.bytes x ++ (flat P.bytes xs ++ w) = e ∙ append_assoc (P.bytes x) (flat P.bytes xs) w in
        let j = item k (omega arith) in
        let st = j.starts x y.0 in
        let a = j.complete end at h l x y.0 (omega arith) (flat P.bytes xs ++ w) (subst (λ (t : Stop). Follows t (flat P.bytes xs ++ w)) (sym free) tt) q in
        let p : a.n ≡ at + length (P.bytes x) = progress s (P.bytes x) (flat P.bytes xs ++ w) at a.n end h a.high l q a.left in
        let b = many_complete xs y.1 g (k + length a.ms) end a.n (omega (arith, a.counted)) a.high l (omega (arith, some_bytes solid st)) w a.left stop in
        record {
          ms = a.ms ++ b.ms;
          n = b.n;
          is = rw (item_goes end at (flat P.bytes xs ++ w) h l solid st q, a.is, b.is) (ap (λ i. took (P.book (here site at) x ++ each P.bytes P.book (here site i) xs) (a.ms ++ b.ms) b.n) p);
          counted = length-append a.ms b.ms ∙ omega (arith, a.counted, b.counted);
          low = omega (arith, a.low, b.low);
          high = b.high;
          left = b.left;
        }

-- up to the end of a container
module _ {site : Site} {s : List ℕ} {P : Part} {c : P.Of → ℕ} {N : ℕ} (small : length s ≤ 32768) (f : ℕ → Reader) {L : Look} (item : (j : ℕ) → j ≤ N → Law site s (f j) P c j N L) (solid : T (not L.empty)) (free : L.stop ≡ tags []) where
  list_reads : {k end at : ℕ} {r : Res} → ManyReads site s P c k N to_end end at r → Reads site s (many P) (total c) k N close end at r
  list_reads (stopped p o) = refuses p o
  list_reads {end = end} (went {n = n} x g) = takes {n = n} (record { it = x.it; meets = x.meets; low = x.low; high = x.high; bytes = x.bytes; book = x.book; counted = x.counted; marks = x.marks; room = x.room; closes = λ _. omega (arith, x.high, ltb-false n end g) })

  list_goes : (end at : ℕ) (x : Element) (w : List ℕ) → at ≤ end → end ≤ length s → IsElement x → L.first (first_of x) ≡ true → slice at end s ≡ element_bytes x ++ w → to_end end at ≡ true
  list_goes end at x w h l i m e = let v = head_complete s small at end x w h l i e in lt-ltb at end (omega (arith, v.stands.after, v.stands.order, v.stands.inside))

  pub list_law : (k : ℕ) → k ≤ N → Law site s (λ end at. repeat to_end f (end - at) k end at) (many P) (total c) k N (look L.first true close)
  list_law k i = record {
    sound = λ end at h l. list_reads (many_sound P c N to_end f item (end - at) k end at i h l);
    starts = λ x y. many_starts P c N to_end f item x y solid;
    complete = λ end at h l x y r w v e.
        many_complete P c N to_end f item solid free list_goes x y (end - at) k end at r h l (le_refl (end - at)) w e (λ n u q. le-ltb n end (omega (arith, is_end s n end u l (q ∙ v))));
  }

pub lift_law : {site : Site} {s : List ℕ} {p : Reader} {P : Part} {L : Look} (k N : ℕ) → k ≤ N → Plain site s p P L → Law site s p P (λ _. 0) k N L
lift_law k N h f = record { sound = λ end at i l. lift_reads k N h (f.sound end at i l); starts = f.starts; complete = λ end at i l x y _ w v e. f.complete end at i l x y (le_refl 0) w v e }

-- counted otherwise
recount_reads : {site : Site} {s : List ℕ} {P : Part} {c : P.Of → ℕ} (d : P.Of → ℕ) {k N : ℕ} {t : Stop} {end at : ℕ} {r : Res} → ((x : P.Of) → c x ≡ d x) → Reads site s P c k N t end at r → Reads site s P d k N t end at r
recount_reads d g (refuses p o) = refuses p o
recount_reads d g (takes f) = takes (record { it = f.it; meets = f.meets; low = f.low; high = f.high; bytes = f.bytes; book = f.book; counted = f.counted ∙ g f.it; marks = f.marks; room = omega (arith, f.room, g f.it); closes = f.closes })

pub recount : {site : Site} {s : List ℕ} {p : Reader} {P : Part} {c : P.Of → ℕ} (d : P.Of → ℕ) {k N : ℕ} {L : Look} → ((x : P.Of) → c x ≡ d x) → Law site s p P c k N L → Law site s p P d k N L
recount d g f = record {
  sound = λ end at h l. recount_reads d g (f.sound end at h l);
  starts = f.starts;
  complete = λ end at h l x y r w v e.
      let a = f.complete end at h l x y (omega (arith, g x)) w v e in
      record { ms = a.ms; n = a.n; is = a.is; counted = a.counted ∙ g x; low = a.low; high = a.high; left = a.left };
}

pub total_none : {A : Type 0} (xs : List A) → total (λ _. 0) xs ≡ 0
total_none [] = refl
total_none (x ∷ xs) = omega (arith, total_none xs)

pub recount_body : {site : Site} {s : List ℕ} {b : Body} {P : Part} {c : P.Of → ℕ} (d : P.Of → ℕ) {k N : ℕ} → ((x : P.Of) → c x ≡ d x) → BodyLaw site s b P c k N → BodyLaw site s b P d k N
recount_body d g f = record {
  sound = λ at a e i h l. recount_reads d g (f.sound at a e i h l);
  complete = λ at a e j h l x y r q.
      let i = f.complete at a e j h l x y (omega (arith, g x)) q in
      record { ms = i.ms; n = i.n; is = i.is; counted = i.counted ∙ g x; low = i.low; high = i.high; left = i.left };
}

-- it counts once, whatever is counted inside it
module _ {site : Site} {s : List ℕ} {P : Part} {end at : ℕ} where
  pub counts_reads : {c : P.Of → ℕ} {j M : ℕ} {t : Stop} (k N p : ℕ) {r : Res} → p ≤ length s → k + 1 ≤ N → Reads site s P c j M t end at r → Reads site s P (λ _. 1) k N t end at (counts p r)
  counts_reads k N p l h (refuses q o) = refuses q o
  counts_reads k N p l h (takes {rs = rs} {n = n} f) = takes {rs = rs} {ms = p ∷ []} {n = n} (record { it = f.it; meets = f.meets; low = f.low; high = f.high; bytes = f.bytes; book = f.book; counted = refl; marks = (l, tt); room = h; closes = f.closes })

pub counts_goes : {s : List ℕ} {end at : ℕ} (p : ℕ) {rs : List Rec} {m : ℕ} {w : List ℕ} {r : Res} → Goes s end at rs m w r → Goes s end at rs 1 w (counts p r)
counts_goes p g = record { ms = p ∷ []; n = g.n; is = rw g.is refl; counted = refl; low = g.low; high = g.high; left = g.left }
