-- How what is made is put together.
use Rattle.std.specs.Prelude.{ℕ, ◌+◌, ◌-◌, ◌<◌, ◌≤◌, ◌≡◌, refl, Bool, true, false, ◌||◌, List, [], ◌∷◌, ◌++◌, take, drop, eqb, Ok, Err}
use Rattle.std.proofs.Common.{sym, ap, ◌∙◌, append_assoc, arith, length-append, take-append-drop, drop_at, take-take, drop-drop, length-take-le, lt-ltb, le-ltb}
use Rattle.std.proofs.Math.ListN.{length}
use Rattle.std.proofs.Math.Seq.{slice}
use Rattle.std.proofs.lemmas.List.{drop-take, take-append-le}
use Rattle.std.specs.Borrow.{MutBor}
use Rattle.std.specs.List.{copy_within}
use Rattle.std.specs.Result.{IsErr, IsErrAnd}
use Rattle.std.proofs.lemmas.List.Edits.{sets-eq}
use Rattle.elements.specs.ChoiceLaws.{by_choose, by_less}
use Rattle.rules.specs.BookLaws.{from_few}
use Rattle.elements.specs.Length.{shortest, wrap}
use Rattle.elements.specs.Lists.{join}
use Rattle.elements.specs.Sealed.{among}
use Rattle.elements.specs.Put.{Put}
use Rattle.elements.specs.AnswerLaws.{leaves}
use Rattle.elements.specs.PutLaws.{put_none, put_put, put_length, put_fits, put_there}
use Rattle.makers.specs.declared.made.Made.{Made}
use Rattle.makers.specs.declared.made.TooLong.{TooLong}
use Rattle.rules.specs.Reading.{Rec, rec}
use Rattle.rules.specs.Files.{two}
use Rattle.rules.specs.Render.{Rendered, gives, Renderer, ◌next◌, when, either, from}
use Rattle.rules.specs.Book.{records_from, Ends, next_is}
use Rattle.makers.specs.Making.{Answer, Walk, there, onto, Steps, Makes, makes, breaks, Making, Onward, Moved, Opened, begins, lacks, Ended, Closed, Gives, Enclosed, MakesIn, next_among}

-- a splice that fits is a put
pub spliced : (a d x : List ℕ) (o p : ℕ) → p ≡ o + length x → p ≤ length a → d ≡ take o a ++ x ++ drop p a → Put a d o p x
spliced a d x o p e h q = record { at = e; to = q ∙ sym (rw (← e) at (sets-eq x a o (omega arith))) }

-- no move
pub moved_same : (c : List ℕ) (start to by : ℕ) → by ≡ 0 → start ≤ to → to + by ≤ length c → Moved c c start to by
moved_same c start to by e h l =
    let a : start + by ≡ start = omega arith in
    let b : to + by ≡ to = omega arith in
    record { is = rw (a, b) (sym (rw (join 0 start to c (omega arith) h) (take-append-drop to c))) }

-- a copy further up
pub moved_copy : (c : List ℕ) (start to by : ℕ) {d : List ℕ} → start ≤ to → to + by ≤ length c → d ≡ copy_within c start to (start + by) → Moved c d start to by
moved_copy c start to by h l e =
    let n = to - start in
    let u : start + by + n ≡ to + by = omega arith in
    let v : start + n ≡ to = omega arith in
    let w : slice start to c ≡ take n (drop start c) = ap (λ k. drop start (take k c)) (sym v) ∙ drop-take start n c in
    record { is = e ∙ rw (w, u) refl }

-- a put leaves what is before it and behind it
before_put : {a c : List ℕ} {o q : ℕ} {x : List ℕ} (k : ℕ) → Put a c o q x → q ≤ length a → k ≤ o → take k c ≡ take k a
before_put {a} {c} {o} {q} {x} k f l h =
    let n : length (take o a) ≡ o = length-take-le o a (omega (arith, f.at)) in
    rw (put_fits f l, append_assoc (take o a) x (drop q a)) (take-append-le k (take o a) (x ++ drop q a) (omega arith) ∙ take-take k o a h)

behind_put : {a c : List ℕ} {o q : ℕ} {x : List ℕ} (k : ℕ) → Put a c o q x → q ≤ length a → drop (q + k) c ≡ drop (q + k) a
behind_put {a} {c} {o} {q} {x} k f l =
    let n : length (take o a ++ x) ≡ q = omega (arith, length-append (take o a) x, length-take-le o a (omega (arith, f.at)), f.at) in
    let e : drop q c ≡ drop q a = rw (put_fits f l) (drop_at (take o a ++ x) (drop q a) q n) in
    sym (drop-drop k q c) ∙ rw e (drop-drop k q a)

-- what is put from the same place on, and at least as far, leaves nothing of what was put before
pub put_again : {a c d : List ℕ} {o q p : ℕ} {x y : List ℕ} → Put a c o q x → Put c d o p y → q ≤ p → p ≤ length a → Put a d o p y
put_again {a} {c} {d} {o} {q} {p} {x} {y} f g h l =
    let k : q + (p - q) ≡ p = omega arith in
    let z : drop p c ≡ drop p a = rw k at (behind_put (p - q) f (omega arith)) in
    spliced a d y o p g.at l (put_fits g (omega (arith, put_length f)) ∙ rw (before_put o f (omega arith) (omega (arith, f.at)), z) refl)

-- the header in front of contents
closed_up : {a c c' d x : List ℕ} {o q p : ℕ} (k by : ℕ) (e : List ℕ) → Put a c (o + k) q x → q ≤ length a → q + by ≤ length a → k + by ≡ length e → Moved c c' (o + k) q by → Put c' d o p e → Put a d o (q + by) (e ++ x)
closed_up {a} {c} {c'} {d} {x} {o} {q} {p} z by e f l m n v g =
    let lc : length c ≡ length a = put_length f in
    let lo : o + z + by ≤ length c = omega (arith, f.at) in
    let T = take (o + z + by) c in
    let S = slice (o + z) q c in
    let D = drop (q + by) c in
    let lt : length T ≡ o + z + by = length-take-le (o + z + by) c lo in
    let lp : p ≡ o + z + by = omega (arith, g.at) in
    let w : c' ≡ T ++ (S ++ D) = v.is ∙ append_assoc T S D in
    let lk : p ≤ length c' = rw w (omega (arith, length-append T (S ++ D))) in
    let A : take o c' ≡ take o a = rw w (take-append-le o T (S ++ D) (omega arith) ∙ take-take o (o + z + by) c (omega arith) ∙ before_put o f l (omega arith)) in
    let B : drop p c' ≡ x ++ drop (q + by) a = rw (w, lp) (drop_at T (S ++ D) (o + z + by) lt ∙ rw (put_there f l, behind_put by f l) refl) in
    let zd : d ≡ take o a ++ e ++ (x ++ drop (q + by) a) = put_fits g lk ∙ rw (A, B) refl in
    spliced a d (e ++ x) o (q + by) (omega (arith, length-append e x, f.at)) m (zd ∙ sym (append_assoc (take o a ++ e) x (drop (q + by) a)) ∙ rw (append_assoc (take o a) e x) refl)

-- the size of a header
pub size_short : (n : ℕ) → n < 128 → 2 ≡ 1 + length (shortest n)
unfolding shortest
size_short n h = rw (lt-ltb n 128 h) refl

pub size_middle : (n : ℕ) → 128 ≤ n → n < 256 → 3 ≡ 1 + length (shortest n)
unfolding shortest
size_middle n h l = rw (le-ltb n 128 h, lt-ltb n 256 l) refl

pub size_long : (n : ℕ) → 256 ≤ n → 4 ≡ 1 + length (shortest n)
unfolding shortest
size_long n h = rw (le-ltb n 128 (omega arith), le-ltb n 256 h) refl

wrap_length : (tag : ℕ) (x : List ℕ) → length (wrap tag x) ≡ 1 + length (shortest (length x)) + length x
unfolding wrap
wrap_length tag x = omega (arith, length-append (shortest (length x)) x)

shortest_some : (n : ℕ) → 1 ≤ length (shortest n)
shortest_some n = by_less n 128 (λ h. omega (arith, size_short n h)) (λ h. by_less n 256 (λ l. omega (arith, size_middle n h l)) (λ l. omega (arith, size_long n l)))

-- record by record
walk_then : {b : List ℕ} {i m n : ℕ} {rs ws : List Rec} → Walk b i m rs → Walk b m n ws → Walk b i n (rs ++ ws)
walk_then there g = g
walk_then (onto h f) g = onto h (walk_then f g)

pub steps_none : (b : List ℕ) (i : ℕ) → i ≤ length b → Steps b i i
steps_none b i h = record { taken = []; walk = there; is = refl; low = omega arith; high = h }

pub steps_one : {b : List ℕ} {i e : ℕ} → Ends b i e → Steps b i e
steps_one {b} {i} {e} h = record { taken = rec (two b (i + 2)) (slice (i + 4) e b) ∷ []; walk = onto h there; is = h.is; low = omega (arith, h.low); high = h.high }

pub steps_then : {b : List ℕ} {i m n : ℕ} → Steps b i m → Steps b m n → Steps b i n
steps_then {b} {i} {m} {n} f g = record {
  taken = f.taken ++ g.taken;
  walk = walk_then f.walk g.walk;
  is = f.is ∙ rw g.is (sym (append_assoc f.taken g.taken (records_from b n)));
  low = omega (arith, f.low, g.low);
  high = g.high;
}

pub steps_fewer : {b : List ℕ} {i n : ℕ} → Steps b i n → length (records_from b n) ≤ length (records_from b i)
steps_fewer {b} {i} {n} f = rw f.is (omega (arith, length-append f.taken (records_from b n)))

-- nothing is made
pub makes_none : (b a : List ℕ) (x : Made) → x.next ≤ length b → x.end ≤ length a → Makes b a a x.next x.end (gives [] (records_from b x.next)) (Ok x)
makes_none b a x h l = makes refl (put_none a x.end) (steps_none b x.next h) l

module _ {b a c : List ℕ} {i o : ℕ} {w : Rendered} {r : Answer} (m : Makes b a c i o w r) where
  -- the same, by an equal name
  pub makes_as : {v : Rendered} → w ≡ v → Makes b a c i o v r
  makes_as e = rw e at m

  pub makes_same : length c ≡ length a
  makes_same = go m
    where
      go : {w : Rendered} {r : Answer} → Makes b a c i o w r → length c ≡ length a
      go (makes _ f _ _) = put_length f
      go (breaks _ e) = e

-- what comes next has the room that was there
pub made_small : {b a c : List ℕ} {i o : ℕ} {w : Rendered} {r : Answer} → Makes b a c i o w r → length a ≤ 32768 → length c ≤ 32768
made_small m h = omega (arith, makes_same m)

-- as it goes on
module _ {b a c : List ℕ} {i o : ℕ} {w : Rendered} {x : Made} (m : Makes b a c i o w (Ok x)) where
  pub made_steps : Steps b i x.next
  made_steps = go m
    where
      go : {w : Rendered} → Makes b a c i o w (Ok x) → Steps b i x.next
      go (makes _ _ s _) = s

  pub made_left : w.left ≡ records_from b x.next
  made_left = go m
    where
      go : {w : Rendered} → Makes b a c i o w (Ok x) → w.left ≡ records_from b x.next
      go (makes l _ _ _) = l

  pub made_put : Put a c o x.end w.bytes
  made_put = go m
    where
      go : {w : Rendered} → Makes b a c i o w (Ok x) → Put a c o x.end w.bytes
      go (makes _ f _ _) = f

  pub made_room : x.end ≤ length c
  made_room = go m
    where
      go : {w : Rendered} → Makes b a c i o w (Ok x) → x.end ≤ length c
      go (makes _ f _ h) = omega (arith, put_length f)

  pub made_high : x.next ≤ length b
  made_high = made_steps.high

  pub made_from : o ≤ x.end
  made_from = omega (arith, made_put.at)

  -- what comes next has its places, too
  pub making : length b ≤ 131072 → length a ≤ 32768 → Making b x.next c x.end
  making h l = (made_high, h, made_room, made_small m l)

-- where it leaves
module _ {b a c : List ℕ} {i o : ℕ} {w : Rendered} {x : TooLong} (m : Makes b a c i o w (Err x)) where
  pub made_long : length a < o + length w.bytes
  made_long = go m
    where
      go : {w : Rendered} → Makes b a c i o w (Err x) → length a < o + length w.bytes
      go (breaks h _) = h

  -- what a `?` answers there
  pub made_left_by : {r : Answer} → IsErr r × IsErrAnd r (λ y. y ≡ x) → Makes b a c i o w r
  made_left_by e = rw (← leaves e) at m

-- one part, then another
module _ (p q : Renderer) (rs : List Rec) {b a c : List ℕ} {i o : ℕ} where
  pub then_long : {x : TooLong} → Makes b a c i o (p rs) (Err x) → Makes b a c i o ((p next q) rs) (Err x)
  then_long m = breaks {w = (p next q) rs} (omega (arith, made_long m, length-append (p rs).bytes (q (p rs).left).bytes)) (makes_same m)

  pub then_took : {x : Made} {d : List ℕ} {s : Answer} → Makes b a c i o (p rs) (Ok x) → Makes b c d x.next x.end (q (records_from b x.next)) s → Makes b a d i o ((p next q) rs) s
  then_took {x} {d} m k = go (rw (← made_left m) at k)
    where
      go : {s : Answer} → Makes b c d x.next x.end (q (p rs).left) s → Makes b a d i o ((p next q) rs) s
      go (makes l f e h) = makes l (put_put (made_put m) f) (steps_then (made_steps m) e) (omega (arith, makes_same m))
      go (breaks h e) = breaks {w = (p next q) rs} (omega (arith, (made_put m).at, makes_same m, length-append (p rs).bytes (q (p rs).left).bytes)) (e ∙ makes_same m)

-- from the records of a place
module _ (p q : Renderer) {b a c : List ℕ} {i o : ℕ} where
  pub next_long : {x : TooLong} → Makes b a c i o (p (records_from b i)) (Err x) → Makes b a c i o ((p next q) (records_from b i)) (Err x)
  next_long = then_long p q (records_from b i)

  pub next_took : {x : Made} {d : List ℕ} {s : Answer} → Makes b a c i o (p (records_from b i)) (Ok x) → Makes b c d x.next x.end (q (records_from b x.next)) s → Makes b a d i o ((p next q) (records_from b i)) s
  next_took = then_took p q (records_from b i)

-- ---- what stands in front of contents
module _ {len o k : ℕ} where
  pub opened_begins : k ≤ len - o → Opened len o k (o + k)
  opened_begins h = begins

  pub opened_lacks : len - o < k → o ≤ len → Opened len o k len
  opened_lacks h l = lacks (omega arith)

  -- what does not fit does not fit with more in front
  over : {r : ℕ} → Opened len o k r → (x y : ℕ) → len < r + x → k + x ≤ y → len < o + y
  over begins x y h g = omega arith
  over (lacks l) x y h g = omega arith

  -- what ends before it should start has no room
  before : {r : ℕ} → Opened len o k r → (q : ℕ) → r ≤ q → q < o + k → len < o + k
  before begins q h l = absurd (omega arith)
  before (lacks g) q h l = g

  -- what ends behind starts where it should
  behind : {r : ℕ} → Opened len o k r → (q : ℕ) → o + k ≤ q → q ≤ len → r ≡ o + k
  behind begins q h l = refl
  behind (lacks g) q h l = absurd (omega arith)

pub made_ended : {b a c : List ℕ} {i o : ℕ} {w : Rendered} {m : Answer} → Makes b a c i o w m → Ended (length c) m
made_ended {b} {a} {c} {i} {o} {w} f = record { is = λ x z. made_room {w = w} (rw z at f) }

-- contents with what stands in front of them
pub closed_made : {b a c d : List ℕ} {i o k r : ℕ} {f : List ℕ → List ℕ} {w : Rendered} {m s : Answer} → Opened (length a) o k r → Makes b a c i r w m → Closed c d o k f m s → Makes b a d i o (gives (f w.bytes) w.left) s
closed_made {b} {a} {i = i} {r = r} {w = w} h g e = e.is b a i r w h g

module _ {b a c d : List ℕ} {i o k r : ℕ} {f : List ℕ → List ℕ} {w : Rendered} {m : Answer} {x : Made} (h : Opened (length a) o k r) (g : Makes b a c i r w m) (e : Closed c d o k f m (Ok x)) where
  pub closed_steps : Steps b i x.next
  closed_steps = made_steps (closed_made h g e)

  -- what comes next has its places
  pub closed_next : length b ≤ 131072 → length a ≤ 32768 → Making b x.next d x.end
  closed_next u v = making (closed_made h g e) u v

module _ {c : List ℕ} {o k : ℕ} {f : List ℕ → List ℕ} (grows : (x : List ℕ) → k + length x ≤ length (f x)) where
  pub closed_none : {x y : TooLong} → Closed c c o k f (Err x) (Err y)
  closed_none = record { is = λ b a i r w h g. breaks {w = gives (f w.bytes) w.left} (over h (length w.bytes) (length (f w.bytes)) (made_long g) (grows w.bytes)) (makes_same g) }

  pub closed_short : {x : Made} {y : TooLong} → x.end < o + k → Closed c c o k f (Ok x) (Err y)
  closed_short {x} l = record { is = λ b a i r w h g. breaks {w = gives (f w.bytes) w.left} (omega (arith, before h x.end (made_from g) l, grows w.bytes)) (makes_same g) }

contents : {b a c : List ℕ} {i o k r : ℕ} {x : Made} {w : Rendered} → Opened (length a) o k r → Makes b a c i r w (Ok x) → o + k ≤ x.end → Put a c (o + k) x.end w.bytes
contents {x = x} h g l = rw (behind h x.end l (omega (arith, made_room g, makes_same g))) at (made_put g)

-- bytes in front that tell the contents' length, just as many as there is room for
module _ (k : ℕ) (f : ℕ → List ℕ) (sized : (n : ℕ) → length (f n) ≡ k) where
  pub front_grows : (x : List ℕ) → k + length x ≤ length (f (length x) ++ x)
  front_grows x = omega (arith, sized (length x), length-append (f (length x)) x)

  pub closed_front : (c : List ℕ) (o : ℕ) {x : Made} {p : ℕ} {d : List ℕ} → Ended (length c) (Ok x) → o + k ≤ x.end → Put c d o p (f (x.end - (o + k))) → Closed c d o k (λ s. f (length s) ++ s) (Ok x) (Ok x)
  closed_front c o {x} {p} {d} l h g = record {
    is = λ b a i r w t e.
        let u = contents t e h in
        let s : x.end ≤ length a = omega (arith, l.is x refl, makes_same e) in
        let y : x.end - (o + k) ≡ length w.bytes = omega (arith, u.at) in
        let v : x.end + 0 ≡ x.end = omega arith in
        let z = closed_up k 0 (f (x.end - (o + k))) u s (omega arith) (omega (arith, sized (x.end - (o + k)))) (moved_same c (o + k) x.end 0 refl h (omega (arith, l.is x refl))) g in
        makes {w = gives (f (length w.bytes) ++ w.bytes) w.left} (made_left e) (rw (v, y) at z) (made_steps e) s;
  }

-- an element's header
pub wrap_grows : (tag : ℕ) (x : List ℕ) → 2 + length x ≤ length (wrap tag x)
wrap_grows tag x = omega (arith, wrap_length tag x, shortest_some (length x))

module _ (c : List ℕ) (o tag : ℕ) {x : Made} {h : ℕ} (e : h ≡ 1 + length (shortest (x.end - (o + 2)))) (l : o + 2 ≤ x.end) where
  -- it does not fit
  pub closed_long : {y : TooLong} → length c < x.end + (h - 2) → 2 ≤ h → Closed c c o 2 (wrap tag) (Ok x) (Err y)
  closed_long s t = record {
    is = λ b a i r w u g.
        let f = contents u g l in
        let z : length w.bytes ≡ x.end - (o + 2) = omega (arith, f.at) in
        let y : length (wrap tag w.bytes) ≡ h + length w.bytes = wrap_length tag w.bytes ∙ rw (z, ← e) refl in
        breaks {w = gives (wrap tag w.bytes) w.left} (omega (arith, makes_same g, f.at)) (makes_same g);
  }

  -- it fits
  pub closed_moved : {c' d : List ℕ} {p : ℕ} → 2 ≤ h → x.end + (h - 2) ≤ length c → Moved c c' (o + 2) x.end (h - 2) → Put c' d o p (tag ∷ shortest (x.end - (o + 2))) → Closed c d o 2 (wrap tag) (Ok x) (Ok (record { next = x.next; end = x.end + (h - 2) }))
  unfolding wrap
  closed_moved {c'} {d} {p} t s v k = record {
    is = λ b a i r w u g.
        let f = contents u g l in
        let z : length w.bytes ≡ x.end - (o + 2) = omega (arith, f.at) in
        let y = closed_up 2 (h - 2) (tag ∷ shortest (x.end - (o + 2))) f (omega (arith, makes_same g)) (omega (arith, makes_same g)) (omega arith) v k in
        makes {w = gives (wrap tag w.bytes) w.left} (made_left g) (rw (← z) at y) (made_steps g) (omega (arith, makes_same g));
  }

-- contents with their header
pub within_made : (tag : ℕ) (x : List ℕ) (l : List Rec) {b a c d : List ℕ} {i o r : ℕ} {m s : Answer} → Opened (length a) o 2 r → Makes b a c i r (gives x l) m → Closed c d o 2 (wrap tag) m s → Makes b a d i o (gives (wrap tag x) l) s
within_made tag x l h g e = closed_made h g e

-- an element around what a maker of contents has made
pub enclosed : (q : Renderer) {gave : Gives} {b a d : List ℕ} {i o k : ℕ} {f : List ℕ → List ℕ} {s : Answer} → Enclosed gave a d i o k f s → MakesIn gave b q → Makes b a d i o (gives (f (q (records_from b i)).bytes) (q (records_from b i)).left) s
enclosed q (x, out, m, out', g, e, n, h, c) t = closed_made h (rw (e, n) at (t x out m out' g)) c

-- with what stands in front of them, contents take what they take
pub closed_onward : {f : List ℕ → List ℕ} {k : ℕ} → ((x : List ℕ) → k + length x ≤ length (f x)) → {b a c d : List ℕ} {i o r : ℕ} {w : Rendered} {m s : Answer} → Opened (length a) o k r → Makes b a c i r w m → Onward b i m → Closed c d o k f m s → Onward b i s
closed_onward {f} {k} grows {b} {a} {c} {d} {i} {o} {r} {w} {m} {s} h g u e = record { is = λ x z. go g u (rw z at (closed_made h g e)) }
  where
    go : {w : Rendered} {m : Answer} {x : Made} → Makes b a c i r w m → Onward b i m → Makes b a d i o (gives (f w.bytes) w.left) (Ok x) → length (records_from b x.next) < length (records_from b i)
    go (makes {x = y} l _ _ _) u v = rw (sym (made_left v) ∙ l) (u.is y refl)
    go (breaks {w} l _) u v = absurd (omega (arith, (made_put v).at, made_room v, makes_same v, over h (length w.bytes) (length (f w.bytes)) l (grows w.bytes)))

-- so does what is around what a maker of contents has made
pub enclosed_onward : (q : Renderer) {gave : Gives} {b a d : List ℕ} {i o k : ℕ} {f : List ℕ → List ℕ} {s : Answer} → ((x : List ℕ) → k + length x ≤ length (f x)) → Enclosed gave a d i o k f s → ((x : Made) (out : MutBor (List ℕ)) (m : Answer) (out' : MutBor (List ℕ)) → gave x out m out' → Makes b out.now out'.now x.next x.end (q (records_from b x.next)) m × Onward b x.next m) → Onward b i s
enclosed_onward q grows (x, out, m, out', g, e, n, h, c) t =
    let p = t x out m out' g in
    closed_onward grows h (rw (e, n) at p.0) (rw n at p.1) c

-- one kind is a list of one
pub next_one : (k : ℕ) (rs : List Rec) {t : Bool} → t ≡ next_is k rs → t ≡ next_among (k ∷ []) rs
next_one k [] e = e
next_one k (r ∷ rs) e = e ∙ go (eqb r.kind k)
  where
    go : (x : Bool) → x ≡ (x || false)
    go true = refl
    go false = refl

-- by the next record
module _ (ks : List ℕ) (p : Renderer) where
  pub when_is : (rs : List Rec) → next_among ks rs ≡ true → when ks p rs ≡ p rs
  when_is [] q = absurd (let z : ◌≡◌ {A = ℕ} 0 1 = cc in omega arith)
  when_is (r ∷ rs) q = rw q refl

  pub when_not : (rs : List Rec) → next_among ks rs ≡ false → when ks p rs ≡ gives [] rs
  when_not [] q = refl
  when_not (r ∷ rs) q = rw q refl

module _ (ks : List ℕ) (p : Renderer) (b : List ℕ) (i : ℕ) {t : Bool} (e : t ≡ next_among ks (records_from b i)) where
  pub among_yes : {a c : List ℕ} {o : ℕ} {r : Answer} → t ≡ true → Makes b a c i o (p (records_from b i)) r → Makes b a c i o (when ks p (records_from b i)) r
  among_yes z m = makes_as m (sym (when_is ks p (records_from b i) (sym e ∙ z)))

  pub among_no : {a : List ℕ} {o : ℕ} → t ≡ false → i ≤ length b → o ≤ length a → Makes b a a i o (when ks p (records_from b i)) (Ok (record { next = i; end = o }))
  among_no {a} {o} z h l = makes_as (makes_none b a (record { next = i; end = o }) h l) (sym (when_not ks p (records_from b i) (sym e ∙ z)))

module _ (k : ℕ) (p : Renderer) (b : List ℕ) (i : ℕ) {t : Bool} (e : t ≡ next_is k (records_from b i)) where
  pub when_yes : {a c : List ℕ} {o : ℕ} {r : Answer} → t ≡ true → Makes b a c i o (p (records_from b i)) r → Makes b a c i o (when (k ∷ []) p (records_from b i)) r
  when_yes z m = among_yes (k ∷ []) p b i (next_one k (records_from b i) e) z m

  pub when_no : {a : List ℕ} {o : ℕ} → t ≡ false → i ≤ length b → o ≤ length a → Makes b a a i o (when (k ∷ []) p (records_from b i)) (Ok (record { next = i; end = o }))
  when_no z h l = among_no (k ∷ []) p b i (next_one k (records_from b i) e) z h l

-- one way or the other by the next record
module _ (k : ℕ) (q p : Renderer) (b : List ℕ) (i : ℕ) {t : Bool} (e : t ≡ next_is k (records_from b i)) where
  either_is : (rs : List Rec) → next_is k rs ≡ true → either (k ∷ []) q p rs ≡ q rs
  either_is [] z = absurd (let y : ◌≡◌ {A = ℕ} 0 1 = cc in omega arith)
  either_is (x ∷ rs) z = rw z refl

  either_not : (rs : List Rec) → next_is k rs ≡ false → either (k ∷ []) q p rs ≡ p rs
  either_not [] z = refl
  either_not (x ∷ rs) z = rw z refl

  pub either_yes : {a c : List ℕ} {o : ℕ} {r : Answer} → t ≡ true → Makes b a c i o (q (records_from b i)) r → Makes b a c i o (either (k ∷ []) q p (records_from b i)) r
  either_yes z m = makes_as m (sym (either_is (records_from b i) (sym e ∙ z)))

  pub either_no : {a c : List ℕ} {o : ℕ} {r : Answer} → t ≡ false → Makes b a c i o (p (records_from b i)) r → Makes b a c i o (either (k ∷ []) q p (records_from b i)) r
  either_no z m = makes_as m (sym (either_not (records_from b i) (sym e ∙ z)))

-- what holds of either way holds of the one that is taken
pub by_either : (P : Rendered → Type 0) (ks : List ℕ) (q p : Renderer) (rs : List Rec) → P (q rs) → P (p rs) → P (either ks q p rs)
by_either P ks q p [] f g = g
by_either P ks q p (r ∷ rs) f g = by_choose P (among r.kind ks) (λ _ _. f) (λ _ _. g)

-- a record that is next is there
pub among_there : (b : List ℕ) (i : ℕ) (ks : List ℕ) {t : Bool} → t ≡ next_among ks (records_from b i) → t ≡ true → i + 4 ≤ length b
among_there b i ks {t} e z = by_less (length b) (i + 4) (λ h. absurd (go (from_few b i h))) (λ h. h)
  where
    go : records_from b i ≡ [] → ⊥
    go q = let x : true ≡ next_among ks [] = sym z ∙ e ∙ ap (next_among ks) q in let y : ◌≡◌ {A = ℕ} 0 1 = cc in omega arith

pub next_there : (b : List ℕ) (i k : ℕ) {t : Bool} → t ≡ next_is k (records_from b i) → t ≡ true → i + 4 ≤ length b
next_there b i k e z = among_there b i (k ∷ []) (next_one k (records_from b i) e) z

-- from the next record
pub from_none : (f : ℕ → List ℕ → Renderer) {b a : List ℕ} {i o : ℕ} → length b < i + 4 → i ≤ length b → o ≤ length a → Makes b a a i o (from f (records_from b i)) (Ok (record { next = i; end = o }))
from_none f {b} {a} {i} {o} h l m = let e = from_few b i h in makes_as (makes_none b a (record { next = i; end = o }) l m) (rw e refl)

-- what is made of the records behind the next one, with that one taken
pub makes_behind : {b a c : List ℕ} {i e o : ℕ} {w : Rendered} {r : Answer} → Ends b i e → Makes b a c e o w r → Makes b a c i o w r
makes_behind h (makes l p s q) = makes l p (steps_then (steps_one h) s) q
makes_behind h (breaks l q) = breaks l q

pub from_some : (f : ℕ → List ℕ → Renderer) {b a c : List ℕ} {i e o : ℕ} {r : Answer} → Ends b i e → Makes b a c e o (f (two b (i + 2)) (slice (i + 4) e b) (records_from b e)) r → Makes b a c i o (from f (records_from b i)) r
from_some f h m = rw h.is (makes_behind h m)

-- bytes that are put for one record
module _ {b a c : List ℕ} {o q : ℕ} {x : List ℕ} (f : Put a c o q x) where
  pub puts_took : {e : ℕ} → e ≤ length b → q ≤ length c → Makes b a c e o (gives x (records_from b e)) (Ok (record { next = e; end = q }))
  puts_took {e} h l = makes refl f (steps_none b e h) (omega (arith, put_length f))

  pub puts_long : (i : ℕ) (rs : List Rec) {y : TooLong} → length c < q → Makes b a c i o (gives x rs) (Err y)
  puts_long i rs l = breaks {w = gives x rs} (omega (arith, f.at, put_length f)) (put_length f)

-- bytes that are put, then a part
pub put_made : {b a c d : List ℕ} {i o q : ℕ} {x : List ℕ} {w : Rendered} {r : Answer} → Put a c o q x → Makes b c d i q w r → Makes b a d i o (gives (x ++ w.bytes) w.left) r
put_made f (makes l g s h) = makes l (put_put f g) s (omega (arith, put_length f))
put_made {x = x} f (breaks {w} h e) = breaks {w = gives (x ++ w.bytes) w.left} (omega (arith, f.at, put_length f, length-append x w.bytes)) (e ∙ put_length f)

-- at least one record is taken
pub onward_one : {b : List ℕ} {i e : ℕ} {r : Answer} → Ends b i e → ((x : Made) → r ≡ Ok x → Steps b e x.next) → Onward b i r
onward_one {b} {i} {e} h s = record { is = λ x z. rw h.is (omega (arith, steps_fewer (s x z))) }

-- so does an element with what is behind the next record
pub onward_closed : {b a c d : List ℕ} {i e o k r : ℕ} {f : List ℕ → List ℕ} {w : Rendered} {m s : Answer} → Ends b i e → Opened (length a) o k r → Makes b a c e r w m → Closed c d o k f m s → Onward b i s
onward_closed h t g u = onward_one h (λ x z. closed_steps t g (rw z at u))

-- so does what is made of the records behind the next one
pub onward_behind : {b a c : List ℕ} {i e o : ℕ} {w : Rendered} {r : Answer} → Ends b i e → Makes b a c e o w r → Onward b i r
onward_behind {w = w} h m = onward_one h (λ x z. made_steps {w = w} (rw z at m))
