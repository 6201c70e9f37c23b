-- Contents that are read as text are the encoding of scalar values, and every such encoding is read.
use Rattle.std.specs.Prelude.{ℕ, zero, suc, ◌+◌, ◌-◌, ◌*◌, ◌/◌, ◌%◌, ◌≤◌, ◌<◌, ◌≡◌, refl, List, [], ◌∷◌, ◌++◌, Bool, true, false, ◌&&◌, ◌||◌, leb, ltb, T, length, Err}
use Rattle.std.proofs.Common.{sym, ◌∙◌, ap, leb→le, ltb→lt, le-leb, leb-true, ltb-true, ltb-false, lt-ltb, le-ltb, ne_eqb, add-zero, zero-add, arith, length-append}
use Rattle.std.proofs.lemmas.Bool.{lt-leb}
use Rattle.elements.specs.Choice.{pick}
use Rattle.elements.specs.ChoiceLaws.{by_less, all_both}
use Rattle.elements.specs.Integer.{least, most}
use Rattle.elements.specs.Told.{told}
use Rattle.elements.specs.declared.answer.Form.TheVariants as form
use Rattle.elements.specs.Encodings.{Scalar, below, above, Scalars, none, more, utf8, utf8s, Encodes}
use Rattle.elements.specs.declared.fault.Fault.TheVariants.{BadText}
use Rattle.elements.specs.Text.{Due, Next, Then, Never, due, Row, row, rows, find, lead_of, step_of, starts, text_from, text}
use Rattle.elements.specs.AnswerLaws.{of_same}
use Rattle.elements.specs.Answer.{Value, of}

-- ---- the alternatives of a first byte
-- no row begins or ends inside m to n
abbrev pub level : List Row → ℕ → ℕ → Bool
level [] m n = true
level (row l h d ∷ r) m n = (leb l m || ltb n l) && ((ltb h m || leb n h) && level r m n)

pub lower : (l m n b : ℕ) → T (leb l m || ltb n l) → m ≤ b → b ≤ n → leb l b ≡ leb l m
lower l m n b h p q = go (leb l m) refl h
  where
    go : (t : Bool) → leb l m ≡ t → T (t || ltb n l) → leb l b ≡ t
    go true e u = le-leb l b (omega (arith, leb-true l m e))
    go false e u = lt-leb l b (omega (arith, ltb→lt n l u))

pub upper : (h m n b : ℕ) → T (ltb h m || leb n h) → m ≤ b → b ≤ n → leb b h ≡ leb m h
upper h m n b w p q = go (ltb h m) refl w
  where
    go : (t : Bool) → ltb h m ≡ t → T (t || leb n h) → leb b h ≡ leb m h
    go true e u = lt-leb b h (omega (arith, ltb-true h m e)) ∙ sym (lt-leb m h (ltb-true h m e))
    go false e u = le-leb b h (omega (arith, leb→le n h u)) ∙ sym (le-leb m h (ltb-false h m e))

finds : (r : List Row) (m n b : ℕ) → T (level r m n) → m ≤ b → b ≤ n → find r b ≡ find r m
unfolding find
finds [] m n b t p q = refl
finds (row l h d ∷ r) m n b t p q =
    let s = all_both (leb l m || ltb n l) _ t in
    let u = all_both (ltb h m || leb n h) _ s.1 in
    rw (lower l m n b s.0 p q, upper h m n b u.0 p q, finds r m n b u.1 p q)

-- where no alternative begins or ends inside m to n, each byte there is a first byte as m is
pub leads : (m n b : ℕ) → T (level rows m n) → m ≤ b → b ≤ n → lead_of b ≡ lead_of m
unfolding lead_of
leads m n b t p q = finds rows m n b t p q

-- ---- a character: a first byte and those that it asks
data Tails : ℕ → ℕ → ℕ → List ℕ → Type 0 where
  end : {l h : ℕ} → Tails 0 l h []
  tail : {k l h : ℕ} {bs : List ℕ} (x : ℕ) → l ≤ x → x ≤ h → Tails k 0x80 0xbf bs → Tails (suc k) l h (x ∷ bs)

data Char : List ℕ → Type 0 where
  char : {b k l h : ℕ} {bs : List ℕ} → lead_of b ≡ Then (due k l h) → Tails k l h bs → Char (b ∷ bs)

-- where nothing is due, what the next byte would have to be does not matter
pub rests : (l h n : ℕ) (r : List ℕ) → text_from (due 0 l h) n r ≡ text_from (due 0 0 0) n r
unfolding text_from step_of starts
rests l h n [] = refl
rests l h n (b ∷ r) = refl

pub due_step : (k l h x : ℕ) → l ≤ x → x ≤ h → step_of (due (suc k) l h) x ≡ Then (due k 0x80 0xbf)
unfolding step_of
due_step k l h x p q = let e : suc k - 1 ≡ k = omega arith in rw (ne_eqb (suc k) 0 (omega arith), le-ltb x l p, le-ltb h x q, e)

tails_read : {k l h : ℕ} {bs : List ℕ} (n : ℕ) (r : List ℕ) → Tails k l h bs → text_from (due k l h) n (bs ++ r) ≡ text_from (due 0 0 0) n r
unfolding text_from starts
tails_read n r (end {l} {h}) = rests l h n r
tails_read n r (tail {k} {l} {h} x p q t) = rw (due_step k l h x p q, text_from, ne_eqb (suc k) 0 (omega arith), add-zero) (tails_read n r t)

char_read : {bs : List ℕ} (n : ℕ) (r : List ℕ) → Char bs → text_from (due 0 0 0) n (bs ++ r) ≡ text_from (due 0 0 0) (n + 1) r
unfolding text_from step_of starts
char_read n r (char e t) = rw (e, text_from) (tails_read (n + 1) r t)

-- ---- from a scalar value to its bytes
-- how many bytes a scalar value takes, and which
pub size1 : (u : ℕ) → u < 0x80 → utf8 u ≡ u ∷ []
unfolding utf8
size1 u h = rw (lt-ltb u 0x80 h)

pub size2 : (u : ℕ) → 0x80 ≤ u → u < 0x800 → utf8 u ≡ (0xc0 + u / 64) ∷ (0x80 + u % 64) ∷ []
unfolding utf8
size2 u l h = rw (le-ltb u 0x80 l, lt-ltb u 0x800 h)

pub size3 : (u : ℕ) → 0x800 ≤ u → u < 0x10000 → utf8 u ≡ (0xe0 + u / 4096) ∷ (0x80 + u / 64 % 64) ∷ (0x80 + u % 64) ∷ []
unfolding utf8
size3 u l h = rw (le-ltb u 0x80 (omega arith), le-ltb u 0x800 l, lt-ltb u 0x10000 h)

pub size4 : (u : ℕ) → 0x10000 ≤ u → utf8 u ≡ (0xf0 + u / 262144) ∷ (0x80 + u / 4096 % 64) ∷ (0x80 + u / 64 % 64) ∷ (0x80 + u % 64) ∷ []
unfolding utf8
size4 u l = rw (le-ltb u 0x80 (omega arith), le-ltb u 0x800 (omega arith), le-ltb u 0x10000 l)

six : {k : ℕ} {bs : List ℕ} (v : ℕ) → Tails k 0x80 0xbf bs → Tails (suc k) 0x80 0xbf ((0x80 + v % 64) ∷ bs)
six v t = tail {l = 0x80} {h = 0xbf} (0x80 + v % 64) (omega arith) (omega arith) t

module _ (u m n l h : ℕ) (same : T (level rows m n)) where
  three : lead_of m ≡ Then (due 2 l h) → (0x800 ≤ u) × (u < 0x10000) × (m ≤ 0xe0 + u / 4096) × (0xe0 + u / 4096 ≤ n) × (l ≤ 0x80 + u / 64 % 64) × (0x80 + u / 64 % 64 ≤ h) → Char (utf8 u)
  three e f = rw (size3 u f.0 f.1) (char (leads m n (0xe0 + u / 4096) same f.2 f.3 ∙ e) (tail (0x80 + u / 64 % 64) f.4 f.5 (six u end)))

  four : lead_of m ≡ Then (due 3 l h) → (0x10000 ≤ u) × (m ≤ 0xf0 + u / 262144) × (0xf0 + u / 262144 ≤ n) × (l ≤ 0x80 + u / 4096 % 64) × (0x80 + u / 4096 % 64 ≤ h) → Char (utf8 u)
  four e f = rw (size4 u f.0) (char (leads m n (0xf0 + u / 262144) same f.1 f.2 ∙ e) (tail (0x80 + u / 4096 % 64) f.3 f.4 (six (u / 64) (six u end))))

-- the bytes of a scalar value are a character
encoded : {u : ℕ} → Scalar u → Char (utf8 u)
unfolding lead_of find
encoded {u} (below s) =
    by_less u 0x80 (λ a. rw (size1 u a) (char (leads 0x00 0x7f u tt (omega arith) (omega arith)) end))
    (λ a. by_less u 0x800 (λ b. rw (size2 u a b) (char (leads 0xc2 0xdf (0xc0 + u / 64) tt (omega arith) (omega arith)) (six u end)))
    (λ b. by_less u 0x1000 (λ d. three u 0xe0 0xe0 0xa0 0xbf tt refl (omega arith))
    (λ d. by_less u 0xd000 (λ f. three u 0xe1 0xec 0x80 0xbf tt refl (omega arith)) (λ f. three u 0xed 0xed 0x80 0x9f tt refl (omega arith)))))
encoded {u} (above s t) =
    by_less u 0x10000 (λ a. three u 0xee 0xef 0x80 0xbf tt refl (omega arith))
    (λ a. by_less u 0x40000 (λ b. four u 0xf0 0xf0 0x90 0xbf tt refl (omega arith))
    (λ b. by_less u 0x100000 (λ d. four u 0xf1 0xf3 0x80 0xbf tt refl (omega arith)) (λ d. four u 0xf4 0xf4 0x80 0x8f tt refl (omega arith))))

texts : {us : List ℕ} (n : ℕ) → Scalars us → text_from (due 0 0 0) n (utf8s us) ≡ told (n + length us)
unfolding text_from utf8s
texts n none = rw add-zero
texts n (more {u} {l} s ss) = char_read n (utf8s l) (encoded s) ∙ texts (n + 1) ss ∙ ap told (omega arith)

-- every encoding of scalar values is read as text
pub text_complete : {us : List ℕ} → Scalars us → text (utf8s us) ≡ told (length us)
unfolding text told
text_complete h = rw (texts 0 h, zero-add)

-- ---- from bytes that are read to their scalar values
-- a row of the table has byte b, and leaves d due
data Among (b : ℕ) : Due → List Row → Type 0 where
  here : {l h : ℕ} {d : Due} {r : List Row} → l ≤ b → b ≤ h → Among b d (row l h d ∷ r)
  later : {d : Due} {x : Row} {r : List Row} → Among b d r → Among b d (x ∷ r)

among : (r : List Row) (b : ℕ) (d : Due) → find r b ≡ Then d → Among b d r
unfolding find
among [] b d e = let z : ◌≡◌ {A = ℕ} 0 1 = cc in absurd (omega arith)
among (row l h f ∷ r) b d e = go (leb l b) refl (leb b h) refl (among r b d) e
  where
    go : (t : Bool) → leb l b ≡ t → (w : Bool) → leb b h ≡ w → {v : Next} → (v ≡ Then d → Among b d r) → pick (t && w) (Then f) v ≡ Then d → Among b d (row l h f ∷ r)
    go true p true q on i = let j : f ≡ d = cc in rw j (here (leb-true l b p) (leb-true b h q))
    go true p false q on i = later (on i)
    go false p w q on i = later (on i)

record Encoded (bs : List ℕ) : Type 0 where
  u : ℕ
  scalar : Scalar u
  is : bs ≡ utf8 u

-- the number that the bytes of a character give, by their count
of1 : (b : ℕ) → b ≤ 0x7f → Encoded (b ∷ [])
of1 b h = record { u = b; scalar = below (omega arith); is = rw (size1 b (omega arith)) }

of2 : (b x u : ℕ) → u + 0x3080 ≡ b * 64 + x → (0xc2 ≤ b) × (b ≤ 0xdf) × (0x80 ≤ x) × (x ≤ 0xbf) → Encoded (b ∷ x ∷ [])
of2 b x u e f =
    let p : 0xc0 + u / 64 ≡ b = omega arith in
    let q : 0x80 + u % 64 ≡ x = omega arith in
    record { u = u; scalar = below (omega arith); is = rw (size2 u (omega arith) (omega arith), p, q) }

of3 : (b x y u : ℕ) → u + 0xe2080 ≡ b * 4096 + x * 64 + y → (b ≤ 0xef) × (0x80 ≤ x) × (x ≤ 0xbf) × (0x80 ≤ y) × (y ≤ 0xbf) × (0x800 ≤ u) → Scalar u → Encoded (b ∷ x ∷ y ∷ [])
of3 b x y u e f s =
    let p : 0xe0 + u / 4096 ≡ b = omega arith in
    let q : 0x80 + u / 64 % 64 ≡ x = omega arith in
    let r : 0x80 + u % 64 ≡ y = omega arith in
    record { u = u; scalar = s; is = rw (size3 u (omega arith) (omega arith), p, q, r) }

of4 : (b x y z u : ℕ) → u + 0x3c82080 ≡ b * 262144 + x * 4096 + y * 64 + z → (0x80 ≤ x) × (x ≤ 0xbf) × (0x80 ≤ y) × (y ≤ 0xbf) × (0x80 ≤ z) × (z ≤ 0xbf) × (0x10000 ≤ u) × (u ≤ 0x10ffff) → Encoded (b ∷ x ∷ y ∷ z ∷ [])
of4 b x y z u e f =
    let p : 0xf0 + u / 262144 ≡ b = omega arith in
    let q : 0x80 + u / 4096 % 64 ≡ x = omega arith in
    let r : 0x80 + u / 64 % 64 ≡ y = omega arith in
    let s : 0x80 + u % 64 ≡ z = omega arith in
    record { u = u; scalar = above (omega arith) (omega arith); is = rw (size4 u (omega arith), p, q, r, s) }

abbrev v3 : ℕ → ℕ → ℕ → ℕ
v3 b x y = b * 4096 + x * 64 + y - 0xe2080

abbrev v4 : ℕ → ℕ → ℕ → ℕ → ℕ
v4 b x y z = b * 262144 + x * 4096 + y * 64 + z - 0x3c82080

-- the bytes of a character are those of a scalar value, row by row of the table
decoded : {b : ℕ} {d : Due} {bs : List ℕ} → Among b d rows → Tails d.more d.low d.high bs → Encoded (b ∷ bs)
decoded {b = b} {d = d} {bs = bs} (later (later (later (later (later (later (later (later (later x99))))))))) _ = elim x99 [ ]
decoded {b} (here p q) end = of1 b q
decoded {b} (later (here p q)) (tail x f g end) = of2 b x (b * 64 + x - 0x3080) (omega arith) (omega arith)
decoded {b} (later (later (here p q))) (tail x f g (tail y i j end)) = of3 b x y (v3 b x y) (omega arith) (omega arith) (below (omega arith))
decoded {b} (later (later (later (here p q)))) (tail x f g (tail y i j end)) = of3 b x y (v3 b x y) (omega arith) (omega arith) (below (omega arith))
decoded {b} (later (later (later (later (here p q))))) (tail x f g (tail y i j end)) = of3 b x y (v3 b x y) (omega arith) (omega arith) (below (omega arith))
decoded {b} (later (later (later (later (later (here p q)))))) (tail x f g (tail y i j end)) = of3 b x y (v3 b x y) (omega arith) (omega arith) (above (omega arith) (omega arith))
decoded {b} (later (later (later (later (later (later (here p q))))))) (tail x f g (tail y i j (tail z k l end))) = of4 b x y z (v4 b x y z) (omega arith) (omega arith)
decoded {b} (later (later (later (later (later (later (later (here p q)))))))) (tail x f g (tail y i j (tail z k l end))) = of4 b x y z (v4 b x y z) (omega arith) (omega arith)
decoded {b} (later (later (later (later (later (later (later (later (here p q))))))))) (tail x f g (tail y i j (tail z k l end))) = of4 b x y z (v4 b x y z) (omega arith) (omega arith)

-- a byte that may not stand there is not read
refused : (d : Due) (b n : ℕ) (c : List ℕ) {s : Bool} {m : ℕ} → step_of d b ≡ Never → text_from d n (b ∷ c) ≡ of s m → ⊥
unfolding text_from
refused d b n c {s} {m} e f =
    let g : Err BadText ≡ of s m = rw (e, text_from) at f in
    let z : ◌≡◌ {A = ℕ} 0 1 = cc in
    omega arith

-- the bytes that are due stand first, and the rest is read after them
data Split (P : List ℕ → Type 0) (n : ℕ) (v : Value) : List ℕ → Type 0 where
  split_at : {bs : List ℕ} (r : List ℕ) → P bs → text_from (due 0 0 0) n r ≡ v → Split P n v (bs ++ r)

more_of : {P Q : List ℕ → Type 0} {n x : ℕ} {v : Value} {c : List ℕ} → Split P n v c → ((bs : List ℕ) → P bs → Q (x ∷ bs)) → Split Q n v (x ∷ c)
more_of (split_at {bs} r p e) f = split_at r (f bs p) e

tails : (k l h n : ℕ) {s : Bool} {m : ℕ} (c : List ℕ) → text_from (due k l h) n c ≡ of s m → Split (Tails k l h) n (of s m) c
unfolding text_from step_of starts
tails zero l h n c e = split_at c end (sym (rests l h n c) ∙ e)
tails (suc k) l h n [] e = let z : ◌≡◌ {A = ℕ} 0 1 = cc (ne_eqb (suc k) 0 (omega arith)) in absurd (omega arith)
tails (suc k) l h n (x ∷ c) e =
    let a = ne_eqb (suc k) 0 (omega arith) in
    by_less x l (λ p. absurd (refused (due (suc k) l h) x n c (rw (a, lt-ltb x l p)) e))
    (λ p. by_less h x (λ q. absurd (refused (due (suc k) l h) x n c (rw (a, le-ltb x l p, lt-ltb h x q)) e))
    (λ q. more_of (tails k 0x80 0xbf n c (rw (due_step k l h x p q, text_from, a, add-zero) at e)) (λ bs. tail x p q)))

chars : (n : ℕ) {s : Bool} {m : ℕ} (b : ℕ) (c : List ℕ) → text_from (due 0 0 0) n (b ∷ c) ≡ of s m → Split Char (n + 1) (of s m) (b ∷ c)
unfolding text_from step_of starts
chars n {s} {m} b c e = go (lead_of b) refl
  where
    go : (v : Next) → lead_of b ≡ v → Split Char (n + 1) (of s m) (b ∷ c)
    go Never f = absurd (refused (due 0 0 0) b n c f e)
    go (Then t) f = more_of (tails t.more t.low t.high (n + 1) c (rw (f, text_from) at e)) (λ bs. char f)

-- c is the encoding of scalar values, and n more than those are told
record Spelt (n : ℕ) (v : Value) (c : List ℕ) : Type 0 where
  scalars : List ℕ
  each : Scalars scalars
  bytes : c ≡ utf8s scalars
  says : told (n + length scalars) ≡ v

spelt_on : {n : ℕ} {v : Value} {c : List ℕ} → Split Char (n + 1) v c → ((r : List ℕ) → length r < length c → text_from (due 0 0 0) (n + 1) r ≡ v → Spelt (n + 1) v r) → Spelt n v c
unfolding utf8s lead_of
spelt_on {n} (split_at r (char {b} {k} {l} {h} {bs} e t) w) on =
    let d = decoded (among rows b (due k l h) e) t in
    let q = on r (omega (arith, length-append bs r)) w in
    let i : n + suc (length q.scalars) ≡ n + 1 + length q.scalars = omega arith in
    record { scalars = d.u ∷ q.scalars; each = more d.scalar q.each; bytes = rw (← d.is, ← q.bytes); says = rw i q.says }

spelt_from : (n : ℕ) {s : Bool} {m : ℕ} (c : List ℕ) → text_from (due 0 0 0) n c ≡ of s m → ((r : List ℕ) → length r < length c → text_from (due 0 0 0) (n + 1) r ≡ of s m → Spelt (n + 1) (of s m) r) → Spelt n (of s m) c
unfolding text_from utf8s
spelt_from n [] e on = record { scalars = []; each = none; bytes = refl; says = rw add-zero e }
spelt_from n (x ∷ c) e on = spelt_on (chars n x c e) on

spelt : (k n : ℕ) {s : Bool} {m : ℕ} (c : List ℕ) → length c < k → text_from (due 0 0 0) n c ≡ of s m → Spelt n (of s m) c
spelt zero n c h e = absurd (omega arith)
spelt (suc k) n c h e = spelt_from n c e (λ r l f. spelt k (n + 1) r (omega arith) f)

-- contents that are read as text are the encoding of scalar values, and so many
pub text_sound : (c : List ℕ) {n : Bool} {m : ℕ} → text c ≡ of n m → Encodes form.Text c n m
unfolding text told
text_sound c {n} {m} e =
    let q = spelt (suc (length c)) 0 c (omega arith) e in
    let f : of false (least (length q.scalars) most) ≡ of n m = rw zero-add at q.says in
    let g = of_same f in
    record { worth = q.scalars; proper = q.each; bytes = q.bytes; told = (sym g.0, sym g.1) }
