-- Whatever the records, what is rendered of them is bytes.
use Rattle.std.specs.Prelude.{ℕ, zero, suc, ◌+◌, ◌/◌, ◌%◌, ◌≤◌, ◌<◌, List, [], ◌∷◌, ◌++◌, Bool, true, false, ◌&&◌, ℤ, pos, negsuc, length, get_or, drop, replicate, ltb, eqb, T}
use Rattle.std.proofs.Common.{le_refl, arith, ltb-true}
use Rattle.elements.specs.Choice.{choose}
use Rattle.elements.specs.Sealed.{among}
use Rattle.rules.specs.Reading.{Rec, count, number, untwos}
use Rattle.elements.specs.ChoiceLaws.{all_both, by_choose, by_pick, by_less}
use Rattle.elements.specs.Boolean.{boolean_bytes}
use Rattle.elements.specs.Integer.{digit, spread, integer_bytes}
use Rattle.elements.specs.SpreadLaws.{spread_small, spread_more}
use Rattle.elements.specs.Bits.{width, flag_run, flag_bytes}
use Rattle.elements.specs.BitsLaws.{reversed_small}
use Rattle.rules.specs.declared.table.Row.{Row}
use Rattle.elements.specs.declared.answer.Form.{Form}
use Rattle.elements.specs.declared.answer.Form.TheVariants as form
use Rattle.elements.specs.Length.{shortest, wrap}
use Rattle.rules.specs.Rendering.{Rendered, gives, Renderer, nothing, ◌next◌, within, r_lengthed, when, either, from, plain, unvalue, r_row, r_rows, r_keep, r_many, r_all, r_times, r_fill}
use Rattle.rules.specs.Looks.{rows_look}
use Rattle.rules.specs.LookLaws.{avoids}
use Rattle.rules.specs.TestLaws.{and_left, and_right}
use Rattle.rules.specs.ElementLaws.{low_tag, low_tag_lem}
use Rattle.rules.specs.BoundLaws.{bounds_fit}
use Rattle.rules.specs.RenderLaws.{rows_fit}

-- bytes
abbrev pub AllB : List ℕ → Type 0
AllB [] = Unit {0}
AllB (x ∷ l) = (x < 256) × AllB l

-- records whose payloads are bytes
abbrev pub PayB : List Rec → Type 0
PayB [] = Unit {0}
PayB (r ∷ rs) = AllB r.pay × PayB rs

-- bytes, and such records left
pub record Out (x : Rendered) : Type 0 where
  pub bytes : AllB x.bytes
  pub left : PayB x.left

-- whatever the records
abbrev pub Outs : Renderer → Type 0
Outs q = (rs : List Rec) → PayB rs → Out (q rs)

-- lists of bytes
pub b_append : (l m : List ℕ) → AllB l → AllB m → AllB (l ++ m)
b_append [] m h g = g
b_append (x ∷ l) m h g = (h.0, b_append l m h.1 g)

pub b_get : (l : List ℕ) (i : ℕ) → AllB l → get_or l i 0 < 256
b_get [] i h = omega arith
b_get (x ∷ l) zero h = h.0
b_get (x ∷ l) (suc i) h = b_get l i h.1

pub b_drop : (n : ℕ) (l : List ℕ) → AllB l → AllB (drop n l)
b_drop zero l h = h
b_drop (suc n) [] h = tt
b_drop (suc n) (x ∷ l) h = b_drop n l h.1

pub b_replicate : (n x : ℕ) → x < 256 → AllB (replicate n x)
b_replicate zero x h = tt
b_replicate (suc n) x h = (h, b_replicate n x h)

-- an element's tag and length
pub shortest_b : (n : ℕ) → AllB (shortest n)
unfolding shortest
shortest_b n =
    by_pick AllB (ltb n 128) (λ e. (omega (arith, ltb-true n 128 e), tt)) (λ _.
    by_pick AllB (ltb n 256) (λ e. (omega arith, (ltb-true n 256 e, tt))) (λ _. (omega arith, (omega arith, (omega arith, tt)))))

pub wrap_b : (t : ℕ) (c : List ℕ) → t < 256 → AllB c → AllB (wrap t c)
unfolding wrap
wrap_b t c h g = (h, b_append (shortest (length c)) c (shortest_b (length c)) g)

pub out : {x : List ℕ} {l : List Rec} → AllB x → PayB l → Out (gives x l)
out a b = record { bytes = a; left = b }

-- numbers
pub digit_b : (n : Bool) (x : ℕ) → x < 256 → digit n x < 256
digit_b false x h = h
digit_b true x h = omega arith

pub spread_b : (n : Bool) (k w : ℕ) → w ≤ k → AllB (spread n w)
spread_b n zero w l = rw (spread_small n w (omega arith)) (digit_b n w (omega arith), tt)
spread_b n (suc k) w l =
    by_less w 128 (λ h. rw (spread_small n w h) (digit_b n w (omega arith), tt))
    (λ h. rw (spread_more n w h) (b_append (spread n (w / 256)) (digit n (w % 256) ∷ []) (spread_b n k (w / 256) (omega arith)) (digit_b n (w % 256) (omega arith), tt)))

pub integer_b : (z : ℤ) → AllB (integer_bytes z)
unfolding integer_bytes
integer_b (pos w) = spread_b false w w (le_refl w)
integer_b (negsuc w) = spread_b true w w (le_refl w)

pub run_b : (k v : ℕ) → AllB (flag_run k v)
unfolding flag_run
run_b zero v = tt
run_b (suc k) v = (reversed_small (v % 256), run_b k (v / 256))

pub flags_b : (w : ℕ) → AllB (flag_bytes w)
unfolding flag_bytes
flags_b w = (omega arith, run_b ((width w + 7) / 8) w)

pub value_b : (f : Form) (p : List ℕ) → AllB p → AllB (unvalue f p)
unfolding unvalue boolean_bytes
value_b form.Integer p h = integer_b (untwos (number p))
value_b form.Bits p h = flags_b (number p)
value_b form.Boolean p h = by_pick AllB (eqb (get_or p 0 0) 0) (λ _. (omega arith, tt)) (λ _. (omega arith, tt))
value_b form.Octets p h = h
value_b form.Text p h = h
value_b form.Time p h = h
value_b form.Null p h = h

-- renderers
pub nothing_b : Outs nothing
nothing_b rs h = out tt h

pub next_b : {q p : Renderer} → Outs q → Outs p → Outs (q next p)
next_b {q} {p} f g rs h = let x = f rs h in let y = g (q rs).left x.left in out (b_append (q rs).bytes (p (q rs).left).bytes x.bytes y.bytes) y.left

pub within_b : {q : Renderer} (t : ℕ) → t < 256 → Outs q → Outs (within t q)
within_b {q} t h f rs g = let x = f rs g in out (wrap_b t (q rs).bytes h x.bytes) x.left

pub lengthed_b : {q : Renderer} → Outs q → Outs (r_lengthed q)
lengthed_b {q} f rs g = let x = f rs g in out (omega arith, (omega arith, x.bytes)) x.left

pub out_test : (t : Bool) {x y : Unit {0} → Rendered} → ((u : Unit {0}) → Out (x u)) → ((u : Unit {0}) → Out (y u)) → Out (choose t x y)
out_test t f g = by_choose Out t (λ u _. f u) (λ u _. g u)

pub when_b : {q : Renderer} (ks : List ℕ) → Outs q → Outs (when ks q)
when_b ks f [] h = out tt tt
when_b ks f (r ∷ rs) h = out_test (among r.kind ks) (λ _. f (r ∷ rs) h) (λ _. out tt h)

pub either_b : {q p : Renderer} (ks : List ℕ) → Outs q → Outs p → Outs (either ks q p)
either_b ks f g [] h = g [] h
either_b ks f g (r ∷ rs) h = out_test (among r.kind ks) (λ _. f (r ∷ rs) h) (λ _. g (r ∷ rs) h)

pub from_b : {f : ℕ → List ℕ → Renderer} → ((k : ℕ) (p : List ℕ) → AllB p → Outs (f k p)) → Outs (from f)
from_b g [] h = out tt tt
from_b g (r ∷ rs) h = g r.kind r.pay h.0 rs h.1

pub plain_b : Outs plain
plain_b = from_b (λ k p a rs h. out a h)

pub keep_b : (kind : ℕ) → Outs (r_keep kind)
unfolding r_keep
keep_b kind = when_b (kind ∷ []) plain_b

pub rows_b : (rows : List Row) → T (rows_fit rows) → Outs (r_rows rows)
unfolding r_rows r_row
rows_b [] t = nothing_b
rows_b (r ∷ rows) t =
    let a = all_both (low_tag r.tag && (bounds_fit r && ltb r.kind 65536)) (avoids (rows_look rows).first (r.kind ∷ []) && rows_fit rows) t in
    let b = low_tag_lem r.tag (and_left (low_tag r.tag) (bounds_fit r && ltb r.kind 65536) a.0) in
    next_b (when_b (r.kind ∷ []) (within_b r.tag b.byte (from_b (λ k p a rs h. out (value_b r.form p a) h)))) (rows_b rows (and_right (avoids (rows_look rows).first (r.kind ∷ [])) (rows_fit rows) a.1))

pub many_b : {q : Renderer} (ks : List ℕ) → Outs q → (g : ℕ) → Outs (r_many ks q g)
unfolding r_many
many_b ks f zero = λ rs h. out tt h
many_b ks f (suc g) = when_b ks (next_b f (many_b ks f g))

pub all_b : {q : Renderer} (ks : List ℕ) → Outs q → Outs (r_all ks q)
unfolding r_all
all_b ks f rs h = many_b ks f (length rs) rs h

pub times_b : {q : Renderer} (k : ℕ) → Outs q → Outs (r_times k q)
unfolding r_times
times_b zero f = nothing_b
times_b (suc k) f = next_b f (times_b k f)

pub fill_b : (kind : ℕ) → Outs (r_fill kind)
unfolding r_fill
fill_b kind = when_b (kind ∷ []) (from_b (λ k p a rs h. out (b_replicate (count (drop 1 p)) (get_or p 0 0) (b_get p 0 a)) h))
