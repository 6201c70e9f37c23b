-- Parts that are made one after the other: three of them, or as many as the next record's kind calls for.
use Prim.Native.Nat.{ℕ, zero, suc, ◌-◌, ◌<◌, ◌≤◌}
use Rattle.std.specs.Prelude.{◌≡◌, refl, Bool, true, false, List, [], ◌∷◌, length, Ok, Err}
use Rattle.std.proofs.Common.{sym, ◌∙◌, arith}
use Rattle.elements.specs.ChoiceLaws.{by_choose}
use Rattle.elements.specs.Sealed.{among}
use Rattle.makers.specs.declared.made.Made.{Made}
use Rattle.makers.specs.declared.made.TooLong.{TooLong}
use Rattle.rules.specs.Reading.{Rec}
use Rattle.rules.specs.Render.{Rendered, gives, Renderer, ◌next◌, when, from, plain, r_keep, r_many, r_all, r_times}
use Rattle.rules.specs.Book.{records_from}
use Rattle.makers.specs.Making.{Answer, Makes, Onward, next_among}
use Rattle.makers.specs.MadeLaws.{makes_none, makes_as, makes_same, made_high, made_room, next_long, next_took, among_yes, among_no}

-- ---- three parts
module _ (p q s : Renderer) {b a c : List ℕ} {i o : ℕ} where
  pub three_first : {x : TooLong} → Makes b a c i o (p (records_from b i)) (Err x) → Makes b a c i o ((p next q next s) (records_from b i)) (Err x)
  three_first m = next_long (p next q) s (next_long p q m)

  module _ {x : Made} (m : Makes b a c i o (p (records_from b i)) (Ok x)) {d : List ℕ} where
    pub three_second : {y : TooLong} → Makes b c d x.next x.end (q (records_from b x.next)) (Err y) → Makes b a d i o ((p next q next s) (records_from b i)) (Err y)
    three_second k = next_long (p next q) s (next_took p q m k)

    pub three_third : {e : List ℕ} {y : Made} {v : Answer} → Makes b c d x.next x.end (q (records_from b x.next)) (Ok y) → Makes b d e y.next y.end (s (records_from b y.next)) v → Makes b a e i o ((p next q next s) (records_from b i)) v
    three_third k l = next_took (p next q) s (next_took p q m k) l

-- ---- no part leaves more records than there are
abbrev pub Fewer : Renderer → Type 0
Fewer q = (rs : List Rec) → length (q rs).left ≤ length rs

pub next_fewer : (p q : Renderer) → Fewer p → Fewer q → Fewer (p next q)
next_fewer p q f g rs = omega (arith, f rs, g (p rs).left)

pub when_fewer : (ks : List ℕ) (q : Renderer) → Fewer q → Fewer (when ks q)
when_fewer ks q f [] = omega arith
when_fewer ks q f (r ∷ rs) = by_choose (λ (w : Rendered). length w.left ≤ suc (length rs)) (among r.kind ks) (λ _ _. f (r ∷ rs)) (λ _ _. omega arith)

pub from_fewer : (f : ℕ → List ℕ → Renderer) → ((k : ℕ) (p : List ℕ) → Fewer (f k p)) → Fewer (from f)
from_fewer f g [] = omega arith
from_fewer f g (r ∷ rs) = omega (arith, g r.kind r.pay rs)

pub keep_fewer : (kind : ℕ) → Fewer (r_keep kind)
unfolding r_keep
keep_fewer kind = when_fewer (kind ∷ []) plain (from_fewer (λ k p rs. gives p rs) (λ k p rs. omega arith))

pub times_fewer : (k : ℕ) (q : Renderer) → Fewer q → Fewer (r_times k q)
unfolding r_times
times_fewer zero q f rs = omega arith
times_fewer (suc k) q f rs = next_fewer q (r_times k q) f (times_fewer k q f) rs

-- ---- as long as the next record is of one of the kinds
some_next : (ks : List ℕ) (rs : List Rec) → next_among ks rs ≡ true → 0 < length rs
some_next ks [] e = absurd (let z : ◌≡◌ {A = ℕ} 0 1 = cc in omega arith)
some_next ks (r ∷ rs) e = omega arith

many_more : (ks : List ℕ) (q : Renderer) (g : ℕ) (rs : List Rec) → 0 < g → r_many ks q g rs ≡ when ks (q next r_many ks q (g - 1)) rs
unfolding r_many
many_more ks q zero rs h = absurd (omega arith)
many_more ks q (suc g) rs h = let u : suc g - 1 ≡ g = omega arith in rw u refl

-- what the turns that are left make from x on completes the whole
pub record Repeating (b ks : List ℕ) (q : Renderer) (a c : List ℕ) (i o : ℕ) (x : Made) : Type 0 where
  pub turns : ℕ
  pub enough : length (records_from b x.next) ≤ turns
  pub is : (d : List ℕ) (s : Answer) → Makes b c d x.next x.end (r_many ks q turns (records_from b x.next)) s → Makes b a d i o (r_all ks q (records_from b i)) s
  pub high : x.next ≤ length b
  pub room : x.end ≤ length c
  pub same : length c ≡ length a

pub repeating_start : (b ks : List ℕ) (q : Renderer) (a : List ℕ) (x : Made) → x.next ≤ length b → x.end ≤ length a → Repeating b ks q a a x.next x.end x
unfolding r_all
repeating_start b ks q a x h l = record { turns = length (records_from b x.next); enough = omega arith; is = λ d s m. m; high = h; room = l; same = refl }

module _ {b ks : List ℕ} {q : Renderer} {a c : List ℕ} {i o : ℕ} {x : Made} (h : Repeating b ks q a c i o x) {y : Bool} (e : y ≡ next_among ks (records_from b x.next)) where
  pub repeating_all : y ≡ false → Makes b a c i o (r_all ks q (records_from b i)) (Ok x)
  unfolding r_many
  repeating_all z = h.is c (Ok x) (go h.turns)
    where
      go : (g : ℕ) → Makes b c c x.next x.end (r_many ks q g (records_from b x.next)) (Ok x)
      go zero = makes_none b c x h.high h.room
      go (suc g) = among_no ks (q next r_many ks q g) b x.next e z h.high h.room

  module _ (v : y ≡ true) where
    turn : {w : List ℕ} {s : Answer} → Makes b c w x.next x.end ((q next r_many ks q (h.turns - 1)) (records_from b x.next)) s → Makes b c w x.next x.end (r_many ks q h.turns (records_from b x.next)) s
    turn l = makes_as (among_yes ks (q next r_many ks q (h.turns - 1)) b x.next e v l) (sym (many_more ks q h.turns (records_from b x.next) (omega (arith, h.enough, some_next ks (records_from b x.next) (sym e ∙ v)))))

    pub repeating_long : {d : List ℕ} {z : TooLong} → Makes b c d x.next x.end (q (records_from b x.next)) (Err z) → Makes b a d i o (r_all ks q (records_from b i)) (Err z)
    repeating_long {d} {z} m = h.is d (Err z) (turn (next_long q (r_many ks q (h.turns - 1)) m))

    pub repeating_next : {d : List ℕ} {z : Made} → Makes b c d x.next x.end (q (records_from b x.next)) (Ok z) → length (records_from b z.next) < length (records_from b x.next) → Repeating b ks q a d i o z
    repeating_next m l = record {
      turns = h.turns - 1;
      enough = omega (arith, h.enough);
      is = λ w s f. h.is w s (turn (next_took q (r_many ks q (h.turns - 1)) m f));
      high = made_high m;
      room = made_room m;
      same = makes_same m ∙ h.same;
    }

-- a part that takes at least one record leaves fewer
pub onward_less : {b : List ℕ} {i : ℕ} {x : Made} → Onward b i (Ok x) → length (records_from b x.next) < length (records_from b i)
onward_less {x = x} f = f.is x refl
