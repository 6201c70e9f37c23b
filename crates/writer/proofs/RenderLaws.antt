-- The dump that could have a book, made.
use Prim.Native.Nat.{ℕ, ◌+◌, ◌-◌, ◌<◌, ◌≤◌}
use mathlib.Core.Path.{◌≡◌, refl, sym, ap, ◌∙◌}
use mathlib.Core.Bool.{Bool, true, false}
use mathlib.Core.List.{List, [], ◌∷◌, ◌++◌}
use native.Mathlib.Omega.{arith}
use lib.ListN.{length, get_or, length-append}
use lib.Seq.{slice, take_at}
use Rattle.elements.specs.PutLaws.{put_put, put_length}
use Rattle.std.specs.Prelude.{Ok, Err}
use Rattle.std.specs.Result.{IsErr, IsErrAnd}
use Rattle.elements.specs.AnswerLaws.{leaves}
use Rattle.makers.specs.declared.made.Made.{Made}
use Rattle.makers.specs.declared.made.TooLong.{TooLong}
use Rattle.rules.specs.Reading.{Rec, rec}
use Rattle.rules.specs.Files.{Name, two, names_path, names_of}
use Rattle.rules.specs.Book.{records, records_from, Ends, next_is}
use Rattle.rules.specs.BookLaws.{name_path, one_end}
use Rattle.rules.specs.Render.{Rendered, Renderer, ◌next◌, when, r_named, r_framed, r_od, r_directory, r_linear, r_file, r_directories, r_dir, framing, used, render}
use Rattle.makers.specs.Making.{Answer, Walk, there, onto, Steps, Makes, makes, breaks, next_among}
use Rattle.makers.specs.MadeLaws.{either_yes, either_no, put_made, put_again, makes_none, makes_same, made_put, made_left, made_room, made_steps, made_long, made_high, next_long, next_took, next_one, when_is, when_not}
use Rattle.writer.specs.Composed.{od_and_files, others_than_dir}
use Rattle.writer.specs.MakingFiles.{Fitted, fits, beyond, Named, named, FileMade, FilesMade}

-- a path behind its length, then a file
module _ (q : Renderer) {b a c : List ℕ} {p e i o r : ℕ} (f : Named b a c p e o r) where
  pub named_long : {x : TooLong} → length c < r → Makes b a c i o (named (slice p e b) q (records_from b i)) (Err x)
  named_long h =
      let path = slice p e b in
      breaks {w = named path q (records_from b i)} (omega (arith, f.is.at, put_length f.is, length-append path (q (records_from b i)).bytes)) (put_length f.is)

  pub named_made : {d : List ℕ} {s : Answer} → Makes b c d i r (q (records_from b i)) s → Makes b a d i o (named (slice p e b) q (records_from b i)) s
  named_made m = put_made f.is m

-- a directory file of either kind
module _ {b a c : List ℕ} (j e : ℕ) {i o : ℕ} {t : Bool} (q : t ≡ next_is 0x0118 (records_from b i)) {r : Answer} where
  pub file_directory : t ≡ true → Makes b a c i o (r_named 3 (slice (j + 6) e b) r_directory (records_from b i)) r → FileMade b a c j e i o r
  unfolding r_file
  file_directory z m = record { is = either_yes 0x0118 (r_named 3 (slice (j + 6) e b) r_directory) (r_named 4 (slice (j + 6) e b) r_linear) b i q z m }

  pub file_linear : t ≡ false → Makes b a c i o (r_named 4 (slice (j + 6) e b) r_linear (records_from b i)) r → FileMade b a c j e i o r
  unfolding r_file
  file_linear z m = record { is = either_no 0x0118 (r_named 3 (slice (j + 6) e b) r_directory) (r_named 4 (slice (j + 6) e b) r_linear) b i q z m }

walk_low : {b : List ℕ} {i n : ℕ} {rs : List Rec} → Walk b i n rs → i ≤ n
walk_low there = omega arith
walk_low (onto h f) = omega (arith, h.low, walk_low f)

-- the first record of a walk
pub record FirstOf (b : List ℕ) (i e n : ℕ) (rs : List Rec) : Type 0 where
  pub rest : List Rec
  pub is : rs ≡ rec (two b (i + 2)) (slice (i + 4) e b) ∷ rest
  pub walk : Walk b e n rest

first_of : {b : List ℕ} {i e n : ℕ} {rs : List Rec} → Ends b i e → i < n → Walk b i n rs → FirstOf b i e n rs
first_of h l there = absurd (omega arith)
first_of h l (onto {rs = rs} k g) = let q = one_end k h in record { rest = rs; is = rw q refl; walk = rw q at g }

-- a walk has one list of records
walk_same : {b : List ℕ} {i n : ℕ} {rs ws : List Rec} → Walk b i n rs → Walk b i n ws → rs ≡ ws
walk_same there g = none g refl
  where
    none : {b : List ℕ} {i n : ℕ} {ws : List Rec} → Walk b i n ws → i ≡ n → [] ≡ ws
    none there e = refl
    none (onto h f) e = absurd (omega (arith, h.low, walk_low f))
walk_same {b} {i} (onto {e = e} h f) g = let w = first_of h (omega (arith, h.low, walk_low f)) g in ap (λ (r : List Rec). rec (two b (i + 2)) (slice (i + 4) e b) ∷ r) (walk_same f w.walk) ∙ sym w.is

-- the files are being made: those of the records from k on, from x on, complete the whole
pub record Filing (b a c : List ℕ) (j end i o k : ℕ) (x : Made) : Type 0 where
  pub rest : List Rec
  pub walk : Walk b k end rest
  pub is : (d : List ℕ) (s : Answer) → Makes b c d x.next x.end (r_directories (names_of rest) (records_from b x.next)) s → FilesMade b a d j end i o s
  pub high : x.next ≤ length b
  pub room : x.end ≤ length c
  pub same : length c ≡ length a

-- files by equal names
names_as : (l : List Rec) {b a c : List ℕ} {i o : ℕ} {ns ms : List Name} {s : Answer} → ns ≡ ms → Makes b a c i o (r_directories ms l) s → Makes b a c i o (r_directories ns l) s
names_as l e m = rw e m

pub filing_start : (b a : List ℕ) (j end : ℕ) (x : Made) → Steps b j end → x.next ≤ length b → x.end ≤ length a → Filing b a a j end x.next x.end j x
filing_start b a j end x s h l = record {
  rest = s.taken;
  walk = s.walk;
  is = λ d r m. record { is = λ rs w. names_as (records_from b x.next) (ap names_of (walk_same w s.walk)) m };
  high = h;
  room = l;
  same = refl;
}

walk_none : {b : List ℕ} {k end : ℕ} {rs : List Rec} → Walk b k end rs → end ≤ k → rs ≡ []
walk_none there l = refl
walk_none (onto h f) l = absurd (omega (arith, h.low, walk_low f))

module _ {b a c : List ℕ} {j end i o k : ℕ} {x : Made} (m : Filing b a c j end i o k x) where
  pub filing_done : end ≤ k → FilesMade b a c j end i o (Ok x)
  unfolding r_directories names_of
  filing_done l = m.is c (Ok x) (names_as (records_from b x.next) (ap names_of (walk_none m.walk l)) (makes_none b c x m.high m.room))

  module _ (l : k < end) {e : ℕ} (h : Ends b k e) {t : Bool} (q : t ≡ names_path (two b (k + 2)) (slice (k + 4) e b)) where
    first : FirstOf b k e end m.rest
    first = first_of h l m.walk

    -- it names no path
    pub filing_pass : t ≡ false → Filing b a c j end i o e x
    unfolding names_of
    filing_pass z =
        let w = first in
        let u : names_of (rec (two b (k + 2)) (slice (k + 4) e b) ∷ w.rest) ≡ names_of w.rest = rw (sym q ∙ z) refl in
        record { rest = w.rest; walk = w.walk; is = λ d s f. m.is d s (names_as (records_from b x.next) (ap names_of w.is ∙ u) f); high = m.high; room = m.room; same = m.same }

    -- it names one
    module _ (z : t ≡ true) where
      abbrev file : Renderer
      file = r_file (slice (k + 6) e b)

      named_one : {g : List ℕ} {s : Answer} → Makes b c g x.next x.end ((file next r_directories (names_of first.rest)) (records_from b x.next)) s → FilesMade b a g j end i o s
      unfolding r_directories names_of
      named_one {g} {s} y =
          let w = first in
          let u : names_of (rec (two b (k + 2)) (slice (k + 4) e b) ∷ w.rest) ≡ record { tag = get_or (slice (k + 4) e b) 0 0; path = slice (k + 6) e b } ∷ names_of w.rest = rw (sym q ∙ z, name_path b k e) refl in
          m.is g s (names_as (records_from b x.next) (ap names_of w.is ∙ u) y)

      pub filing_long : {d : List ℕ} {y : TooLong} → FileMade b c d k e x.next x.end (Err y) → FilesMade b a d j end i o (Err y)
      filing_long f = named_one (next_long file (r_directories (names_of first.rest)) f.is)

      pub filing_more : {d : List ℕ} {y : Made} → FileMade b c d k e x.next x.end (Ok y) → Filing b a d j end i o e y
      filing_more f = record {
        rest = first.rest;
        walk = first.walk;
        is = λ g s w. named_one (next_took file (r_directories (names_of first.rest)) f.is w);
        high = made_high f.is;
        room = made_room f.is;
        same = makes_same f.is ∙ m.same;
      }

used_is : (cs ds : List Rec) → used (cs ++ ds) ds ≡ cs
used_is cs ds = take_at cs ds (length (cs ++ ds) - length ds) (omega (arith, length-append cs ds))

used_of : (rs taken left l : List Rec) → l ≡ left → rs ≡ taken ++ left → used rs l ≡ taken
used_of rs taken left l e q = rw (q, e) (used_is taken left)

-- EF.OD's record, then the files
abbrev files : List Rec → Renderer
files rs = r_directories (names_of (used rs (r_od rs).left))

module _ {b a c : List ℕ} {i o : ℕ} where
  pub two_long : {x : TooLong} → Makes b a c i o (r_framed 2 r_od (records_from b i)) (Err x) → Makes b a c i o (od_and_files (records_from b i)) (Err x)
  two_long m = next_long (r_framed 2 r_od) (files (records_from b i)) m

  pub two_took : {d : List ℕ} {x : Made} {s : Answer} → Makes b a c i o (r_framed 2 r_od (records_from b i)) (Ok x) → FilesMade b c d i x.next x.next x.end s → Makes b a d i o (od_and_files (records_from b i)) s
  two_took {d} {x} {s} m f =
      let w = r_od (records_from b i) in
      let t = made_steps m in
      let u : used (records_from b i) w.left ≡ t.taken = used_of (records_from b i) t.taken (records_from b x.next) w.left (made_left m) t.is in
      next_took (r_framed 2 r_od) (files (records_from b i)) m (names_as (records_from b x.next) (ap names_of u) (f.is t.taken t.walk))

-- EF.DIR's record, then the others
module _ {b a c : List ℕ} {i : ℕ} where
  pub behind_long : {x : TooLong} → Makes b a c i 0 (r_framed 5 r_dir (records_from b i)) (Err x) → Fitted a c 0 (framing 5 (r_dir (records_from b i)).bytes ++ (others_than_dir (records_from b 0)).bytes) (Err x)
  behind_long m = beyond (omega (arith, made_long m, length-append (framing 5 (r_dir (records_from b i)).bytes) (others_than_dir (records_from b 0)).bytes)) (makes_same m)

  pub behind_took : {d : List ℕ} {x : Made} {s : Answer} → Makes b a c i 0 (r_framed 5 r_dir (records_from b i)) (Ok x) → Makes b c d 0 x.end (others_than_dir (records_from b 0)) s → Fitted a d 0 (framing 5 (r_dir (records_from b i)).bytes ++ (others_than_dir (records_from b 0)).bytes) s
  behind_took {d} {x} m f = go f
    where
      go : {w : Rendered} {s : Answer} → Makes b c d 0 x.end w s → Fitted a d 0 (framing 5 (r_dir (records_from b i)).bytes ++ w.bytes) s
      go (makes _ g _ h) = fits (put_put (made_put m) g) (omega (arith, makes_same m))
      go (breaks {w} h e) = beyond (omega (arith, (made_put m).at, makes_same m, length-append (framing 5 (r_dir (records_from b i)).bytes) w.bytes)) (e ∙ makes_same m)

-- what a `?` answers where it leaves
pub fitted_left_by : {a c : List ℕ} {o : ℕ} {l : List ℕ} {x : TooLong} {r : Answer} → Fitted a c o l (Err x) → IsErr r × IsErrAnd r (λ y. y ≡ x) → Fitted a c o l r
fitted_left_by f e = rw (← leaves e) at f

-- the whole, from all but EF.DIR's record
abbrev dir : List Rec → List ℕ
dir l = (when (0x0200 ∷ []) (r_framed 5 r_dir) l).bytes

render_is : (b : List ℕ) → render (records b) ≡ dir (others_than_dir (records_from b 0)).left ++ (others_than_dir (records_from b 0)).bytes
unfolding render records_from
render_is b = refl

module _ {b a c : List ℕ} where
  pub whole_long : {x : TooLong} → Makes b a c 0 0 (others_than_dir (records_from b 0)) (Err x) → Fitted a c 0 (render (records b)) (Err x)
  whole_long m =
      let w = others_than_dir (records_from b 0) in
      rw (render_is b) (beyond (omega (arith, made_long m, length-append (dir w.left) w.bytes)) (makes_same m))

  module _ {x : Made} (m : Makes b a c 0 0 (others_than_dir (records_from b 0)) (Ok x)) {t : Bool} (e : t ≡ next_is 0x0200 (records_from b x.next)) where
    next_dir : t ≡ next_among (0x0200 ∷ []) (others_than_dir (records_from b 0)).left
    next_dir = rw (made_left m) (next_one 0x0200 (records_from b x.next) e)

    pub whole_alone : t ≡ false → Fitted a c 0 (render (records b)) (Ok x)
    whole_alone y =
        let w = others_than_dir (records_from b 0) in
        let u : render (records b) ≡ w.bytes = render_is b ∙ ap (λ (v : Rendered). v.bytes ++ w.bytes) (when_not (0x0200 ∷ []) (r_framed 5 r_dir) w.left (sym next_dir ∙ y)) in
        rw u (fits (made_put m) (omega (arith, made_room m, makes_same m)))

    pub whole_behind : {d : List ℕ} {s : Answer} → t ≡ true → Fitted c d 0 (framing 5 (r_dir (records_from b x.next)).bytes ++ (others_than_dir (records_from b 0)).bytes) s → Fitted a d 0 (render (records b)) s
    whole_behind {d} {s} y f =
        let w = others_than_dir (records_from b 0) in
        let z : dir w.left ≡ framing 5 (r_dir w.left).bytes = ap (λ (v : Rendered). v.bytes) (when_is (0x0200 ∷ []) (r_framed 5 r_dir) w.left (sym next_dir ∙ y)) in
        let u : dir w.left ≡ framing 5 (r_dir (records_from b x.next)).bytes = z ∙ ap (λ (l : List Rec). framing 5 (r_dir l).bytes) (made_left m) in
        rw (render_is b ∙ ap (λ (l : List ℕ). l ++ w.bytes) u) (go (framing 5 (r_dir (records_from b x.next)).bytes) f)
      where
        go : (x : List ℕ) {s : Answer} → Fitted c d 0 (x ++ (others_than_dir (records_from b 0)).bytes) s → Fitted a d 0 (x ++ (others_than_dir (records_from b 0)).bytes) s
        go x (fits g h) = fits (put_again (made_put m) g (omega (arith, (made_put m).at, g.at, length-append x (others_than_dir (records_from b 0)).bytes)) (omega (arith, makes_same m))) (omega (arith, makes_same m))
        go x (beyond g h) = beyond (omega (arith, makes_same m)) (h ∙ makes_same m)
