-- 12, second half: the ways through `follow`.
use Prim.Native.Nat.{ℕ, ◌+◌, ◌-◌, ◌<◌, ◌≤◌}
use mathlib.Core.Path.{◌≡◌, refl, sym, ap, ◌∙◌}
use mathlib.Core.List.{List, [], ◌∷◌}
use mathlib.Core.Bool.{Bool, true, false, ◌&&◌}
use native.Mathlib.Omega.{arith}
use lib.ListN.{length, get_or}
use lib.Seq.{slice}
use lib.Dec.{ltb, leb}
use Rattle.elements.specs.declared.fault.Fault.{Fault}
use Rattle.elements.specs.declared.fault.Fault.TheVariants.{FileDiffers, FileMissing, FileExtra}
use Rattle.elements.specs.ChoiceLaws.{by_choose, by_less}
use Rattle.elements.specs.Choice.{choose}
use Rattle.rules.specs.Reading.{Rec}
use Rattle.rules.specs.Files.{File, FrameRead, framed, broken, files, two, frame_of, file_in, named_file, named_frame, frames, Name, names_of, equal, path_of, Check, wrong_at, follow}
use Rattle.files.specs.Scan.{Lies, Holds, NextName, last, found, NameTold}
use Rattle.reader.specs.Frame.{framed_as, Inner, Path, Chain, Framed, fine_so, framed_at}
use Rattle.reader.specs.Twelve.{Sound, followed_as, FollowTold}
use Rattle.files.specs.LiesLaws.{lie_same}
use Rattle.reader.proofs.FrameLaws.{chain_more, chain_end}
use Rattle.elements.specs.Answer.{refused}
use Rattle.elements.specs.declared.answer.Refusal.{Refusal}
use Rattle.std.specs.Prelude.{Some, None, Err}

-- a file is framed where its record is
module _ (s : List ℕ) (at : ℕ) (f : File) where
  none_there : {x : Fault} {p : ℕ} → broken x p ≡ framed f → f.place ≡ at
  none_there z = let y : ◌≡◌ {A = ℕ} 0 1 = cc in absurd (omega arith)

  there : {g : File} → g.place ≡ at → framed g ≡ framed f → f.place ≡ at
  there {g} e z = let y : g ≡ f = cc in ap (λ (h : File). h.place) (sym y) ∙ e

  abbrev There : FrameRead → Type 0
  There v = v ≡ framed f → f.place ≡ at

  file_there : (kind n a e : ℕ) → There (file_in s at kind n a e)
  unfolding file_in
  file_there kind n a e =
      by_choose There (ltb e (a + n)) (λ _ _. none_there) (λ _ _.
      by_choose There (ltb 16383 (e - (a + n))) (λ _ _. none_there) (λ _ _. there refl))

  named_there : (kind a e : ℕ) → There (named_file s at kind a e)
  unfolding named_file
  named_there kind a e =
      by_choose There (leb e a) (λ _ _. none_there) (λ _ _.
      by_choose There (ltb (get_or s a 0) 1) (λ _ _. none_there) (λ _ _.
      by_choose There (ltb 64 (get_or s a 0)) (λ _ _. none_there) (λ _ _. file_there kind (1 + get_or s a 0) a e)))

  place_there : There (named_frame s at)
  unfolding named_frame frame_of
  place_there =
      by_choose There (leb (length s) at) (λ _ _. none_there) (λ _ _.
      by_choose There (ltb (length s) (at + 4)) (λ _ _. none_there) (λ _ _.
      by_choose There (ltb (two s at) 2) (λ _ _. none_there) (λ _ _.
      by_choose There (ltb (length s) (at + 2 + two s at)) (λ _ _. none_there) (λ _ _.
      by_choose There (leb 3 (two s (at + 2)) && leb (two s (at + 2)) 4) (λ _ _. named_there (two s (at + 2)) (at + 4) (at + 2 + two s at)) (λ _ _. none_there)))))

-- a chain has the same files whatever its turns
module _ (s : List ℕ) where
  pub chain_same : (fs ks : List File) (g h at : ℕ) → frames s g at ≡ files fs → frames s h at ≡ files ks → fs ≡ ks
  chain_same [] ks g h at e d =
      by_less at (length s)
      (λ l. let c = chain_more s g at [] l e in let u : [] ≡ c.0 ∷ c.1 = c.3 in let y : ◌≡◌ {A = ℕ} 0 1 = cc in absurd (omega arith))
      (λ l. sym (chain_end s h at ks l d))
  chain_same (f ∷ fs) ks g h at e d =
      by_less at (length s)
      (λ l.
      let c = chain_more s g at (f ∷ fs) l e in
      let o = chain_more s h at ks l d in
      let w : framed c.0 ≡ framed o.0 = sym c.4 ∙ o.4 in
      let y : c.0 ≡ o.0 = cc in
      let u : f ∷ fs ≡ c.0 ∷ c.1 = c.3 in
      let z : c.1 ≡ fs = cc in
      let v : f ≡ o.0 = cc in
      let i : fs ≡ o.1 = chain_same fs o.1 c.2 o.2 c.0.stop (rw z at c.5) (rw (← y) at o.5) in
      rw (v, i) (sym o.3))
      (λ l. chain_end s g at (f ∷ fs) l e ∙ sym (chain_end s h at ks l d))

-- what is chosen
chosen : (t : Bool) (x y : Unit {0} → Check) → t ≡ true → choose t x y ≡ x tt
chosen t x y e = rw e refl

unchosen : (t : Bool) (x y : Unit {0} → Check) → t ≡ false → choose t x y ≡ y tt
unchosen t x y e = rw e refl

-- a name and a file
follow_one : (s : List ℕ) {ns ms : List Name} {fs rest : List File} (o : Name) (f : File) (t : Bool) → ns ≡ o ∷ ms → fs ≡ f ∷ rest → t ≡ equal o.path (path_of s f) →
    follow s ns fs ≡ choose t (λ _. follow s ms rest) (λ _. wrong_at FileDiffers f.place)
unfolding follow
follow_one s o f t a b c = rw (a, b, c) refl

-- the record that names a path, at j
record Named (b : List ℕ) (end : ℕ) (rs : List Rec) (j : ℕ) : Type 0 where
  name : Name
  left : List Rec
  names : names_of rs ≡ name ∷ names_of left
  path : name.path ≡ slice (j + 6) (j + 2 + two b j) b
  six : 6 ≤ 2 + two b j
  after : Lies b (j + 2 + two b j) end left

named : {b : List ℕ} {end : ℕ} {rs : List Rec} {j : ℕ} → NextName b end rs (Some j) → Named b end rs j
named (found n left e _ _ p k l) = record { name = n; left = left; names = e; path = p; six = k; after = l }

unnamed : {b : List ℕ} {end : ℕ} {rs : List Rec} → NextName b end rs None → names_of rs ≡ []
unnamed (last e) = e

-- the loop of `follow`: what is left of the names, from k on, and of the files, from n on, decides
pub record Following (s : List ℕ) (at : ℕ) (b : List ℕ) (i end k n : ℕ) : Type 0 where
  pub all : List Rec
  pub lies : Lies b i end all
  pub fs : List File
  pub turns : ℕ
  pub are : frames s turns at ≡ files fs
  pub left : List Rec
  pub now : Lies b k end left
  pub rest : List File
  pub more : ℕ
  pub chain : frames s more n ≡ files rest
  pub high : n ≤ length s
  pub same : follow s (names_of all) fs ≡ follow s (names_of left) rest

pub following_none : {s : List ℕ} {at : ℕ} {b : List ℕ} {i end : ℕ} → Holds b i end → Sound s at → at ≤ length s → Following s at b i end i at
following_none h d l = record {
  all = h.rs;
  lies = h.lies;
  fs = d.fs;
  turns = d.turns;
  are = d.are;
  left = h.rs;
  now = h.lies;
  rest = d.fs;
  more = d.turns;
  chain = d.are;
  high = l;
  same = refl;
}

module _ {s : List ℕ} {at : ℕ} {b : List ℕ} {i end k n : ℕ} (w : Following s at b i end k n) where
  pub following_high : n ≤ length s
  following_high = w.high

  pub following_holds : Holds b k end
  following_holds = record { rs = w.left; lies = w.now }

  -- what is left tells the answer
  told : (r : Chain) → follow s (names_of w.left) w.rest ≡ followed_as r → FollowTold s at b i end r
  told r e = record { is = λ rs fs g l d. rw (lie_same l w.lies, chain_same s fs w.fs g w.turns at d w.are) (w.same ∙ e) }

  module _ {j : ℕ} (t : NameTold b k end (Some j)) where
    name : Named b end w.left j
    name = named (t.is w.left w.now)

    pub name_word : j + 2 ≤ length b
    name_word = omega (arith, name.after.low, name.after.high)

    module _ (m : ℕ) (u : m ≡ two b j) where
      pub name_low : j + 6 ≤ j + 2 + m
      name_low = omega (arith, name.six)

      pub name_high : j + 2 + m ≤ length b
      name_high = omega (arith, name.after.low, name.after.high)

    pub follow_missing : length s ≤ n → FollowTold s at b i end (refused FileMissing (length s))
    unfolding follow
    follow_missing l = told (refused FileMissing (length s)) (ap (follow s (names_of w.left)) (chain_end s w.more n w.rest l w.chain) ∙ rw name.names refl)

    module _ (l : n < length s) (r : Framed) (q : named_frame s n ≡ framed_as n r) where
      pub follow_broken : {e : Refusal} → r ≡ Err e → FollowTold s at b i end (Err e)
      follow_broken {e} z =
          let c = chain_more s w.more n w.rest l w.chain in
          let d : broken e.0 e.1 ≡ framed c.0 = sym (q ∙ rw z refl) ∙ c.4 in
          let y : ◌≡◌ {A = ℕ} 0 1 = cc in
          absurd (omega arith)

      module _ {y x a e : ℕ} (z : r ≡ framed_at y x a e) (m : ℕ) (u : m ≡ two b j) (p : Bool) (v : p ≡ equal (slice (j + 6) (j + 2 + m) b) (slice x a s)) where
        -- the file that is framed here is compared with the name
        turn : (rest : List File) × (g : ℕ) × (frames s g e ≡ files rest) × (follow s (names_of w.left) w.rest ≡ choose p (λ _. follow s (names_of name.left) rest) (λ _. wrong_at FileDiffers n))
        turn =
            let c = chain_more s w.more n w.rest l w.chain in
            let f : File = record { place = n; kind = y; named = x; start = a; stop = e } in
            let d : framed c.0 ≡ framed f = sym c.4 ∙ q ∙ rw z refl in
            let g : c.0 ≡ f = cc in
            let o : w.rest ≡ f ∷ c.1 = rw (← g) c.3 in
            (c.1, c.2, rw g at c.5, follow_one s name.name f p name.names o (rw (name.path, ← u) v))

        pub follow_next : Inner s n r → p ≡ true → Following s at b i end (j + 2 + m) e
        follow_next q' g =
            let c = turn in
            let f = q'.is y x a e z in
            record {
              all = w.all;
              lies = w.lies;
              fs = w.fs;
              turns = w.turns;
              are = w.are;
              left = name.left;
              now = rw u name.after;
              rest = c.0;
              more = c.1;
              chain = c.2;
              high = omega arith;
              same = w.same ∙ c.3 ∙ chosen p (λ _. follow s (names_of name.left) c.0) (λ _. wrong_at FileDiffers n) g;
            }

        pub follow_differs : p ≡ false → FollowTold s at b i end (refused FileDiffers n)
        follow_differs g = told (refused FileDiffers n) (turn.3 ∙ unchosen p (λ _. follow s (names_of name.left) turn.0) (λ _. wrong_at FileDiffers n) g)

  module _ (t : NameTold b k end None) where
    pub follow_extra : n < length s → FollowTold s at b i end (refused FileExtra n)
    unfolding follow
    follow_extra l =
        let c = chain_more s w.more n w.rest l w.chain in
        told (refused FileExtra n) (rw (unnamed (t.is w.left w.now), c.3, place_there s n c.0 c.4) refl)

    pub follow_fine : length s ≤ n → FollowTold s at b i end fine_so
    unfolding follow
    follow_fine l = told fine_so (ap (follow s (names_of w.left)) (chain_end s w.more n w.rest l w.chain) ∙ rw (unnamed (t.is w.left w.now)) refl)

module _ {s : List ℕ} {n : ℕ} {r : Framed} (d : Path s n r) {y x a e : ℕ} (z : r ≡ framed_at y x a e) where
  -- a file's path lies before it
  pub path_low : x ≤ a
  path_low = let b = d.is y x a e z in omega arith

  pub path_high : a ≤ length s
  path_high = let b = d.is y x a e z in omega arith

  -- the file takes room
  pub follow_less : n < length s → length s - e < length s - n
  follow_less l = let b = d.is y x a e z in omega arith
