-- Records of a dump and the files in them: what stands where one is read, and that one is read where it stands.
use Prim.Native.Nat.{ℕ, zero, suc, ◌+◌, ◌-◌, ◌*◌, ◌/◌, ◌%◌, ◌≤◌, ◌<◌}
use mathlib.Core.List.{List, [], ◌∷◌, ◌++◌}
use Rattle.std.specs.Prelude.{Bool, ◌&&◌, ◌≡◌, ltb, eqb, T}
use Rattle.std.proofs.Math.Bool.{true}
use Rattle.std.proofs.Math.Path.{refl, sym}
use Rattle.std.proofs.Common.{◌∙◌, subst}
use native.Mathlib.Omega.{arith}
use Rattle.std.proofs.Math.Nat.{le_refl}
use Rattle.std.proofs.Math.ListN.{length, get_or, length-append}
use Rattle.std.proofs.Math.Seq.{slice, slice_empty, length-slice}
use Rattle.std.proofs.Math.Dec.{leb}
use borrow.Author.Tests.{ltb-true, ltb-false, lt-ltb, le-ltb, leb-true, le-leb, lt-leb, eqb-true, eqb-false}
use Rattle.elements.specs.declared.fault.Fault.{Fault}
use Rattle.elements.specs.declared.fault.Fault.TheVariants.{RecordMissing, RecordBroken, RecordKind, PathLength, FileLength, RecordOver}
use Rattle.elements.specs.ChoiceLaws.{by_choose, both_true}
use Rattle.elements.specs.Lists.{Bytes, Begins, begins, join, cons}
use Rattle.elements.specs.Record.{record_bytes}
use Rattle.rules.specs.Files.{Name, File, FrameRead, framed, broken, Files, files, broken_at, Check, fine, wrong_at, equal, two, record_end, fits, frame_of, file_in, frame, named_file, named_frame, whole, cons_file, more_files, frames, path_of, follow}
use Rattle.rules.specs.ElementLaws.{parted}
use Rattle.rules.specs.FaultLaws.{of_reading, Told}
use Rattle.rules.specs.ValueLaws.{two_bytes}
use Rattle.rules.specs.EqualLaws.{equal_is}
use Rattle.cards.specs.Fits.{Fit, spent, onto, Sorted, transparent, of_records}

-- the file f, behind `front`, in the record of that kind at a place
pub record Frame (s : List ℕ) (kind : ℕ) (front : List ℕ) (at : ℕ) (f : File) : Type 0 where
  pub order : f.start ≤ f.stop
  pub inside : f.stop ≤ length s
  pub size : f.stop - f.start ≤ 16383
  pub whole : slice at (length s) s ≡ record_bytes kind (front ++ slice f.start f.stop s) ++ slice f.stop (length s) s

-- with its path in front
pub record NamedFile (s : List ℕ) (at : ℕ) (f : File) : Type 0 where
  pub stands : Frame s f.kind (length (path_of s f) ∷ path_of s f) at f
  pub low : 3 ≤ f.kind
  pub high : f.kind ≤ 4
  pub sort : Sorted s f.kind f.stop f.start
  pub path_from_lem : 1 ≤ length (path_of s f)
  pub path_to : length (path_of s f) ≤ 64
  pub placed : f.place ≤ length s

-- the two bytes of a number
pub bytes_are : (x y : ℕ) → x < 256 → y < 256 → ((x + 256 * y) % 256 ≡ x) × ((x + 256 * y) / 256 % 256 ≡ y)
bytes_are x y h g = let d : (x + 256 * y) / 256 ≡ y = omega arith in (omega arith, rw d (omega arith))

-- the first four bytes of a part
four : (s : List ℕ) (i e : ℕ) → i + 4 ≤ e → e ≤ length s → slice i e s ≡ get_or s i 0 ∷ get_or s (i + 1) 0 ∷ get_or s (i + 2) 0 ∷ get_or s (i + 2 + 1) 0 ∷ slice (i + 4) e s
four s i e h l =
    let a : i + 1 + 1 ≡ i + 2 = omega arith in
    let b : i + 2 + 1 + 1 ≡ i + 4 = omega arith in
    let c : slice (i + 1 + 1) e s ≡ get_or s (i + 2) 0 ∷ slice (i + 2 + 1) e s = rw a (cons s (i + 2) e (omega arith) l) in
    let d : slice (i + 2 + 1) e s ≡ get_or s (i + 2 + 1) 0 ∷ slice (i + 4) e s = rw b at (cons s (i + 2 + 1) e (omega arith) l) in
    cons s i e (omega arith) l ∙ rw (cons s (i + 1) e (omega arith) l, c, d) refl

module _ (s : List ℕ) where
  -- records that fit are so
  fit_sound : (g stop at : ℕ) → fits s g stop at ≡ true → Fit s stop at
  unfolding fits
  fit_sound zero stop at e = spent (eqb-true at stop e)
  fit_sound (suc g) stop at e =
      by_choose (λ (b : Bool). b ≡ true → Fit s stop at) (ltb at stop) (λ _ l t. onto (ltb-true at stop l) (fit_sound g stop (record_end s at) t)) (λ _ _ t. spent (eqb-true at stop t)) e

  -- by a file's kind, and by its records if it is of records
  pub by_sort_lem : (P : FrameRead → Type 0) (f : File) → ((x : Fault) → T (of_reading x) → P (broken x f.place)) → (Sorted s f.kind f.stop f.start → P (framed f)) → P (whole s (framed f))
  by_sort_lem P f bad good =
      by_choose P (eqb f.kind 3) (λ _ e. good (transparent (eqb-true f.kind 3 e))) (λ _ e.
      by_choose P (fits s (f.stop - f.start) f.stop f.start) (λ _ t. good (of_records (eqb-false f.kind 3 e) (fit_sound (f.stop - f.start) f.stop f.start t))) (λ _ _. bad RecordOver tt))

module _ (s : List ℕ) (bytes : Bytes s) where
  -- a record that is whole
  record_is : (at : ℕ) → 2 ≤ two s at → at + 2 + two s at ≤ length s → slice at (at + 2 + two s at) s ≡ record_bytes (two s (at + 2)) (slice (at + 4) (at + 2 + two s at) s)
  unfolding record_bytes
  record_is at g l =
      let n : length (slice (at + 4) (at + 2 + two s at) s) + 2 ≡ two s at = omega (arith, length-slice (at + 4) (at + 2 + two s at) s l) in
      let b = bytes_are (get_or s at 0) (get_or s (at + 1) 0) (bytes at) (bytes (at + 1)) in
      let c = bytes_are (get_or s (at + 2) 0) (get_or s (at + 2 + 1) 0) (bytes (at + 2)) (bytes (at + 2 + 1)) in
      four s at (at + 2 + two s at) (omega arith) l ∙ rw (n, b.0, b.1, c.0, c.1) refl

  -- by the record at a place
  by_record : (P : FrameRead → Type 0) (low high at : ℕ) (inner : ℕ → ℕ → ℕ → FrameRead) → ((x : Fault) → T (of_reading x) → P (broken x at)) →
      (2 ≤ two s at → at + 2 + two s at ≤ length s → low ≤ two s (at + 2) → two s (at + 2) ≤ high → P (inner (two s (at + 2)) (at + 4) (at + 2 + two s at))) → P (frame_of s low high inner at)
  unfolding frame_of
  by_record P low high at inner bad f =
      let k = two s (at + 2) in
      by_choose P (leb (length s) at) (λ _ _. bad RecordMissing tt) (λ _ _.
      by_choose P (ltb (length s) (at + 4)) (λ _ _. bad RecordBroken tt) (λ _ _.
      by_choose P (ltb (two s at) 2) (λ _ _. bad RecordBroken tt) (λ _ b.
      by_choose P (ltb (length s) (at + 2 + two s at)) (λ _ _. bad RecordBroken tt) (λ _ c.
      by_choose P (leb low k && leb k high) (λ _ d. let v = both_true (leb low k) (leb k high) d in f (ltb-false (two s at) 2 b) (ltb-false (length s) (at + 2 + two s at) c) (leb-true low k v.0) (leb-true k high v.1))
      (λ _ _. bad RecordKind tt)))))

  -- by the file in it, behind n bytes
  by_file : (P : FrameRead → Type 0) (at n : ℕ) → 2 ≤ two s at → at + 2 + two s at ≤ length s → ((x : Fault) → T (of_reading x) → P (broken x at)) →
      (let f : File = record { place = at; kind = two s (at + 2); named = at + 4 + 1; start = at + 4 + n; stop = at + 2 + two s at } in Frame s (two s (at + 2)) (slice (at + 4) (at + 4 + n) s) at f → P (framed f)) → P (file_in s at (two s (at + 2)) n (at + 4) (at + 2 + two s at))
  unfolding file_in
  by_file P at n g l bad good =
      let e = at + 2 + two s at in
      by_choose P (ltb e (at + 4 + n)) (λ _ _. bad PathLength tt) (λ _ u.
      by_choose P (ltb 16383 (e - (at + 4 + n))) (λ _ _. bad FileLength tt) (λ _ v.
      let o : at + 4 + n ≤ e = ltb-false e (at + 4 + n) u in
      good (record {
        order = o;
        inside = l;
        size = ltb-false 16383 (e - (at + 4 + n)) v;
        whole = sym (join at e (length s) s (omega arith) l) ∙ rw (record_is at g l, ← join (at + 4) (at + 4 + n) e s (omega arith) o) refl;
      })))

  -- by CIAInfo's record and EF.OD's
  pub by_frame : (P : FrameRead → Type 0) (kind at : ℕ) → ((x : Fault) → T (of_reading x) → P (broken x at)) → ((f : File) → Frame s kind [] at f → P (framed f)) → P (frame s kind at)
  unfolding frame
  by_frame P kind at bad good = by_record P kind kind at (λ k a e. file_in s at k 0 a e) bad (λ g l i j.
      by_file P at 0 g l bad (λ w.
      let k : two s (at + 2) ≡ kind = omega arith in
      let z : at + 4 + 0 ≡ at + 4 = omega arith in
      let y : slice (at + 4) (at + 4 + 0) s ≡ [] = rw z (slice_empty (at + 4) s) in
      let f : File = record { place = at; kind = two s (at + 2); named = at + 4 + 1; start = at + 4 + 0; stop = at + 2 + two s at } in
      good f (subst (λ (j : ℕ). Frame s j [] at f) k (rw y at w))))

  -- by a directory file's record
  by_named : (P : FrameRead → Type 0) (at : ℕ) → ((x : Fault) → T (of_reading x) → P (broken x at)) → ((f : File) → NamedFile s at f → P (framed f)) → P (whole s (named_frame s at))
  unfolding named_frame named_file
  by_named P at bad good = by_record Q 3 4 at (named_file s at) bad (λ g l i j.
      let a = at + 4 in
      let e = at + 2 + two s at in
      let k = get_or s a 0 in
      by_choose Q (leb e a) (λ _ _. bad PathLength tt) (λ _ _.
      by_choose Q (ltb k 1) (λ _ _. bad PathLength tt) (λ _ u.
      by_choose Q (ltb 64 k) (λ _ _. bad PathLength tt) (λ _ v.
      by_file Q at (1 + k) g l bad (λ w.
      let y : k ≤ 64 = ltb-false 64 k v in
      let o : a + (1 + k) ≤ e = w.order in
      let n : length (slice (a + 1) (a + (1 + k)) s) ≡ k = omega (arith, length-slice (a + 1) (a + (1 + k)) s (omega arith)) in
      let f : File = record { place = at; kind = two s (at + 2); named = a + 1; start = a + (1 + k); stop = e } in
      by_sort_lem s P f bad (λ t. good f (record {
        stands = rw (n, ← cons s a (a + (1 + k)) (omega arith) (omega arith)) w;
        low = i;
        high = j;
        sort = t;
        path_from_lem = omega (arith, ltb-false k 1 u);
        path_to = omega arith;
        placed = omega arith;
      })))))))
    where
      Q : FrameRead → Type 0
      Q r = P (whole s r)

-- a record that is there: what it holds, as it is read
pub record Held (s : List ℕ) (kind at : ℕ) (front b w : List ℕ) : Type 0 where
  pub inside : at + 4 + length (front ++ b) ≤ length s
  pub ahead : slice (at + 4) (at + 4 + length front) s ≡ front
  pub this : slice (at + 4 + length front) (at + 4 + length (front ++ b)) s ≡ b
  pub left : slice (at + 4 + length (front ++ b)) (length s) s ≡ w
  pub opens : (low high : ℕ) → low ≤ kind → kind ≤ high → (inner : ℕ → ℕ → ℕ → FrameRead) → frame_of s low high inner at ≡ inner kind (at + 4) (at + 4 + length (front ++ b))
  pub file : file_in s at kind (length front) (at + 4) (at + 4 + length (front ++ b)) ≡ framed (record { place = at; kind = kind; named = at + 4 + 1; start = at + 4 + length front; stop = at + 4 + length (front ++ b) })

module _ (s : List ℕ) where
  -- such a record is opened, and the file in it found
  pub held : (kind at : ℕ) (front b w : List ℕ) → kind < 65536 → length front ≤ 65 → length b ≤ 16383 → at ≤ length s → slice at (length s) s ≡ record_bytes kind (front ++ b) ++ w → Held s kind at front b w
  unfolding record_bytes frame_of file_in
  held kind at front b w hk hf hb h e =
      let p = front ++ b in
      let m : length p ≡ length front + length b = length-append front b in
      let n = length p + 2 in
      let l = le_refl (length s) in
      let f1 : Begins s at (length s) (n % 256) (n / 256 % 256 ∷ kind % 256 ∷ kind / 256 % 256 ∷ (p ++ w)) = begins s at (length s) l e in
      let f2 : Begins s (at + 1) (length s) (n / 256 % 256) (kind % 256 ∷ kind / 256 % 256 ∷ (p ++ w)) = begins s (at + 1) (length s) l f1.rest in
      let z2 : at + 1 + 1 ≡ at + 2 = omega arith in
      let f3 : Begins s (at + 2) (length s) (kind % 256) (kind / 256 % 256 ∷ (p ++ w)) = begins s (at + 2) (length s) l (rw z2 at f2.rest) in
      let f4 : Begins s (at + 2 + 1) (length s) (kind / 256 % 256) (p ++ w) = begins s (at + 2 + 1) (length s) l f3.rest in
      let z4 : at + 2 + 1 + 1 ≡ at + 4 = omega arith in
      let q = parted s (at + 4) (length s) p w (omega (arith, f4.before)) l (rw z4 at f4.rest) in
      let i : at + 4 + length p ≤ length s = q.high in
      let r = parted s (at + 4) (at + 4 + length p) front b (omega arith) i q.this in
      let len : two s at ≡ n = rw (f1.first, f2.first) (two_bytes n (omega arith)) in
      let is : two s (at + 2) ≡ kind = rw (f3.first, f4.first) (two_bytes kind hk) in
      let z : at + 2 + n ≡ at + 4 + length p = omega arith in
      record {
        inside = i;
        ahead = r.this;
        this = r.left;
        left = q.left;
        opens = λ low high x y inner. rw (lt-leb (length s) at (omega arith), le-ltb (length s) (at + 4) (omega arith), len, le-ltb n 2 (omega arith), z, le-ltb (length s) (at + 4 + length p) i, is, le-leb low kind x, le-leb kind high y) refl;
        file = rw (le-ltb (at + 4 + length p) (at + 4 + length front) (omega arith), le-ltb 16383 (at + 4 + length p - (at + 4 + length front)) (omega arith)) refl;
      }

  -- CIAInfo's and EF.OD's are taken
  pub frame_held : {kind at : ℕ} {b w : List ℕ} → Held s kind at [] b w → frame s kind at ≡ framed (record { place = at; kind = kind; named = at + 4 + 1; start = at + 4 + 0; stop = at + 4 + length b })
  unfolding frame
  frame_held {kind} {at} v = v.opens kind kind (le_refl kind) (le_refl kind) (λ k a e. file_in s at k 0 a e) ∙ v.file

  -- and a directory file's
  pub named_held : {kind at : ℕ} (p : List ℕ) {b w : List ℕ} → 3 ≤ kind → kind ≤ 4 → 1 ≤ length p → length p ≤ 64 → Held s kind at (length p ∷ p) b w →
      named_frame s at ≡ framed (record { place = at; kind = kind; named = at + 4 + 1; start = at + 4 + suc (length p); stop = at + 4 + suc (length (p ++ b)) })
  unfolding named_frame named_file
  named_held {kind} {at} p {b} k1 k2 h1 h2 v =
      let n = length-append p b in
      let i = v.inside in
      let f : Begins s (at + 4) (at + 4 + suc (length p)) (length p) p = begins s (at + 4) (at + 4 + suc (length p)) (omega arith) v.ahead in
      let z : 1 + length p ≡ suc (length p) = omega arith in
      v.opens 3 4 k1 k2 (named_file s at) ∙ rw (lt-leb (at + 4 + suc (length (p ++ b))) (at + 4) (omega arith), f.first, le-ltb (length p) 1 h1, le-ltb 64 (length p) h2, z) v.file

-- files one after the other, up to the end of the dump
pub data Chain (s : List ℕ) : ℕ → List File → Type 0 where
  over : {at : ℕ} → at ≡ length s → Chain s at []
  link : {at : ℕ} {f : File} {fs : List File} → NamedFile s at f → Chain s f.stop fs → Chain s at (f ∷ fs)

-- what the frames come to
pub data ChainReads (s : List ℕ) (at : ℕ) : Files → Type 0 where
  no_chain : {x : Fault} (p : ℕ) → Told s x p → ChainReads s at (broken_at x p)
  chain : {fs : List File} → Chain s at fs → ChainReads s at (files fs)

-- and named by the entries in turn
pub data Follows (s : List ℕ) : ℕ → List Name → List File → Type 0 where
  both : {at : ℕ} → at ≡ length s → Follows s at [] []
  pair : {at : ℕ} {n : Name} {ns : List Name} {f : File} {fs : List File} → NamedFile s at f → n.path ≡ path_of s f → Follows s f.stop ns fs → Follows s at (n ∷ ns) (f ∷ fs)

-- what comparing their paths comes to
pub data FollowReads (s : List ℕ) (at : ℕ) (ns : List Name) (fs : List File) : Check → Type 0 where
  no_follow : {x : Fault} (p : ℕ) → Told s x p → FollowReads s at ns fs (wrong_at x p)
  follows : Follows s at ns fs → FollowReads s at ns fs fine

module _ (s : List ℕ) (bytes : Bytes s) where
  -- one file before the others
  link_up : {at : ℕ} {f : File} {r : Files} → NamedFile s at f → ChainReads s f.stop r → ChainReads s at (cons_file s f r)
  link_up w (no_chain p o) = no_chain p o
  link_up w (chain c) = chain (link w c)

  -- the frames up to the end
  pub chain_sound : (g at : ℕ) → at ≤ length s → ChainReads s at (frames s g at)
  unfolding frames
  chain_sound zero at h = by_choose (ChainReads s at) (ltb at (length s)) (λ _ _. no_chain at (h, tt)) (λ _ e. chain (over (omega (arith, ltb-false at (length s) e))))
  chain_sound (suc g) at h =
      by_choose (ChainReads s at) (ltb at (length s))
      (λ _ _. by_named s bytes (λ (r : FrameRead). ChainReads s at (more_files s r (λ n. frames s g n))) at (λ _ t. no_chain at (h, t)) (λ f w. link_up w (chain_sound g f.stop w.stands.inside)))
      (λ _ e. chain (over (omega (arith, ltb-false at (length s) e))))

  -- one that its entry names before the others
  follow_more : {at : ℕ} {n : Name} {ns : List Name} {f : File} {fs : List File} {c : Check} → NamedFile s at f → n.path ≡ path_of s f → FollowReads s f.stop ns fs c → FollowReads s at (n ∷ ns) (f ∷ fs) c
  follow_more w e (no_follow p o) = no_follow p o
  follow_more w e (follows v) = follows (pair w e v)

  -- and those that the entries name
  pub follow_sound : {at : ℕ} {fs : List File} (ns : List Name) → Chain s at fs → FollowReads s at ns fs (follow s ns fs)
  unfolding follow
  follow_sound [] (over e) = follows (both e)
  follow_sound [] (link {f = f} w c) = no_follow f.place (w.placed, tt)
  follow_sound (n ∷ ns) (over e) = no_follow (length s) (le_refl (length s), tt)
  follow_sound {at} (n ∷ ns) (link {f = f} {fs = fs} w c) =
      by_choose (FollowReads s at (n ∷ ns) (f ∷ fs)) (equal n.path (path_of s f)) (λ _ e. follow_more w (equal_is n.path (path_of s f) e) (follow_sound ns c)) (λ _ _. no_follow f.place (w.placed, tt))

module _ (s : List ℕ) where
  -- no more frames at the end
  pub frames_none : (g : ℕ) → frames s g (length s) ≡ files []
  unfolding frames
  frames_none zero = rw (le-ltb (length s) (length s) (le_refl (length s))) refl
  frames_none (suc g) = rw (le-ltb (length s) (length s) (le_refl (length s))) refl

  -- one more in front
  pub frames_more : (at : ℕ) (f : File) (fs : List File) → at < f.stop → f.stop ≤ length s → whole s (named_frame s at) ≡ framed f → ((g : ℕ) → length s - f.stop ≤ g → frames s g f.stop ≡ files fs) → (g : ℕ) → length s - at ≤ g → frames s g at ≡ files (f ∷ fs)
  unfolding frames
  frames_more at f fs h i e k zero l = absurd (omega arith)
  frames_more at f fs h i e k (suc g) l = rw (lt-ltb at (length s) (omega arith), e, k g (omega arith)) refl
