-- The files in turn: their readers read those parts of a card, and count its objects.
use Prim.Native.Nat.{ℕ, suc, ◌+◌, ◌-◌, ◌≤◌}
use mathlib.Core.List.{List, [], ◌∷◌, ◌++◌}
use Rattle.std.proofs.Common.{inl, inr, ap, ◌∙◌, subst, le_refl}
use Rattle.std.specs.Prelude.{◌≡◌}
use Rattle.std.proofs.Math.Path.{refl, sym}
use native.Mathlib.Omega.{arith}
use Rattle.std.proofs.Math.ListN.{length, length-append}
use Rattle.std.proofs.Math.Seq.{slice, slice_empty, length-slice}
use Rattle.elements.specs.declared.fault.Fault.{Fault}
use Rattle.elements.specs.Lists.{Bytes, Begins, begins}
use Rattle.elements.specs.Record.{record_bytes}
use Rattle.rules.proofs.SoundFiles.{directory_fine, directory_sound}
use Rattle.rules.specs.Reading.{Rec, Res, took, fails, also}
use Rattle.rules.specs.Parts.{counted}
use Rattle.rules.specs.Files as files
use Rattle.rules.specs.Files.{Name, File, framed, whole, fine, path_of, frames, follow, file_of, directories}
use Rattle.rules.specs.Grammar.{Where, site_of, opening, ◌on◌, Part, total}
use Rattle.rules.specs.ElementLaws.{is_end}
use Rattle.rules.specs.FaultLaws.{Told}
use Rattle.rules.specs.GrammarLaws.{close, Marks, marks_append, Facts, Reads, refuses, takes, Goes}
use Rattle.rules.specs.EqualLaws.{equal_self}
use Rattle.rules.specs.RenderLaws.{home}
use Rattle.cards.specs.Card as card
use Rattle.cards.specs.Card.{in_file, in_files}
use Rattle.rules.specs.FileLayouts as filing
use Rattle.cards.specs.Fits.{Fit, Sorted, transparent, of_records}
use Rattle.cards.proofs.FrameLaws.{NamedFile, held, named_held, ChainReads, chain, chain_sound, Follows, both, pair, FollowReads, follows, follow_sound, frames_none, frames_more}
use Rattle.cards.proofs.PartLaws.{all_of, count_file, count_records, directory_law}
use Rattle.cards.proofs.RecordLaws.{linear_home, linear_sound, linear_complete}

-- what directories come to, the nth from a place on, after k objects
pub record DirFacts (s : List ℕ) (n : ℕ) (ms : List Name) (k at : ℕ) (rs : List Rec) (ps : List ℕ) : Type 0 where
  pub it : (card.files n ms).Of
  pub meets : (card.files n ms).Meets it
  pub bytes : slice at (length s) s ≡ (card.files n ms).bytes it
  pub book : (v : Where) → rs ≡ (card.files n ms).book v it
  pub counted : length ps ≡ length (in_files n ms it)
  pub marks : Marks (length s) ps
  pub room : k + length (in_files n ms it) ≤ 128

-- what reading them comes to
pub data DirReads (s : List ℕ) (n : ℕ) (ms : List Name) (k at : ℕ) : Res → Type 0 where
  no_dir : {f : Fault} (p : ℕ) → Told s f p → DirReads s n ms k at (fails f p)
  dirs : {rs : List Rec} {ps : List ℕ} {j : ℕ} → DirFacts s n ms k at rs ps → DirReads s n ms k at (took rs ps j)

-- a card's files stand there: they are framed, they follow, and they are read
pub record DirGoes (s : List ℕ) (n : ℕ) (ms : List Name) (at : ℕ) (x : (card.files n ms).Of) : Type 0 where
  pub fs : List File
  pub framed_as_lem : (g : ℕ) → length s - at ≤ g → frames s g at ≡ files.files fs
  pub follow_is : follow s ms fs ≡ fine
  pub goes : (k : ℕ) → k + length (in_files n ms x) ≤ 128 → (v : Where) → (ps : List ℕ) × (j : ℕ) × (directories s ms fs n k ≡ took ((card.files n ms).book v x) ps j)

-- a kind of file: what stands in the nth, of a name, how it stands in a card, and that it is read as it is and only so
record FileLaw (s : List ℕ) (n : ℕ) (m : Name) (kind : ℕ) (P : Part) (count : P.Of → ℕ) : Type 0 where
  low : 3 ≤ kind
  high : kind ≤ 4
  -- it is a file of a card
  file : P.Of → (card.file n m).Of
  bytes : (x : P.Of) → (card.file n m).bytes (file x) ≡ record_bytes kind (length m.path ∷ m.path ++ P.bytes x)
  book : (v : Where) (p : ℕ) (x : P.Of) → (card.file n m).book v (file x) ≡ P.book (opening n p) x
  meets : (x : P.Of) → (card.named n kind m.path P).Meets x → (card.file n m).Meets (file x)
  holds : (x : P.Of) → length (in_file m.tag (opening n 0) (file x)) ≡ count x
  -- it is read
  sound : (f : File) → f.kind ≡ kind → Sorted s f.kind f.stop f.start → f.start ≤ f.stop → f.stop ≤ length s → (k : ℕ) → k ≤ 128 → Reads (site_of n f.start) s P count k 128 close f.stop f.start (file_of s n m.tag k f)
  framing : (f : File) → f.kind ≡ kind → f.start ≤ f.stop → f.stop ≤ length s → (x : P.Of) → P.Meets x → slice f.start f.stop s ≡ P.bytes x → whole s (framed f) ≡ framed f
  complete : (f : File) → f.kind ≡ kind → f.start ≤ f.stop → f.stop ≤ length s → (x : P.Of) → P.Meets x → slice f.start f.stop s ≡ P.bytes x → (k : ℕ) → k + count x ≤ 128 →
      Goes s f.stop f.start (P.book (opening n f.start) x) (count x) [] (file_of s n m.tag k f)

module _ (s : List ℕ) (bytes : Bytes s) (small : length s ≤ 32768) (n : ℕ) (m : Name) where
  -- transparent
  directory_file : FileLaw s n m 3 (card.directory m.tag) (filing.directory m.tag).count
  unfolding file_of files.directory
  directory_file = record {
    low = omega arith;
    high = omega arith;
    file = inl;
    bytes = λ x. refl;
    book = λ v p x. sym (home ((directory_sound m.tag).lawful (directory_fine m.tag)).renders n p x);
    meets = λ x y. y;
    holds = λ x. sym (count_file m.tag (opening n 0) x);
    sound = λ f e _ h l k i. rw e ((directory_law s bytes small n f.start m.tag k i).sound 0 f.start f.stop (omega arith) h l);
    framing = λ f e h l x y q. rw e refl;
    complete = λ f e h l x y q k r. rw e ((directory_law s bytes small n f.start m.tag k (omega arith)).complete 0 f.start f.stop (omega arith) h l x y r q);
  }

  -- of records
  linear_file : FileLaw s n m 4 (card.linear m.tag) (total (filing.record_in m.tag).count)
  unfolding file_of
  linear_file = record {
    low = omega arith;
    high = omega arith;
    file = inr;
    bytes = λ x. refl;
    book = λ v p x. sym (linear_home m.tag n p x);
    meets = λ x y. y;
    holds = λ x. sym (count_records m.tag (opening n 0) x);
    sound = λ f e t h l k i. rw e (linear_sound s bytes small n m.tag (fitting f e t) l k i);
    framing = λ f e h l x y q. rw (e, (linear_complete s bytes small n m.tag f.stop f.start h l x y q).0) refl;
    complete = λ f e h l x y q k r. rw e ((linear_complete s bytes small n m.tag f.stop f.start h l x y q).1 k r);
  }
    where
      fitting : (f : File) → f.kind ≡ 4 → Sorted s f.kind f.stop f.start → Fit s f.stop f.start
      fitting f e (transparent z) = absurd (omega arith)
      fitting f e (of_records z w) = w

-- one file of a kind before the others
module _ (s : List ℕ) (n : ℕ) (m : Name) (ms : List Name) {kind : ℕ} {P : Part} {count : P.Of → ℕ} (v : FileLaw s n m kind P count) where
  dir_more : (f : File) (at k : ℕ) → f.kind ≡ kind → m.path ≡ path_of s f → NamedFile s at f → {bs : List Rec} {ps : List ℕ} {j : ℕ} → Facts (site_of n f.start) s P count k 128 close f.stop f.start bs ps j →
      {r : Res} → DirReads s (n + 1) ms (k + length ps) f.stop r → DirReads s n (m ∷ ms) k at (also bs ps r)
  unfolding card.files in_files
  dir_more f at k z e w g (no_dir p o) = no_dir p o
  dir_more f at k z e w {bs} {ps} g (dirs {rs = ds} {ps = qs} {j = j} d) =
      let u = w.stands in
      let y = all_of g in
      let l : length (P.bytes g.it) ≤ 16383 = rw (← y) (omega (arith, u.size, length-slice f.start f.stop s u.inside)) in
      let c = length-append (in_file m.tag (opening n 0) (v.file g.it)) (in_files (n + 1) ms d.it) in
      dirs {rs = bs ++ ds} {ps = ps ++ qs} {j = j} (record {
        it = (v.file g.it, d.it);
        meets = (v.meets g.it (g.meets, rw e w.path_from_lem, rw e w.path_to, l), d.meets);
        bytes = u.whole ∙ rw (v.bytes g.it, y, d.bytes, e, z) refl;
        book = λ i. rw (v.book i f.start g.it, g.book, d.book (i on length ((card.file n m).bytes (v.file g.it)))) refl;
        counted = length-append ps qs ∙ omega (arith, g.counted, d.counted, v.holds g.it);
        marks = marks_append (length s) ps qs g.marks d.marks;
        room = omega (arith, d.room, g.counted, v.holds g.it);
      })

  -- the same, by what reading it comes to
  dir_counted : (f : File) (at k : ℕ) → f.kind ≡ kind → m.path ≡ path_of s f → NamedFile s at f → {r : Res} {q : ℕ → ℕ → Res} → Reads (site_of n f.start) s P count k 128 close f.stop f.start r →
      ((i j : ℕ) → k + i ≤ 128 → DirReads s (n + 1) ms (k + i) f.stop (q i j)) → DirReads s n (m ∷ ms) k at (counted r q)
  dir_counted f at k z e w (refuses p o) g = no_dir p o
  dir_counted f at k z e w (takes {ms = ps} {n = j} x) g = dir_more f at k z e w x (g (length ps) j (omega (arith, x.counted, x.room)))

  -- it is framed, it follows, and it is read
  dir_complete : (x : P.Of) (xs : (card.files (n + 1) ms).Of) → (card.named n kind m.path P).Meets x → (at : ℕ) → at ≤ length s → slice at (length s) s ≡ (card.file n m).bytes (v.file x) ++ (card.files (n + 1) ms).bytes xs →
      ((i : ℕ) → i ≤ length s → slice i (length s) s ≡ (card.files (n + 1) ms).bytes xs → DirGoes s (n + 1) ms i xs) → unfold card.files in DirGoes s n (m ∷ ms) at (v.file x, xs)
  unfolding card.files in_files follow directories
  dir_complete x xs y at h e more =
      let p = m.path in
      let b = P.bytes x in
      let hp : length p ≤ 64 = y.2 in
      let hk = v.high in
      let w = held s kind at (length p ∷ p) b ((card.files (n + 1) ms).bytes xs) (omega arith) (omega arith) y.3 h (rw (v.bytes x) at e) in
      let i = w.inside in
      let f : File = record { place = at; kind = kind; named = at + 4 + 1; start = at + 4 + suc (length p); stop = at + 4 + suc (length (p ++ b)) } in
      let len = length-append p b in
      let q : Begins s (at + 4) (at + 4 + suc (length p)) (length p) p = begins s (at + 4) (at + 4 + suc (length p)) (omega arith) w.ahead in
      let d = more f.stop i w.left in
      let order : f.start ≤ f.stop = omega arith in
      record {
        fs = f ∷ d.fs;
        framed_as_lem = frames_more s at f d.fs (omega arith) i (ap (whole s) (named_held s p v.low hk y.1 hp w) ∙ v.framing f refl order i x y.0 w.this) d.framed_as_lem;
        follow_is = rw (q.rest, equal_self p) d.follow_is;
        goes = λ k r j.
            let c = length-append (in_file m.tag (opening n 0) (v.file x)) (in_files (n + 1) ms xs) in
            let z = v.holds x in
            let a = v.complete f refl order i x y.0 w.this k (omega arith) in
            let u = d.goes (k + length a.ms) (omega (arith, a.counted)) (j on length ((card.file n m).bytes (v.file x))) in
            (a.ms ++ u.0, u.1, rw (a.is, u.2, v.book j f.start x) refl);
      }

module _ (s : List ℕ) (bytes : Bytes s) (small : length s ≤ 32768) where
  -- files that follow are read as they are
  pub dirs_sound : {ms : List Name} {fs : List File} {at : ℕ} → Follows s at ms fs → (n k : ℕ) → k ≤ 128 → DirReads s n ms k at (directories s ms fs n k)
  unfolding directories card.files in_files
  dirs_sound (both e) n k h = dirs {rs = []} {ps = []} {j = 0} (record { it = tt; meets = tt; bytes = rw e (slice_empty (length s) s); book = λ v. refl; counted = refl; marks = tt; room = omega arith })
  dirs_sound (pair {at = at} {n = m} {ns = ms} {f = f} w e v) n k h = by_kind w.sort (λ i _ g. dirs_sound v (n + 1) (k + i) g)
    where
      by_law : {kind : ℕ} {P : Part} {count : P.Of → ℕ} → FileLaw s n m kind P count → f.kind ≡ kind → {q : ℕ → ℕ → Res} → ((i j : ℕ) → k + i ≤ 128 → DirReads s (n + 1) ms (k + i) f.stop (q i j)) →
          DirReads s n (m ∷ ms) k at (counted (file_of s n m.tag k f) q)
      by_law x z more = dir_counted s n m ms x f at k z e w (x.sound f z w.sort w.stands.order w.stands.inside k h) more

      by_kind : Sorted s f.kind f.stop f.start → {q : ℕ → ℕ → Res} → ((i j : ℕ) → k + i ≤ 128 → DirReads s (n + 1) ms (k + i) f.stop (q i j)) → DirReads s n (m ∷ ms) k at (counted (file_of s n m.tag k f) q)
      by_kind (transparent z) more = by_law (directory_file s bytes small n m) z more
      by_kind (of_records z _) more = let low = w.low in let high = w.high in by_law (linear_file s bytes small n m) (omega arith) more

  -- and every card's files are read
  pub dirs_complete : (n : ℕ) (ms : List Name) (x : (card.files n ms).Of) → (card.files n ms).Meets x → (at : ℕ) → at ≤ length s → slice at (length s) s ≡ (card.files n ms).bytes x → DirGoes s n ms at x
  unfolding card.files in_files follow directories directory_file linear_file
  dirs_complete n [] x y at h e =
      let z : at ≡ length s = is_end s at (length s) h (le_refl (length s)) e in
      record { fs = []; framed_as_lem = λ g _. rw z (frames_none s g); follow_is = refl; goes = λ k _ v. ([], 0, refl) }
  dirs_complete n (m ∷ ms) (inl f, x) y at h e = dir_complete s n m ms (directory_file s bytes small n m) f x y.0 at h e (dirs_complete (n + 1) ms x y.1)
  dirs_complete n (m ∷ ms) (inr f, x) y at h e = dir_complete s n m ms (linear_file s bytes small n m) f x y.0 at h e (dirs_complete (n + 1) ms x y.1)

  -- the files that were framed, that follow and that were read are those of a card
  pub dirs_read : (n : ℕ) (ms : List Name) (fs : List File) (g at k : ℕ) {ds : List Rec} {ps : List ℕ} {j : ℕ} → at ≤ length s → k ≤ 128 → frames s g at ≡ files.files fs → follow s ms fs ≡ fine → directories s ms fs n k ≡ took ds ps j → DirFacts s n ms k at ds ps
  dirs_read n ms fs g at k {ds} {ps} {j} h i e f d = by_chain (subst (ChainReads s at) e (chain_sound s bytes g at h))
    where
      by_dirs : DirReads s n ms k at (took ds ps j) → DirFacts s n ms k at ds ps
      by_dirs (dirs x) = x

      by_follow : FollowReads s at ms fs fine → DirFacts s n ms k at ds ps
      by_follow (follows w) = by_dirs (subst (DirReads s n ms k at) d (dirs_sound w n k i))

      by_chain : ChainReads s at (files.files fs) → DirFacts s n ms k at ds ps
      by_chain (chain c) = by_follow (subst (FollowReads s at ms fs) f (follow_sound s bytes ms c))
