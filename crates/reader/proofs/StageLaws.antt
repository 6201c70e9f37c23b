-- The stages of reading, one after the other.
use Prim.Native.Nat.{ℕ, ◌+◌, ◌-◌, ◌*◌, ◌<◌, ◌≤◌}
use mathlib.Core.Path.{◌≡◌, refl, sym, ap, ◌∙◌}
use mathlib.Core.Bool.{Bool, true, false}
use mathlib.Core.List.{List, [], ◌++◌, append_assoc}
use native.Mathlib.Omega.{arith}
use native.Mathlib.Nat.{le_refl}
use lib.ListN.{length, get_or, take, length-append}
use lib.Seq.{slice, length-slice, length-take-le, take-length}
use lib.Dec.{eqb}
use borrow.Author.Tests.{lt-ltb, le-ltb, le-leb, lt-leb}
use Rattle.elements.specs.declared.fault.Fault.{Fault}
use Rattle.elements.specs.declared.fault.Fault.TheVariants.{DumpSize, PathTwice, AuthIdTwice}
use Rattle.elements.specs.Lists.{Bytes, join}
use Rattle.elements.specs.Put.{Put}
use Rattle.elements.specs.PutLaws.{put_then, put_length, put_there, put_upto}
use Rattle.rules.specs.Reading.{Rec, Res, took}
use Rattle.rules.specs.Files.{File, files, frames, names_of, paths, first_again, follow, directories, repeated, cia, od, dir, accepted, refused, Answer, on_res, and_also, on_check, frame, read_files, read_parts, read_from, has_dir, read_dump}
use Rattle.rules.specs.Grammar.{origin}
use Rattle.rules.specs.Book.{encode}
use Rattle.rules.specs.LookLaws.{Laid, size, laid_append}
use Rattle.rules.proofs.ReadLaws.{cia_kept, od_kept}
use Rattle.cards.specs.Card as card
use Rattle.cards.proofs.DumpLaws.{dirs_read}
use Rattle.cards.proofs.CardRender.{files_renders}
use Rattle.cards.proofs.WriteLaws.{book_bound}
use Rattle.rules.specs.BookLaws.{book_size}
use Rattle.objects.specs.Did.{Did, did, fell, Part, came}
use Rattle.files.specs.Filing.{DidObjects, fell_objects, DidEntries, PathsTold, Listed, listed}
use Rattle.files.specs.Scan.{Lies, Holds, IdsTold, clash_of}
use Rattle.reader.specs.Frame.{framed_as, Inner, FramesTold, Chain, Framed, fine_so, framed_at}
use Rattle.reader.proofs.FrameLaws.{inner_low, inner_mid, inner_high}
use Rattle.reader.specs.Twelve.{FollowTold, followed_as}
use Rattle.reader.specs.Directories.{Filed, DidFiles, did_files, fell_files, FilesTold}
use Rattle.reader.specs.Stages.{Reads, reads, falls, Framing, Opening, Opened, FilesRead, EntriesRead, PartsRead, HeadsAre, HeadsTold, unsound, sound, Judged, DirFirst}
use Rattle.objects.specs.DidLaws.{encode_append, did_same}
use Rattle.files.specs.ObjectsLaws.{did_open, objects_open, objects_few, objects_same}
use Rattle.files.specs.LiesLaws.{put_lies, put_lie}
use Rattle.elements.specs.Answer.{Outcome}
use Rattle.elements.specs.Answer as code
use Rattle.elements.specs.declared.answer.Refusal.{Refusal}
use Rattle.reader.specs.declared.dump.Heads.{Heads}
use Rattle.std.specs.Prelude.{Option, Some, None, Result, Ok, Err}

-- records laid out behind others
lies_behind : (s : List ℕ) {a b : List ℕ} {i end n : ℕ} (cs ds : List Rec) → Lies a i end cs → Put a b end n (encode ds) → n ≤ length a → length s ≤ 32768 → Laid (length s) cs → Laid (length s) ds → Lies b i n (cs ++ ds)
lies_behind s {a} {b} {i} {end} {n} cs ds l f h m u v =
    let w = put_lies f (omega arith) l in
    record {
      low = omega (arith, l.low, f.at);
      high = omega (arith, put_length f);
      are = sym (join i end n b l.low (omega (arith, f.at))) ∙ rw (w.are, put_there f h) (sym (encode_append cs ds));
      size = length s;
      small = m;
      laid = laid_append (length s) cs ds u v;
    }

module _ {s a : List ℕ} {stop i end : ℕ} {u : List ℕ} {k : ℕ} (op : Opened s stop a i end u k) where
  -- what the files left
  module _ {b v : List ℕ} {x : Filed} (d : FilesTold s stop a b u v i end end k x) {n j : ℕ} (y : x ≡ Ok (n, j)) where
    pub record FilesOpen (fs : List File) (cs : List Rec) : Type 0 where
      pub ds : List Rec
      pub ns : List ℕ
      pub are : directories s (names_of cs) fs 1 k ≡ took ds ns 0
      pub put : Put a b end n (encode ds)
      pub marks : Put u v k j ns
      pub few : j ≤ 128

    files_open : (fs : List File) (cs : List Rec) → frames s (length s) stop ≡ files fs → Lies a i end cs → FilesOpen fs cs
    files_open fs cs c l = go (directories s (names_of cs) fs 1 k) refl (rw y at (d.is cs fs (length s) l c))
      where
        go : (t : Res) → directories s (names_of cs) fs 1 k ≡ t → DidFiles a b u v end k t (Ok (n, j)) → FilesOpen fs cs
        go _ e (did_files {ds = ds} {ns = ns} f h w) = record { ds = ds; ns = ns; are = e; put = f; marks = h; few = w }

    pub files_marks : j ≤ length v
    files_marks = let f = files_open op.frame.fs op.cs op.frame.chain op.is.lies in omega (arith, f.few, op.is.many, put_length f.marks)

  -- 12: a path is named twice
  pub files_twice : {again : Option ℕ} {p : ℕ} → again ≡ Some p → FilesRead s stop a a i end u k again (code.refused PathTwice p)
  unfolding read_files
  files_twice {p = p} h = record {
    is = λ o fs bs cs ms z c w t.
        let v = t.twice p h in
        rw (lt-ltb (first_again [] (paths (names_of cs))) (length (paths (names_of cs))) v.0, z, ← v.1) (falls refl);
  }

  -- no path is
  module _ {again : Option ℕ} (e : again ≡ None) where
    never : (o : File) (fs : List File) (bs cs : List Rec) (ms : List ℕ) → PathsTold s stop o.start (paths (names_of cs)) again →
        read_files s o fs bs cs ms ≡ on_check (follow s (names_of cs) fs) (λ _. on_res (directories s (names_of cs) fs 1 (length ms)) (λ ds ns. on_check (repeated [] 0 (ms ++ ns) (cs ++ ds)) (λ _. accepted (bs ++ (cs ++ ds)))))
    unfolding read_files
    never o fs bs cs ms t = rw (t.never e, le-ltb (length (paths (names_of cs))) (length (paths (names_of cs))) (omega arith)) refl

    -- but the files do not follow
    pub files_wrong : {w : Chain} {e : Refusal} → FollowTold s stop a i end w → w ≡ Err e → FilesRead s stop a a i end u k again (Err e)
    files_wrong g z = record { is = λ o fs bs cs ms _ c l t. rw (never o fs bs cs ms t, g.is cs fs (length s) l.lies c, z) (falls refl) }

    module _ {w : Chain} (g : FollowTold s stop a i end w) (z : w ≡ fine_so) where
      follows_so : (o : File) (fs : List File) (bs cs : List Rec) (ms : List ℕ) → frames s (length s) stop ≡ files fs → Opening s stop a i end u k cs ms → PathsTold s stop o.start (paths (names_of cs)) again →
          read_files s o fs bs cs ms ≡ on_res (directories s (names_of cs) fs 1 k) (λ ds ns. on_check (repeated [] 0 (ms ++ ns) (cs ++ ds)) (λ _. accepted (bs ++ (cs ++ ds))))
      follows_so o fs bs cs ms c l t =
          let m : length ms ≡ k = rw (← l.marks) (length-take-le k u (omega (arith, l.few, l.many))) in
          rw (never o fs bs cs ms t, g.is cs fs (length s) l.lies c, z, m) refl

      module _ {b v : List ℕ} {x : Filed} (d : FilesTold s stop a b u v i end end k x) where
        -- a file is code.refused
        pub files_fell : {f : Fault} {p : ℕ} → x ≡ code.refused f p → FilesRead s stop a b i end u k again (code.refused f p)
        files_fell {f} {p} y = record { is = λ o fs bs cs ms _ c l t. rw (follows_so o fs bs cs ms c l t) (go (λ ds ns. on_check (repeated [] 0 (ms ++ ns) (cs ++ ds)) (λ _. accepted (bs ++ (cs ++ ds)))) (rw y at (d.is cs fs (length s) l.lies c))) }
          where
            go : {old : List Rec} {t : Res} (h : List Rec → List ℕ → Answer) → DidFiles a b u v end k t (code.refused f p) → Reads old a b end (on_res t h) (code.refused f p)
            go h (fell_files q _) = falls q

        -- all are read
        module _ (bytes : Bytes s) {n j : ℕ} (y : x ≡ Ok (n, j)) where
          module _ {fs : List File} {cs : List Rec} {ms : List ℕ} (c : frames s (length s) stop ≡ files fs) (l : Opening s stop a i end u k cs ms) (f : FilesOpen d y fs cs) where
            bounded : (size f.ds ≤ 4 * (length s - stop)) × Laid (length s) f.ds
            bounded =
                let x = dirs_read s bytes op.frame.small 1 (names_of cs) fs (length s) stop k op.frame.high l.few c (g.is cs fs (length s) l.lies c ∙ ap followed_as z) f.are in
                let m : length (slice stop (length s) s) ≡ length s - stop = length-slice stop (length s) s (le_refl (length s)) in
                let r = files_renders 1 (names_of cs) in
                let n : length ((card.files 1 (names_of cs)).bytes x.it) ≡ length s - stop = ap length (sym x.bytes) ∙ m in
                (rw (x.book origin) (omega (arith, r.bound origin x.it x.meets)), rw (x.book origin) (r.laid origin x.it x.meets (length s) (omega arith)))

            fits : n ≤ length a
            fits = omega (arith, f.put.at, book_size f.ds, bounded.0, l.room, op.frame.high, op.frame.small, op.frame.wide)

            lie : Lies b i n (cs ++ f.ds)
            lie = lies_behind s cs f.ds l.lies f.put fits op.frame.small l.laid bounded.1

          pub files_hold : Holds b i n
          files_hold = let f = files_open d y op.frame.fs op.cs op.frame.chain op.is.lies in record { rs = op.cs ++ f.ds; lies = lie op.frame.chain op.is f }

          module _ {p : Option ℕ} (t' : IdsTold b (take j v) i n p) where
            checked : (o : File) (fs : List File) (bs cs : List Rec) (ms : List ℕ) (c : frames s (length s) stop ≡ files fs) (l : Opening s stop a i end u k cs ms) (t : PathsTold s stop o.start (paths (names_of cs)) again) (f : FilesOpen d y fs cs) →
                read_files s o fs bs cs ms ≡ on_check (clash_of p) (λ _. accepted (bs ++ (cs ++ f.ds)))
            checked o fs bs cs ms c l t f =
                let m : take j v ≡ ms ++ f.ns = put_upto f.marks (omega (arith, f.few, l.many)) ∙ ap (λ (x : List ℕ). x ++ f.ns) l.marks in
                rw (follows_so o fs bs cs ms c l t, f.are, ← m, t'.is (cs ++ f.ds) (lie c l f)) refl

            pub files_clash : {x' : ℕ} → p ≡ Some x' → FilesRead s stop a b i end u k again (code.refused AuthIdTwice x')
            files_clash e' = record { is = λ o fs bs cs ms _ c l t. let f = files_open d y fs cs c l.lies in rw (checked o fs bs cs ms c l t f, e') (falls (put_length f.put)) }

            pub files_all : p ≡ None → FilesRead s stop a b i end u k again (Ok n)
            files_all e' = record { is = λ o fs bs cs ms _ c l t. let f = files_open d y fs cs c l.lies in rw (checked o fs bs cs ms c l t f, e', sym (append_assoc bs cs f.ds)) (reads f.ds f.put (fits c l f)) }

-- what is read behind what was read
reads_then : (bs cs : List Rec) {a b c : List ℕ} {o p : ℕ} {g : Answer} {r : Outcome} → Put a b o p (encode cs) → Reads (bs ++ cs) b c p g r → Reads bs a c o g r
reads_then bs cs f (reads ds p l) = rw (append_assoc bs cs ds) (reads (cs ++ ds) (put_then f p (sym (encode_append cs ds))) (omega (arith, put_length f)))
reads_then bs cs f (falls e) = falls (e ∙ put_length f)

-- what the lent marks hold once EF.OD is read
module _ {s a b u v : List ℕ} {start stop i : ℕ} (h : Framing s start stop a) (bytes : Bytes s) (room : i + 3 ≤ 4 * start) (wide : 128 ≤ length u) {w : Listed} (d : DidEntries s a b u v i start stop (od s stop start) w) where
  pub entries_refused : {f : Fault} {p : ℕ} → w ≡ code.refused f p → EntriesRead s start stop a b i (code.refused f p)
  entries_refused {f} {p} z = record { is = λ o fs bs _ _ _. go (λ cs ms. read_files s o fs bs cs ms) (rw z at d.objects) }
    where
      go : {old : List Rec} {t : Res} (k : List Rec → List ℕ → Answer) → DidObjects a b u v i start stop 0 t (code.refused f p) → Reads old a b i (on_res t k) (code.refused f p)
      go k (fell_objects e _) = falls e

  module _ {n end k : ℕ} {again : Option ℕ} (z : w ≡ listed n end k again) where
    -- what was read
    record EntriesOpen : Type 0 where
      cs : List Rec
      ms : List ℕ
      are : od s stop start ≡ took cs ms n
      put : Put a b i end (encode cs)
      opening : Opening s stop b i end v k cs ms

    entries_open : EntriesOpen
    entries_open =
        let x = objects_open (rw z at d.objects) in
        let f = od_kept s bytes h.small stop start h.low h.high x.2 in
        let r : end ≤ 4 * stop = omega (arith, x.3.at, book_size x.0, f.bound, f.low, f.high) in
        let t : end ≤ length a = omega (arith, h.high, h.small, h.wide) in
        let e : k ≤ 128 = objects_few (rw z at d.objects) in
        record {
          cs = x.0;
          ms = x.1;
          are = x.2;
          put = x.3;
          opening = record {
            lies = put_lie s x.3 t h.small f.laid;
            laid = f.laid;
            room = r;
            marks = put_upto x.4 (omega arith);
            few = e;
            many = omega (arith, put_length x.4);
          };
        }

    framing_kept : Framing s start stop b
    framing_kept = record { low = h.low; high = h.high; small = h.small; wide = omega (arith, h.wide, objects_same d.objects); fs = h.fs; chain = h.chain }

    pub entries_opened : Opened s stop b i end v k
    entries_opened = let x = entries_open in record { start = start; frame = framing_kept; cs = x.cs; ms = x.ms; is = x.opening }

    pub entries_read : {c : List ℕ} {r : Outcome} → FilesRead s stop b c i end v k again r → EntriesRead s start stop a c i r
    entries_read {c} {r} t = record {
      is = λ o fs bs y q e.
          let x = entries_open in
          rw x.are (reads_then bs x.cs x.put (t.is o fs bs x.cs x.ms q e x.opening (rw y (d.told x.are z))));
    }

-- CIAInfo is read
module _ {s a b : List ℕ} {from to start stop : ℕ} (h : Framing s start stop a) (bytes : Bytes s) (low : 4 ≤ from) (mid : from ≤ to) (high : to + 4 ≤ start) {w : Part} (d : Did a b 0 from to (cia s to from) w) where
  pub parts_fell : {f : Fault} {p : ℕ} → w ≡ code.refused f p → PartsRead s from to start stop a b (code.refused f p)
  unfolding read_parts
  parts_fell {f} {p} z = record { is = λ c o fs x y _ _ _. rw (x, y) (go (λ bs _. on_res (od s o.stop o.start) (λ cs ms. read_files s o fs bs cs ms)) (rw z at d)) }
    where
      go : {old : List Rec} {t : Res} (k : List Rec → List ℕ → Answer) → Did a b 0 from to t (code.refused f p) → Reads old a b 0 (on_res t k) (code.refused f p)
      go k (fell e) = falls e

  module _ {n i : ℕ} (z : w ≡ came n i) where
    record InfoOpen : Type 0 where
      bs : List Rec
      ms : List ℕ
      are : cia s to from ≡ took bs ms n
      put : Put a b 0 i (encode bs)

    info_open : InfoOpen
    info_open = go (cia s to from) refl (rw z at d)
      where
        go : (t : Res) → cia s to from ≡ t → Did a b 0 from to t (came n i) → InfoOpen
        go _ e (did {bs = bs} {ms = ms} f _ _ _) = record { bs = bs; ms = ms; are = e; put = f }

    pub info_room : i + 3 ≤ 4 * start
    info_room =
        let x = info_open in
        let f = cia_kept s bytes h.small to from mid (omega (arith, h.low, h.high)) x.are in
        omega (arith, x.put.at, book_size x.bs, f.bound, f.low, f.high)

    pub info_framing : Framing s start stop b
    info_framing = record { low = h.low; high = h.high; small = h.small; wide = omega (arith, h.wide, did_same d); fs = h.fs; chain = h.chain }

    pub parts_read : {c : List ℕ} {r : Outcome} → EntriesRead s start stop b c i r → PartsRead s from to start stop a c r
    unfolding read_parts
    parts_read {c} {r} t = record {
      is = λ c o fs x y u v e.
          let q = info_open in
          let z' : od s o.stop o.start ≡ od s stop start = rw (u, v) refl in
          rw (x, y, q.are, z') (reads_then [] q.bs q.put (t.is o fs q.bs u v e));
    }

-- the frames
module _ (s : List ℕ) (at : ℕ) {x : Framed} (e : frame s 1 at ≡ framed_as at x) where
  pub heads_first : {f : Fault} {p : ℕ} → x ≡ code.refused f p → HeadsTold s at (code.refused f p)
  unfolding read_from
  heads_first {f} {p} z = unsound {f = f} {p = p} (λ k. rw (e, z) refl)

  module _ {k n from to : ℕ} (z : x ≡ framed_at k n from to) {y : Framed} (d : frame s 2 to ≡ framed_as to y) where
    pub heads_second : {f : Fault} {p : ℕ} → y ≡ code.refused f p → HeadsTold s at (code.refused f p)
    unfolding read_from
    heads_second {f} {p} v = unsound {f = f} {p = p} (λ k. rw (e, z, d, v) refl)

    module _ {l m start stop : ℕ} (v : y ≡ framed_at l m start stop) {g : Chain} (t : FramesTold s stop g) where
      pub heads_chain : {f : Fault} {p : ℕ} → g ≡ code.refused f p → HeadsTold s at (code.refused f p)
      unfolding read_from
      heads_chain {f} {p} u = unsound {f = f} {p = p} (λ k. rw (e, z, d, v, t.unsound f p u) refl)

      pub heads_are : g ≡ fine_so → Inner s at x → Inner s to y → HeadsTold s at (Ok (record { info = record { kind = k; path = n; start = from; stop = to }; main = record { kind = l; path = m; start = start; stop = stop } }))
      unfolding read_from
      heads_are u i j =
          let w = t.sound u in
          sound (record {
            info = record { place = at; kind = k; named = n; start = from; stop = to };
            main = record { place = to; kind = l; named = m; start = start; stop = stop };
            fs = w.0;
            info_from = refl;
            info_to = refl;
            main_from = refl;
            main_to = refl;
            chain = w.1;
            is = λ k. rw (e, z, d, v, w.1) refl;
            first = inner_low i z;
            order = inner_mid i z;
            next = inner_low j v;
            low = inner_mid j v;
            high = inner_high j v;
          })

-- what is read from there on
module _ {s : List ℕ} {at : ℕ} {h : Result Heads Refusal} (d : HeadsTold s at h) where
  broken_so : {f : Fault} {p : ℕ} → h ≡ code.refused f p → (k : Answer → Answer) → read_from s at k ≡ refused f p
  broken_so {f} {p} z = go (rw z at d)
    where
      go : HeadsTold s at (code.refused f p) → (k : Answer → Answer) → read_from s at k ≡ refused f p
      go (unsound w) = w

  pub plain_broken : (a : List ℕ) {f : Fault} {p : ℕ} → h ≡ code.refused f p → Reads [] a a 0 (read_from s at (λ x. x)) (code.refused f p)
  plain_broken a z = rw (broken_so z (λ x. x)) (falls refl)

  module _ {f : Heads} (z : h ≡ Ok f) where
    heads_so : HeadsAre s at f.info.start f.info.stop f.main.start f.main.stop
    heads_so = go (rw z at d)
      where
        go : HeadsTold s at (Ok f) → HeadsAre s at f.info.start f.info.stop f.main.start f.main.stop
        go (sound w) = w

    pub heads_framing : {b : List ℕ} → length s ≤ 32768 → 131072 ≤ length b → Framing s f.main.start f.main.stop b
    heads_framing l w = let x = heads_so in record { low = x.low; high = x.high; small = l; wide = w; fs = x.fs; chain = x.chain }

    pub heads_from : 4 ≤ f.info.start
    heads_from = omega (arith, heads_so.first)

    pub heads_order : f.info.start ≤ f.info.stop
    heads_order = heads_so.order

    pub heads_next : f.info.stop + 4 ≤ f.main.start
    heads_next = heads_so.next

    module _ {a b : List ℕ} {r : Outcome} (q : PartsRead s f.info.start f.info.stop f.main.start f.main.stop a b r) where
      parts_so : Reads [] a b 0 (read_parts s heads_so.info heads_so.main heads_so.fs) r
      parts_so = let x = heads_so in q.is x.info x.main x.fs x.info_from x.info_to x.main_from x.main_to x.chain

      pub plain_read : Reads [] a b 0 (read_from s at (λ x. x)) r
      plain_read = rw (heads_so.is (λ x. x)) parts_so

-- whether the first record is 0005
pub first_kind : (s : List ℕ) {x y n : ℕ} → x ≡ get_or (slice 0 (length s) s) 2 0 → y ≡ get_or (slice 0 (length s) s) 3 0 → n ≡ x + 256 * y → eqb n 5 ≡ has_dir s
first_kind s x y n = let w : slice 0 (length s) s ≡ s = take-length s in rw (n, x, y, w) refl

-- EF.DIR and the others
module _ {s : List ℕ} {a e : ℕ} (f : DirFirst s a e) {h : Result Heads Refusal} (d : HeadsTold s e h) where
  pub behind_broken : (b : List ℕ) {x : Fault} {p : ℕ} → h ≡ code.refused x p → Reads [] b b 0 (read_dump s) (code.refused x p)
  behind_broken b z = rw (f.is, broken_so d z (λ x. on_res (dir s e a) (λ es _. and_also es x))) (falls refl)

  module _ {hs : Heads} (z : h ≡ Ok hs) where
    abbrev others : Answer
    others = let x = heads_so d z in read_parts s x.info x.main x.fs

    behind_so : read_dump s ≡ on_res (dir s e a) (λ es _. and_also es others)
    behind_so = f.is ∙ (heads_so d z).is (λ x. on_res (dir s e a) (λ es _. and_also es x))

    -- EF.DIR is code.refused
    dir_fell : {b c : List ℕ} {o : ℕ} {w : Part} → Did b c o a e (dir s e a) w → {x : Fault} {p : ℕ} → w ≡ code.refused x p → read_dump s ≡ refused x p
    dir_fell {b} {c} {o} u {x} {p} y = behind_so ∙ go (rw y at u)
      where
        go : {v : Res} → Did b c o a e v (code.refused x p) → on_res v (λ es _. and_also es others) ≡ refused x p
        go (fell _) = refl

    module _ {w : Part} (j : Judged a e (dir s e a) w) where
      pub behind_dir : (b : List ℕ) {x : Fault} {p : ℕ} → w ≡ code.refused x p → Reads [] b b 0 (read_dump s) (code.refused x p)
      behind_dir b y = rw (dir_fell j.is y) (falls refl)

      module _ {m t : ℕ} (y : w ≡ came m t) {b c : List ℕ} {r : Outcome} (q : PartsRead s hs.info.start hs.info.stop hs.main.start hs.main.stop b c r) where
        pub behind_others : {x : Fault} {p : ℕ} → r ≡ code.refused x p → Reads [] b c 0 (read_dump s) (code.refused x p)
        behind_others {x} {p} v = let u = did_open (rw y at j.is) in rw (behind_so, u.2) (go u.0 (rw v at (parts_so d z q)))
          where
            go : {g : Answer} (es : List Rec) → Reads [] b c 0 g (code.refused x p) → Reads [] b c 0 (and_also es g) (code.refused x p)
            go es (falls l) = falls l

        module _ (wide : 131072 ≤ length b) {n : ℕ} (v : r ≡ Ok n) where
          -- the others' records are put from the start on
          record OthersRead : Type 0 where
            rs : List Rec
            is : others ≡ accepted rs
            put : Put b c 0 n (encode rs)

          others_read : OthersRead
          others_read = go others refl (rw v at (parts_so d z q))
            where
              go : (g : Answer) → others ≡ g → Reads [] b c 0 g (Ok n) → OthersRead
              go _ l (reads rs p _) = record { rs = rs; is = l; put = p }

          -- all of them are few
          whole : {es : List Rec} {ms : List ℕ} {i : ℕ} → dir s e a ≡ took es ms i → (read_dump s ≡ accepted (others_read.rs ++ es)) × (n + length (encode es) ≤ 131072)
          whole {es} l =
              let x = others_read in
              let g : read_dump s ≡ accepted (x.rs ++ es) = behind_so ∙ rw (l, x.is) refl in
              (g, omega (arith, f.small, x.put.at, rw (encode_append x.rs es, length-append (encode x.rs) (encode es)) at (book_bound s (x.rs ++ es) f.bytes g)))

          pub behind_room : n + 4 ≤ 8 * a + 131072
          behind_room = omega (arith, f.first, (whole (did_open (rw y at j.is)).2).1)

          pub behind_small : n ≤ 8 * a + 131072
          behind_small = omega (arith, behind_room)

          module _ {g : List ℕ} {u : Part} (k : Did c g n a e (dir s e a) u) where
            pub behind_fell : {x : Fault} {p : ℕ} → u ≡ code.refused x p → Reads [] b g 0 (read_dump s) (code.refused x p)
            behind_fell l = rw (dir_fell k l) (falls (did_same k ∙ put_length others_read.put))

            pub behind_read : {i o : ℕ} → u ≡ came i o → Reads [] b g 0 (read_dump s) (Ok o)
            behind_read {i} {o} l =
                let x = others_read in
                let w = did_open (rw l at k) in
                let t = whole w.2 in
                rw t.0 (reads (x.rs ++ w.0) (put_then x.put w.3 (sym (encode_append x.rs w.0))) (omega (arith, t.1, w.3.at)))

-- the whole dump
module _ (s : List ℕ) where
  pub into_long : {a : List ℕ} → 32768 < length s → Reads [] a a 0 (read_dump s) (code.refused DumpSize 0)
  unfolding read_dump
  into_long h = rw (lt-leb (length s) 32768 h) (falls refl)

  module _ (small : length s ≤ 32768) {t : Bool} (k : t ≡ has_dir s) where
    pub into_plain : {a b : List ℕ} {r : Outcome} → t ≡ false → Reads [] a b 0 (read_from s 0 (λ x. x)) r → Reads [] a b 0 (read_dump s) r
    unfolding read_dump
    into_plain z q = rw (le-leb (length s) 32768 small, sym k ∙ z) q

    module _ (z : t ≡ true) {x : Framed} (e : frame s 5 0 ≡ framed_as 0 x) where
      pub into_broken : {a : List ℕ} {f : Fault} {p : ℕ} → x ≡ code.refused f p → Reads [] a a 0 (read_dump s) (code.refused f p)
      unfolding read_dump
      into_broken v = rw (le-leb (length s) 32768 small, sym k ∙ z, e, v) (falls refl)

-- EF.DIR is there
pub into_behind : (s : List ℕ) → Bytes s → length s ≤ 32768 → {t : Bool} → t ≡ has_dir s → t ≡ true → {x : Framed} → frame s 5 0 ≡ framed_as 0 x → {l n from to : ℕ} → x ≡ framed_at l n from to → Inner s 0 x → DirFirst s from to
unfolding read_dump
into_behind s bytes small k z e v i = record { bytes = bytes; is = rw (le-leb (length s) 32768 small, sym k ∙ z, e, v) refl; first = omega (arith, inner_low i v); order = inner_mid i v; inside = inner_high i v; small = small }
