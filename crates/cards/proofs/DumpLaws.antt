-- A dump is accepted if and only if it is the dump of a card; and what a refusal tells.
use Prim.Native.Nat.{ℕ, ◌+◌, ◌≤◌}
use mathlib.Core.List.{List, [], ◌++◌, append-nil}
use Rattle.std.proofs.Math.Option.{none, some}
use Rattle.std.specs.Prelude.{true, false, ◌≡◌, ◌↔◌, ltb, leb}
use Rattle.std.proofs.Math.Path.{refl}
use Rattle.std.proofs.Common.{sym, ap, ◌∙◌, subst, arith, le_refl, leb-true, le-leb}
use Rattle.std.proofs.Math.ListN.{length, length-append}
use Rattle.std.proofs.Math.Seq.{slice, length-slice, take-length}
use Rattle.elements.specs.declared.fault.Fault.{Fault}
use Rattle.elements.specs.ChoiceLaws.{by_choose}
use Rattle.elements.specs.Lists.{Bytes}
use Rattle.elements.specs.Record.{record_bytes}
use Rattle.rules.proofs.SoundLayouts.{cia_fine, cia_sound}
use Rattle.rules.proofs.SoundFiles.{dir_fine, dir_sound, od_fine, od_sound}
use Rattle.rules.specs.Reading.{Rec, Res}
use Rattle.rules.specs.Files.{Name, File, FrameRead, Files, Check, Answer, accepted, refused, paths, first_again, entry_place, frame, on_framed, on_files, on_res, on_check, read_files, read_parts, and_also, od, dir, read_from, has_dir, read_dump}
use Rattle.rules.specs.Book.{encode}
use Rattle.rules.specs.Meaning.{AcceptedBook}
use Rattle.rules.specs.declared.site.Site.{Site}
use Rattle.rules.specs.Grammar.{site_of, opening, origin, Part}
use Rattle.rules.specs.RenderLaws.{home}
use Rattle.rules.specs.FaultLaws.{Told}
use Rattle.rules.specs.GrammarLaws.{close, marks_append, Facts, Reads, refuses, takes}
use Rattle.cards.specs.Card as card
use Rattle.cards.specs.Card.{in_od, in_files, Card, dump_of, book_of, Meets}
use Rattle.cards.proofs.CardKinds.{od_names, card_ids}
use Rattle.rules.specs.Pays.{ids_of}
use Rattle.cards.proofs.OnceLaws.{New, apart_none, once_sound, once_complete, entry_place_lem, IdsRead, again, new, ids_sound, ids_complete}
use Rattle.cards.proofs.FrameLaws.{Frame, by_frame, held, frame_held, Chain, ChainReads, no_chain, chain, chain_sound, Follows, FollowReads, no_follow, follows, follow_sound}
use Rattle.cards.proofs.PartLaws.{cia_law, od_law, dir_law, all_of}
use Rattle.cards.proofs.DirectoryLaws.{DirReads, no_dir, dirs, dirs_sound, dirs_complete}
pub use Rattle.cards.proofs.DirectoryLaws.{DirFacts, dirs_read}

-- a file's records are the same wherever it starts
cia_home : (p : ℕ) (x : (card.cia).Of) → (card.cia).book (opening 0 p) x ≡ (card.cia).book origin x
cia_home p x = home (cia_sound.lawful cia_fine).renders 0 p x

od_home : (p : ℕ) (x : (card.od).Of) → (card.od).book (opening 0 p) x ≡ (card.od).book origin x
od_home p x = home (od_sound.lawful od_fine).renders 0 p x

dir_home : (p : ℕ) (x : (card.templates).Of) → (card.templates).book (opening 0 p) x ≡ (card.templates).book origin x
dir_home p x = home (dir_sound.lawful dir_fine).renders 0 p x

-- a dump and these records are those of a card
pub record CardOf (d : List ℕ) (rs : List Rec) : Type 0 where
  pub it : Card
  pub meets : Meets it
  pub dump : dump_of it ≡ d
  pub book : book_of it ≡ rs

-- the same of one without EF.DIR
record PlainOf (d : List ℕ) (rs : List Rec) : Type 0 where
  card : CardOf d rs
  plain : (card).it.dir ≡ none

-- what reading comes to: a refusal, or records of which G holds
data Comes (s : List ℕ) (G : List Rec → Type 0) : Answer → Type 0 where
  declines : {f : Fault} (p : ℕ) → Told s f p → Comes s G (refused f p)
  accepts : {rs : List Rec} → G rs → Comes s G (accepted rs)

-- by what a stage comes to
module _ {s : List ℕ} {G : List Rec → Type 0} where
  -- a record's frame
  on_frame : {kind at : ℕ} {k : File → Answer} → Bytes s → at ≤ length s → ((f : File) → Frame s kind [] at f → Comes s G (k f)) → Comes s G (on_framed (frame s kind at) k)
  on_frame {kind} {at} {k} bytes h g = by_frame s bytes (λ (r : FrameRead). Comes s G (on_framed r k)) kind at (λ _ t. declines at (h, t)) g

  -- the frames of the files
  on_chain : {at : ℕ} {r : Files} {k : List File → Answer} → ChainReads s at r → ((fs : List File) → Chain s at fs → Comes s G (k fs)) → Comes s G (on_files r k)
  on_chain (no_chain p o) g = declines p o
  on_chain (chain {fs = fs} c) g = g fs c

  -- a part of the card
  on_part : {site : Site} {P : Part} {c : P.Of → ℕ} {k N end at : ℕ} {r : Res} {q : List Rec → List ℕ → Answer} → Reads site s P c k N close end at r → ((rs : List Rec) (ms : List ℕ) (n : ℕ) → Facts site s P c k N close end at rs ms n → Comes s G (q rs ms)) → Comes s G (on_res r q)
  on_part (refuses p o) g = declines p o
  on_part (takes {rs = rs} {ms = ms} {n = n} f) g = g rs ms n f

  -- the files' paths
  on_follow : {at : ℕ} {ns : List Name} {fs : List File} {r : Check} {k : Unit {0} → Answer} → FollowReads s at ns fs r → ((u : Unit {0}) → Follows s at ns fs → Comes s G (k u)) → Comes s G (on_check r k)
  on_follow (no_follow p o) g = declines p o
  on_follow (follows w) g = g tt w

  -- the files in turn
  on_dirs : {n : ℕ} {ns : List Name} {k at : ℕ} {r : Res} {q : List Rec → List ℕ → Answer} → DirReads s n ns k at r → ((rs : List Rec) (ms : List ℕ) → DirFacts s n ns k at rs ms → Comes s G (q rs ms)) → Comes s G (on_res r q)
  on_dirs (no_dir p o) g = declines p o
  on_dirs (dirs {rs = rs} {ps = ms} d) g = g rs ms d

  -- 13
  on_ids : {before ids : List (List ℕ)} {r : Check} {k : Unit {0} → Answer} → IdsRead (length s) before ids r → ((u : Unit {0}) → New before ids → Comes s G (k u)) → Comes s G (on_check r k)
  on_ids (again p o) g = declines p o
  on_ids (new v) g = g tt v

-- from CIAInfo's record on
abbrev Plainly : List ℕ → ℕ → Answer → Type 0
Plainly s at = Comes s (PlainOf (slice at (length s) s))

-- the whole
abbrev Wholly : List ℕ → Answer → Type 0
Wholly s = Comes s (CardOf s)

module _ (s : List ℕ) (bytes : Bytes s) (small : length s ≤ 32768) where
  -- CIAInfo and EF.OD were read: 12, the files in turn, 13
  files_sound : (at : ℕ) (c o : File) → Frame s 1 [] at c → Frame s 2 [] c.stop o → {bs cs : List Rec} {mb ms : List ℕ} {i j : ℕ} → Facts (site_of 0 c.start) s card.cia (λ _. 0) 0 0 close c.stop c.start bs mb i →
      Facts (site_of 0 o.start) s card.od (λ x. length (in_od x)) 0 128 close o.stop o.start cs ms j → {fs : List File} → Chain s o.stop fs → Plainly s at (read_files s o fs bs cs ms)
  unfolding read_files
  files_sound at c o v w {bs} {cs} {mb} {ms} f g {fs} ch =
      let main = g.it in
      let ns = card.names_of main in
      let ps = paths ns in
      let fb = f.book ∙ cia_home c.start f.it in
      let gb = g.book ∙ od_home o.start main in
      rw (gb, od_names origin main) (by_choose (Plainly s at) (ltb (first_again [] ps) (length ps))
      (λ _ _. declines (entry_place s (length s) (first_again [] ps) o.stop o.start) (entry_place_lem s (length s) (first_again [] ps) o.stop o.start w.order w.inside, tt))
      (λ _ p. on_follow (follow_sound s bytes ns ch) (λ _ fl. on_dirs (dirs_sound s bytes small fl 1 (length ms) (omega (arith, g.room, g.counted))) (λ ds mds d.
      on_ids (ids_sound (length s) [] 0 (ms ++ mds) ((card.od).book origin main ++ ds) (omega arith) (marks_append (length s) ms mds g.marks d.marks)) (λ _ q.
      let it : Card = record { dir = none; info = f.it; main = main; dirs = d.it } in
      let e : dump_of it ≡ slice at (length s) s = rw (← all_of f, ← all_of g, ← d.bytes, ← w.whole, ← v.whole) refl in
      accepts {rs = bs ++ ((card.od).book origin main ++ ds)} (record {
        card = record {
          it = it;
          meets = record {
            dir = tt;
            info = f.meets;
            main = g.meets;
            dirs = d.meets;
            dump_size = rw e (omega (arith, length-slice at (length s) s (le_refl (length s))));
            info_size = rw (← all_of f) (omega (arith, v.size, length-slice c.start c.stop s v.inside));
            main_size = rw (← all_of g) (omega (arith, w.size, length-slice o.start o.stop s w.inside));
            few = omega (arith, d.room, g.counted, length-append (in_od main) (in_files 1 ns d.it));
            paths_once = (once_sound [] ps p).1;
            ids_once = rw (← card_ids main ns d.it, ← d.book origin) q.1;
          };
          dump = e;
          book = append-nil ((card.cia).book origin f.it ++ ((card.od).book origin main ++ (card.files 1 ns).book origin d.it)) ∙ rw (fb, d.book origin) refl;
        };
        plain = refl;
      }))))))

  -- what the frames hold
  parts_sound : (at : ℕ) (c o : File) → Frame s 1 [] at c → Frame s 2 [] c.stop o → {fs : List File} → Chain s o.stop fs → Plainly s at (read_parts s c o fs)
  unfolding read_parts od
  parts_sound at c o v w ch =
      on_part ((cia_law s bytes small (site_of 0 c.start)).sound 0 c.start c.stop (omega arith) v.order v.inside) (λ bs mb i f.
      on_part ((od_law s bytes small o.start).sound 0 o.start o.stop (omega arith) w.order w.inside) (λ cs ms j g.
      files_sound at c o v w f g ch))

  -- all frames, and then what they hold
  from_sound : {G : List Rec → Type 0} (at : ℕ) → at ≤ length s → (k : Answer → Answer) → ((x : Answer) → Plainly s at x → Comes s G (k x)) → Comes s G (read_from s at k)
  unfolding read_from
  from_sound at h k then =
      on_frame bytes h (λ c v.
      on_frame bytes v.inside (λ o w.
      on_chain (chain_sound s bytes (length s) o.stop w.inside) (λ fs ch. then (read_parts s c o fs) (parts_sound at c o v w ch))))

  -- without EF.DIR
  plainly : (x : Answer) → Plainly s 0 x → Wholly s x
  plainly x (declines p o) = declines p o
  plainly x (accepts {rs = rs} p) = accepts (subst (λ (d : List ℕ). CardOf d rs) (take-length s) p.card)

  -- with it
  behind : (f : File) → Frame s 5 [] 0 f → {es : List Rec} {ms : List ℕ} {n : ℕ} → Facts (site_of 0 f.start) s card.templates (λ _. 0) 0 0 close f.stop f.start es ms n → (x : Answer) → Plainly s f.stop x → Wholly s (and_also es x)
  behind f v g x (declines p o) = declines p o
  behind f v {es} g x (accepts {rs = rs} p) =
      let c = p.card.it in
      let m = p.card.meets in
      let main = record_bytes 1 ((card.cia).bytes c.info) ++ (record_bytes 2 ((card.od).bytes c.main) ++ (card.files 1 (card.names_of c.main)).bytes c.dirs) in
      let book = (card.cia).book origin c.info ++ ((card.od).book origin c.main ++ (card.files 1 (card.names_of c.main)).book origin c.dirs) in
      let it : Card = record { dir = some g.it; info = c.info; main = c.main; dirs = c.dirs } in
      let d : main ≡ slice f.stop (length s) s = rw p.plain at p.card.dump in
      let b : book ≡ rs = sym (append-nil book) ∙ (rw p.plain at p.card.book) in
      let e : dump_of it ≡ s = rw (d, ← all_of g, ← v.whole) (take-length s) in
      accepts {rs = rs ++ es} (record {
        it = it;
        meets = record {
          dir = (g.meets, rw (← all_of g) (omega (arith, v.size, length-slice f.start f.stop s v.inside)));
          info = m.info;
          main = m.main;
          dirs = m.dirs;
          dump_size = rw e small;
          info_size = m.info_size;
          main_size = m.main_size;
          few = m.few;
          paths_once = m.paths_once;
          ids_once = m.ids_once;
        };
        dump = e;
        book = rw (b, g.book, dir_home f.start g.it) refl;
      })

  -- a card's dump, from CIAInfo's record on, is read with its book
  from_complete : (c : Card) → Meets c → (at : ℕ) → at ≤ length s →
      slice at (length s) s ≡ record_bytes 1 ((card.cia).bytes c.info) ++ (record_bytes 2 ((card.od).bytes c.main) ++ (card.files 1 (card.names_of c.main)).bytes c.dirs) →
      (k : Answer → Answer) → read_from s at k ≡ k (accepted ((card.cia).book origin c.info ++ ((card.od).book origin c.main ++ (card.files 1 (card.names_of c.main)).book origin c.dirs)))
  unfolding read_from read_parts read_files od
  from_complete c m at h e k =
      let i = (card.cia).bytes c.info in
      let o = (card.od).bytes c.main in
      let ns = card.names_of c.main in
      let w = (card.files 1 ns).bytes c.dirs in
      let book = (card.od).book origin c.main ++ (card.files 1 ns).book origin c.dirs in
      let few = m.few in
      let len = length-append (in_od c.main) (in_files 1 ns c.dirs) in
      let v1 = held s 1 at [] i (record_bytes 2 o ++ w) (omega arith) (omega arith) m.info_size h e in
      let h1 = v1.inside in
      let p = at + 4 + length i in
      let v2 = held s 2 p [] o w (omega arith) (omega arith) m.main_size h1 v1.left in
      let h2 = v2.inside in
      let q = p + 4 + length o in
      let d = dirs_complete s bytes small 1 ns c.dirs m.dirs q h2 v2.left in
      let a = (cia_law s bytes small (site_of 0 (at + 4 + 0))).complete 0 (at + 4 + 0) p (omega arith) (omega arith) h1 c.info m.info (le_refl 0) v1.this in
      let b = (od_law s bytes small (p + 4 + 0)).complete 0 (p + 4 + 0) q (omega arith) (omega arith) h2 c.main m.main (omega arith) v2.this in
      let g = d.goes (length b.ms) (omega (arith, b.counted)) origin in
      rw (
        frame_held s v1,
        frame_held s v2,
        d.framed_as_lem (length s) (omega arith),
        a.is,
        cia_home (at + 4 + 0) c.info,
        b.is,
        od_home (p + 4 + 0) c.main,
        od_names origin c.main,
        once_complete [] (paths ns) (apart_none (paths ns), m.paths_once),
        d.follow_is,
        g.2,
        ids_complete [] 0 (b.ms ++ g.0) book (apart_none (ids_of book), rw (card_ids c.main ns c.dirs) m.ids_once),
      ) refl

  -- a card's dump is accepted, with its book
  complete : (c : Card) → Meets c → dump_of c ≡ s → read_dump s ≡ accepted (book_of c)
  unfolding read_dump record_bytes
  complete c m e = go c.dir refl
    where
      main : List ℕ
      main = record_bytes 1 ((card.cia).bytes c.info) ++ (record_bytes 2 ((card.od).bytes c.main) ++ (card.files 1 (card.names_of c.main)).bytes c.dirs)

      book : List Rec
      book = (card.cia).book origin c.info ++ ((card.od).book origin c.main ++ (card.files 1 (card.names_of c.main)).book origin c.dirs)

      go : (x : (card.ef_dir).Of) → c.dir ≡ x → read_dump s ≡ accepted (book ++ (card.ef_dir).book origin x)
      go none q =
          let z : main ≡ s = rw q at e in
          rw (le-leb (length s) 32768 small, subst (λ (l : List ℕ). has_dir l ≡ false) z refl, from_complete c m 0 (omega arith) (take-length s ∙ sym z) (λ x. x), append-nil book) refl
      go (some x) q =
          let t = (card.templates).bytes x in
          let z : record_bytes 5 t ++ main ≡ s = rw q at e in
          let n = rw q at m.dir in
          let v = held s 5 0 [] t main (omega arith) (omega arith) n.1 (omega arith) (take-length s ∙ sym z) in
          let h = v.inside in
          let p = 0 + 4 + length t in
          let a = (dir_law s bytes small (0 + 4 + 0)).complete 0 (0 + 4 + 0) p (omega arith) (omega arith) h x n.0 (le_refl 0) v.this in
          rw (le-leb (length s) 32768 small, subst (λ (l : List ℕ). has_dir l ≡ true) z refl, frame_held s v, from_complete c m p h v.left (λ y. on_res (dir s p (0 + 4 + 0)) (λ es _. and_also es y)), a.is, dir_home (0 + 4 + 0) x) refl

-- every dump, by the stages in their order
dump_reads : (s : List ℕ) → Bytes s → Wholly s (read_dump s)
unfolding read_dump
dump_reads s bytes = by_choose (Wholly s) (leb (length s) 32768)
    (λ _ t. let small = leb-true (length s) 32768 t in
    by_choose (Wholly s) (has_dir s)
    (λ _ _. on_frame bytes (omega arith) (λ f v. from_sound s bytes small f.stop v.inside (λ x. on_res (dir s f.stop f.start) (λ es _. and_also es x)) (λ x p.
    on_part ((dir_law s bytes small f.start).sound 0 f.start f.stop (omega arith) v.order v.inside) (λ es ms n g. behind s bytes small f v g x p))))
    (λ _ _. from_sound s bytes small 0 (omega arith) (λ x. x) (plainly s bytes small)))
    (λ _ _. declines 0 (omega arith, tt))

-- a dump that is accepted is the dump of a card, and its records are the card's book
pub accepted_card : (d : List ℕ) (rs : List Rec) → Bytes d → read_dump d ≡ accepted rs → CardOf d rs
accepted_card d rs bytes e = go (subst (Wholly d) e (dump_reads d bytes))
  where
    go : Wholly d (accepted rs) → CardOf d rs
    go (accepts c) = c

-- and every card's dump is accepted
pub card_accepted : (d : List ℕ) (rs : List Rec) → Bytes d → CardOf d rs → read_dump d ≡ accepted rs
card_accepted d rs bytes c = complete d bytes (rw c.dump at c.meets.dump_size) c.it c.meets c.dump ∙ ap accepted c.book

-- both
pub accepted_cards : (d : List ℕ) (rs : List Rec) → Bytes d → (read_dump d ≡ accepted rs) ↔ ((c : Card) × Meets c × (dump_of c ≡ d) × (book_of c ≡ rs))
accepted_cards d rs bytes = (
  (λ e. let c = accepted_card d rs bytes e in (c.it, c.meets, c.dump, c.book)),
  (λ c. card_accepted d rs bytes (record { it = c.0; meets = c.1; dump = c.2; book = c.3 })),
)

-- and so a book is accepted if and only if it is the book of a card
pub accepted_books : (b : List ℕ) → AcceptedBook b ↔ ((c : Card) × Meets c × Bytes (dump_of c) × (encode (book_of c) ≡ b))
accepted_books b = (
  (λ a.
      let h = a.has in
      let c = accepted_card a.dump h.records h.bytes h.reads in
      (c.it, c.meets, rw c.dump h.bytes, rw c.book h.book)),
  (λ c.
      let r = card_accepted (dump_of c.0) (book_of c.0) c.2 (record { it = c.0; meets = c.1; dump = refl; book = refl }) in
      record { dump = dump_of c.0; has = record { bytes = c.2; records = book_of c.0; reads = r; book = c.3 } }),
)

-- a refusal's fault is one of reading, and its place lies in the dump
pub told : (d : List ℕ) (f : Fault) (p : ℕ) → Bytes d → read_dump d ≡ refused f p → Told d f p
told d f p bytes e = go (subst (Wholly d) e (dump_reads d bytes))
  where
    go : Wholly d (refused f p) → Told d f p
    go (declines x o) = o
