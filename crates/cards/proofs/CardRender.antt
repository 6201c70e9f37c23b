-- Rendering a card's book gives its dump, and a book has one card.
use Rattle.std.specs.Prelude.{ℕ, ◌+◌, ◌-◌, ◌*◌, ◌%◌, ◌≤◌, ◌≡◌, refl, List, [], ◌∷◌, ◌++◌, Bool, false, leb, T}
use Rattle.std.proofs.Common.{inl, inr, sym, ap, ◌∙◌, subst, append-nil, append_assoc, arith, le_refl, length-append, take_at, leb→le}
use Rattle.std.proofs.Math.Bool.{true}
use Rattle.std.proofs.Math.ListN.{length}
use Rattle.elements.specs.Record.{record_bytes}
use Rattle.rules.proofs.SoundLayouts.{cia_fine, cia_sound}
use Rattle.rules.proofs.SoundFiles.{dir_fine, dir_sound, directory_fine, directory_sound, od_fine, od_sound, record_fine, record_sound}
use Rattle.rules.specs.Reading.{Rec}
use Rattle.rules.specs.Files as files
use Rattle.rules.specs.Files.{Name}
use Rattle.rules.specs.Looks.{Look, look, elem_look, join_look, seq_look}
use Rattle.rules.specs.LookLaws.{Fresh, Begins, size, Laid, avoids, begins_fresh}
use Rattle.rules.specs.Rendering.{Renderer, gives, when, ◌next◌}
use Rattle.rules.specs.RenderLaws.{Renders, told, and_renders, none_renders, lengthed_renders, many_renders, one_of_renders, with_renders, possibly_renders, behind_renders, weaken}
use Rattle.rules.specs.Grammar.{Where, opening, origin, ◌on◌, Part, empty, ◌and◌}
use Rattle.rules.specs.Layouts as layouts
use Rattle.rules.specs.Entries as entries
use Rattle.rules.specs.FileLayouts as filing
use Rattle.rules.specs.Render.{r_cia, r_od, r_directory, r_record_in, r_linear, r_named, r_file, r_directories, r_dir, framing, used, render}
use Rattle.cards.specs.Card as card
use Rattle.cards.proofs.CardKinds.{od_names}
use Rattle.cards.specs.Card.{Card, Meets, dump_of, book_of}

-- a file in a record of the dump, behind these bytes: its places count from its own first byte
abbrev framed : Where → ℕ → List ℕ → Part → Part
framed v kind front P = record { Of = P.Of; bytes = λ x. record_bytes kind (front ++ P.bytes x); book = λ _. P.book v; Meets = P.Meets }

-- a renderer of the same
abbrev r_framed : ℕ → List ℕ → Renderer → Renderer
r_framed kind front q rs = gives (framing kind (front ++ (q rs).bytes)) (q rs).left

-- the record's own four bytes pay for sixteen of the book
framed_renders : {P : Part} {q : Renderer} {L : Look} (v : Where) (kind : ℕ) (front : List ℕ) → T (leb L.credit 16) → Renders P q L → Renders (framed v kind front P) (r_framed kind front q) (elem_look L)
unfolding record_bytes framing
framed_renders {P} {q} {L} v kind front t r =
    let c : L.credit ≤ 16 = leb→le L.credit 16 t in
    record {
      renders = λ _ x m w h. rw (r.renders v x m w h) refl;
      begins = λ _. r.begins v;
      bound = λ _ x m. omega (arith, r.bound v x m, length-append front (P.bytes x));
      laid = λ _ x m n h. r.laid v x m n (omega (arith, length-append front (P.bytes x)));
      tells = λ _ _. r.tells v v;
      moved = λ _ n x. refl;
    }

-- CIAInfo in its record
cia_framed : Renders (framed origin 1 [] card.cia) (r_framed 1 [] r_cia) (elem_look (layouts.cia).kinds)
unfolding layouts.cia layouts.info
cia_framed = framed_renders origin 1 [] tt (cia_sound.lawful cia_fine).renders

-- EF.OD in its record
od_framed : Renders (framed origin 2 [] card.od) (r_framed 2 [] r_od) (elem_look (filing.od).kinds)
unfolding r_od
od_framed = framed_renders origin 2 [] tt (od_sound.lawful od_fine).renders

-- a directory file: rendering it does not take its entry's tag
directory_renders : (t : ℕ) → Renders (card.directory t) r_directory (filing.directory 0).kinds
unfolding r_directory entries.object
directory_renders t = ((directory_sound t).lawful (directory_fine t)).renders

-- a record of a record file: its length pays for its 011A and for its fill
record_renders : (t : ℕ) → Renders (card.record_in t) r_record_in (elem_look (filing.record_in 0).kinds)
unfolding r_record_in entries.object layouts.insides
record_renders t = lengthed_renders tt ((record_sound t).lawful (record_fine t)).renders

-- a record file
abbrev linear_look : Look
linear_look = look (0x0119 ∷ []) false (0x011a ∷ (filing.record_in 0).kinds.stop) 4

linear_renders : (t : ℕ) → Renders (card.linear t) r_linear linear_look
unfolding r_linear entries.object layouts.insides
linear_renders t = behind_renders 0x0119 0 (λ _. []) tt tt (λ _. le_refl 0) (many_renders tt (record_renders t))

-- a file in its record, behind its path: a path is too short for its length to wrap
named_renders : (n kind : ℕ) (path : List ℕ) {P : Part} {q : Renderer} {L : Look} → T (leb L.credit 16) → Renders P q L → Renders (card.named n kind path P) (r_named kind path q) (elem_look L)
named_renders n kind path {P} {q} {L} t f =
    let front = length path ∷ path in
    let r : Renders (framed (opening n 0) kind front P) (r_framed kind front q) (elem_look L) = framed_renders (opening n 0) kind front t f in
    record {
      renders = λ v x m w h. let short : length path % 256 ≡ length path = omega (arith, m.2) in rw short (r.renders v x m.0 w h);
      begins = λ v x m. r.begins v x m.0;
      bound = λ v x m. r.bound v x m.0;
      laid = λ v x m. r.laid v x m.0;
      tells = λ u v x y mx my. r.tells u v x y mx.0 my.0;
      moved = r.moved;
    }

-- of either kind
abbrev file_look : Look
file_look = join_look (elem_look (filing.directory 0).kinds) (elem_look linear_look)

file_renders : (n : ℕ) (m : Name) → Renders (card.file n m) (r_file m.path) file_look
unfolding r_file entries.object layouts.insides
file_renders n m = one_of_renders (named_renders n 3 m.path tt (directory_renders m.tag)) (named_renders n 4 m.path tt (linear_renders m.tag)) tt tt tt

-- the files' records begin with 0118 or 0119, or there are none
abbrev pub files_look : Look
files_look = look (0x0118 ∷ 0x0119 ∷ []) true file_look.stop 0

-- their records begin with 0118 or 0119, are not too long, fit a book, and tell their data
pub files_renders : (n : ℕ) (ms : List Name) → Renders (card.files n ms) (r_directories ms) files_look
unfolding card.files r_directories entries.object layouts.insides
files_renders n [] = weaken {P = empty} (look [] true [] 0) files_look tt none_renders
files_renders n (m ∷ ms) = weaken {P = card.file n m and card.files (n + 1) ms} (seq_look file_look files_look) files_look tt (and_renders {P = card.file n m} {Q = card.files (n + 1) ms} (file_renders n m) (files_renders (n + 1) ms) tt)

-- and are the same wherever the files stand
files_anywhere : (n : ℕ) (ms : List Name) (u v : Where) (x : (card.files n ms).Of) → (card.files n ms).book u x ≡ (card.files n ms).book v x
unfolding card.files
files_anywhere n [] u v x = refl
files_anywhere n (m ∷ ms) u v (inl f, x) = rw (files_anywhere (n + 1) ms (u on length ((card.file n m).bytes (inl f))) (v on length ((card.file n m).bytes (inl f))) x) refl
files_anywhere n (m ∷ ms) u v (inr f, x) = rw (files_anywhere (n + 1) ms (u on length ((card.file n m).bytes (inr f))) (v on length ((card.file n m).bytes (inr f))) x) refl

-- EF.DIR, where there is one: its own record's four bytes pay for 0200 and for its fill
abbrev dir_look : Look
dir_look = look (0x0200 ∷ []) true (0x0200 ∷ (filing.dir).kinds.stop) 0

dir_framed : Renders card.framed_dir (r_framed 5 [] r_dir) (elem_look (filing.dir).kinds)
unfolding r_dir layouts.template layouts.discretionary layouts.path_from
dir_framed = with_renders {P = framed origin 5 [] card.templates} (λ x. length ((card.templates).bytes x) ≤ 16383) (framed_renders origin 5 [] tt (dir_sound.lawful dir_fine).renders)

dir_renders : Renders card.ef_dir (when (0x0200 ∷ []) (r_framed 5 [] r_dir)) dir_look
unfolding layouts.template layouts.discretionary layouts.path_from
dir_renders = possibly_renders card.framed_dir tt dir_framed

-- EF.OD in its record, and then the files of these names
abbrev tail : List Name → Part
tail ns = framed origin 2 [] card.od and card.files 1 ns

-- its kinds
abbrev tail_look : Look
tail_look = seq_look (elem_look (filing.od).kinds) files_look

-- a file's first kind is none of EF.OD's
od_apart : T (avoids files_look.first (filing.od).kinds.stop)
unfolding entries.object layouts.insides
od_apart = tt

-- and neither's is one of CIAInfo's
cia_apart : T (avoids tail_look.first (layouts.cia).kinds.stop)
unfolding layouts.cia layouts.info
cia_apart = tt

-- what follows CIAInfo
tail_renders : (ns : List Name) → Renders (tail ns) (r_framed 2 [] r_od next r_directories ns) tail_look
tail_renders ns = and_renders {P = framed origin 2 [] card.od} {Q = card.files 1 ns} od_framed (files_renders 1 ns) od_apart

-- CIAInfo and what follows it
whole_renders : (ns : List Name) → Renders (framed origin 1 [] card.cia and tail ns) (r_framed 1 [] r_cia next (r_framed 2 [] r_od next r_directories ns)) (seq_look (elem_look (layouts.cia).kinds) tail_look)
whole_renders ns = and_renders {P = framed origin 1 [] card.cia} {Q = tail ns} cia_framed (tail_renders ns) cia_apart

-- and EF.DIR's first kind is none of those before it
dir_apart : (ns : List Name) → T (avoids dir_look.first (seq_look (elem_look (layouts.cia).kinds) tail_look).stop)
unfolding layouts.cia layouts.info entries.object layouts.insides
dir_apart ns = tt

-- all of a book, in its order
abbrev all_look : Look
all_look = seq_look (seq_look (elem_look (layouts.cia).kinds) tail_look) dir_look

all_renders : (ns : List Name) → Renders ((framed origin 1 [] card.cia and tail ns) and card.ef_dir) ((r_framed 1 [] r_cia next (r_framed 2 [] r_od next r_directories ns)) next when (0x0200 ∷ []) (r_framed 5 [] r_dir)) all_look
all_renders ns = and_renders {P = framed origin 1 [] card.cia and tail ns} {Q = card.ef_dir} (whole_renders ns) dir_renders (dir_apart ns)

-- a card as these
abbrev all : (c : Card) → ((framed origin 1 [] card.cia and tail (card.names_of c.main)) and card.ef_dir).Of
all c = ((c.info, (c.main, c.dirs)), c.dir)

abbrev all_meet : (c : Card) → Meets c → ((framed origin 1 [] card.cia and tail (card.names_of c.main)) and card.ef_dir).Meets (all c)
all_meet c m = ((m.info, (m.main, m.dirs)), m.dir)

-- its book is that of these
book_all : (c : Card) → ((framed origin 1 [] card.cia and tail (card.names_of c.main)) and card.ef_dir).book origin (all c) ≡ book_of c
book_all c = rw (files_anywhere 1 (card.names_of c.main) (origin on length (record_bytes 1 ((card.cia).bytes c.info)) on length (record_bytes 2 ((card.od).bytes c.main))) origin c.dirs) refl

-- four bytes of book for each of the dump's are enough
pub card_bound : (c : Card) → Meets c → size (book_of c) ≤ 4 * length (dump_of c)
card_bound c m =
    let w = record_bytes 1 ((card.cia).bytes c.info) ++ (record_bytes 2 ((card.od).bytes c.main) ++ (card.files 1 (card.names_of c.main)).bytes c.dirs) in
    rw (← book_all c) (omega (arith, (all_renders (card.names_of c.main)).bound origin (all c) (all_meet c m), length-append w ((card.ef_dir).bytes c.dir), length-append ((card.ef_dir).bytes c.dir) w))

-- and the records fit a book
pub card_laid : (c : Card) → Meets c → Laid (length (dump_of c)) (book_of c)
card_laid c m =
    let w = record_bytes 1 ((card.cia).bytes c.info) ++ (record_bytes 2 ((card.od).bytes c.main) ++ (card.files 1 (card.names_of c.main)).bytes c.dirs) in
    rw (← book_all c) ((all_renders (card.names_of c.main)).laid origin (all c) (all_meet c m) (length (dump_of c)) (omega (arith, length-append w ((card.ef_dir).bytes c.dir), length-append ((card.ef_dir).bytes c.dir) w)))

-- a card is rendered part by part
render_is : (bs os ds es : List Rec) (a b d x : List ℕ) (ns : List Name) → r_cia (bs ++ (os ++ (ds ++ es))) ≡ gives a (os ++ (ds ++ es)) → r_od (os ++ (ds ++ es)) ≡ gives b (ds ++ es) → files.names_of os ≡ ns → r_directories ns (ds ++ es) ≡ gives d es →
    when (0x0200 ∷ []) (r_framed 5 [] r_dir) es ≡ gives x [] → render ((bs ++ (os ++ ds)) ++ es) ≡ x ++ (record_bytes 1 a ++ (record_bytes 2 b ++ d))
unfolding render framing
render_is bs os ds es a b d x ns f g e h k =
    let u : used (os ++ (ds ++ es)) (ds ++ es) ≡ os = take_at os (ds ++ es) (length (os ++ (ds ++ es)) - length (ds ++ es)) (omega (arith, length-append os (ds ++ es))) in
    rw (append_assoc, append_assoc, f, g, u, e, h, k) refl

-- what begins with other kinds begins with none of these
fresh : (first stop : List ℕ) {e : Bool} {bs : List Rec} → Begins first e bs → T (avoids first stop) → Fresh stop bs
fresh first stop {e} b a = rw append-nil at (begins_fresh first stop e [] b a (λ _. tt))

module _ (c : Card) (m : Meets c) where
  abbrev ns : List Name
  ns = card.names_of c.main

  abbrev ds : List Rec
  ds = (card.files 1 ns).book origin c.dirs

  abbrev es : List Rec
  es = (card.ef_dir).book origin c.dir

  -- what follows CIAInfo's records is no more of them, nor what follows EF.OD's, nor what follows the files'
  dir_begins : Begins (0x0200 ∷ []) true es
  dir_begins = dir_renders.begins origin c.dir m.dir

  after_files : Fresh files_look.stop es
  unfolding entries.object layouts.insides
  after_files = fresh (0x0200 ∷ []) files_look.stop dir_begins tt

  after_od : Fresh (filing.od).kinds.stop (ds ++ es)
  unfolding entries.object layouts.insides
  after_od = begins_fresh files_look.first (filing.od).kinds.stop true es ((files_renders 1 ns).begins origin c.dirs m.dirs) od_apart (λ _. fresh (0x0200 ∷ []) (filing.od).kinds.stop dir_begins tt)

  after_cia : Fresh (layouts.cia).kinds.stop ((card.od).book origin c.main ++ (ds ++ es))
  unfolding layouts.cia layouts.info
  after_cia =
      let e = files_anywhere 1 ns (origin on length (record_bytes 2 ((card.od).bytes c.main))) origin c.dirs in
      let b = rw e at ((tail_renders ns).begins origin (c.main, c.dirs) (m.main, m.dirs)) in
      rw (append_assoc ((card.od).book origin c.main) ds es) at (begins_fresh tail_look.first (layouts.cia).kinds.stop tail_look.empty es b cia_apart (λ _. fresh (0x0200 ∷ []) (layouts.cia).kinds.stop dir_begins tt))

-- rendering a card's book gives its dump
pub card_renders : (c : Card) → Meets c → render (book_of c) ≡ dump_of c
unfolding r_od
card_renders c m =
    render_is ((card.cia).book origin c.info) ((card.od).book origin c.main) (ds c m) (es c m) ((card.cia).bytes c.info) ((card.od).bytes c.main) ((card.files 1 (ns c m)).bytes c.dirs) ((card.ef_dir).bytes c.dir) (ns c m)
    ((cia_sound.lawful cia_fine).renders.renders origin c.info m.info ((card.od).book origin c.main ++ (ds c m ++ es c m)) (after_cia c m))
    ((od_sound.lawful od_fine).renders.renders origin c.main m.main (ds c m ++ es c m) (after_od c m)) (od_names origin c.main)
    ((files_renders 1 (ns c m)).renders origin c.dirs m.dirs (es c m) (after_files c m))
    (rw (append-nil ((card.ef_dir).book origin c.dir)) at (dir_renders.renders origin c.dir m.dir [] tt))

-- the files of EF.OD
abbrev files_of : (card.od).Of → Part
files_of o = card.files 1 (card.names_of o)

-- two cards are equal where EF.DIR, CIAInfo, EF.OD and the records of the files are
same_card : (d : (card.ef_dir).Of) (i : (card.cia).Of) (o p : (card.od).Of) → o ≡ p → (x : (files_of o).Of) (y : (files_of p).Of) → (files_of o).Meets x → (files_of p).Meets y → (files_of o).book origin x ≡ (files_of p).book origin y →
    ◌≡◌ {A = Card} (record { dir = d; info = i; main = o; dirs = x }) (record { dir = d; info = i; main = p; dirs = y })
same_card d i o p e x =
    subst (λ (v : (card.od).Of). (y : (files_of v).Of) → (files_of o).Meets x → (files_of v).Meets y → (files_of o).book origin x ≡ (files_of v).book origin y → ◌≡◌ {A = Card} (record { dir = d; info = i; main = o; dirs = x }) (record { dir = d; info = i; main = v; dirs = y })) e
    (λ y m n b. ap (λ (z : (files_of o).Of). record { dir = d; info = i; main = o; dirs = z }) ((files_renders 1 (card.names_of o)).tells origin origin x y m n b))

-- the records of the files are told from what follows them
same_files : (o p : (card.od).Of) → o ≡ p → (x : (files_of o).Of) (y : (files_of p).Of) → (files_of o).Meets x → (files_of p).Meets y → (v w : List Rec) → Fresh files_look.stop v → Fresh files_look.stop w → (files_of o).book origin x ++ v ≡ (files_of p).book origin y ++ w →
    ((files_of o).book origin x ≡ (files_of p).book origin y) × (v ≡ w)
same_files o p e x =
    subst (λ (u : (card.od).Of). (y : (files_of u).Of) → (files_of o).Meets x → (files_of u).Meets y → (v w : List Rec) → Fresh files_look.stop v → Fresh files_look.stop w → (files_of o).book origin x ++ v ≡ (files_of u).book origin y ++ w → ((files_of o).book origin x ≡ (files_of u).book origin y) × (v ≡ w)) e
    (λ y m n v w f g b. let t = told {P = files_of o} (files_renders 1 (card.names_of o)) origin origin x y m n v w f g b in (ap ((files_of o).book origin) t.0, t.1))

-- a book has one card
pub one_card : (c e : Card) → Meets c → Meets e → book_of c ≡ book_of e → c ≡ e
one_card c e m n z =
    let f : (x : Card) → book_of x ≡ (card.cia).book origin x.info ++ ((card.od).book origin x.main ++ ((files_of x.main).book origin x.dirs ++ (card.ef_dir).book origin x.dir)) = λ x. rw (append_assoc, append_assoc) refl in
    let a = told {P = framed origin 1 [] card.cia} cia_framed origin origin c.info e.info m.info n.info ((card.od).book origin c.main ++ (ds c m ++ es c m)) ((card.od).book origin e.main ++ (ds e n ++ es e n)) (after_cia c m) (after_cia e n) (sym (f c) ∙ z ∙ f e) in
    let b = told {P = framed origin 2 [] card.od} od_framed origin origin c.main e.main m.main n.main (ds c m ++ es c m) (ds e n ++ es e n) (after_od c m) (after_od e n) a.1 in
    let d = same_files c.main e.main b.0 c.dirs e.dirs m.dirs n.dirs (es c m) (es e n) (after_files c m) (after_files e n) b.1 in
    let x : c.dir ≡ e.dir = dir_renders.tells origin origin c.dir e.dir m.dir n.dir d.1 in
    same_card c.dir c.info c.main e.main b.0 c.dirs e.dirs m.dirs n.dirs d.0 ∙ ap (λ (i : (card.cia).Of). record { dir = c.dir; info = i; main = e.main; dirs = e.dirs }) a.0 ∙ ap (λ (i : (card.ef_dir).Of). record { dir = i; info = e.info; main = e.main; dirs = e.dirs }) x
