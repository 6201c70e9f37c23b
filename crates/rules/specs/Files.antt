-- "House records" and "Refusals and their places" of document 01, record files and EF.DIR of document 02: files, their frames, and the whole dump.
use Rattle.std.specs.Prelude.{ℕ, zero, suc, ◌+◌, ◌-◌, ◌*◌, List, [], ◌∷◌, ◌++◌, map, Bool, true, false, ◌||◌, ◌&&◌, length, get_or, drop, ltb, leb, eqb, Err, Ok}
use Rattle.std.proofs.Math.Seq.{slice}
use Rattle.elements.specs.declared.fault.Fault.{Fault}
use Rattle.elements.specs.declared.fault.Fault.TheVariants.{DumpSize, RecordBroken, RecordMissing, RecordKind, FileLength, PathLength, RecordOver, PathTwice, FileDiffers, FileMissing, FileExtra, AuthIdTwice}
use Rattle.elements.specs.Choice.{choose}
use Rattle.elements.specs.Header.{header}
use Rattle.rules.specs.declared.table.Need.TheVariants.{Required}
use Rattle.rules.specs.Reading.{Rec, rec, Res, took, fails, also, Reader, Body}
use Rattle.rules.specs.Parts.{component, counted, repeat, to_end}
use Rattle.rules.specs.Tables.{own_id_row}
pub use Rattle.rules.specs.Fills.{to_fill, before_fill, only_fill}
unfoldable pub use Rattle.rules.specs.Fills.{filled, fill}
unfoldable pub use Rattle.rules.specs.Entries.{named_path, entry_inside, entry_body}
use Rattle.rules.specs.Grammar.{Site, site_of}
use Rattle.rules.specs.FileLayouts as filing
use Rattle.rules.specs.Layout.{body_of}
use Rattle.rules.specs.Layouts as layouts
use Rattle.elements.specs.Answer.{Head}

-- a path entry of EF.OD: its tag, and the path that it names
pub record Name : Type 0 where
  pub tag : ℕ
  pub path : List ℕ

-- a file of the dump: its frame's place and kind, where its path starts, where the file starts and ends
pub record File : Type 0 where
  pub place : ℕ
  pub kind : ℕ
  pub named : ℕ
  pub start : ℕ
  pub stop : ℕ

pub data FrameRead : Type 0 where
  framed : File → FrameRead
  broken : Fault → ℕ → FrameRead

pub data Files : Type 0 where
  files : List File → Files
  broken_at : Fault → ℕ → Files

pub data Check : Type 0 where
  fine : Check
  wrong_at : Fault → ℕ → Check

pub data Answer : Type 0 where
  accepted : List Rec → Answer
  refused : Fault → ℕ → Answer

-- an entry that names a path stands in the book as 0110, tag, 00, path
abbrev pub names_path : ℕ → List ℕ → Bool
names_path k p = eqb k 0x0110 && (leb 2 (length p) && eqb (get_or p 1 0) 0)

-- the names in records
unfoldable pub names_of : List Rec → List Name
names_of [] = []
names_of (r ∷ rs) = choose (names_path r.kind r.pay) (λ _. record { tag = get_or r.pay 0 0; path = drop 2 r.pay } ∷ names_of rs) (λ _. names_of rs)

abbrev pub equal : List ℕ → List ℕ → Bool
equal [] [] = true
equal [] (y ∷ m) = false
equal (x ∷ l) [] = false
equal (x ∷ l) (y ∷ m) = eqb x y && equal l m

module _ (s : List ℕ) where
  abbrev pub cia_body : Body
  cia_body = body_of layouts.info s

  abbrev pub cia_element : Reader
  cia_element = before_fill s (component s 0x30 Required cia_body)

  abbrev pub cia_fill : Reader
  cia_fill = only_fill s 0x0108

  abbrev pub cia : Reader
  cia = (layouts.cia).read s 0

  -- EF.OD, "0 for EF.OD"
  unfoldable pub od : Reader
  od end at = (filing.od).read (site_of 0 at) s 0 end at

  -- after k objects: a transparent file, the nth, and a record of a record file
  unfoldable pub directory : ℕ → ℕ → ℕ → Reader
  directory n entry k end at = (filing.directory entry).read (site_of n at) s k end at

  unfoldable pub record_in : Site → ℕ → ℕ → Reader
  record_in site entry k = (filing.record_in entry).read site s k

  -- EF.DIR, which "takes no number"
  unfoldable pub dir : Reader
  dir = (filing.dir).read (site_of 0 0) s 0

  abbrev pub two : ℕ → ℕ
  two at = get_or s at 0 + 256 * get_or s (at + 1) 0

  -- "each a 2-byte length and its bytes": where the record at a place of a record file ends
  abbrev pub record_end : ℕ → ℕ
  record_end at = at + 2 + two at

  -- none runs over: one after the other, they end where the file ends
  unfoldable pub fits : ℕ → ℕ → ℕ → Bool
  fits zero stop at = eqb at stop
  fits (suc g) stop at = choose (ltb at stop) (λ _. fits g stop (record_end at)) (λ _. eqb at stop)

  -- "The book opens such a file with 0119": its records in turn, after k objects
  unfoldable pub linear : ℕ → ℕ → ℕ → Reader
  linear n entry k end at = also (rec 0x0119 [] ∷ []) [] (repeat to_end (λ j _ i. record_in (site_of n at) entry j (record_end i) (i + 2)) (end - at) k end at)

  -- the record at a place, of one of the kinds that are due, whole; `inner` takes its kind and what stands in it
  unfoldable pub frame_of : ℕ → ℕ → (ℕ → ℕ → ℕ → FrameRead) → ℕ → FrameRead
  frame_of low high inner at =
      choose (leb (length s) at) (λ _. broken RecordMissing at)
      (λ _. choose (ltb (length s) (at + 4)) (λ _. broken RecordBroken at)
      (λ _. choose (ltb (two at) 2) (λ _. broken RecordBroken at)
      (λ _. choose (ltb (length s) (at + 2 + two at)) (λ _. broken RecordBroken at)
      (λ _. choose (leb low (two (at + 2)) && leb (two (at + 2)) high) (λ _. inner (two (at + 2)) (at + 4) (at + 2 + two at))
      (λ _. broken RecordKind at)))))

  -- "A file is at most 16,383 bytes": from `start` to `stop`, behind n bytes of path length and path
  unfoldable pub file_in : ℕ → ℕ → ℕ → ℕ → ℕ → FrameRead
  file_in at kind n start stop =
      choose (ltb stop (start + n)) (λ _. broken PathLength at)
      (λ _. choose (ltb 16383 (stop - (start + n))) (λ _. broken FileLength at)
      (λ _. framed (record { place = at; kind = kind; named = start + 1; start = start + n; stop = stop })))

  unfoldable pub frame : ℕ → ℕ → FrameRead
  frame kind at = frame_of kind kind (λ k a e. file_in at k 0 a e) at

  -- "one byte of path length 1 to 64, path, directory file"
  unfoldable pub named_file : ℕ → ℕ → ℕ → ℕ → FrameRead
  named_file at kind a e =
      choose (leb e a) (λ _. broken PathLength at)
      (λ _. choose (ltb (get_or s a 0) 1) (λ _. broken PathLength at)
      (λ _. choose (ltb 64 (get_or s a 0)) (λ _. broken PathLength at)
      (λ _. file_in at kind (1 + get_or s a 0) a e)))

  -- "A new dump kind 0004" beside 0003
  unfoldable pub named_frame : ℕ → FrameRead
  named_frame at = frame_of 3 4 (named_file at) at

  -- "2 also covers a record length that runs over, at the dump record"
  abbrev pub whole : FrameRead → FrameRead
  whole (broken x p) = broken x p
  whole (framed f) =
      choose (eqb f.kind 3) (λ _. framed f)
      (λ _. choose (fits (f.stop - f.start) f.stop f.start) (λ _. framed f)
      (λ _. broken RecordOver f.place))

  abbrev pub cons_file : File → Files → Files
  cons_file f (files fs) = files (f ∷ fs)
  cons_file f (broken_at x p) = broken_at x p

  abbrev pub more_files : FrameRead → (ℕ → Files) → Files
  more_files (framed f) k = cons_file f (k f.stop)
  more_files (broken x p) k = broken_at x p

  -- "then records 0003" and 0004, to the dump's end
  unfoldable pub frames : ℕ → ℕ → Files
  frames zero at = choose (ltb at (length s)) (λ _. broken_at RecordBroken at) (λ _. files [])
  frames (suc g) at = choose (ltb at (length s)) (λ _. more_files (whole (named_frame at)) (λ n. frames g n)) (λ _. files [])

  abbrev pub path_of : File → List ℕ
  path_of f = slice f.named f.start s

  -- the place of the path entry after m others, from a place of EF.OD on
  abbrev pub is_path : Head → Bool
  is_path (Err r) = false
  is_path (Ok x) = eqb x.0 0x30

  abbrev pub is_naming : Head → Bool
  is_naming (Err r) = false
  is_naming (Ok x) = leb 0xa0 x.0 && leb x.0 0xa8 && is_path (header s x.1 x.2)

  abbrev pub end_of : ℕ → Head → ℕ
  end_of at (Err r) = at
  end_of at (Ok x) = x.2

  unfoldable pub entry_place : ℕ → ℕ → ℕ → ℕ → ℕ
  entry_place zero m end at = at
  entry_place (suc g) m end at =
      choose (ltb at end)
      (λ _. choose (is_naming (header s at end))
      (λ _. choose (eqb m 0) (λ _. at) (λ _. entry_place g (m - 1) end (end_of at (header s at end))))
      (λ _. entry_place g m end (end_of at (header s at end))))
      (λ _. at)

  -- "or the files do not follow it": "first file that differs, dump's end if one lacks, first extra"
  unfoldable pub follow : List Name → List File → Check
  follow [] [] = fine
  follow [] (f ∷ fs) = wrong_at FileExtra f.place
  follow (n ∷ ns) [] = wrong_at FileMissing (length s)
  follow (n ∷ ns) (f ∷ fs) = choose (equal n.path (path_of f)) (λ _. follow ns fs) (λ _. wrong_at FileDiffers f.place)

  -- the nth file after k objects, transparent or of records
  unfoldable pub file_of : ℕ → ℕ → ℕ → File → Res
  file_of n entry k f = choose (eqb f.kind 3) (λ _. directory n entry k f.stop f.start) (λ _. linear n entry k f.stop f.start)

  -- the files in turn, "1 upward in dump order", after k objects
  unfoldable pub directories : List Name → List File → ℕ → ℕ → Res
  directories [] fs n k = took [] [] 0
  directories (m ∷ ms) [] n k = took [] [] 0
  directories (m ∷ ms) (f ∷ fs) n k = counted (file_of n m.tag k f) (λ c _. directories ms fs (n + 1) (k + c))

-- one of these is equal to it
abbrev pub met : List ℕ → List (List ℕ) → Bool
met x [] = false
met x (y ∷ ys) = equal x y || met x ys

-- the paths that entries name, in order
abbrev pub paths : List Name → List (List ℕ)
paths ns = map (λ (n : Name). n.path) ns

-- "12 paths: EF.OD names a path twice": how many path entries come before the first that names a path once more; all, if none does
unfoldable pub first_again : List (List ℕ) → List (List ℕ) → ℕ
first_again before [] = 0
first_again before (p ∷ ps) = choose (met p before) (λ _. 0) (λ _. suc (first_again (p ∷ before) ps))

-- "13 twice: two authentication objects with equal own authId; place is the first object that repeats one": over the records, with the places of their objects
unfoldable pub repeated : List (List ℕ) → ℕ → List ℕ → List Rec → Check
repeated ids place ps [] = fine
repeated ids place ps (r ∷ rs) =
    choose (eqb r.kind 0x0120) (λ _. repeated ids (get_or ps 0 0) (drop 1 ps) rs)
    (λ _. choose (eqb r.kind own_id_row.kind)
    (λ _. choose (met r.pay ids) (λ _. wrong_at AuthIdTwice place) (λ _. repeated (r.pay ∷ ids) place ps rs))
    (λ _. repeated ids place ps rs))

-- what to do with what a stage answered
abbrev pub on_framed : FrameRead → (File → Answer) → Answer
on_framed (framed f) k = k f
on_framed (broken x p) k = refused x p

abbrev pub on_files : Files → (List File → Answer) → Answer
on_files (files fs) k = k fs
on_files (broken_at x p) k = refused x p

abbrev pub on_res : Res → (List Rec → List ℕ → Answer) → Answer
on_res (took bs ms n) k = k bs ms
on_res (fails f p) k = refused f p

-- "Its book records .. come after all others"
abbrev pub and_also : List Rec → Answer → Answer
and_also es (accepted rs) = accepted (rs ++ es)
and_also es (refused f p) = refused f p

abbrev pub on_check : Check → (Unit {0} → Answer) → Answer
on_check fine k = k tt
on_check (wrong_at x p) k = refused x p

module _ (s : List ℕ) where
  -- 12, the files in turn, 13: after CIAInfo's records bs and EF.OD's cs with its objects' places
  unfoldable pub read_files : File → List File → List Rec → List Rec → List ℕ → Answer
  read_files o fs bs cs ms =
      choose (ltb (first_again [] (paths (names_of cs))) (length (paths (names_of cs))))
      (λ _. refused PathTwice (entry_place s (length s) (first_again [] (paths (names_of cs))) o.stop o.start))
      (λ _. on_check (follow s (names_of cs) fs) (λ _.
      on_res (directories s (names_of cs) fs 1 (length ms)) (λ ds ns.
      on_check (repeated [] 0 (ms ++ ns) (cs ++ ds)) (λ _. accepted (bs ++ (cs ++ ds))))))

  unfoldable pub read_parts : File → File → List File → Answer
  read_parts c o fs = on_res (cia s c.stop c.start) (λ bs _. on_res (od s o.stop o.start) (λ cs ms. read_files o fs bs cs ms))

  -- all frames from CIAInfo's on, and then what they hold
  unfoldable pub read_from : ℕ → (Answer → Answer) → Answer
  read_from at k = on_framed (frame s 1 at) (λ c. on_framed (frame s 2 c.stop) (λ o. on_files (frames s (length s) o.stop) (λ fs. k (read_parts c o fs))))

  -- "It stands as a dump record 0005, allowed once, before 0001"
  abbrev pub has_dir : Bool
  has_dir = eqb (two s 2) 5

  -- "Order: 1; all frames; CIAInfo; EF.OD; 12; files in turn; 13"; "EF.DIR is read before CIAInfo"
  unfoldable pub read_dump : Answer
  read_dump =
      choose (leb (length s) 32768)
      (λ _. choose has_dir (λ _. on_framed (frame s 5 0) (λ d. read_from d.stop (λ x. on_res (dir s d.stop d.start) (λ es _. and_also es x)))) (λ _. read_from 0 (λ x. x)))
      (λ _. refused DumpSize 0)
