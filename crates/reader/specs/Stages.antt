-- What the code makes of a whole dump, stage by stage.
use Rattle.std.specs.Prelude.{ℕ, ◌+◌, ◌*◌, ◌≤◌, ◌≡◌, List, [], ◌++◌, length, take, Option, Result, Ok}
use Rattle.elements.specs.declared.fault.Fault.{Fault}
use Rattle.elements.specs.Lists.{Bytes}
use Rattle.elements.specs.Put.{Put}
use Rattle.objects.specs.Did.{Did, Part}
use Rattle.rules.specs.Reading.{Rec, Res}
use Rattle.rules.specs.Files.{File, files, frames, Answer, accepted, refused, on_res, od, names_of, paths, dir, and_also, read_files, read_parts, read_from, read_dump}
use Rattle.rules.specs.Book.{encode}
use Rattle.rules.specs.LookLaws.{Laid}
use Rattle.files.specs.Filing.{PathsTold}
use Rattle.files.specs.Scan.{Lies}
use Rattle.elements.specs.Answer.{Outcome}
use Rattle.elements.specs.Answer as code
use Rattle.elements.specs.declared.answer.Refusal.{Refusal}
use Rattle.reader.specs.declared.dump.Heads.{Heads}

-- the code's answer is the definition's: the records behind those that were laid out before, `old`, are laid out from o on in the lent book, which was a and is b
pub data Reads (old : List Rec) (a b : List ℕ) (o : ℕ) : Answer → Outcome → Type 0 where
  reads : (rs : List Rec) {n : ℕ} → Put a b o n (encode rs) → n ≤ length a → Reads old a b o (accepted (old ++ rs)) (Ok n)
  falls : {f : Fault} {p : ℕ} → length b ≡ length a → Reads old a b o (refused f p) (code.refused f p)

-- EF.OD lies from `start` to `stop`, its file behind a record's start; a book of the dump has room in a
pub record Framing (s : List ℕ) (start stop : ℕ) (a : List ℕ) : Type 0 where
  pub low : start ≤ stop
  pub high : stop ≤ length s
  pub small : length s ≤ 32768
  pub wide : 131072 ≤ length a
  pub fs : List File
  pub chain : frames s (length s) stop ≡ files fs

-- its records cs lie from i to `end` in a, its objects' places ms are the first k marks of u
pub record Opening (s : List ℕ) (stop : ℕ) (a : List ℕ) (i end : ℕ) (u : List ℕ) (k : ℕ) (cs : List Rec) (ms : List ℕ) : Type 0 where
  pub lies : Lies a i end cs
  pub laid : Laid (length s) cs
  pub room : end ≤ 4 * stop
  pub marks : take k u ≡ ms
  pub few : k ≤ 128
  pub many : 128 ≤ length u

-- EF.OD is read
pub record Opened (s : List ℕ) (stop : ℕ) (a : List ℕ) (i end : ℕ) (u : List ℕ) (k : ℕ) : Type 0 where
  pub start : ℕ
  pub frame : Framing s start stop a
  pub cs : List Rec
  pub ms : List ℕ
  pub is : Opening s stop a i end u k cs ms

-- 12, the files in turn, 13
pub record FilesRead (s : List ℕ) (stop : ℕ) (a b : List ℕ) (i end : ℕ) (u : List ℕ) (k : ℕ) (again : Option ℕ) (r : Outcome) : Type 0 where
  pub is : (o : File) (fs : List File) (bs cs : List Rec) (ms : List ℕ) → o.stop ≡ stop → frames s (length s) stop ≡ files fs → Opening s stop a i end u k cs ms → PathsTold s stop o.start (paths (names_of cs)) again →
      Reads (bs ++ cs) a b end (read_files s o fs bs cs ms) r

-- EF.OD, and these
pub record EntriesRead (s : List ℕ) (start stop : ℕ) (a b : List ℕ) (i : ℕ) (r : Outcome) : Type 0 where
  pub is : (o : File) (fs : List File) (bs : List Rec) → o.start ≡ start → o.stop ≡ stop → frames s (length s) stop ≡ files fs →
      Reads bs a b i (on_res (od s stop start) (λ cs ms. read_files s o fs bs cs ms)) r

-- CIAInfo, and these
pub record PartsRead (s : List ℕ) (from to start stop : ℕ) (a b : List ℕ) (r : Outcome) : Type 0 where
  pub is : (c o : File) (fs : List File) → c.start ≡ from → c.stop ≡ to → o.start ≡ start → o.stop ≡ stop → frames s (length s) stop ≡ files fs →
      Reads [] a b 0 (read_parts s c o fs) r

-- the files that every dump has, all framed well: what is read from there on is what they hold
pub record HeadsAre (s : List ℕ) (at from to start stop : ℕ) : Type 0 where
  pub info : File
  pub main : File
  pub fs : List File
  pub info_from : info.start ≡ from
  pub info_to : info.stop ≡ to
  pub main_from : main.start ≡ start
  pub main_to : main.stop ≡ stop
  pub chain : frames s (length s) stop ≡ files fs
  pub is : (k : Answer → Answer) → read_from s at k ≡ k (read_parts s info main fs)
  pub first : at + 4 ≤ from
  pub order : from ≤ to
  pub next : to + 4 ≤ start
  pub low : start ≤ stop
  pub high : stop ≤ length s

-- these, or a frame is broken
pub data HeadsTold (s : List ℕ) (at : ℕ) : Result Heads Refusal → Type 0 where
  unsound : {f : Fault} {p : ℕ} → ((k : Answer → Answer) → read_from s at k ≡ refused f p) → HeadsTold s at (code.refused f p)
  sound : {h : Heads} → HeadsAre s at h.info.start h.info.stop h.main.start h.main.stop → HeadsTold s at (Ok h)

-- what was read into some lent bytes
pub record Judged (at end : ℕ) (w : Res) (r : Part) : Type 0 where
  pub before : List ℕ
  pub after : List ℕ
  pub is : Did before after 0 at end w r

-- EF.DIR lies from a to e, the first file of the dump
pub record DirFirst (s : List ℕ) (a e : ℕ) : Type 0 where
  pub bytes : Bytes s
  pub is : read_dump s ≡ read_from s e (λ x. on_res (dir s e a) (λ es _. and_also es x))
  pub first : 4 ≤ a
  pub order : a ≤ e
  pub inside : e ≤ length s
  pub small : length s ≤ 32768
