-- 12, second half: what the code tells of files that do not follow EF.OD.
use Rattle.std.specs.Prelude.{ℕ, ◌≡◌, List, Ok, Err}
use Rattle.rules.specs.Reading.{Rec}
use Rattle.rules.specs.Files.{File, files, frames, names_of, Check, fine, wrong_at, follow}
use Rattle.files.specs.Scan.{Lies}
use Rattle.reader.specs.Frame.{Chain}

-- the files from `at` on are framed well
pub record Sound (s : List ℕ) (at : ℕ) : Type 0 where
  pub fs : List File
  pub turns : ℕ
  pub are : frames s turns at ≡ files fs

abbrev pub followed_as : Chain → Check
followed_as (Ok u) = fine
followed_as (Err r) = wrong_at r.0 r.1

pub record FollowTold (s : List ℕ) (at : ℕ) (b : List ℕ) (i end : ℕ) (r : Chain) : Type 0 where
  pub is : (rs : List Rec) (fs : List File) (g : ℕ) → Lies b i end rs → frames s g at ≡ files fs → follow s (names_of rs) fs ≡ followed_as r
