-- What the code does of the files in turn.
use Rattle.std.specs.Prelude.{ℕ, ◌≤◌, ◌≡◌, List, length, Result, Ok}
use Rattle.elements.specs.declared.fault.Fault.{Fault}
use Rattle.elements.specs.declared.answer.Refusal.{Refusal}
use Rattle.elements.specs.Put.{Put}
use Rattle.rules.specs.Reading.{Rec, Res, took, fails}
use Rattle.rules.specs.Files.{File, files, frames, names_of, directories}
use Rattle.rules.specs.Book.{encode}
use Rattle.files.specs.Scan.{Lies}
use Rattle.elements.specs.Answer.{refused}

-- where the book ends and how many objects there are, or a refusal
abbrev pub Filed : Type 0
Filed = Result (ℕ × ℕ) Refusal

-- records and places are put as with objects
pub data DidFiles (a b u v : List ℕ) (o k : ℕ) : Res → Filed → Type 0 where
  did_files : {ds : List Rec} {ns : List ℕ} {q j : ℕ} → Put a b o q (encode ds) → Put u v k j ns → j ≤ 128 → DidFiles a b u v o k (took ds ns 0) (Ok (q, j))
  fell_files : {f : Fault} {p : ℕ} → length b ≡ length a → length v ≡ length u → DidFiles a b u v o k (fails f p) (refused f p)

pub record FilesTold (s : List ℕ) (at : ℕ) (a b u v : List ℕ) (i end o k : ℕ) (r : Filed) : Type 0 where
  pub is : (rs : List Rec) (fs : List File) (g : ℕ) → Lies a i end rs → frames s g at ≡ files fs → DidFiles a b u v o k (directories s (names_of rs) fs 1 k) r
