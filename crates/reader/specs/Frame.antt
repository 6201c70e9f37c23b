-- What the code tells of a dump's frames.
use Rattle.std.specs.Prelude.{ℕ, ◌+◌, ◌≤◌, ◌≡◌, List, length, Result, Ok, Err}
use Rattle.elements.specs.declared.fault.Fault.{Fault}
use Rattle.elements.specs.declared.answer.Refusal.{Refusal}
use Rattle.reader.specs.declared.frame.Span.{Span}
use Rattle.reader.specs.declared.frame.Extent.{Extent}
use Rattle.rules.specs.Files.{FrameRead, framed, broken, files, broken_at, File, frame_of, frames}
use Rattle.elements.specs.Answer.{refused}

-- a record of the dump, or a refusal
abbrev pub Spanning : Type 0
Spanning = Result Span Refusal

abbrev pub span : ℕ → ℕ → ℕ → Spanning
span k a e = Ok (record { 0 = k; 1 = a; 2 = e })

-- a file of the dump, or a refusal
abbrev pub Framed : Type 0
Framed = Result Extent Refusal

abbrev pub framed_at : ℕ → ℕ → ℕ → ℕ → Framed
framed_at k n a e = Ok (record { kind = k; path = n; start = a; stop = e })

-- all is well, or a refusal
abbrev pub Chain : Type 0
Chain = Result Unit Refusal

abbrev pub fine_so : Chain
fine_so = Ok tt

-- what is made of a record's inside
abbrev pub by_span : (ℕ → ℕ → ℕ → FrameRead) → Spanning → FrameRead
by_span inner (Ok c) = inner c.0 c.1 c.2
by_span inner (Err r) = broken r.0 r.1

-- the record of one of these kinds at `at`, whatever is made of its inside
pub record Spanned (s : List ℕ) (low high at : ℕ) (r : Spanning) : Type 0 where
  pub is : (inner : ℕ → ℕ → ℕ → FrameRead) → frame_of s low high inner at ≡ by_span inner r
  pub inside : (k a e : ℕ) → r ≡ span k a e → (a ≡ at + 4) × (a ≤ e) × (e ≤ length s)

-- a file as the definitions have it: its record is at `at`
abbrev pub framed_as : ℕ → Framed → FrameRead
framed_as at (Ok c) = framed (record { place = at; kind = c.kind; named = c.path; start = c.start; stop = c.stop })
framed_as at (Err r) = broken r.0 r.1

-- a file lies inside the dump, behind its record's start
pub record Inner (s : List ℕ) (at : ℕ) (r : Framed) : Type 0 where
  pub is : (k n a e : ℕ) → r ≡ framed_at k n a e → (at + 4 ≤ a) × (n ≤ a + 1) × (a ≤ e) × (e ≤ length s)

-- its path lies in front of it, behind its length
pub record Path (s : List ℕ) (at : ℕ) (r : Framed) : Type 0 where
  pub is : (k n a e : ℕ) → r ≡ framed_at k n a e → (at + 5 ≤ n) × (n ≤ a) × (a ≤ e) × (e ≤ length s)

-- all files from `at` on, or the first that is broken
pub record FramesTold (s : List ℕ) (at : ℕ) (r : Chain) : Type 0 where
  pub sound : r ≡ fine_so → (fs : List File) × (frames s (length s) at ≡ files fs)
  pub unsound : (f : Fault) (p : ℕ) → r ≡ refused f p → frames s (length s) at ≡ broken_at f p
