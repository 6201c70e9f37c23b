-- What the code does of a part's definition.
use Rattle.std.specs.Prelude.{ℕ, ◌+◌, ◌*◌, ◌/◌, ◌%◌, ◌≤◌, ◌<◌, ◌≡◌, List, [], Bool, false, length, eqb, Result, Ok, Err, Option, Some, None}
use Rattle.std.specs.Borrow.{MutBor}
use Rattle.elements.specs.declared.fault.Fault.{Fault}
use Rattle.elements.specs.declared.answer.Form.TheVariants.{Bits}
use Rattle.elements.specs.declared.answer.Header.{Header}
use Rattle.elements.specs.declared.answer.Refusal.{Refusal}
use Rattle.elements.specs.Values.{element}
use Rattle.elements.specs.Put.{Put}
use Rattle.objects.specs.declared.part.Cursor.{Cursor}
use Rattle.rules.specs.declared.table.Need.{Need}
use Rattle.rules.specs.Reading.{Rec, Res, took, fails, Body}
use Rattle.elements.specs.Choice.{choose}
use Rattle.elements.specs.declared.fault.Fault.TheVariants.{PathPair}
use Rattle.rules.specs.Objects.{same}
use Rattle.rules.specs.Tables.{pwd_flags_row}
use Rattle.rules.specs.Parts.{absent, component}
use Rattle.rules.specs.Book.{encode}
use Rattle.elements.specs.Answer.{Read, refused}

-- a part that was read: how far, or a refusal
abbrev pub Part : Type 0
Part = Result Cursor Refusal

-- parts that were counted: how far, and how many; or a refusal
abbrev pub Many : Type 0
Many = Result (Cursor × ℕ) Refusal

-- whether a component stands where it is due: its header; or a refusal
abbrev pub Due : Type 0
Due = Result (Option Header) Refusal

-- reading came to n in the dump, and to q in the book
abbrev pub came : ℕ → ℕ → Part
came n q = Ok (record { dump = n; book = q })

-- the same of c parts
abbrev pub came_with : ℕ → ℕ → ℕ → Many
came_with n q c = Ok (record { dump = n; book = q }, c)

-- the code's answer is the definition's: its records are laid out from o on in the lent book, which was a and is b; what was read lies from `at` to `end`
pub data Did (a b : List ℕ) (o at end : ℕ) : Res → Part → Type 0 where
  did : {bs : List Rec} {ms : List ℕ} {n q : ℕ} → Put a b o q (encode bs) → at ≤ n → n ≤ end → q ≤ 8 * n + 131072 → Did a b o at end (took bs ms n) (came n q)
  fell : {f : Fault} {p : ℕ} → length b ≡ length a → Did a b o at end (fails f p) (refused f p)

-- the same of parts that are counted
pub data DidMany (a b : List ℕ) (o at end : ℕ) : Res → Many → Type 0 where
  did_many : {bs : List Rec} {ms : List ℕ} {n q c : ℕ} → Put a b o q (encode bs) → c ≡ length ms → at ≤ n → n ≤ end → q ≤ 8 * n + 131072 → DidMany a b o at end (took bs ms n) (came_with n q c)
  fell_many : {f : Fault} {p : ℕ} → length b ≡ length a → DidMany a b o at end (fails f p) (refused f p)

-- what was read ends past `at`
pub record Forward (at : ℕ) (r : Part) : Type 0 where
  pub is : (p : Cursor) → r ≡ Ok p → at < p.dump

-- the same of a part that puts no record: whatever the lent book is, it stays
pub record Stays (o at end : ℕ) (w : Res) (r : Part) : Type 0 where
  pub is : (a : List ℕ) → Did a a o at end w r

-- the same of an element's contents, from x to e, wherever the element starts
pub record Inside (a b : List ℕ) (o x e : ℕ) (g : Body) (r : Part) : Type 0 where
  pub is : (at : ℕ) → Did a b o x e (g at x e) r

-- an element of s at `at`, its contents from a to e; its records go to o
abbrev pub InElement : List ℕ → ℕ → ℕ → ℕ → ℕ → Type 0
InElement s at a e o = (at + 2 ≤ a) × (a ≤ e) × (e ≤ length s) × (length s ≤ 32768) × (o ≤ 8 * at + 131072)

-- a place of s in a container that ends at `end`; its records go to o
abbrev pub InContainer : List ℕ → ℕ → ℕ → ℕ → Type 0
InContainer s end at o = (at ≤ end) × (end ≤ length s) × (length s ≤ 32768) × (o ≤ 8 * at + 131072)

-- the rule of a Path whose components end at i, j and k: index stands if the second moved, length if the third did
pub record Paired (at i j k n v : ℕ) (r : Part) : Type 0 where
  pub is : r ≡ choose (same (eqb i j) (eqb j k)) (λ _. came n v) (λ _. refused PathPair at)

-- the flag word at a has bits 6 and 7 both set
abbrev pub flags_set : Read → Bool
flags_set (Ok x) = eqb (x.0.1 / 64 % 4) 3
flags_set (Err r) = false

unfoldable pub both_flags : List ℕ → ℕ → ℕ → Bool
both_flags s a e = flags_set (element Bits pwd_flags_row.tag s a e)

-- what a component's body makes of what is due
abbrev pub by_due : Body → ℕ → Due → Res
by_due b at (Ok (Some x)) = b at x.1 x.2
by_due b at (Ok None) = took [] [] at
by_due b at (Err e) = fails e.0 e.1

-- a component that lacks: refused so, or absent
pub record Lacks (need : Need) (f : Fault) (p : ℕ) (r : Due) : Type 0 where
  pub is : (b : Body) (at : ℕ) → absent need at (fails f p) ≡ by_due b at r
  pub none : (x : Header) → r ≡ Ok (Some x) → ⊥

-- whether the component with this tag stands at `at`, whatever its body
pub record Dues (s : List ℕ) (tag : ℕ) (need : Need) (end at : ℕ) (r : Due) : Type 0 where
  pub is : (b : Body) → component s tag need b end at ≡ by_due b at r
  pub inside : (x : Header) → r ≡ Ok (Some x) → (x.0 ≡ tag) × (at + 2 ≤ x.1) × (x.1 ≤ x.2) × (x.2 ≤ end)

-- a body, by what its calls ask: it may be called for an element of s with this tag, due where reading came to
abbrev pub Callable : (Header → Cursor → MutBor (List ℕ) → Type 0) → List ℕ → List ℕ → ℕ → Cursor → Type 0
Callable pre s a tag at = (x : Header) (o : MutBor (List ℕ)) → x.0 ≡ tag → InElement s at.dump x.1 x.2 at.book → o.now ≡ a → pre x (record { dump = x.1; book = at.book }) o

-- a body, by what its calls may answer: it does of such an element what g says
abbrev pub Follows : (Header → Cursor → MutBor (List ℕ) → Part → MutBor (List ℕ) → Type 0) → ℕ → Cursor → Body → Type 0
Follows post tag at g = (x : Header) (o : MutBor (List ℕ)) (r : Part) (p : MutBor (List ℕ)) → x.0 ≡ tag → post x (record { dump = x.1; book = at.book }) o r p → Did o.now p.now at.book x.1 x.2 (g at.dump x.1 x.2) r
