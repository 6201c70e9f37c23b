-- The forms that every layout is made of: components by rows, what is sealed, repetition.
use Rattle.std.specs.Prelude.{ℕ, zero, suc, ◌+◌, List, [], ◌∷◌, ◌++◌, Bool, false, ◌&&◌, not, ℤ, pos, neg_ℤ, length, ltb, eqb, Err, Ok}
use Rattle.std.specs.Int.Signed.{le_z}
use Rattle.std.proofs.Math.Seq.{slice}
use Rattle.elements.specs.declared.fault.Fault.{Fault}
use Rattle.elements.specs.declared.fault.Fault.TheVariants.{DefaultWritten, OutOfRange, BadSize, NotDue, OneMore, Missing}
use Rattle.elements.specs.declared.answer.Form.{Form}
use Rattle.elements.specs.declared.answer.Form.TheVariants as form
use Rattle.elements.specs.Choice.{choose}
use Rattle.elements.specs.Header.{header}
use Rattle.elements.specs.Sealed.{constructed, sealed_run}
use Rattle.elements.specs.Values.{value}
use Rattle.elements.specs.Integer.{signed}
use Rattle.elements.specs.Put.{le32}
use Rattle.rules.specs.declared.table.Need.{Need}
use Rattle.rules.specs.declared.table.Need.TheVariants.{Required, Optional, Default}
use Rattle.rules.specs.declared.table.Row.{Row}
use Rattle.rules.specs.Reading.{Rec, rec, Res, took, fails, also, and_then, Reader, Body, twos}
use Rattle.elements.specs.Answer.{Head, Run, Value}

-- a row's bounds: "0 to 255", "minus 128 to 255"
pub record Bounds : Type 0 where
  pub low : ℤ
  pub high : ℤ

abbrev pub between : ℤ → ℤ → Bounds
between l h = record { low = l; high = h }

abbrev pub ◌to◌ : ℕ → ℕ → Bounds
l to h = between (pos l) (pos h)

abbrev pub minus◌to◌ : ℕ → ℕ → Bounds
minus l to h = between (neg_ℤ (pos l)) (pos h)

-- flags, BOOLEANs and times have none beside their form
abbrev pub unbounded : Bounds
unbounded = 0 to 0

abbrev pub row : ℕ → ℕ → Form → Need → Bounds → Row
row t k f n b = record { tag = t; kind = k; form = f; need = n; low = b.low; high = b.high }

-- a record's payload, or what is wrong
pub data Val : Type 0 where
  good : List ℕ → Val
  wrong : Fault → Val

-- "A component equal to its DEFAULT is not written."
abbrev pub is_default : Need → Bool → ℕ → Bool
is_default Required n m = false
is_default Optional n m = false
is_default (Default d) n m = not n && eqb m d

-- "every component should then state its own bounds": of a number of sign n and magnitude m
abbrev pub in_bounds : Row → Bool → ℕ → Bool
in_bounds r n m = le_z r.low (signed n m) && le_z (signed n m) r.high

-- "Identifiers are 0 to 255 bytes"; "The bound becomes 255 characters": a row's bounds are on what its form tells
abbrev pub sized : Row → List ℕ → Bool → ℕ → Val
sized r c n m = choose (in_bounds r n m) (λ _. good c) (λ _. wrong BadSize)

-- "Flags, integers and enumerations are numbers in the book; BOOLEANs one byte, 00 or 01": what contents c say, as a payload
unfoldable pub payload : Form → Row → List ℕ → Bool → ℕ → Val
payload form.Integer r c n m =
    choose (is_default r.need n m) (λ _. wrong DefaultWritten)
    (λ _. choose (in_bounds r n m) (λ _. good (le32 (twos (signed n m)))) (λ _. wrong OutOfRange))
payload form.Boolean r c n m = choose (is_default r.need n m) (λ _. wrong DefaultWritten) (λ _. good (m ∷ []))
payload form.Bits r c n m = good (le32 m)
payload form.Octets r c n m = sized r c n m
payload form.Text r c n m = sized r c n m
payload form.Time r c n m = good c
payload form.Null r c n m = good c

abbrev pub judged : Row → List ℕ → Value → Val
judged r c (Err f) = wrong f
judged r c (Ok x) = payload r.form r c x.0 x.1

-- what to say where a component is not there
abbrev pub absent : Need → ℕ → Res → Res
absent Required at r = r
absent Optional at r = took [] [] at
absent (Default d) at r = took [] [] at

-- an element with a tag that is due, and its body
abbrev pub due : ℕ → Need → Body → ℕ → Head → Res
due tag need b at (Err r) = fails r.0 r.1
due tag need b at (Ok x) = choose (eqb x.0 tag) (λ _. b at x.1 x.2) (λ _. absent need at (fails NotDue at))

abbrev pub surplus : ℕ → Head → Res
surplus at (Err r) = fails r.0 r.1
surplus at (Ok x) = fails OneMore at

abbrev pub whatever : (ℕ → Body) → ℕ → Head → Res
whatever b at (Err r) = fails r.0 r.1
whatever b at (Ok x) = b x.0 at x.1 x.2

-- the contents of an element, by a reader
abbrev pub inside : Reader → Body
inside p = λ at a e. p e a

abbrev pub valued : Row → ℕ → ℕ → Val → Res
valued r at e (wrong f) = fails f at
valued r at e (good p) = took (rec r.kind p ∷ []) [] e

module _ (s : List ℕ) where
  -- one component: an absent "?" or default has no record, a required one that lacks is 5 at the container's end
  unfoldable pub component : ℕ → Need → Body → Reader
  component tag need b end at = choose (ltb at end) (λ _. due tag need b at (header s at end)) (λ _. absent need at (fails Missing end))

  unfoldable pub row_body : Row → Body
  row_body r at a e = valued r at e (judged r (slice a e s) (value r.form (slice a e s)))

  -- the components of a table, in its order
  unfoldable pub components : List Row → Reader
  components [] end at = took [] [] at
  components (r ∷ rs) end at = and_then (component r.tag r.need (row_body r) end at) (λ n. components rs end n)

  -- nothing more is due
  unfoldable pub ended : Reader
  ended end at = choose (ltb at end) (λ _. surplus at (header s at end)) (λ _. took [] [] at)

  -- an element that must be there, whatever its tag
  unfoldable pub element : (ℕ → Body) → Reader
  element b end at = choose (ltb at end) (λ _. whatever b at (header s at end)) (λ _. fails Missing end)

-- one part after the other, while there is more; f is told how many were counted before it
abbrev pub counted : Res → (ℕ → ℕ → Res) → Res
counted (took bs ms n) k = also bs ms (k (length ms) n)
counted (fails x p) k = fails x p

unfoldable pub repeat : (ℕ → ℕ → Bool) → (ℕ → Reader) → ℕ → ℕ → Reader
repeat more f zero k end at = choose (more end at) (λ _. fails Missing end) (λ _. took [] [] at)
repeat more f (suc g) k end at = choose (more end at) (λ _. counted (f k end at) (λ c n. repeat more f g (k + c) end n)) (λ _. took [] [] at)

-- up to m of them: one more is f, at it
abbrev pub up_to : ℕ → Fault → (ℕ → Reader) → ℕ → Reader
up_to m f p k end at = choose (ltb k m) (λ _. p k end at) (λ _. fails f at)

-- up to the end of the container
abbrev pub to_end : ℕ → ℕ → Bool
to_end end at = ltb at end

-- what was checked and is kept as it is
abbrev pub keep : List Rec → ℕ → Run → Res
keep bs e (Ok i) = took bs [] e
keep bs e (Err r) = fails r.0 r.1

module _ (s : List ℕ) where
  -- "Rest means sealed elements after the listed components; the tag of an optional or defaulted component of that sequence may not occur there."
  unfoldable pub rest : ℕ → List ℕ → Reader
  rest kind tags end at = choose (ltb at end) (λ _. keep (rec kind (slice at end s) ∷ []) end (sealed_run 16 s tags at end)) (λ _. took [] [] at)

  -- the contents of a sealed element on the first level
  abbrev pub inner_run : ℕ → ℕ → ℕ → Run
  inner_run t a e = choose (constructed t) (λ _. sealed_run 15 s [] a e) (λ _. Ok e)

  -- a sealed element on the first level, whole, behind what stands in front of it in its record
  unfoldable pub sealed : ℕ → List ℕ → ℕ → Body
  sealed kind front t at a e = keep (rec kind (front ++ slice at e s) ∷ []) e (inner_run t a e)

-- the tag of a component, unless it is required
abbrev pub unless_required : Need → ℕ → List ℕ → List ℕ
unless_required Required t ts = ts
unless_required Optional t ts = t ∷ ts
unless_required (Default d) t ts = t ∷ ts

-- the tags that a rest does not have
abbrev pub kept_out : List Row → List ℕ
kept_out [] = []
kept_out (r ∷ rs) = unless_required r.need r.tag (kept_out rs)

infix 20 ◌to◌
infix 20 minus◌to◌
