-- The forms that every renderer is made of: what comes next is known by the next record's kind.
use Rattle.std.specs.Prelude.{ℕ, zero, suc, List, [], ◌∷◌, ◌++◌, length, get_or, drop, replicate}
use Rattle.elements.specs.declared.answer.Form.{Form}
use Rattle.elements.specs.declared.answer.Form.TheVariants as form
use Rattle.elements.specs.Choice.{choose}
use Rattle.elements.specs.Boolean.{boolean_bytes}
use Rattle.elements.specs.Integer.{integer_bytes}
use Rattle.elements.specs.Bits.{flag_bytes}
use Rattle.elements.specs.Length.{wrap}
use Rattle.elements.specs.Put.{le16}
use Rattle.elements.specs.Sealed.{among}
use Rattle.rules.specs.declared.table.Row.{Row}
use Rattle.rules.specs.Reading.{Rec, count, number, untwos}

-- bytes, and the records that are left
pub record Rendered : Type 0 where
  pub bytes : List ℕ
  pub left : List Rec

abbrev pub gives : List ℕ → List Rec → Rendered
gives b l = record { bytes = b; left = l }

abbrev pub Renderer : Type 0
Renderer = List Rec → Rendered

abbrev pub nothing : Renderer
nothing rs = gives [] rs

abbrev pub ◌next◌ : Renderer → Renderer → Renderer
◌next◌ p q rs = let x = p rs in let y = q x.left in gives (x.bytes ++ y.bytes) y.left

abbrev pub within : ℕ → Renderer → Renderer
within t q rs = let x = q rs in gives (wrap t x.bytes) x.left

-- behind its length in two bytes
abbrev pub r_lengthed : Renderer → Renderer
r_lengthed q rs = let x = q rs in gives (le16 (length x.bytes) ++ x.bytes) x.left

-- if the next record is of one of the kinds
abbrev pub when : List ℕ → Renderer → Renderer
when ks q [] = gives [] []
when ks q (r ∷ rs) = choose (among r.kind ks) (λ _. q (r ∷ rs)) (λ _. gives [] (r ∷ rs))

-- one way if the next record is of one of the kinds, else the other
abbrev pub either : List ℕ → Renderer → Renderer → Renderer
either ks q p [] = p []
either ks q p (r ∷ rs) = choose (among r.kind ks) (λ _. q (r ∷ rs)) (λ _. p (r ∷ rs))

-- from the next record
abbrev pub from : (ℕ → List ℕ → Renderer) → Renderer
from f [] = gives [] []
from f (r ∷ rs) = f r.kind r.pay rs

abbrev pub plain : Renderer
plain = from (λ k p rs. gives p rs)

unfoldable pub unvalue : Form → List ℕ → List ℕ
unvalue form.Integer p = integer_bytes (untwos (number p))
unvalue form.Bits p = flag_bytes (number p)
unvalue form.Boolean p = boolean_bytes (get_or p 0 0)
unvalue form.Octets p = p
unvalue form.Text p = p
unvalue form.Time p = p
unvalue form.Null p = p

unfoldable pub r_row : Row → Renderer
r_row r = when (r.kind ∷ []) (within r.tag (from (λ k p rs. gives (unvalue r.form p) rs)))

unfoldable pub r_rows : List Row → Renderer
r_rows [] = nothing
r_rows (r ∷ rs) = r_row r next r_rows rs

unfoldable pub r_keep : ℕ → Renderer
r_keep kind = when (kind ∷ []) plain

-- while the next record is of one of the kinds
unfoldable pub r_many : List ℕ → Renderer → ℕ → Renderer
r_many ks q zero rs = gives [] rs
r_many ks q (suc g) rs = when ks (q next r_many ks q g) rs

unfoldable pub r_all : List ℕ → Renderer → Renderer
r_all ks q rs = r_many ks q (length rs) rs

unfoldable pub r_times : ℕ → Renderer → Renderer
r_times zero q = nothing
r_times (suc k) q = q next r_times k q

unfoldable pub r_fill : ℕ → Renderer
r_fill kind = when (kind ∷ []) (from (λ k p rs. gives (replicate (count (drop 1 p)) (get_or p 0 0)) rs))

infixl 20 ◌next◌
