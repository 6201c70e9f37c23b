-- What the faces of layouts are made of besides: which tags may come and follow, what a table of components looks like, where a check refuses, what stands in front of a file's records.
use Rattle.std.specs.Prelude.{ℕ, ◌+◌, List, [], ◌∷◌, ◌++◌, Bool, true, false, ◌&&◌, not, ◌≡◌, length, ltb, leb, eqb, T}
use Rattle.std.proofs.Math.Option.{Option, none, some}
use Rattle.rules.specs.declared.table.Row.{Row}
use Rattle.rules.specs.Reading.{Rec, also, Reader}
use Rattle.rules.specs.Looks.{Look, look}
use Rattle.rules.specs.Rendering.{Renderer, from}
use Rattle.rules.specs.Grammar.{Part}
use Rattle.rules.specs.GrammarLaws as exact
use Rattle.rules.specs.GrammarLaws.{Stop, tags, close, clear, slot_look, low_tag}
use Rattle.rules.specs.BoundLaws.{bounds_fit}

-- any tag, and nothing in front of a sealed element in its record
abbrev pub any_tag : ℕ → Bool
any_tag t = true

abbrev pub no_front : ℕ → List ℕ
no_front t = []

-- anything may follow
abbrev pub is_free : Stop → Bool
is_free (tags []) = true
is_free (tags (t ∷ l)) = false
is_free close = false

-- tags that no fill begins with
abbrev pub Solid : (ℕ → Bool) → Type 0
Solid f = (t : ℕ) → f t ≡ true → (t ≡ 0 → ⊥) × (t ≡ 0xff → ⊥)

-- at least one
abbrev pub least_tags : exact.Look → exact.Look
least_tags A = exact.seq_look A (exact.look A.first true close)

-- where a check refuses: at the sequence, or at its end
pub data Spot : Type 0 where
  itself : Spot
  ending : Spot

abbrev pub spot : Spot → ℕ → ℕ → ℕ
spot itself own end = own
spot ending own end = end

-- one of a tag, or else sealed
abbrev pub is_not : ℕ → ℕ → Bool
is_not t x = not (eqb x t)

abbrev pub plain_look : ℕ → Look
plain_look kind = look (kind ∷ []) false [] 0

-- a record in front of a file's own, or none
abbrev pub front_of : Option Rec → List Rec
front_of none = []
front_of (some r) = r ∷ []

abbrev pub ahead : Option Rec → Reader → Reader
ahead none p = p
ahead (some r) p = λ end at. also (r ∷ []) [] (p end at)

abbrev pub r_ahead : Option Rec → Renderer → Renderer
r_ahead none q = q
r_ahead (some r) q = from (λ k p. q)

abbrev pub part_ahead : Option Rec → Part → Part
part_ahead f P = record { Of = P.Of; bytes = P.bytes; book = λ v x. front_of f ++ P.book v x; Meets = P.Meets }

abbrev pub ahead_look : Option Rec → Look → Look
ahead_look none L = L
ahead_look (some r) L = look (r.kind ∷ []) false L.stop (4 + length r.pay + L.credit)

abbrev pub Short : Option Rec → Type 0
Short none = Unit {0}
Short (some r) = T (ltb r.kind 65536) × T (leb (length r.pay) 4)

-- tags of one byte, numbers that fit, and no component taken for another
abbrev pub row_tags : List Row → exact.Look
row_tags [] = exact.look (λ _. false) true (tags [])
row_tags (r ∷ rs) = exact.seq_look (slot_look r.need r.tag) (row_tags rs)

abbrev pub rows_clear : List Row → Bool
rows_clear [] = true
rows_clear (r ∷ rs) = (low_tag r.tag && bounds_fit r) && (clear (row_tags rs).first (slot_look r.need r.tag).stop && rows_clear rs)

-- a condition: of any tag
abbrev pub cond_look : exact.Look
cond_look = exact.look (λ _. true) false (tags [])
