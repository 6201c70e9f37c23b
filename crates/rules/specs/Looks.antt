-- What is known of a part by the kinds of its records.
use Rattle.std.specs.Prelude.{ℕ, ◌+◌, List, [], ◌∷◌, ◌++◌, Bool, true, false, ◌||◌, ◌&&◌}
use Rattle.rules.specs.declared.table.Need.{Need}
use Rattle.rules.specs.declared.table.Need.TheVariants.{Required, Optional, Default}
use Rattle.rules.specs.declared.table.Row.{Row}

-- the kinds that a part's records may begin with, whether it may have none, the kinds that may not follow it,
-- and how many bytes of book it may have beyond four for each of its own
pub record Look : Type 0 where
  pub first : List ℕ
  pub empty : Bool
  pub stop : List ℕ
  pub credit : ℕ

abbrev pub look : List ℕ → Bool → List ℕ → ℕ → Look
look f e t c = record { first = f; empty = e; stop = t; credit = c }

-- one part after another
abbrev pub only_if : Bool → List ℕ → List ℕ
only_if true l = l
only_if false l = []

abbrev pub seq_look : Look → Look → Look
seq_look L M = look (L.first ++ only_if L.empty M.first) (L.empty && M.empty) (M.stop ++ only_if M.empty L.stop) (L.credit + M.credit)

abbrev pub is_optional : Need → Bool
is_optional Required = false
is_optional Optional = true
is_optional (Default d) = true

-- what stands in an element, and an element that is offered by the kinds that it begins with
abbrev pub elem_look : Look → Look
elem_look L = look L.first L.empty L.stop 0

abbrev pub offer_look : Need → Look → Look
offer_look n L = look L.first (is_optional n) (L.first ++ L.stop) 0

abbrev pub rest_look : ℕ → Look
rest_look kind = look (kind ∷ []) true (kind ∷ []) 0

-- any number, and at least one
abbrev pub many_look : Look → Look
many_look L = look L.first true (L.first ++ L.stop) 0

abbrev pub least_look : Look → Look
least_look L = look L.first false (L.first ++ L.stop) 0

abbrev pub join_look : Look → Look → Look
join_look L M = look (L.first ++ M.first) (L.empty || M.empty) (L.stop ++ M.stop) (L.credit + M.credit)

abbrev pub row_look : Row → Look
row_look r = look (r.kind ∷ []) false [] 8

abbrev pub rows_look : List Row → Look
rows_look [] = look [] true [] 0
rows_look (r ∷ rs) = seq_look (offer_look r.need (row_look r)) (rows_look rs)

abbrev pub fill_look : ℕ → Look
fill_look kind = look (kind ∷ []) true (kind ∷ []) 3
