use Prim.Native.Nat.{ℕ, ◌≤◌, ◌<◌}
use mathlib.Core.Path.{◌≡◌}
use mathlib.Core.List.{List, [], ◌∷◌}
use lib.Dec.{leb}
use types.Run.{OneOf}
use borrow.Author.Tests.{le-leb, lt-leb, ne_eqb}
use borrow.Author.Rules.{rules}
use native.Mathlib.Omega.{arith}
use Rattle.elements.specs.Choice.{pick}
use Rattle.elements.specs.Time.{days_of}
use Rattle.elements.proofs.KeyLaws.{alike, not_key}
use Rattle.elements.proofs.time.days_of.Goals as goal

-- the months that a match finds by their number
abbrev evens : List ℕ
evens = 4 ∷ 6 ∷ 9 ∷ 11 ∷ []

abbrev odds : List ℕ
odds = 1 ∷ 3 ∷ 5 ∷ 10 ∷ 12 ∷ []

-- the others: July and August, and what is no month
module _ (y m : ℕ) (from : 1 ≤ m) (february : m ≡ 2 → ⊥) (even : OneOf evens m → ⊥) (odd : OneOf odds m → ⊥) where
  rest : days_of y m ≡ pick (leb m 12) 31 0
  unfolding days_of
  rest = rw (ne_eqb m 2 february, ne_eqb m 4 (not_key evens 4 m tt even), ne_eqb m 6 (not_key evens 6 m tt even), ne_eqb m 9 (not_key evens 9 m tt even), ne_eqb m 11 (not_key evens 11 m tt even), le-leb 1 m from)

  before_ninth : m < 9 → 31 ≡ days_of y m
  before_ninth h = rw (rest, le-leb m 12 (omega arith))

  after : 9 ≤ m → 0 ≡ days_of y m
  after h = rw (rest, lt-leb m 12 (omega (arith, not_key evens 9 m tt even, not_key odds 10 m tt odd, not_key evens 11 m tt even, not_key odds 12 m tt odd)))

pub returns-in-2 : goal.returns-in-2
unfolding days_of
returns-in-2 c = rw c.in-2.is c.february.ensures

pub returns-in-4 : goal.returns-in-4
unfolding days_of
returns-in-4 c = alike (days_of c.args.y) 30 evens c.args.m (search rules) c.in-4.is

pub returns-in_default : goal.returns-in_default
unfolding days_of
returns-in_default c = let e : c.args.m ≡ 0 = omega arith in rw e

pub returns-in_default-2 : goal.returns-in_default-2
unfolding days_of
returns-in_default-2 c = search after

pub returns-in-1-to-12 : goal.returns-in-1-to-12
unfolding days_of
returns-in-1-to-12 c = alike (days_of c.args.y) 31 odds c.args.m (search rules) c.in-1-to-12.in-1-to-12-own.keys3

pub returns-in-1-to-12-2 : goal.returns-in-1-to-12-2
unfolding days_of
returns-in-1-to-12-2 c = search before_ninth
