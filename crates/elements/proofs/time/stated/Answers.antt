use Prim.Native.Nat.{ℕ, ◌+◌, ◌*◌}
use mathlib.Core.Path.{◌≡◌, sym, ◌∙◌}
use mathlib.Core.Bool.{Bool, true, false, not}
use mathlib.Core.List.{List}
use lib.ListN.{length, get_or}
use Rattle.elements.proofs.Auto.{tests}
use borrow.Author.Tests.{eq-eqb, not-true, not-false}
use Rattle.elements.specs.Time.{digits, two, dated, clocked, stated}
use Rattle.elements.proofs.time.stated.Goals as goal

module _ (c : List ℕ) (long : length c ≡ 15) (zone : get_or c 14 0 ≡ 90) (ds : Bool) (all : ds ≡ digits 14 c) where
  no_digits : not ds ≡ true → false ≡ stated c
  unfolding stated
  no_digits e = simp (eq-eqb _ _ long, eq-eqb _ _ zone, sym all ∙ not-true ds e)

  module _ (figures : not ds ≡ false) (a b m d : ℕ) (ea : a ≡ two c 0) (eb : b ≡ two c 2) (em : m ≡ two c 4) (ed : d ≡ two c 6) (dt : Bool) (day : dt ≡ dated (a * 100 + b) m d) where
    no_day : not dt ≡ true → false ≡ stated c
    unfolding stated
    no_day e = simp (eq-eqb _ _ long, eq-eqb _ _ zone, sym all ∙ not-false ds figures, sym ea, sym eb, sym em, sym ed, sym day ∙ not-true dt e)

    by_clock : not dt ≡ false → (h i s : ℕ) → h ≡ two c 8 → i ≡ two c 10 → s ≡ two c 12 → (r : Bool) → r ≡ clocked h i s → r ≡ stated c
    unfolding stated
    by_clock e h i s eh ei es r clock = simp (eq-eqb _ _ long, eq-eqb _ _ zone, sym all ∙ not-false ds figures, sym ea, sym eb, sym em, sym ed, sym day ∙ not-false dt e, sym eh, sym ei, sym es, clock)

pub returns-then-c-ne15 : goal.returns-then-c-ne15
unfolding stated
returns-then-c-ne15 c = search tests

pub returns-then-c-ne90 : goal.returns-then-c-ne90
unfolding stated
returns-then-c-ne90 c = search tests

pub returns-then-not-digits : goal.returns-then-not-digits
unfolding stated
returns-then-not-digits c = search no_digits

pub returns-then-not-dated : goal.returns-then-not-dated
unfolding stated
returns-then-not-dated c = search no_day

pub returns : goal.returns
unfolding stated
returns c = search by_clock
