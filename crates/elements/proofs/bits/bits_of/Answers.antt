use mathlib.Core.Path.{◌≡◌, sym, ◌∙◌}
use mathlib.Core.List.{List}
use mathlib.Core.Bool.{false}
use Prim.Native.Nat.{ℕ, ◌-◌, ◌*◌, ◌/◌, ◌%◌, ◌^◌, ◌<◌}
use native.Mathlib.Decide.{dec_le}
use native.Mathlib.Omega.{arith}
use lib.Dec.{leb, eqb}
use lib.ListN.{length, drop}
use borrow.Author.Tests.{le-leb, lt-leb}
use borrow.Author.Rules.{rules}
use Rattle.elements.specs.Bits.{weigh, bits_of}
use Rattle.elements.specs.Choice.{pick}
use Rattle.elements.specs.declared.fault.Fault.TheVariants.{BadBits, TrailingBits, ManyBits}
use Rattle.elements.proofs.Auto.{tests}
use Rattle.elements.proofs.bits.bits_of.Goals as goal
use Rattle.elements.specs.Answer.{Value, of}
use Rattle.std.specs.Prelude.{Err}

-- 32 bits are in four bytes after the first
few : (n u : ℕ) → u < 8 → 1 < n → leb ((n - 1) * 8 - u) 32 ≡ leb n 5
few n u h k = elim (dec_le n 5) [
  | yes s ↦ le-leb ((n - 1) * 8 - u) 32 (omega arith) ∙ sym (le-leb n 5 s)
  | no b ↦ lt-leb ((n - 1) * 8 - u) 32 (omega arith) ∙ sym (lt-leb n 5 (omega arith))
]

-- the same, by the tests of the code
by_code : {z : Value} (c : List ℕ) (u last w : ℕ) → w ≡ 2 ^ u → u < 8 → 1 < length c
    → z ≡ pick (eqb (last % w) 0)
    (pick (eqb (last / w % 2) 1) (pick (leb (length c) 5) (of false (weigh (drop 1 c))) (Err ManyBits)) (Err TrailingBits))
    (Err BadBits)
    → z ≡ bits_of c u last
unfolding bits_of
by_code c u last w e h k f = rw (← e, few (length c) u h k) f

pub returns-then-c-le5 : goal.returns-then-c-le5
returns-then-c-le5 c = search (by_code, tests, rules)

pub returns-then-last-w-eq1 : goal.returns-then-last-w-eq1
returns-then-last-w-eq1 c = search (by_code, tests, rules)

pub returns-then-last-w-eq0 : goal.returns-then-last-w-eq0
returns-then-last-w-eq0 c = search (by_code, tests, rules)

pub returns : goal.returns
returns c = search (by_code, tests, rules)
