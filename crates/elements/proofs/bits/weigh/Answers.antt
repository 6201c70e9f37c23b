use mathlib.Core.Path.{◌≡◌}
use mathlib.Core.List.{List}
use Prim.Native.Nat.{ℕ, ◌+◌, ◌-◌, ◌*◌, ◌^◌, ◌≤◌, ◌<◌}
use native.Mathlib.Omega.{arith}
use lib.ListN.{length, get_or, drop, length-drop, drop_of_length-le}
use borrow.Author.Rules.{rules}
use Rattle.elements.specs.Bits.{reversed, weigh}
use Rattle.elements.specs.BitsLaws.{weigh_small, weigh_from}
use Rattle.elements.proofs.bits.weigh.Invariants.{Weighed}
use Rattle.elements.proofs.bits.weigh.Goals as goal

start : (c : List ℕ) → 0 < length c → length c ≤ 5 → Weighed c 0 (length c)
unfolding weigh
start c h k = record { low = h; high = omega arith; few = k; sum = rw (drop_of_length-le c {i = length c} (omega arith)) }

room : {c : List ℕ} {v i : ℕ} → Weighed c v i → 1 < i → v * 256 + 255 < 2 ^ 32
room {c} {v} {i} f h = omega (arith, f.sum, weigh_small 3 (drop i c) (omega (arith, length-drop i c)))

next : {c : List ℕ} {v i : ℕ} (r : ℕ) → Weighed c v i → 1 < i → r ≡ reversed (get_or c (i - 1) 0) → Weighed c (v * 256 + r) (i - 1)
next {c} {v} {i} r f h e =
    let j : i - 1 + 1 ≡ i = omega arith in
    record {
      low = omega arith;
      high = omega arith;
      few = f.few;
      sum = omega (arith, e, f.sum, rw j at (weigh_from c (i - 1) (omega arith)));
    }

end : {c : List ℕ} {v i : ℕ} → Weighed c v i → i ≤ 1 → v ≡ weigh (drop 1 c)
end {c} {v} {i} f h = let z : i ≡ 1 = omega arith in rw z at f.sum

pub loop-i-init : goal.loop-i-init
loop-i-init c = search (start, rules)

pub overflow_mul-v : goal.overflow_mul-v
overflow_mul-v c = omega (arith, room c.loop-i.invariant (omega arith))

pub overflow_add-v : goal.overflow_add-v
overflow_add-v c = omega (arith, room c.loop-i.invariant (omega arith))

pub loop-i-preserved : goal.loop-i-preserved
loop-i-preserved c = search (next, rules)

pub returns : goal.returns
returns c = search (end, rules)
