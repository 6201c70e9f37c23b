-- Laws of a BIT STRING's contents.
use Rattle.std.specs.Prelude.{◌≡◌, List, [], ◌∷◌, ℕ, suc, ◌+◌, ◌*◌, ◌^◌, ◌≤◌, ◌<◌, length, get_or, drop}
use Rattle.std.proofs.Math.Nat.{one-le-pow}
use Rattle.std.proofs.Common.{add-one, arith, drop-cons}
use Rattle.elements.specs.Bits.{reversed, weigh}

-- a byte's bits in the other order are a byte
pub reversed_small : (b : ℕ) → reversed b < 256
unfolding reversed
reversed_small b = omega arith

-- k bytes weigh less than 256 to the k
pub weigh_small : (k : ℕ) (l : List ℕ) → length l ≤ k → weigh l < 256 ^ k
unfolding weigh
weigh_small Prim.Native.Nat.zero (x ∷ l) h = elim h [ ]
weigh_small k [] h = one-le-pow k 256 (omega arith)
weigh_small (suc k) (x ∷ l) h = omega (arith, reversed_small x, weigh_small k l (omega arith))

-- what the bytes from i on weigh, by the first of them and the rest
pub weigh_from : (c : List ℕ) (i : ℕ) → i < length c → weigh (drop i c) ≡ reversed (get_or c i 0) + 256 * weigh (drop (i + 1) c)
unfolding weigh
weigh_from c i h = rw (add-one, drop-cons c i 0 h)
