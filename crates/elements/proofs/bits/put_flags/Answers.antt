use mathlib.Core.Path.{◌≡◌}
use mathlib.Core.List.{◌∷◌}
use Prim.Native.Nat.{ℕ, ◌+◌, ◌-◌, ◌*◌, ◌/◌}
use borrow.Author.Rules.{rules}
use Rattle.elements.specs.Bits.{width, flag_run, flag_bytes}
use Rattle.elements.specs.PutLaws.{put_then}
use Rattle.elements.proofs.bits.put_flags.Goals as goal

flags : (n w : ℕ) → n ≡ width w → ((n + 7) / 8 * 8 - n) ∷ flag_run ((n + 7) / 8) w ≡ flag_bytes w
unfolding flag_bytes
flags n w e = rw e

pub returns : goal.returns
returns c = search (put_then, flags, rules)
