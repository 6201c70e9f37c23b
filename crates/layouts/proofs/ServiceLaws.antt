-- What a service hands over.
use Prim.Native.Nat.{ℕ, ◌≤◌}
use mathlib.Core.Path.{◌≡◌, refl, ◌∙◌}
use mathlib.Core.List.{List, []}
use native.Mathlib.Omega.{arith}
use lib.ListN.{length, take}
use Rattle.elements.specs.declared.fault.Fault.{Fault}
use Rattle.elements.specs.declared.fault.Fault.TheVariants.{NoDump}
use Rattle.elements.specs.PutLaws.{put_length, put_upto}
use Rattle.rules.specs.Files.{Answer, read_dump}
use Rattle.rules.specs.Write.{write_dump}
use Rattle.layouts.specs.Accept.{Tried, holds, none}
use Rattle.reader.specs.Stages.{Reads, reads, falls}
use Rattle.layouts.specs.Service.{served, giving, by_answer, reading, ReadTold, by_written, writing, WriteTold, Gives}
use Rattle.elements.specs.Answer.{Outcome, refused}
use Rattle.std.specs.Prelude.{Ok, Some, None, Option}

module _ (s : List ℕ) {z w : List ℕ} {x : Outcome} (d : Reads [] z w 0 (read_dump s) x) where
  pub read_refused : {a : List ℕ} {f : Fault} {p : ℕ} → x ≡ refused f p → ReadTold s a a (refused f p)
  unfolding reading
  read_refused {a} {f} {p} e = record { is = go (rw e at d) }
    where
      go : {g : Answer} → Reads [] z w 0 g (refused f p) → served (refused f p) a ≡ by_answer g a
      go (falls _) = refl

  module _ {n : ℕ} (e : x ≡ Ok n) where
    pub read_long : n ≤ length w
    read_long = go (rw e at d)
      where
        go : {g : Answer} → Reads [] z w 0 g (Ok n) → n ≤ length w
        go (reads rs f h) = omega (arith, put_length f)

    pub read_given : {a b : List ℕ} {r : Outcome} → Gives (take n w) a b r → ReadTold s a b r
    unfolding reading
    read_given {a} {b} {r} g = record { is = g.is ∙ go (rw e at d) }
      where
        go : {g : Answer} → Reads [] z w 0 g (Ok n) → giving (take n w) a ≡ by_answer g a
        go (reads rs f h) = rw (put_upto f h) refl

module _ {b d : List ℕ} {x : (Option ℕ)} (m : Tried b d x) where
  pub write_refused : {a : List ℕ} → x ≡ None → WriteTold b a a (refused NoDump 0)
  unfolding writing
  write_refused {a} e = record { is = go (rw e at m) }
    where
      go : Tried b d None → served (refused NoDump 0) a ≡ by_written (write_dump b) a
      go (none q) = rw q refl

  module _ {n : ℕ} (e : x ≡ Some n) where
    pub write_long : n ≤ length d
    write_long = go (rw e at m)
      where
        go : Tried b d (Some n) → n ≤ length d
        go (holds h _) = h

    pub write_given : {a c : List ℕ} {r : Outcome} → Gives (take n d) a c r → WriteTold b a c r
    unfolding writing
    write_given {a} {c} {r} g = record { is = g.is ∙ go (rw e at m) }
      where
        go : Tried b d (Some n) → giving (take n d) a ≡ by_written (write_dump b) a
        go (holds _ q) = rw q refl
