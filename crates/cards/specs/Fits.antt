-- A file of a dump by its kind: transparent, or of records that fit.
use Prim.Native.Nat.{ℕ, ◌<◌}
use mathlib.Core.List.{List}
use Rattle.std.specs.Prelude.{◌≡◌}
use Rattle.rules.specs.Files.{record_end}

-- records of a file one after the other, up to its end
pub data Fit (s : List ℕ) (stop : ℕ) : ℕ → Type 0 where
  spent : {at : ℕ} → at ≡ stop → Fit s stop at
  onto : {at : ℕ} → at < stop → Fit s stop (record_end s at) → Fit s stop at

-- a file by its kind: transparent, or of records that fit
pub data Sorted (s : List ℕ) (kind stop start : ℕ) : Type 0 where
  transparent : kind ≡ 3 → Sorted s kind stop start
  of_records : (kind ≡ 3 → ⊥) → Fit s stop start → Sorted s kind stop start
