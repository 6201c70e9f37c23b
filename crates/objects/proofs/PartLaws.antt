-- A part of which something else is counted, and a part behind a record.
use Prim.Native.Nat.{ℕ}
use mathlib.Core.Path.{sym, ◌∙◌, refl}
use mathlib.Core.List.{List, [], ◌∷◌}
use Rattle.elements.specs.Put.{Put}
use Rattle.elements.specs.PutLaws.{put_then, put_length}
use Rattle.elements.specs.Record.{record_bytes}
use Rattle.rules.specs.Reading.{rec, Res, also}
use Rattle.rules.specs.Objects.{counts, quiet}
use Rattle.objects.specs.Did.{Part, Did, did, fell}
use Rattle.objects.specs.DidLaws.{encode_append, encode_one}

pub did_counts : {a b : List ℕ} {o at end : ℕ} {w : Res} {r : Part} (p : ℕ) → Did a b o at end w r → Did a b o at end (counts p w) r
did_counts p (did f h i j) = did f h i j
did_counts p (fell e) = fell e

pub did_quiet : {a b : List ℕ} {o at end : ℕ} {w : Res} {r : Part} → Did a b o at end w r → Did a b o at end (quiet w) r
did_quiet (did f h i j) = did f h i j
did_quiet (fell e) = fell e

-- a record in front of what is read from the same place
pub before : {a b c : List ℕ} {o q x e : ℕ} {w : Res} {r : Part} (k : ℕ) (p : List ℕ) → Put a b o q (record_bytes k p) → Did b c q x e w r → Did a c o x e (also (rec k p ∷ []) [] w) r
before k p f (did {bs = bs} {n = n} g i j l) = did {n = n} (put_then f g (sym (encode_append (rec k p ∷ []) bs ∙ rw (encode_one k p) refl))) i j l
before k p f (fell e) = fell (e ∙ put_length f)
