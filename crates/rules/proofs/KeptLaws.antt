-- The tags that a rest does not have, put one after the other.
use native.Mathlib.Numerals.{add-one}
use Prim.Native.Nat.{ℕ, zero, suc, ◌+◌, ◌<◌, ◌≤◌}
use mathlib.Core.Path.{◌≡◌, refl, ◌∙◌}
use mathlib.Core.List.{List, [], ◌∷◌, ◌++◌}
use native.Mathlib.Omega.{arith}
use lib.ListN.{length, get_or, take}
use Rattle.elements.specs.Put.{Put}
use Rattle.elements.specs.PutLaws.{put_none, put_put, put_then, put_length}
use Rattle.rules.specs.declared.table.Need.{Need}
use Rattle.rules.specs.declared.table.Need.TheVariants.{Required, Optional, Default}
use Rattle.rules.specs.declared.table.Row.{Row}
use Rattle.rules.specs.declared.table.Sequence.{Sequence}
use Rattle.rules.specs.declared.table.Sequence.TheVariants.{Info, Common, Rule, Key, CertificateAttributes, Authentication, PrivateKeyAttributes, PasswordAttributes, Path, Template, Discretionary, OdfPath, InfoPath}
use Rattle.rules.specs.Parts.{unless_required, kept_out}
use Rattle.rules.specs.Tables.{rows_of, no_row, beside, kept_of}

-- a table has at most eight rows
pub few : (q : Sequence) → length (rows_of q) ≤ 8
few Info = omega arith
few Common = omega arith
few Rule = omega arith
few Key = omega arith
few CertificateAttributes = omega arith
few Authentication = omega arith
few PrivateKeyAttributes = omega arith
few PasswordAttributes = omega arith
few Path = omega arith
few Template = omega arith
few Discretionary = omega arith
few OdfPath = omega arith
few InfoPath = omega arith

-- one component's tag, by its need
module _ {need : Need} (tag : ℕ) where
  pub unless_required_lem : (a : List ℕ) (o : ℕ) → need ≡ Required → Put a a o o (unless_required need tag [])
  unless_required_lem a o e = rw e (put_none a o)

  pub unless_optional : {a c : List ℕ} {o r : ℕ} → need ≡ Optional → Put a c o r (tag ∷ []) → Put a c o r (unless_required need tag [])
  unless_optional e f = rw e f

  pub unless_default : {d : ℕ} {a c : List ℕ} {o r : ℕ} → need ≡ Default d → Put a c o r (tag ∷ []) → Put a c o r (unless_required need tag [])
  unless_default e f = rw e f

-- those without a row
pub beside_none : (x : Sequence) → beside x ≡ [] → {q : Sequence} (a : List ℕ) → q ≡ x → Put a a 0 0 (beside q)
beside_none x z a e = rw (e, z) (put_none a 0)

pub beside_one : (x : Sequence) (t : ℕ) → beside x ≡ t ∷ [] → {q : Sequence} {a c : List ℕ} {r : ℕ} → q ≡ x → Put a c 0 r (t ∷ []) → Put a c 0 r (beside q)
beside_one x t z e f = rw (e, z) f

pub beside_four : {q : Sequence} {a b c d e : List ℕ} {i j k r : ℕ} → q ≡ Discretionary → Put a b 0 i (0x06 ∷ []) → Put b c i j (0x30 ∷ []) → Put c d j k (0xa0 ∷ []) → Put d e k r (0x31 ∷ []) → Put a e 0 r (beside q)
beside_four z f g h i = rw z (put_then f (put_then g (put_then h i refl) refl) refl)

-- the tags that are kept out are nine at most
few_kept : (q : Sequence) {a c : List ℕ} {r : ℕ} → Put a c 0 r (kept_of q) → r ≤ 9
few_kept Info f = omega (arith, f.at)
few_kept Common f = omega (arith, f.at)
few_kept Rule f = omega (arith, f.at)
few_kept Key f = omega (arith, f.at)
few_kept CertificateAttributes f = omega (arith, f.at)
few_kept Authentication f = omega (arith, f.at)
few_kept PrivateKeyAttributes f = omega (arith, f.at)
few_kept PasswordAttributes f = omega (arith, f.at)
few_kept Path f = omega (arith, f.at)
few_kept Template f = omega (arith, f.at)
few_kept Discretionary f = omega (arith, f.at)
few_kept OdfPath f = omega (arith, f.at)
few_kept InfoPath f = omega (arith, f.at)

-- both
pub kept_both : (q : Sequence) {a b c : List ℕ} {n r : ℕ} → Put a b 0 n (beside q) → Put b c n r (kept_out (rows_of q)) → r ≤ 9
kept_both q f g = few_kept q (put_put f g)

-- one row more
unless_length : (need : Need) (tag : ℕ) → length (unless_required need tag []) ≤ 1
unless_length Required tag = omega arith
unless_length Optional tag = omega arith
unless_length (Default d) tag = omega arith

unless_append : (need : Need) (tag : ℕ) (x t : List ℕ) → unless_required need tag (x ++ t) ≡ unless_required need tag x ++ t
unless_append Required tag x t = refl
unless_append Optional tag x t = refl
unless_append (Default d) tag x t = refl

kept_more : (rs : List Row) (k : ℕ) → k < length rs → kept_out (take (suc k) rs) ≡ kept_out (take k rs) ++ unless_required (get_or rs k no_row).need (get_or rs k no_row).tag []
kept_more [] k h = absurd (omega arith)
kept_more (r ∷ rs) zero h = refl
kept_more (r ∷ rs) (suc k) h = rw (kept_more rs k (omega arith)) (unless_append r.need r.tag (kept_out (take k rs)) (unless_required (get_or rs k no_row).need (get_or rs k no_row).tag []))

take_whole : {A : Type 0} (xs : List A) (k : ℕ) → length xs ≤ k → take k xs ≡ xs
take_whole [] zero h = refl
take_whole [] (suc k) h = refl
take_whole (x ∷ xs) zero h = absurd (omega arith)
take_whole (x ∷ xs) (suc k) h = rw (take_whole xs k (omega arith)) refl

-- the tags of the first k rows are put from o on, up to n
pub record Keeping (q : Sequence) (a c : List ℕ) (o last k n : ℕ) : Type 0 where
  pub put : Put a c o n (kept_out (take k (rows_of q)))
  pub all : last ≡ length (rows_of q)
  pub upto : k ≤ last
  pub low : o ≤ 4
  pub size : n ≤ o + k
  pub same : length c ≡ length a

pub keeping_start : (q : Sequence) (a : List ℕ) (o last : ℕ) → o ≤ 4 → last ≡ length (rows_of q) → Keeping q a a o last 0 o
keeping_start q a o last h e = record { put = put_none a o; all = e; upto = omega arith; low = h; size = omega arith; same = refl }

module _ {q : Sequence} {a c : List ℕ} {o last k n : ℕ} (h : Keeping q a c o last k n) where
  pub keeping_inside : k < last → k < length (rows_of q)
  keeping_inside l = omega (arith, h.all)

  pub keeping_low : n < 256
  keeping_low = omega (arith, h.size, h.low, h.upto, h.all, few q)

  pub keeping_next : {r : Row} {d : List ℕ} {m : ℕ} → k < last → r ≡ get_or (rows_of q) k no_row → Put c d n m (unless_required r.need r.tag []) → Keeping q a d o last (k + 1) m
  keeping_next {r} {d} {m} l e f =
      let t = unless_required r.need r.tag [] in
      let x : kept_out (take k (rows_of q)) ++ t ≡ kept_out (take (k + 1) (rows_of q)) = rw (add-one, kept_more (rows_of q) k (keeping_inside l), e) refl in
      record { put = put_then h.put f x; all = h.all; upto = omega arith; low = h.low; size = omega (arith, h.size, f.at, unless_length r.need r.tag); same = put_length f ∙ h.same }

  pub keeping_all : last ≤ k → Put a c o n (kept_out (rows_of q))
  keeping_all l = rw (take_whole (rows_of q) k (omega (arith, h.all))) at h.put
