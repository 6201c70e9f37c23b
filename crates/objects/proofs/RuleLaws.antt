-- Rules up to the end: each must stand, and what is counted in them is nobody's count.
use Prim.Native.Nat.{ℕ, ◌+◌, ◌-◌, ◌*◌, ◌<◌, ◌≤◌}
use mathlib.Core.Path.{◌≡◌, refl, sym}
use mathlib.Core.List.{List}
use lib.ListN.{length}
use borrow.Author.Tests.{lt-ltb, le-ltb}
use Rattle.std.specs.Prelude.{Ok, Err}
use Rattle.elements.specs.declared.answer.Refusal.{Refusal}
use Rattle.objects.specs.declared.part.Cursor.{Cursor}
use Rattle.rules.specs.declared.table.Need.TheVariants.{Required}
use Rattle.rules.specs.Reading.{Res, took, fails}
use Rattle.rules.specs.Parts.{component, repeat, to_end}
use Rattle.rules.specs.Objects.{rule}
use Rattle.objects.specs.Did.{came, Did, Forward}
use Rattle.objects.specs.RepeatLaws.{Marks, Going, going_none, going_fails, going_next, going_all}

marks_of : (w : Res) → (x : ℕ) × Marks w x
marks_of (took bs ms n) = (length ms, record { is = λ cs ns m e. let z : ms ≡ ns = cc in rw (sym z) refl })
marks_of (fails f p) = (0, record { is = λ cs ns m e. absurd (cc) })

-- rules were read up to n; what is counted in them is nobody's count
pub record Ruling (s : List ℕ) (a b : List ℕ) (end at o n p : ℕ) : Type 0 where
  pub k : ℕ
  pub going : Going to_end (λ _. component s 0x30 Required (rule s)) a b end at o 0 k n p

pub ruling_none : (s : List ℕ) (a : List ℕ) (end at o : ℕ) → at ≤ end → o ≤ 8 * at + 131072 → Ruling s a a end at o at o
ruling_none s a end at o h l = record { k = 0; going = going_none to_end (λ _. component s 0x30 Required (rule s)) a end at o 0 h l }

module _ {s : List ℕ} {a b : List ℕ} {end at o n p : ℕ} (h : Ruling s a b end at o n p) where
  module _ (l : n < end) {c : List ℕ} where
    pub ruling_fell : {x : Refusal} → Did b c p n end (component s 0x30 Required (rule s) end n) (Err x) → Did a c o at end (repeat to_end (λ _. component s 0x30 Required (rule s)) (end - at) 0 end at) (Err x)
    ruling_fell d = going_fails h.going (lt-ltb n end l) l d

    pub ruling_next : {r : Cursor} → Did b c p n end (component s 0x30 Required (rule s) end n) (Ok r) → Forward n (Ok r) → Ruling s a c end at o r.dump r.book
    ruling_next d g =
        let m = marks_of (component s 0x30 Required (rule s) end n) in
        record { k = h.k + m.0; going = going_next h.going (lt-ltb n end l) l d g m.1 refl }

  pub ruling_all : end ≤ n → Did a b o at end (repeat to_end (λ _. component s 0x30 Required (rule s)) (end - at) 0 end at) (came n p)
  ruling_all l = going_all h.going (le-ltb n end l)
