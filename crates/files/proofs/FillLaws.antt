-- Fill, and CIAInfo's file.
use Prim.Native.Nat.{ℕ, zero, suc, ◌+◌, ◌-◌, ◌*◌, ◌<◌, ◌≤◌}
use mathlib.Core.Path.{◌≡◌, refl, sym, ◌∙◌}
use mathlib.Core.Bool.{Bool, true, false, not}
use mathlib.Core.List.{List, ◌∷◌}
use native.Mathlib.Omega.{arith}
use lib.ListN.{get_or}
use lib.Dec.{eqb}
use borrow.Author.Tests.{lt-ltb, le-ltb, eq-eqb, ne_eqb}
use Rattle.elements.specs.declared.fault.Fault.TheVariants.{FillDiffers, Missing, OneMore}
use Rattle.elements.specs.Header.{header}
use Rattle.elements.specs.Put.{Put, le16}
use Rattle.elements.specs.Record.{record_bytes}
use Rattle.rules.specs.declared.table.Need.TheVariants.{Required}
use Rattle.rules.specs.Reading.{◌then◌}
use Rattle.rules.specs.Parts.{component, components, rest, kept_out}
use Rattle.rules.specs.Tables.{cia_rows}
use Rattle.rules.specs.Files.{to_fill, filled, fill, cia_body, cia_element, cia_fill, cia}
use Rattle.objects.specs.Did.{Did, fell, Inside, Part, came}
use Rattle.files.specs.Filing.{Filled}
use Rattle.objects.specs.DidLaws.{did_none, did_one, did_then, did_fails}
use Rattle.rules.specs.Layouts as layouts
use Rattle.elements.specs.Answer.{refused}
use Rattle.objects.specs.declared.part.Cursor.{Cursor}
use Rattle.elements.specs.declared.answer.Refusal.{Refusal}
use Rattle.elements.specs.declared.answer.Header.{Header}
use Rattle.std.specs.Prelude.{Ok, Err}

module _ (s : List ℕ) (end at : ℕ) where
  pub on_end : end ≤ at → false ≡ to_fill s end at
  on_end h = rw (le-ltb at end h) refl

  module _ (h : at < end) where
    pub on_zero : get_or s at 0 ≡ 0 → false ≡ to_fill s end at
    on_zero e = rw (lt-ltb at end h, eq-eqb (get_or s at 0) 0 e) refl

    pub on_other : (get_or s at 0 ≡ 0 → ⊥) → not (eqb (get_or s at 0) 255) ≡ to_fill s end at
    on_other e = rw (lt-ltb at end h, ne_eqb (get_or s at 0) 0 e) refl

-- up to i all bytes are b
pub record Same (s : List ℕ) (b end at i : ℕ) : Type 0 where
  pub low : at ≤ i
  pub high : i ≤ end
  pub rest : filled s b (end - at) end at ≡ filled s b (end - i) end i

pub same_none : (s : List ℕ) (b end at : ℕ) → at ≤ end → Same s b end at at
same_none s b end at h = record { low = omega arith; high = h; rest = refl }

module _ {s : List ℕ} {b end at i : ℕ} (h : Same s b end at i) where
  module _ (l : i < end) where
    turn : (g : ℕ) → g ≡ end - i → (k : ℕ) × (g ≡ suc k)
    turn zero e = absurd (omega arith)
    turn (suc k) e = (k, refl)

    pub same_differs : (get_or s i 0 ≡ b → ⊥) → Filled s b end at i
    unfolding filled
    same_differs n =
        let t = turn (end - i) refl in
        record { bad = λ _. h.rest ∙ rw (t.1, ne_eqb (get_or s i 0) b n) refl; all = λ m. absurd (omega arith) }

    pub same_next : get_or s i 0 ≡ b → Same s b end at (i + 1)
    unfolding filled
    same_next n =
        let t = turn (end - i) refl in
        let k : t.0 ≡ end - (i + 1) = omega (arith, t.1) in
        record { low = omega (arith, h.low); high = omega arith; rest = h.rest ∙ rw (t.1, eq-eqb (get_or s i 0) b n, k) refl }

  pub same_all : end ≤ i → Filled s b end at end
  unfolding filled
  same_all l =
      let z : i ≡ end = omega (arith, h.high) in
      let y : end - i ≡ 0 = omega arith in
      record { bad = λ m. absurd (omega arith); all = λ _. h.rest ∙ rw (y, z) refl }

module _ (s : List ℕ) (kind end at : ℕ) where
  pub fill_none : (a : List ℕ) (o : ℕ) → end ≤ at → at ≤ end → o ≤ 8 * at + 131072 → Did a a o at end (fill s kind end at) (came at o)
  unfolding fill
  fill_none a o h i l = rw (le-ltb at end h) (did_none a o at end i l)

  module _ {i : ℕ} (h : at < end) (w : Filled s (get_or s at 0) end at i) where
    pub fill_differs : (a : List ℕ) (o : ℕ) → i < end → Did a a o at end (fill s kind end at) (refused FillDiffers i)
    unfolding fill
    fill_differs a o l = rw (lt-ltb at end h, w.bad l) (fell refl)

    pub fill_put : {a b : List ℕ} {o q : ℕ} → end ≤ i → o ≤ 8 * at + 131072 → q ≡ o + 7 → Put a b o q (record_bytes kind (get_or s at 0 ∷ le16 (end - at))) → Did a b o at end (fill s kind end at) (came end q)
    unfolding fill
    fill_put l m n f = rw (lt-ltb at end h, w.all l) (did_one kind (get_or s at 0 ∷ le16 (end - at)) at end f (omega arith) (omega arith))

-- CIAInfo's file
pub info_inside : {a b : List ℕ} {o x e : ℕ} {r : Part} (s : List ℕ) → Did a b o x e ((components s cia_rows then rest s 0x0106 (kept_out cia_rows)) e x) r → Inside a b o x e (cia_body s) r
unfolding layouts.info
info_inside s d = record { is = λ at. d }

module _ (s : List ℕ) (end at : ℕ) {t : Bool} (k : t ≡ to_fill s end at) where
  pub info_none : (a : List ℕ) (o : ℕ) → t ≡ false → Did a a o at end (cia_element s end at) (refused Missing end)
  info_none a o e = rw (sym k ∙ e) (fell refl)

  pub info_one : {a b : List ℕ} {o : ℕ} {r : Part} → t ≡ true → Did a b o at end (component s 0x30 Required (cia_body s) end at) r → Did a b o at end (cia_element s end at) r
  info_one e d = rw (sym k ∙ e) d

  pub more_filled : {a b : List ℕ} {o : ℕ} {r : Part} → t ≡ false → Did a b o at end (fill s 0x0108 end at) r → Did a b o at end (cia_fill s end at) r
  more_filled e d = rw (sym k ∙ e) d

  module _ (e : t ≡ true) where
    pub more_bad : (a : List ℕ) (o : ℕ) {r : Refusal} → Err r ≡ header s at end → Did a a o at end (cia_fill s end at) (Err r)
    more_bad a o q = rw (sym k ∙ e, sym q) (fell refl)

    pub more_one : (a : List ℕ) (o : ℕ) {x : Header} → Ok x ≡ header s at end → Did a a o at end (cia_fill s end at) (refused OneMore at)
    more_one a o q = rw (sym k ∙ e, sym q) (fell refl)

module _ {a b : List ℕ} {o at end : ℕ} (s : List ℕ) where
  pub info_fails : {e : Refusal} → Did a b o at end (cia_element s end at) (Err e) → Did a b o at end (cia s end at) (Err e)
  unfolding layouts.cia
  info_fails d = did_fails d (λ n. cia_fill s end n)

  pub info_then : {p : Cursor} {c : List ℕ} {r : Part} → Did a b o at end (cia_element s end at) (Ok p) → Did b c p.book p.dump end (cia_fill s end p.dump) r → Did a c o at end (cia s end at) r
  unfolding layouts.cia
  info_then d g = did_then d (λ m. cia_fill s end m) g
