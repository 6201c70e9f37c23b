-- What a row's component comes to.
use Rattle.std.specs.Prelude.{ℕ, ◌<◌, ◌≡◌, refl, List, [], ◌∷◌, ltb, eqb, Err, Ok}
use Rattle.std.proofs.Common.{append-nil, arith}
use Rattle.std.proofs.Math.Seq.{slice}
use Rattle.elements.specs.declared.fault.Fault.{Fault}
use Rattle.elements.specs.declared.fault.Fault.TheVariants.{Missing, NotDue}
use Rattle.elements.specs.ChoiceLaws.{by_choose}
use Rattle.elements.specs.Header.{header}
use Rattle.elements.specs.HeaderLaws.{header_in}
use Rattle.elements.specs.Values.{value}
use Rattle.rules.specs.declared.table.Need.{Need}
use Rattle.rules.specs.declared.table.Need.TheVariants.{Required, Optional, Default}
use Rattle.rules.specs.declared.table.Row.{Row}
use Rattle.rules.specs.Reading.{rec, Res, took, fails, and_then}
use Rattle.rules.specs.Parts.{Val, good, wrong, component, row_body, components, absent, due, judged, valued}
use Rattle.elements.specs.Answer.{Head}

-- what a row's component answers: a refusal, nothing and the same place, or its record and a further place
pub data Seen (kind at : ℕ) : Res → Type 0 where
  bad : {f : Fault} {p : ℕ} → Seen kind at (fails f p)
  gone : Seen kind at (took [] [] at)
  stood : (p : List ℕ) {n : ℕ} → at < n → Seen kind at (took (rec kind p ∷ []) [] n)

seen_absent : (kind at : ℕ) (need : Need) (f : Fault) (p : ℕ) → Seen kind at (absent need at (fails f p))
seen_absent kind at Required f p = bad
seen_absent kind at Optional f p = gone
seen_absent kind at (Default d) f p = gone

seen_value : (r : Row) (at e : ℕ) → at < e → (v : Val) → Seen r.kind at (valued r at e v)
seen_value r at e h (wrong f) = bad
seen_value r at e h (good p) = stood p h

seen_due : (s : List ℕ) (r : Row) (at end : ℕ) (h : Head) → header s at end ≡ h → Seen r.kind at (due r.tag r.need (row_body s r) at h)
unfolding row_body
seen_due s r at end (Err r1) k = bad
seen_due s r at end (Ok x) k = by_choose (Seen r.kind at) (eqb x.0 r.tag)
    (λ _ _. let u = header_in s at end k in seen_value r at x.2 (omega (arith, u.0, u.1)) (judged r (slice x.1 x.2 s) (value r.form (slice x.1 x.2 s))))
    (λ _ _. seen_absent r.kind at r.need NotDue at)

pub seen : (s : List ℕ) (r : Row) (end at : ℕ) → Seen r.kind at (component s r.tag r.need (row_body s r) end at)
unfolding component
seen s r end at = by_choose (Seen r.kind at) (ltb at end) (λ _ _. seen_due s r at end (header s at end) refl) (λ _ _. seen_absent r.kind at r.need Missing end)

-- nothing behind
pub then_none : (w : Res) → and_then w (λ m. took [] [] m) ≡ w
then_none (took bs ms m) = rw (append-nil bs, append-nil ms) refl
then_none (fails f x) = refl

-- a table of one row is that row's component
pub seen_at : (s : List ℕ) (r : Row) (end at : ℕ) → Seen r.kind at (components s (r ∷ []) end at)
unfolding components
seen_at s r end at = rw (then_none (component s r.tag r.need (row_body s r) end at)) (seen s r end at)
