-- The ways through a turn of `sealed`'s loop.
use Prim.Native.Nat.{ℕ, zero, suc, ◌-◌, ◌/◌, ◌%◌, ◌<◌, ◌≤◌}
use mathlib.Core.Path.{◌≡◌, refl, sym, ◌∙◌}
use mathlib.Core.List.{List, []}
use mathlib.Core.Bool.{Bool, true, false}
use native.Mathlib.Omega.{arith}
use native.Mathlib.Numerals.{sub-one}
use lib.Dec.{eqb, eqb-suc-zero}
use Rattle.elements.specs.declared.answer.Refusal.{Refusal}
use Rattle.elements.specs.declared.answer.Header.{Header}
use Rattle.elements.specs.declared.fault.Fault.TheVariants.{TooDeep, NotDue}
use Rattle.elements.specs.Choice.{pick}
use Rattle.elements.specs.Header.{header}
use Rattle.elements.specs.HeaderLaws.{header_in}
use Rattle.elements.specs.Loop.{Turn, done, loop}
use Rattle.elements.specs.Sealed.{among, sealed_one, sealed_turn, sealed_run}
use Rattle.elements.proofs.Auto.{tests}
use Rattle.elements.proofs.Loops.{Left, left_start, left_next, left_done}
use Rattle.elements.specs.Answer.{Run, refused}
use Rattle.std.specs.Prelude.{Ok, Err}

-- the turn of `sealed_run`, as the code tests it
unfoldable pub turn : ℕ → List ℕ → List ℕ → ℕ → ℕ → Turn ℕ Run
turn l s out end = sealed_turn (λ i. pick (eqb l 0) (done (refused TooDeep i)) (sealed_one (λ a e. sealed_run (l - 1) s [] a e) out i (header s i end))) end

-- what is left of a run from i on comes to v
pub record Going (l : ℕ) (s out : List ℕ) (end i : ℕ) (v : Run) : Type 0 where
  pub left : Left (turn l s out end) (Ok end) (end - i) i v

run_is : (l : ℕ) (s out : List ℕ) (at end : ℕ) → loop (turn l s out end) (Ok end) (suc (end - at)) at ≡ sealed_run l s out at end
unfolding sealed_run turn
run_is zero s out at end = refl
run_is (suc l) s out at end = simp (sub-one, eqb-suc-zero)

-- at the run's start
pub run_start : (l : ℕ) (s out : List ℕ) (at end : ℕ) → Going l s out end at (sealed_run l s out at end)
run_start l s out at end = record { left = rw (← run_is l s out at end) (left_start (turn l s out end) (Ok end) (end - at) at) }

-- at the run's end
pub run_end : {l : ℕ} {s out : List ℕ} {end i : ℕ} {v : Run} → Going l s out end i v → end ≤ i → Ok i ≡ v
unfolding turn
run_end r h = left_done r.left (search tests)

-- an element where no level is left
pub run_deep : {l : ℕ} {s out : List ℕ} {end i : ℕ} {v : Run} → Going l s out end i v → i < end → l ≡ 0 → refused TooDeep i ≡ v
unfolding turn
run_deep r h z = left_done r.left (search tests)

module _ {l : ℕ} {s out : List ℕ} {end i : ℕ} {v : Run} (w : Going l s out end i v) (h : i < end) (z : l ≡ 0 → ⊥) where
  -- no element stands here
  pub run_no : {e : Refusal} → Err e ≡ header s i end → Err e ≡ v
  unfolding turn
  run_no k = left_done w.left (search (tests, sym k))

  module _ {x : Header} (k : Ok x ≡ header s i end) {t : Bool} (m : t ≡ among x.0 out) where
    -- an element whose tag is kept out
    pub run_kept : t ≡ true → refused NotDue i ≡ v
    unfolding turn
    run_kept g = left_done w.left (search (tests, sym k, sym m ∙ g))

    -- an element whose contents are not looked into
    pub run_plain : t ≡ false → (x.0 / 32 % 2 ≡ 1 → ⊥) → Going l s out end x.2 v
    unfolding turn
    run_plain g c = record { left = left_next w.left (search (tests, sym k, sym m ∙ g)) (omega (arith, header_in s i end (sym k))) }

    -- an element whose contents are accepted
    pub run_inner : {j : ℕ} → t ≡ false → x.0 / 32 % 2 ≡ 1 → Ok j ≡ sealed_run (l - 1) s [] x.1 x.2 → Going l s out end x.2 v
    unfolding turn
    run_inner g c u = record { left = left_next w.left (search (tests, sym k, sym m ∙ g, sym u)) (omega (arith, header_in s i end (sym k))) }

    -- an element whose contents are refused
    pub run_inner_no : {e : Refusal} → t ≡ false → x.0 / 32 % 2 ≡ 1 → Err e ≡ sealed_run (l - 1) s [] x.1 x.2 → Err e ≡ v
    unfolding turn
    run_inner_no g c u = left_done w.left (search (tests, sym k, sym m ∙ g, sym u))

-- the end of an element is past its place
pub end_past : (s : List ℕ) (end i : ℕ) {x : Header} → i < end → Ok x ≡ header s i end → end - x.2 < end - i
end_past s end i h k = omega (arith, header_in s i end (sym k))

-- and within the bytes
pub end_in : (s : List ℕ) (end i n : ℕ) {x : Header} → end ≤ n → Ok x ≡ header s i end → x.2 ≤ n
end_in s end i n h k = omega (arith, header_in s i end (sym k))
