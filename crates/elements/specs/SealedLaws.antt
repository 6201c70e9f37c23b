-- What a sealed run is.
use Prim.Native.Nat.{ℕ, zero, suc, ◌+◌, ◌-◌, ◌<◌, ◌≤◌}
use Rattle.std.specs.Prelude.{◌≡◌, refl, true, false, length, ltb, Err, Ok}
use Rattle.std.proofs.Common.{subst, ◌∙◌, arith, ltb-true, ltb-false, lt-ltb, le-ltb}
use mathlib.Core.List.{List, []}
use Rattle.elements.specs.declared.fault.Fault.{Fault}
use Rattle.elements.specs.declared.fault.Fault.TheVariants.{TooDeep, NotDue}
use Rattle.elements.specs.ChoiceLaws.{by_pick, by_choose}
use Rattle.elements.specs.Header.{header}
use Rattle.elements.specs.Lists.{Bytes}
use Rattle.elements.specs.Encodings.{Nested, over, plain, deep}
use Rattle.elements.specs.HeaderLaws.{header_in, header_refuses, header_sound, header_complete}
use Rattle.elements.specs.Loop.{Turn, done, loop}
use Rattle.elements.specs.LoopLaws.{Step, goes, stops, loop_right, same_done, same_next}
use Rattle.elements.specs.Sealed.{among, constructed, onward, sealed_one, sealed_turn, sealed_run}
use Rattle.elements.specs.Answer.{Head, Run, found, refused}

-- what an answer says; that it is nested DER needs bytes, and a container within them
data Sound (s : List ℕ) (l : ℕ) (out : List ℕ) (at end : ℕ) : Run → Type 0 where
  refuses : {f : Fault} (p : ℕ) → at ≤ p → p ≤ end → Sound s l out at end (refused f p)
  takes : (i : ℕ) → i ≡ end → (Bytes s → end ≤ length s → Nested s l out at end) → Sound s l out at end (Ok i)

-- a turn at i
abbrev StepOk : List ℕ → ℕ → List ℕ → ℕ → ℕ → Turn ℕ Run → Type 0
StepOk s l out end = Step (λ i. i ≤ end) (λ i. end - i) (λ i. Sound s l out i end)

module _ (s : List ℕ) where
  -- a run whose elements are judged by f
  run_ok : (l : ℕ) (out : List ℕ) (end : ℕ) (f : ℕ → Turn ℕ Run) → ((i : ℕ) → i < end → StepOk s l out end i (f i)) → (at : ℕ) → at ≤ end →
      Sound s l out at end (loop (sealed_turn f end) (Ok end) (suc (end - at)) at)
  run_ok l out end f step at h =
      loop_right (λ i. i ≤ end) (λ i. end - i) (λ i. Sound s l out i end) (sealed_turn f end) (Ok end)
      (λ i g. by_choose (StepOk s l out end i) (ltb i end) (λ _ t. step i (ltb-true i end t))
      (λ _ t. let e : i ≡ end = omega (arith, ltb-false i end t) in stops (Ok i) (takes i e (λ _ _. over e))))
      (suc (end - at)) at h (omega arith)

  module _ (l : ℕ) (out : List ℕ) (end i : ℕ) (before : i < end) where
    -- past an element that ends at e
    past : {e : ℕ} → i ≤ e → (Bytes s → end ≤ length s → Nested s (suc l) out e end → Nested s (suc l) out i end) → (v : Run) → Sound s (suc l) out e end v → Sound s (suc l) out i end v
    past h link _ (refuses p g k) = refuses p (omega arith) k
    past h link _ (takes j q n) = takes j q (λ c k. link c k (n c k))

    inner_ok : (b a e : ℕ) → header s i end ≡ found b a e → among b out ≡ false → constructed b ≡ true → (r : Run) → Sound s l [] a e r → StepOk s (suc l) out end i (onward e r)
    inner_ok b a e q m c _ (refuses {f = f} p h g) =
        let k : (i + 2 ≤ a) × (a ≤ e) × (e ≤ end) = header_in s i end q in
        stops (refused f p) (refuses p (omega arith) (omega arith))
    inner_ok b a e q m c _ (takes j h n) =
        let k : (i + 2 ≤ a) × (a ≤ e) × (e ≤ end) = header_in s i end q in
        goes e (omega arith) (omega arith) (past (omega arith) (λ w z. deep (header_sound s i end w z q) m c (n w (omega arith))))

    one_ok : ((a e : ℕ) → a ≤ e → Sound s l [] a e (sealed_run l s [] a e)) → (h : Head) → header s i end ≡ h →
        StepOk s (suc l) out end i (sealed_one (λ a e. sealed_run l s [] a e) out i h)
    one_ok ih (Err r) q = let k : (i ≤ r.1) × (r.1 ≤ end) = header_refuses s i end (omega arith) q in stops (refused r.0 r.1) (refuses r.1 k.0 k.1)
    one_ok ih (Ok x) q =
        let k : (i + 2 ≤ x.1) × (x.1 ≤ x.2) × (x.2 ≤ end) = header_in s i end q in
        by_pick (StepOk s (suc l) out end i) (among x.0 out) (λ _. stops (refused NotDue i) (refuses i (omega arith) (omega arith))) λ m.
        by_choose (StepOk s (suc l) out end i) (constructed x.0) (λ _ c. inner_ok x.0 x.1 x.2 q m c (sealed_run l s [] x.1 x.2) (ih x.1 x.2 k.1))
        (λ _ c. goes x.2 (omega arith) (omega arith) (past (omega arith) (λ w z. plain (header_sound s i end w z q) m c)))

  sealed_ok : (l : ℕ) (out : List ℕ) (at end : ℕ) → at ≤ end → Sound s l out at end (sealed_run l s out at end)
  unfolding sealed_run
  sealed_ok zero out at end h = run_ok zero out end (λ i. done (refused TooDeep i)) (λ i g. stops (refused TooDeep i) (refuses i (omega arith) (omega arith))) at h
  sealed_ok (suc l) out at end h =
      run_ok (suc l) out end (λ i. sealed_one (λ a e. sealed_run l s [] a e) out i (header s i end)) (λ i g. one_ok l out end i g (sealed_ok l []) (header s i end) refl) at h

module _ (l : ℕ) (s out : List ℕ) (at end : ℕ) where
  -- a sealed run that is accepted ends where its container ends
  pub sealed_ends : {i : ℕ} → at ≤ end → sealed_run l s out at end ≡ Ok i → i ≡ end
  sealed_ends {i} h q = go (subst (Sound s l out at end) q (sealed_ok s l out at end h))
    where
      go : Sound s l out at end (Ok i) → i ≡ end
      go (takes _ e _) = e

  -- a refusal's place lies in the run
  pub sealed_refuses : {f : Fault} {p : ℕ} → at ≤ end → sealed_run l s out at end ≡ refused f p → (at ≤ p) × (p ≤ end)
  sealed_refuses {f} {p} h q = go (subst (Sound s l out at end) q (sealed_ok s l out at end h))
    where
      go : Sound s l out at end (refused f p) → (at ≤ p) × (p ≤ end)
      go (refuses _ a b) = (a, b)

  -- a run that is accepted is nested
  pub sealed_sound : {i : ℕ} → Bytes s → at ≤ end → end ≤ length s → sealed_run l s out at end ≡ Ok i → Nested s l out at end
  sealed_sound {i} c h k q = go (subst (Sound s l out at end) q (sealed_ok s l out at end h))
    where
      go : Sound s l out at end (Ok i) → Nested s l out at end
      go (takes _ _ n) = n c k

-- the turn of `sealed_run`
abbrev turn : ℕ → List ℕ → List ℕ → ℕ → ℕ → Turn ℕ Run
turn zero s out end = sealed_turn (λ i. done (refused TooDeep i)) end
turn (suc l) s out end = sealed_turn (λ i. sealed_one (λ a e. sealed_run l s [] a e) out i (header s i end)) end

run_is : (l : ℕ) (s out : List ℕ) (at end : ℕ) → sealed_run l s out at end ≡ loop (turn l s out end) (Ok end) (suc (end - at)) at
unfolding sealed_run
run_is zero s out at end = refl
run_is (suc l) s out at end = refl

turn_over : (l : ℕ) (s out : List ℕ) (at end : ℕ) → at ≡ end → turn l s out end at ≡ done (Ok end)
turn_over zero s out at end e = rw (le-ltb at end (omega arith)) (cc)
turn_over (suc l) s out at end e = rw (le-ltb at end (omega arith)) (cc)

-- with any number of turns
runs : {s : List ℕ} {l : ℕ} {out : List ℕ} {at end : ℕ} → end ≤ length s → Nested s l out at end → (k : ℕ) → loop (turn l s out end) (Ok end) k at ≡ Ok end
runs {s} {l} {out} {at} {end} z (over e) = same_done (turn l s out end) (Ok end) at (turn_over l s out at end e)
runs {s} {out} {at} {end} z (plain {l = l} {b = b} {a = a} {e = e} d m c n) =
    let q : header s at end ≡ found b a e = header_complete s at end z d in
    same_next (turn (suc l) s out end) (Ok end) at (simp (lt-ltb at end (omega (arith, header_in s at end q)), q, m, c)) (runs z n)
runs {s} {out} {at} {end} z (deep {l = l} {b = b} {a = a} {e = e} d m c i n) =
    let q : header s at end ≡ found b a e = header_complete s at end z d in
    let r : sealed_run l s [] a e ≡ Ok e = run_is l s [] a e ∙ runs (omega (arith, d.inside)) i (suc (e - a)) in
    same_next (turn (suc l) s out end) (Ok end) at (simp (lt-ltb at end (omega (arith, header_in s at end q)), q, m, c, r)) (runs z n)

-- and a nested run is accepted
pub sealed_complete : {l : ℕ} {s out : List ℕ} {at end : ℕ} → end ≤ length s → Nested s l out at end → sealed_run l s out at end ≡ Ok end
sealed_complete {l} {s} {out} {at} {end} z n = run_is l s out at end ∙ runs z n (suc (end - at))
