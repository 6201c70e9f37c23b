use mathlib.Core.Path.{◌≡◌, refl, sym, ◌∙◌}
use mathlib.Core.List.{List, [], ◌∷◌, ◌++◌, append-nil}
use Prim.Native.Nat.{ℕ, suc, ◌+◌, ◌-◌, ◌/◌, ◌%◌, ◌≤◌, ◌<◌}
use native.Mathlib.Omega.{arith}
use lib.Seq.{append_snoc}
use borrow.Author.Rules.{rules}
use Rattle.elements.specs.Bits.{reversed, flag_run}
use Rattle.elements.specs.Put.{Put}
use Rattle.elements.specs.PutLaws.{put_none, put_put, put_length, put_as}
use Rattle.elements.proofs.bits.put_run.Invariants.{Run}
use Rattle.elements.proofs.bits.put_run.Goals as goal

start : (a : List ℕ) (o k w : ℕ) → k ≤ 4 → Run a a o o k w k w
start a o k w h = record { few = h; rest = omega arith; at = omega arith; done = []; put = put_none a o; all = refl }

next : {a b c : List ℕ} {o p q k w left v : ℕ} (r : ℕ) → Run a b o p k w left v → 0 < left → r ≡ reversed (v % 256) → Put b c p q (r ∷ []) → {n : ℕ} → n ≡ left - 1 → Run a c o q k w n (v / 256)
unfolding flag_run
next {left = Prim.Native.Nat.zero} r f h e g u = elim h [ ]
next {left = suc j} {v = v} r f h e g {n} u =
    let z : n ≡ j = omega arith in
    record {
      few = f.few;
      rest = omega arith;
      at = omega arith;
      done = f.done ++ (r ∷ []);
      put = put_put f.put g;
      all = rw (append_snoc, z, e) f.all;
    }

end : {a b : List ℕ} {o p k w left v : ℕ} → Run a b o p k w left v → left ≤ 0 → (p ≡ o + k) × Put a b o p (flag_run k w)
unfolding flag_run
end {left = left} f h = let z : left ≡ 0 = omega arith in (omega (arith, f.at), put_as f.put (sym (append-nil f.done) ∙ (rw z at f.all)))

pub loop-turn-init : goal.loop-turn-init
loop-turn-init c = search (start, rules)

pub loop-turn-preserved : goal.loop-turn-preserved
loop-turn-preserved c = search (next, rules)

pub shape_of-out : goal.shape_of-out
shape_of-out c = put_length c.loop-turn.invariant.put

pub returns : goal.returns
returns c = end c.loop-turn.invariant (omega arith)
