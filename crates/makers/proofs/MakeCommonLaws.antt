-- Rules and common attributes as they are made: the ways through their code.
use Prim.Native.Nat.{ℕ, zero, suc, ◌<◌}
use mathlib.Core.Path.{◌≡◌}
use mathlib.Core.Bool.{true}
use mathlib.Core.List.{List, [], ◌∷◌}
use native.Mathlib.Omega.{arith}
use lib.ListN.{length}
use Rattle.rules.specs.declared.table.Sort.{Sort}
use Rattle.rules.specs.declared.table.Sort.TheVariants.{Always, Identifier, Not, And, Or, Other}
use Rattle.rules.specs.Reading.{Rec, count}
use Rattle.rules.specs.Tables.{rule_rows, kind_of, sort_by}
use Rattle.rules.specs.Render.{r_row, r_rows, r_keep, r_condition_as, r_condition, r_rule}
use Rattle.rules.specs.Book.{records_from}
use Rattle.makers.specs.Making.{Answer, Makes, Onward, next_among}
use Rattle.makers.specs.MadeLaws.{made_left}
use Rattle.makers.specs.ManyLaws.{Fewer, next_fewer, from_fewer, keep_fewer, times_fewer}
use Rattle.rules.specs.Layouts as layouts
use Rattle.rules.specs.Conditions as conditions

-- ---- a rule takes a record
as_fewer : (l : ℕ) → Fewer (r_condition l) → (x : Sort) (p : List ℕ) → Fewer (r_condition_as l x p)
unfolding r_condition_as
as_fewer l f Always p rs = omega arith
as_fewer l f Identifier p rs = omega arith
as_fewer l f Not p rs = f rs
as_fewer l f And p rs = times_fewer (count p) (λ rs. r_condition l rs) f rs
as_fewer l f Or p rs = times_fewer (count p) (λ rs. r_condition l rs) f rs
as_fewer l f Other p rs = omega arith

condition_fewer : (l : ℕ) → Fewer (r_condition l)
unfolding conditions.condition r_condition_as
condition_fewer zero rs = omega arith
condition_fewer (suc l) rs = from_fewer (λ k p. r_condition_as l (sort_by kind_of k) p) (λ k p. as_fewer l (condition_fewer l) (sort_by kind_of k) p) rs

first_taken : (rs : List Rec) → true ≡ next_among (0x0125 ∷ []) rs → length (r_rows rule_rows rs).left < length rs
unfolding r_rows r_row
first_taken [] e = absurd (let z : ◌≡◌ {A = ℕ} 0 1 = cc in omega arith)
first_taken (r ∷ rs) e = rw (← e) (omega arith)

rule_taken : (rs : List Rec) → true ≡ next_among (0x0125 ∷ []) rs → length (r_rule rs).left < length rs
unfolding layouts.rule
rule_taken rs e = omega (arith, first_taken rs e, next_fewer (r_condition 8) (r_keep 0x012c) (condition_fewer 8) (keep_fewer 0x012c) (r_rows rule_rows rs).left)

pub rule_onward : {b a c : List ℕ} {i o : ℕ} {r : Answer} → true ≡ next_among (0x0125 ∷ []) (records_from b i) → Makes b a c i o (r_rule (records_from b i)) r → Onward b i r
rule_onward {b} {i = i} e m = record { is = λ x z. rw (← made_left (rw z at m)) (rule_taken (records_from b i) e) }
