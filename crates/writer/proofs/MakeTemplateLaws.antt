-- EF.DIR's templates and what stands beside them, made.
use Prim.Native.Nat.{ℕ, ◌+◌}
use mathlib.Core.Path.{◌≡◌}
use mathlib.Core.Bool.{Bool, true, false}
use mathlib.Core.List.{List}
use lib.Seq.{slice}
use Rattle.rules.specs.Render.{gives, ◌next◌, within, from, plain, r_fill, r_dir}
use Rattle.rules.specs.Book.{records_from, Ends, next_is}
use Rattle.makers.specs.Making.{Answer, Makes}
use Rattle.makers.specs.MadeLaws.{makes_behind, when_yes, either_no, from_some}
use Rattle.writer.specs.Composed.{r_discretionary, due_discretionary, inside_template, r_template, r_item, r_items}
use Rattle.rules.specs.Layouts as layouts

-- 73's contents behind their record
pub discretionary_here : {b a c : List ℕ} {i e o : ℕ} {t : Bool} {r : Answer} → t ≡ next_is 0x0205 (records_from b i) → t ≡ true → Ends b i e → Makes b a c e o (within 0x73 r_discretionary (records_from b e)) r → Makes b a c i o (due_discretionary (records_from b i)) r
discretionary_here {b} {i = i} e z h m = when_yes 0x0205 (within 0x73 (from (λ k p. r_discretionary))) b i e z (rw h.is (makes_behind h m))

-- a template
pub template_made : {b a c : List ℕ} {i e o : ℕ} {r : Answer} → Ends b i e → Makes b a c e o (within 0x61 inside_template (records_from b e)) r → Makes b a c i o (within 0x61 r_template (records_from b i)) r
unfolding layouts.template
template_made h m = rw h.is (makes_behind h m)

-- an element of EF.DIR that was sealed
pub item_sealed : {b a c : List ℕ} {i o n : ℕ} {t : Bool} {r : Answer} → t ≡ next_is 0x0201 (records_from b i) → t ≡ false → Ends b i n → Makes b a c n o (gives (slice (i + 4) n b) (records_from b n)) r → Makes b a c i o (r_item (records_from b i)) r
item_sealed {b} {i = i} e z h m = either_no 0x0201 (within 0x61 r_template) plain b i e z (from_some (λ k p rs. gives p rs) h m)

-- the file
pub dir_made : {b a c : List ℕ} {i e o : ℕ} {r : Answer} → Ends b i e → Makes b a c e o ((r_items next r_fill 0x0212) (records_from b e)) r → Makes b a c i o (r_dir (records_from b i)) r
unfolding r_dir layouts.template
dir_made h m = rw h.is (makes_behind h m)
