-- What a refusal of reading tells; and that the faults of elements are such.
use Rattle.std.specs.Prelude.{ℕ, zero, suc, ◌+◌, ◌-◌, ◌≤◌, List, [], ◌∷◌, Bool, not, ◌≡◌, length, get_or, ltb, leb, T, Err, Ok}
use Rattle.std.proofs.Common.{subst}
use Rattle.elements.specs.declared.fault.Fault.{Fault}
use Rattle.elements.specs.declared.answer.Form.{Form}
use Rattle.elements.specs.Faults.{number_of}
use Rattle.elements.specs.Choice.{pick}
use Rattle.elements.specs.ChoiceLaws.{by_pick, by_choose}
use Rattle.elements.specs.Header.{fitted, long1, long2_of, long2, length_at, further, high_tag, header}
use Rattle.elements.specs.Loop.{Turn, next, done, loop}
use Rattle.elements.specs.Sealed.{among, constructed, onward, sealed_one, sealed_run}
use Rattle.elements.specs.Values.{value}
use Rattle.elements.specs.WrongLaws.{Faulty, own_fault, boolean_61, integer_62, bits_63, bits_64, bits_7, text_65, time_66, null_67}
use Rattle.elements.specs.Answer.{Head, Run, found, refused}

-- a fault of reading: its number is none of the services' own, 14, 15 and 16
abbrev pub of_reading : Fault → Bool
of_reading f = not (among (number_of f) (14 ∷ 15 ∷ 16 ∷ []))

-- a refusal with such a fault, and a place that lies in the dump
abbrev pub Told : List ℕ → Fault → ℕ → Type 0
Told s f p = (p ≤ length s) × T (of_reading f)

-- what a header comes to
data HeadTold : Head → Type 0 where
  head : {t a e : ℕ} → HeadTold (found t a e)
  no_head : {f : Fault} {p : ℕ} → T (of_reading f) → HeadTold (refused f p)

head_by : (t : Bool) {x y : Head} → HeadTold x → HeadTold y → HeadTold (pick t x y)
head_by t f g = by_pick HeadTold t (λ _. f) (λ _. g)

length_told : (s : List ℕ) (at end b p : ℕ) → HeadTold (length_at s at end b p)
unfolding length_at long2 long2_of long1 fitted
length_told s at end b p = search (head_by, head, no_head, tt) depth 12

further_told : (k : ℕ) (s : List ℕ) (at end b p : ℕ) → HeadTold (further k s at end b p)
unfolding further
further_told zero s at end b p = no_head tt
further_told (suc k) s at end b p = head_by (leb end p) (no_head tt) (by_choose HeadTold (ltb (get_or s p 0) 128) (λ _ _. length_told s at end b (p + 1)) (λ _ _. further_told k s at end b (p + 1)))

header_told : (s : List ℕ) (at end : ℕ) → HeadTold (header s at end)
unfolding header high_tag
header_told s at end = search (head_by, no_head, length_told, further_told, tt) depth 12

-- a header is refused with such a fault
pub header_fault : (s : List ℕ) (at end : ℕ) {f : Fault} {p : ℕ} → header s at end ≡ refused f p → T (of_reading f)
header_fault s at end {f} {p} e = go (subst HeadTold e (header_told s at end))
  where
    go : HeadTold (refused f p) → T (of_reading f)
    go (no_head t) = t

-- and so are contents
pub value_fault : (f : Form) (c : List ℕ) {x : Fault} → value f c ≡ Err x → T (of_reading x)
value_fault f c e = go (own_fault f c e)
  where
    go : {g : Form} {x : Fault} → Faulty g x → T (of_reading x)
    go boolean_61 = tt
    go integer_62 = tt
    go bits_63 = tt
    go bits_64 = tt
    go bits_7 = tt
    go text_65 = tt
    go time_66 = tt
    go null_67 = tt

-- what a sealed run comes to, turn by turn
data RunTold : Run → Type 0 where
  ends : {i : ℕ} → RunTold (Ok i)
  no_run : {f : Fault} {p : ℕ} → T (of_reading f) → RunTold (refused f p)

data TurnTold : Turn ℕ Run → Type 0 where
  goes : {i : ℕ} → TurnTold (next i)
  stops : {r : Run} → RunTold r → TurnTold (done r)

loop_told : (f : ℕ → Turn ℕ Run) (end : ℕ) → ((i : ℕ) → TurnTold (f i)) → (k i : ℕ) → RunTold (loop f (Ok end) k i)
unfolding loop
loop_told f end h zero i = ends
loop_told f end h (suc k) i = go (loop_told f end h k) (h i)
  where
    go : ((j : ℕ) → RunTold (loop f (Ok end) k j)) → {t : Turn ℕ Run} → TurnTold t → RunTold (elim t [ next j ↦ loop f (Ok end) k j | done r ↦ r ])
    go ih (goes {i = j}) = ih j
    go ih (stops g) = g

onward_told : (e : ℕ) {r : Run} → RunTold r → TurnTold (onward e r)
onward_told e ends = goes
onward_told e (no_run t) = stops (no_run t)

-- an element of it, from what is inside
one_told : (inner : ℕ → ℕ → Run) → ((a e : ℕ) → RunTold (inner a e)) → (out : List ℕ) (i : ℕ) {h : Head} → HeadTold h → TurnTold (sealed_one inner out i h)
one_told inner ih out i (no_head t) = stops (no_run t)
one_told inner ih out i (head {t = b} {a = a} {e = e}) = by_pick TurnTold (among b out) (λ _. stops (no_run tt)) (λ _. by_choose TurnTold (constructed b) (λ _ _. onward_told e (ih a e)) (λ _ _. goes))

run_told : (l : ℕ) (s out : List ℕ) (at end : ℕ) → RunTold (sealed_run l s out at end)
unfolding sealed_run
run_told zero s out at end = loop_told _ end (λ i. by_choose TurnTold (ltb i end) (λ _ _. stops (no_run tt)) (λ _ _. stops ends)) (suc (end - at)) at
run_told (suc l) s out at end = loop_told _ end (λ i. by_choose TurnTold (ltb i end) (λ _ _. one_told (λ a e. sealed_run l s [] a e) (run_told l s []) out i (header_told s i end)) (λ _ _. stops ends)) (suc (end - at)) at

-- and so is a sealed run
pub sealed_fault : (l : ℕ) (s out : List ℕ) (at end : ℕ) {f : Fault} {p : ℕ} → sealed_run l s out at end ≡ refused f p → T (of_reading f)
sealed_fault l s out at end {f} {p} e = go (subst RunTold e (run_told l s out at end))
  where
    go : RunTold (refused f p) → T (of_reading f)
    go (no_run t) = t
