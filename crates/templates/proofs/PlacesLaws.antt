-- A template by the places where its parts end: that it has a path or a 73 is seen by whether they moved.
use Prim.Native.Nat.{ℕ, ◌≤◌, ◌<◌}
use mathlib.Core.Path.{◌≡◌, refl}
use mathlib.Core.Bool.{Bool, true, false, ◌&&◌}
use mathlib.Core.List.{List, [], ◌∷◌, ◌++◌, append-nil, append_assoc}
use native.Mathlib.Omega.{arith}
use lib.Seq.{slice}
use lib.Dec.{ltb, eqb}
use borrow.Author.Tests.{eq-eqb, ne_eqb, ltb-false}
use Rattle.elements.specs.declared.fault.Fault.{Fault}
use Rattle.elements.specs.declared.fault.Fault.TheVariants.{Missing}
use Rattle.elements.specs.declared.answer.Form.TheVariants.{Octets}
use Rattle.elements.specs.Choice.{choose, pick}
use Rattle.elements.specs.ChoiceLaws.{by_choose}
use Rattle.elements.specs.Header.{header}
use Rattle.elements.specs.HeaderLaws.{header_in}
use Rattle.elements.specs.Sealed.{sealed_run}
use Rattle.elements.specs.Values.{value}
use Rattle.rules.specs.declared.table.Need.TheVariants.{Required, Optional}
use Rattle.rules.specs.declared.table.Sequence.TheVariants.{Template, Discretionary}
use Rattle.rules.specs.Reading.{Rec, rec, Res, took, fails, also, and_then}
use Rattle.rules.specs.Parts.{Val, component, components, row_body, rest, keep, due, valued, in_bounds, payload, judged}
use Rattle.rules.specs.Tables.{template_id_row, template_label_row, template_path_row, rest_of, kept_of}
use Rattle.rules.specs.Rulings.{ours, headed_by, ours_in, unreached, reached}
use Rattle.rules.specs.Layouts as layouts
use Rattle.objects.specs.SeenLaws.{Seen, bad, gone, stood, seen}
use Rattle.templates.specs.Templates.{ours_at, with_set, discretionary, opened_body, settled, template}
use Rattle.elements.specs.Answer.{Head, Run, Value}
use Rattle.std.specs.Prelude.{Err, Ok}

-- a rest ends where its container ends, or was there already
rest_far : (s : List ℕ) (kind : ℕ) (tags : List ℕ) (e m : ℕ) {bs : List Rec} {ms : List ℕ} {n : ℕ} → rest s kind tags e m ≡ took bs ms n → e ≤ n
unfolding rest
rest_far s kind tags e m {bs} {ms} {n} = by_choose (λ w. w ≡ took bs ms n → e ≤ n) (ltb m e) (λ _ _. go (sealed_run 16 s tags m e)) (λ _ h q. let z : m ≡ n = cc in omega (arith, ltb-false m e h))
  where
    go : (v : Run) → keep (rec kind (slice m e s) ∷ []) e v ≡ took bs ms n → e ≤ n
    go (Ok i) q = let z : e ≡ n = cc in omega arith
    go (Err r) q = let z : ◌≡◌ {A = ℕ} 0 1 = cc in absurd (omega arith)

then_far : (s : List ℕ) (kind : ℕ) (tags : List ℕ) (e : ℕ) (w : Res) {bs : List Rec} {ms : List ℕ} {n : ℕ} → and_then w (λ m. rest s kind tags e m) ≡ took bs ms n → e ≤ n
then_far s kind tags e (took cs ns m) {bs} {ms} {n} = go (rest s kind tags e m) refl
  where
    go : (v : Res) → rest s kind tags e m ≡ v → also cs ns v ≡ took bs ms n → e ≤ n
    go (took ds ps k) u q = let z : k ≡ n = cc in let y = rest_far s kind tags e m u in omega arith
    go (fails f p) u q = let z : ◌≡◌ {A = ℕ} 0 1 = cc in absurd (omega arith)
then_far s kind tags e (fails f p) = λ q. let z : ◌≡◌ {A = ℕ} 0 1 = cc in absurd (omega arith)

-- what a 73 comes to
data Inner (at : ℕ) : Res → Type 0 where
  no_inner : {f : Fault} {p : ℕ} → Inner at (fails f p)
  lacks_inner : Inner at (took [] [] at)
  has_inner : (bs : List Rec) (ms : List ℕ) {n : ℕ} → at < n → Inner at (took (rec 0x0205 [] ∷ bs) ms n)

inner : (s : List ℕ) (end at : ℕ) → Inner at (component s 0x73 Optional (opened_body s) end at)
unfolding component
inner s end at = by_choose (Inner at) (ltb at end) (λ _ _. stands (header s at end) refl) (λ _ _. lacks_inner)
  where
    opens : (a e : ℕ) → at < e → (w : Res) → discretionary s e a ≡ w → Inner at (headed_by 0x0205 (λ _. []) w)
    opens a e h (took bs ms n) q = let y : e ≤ n = then_far s (rest_of Discretionary) (kept_of Discretionary) e (with_set s e a) q in has_inner bs ms {n = n} (omega arith)
    opens a e h (fails f p) q = no_inner

    stands : (h : Head) → header s at end ≡ h → Inner at (due 0x73 Optional (opened_body s) at h)
    stands (Err r) k = no_inner
    stands (Ok x) k = by_choose (Inner at) (eqb x.0 0x73) (λ _ _. let u = header_in s at end k in opens x.1 x.2 (omega (arith, u.0, u.1)) (discretionary s x.2 x.1) refl) (λ _ _. lacks_inner)

-- and a rest
data Last (kind : ℕ) : Res → Type 0 where
  no_rest : {f : Fault} {p : ℕ} → Last kind (fails f p)
  lacks_rest : {n : ℕ} → Last kind (took [] [] n)
  has_rest : (p : List ℕ) {n : ℕ} → Last kind (took (rec kind p ∷ []) [] n)

last : (s : List ℕ) (kind : ℕ) (tags : List ℕ) (end at : ℕ) → Last kind (rest s kind tags end at)
unfolding rest
last s kind tags end at = by_choose (Last kind) (ltb at end) (λ _ _. go (sealed_run 16 s tags at end)) (λ _ _. lacks_rest)
  where
    go : (v : Run) → Last kind (keep (rec kind (slice at end s) ∷ []) end v)
    go (Ok i) = has_rest (slice at end s)
    go (Err r) = no_rest

-- and the 4F: it tells whether the template is ours
data Named (mine : Bool) : Res → Type 0 where
  no_name : {f : Fault} {p : ℕ} → Named mine (fails f p)
  has_name : (p : List ℕ) {n : ℕ} → mine ≡ ours p → Named mine (took (rec 0x0202 p ∷ []) [] n)

named : (s : List ℕ) (end at : ℕ) → Named (ours_at s end at) (component s 0x4f Required (row_body s template_id_row) end at)
unfolding component row_body payload
named s end at = by_choose (Named (ours_at s end at)) (ltb at end) (λ _ _. go (header s at end) refl) (λ _ _. no_name)
  where
    told : (c : List ℕ) (e : ℕ) → ours_at s end at ≡ ours c → (v : Value) → Named (ours_at s end at) (valued template_id_row at e (judged template_id_row c v))
    told c e z (Err f) = no_name
    told c e z (Ok x) = by_choose (λ (v : Val). Named (ours_at s end at) (valued template_id_row at e v)) (in_bounds template_id_row x.0 x.1) (λ _ _. has_name c z) (λ _ _. no_name)

    go : (h : Head) → header s at end ≡ h → Named (ours_at s end at) (due 0x4f Required (row_body s template_id_row) at h)
    go (Err r) k = no_name
    go (Ok x) k = by_choose (Named (ours_at s end at)) (eqb x.0 0x4f) (λ _ _. told (slice x.1 x.2 s) x.2 (rw k refl) (value Octets (slice x.1 x.2 s))) (λ _ _. no_name)

-- the records of label, path, 73 and rest, and the places where these end
data Label : List Rec → Type 0 where
  no_label : Label []
  has_label : (p : List ℕ) → Label (rec 0x0203 p ∷ [])

data Pathed (i : ℕ) : ℕ → List Rec → Type 0 where
  no_path : Pathed i i []
  has_path : (p : List ℕ) {j : ℕ} → i < j → Pathed i j (rec 0x0204 p ∷ [])

data Filled (j : ℕ) : ℕ → List Rec → Type 0 where
  no_ddo : Filled j j []
  has_ddo : (bs : List Rec) {k : ℕ} → j < k → Filled j k (rec 0x0205 [] ∷ bs)

data Others : List Rec → Type 0 where
  no_others : Others []
  has_others : (p : List ℕ) → Others (rec 0x0210 p ∷ [])

-- they tell that neither path nor 73 is there, as the places do
tells : {ls ps ds es : List Rec} {i j k : ℕ} → Label ls → Pathed i j ps → Filled j k ds → Others es → unreached (((ls ++ (ps ++ [])) ++ ds) ++ es) ≡ (eqb i j && eqb j k)
tells {i = i} {j = j} no_label (has_path p h) d e = rw (ne_eqb i j (λ z. omega arith)) refl
tells {i = i} {k = k} no_label no_path (has_ddo bs h) e = rw (eq-eqb i i refl, ne_eqb i k (λ z. omega arith)) refl
tells {i = i} no_label no_path no_ddo no_others = rw (eq-eqb i i refl) refl
tells {i = i} no_label no_path no_ddo (has_others p) = rw (eq-eqb i i refl) refl
tells {i = i} {j = j} (has_label l) (has_path p h) d e = rw (ne_eqb i j (λ z. omega arith)) refl
tells {i = i} {k = k} (has_label l) no_path (has_ddo bs h) e = rw (eq-eqb i i refl, ne_eqb i k (λ z. omega arith)) refl
tells {i = i} (has_label l) no_path no_ddo no_others = rw (eq-eqb i i refl) refl
tells {i = i} (has_label l) no_path no_ddo (has_others p) = rw (eq-eqb i i refl) refl

-- one list of them
in_turn : (ls ps ds es : List Rec) → ((ls ++ (ps ++ [])) ++ ds) ++ es ≡ (ls ++ []) ++ ((ps ++ []) ++ (ds ++ (es ++ [])))
in_turn ls ps ds es = rw (append-nil ls, append-nil ps, append-nil es, append_assoc ls ps ds, append_assoc ls (ps ++ ds) es, append_assoc ps ds es) refl

module _ (mine : Bool) (end : ℕ) (r : Res) (f1 f2 f3 f4 : ℕ → Res) where
  -- in the order of the layout, and in the order of the code
  abbrev laid_out : Res
  laid_out = headed_by 0x0201 ours_in (reached end (and_then (and_then (and_then r (λ n. and_then (f1 n) (λ m. and_then (f2 m) (λ l. took [] [] l)))) f3) f4))

  abbrev in_code : Res
  in_code = headed_by 0x0201 (λ _. pick mine 1 0 ∷ []) (and_then (and_then r (λ n. and_then (f1 n) (λ m. took [] [] m))) (λ i. and_then (and_then (f2 i) (λ m. took [] [] m)) (λ j. and_then (f3 j) (λ k. and_then (f4 k) (λ n. settled mine i j k end n)))))

  same_order : Named mine r → ((n : ℕ) → Seen 0x0203 n (f1 n)) → ((n : ℕ) → Seen 0x0204 n (f2 n)) → ((n : ℕ) → Inner n (f3 n)) → ((n : ℕ) → Last 0x0210 (f4 n)) → laid_out ≡ in_code
  same_order c0 c1 c2 c3 c4 = go0 r refl c0
    where
      ends : (aid : List ℕ) (n0 : ℕ) → r ≡ took (rec 0x0202 aid ∷ []) [] n0 → mine ≡ ours aid → {ls ps ds es : List Rec} {ms : List ℕ} {i j k n : ℕ} → f1 n0 ≡ took ls [] i → f2 i ≡ took ps [] j → f3 j ≡ took ds ms k → f4 k ≡ took es [] n →
          Label ls → Pathed i j ps → Filled j k ds → Others es → laid_out ≡ in_code
      ends aid n0 e0 z {ls} {ps} {ds} {es} {ms} {i} {j} {k} {n} e1 e2 e3 e4 l p d o =
          rw (e0, e1, e2, e3, e4, tells l p d o, z) (go (ours aid && (eqb i j && eqb j k)))
        where
          go : (t : Bool) → headed_by 0x0201 ours_in (choose t (λ _. fails Missing end) (λ _. took (rec 0x0202 aid ∷ (((ls ++ (ps ++ [])) ++ ds) ++ es)) (ms ++ []) n)) ≡
              headed_by 0x0201 (λ _. pick (ours aid) 1 0 ∷ []) (also (rec 0x0202 aid ∷ (ls ++ [])) [] (also (ps ++ []) [] (also ds ms (also es [] (choose t (λ _. fails Missing end) (λ _. took [] [] n))))))
          go true = refl
          go false = rw (in_turn ls ps ds es) refl

      go4 : (aid : List ℕ) (n0 : ℕ) → r ≡ took (rec 0x0202 aid ∷ []) [] n0 → mine ≡ ours aid → {ls ps ds : List Rec} {ms : List ℕ} {i j k : ℕ} → f1 n0 ≡ took ls [] i → f2 i ≡ took ps [] j → f3 j ≡ took ds ms k →
          Label ls → Pathed i j ps → Filled j k ds → (w : Res) → f4 k ≡ w → Last 0x0210 w → laid_out ≡ in_code
      go4 aid n0 e0 z e1 e2 e3 l p d _ e4 no_rest = rw (e0, e1, e2, e3, e4) refl
      go4 aid n0 e0 z e1 e2 e3 l p d _ e4 lacks_rest = ends aid n0 e0 z e1 e2 e3 e4 l p d no_others
      go4 aid n0 e0 z e1 e2 e3 l p d _ e4 (has_rest q) = ends aid n0 e0 z e1 e2 e3 e4 l p d (has_others q)

      go3 : (aid : List ℕ) (n0 : ℕ) → r ≡ took (rec 0x0202 aid ∷ []) [] n0 → mine ≡ ours aid → {ls ps : List Rec} {i j : ℕ} → f1 n0 ≡ took ls [] i → f2 i ≡ took ps [] j →
          Label ls → Pathed i j ps → (w : Res) → f3 j ≡ w → Inner j w → laid_out ≡ in_code
      go3 aid n0 e0 z e1 e2 l p _ e3 no_inner = rw (e0, e1, e2, e3) refl
      go3 aid n0 e0 z {j = j} e1 e2 l p _ e3 lacks_inner = go4 aid n0 e0 z e1 e2 e3 l p no_ddo (f4 j) refl (c4 j)
      go3 aid n0 e0 z e1 e2 l p _ e3 (has_inner bs ms {n = k} h) = go4 aid n0 e0 z e1 e2 e3 l p (has_ddo bs h) (f4 k) refl (c4 k)

      go2 : (aid : List ℕ) (n0 : ℕ) → r ≡ took (rec 0x0202 aid ∷ []) [] n0 → mine ≡ ours aid → {ls : List Rec} {i : ℕ} → f1 n0 ≡ took ls [] i → Label ls → (w : Res) → f2 i ≡ w → Seen 0x0204 i w → laid_out ≡ in_code
      go2 aid n0 e0 z e1 l _ e2 bad = rw (e0, e1, e2) refl
      go2 aid n0 e0 z {i = i} e1 l _ e2 gone = go3 aid n0 e0 z e1 e2 l no_path (f3 i) refl (c3 i)
      go2 aid n0 e0 z e1 l _ e2 (stood p {n = j} h) = go3 aid n0 e0 z e1 e2 l (has_path p h) (f3 j) refl (c3 j)

      go1 : (aid : List ℕ) (n0 : ℕ) → r ≡ took (rec 0x0202 aid ∷ []) [] n0 → mine ≡ ours aid → (w : Res) → f1 n0 ≡ w → Seen 0x0203 n0 w → laid_out ≡ in_code
      go1 aid n0 e0 z _ e1 bad = rw (e0, e1) refl
      go1 aid n0 e0 z _ e1 gone = go2 aid n0 e0 z e1 no_label (f2 n0) refl (c2 n0)
      go1 aid n0 e0 z _ e1 (stood p {n = i} h) = go2 aid n0 e0 z e1 (has_label p) (f2 i) refl (c2 i)

      go0 : (w : Res) → r ≡ w → Named mine w → laid_out ≡ in_code
      go0 _ e0 no_name = rw e0 refl
      go0 _ e0 (has_name aid {n = n0} z) = go1 aid n0 e0 z (f1 n0) refl (c1 n0)

-- a template is read so
pub by_places : (s : List ℕ) (own end at : ℕ) → (layouts.template).read s own end at ≡ template s end at
unfolding layouts.template layouts.discretionary components
by_places s own end at =
    same_order (ours_at s end at) end (component s 0x4f Required (row_body s template_id_row) end at) (λ n. component s 0x50 Optional (row_body s template_label_row) end n) (λ n. component s 0x51 Optional (row_body s template_path_row) end n)
    (λ n. component s 0x73 Optional (opened_body s) end n) (λ n. rest s 0x0210 (kept_of Template) end n)
    (named s end at) (λ n. seen s template_label_row end n) (λ n. seen s template_path_row end n) (λ n. inner s end n) (λ n. last s 0x0210 (kept_of Template) end n)
