-- Frames: a record of the dump, the file in it, the files one after another.
use Prim.Native.Nat.{ℕ, zero, suc, ◌+◌, ◌-◌, ◌^◌, ◌<◌, ◌≤◌}
use mathlib.Core.Path.{◌≡◌, refl, sym, ap, ◌∙◌}
use mathlib.Core.List.{List, [], ◌∷◌}
use mathlib.Core.Bool.{Bool, true, false}
use native.Mathlib.Omega.{arith}
use lib.ListN.{length, get_or}
use lib.Dec.{ltb, leb, eqb}
use borrow.Author.Tests.{lt-ltb, le-ltb, le-leb, lt-leb, ne_eqb, ltb-false}
use Rattle.elements.specs.declared.fault.Fault.{Fault}
use Rattle.elements.specs.declared.fault.Fault.TheVariants.{RecordBroken, RecordMissing, RecordKind, FileLength, PathLength, RecordOver}
use Rattle.elements.specs.ChoiceLaws.{by_choose}
use Rattle.elements.specs.Lists.{Bytes}
use Rattle.rules.specs.Files.{File, FrameRead, framed, broken, Files, files, broken_at, two, record_end, fits, frame_of, file_in, frame, named_file, named_frame, whole, cons_file, more_files, frames}
use Rattle.cards.specs.Fits.{Sorted}
use Rattle.cards.proofs.FrameLaws.{by_sort_lem}
use Rattle.reader.specs.Frame.{Spanned, framed_as, Inner, Path, FramesTold, Framed, Spanning, fine_so, framed_at, span}
use Rattle.elements.specs.Answer.{refused}
use Rattle.elements.specs.AnswerLaws.{answer_or, refused_same}
use Rattle.reader.specs.declared.frame.Span.{Span}

no_from : {x : Fault} {p k a e : ℕ} → refused x p ≡ span k a e → ⊥
no_from z = let y : ◌≡◌ {A = ℕ} 0 1 = cc in omega arith

broken_file : {x : Fault} {p k n a e : ℕ} → refused x p ≡ framed_at k n a e → ⊥
broken_file z = let y : ◌≡◌ {A = ℕ} 0 1 = cc in omega arith

-- the ways through `record_at`
module _ (s : List ℕ) (low high at : ℕ) where
  pub span_missing : length s ≤ at → Spanned s low high at (refused RecordMissing at)
  unfolding frame_of
  span_missing h = record { is = λ inner. rw (le-leb (length s) at h) refl; inside = λ k a e z. absurd (no_from z) }

  module _ (h : at < length s) where
    pub span_short : length s < at + 4 → Spanned s low high at (refused RecordBroken at)
    unfolding frame_of
    span_short i = record { is = λ inner. rw (lt-leb (length s) at h, lt-ltb (length s) (at + 4) i) refl; inside = λ k a e z. absurd (no_from z) }

    module _ (i : at + 4 ≤ length s) {n : ℕ} (k : n ≡ two s at) where
      pub span_small : n < 2 → Spanned s low high at (refused RecordBroken at)
      unfolding frame_of
      span_small j = record { is = λ inner. rw (lt-leb (length s) at h, le-ltb (length s) (at + 4) i, ← k, lt-ltb n 2 j) refl; inside = λ k a e z. absurd (no_from z) }

      module _ (j : 2 ≤ n) where
        pub span_long : length s < at + 2 + n → Spanned s low high at (refused RecordBroken at)
        unfolding frame_of
        span_long l = record { is = λ inner. rw (lt-leb (length s) at h, le-ltb (length s) (at + 4) i, ← k, le-ltb n 2 j, lt-ltb (length s) (at + 2 + n) l) refl; inside = λ k a e z. absurd (no_from z) }

        module _ (l : at + 2 + n ≤ length s) {m : ℕ} (q : m ≡ two s (at + 2)) where
          pub span_below : m < low → Spanned s low high at (refused RecordKind at)
          unfolding frame_of
          span_below e = record { is = λ inner. rw (lt-leb (length s) at h, le-ltb (length s) (at + 4) i, ← k, le-ltb n 2 j, le-ltb (length s) (at + 2 + n) l, ← q, lt-leb low m e) refl; inside = λ k a b z. absurd (no_from z) }

          module _ (e : low ≤ m) where
            pub span_above : high < m → Spanned s low high at (refused RecordKind at)
            unfolding frame_of
            span_above f = record { is = λ inner. rw (lt-leb (length s) at h, le-ltb (length s) (at + 4) i, ← k, le-ltb n 2 j, le-ltb (length s) (at + 2 + n) l, ← q, le-leb low m e, lt-leb m high f) refl; inside = λ k a b z. absurd (no_from z) }

            pub span_from : m ≤ high → Spanned s low high at (span m (at + 4) (at + 2 + n))
            unfolding frame_of
            span_from f = record {
              is = λ inner. rw (lt-leb (length s) at h, le-ltb (length s) (at + 4) i, ← k, le-ltb n 2 j, le-ltb (length s) (at + 2 + n) l, ← q, le-leb low m e, le-leb m high f) refl;
              inside = λ k a b z. let u : at + 4 ≡ a = ap (λ r. (answer_or {A = Span} (record { 0 = k; 1 = a; 2 = b }) r).1) z in let v : at + 2 + n ≡ b = ap (λ r. (answer_or {A = Span} (record { 0 = k; 1 = a; 2 = b }) r).2) z in (sym u, omega arith, omega arith);
            }

-- the ways through `file_in`
module _ (s : List ℕ) (at kind n start stop : ℕ) where
  pub file_path : stop < start + n → file_in s at kind n start stop ≡ broken PathLength at
  unfolding file_in
  file_path h = rw (lt-ltb stop (start + n) h) refl

  module _ (h : start + n ≤ stop) where
    pub file_long : 16383 < stop - (start + n) → file_in s at kind n start stop ≡ broken FileLength at
    unfolding file_in
    file_long l = rw (le-ltb stop (start + n) h, lt-ltb 16383 (stop - (start + n)) l) refl

    pub file_whole : stop - (start + n) ≤ 16383 → file_in s at kind n start stop ≡ framed (record { place = at; kind = kind; named = start + 1; start = start + n; stop = stop })
    unfolding file_in
    file_whole l = rw (le-ltb stop (start + n) h, le-ltb 16383 (stop - (start + n)) l) refl

-- what is made of a record's inside
module _ (at kind : ℕ) (P : FrameRead → Type 0) (bad : (x : Fault) → P (broken x at)) where
  file_by : (s : List ℕ) (n a e : ℕ) → (a + n ≤ e → P (framed (record { place = at; kind = kind; named = a + 1; start = a + n; stop = e }))) → P (file_in s at kind n a e)
  unfolding file_in
  file_by s n a e f =
      by_choose P (ltb e (a + n)) (λ _ _. bad PathLength) (λ _ u.
      by_choose P (ltb 16383 (e - (a + n))) (λ _ _. bad FileLength) (λ _ _. f (ltb-false e (a + n) u)))

  named_by : (s : List ℕ) (a e : ℕ) → (1 ≤ get_or s a 0 → a + (1 + get_or s a 0) ≤ e → P (framed (record { place = at; kind = kind; named = a + 1; start = a + (1 + get_or s a 0); stop = e }))) → P (named_file s at kind a e)
  unfolding named_file
  named_by s a e f =
      by_choose P (leb e a) (λ _ _. bad PathLength) (λ _ _.
      by_choose P (ltb (get_or s a 0) 1) (λ _ _. bad PathLength) (λ _ u.
      by_choose P (ltb 64 (get_or s a 0)) (λ _ _. bad PathLength) (λ _ _.
      file_by s (1 + get_or s a 0) a e (λ l. f (ltb-false (get_or s a 0) 1 u) l))))

-- what a file is known for that is framed
module _ (at : ℕ) (r : Framed) where
  not_framed : {x : Fault} {k n a e : ℕ} → broken x at ≡ framed_as at r → r ≡ framed_at k n a e → ⊥
  not_framed {x} {k} {n} {a} {e} q z =
      let w : broken x at ≡ framed (record { place = at; kind = k; named = n; start = a; stop = e }) = rw z at q in
      let y : ◌≡◌ {A = ℕ} 0 1 = cc in
      omega arith

  pub is_framed : (f : File) {k n a e : ℕ} → framed f ≡ framed_as at r → r ≡ framed_at k n a e → (f.kind ≡ k) × (f.named ≡ n) × (f.start ≡ a) × (f.stop ≡ e)
  is_framed f {k} {n} {a} {e} q z =
      let w : framed f ≡ framed (record { place = at; kind = k; named = n; start = a; stop = e }) = rw z at q in
      let y : f ≡ record { place = at; kind = k; named = n; start = a; stop = e } = cc in
      (ap (λ (g : File). g.kind) y, ap (λ (g : File). g.named) y, ap (λ (g : File). g.start) y, ap (λ (g : File). g.stop) y)

pub inner_none : (s : List ℕ) (at : ℕ) (x : Fault) (p : ℕ) → Inner s at (refused x p)
inner_none s at x p = record { is = λ k n a e z. absurd (broken_file z) }

pub path_none : (s : List ℕ) (at : ℕ) (x : Fault) (p : ℕ) → Path s at (refused x p)
path_none s at x p = record { is = λ k n a e z. absurd (broken_file z) }

-- the ways through `frame`
module _ {s : List ℕ} {kind at : ℕ} {w : Spanning} (d : Spanned s kind kind at w) where
  pub frame_broken : {x : Fault} {p : ℕ} → w ≡ refused x p → frame s kind at ≡ broken x p
  unfolding frame
  frame_broken z = d.is (λ k a e. file_in s at k 0 a e) ∙ rw z refl

  module _ {k a e : ℕ} (z : w ≡ span k a e) where
    pub frame_file : (r : Framed) → file_in [] at k 0 a e ≡ framed_as at r → frame s kind at ≡ framed_as at r
    unfolding frame file_in
    frame_file r q = d.is (λ k a e. file_in s at k 0 a e) ∙ rw z q

    pub frame_inner : (r : Framed) → file_in [] at k 0 a e ≡ framed_as at r → Inner s at r
    frame_inner r q =
        let i = d.inside k a e z in
        file_by at k (λ v. v ≡ framed_as at r → Inner s at r)
        (λ x k. record { is = λ _ n b c u. absurd (not_framed at r k u) })
        [] 0 a e
        (λ l j. record { is = λ _ n b c u. let g = is_framed at r (record { place = at; kind = k; named = a + 1; start = a + 0; stop = e }) j u in (omega arith, omega arith, omega arith, omega arith) })
        q

-- where a record's inside lies
module _ {s : List ℕ} {low high at : ℕ} {w : Spanning} (d : Spanned s low high at w) {k a e : ℕ} (z : w ≡ span k a e) where
  pub frame_start : length s ≤ 32768 → a ≤ 32768
  frame_start l = let i = d.inside k a e z in omega arith

  pub span_low : at + 4 ≤ a
  span_low = let i = d.inside k a e z in omega arith

  pub span_high : e ≤ length s
  span_high = let i = d.inside k a e z in omega arith

-- the ways through `named_file`
module _ (s : List ℕ) (at kind a e : ℕ) where
  pub named_none : e ≤ a → named_file s at kind a e ≡ broken PathLength at
  unfolding named_file
  named_none h = rw (le-leb e a h) refl

  module _ (h : a < e) {n : ℕ} (k : n ≡ get_or s a 0) where
    pub named_small : n < 1 → named_file s at kind a e ≡ broken PathLength at
    unfolding named_file
    named_small i = rw (lt-leb e a h, ← k, lt-ltb n 1 i) refl

    module _ (i : 1 ≤ n) where
      pub named_large : 64 < n → named_file s at kind a e ≡ broken PathLength at
      unfolding named_file
      named_large j = rw (lt-leb e a h, ← k, le-ltb n 1 i, lt-ltb 64 n j) refl

      pub named_file_lem : (r : Framed) → n ≤ 64 → file_in [] at kind (1 + n) a e ≡ framed_as at r → named_file s at kind a e ≡ framed_as at r
      unfolding named_file file_in
      named_file_lem r j q = rw (lt-leb e a h, ← k, le-ltb n 1 i, le-ltb 64 n j) q

-- the ways through `named_frame`
module _ {s : List ℕ} {at : ℕ} {w : Spanning} (d : Spanned s 3 4 at w) where
  pub named_broken : {x : Fault} {p : ℕ} → w ≡ refused x p → named_frame s at ≡ broken x p
  unfolding named_frame
  named_broken z = d.is (named_file s at) ∙ rw z refl

  module _ {k a e : ℕ} (z : w ≡ span k a e) where
    pub named_framed : (r : Framed) → named_file s at k a e ≡ framed_as at r → named_frame s at ≡ framed_as at r
    unfolding named_frame
    named_framed r q = d.is (named_file s at) ∙ rw z q

    pub named_path_lem : (r : Framed) → named_file s at k a e ≡ framed_as at r → Path s at r
    named_path_lem r q =
        let i = d.inside k a e z in
        named_by at k (λ v. v ≡ framed_as at r → Path s at r)
        (λ x j. record { is = λ _ n b c u. absurd (not_framed at r j u) })
        s a e
        (λ m l j. record { is = λ _ n b c u. let g = is_framed at r (record { place = at; kind = k; named = a + 1; start = a + (1 + get_or s a 0); stop = e }) j u in (omega arith, omega arith, omega arith, omega arith) })
        q

    pub named_inner : (r : Framed) → named_file s at k a e ≡ framed_as at r → Inner s at r
    named_inner r q = record { is = λ j n b c u. let g = (named_path_lem r q).is j n b c u in (omega arith, omega arith, omega arith, omega arith) }

-- the records up to i end inside, and as many turns are left as there may be records
pub record Fitting (s : List ℕ) (stop at i : ℕ) : Type 0 where
  pub bytes : Bytes s
  pub inside : stop ≤ length s
  pub small : length s ≤ 32768
  pub turns : ℕ
  pub enough : stop ≤ i + turns
  pub short : i ≤ 100000
  pub is : fits s turns stop i ≡ fits s (stop - at) stop at

pub fitting_none : {s : List ℕ} (stop at : ℕ) → Bytes s → at ≤ stop → stop ≤ length s → length s ≤ 32768 → Fitting s stop at at
fitting_none stop at b h l m = record { bytes = b; inside = l; small = m; turns = stop - at; enough = omega arith; short = omega arith; is = refl }

module _ {s : List ℕ} {stop at i : ℕ} (h : Fitting s stop at i) where
  pub fitting_short : i ≤ 100000
  fitting_short = h.short

  -- no record is left
  pub fitting_all : stop ≤ i → eqb i stop ≡ fits s (stop - at) stop at
  unfolding fits
  fitting_all l = go h.turns ∙ h.is
    where
      go : (g : ℕ) → eqb i stop ≡ fits s g stop i
      go zero = refl
      go (suc g) = rw (le-ltb i stop l) refl

  module _ (l : i < stop) where
    turn : (g : ℕ) → stop ≤ i + g → (k : ℕ) × (fits s g stop i ≡ fits s k stop (record_end s i)) × (g ≡ suc k)
    unfolding fits
    turn zero e = absurd (omega arith)
    turn (suc k) e = (k, rw (lt-ltb i stop l) refl, refl)

    -- what runs over does not fit
    over : (g j : ℕ) → stop < j → fits s g stop j ≡ false
    unfolding fits
    over zero j m = ne_eqb j stop (λ e. omega arith)
    over (suc g) j m = rw (le-ltb j stop (omega arith)) (ne_eqb j stop (λ e. omega arith))

    pub fitting_cut : stop < i + 2 → false ≡ fits s (stop - at) stop at
    fitting_cut m = let t = turn h.turns h.enough in sym (over t.0 (record_end s i) (omega arith)) ∙ sym t.1 ∙ h.is

    module _ {n : ℕ} (k : n ≡ two s i) where
      next_short : i + 2 + n ≤ 100000
      next_short = omega (arith, h.inside, h.small, h.bytes i, h.bytes (i + 1))

      pub fitting_sum : i + 2 + n < 2 ^ 64
      fitting_sum = omega (arith, next_short)

      pub fitting_next : Fitting s stop at (i + 2 + n)
      fitting_next =
          let t = turn h.turns h.enough in
          record { bytes = h.bytes; inside = h.inside; small = h.small; turns = t.0; enough = omega (arith, h.enough, t.2); short = next_short; is = rw k (sym t.1 ∙ h.is) }

      pub fitting_less : stop - (i + 2 + n) < stop - i
      fitting_less = omega arith

-- the ways through `whole_frame`
module _ (s : List ℕ) (at : ℕ) {r : Framed} (e : named_frame s at ≡ framed_as at r) where
  pub whole_broken : {x : Fault} {p : ℕ} → r ≡ refused x p → whole s (named_frame s at) ≡ broken x p
  whole_broken z = rw (e, z) refl

  module _ {k n a b : ℕ} (z : r ≡ framed_at k n a b) where
    pub whole_transparent : k ≡ 3 → whole s (named_frame s at) ≡ framed_as at (framed_at k n a b)
    whole_transparent q = rw (e, z, q) refl

    module _ (q : k ≡ 3 → ⊥) {t : Bool} (f : t ≡ fits s (b - a) b a) where
      pub whole_fits : t ≡ true → whole s (named_frame s at) ≡ framed_as at (framed_at k n a b)
      whole_fits y = rw (e, z, ne_eqb k 3 q, sym f ∙ y) refl

      pub whole_over : t ≡ false → whole s (named_frame s at) ≡ broken RecordOver at
      whole_over y = rw (e, z, ne_eqb k 3 q, sym f ∙ y) refl

    pub inner_so : Inner s at r → Inner s at (framed_at k n a b)
    inner_so d = rw z at d

-- where a file lies
module _ {s : List ℕ} {at : ℕ} {r : Framed} (i : Inner s at r) {k n a e : ℕ} (z : r ≡ framed_at k n a e) where
  pub inner_low : at + 4 ≤ a
  inner_low = (i.is k n a e z).0

  pub inner_mid : a ≤ e
  inner_mid = (i.is k n a e z).2

  pub inner_high : e ≤ length s
  inner_high = (i.is k n a e z).3

-- the files one after another
module _ (s : List ℕ) where
  frames_turn : (g at : ℕ) → at < length s → frames s (suc g) at ≡ more_files s (whole s (named_frame s at)) (λ n. frames s g n)
  unfolding frames
  frames_turn g at h = rw (lt-ltb at (length s) h) refl

  frames_some : (g k at : ℕ) (w : FrameRead) → g ≡ suc k → at < length s → whole s (named_frame s at) ≡ w → frames s g at ≡ more_files s w (λ n. frames s k n)
  frames_some g k at w e h q = rw e (rw q at (frames_turn k at h))

  frames_over : (g at : ℕ) → length s ≤ at → frames s g at ≡ files []
  unfolding frames
  frames_over zero at h = rw (le-ltb at (length s) h) refl
  frames_over (suc g) at h = rw (le-ltb at (length s) h) refl

  frames_spent : (at : ℕ) → at < length s → frames s 0 at ≡ broken_at RecordBroken at
  unfolding frames
  frames_spent at h = rw (lt-ltb at (length s) h) refl

  cons_split : (f : File) (r : Files) (fs : List File) → cons_file s f r ≡ files fs → (rest : List File) × (fs ≡ f ∷ rest) × (r ≡ files rest)
  cons_split f (files gs) fs e = (gs, cc, refl)
  cons_split f (broken_at x p) fs e = let y : ◌≡◌ {A = ℕ} 0 1 = cc in absurd (omega arith)

  more_split : (w : FrameRead) (k : ℕ → Files) (fs : List File) → more_files s w k ≡ files fs → (f : File) × (rest : List File) × (fs ≡ f ∷ rest) × (w ≡ framed f) × (k f.stop ≡ files rest)
  more_split (framed f) k fs e = let c = cons_split f (k f.stop) fs e in (f, c.0, c.1, refl, c.2)
  more_split (broken x p) k fs e = let y : ◌≡◌ {A = ℕ} 0 1 = cc in absurd (omega arith)

  -- a file that is whole is framed, and its records fit if it is of records
  whole_split : (w : FrameRead) (f : File) → whole s w ≡ framed f → (w ≡ framed f) × Sorted s f.kind f.stop f.start
  whole_split (broken x p) f e = let y : ◌≡◌ {A = ℕ} 0 1 = cc in absurd (omega arith)
  whole_split (framed g) f e =
      by_sort_lem s (λ (r : FrameRead). r ≡ framed f → (framed g ≡ framed f) × Sorted s f.kind f.stop f.start) g
      (λ x _ z. let y : ◌≡◌ {A = ℕ} 0 1 = cc in absurd (omega arith))
      (λ t z. let y : g ≡ f = cc in (z, rw y at t)) e

  -- a chain that is not at its end begins with the file that is framed there, and goes on behind it
  pub chain_more : (g at : ℕ) (fs : List File) → at < length s → frames s g at ≡ files fs →
      (f : File) × (rest : List File) × (h : ℕ) × (fs ≡ f ∷ rest) × (named_frame s at ≡ framed f) × (frames s h f.stop ≡ files rest) × Sorted s f.kind f.stop f.start
  chain_more zero at fs l e = let z = frames_spent at l in let y : ◌≡◌ {A = ℕ} 0 1 = cc in absurd (omega arith)
  chain_more (suc g) at fs l e =
      let c = more_split (whole s (named_frame s at)) (λ n. frames s g n) fs (sym (frames_turn g at l) ∙ e) in
      let w = whole_split (named_frame s at) c.0 c.3 in
      (c.0, c.1, g, c.2, w.0, c.4, w.1)

  -- a chain at its end has no file
  pub chain_end : (g at : ℕ) (fs : List File) → length s ≤ at → frames s g at ≡ files fs → fs ≡ []
  chain_end g at fs l e = let z = frames_over g at l in cc

-- the files before i are framed well, and as many turns are left as there may be files
pub record Chained (s : List ℕ) (at i : ℕ) : Type 0 where
  pub turns : ℕ
  pub high : i ≤ length s
  pub enough : length s ≤ i + turns
  pub sound : (fs : List File) → frames s turns i ≡ files fs → (gs : List File) × (frames s (length s) at ≡ files gs)
  pub unsound : (x : Fault) (p : ℕ) → frames s turns i ≡ broken_at x p → frames s (length s) at ≡ broken_at x p

pub chained_none : (s : List ℕ) (at : ℕ) → at ≤ length s → Chained s at at
chained_none s at h = record { turns = length s; high = h; enough = omega arith; sound = λ fs e. (fs, e); unsound = λ x p e. e }

module _ {s : List ℕ} {at i : ℕ} (h : Chained s at i) where
  pub chained_high : i ≤ length s
  chained_high = h.high

  module _ (l : i < length s) where
    left : (g : ℕ) → g ≡ h.turns → (k : ℕ) × (g ≡ suc k)
    left zero e = absurd (omega (arith, h.enough))
    left (suc k) e = (k, refl)

    module _ (r : Framed) (q : whole s (named_frame s i) ≡ framed_as i r) where
      pub chained_broken : {x : Fault} {p : ℕ} → r ≡ refused x p → FramesTold s at (refused x p)
      chained_broken {x} {p} z =
          let t = left h.turns refl in
          let w : frames s h.turns i ≡ broken_at x p = frames_some s h.turns t.0 i (broken x p) t.1 l (q ∙ rw z refl) in
          record {
            sound = λ c. let y : ◌≡◌ {A = ℕ} 0 1 = cc in absurd (omega arith);
            unsound = λ y b c. let u = refused_same c in rw (u.0, u.1) at (h.unsound x p w);
          }

      pub chained_next : {k n a e : ℕ} → Inner s i r → r ≡ framed_at k n a e → Chained s at e
      chained_next {k} {n} {a} {e} d z =
          let t = left h.turns refl in
          let f : File = record { place = i; kind = k; named = n; start = a; stop = e } in
          let b = d.is k n a e z in
          let w : frames s h.turns i ≡ cons_file s f (frames s t.0 e) = frames_some s h.turns t.0 i (framed f) t.1 l (q ∙ rw z refl) in
          record {
            turns = t.0;
            high = omega arith;
            enough = omega (arith, h.enough, t.1);
            sound = λ fs c. h.sound (f ∷ fs) (w ∙ rw c refl);
            unsound = λ x p c. h.unsound x p (w ∙ rw c refl);
          }

      pub chained_less : {k n a e : ℕ} → Inner s i r → r ≡ framed_at k n a e → length s - e < length s - i
      chained_less {k} {n} {a} {e} d z = let b = d.is k n a e z in omega arith

  pub chained_all : length s ≤ i → FramesTold s at fine_so
  chained_all l = record {
    sound = λ _. h.sound [] (frames_over s h.turns i l);
    unsound = λ x p c. let y : ◌≡◌ {A = ℕ} 0 1 = cc in absurd (omega arith);
  }
