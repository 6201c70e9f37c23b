-- A text's bytes tell its characters: no two texts have the same bytes. Each character has one to four of them.
use Rattle.std.specs.Prelude.{ℕ, ◌+◌, ◌-◌, ◌*◌, ◌/◌, ◌%◌, ◌≤◌, ◌≡◌, refl, List, [], ◌∷◌, ◌++◌, length, get_or, ltb}
use Rattle.std.proofs.Common.{sym, ◌∙◌, ap, arith, length-append, lt-ltb, le-ltb}
use Rattle.std.proofs.lemmas.List.{append_cancel_left}
use Rattle.elements.specs.Choice.{pick}
use Rattle.elements.specs.ChoiceLaws.{by_less}
use Rattle.elements.specs.Encodings.{utf8, utf8s}
use Rattle.elements.specs.TextLaws.{size1, size2, size3, size4}

-- the character that bytes begin with
first : List ℕ → ℕ
first c =
    let b = get_or c 0 0 in
    let x = get_or c 1 0 - 0x80 in
    let y = get_or c 2 0 - 0x80 in
    let z = get_or c 3 0 - 0x80 in
    pick (ltb b 0x80) b
    (pick (ltb b 0xe0) ((b - 0xc0) * 64 + x)
    (pick (ltb b 0xf0) ((b - 0xe0) * 4096 + x * 64 + y)
    ((b - 0xf0) * 262144 + x * 4096 + y * 64 + z)))

-- its digits to the base 64
digits : (u : ℕ) → (u ≡ u / 64 * 64 + u % 64) × (u / 64 ≡ u / 4096 * 64 + u / 64 % 64) × (u / 4096 ≡ u / 262144 * 64 + u / 4096 % 64)
digits u =
    let p : u / 64 / 64 ≡ u / 4096 = omega arith in
    let q : u / 4096 / 64 ≡ u / 262144 = omega arith in
    (omega arith, omega arith, omega arith)

first_of : (u : ℕ) (l : List ℕ) → first (utf8 u ++ l) ≡ u
unfolding first
first_of u l =
    let d = digits u in
    by_less u 0x80 (λ a. rw (size1 u a, lt-ltb u 0x80 a))
    (λ a. by_less u 0x800 (λ b. rw (size2 u a b, le-ltb (0xc0 + u / 64) 0x80 (omega arith), lt-ltb (0xc0 + u / 64) 0xe0 (omega arith)) (omega arith))
    (λ b. by_less u 0x10000 (λ c. rw (size3 u b c, le-ltb (0xe0 + u / 4096) 0x80 (omega arith), le-ltb (0xe0 + u / 4096) 0xe0 (omega arith), lt-ltb (0xe0 + u / 4096) 0xf0 (omega arith)) (omega (arith, d.0, d.1)))
    (λ c. rw (size4 u c, le-ltb (0xf0 + u / 262144) 0x80 (omega arith), le-ltb (0xf0 + u / 262144) 0xe0 (omega arith), le-ltb (0xf0 + u / 262144) 0xf0 (omega arith)) (omega (arith, d.0, d.1, d.2)))))

-- one to four bytes a character
widths : (u : ℕ) → (1 ≤ length (utf8 u)) × (length (utf8 u) ≤ 4)
widths u =
    by_less u 0x80 (λ a. rw (size1 u a) (omega arith))
    (λ a. by_less u 0x800 (λ b. rw (size2 u a b) (omega arith))
    (λ b. by_less u 0x10000 (λ c. rw (size3 u b c) (omega arith)) (λ c. rw (size4 u c) (omega arith))))

pub utf8s_most : (us : List ℕ) → length (utf8s us) ≤ 4 * length us
unfolding utf8s
utf8s_most [] = omega arith
utf8s_most (u ∷ us) = omega (arith, length-append (utf8 u) (utf8s us), (widths u).1, utf8s_most us)

none_same : (u : ℕ) (l : List ℕ) {A : Type 0} → [] ≡ utf8 u ++ l → A
none_same u l e = let h : 0 ≡ length (utf8 u) + length l = ap length e ∙ length-append (utf8 u) l in absurd (omega (arith, (widths u).0))

pub utf8s_one : (us vs : List ℕ) → utf8s us ≡ utf8s vs → us ≡ vs
unfolding utf8s
utf8s_one [] [] e = refl
utf8s_one [] (v ∷ vs) e = none_same v (utf8s vs) e
utf8s_one (u ∷ us) [] e = none_same u (utf8s us) (sym e)
utf8s_one (u ∷ us) (v ∷ vs) e =
    let z : u ≡ v = sym (first_of u (utf8s us)) ∙ ap first e ∙ first_of v (utf8s vs) in
    let q : utf8s us ≡ utf8s vs = append_cancel_left (utf8 v) (utf8s us) (utf8s vs) (rw z at e) in
    rw (z, utf8s_one us vs q)
