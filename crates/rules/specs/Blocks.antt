-- Where an object's records end.
use Rattle.std.specs.Prelude.{ℕ, List, [], ◌∷◌, ◌++◌, Bool, true, false, not, ◌||◌, ◌&&◌, ◌≡◌, refl, length, leb, eqb, T}
use Rattle.std.proofs.Common.{eqb-true}
use Rattle.elements.specs.Sealed.{among}
use Rattle.rules.specs.declared.table.Class.{Class}
use Rattle.rules.specs.declared.table.Class.TheVariants.{Keys, Certificates, Containers, Authentications}
use Rattle.rules.specs.declared.table.ObjectType.{ObjectType}
use Rattle.rules.specs.Reading.{Rec}
use Rattle.rules.specs.Tables.{class_of, type_of}
use Rattle.rules.specs.TestLaws.{and_left, and_right}
use Rattle.rules.specs.Grammar.{Where, ◌on◌}
use Rattle.rules.specs.Kinds.{Among, none_there, there}
use Rattle.rules.specs.Layout.{Layout, ◌and◌, ended, apart, due, maybe}
use Rattle.rules.specs.Layouts as layouts

-- an object's records reach up to the next 0120, 0110, 0107, 0118, 0119, 011A, EF.DIR's 0200 or the end
abbrev pub closing : ℕ → Bool
closing k = among k (0x0120 ∷ 0x0110 ∷ 0x0107 ∷ 0x0118 ∷ 0x0119 ∷ 0x011a ∷ []) || leb 0x0200 k

-- none of these records closes an object
abbrev pub inner : List Rec → Bool
inner [] = true
inner (r ∷ rs) = not (closing r.kind) && inner rs

-- a test of every kind
abbrev pub every : (ℕ → Bool) → List ℕ → Bool
every f [] = true
every f (k ∷ ks) = f k && every f ks

abbrev pub open_kinds : List ℕ → Bool
open_kinds = every (λ k. not (closing k))

both : (a b : Bool) → T a → T b → T (a && b)
both true b t u = u
both false b t u = t

pub every_kind : (f : ℕ → Bool) (k : ℕ) (ks : List ℕ) → T (every f ks) → T (among k ks) → T (f k)
every_kind f k [] t h = absurd h
every_kind f k (x ∷ ks) t h = go (eqb k x) refl h (every_kind f k ks (and_right (f x) (every f ks) t))
  where
    go : (b : Bool) → eqb k x ≡ b → T (b || among k ks) → (T (among k ks) → T (f k)) → T (f k)
    go true e h u = rw (eqb-true k x e) (and_left (f x) (every f ks) t)
    go false e h u = u h

inner_among : (ks : List ℕ) → T (open_kinds ks) → {rs : List Rec} → Among ks rs → T (inner rs)
inner_among ks t none_there = tt
inner_among ks t (there {r = r} {rs = rs} h g) = both (not (closing r.kind)) (inner rs) (every_kind (λ k. not (closing k)) r.kind ks t h) (inner_among ks t g)

inner_append : (rs ss : List Rec) → T (inner rs) → T (inner ss) → T (inner (rs ++ ss))
inner_append [] ss h g = g
inner_append (r ∷ rs) ss h g = both (not (closing r.kind)) (inner (rs ++ ss)) (and_left (not (closing r.kind)) (inner rs) h) (inner_append rs ss (and_right (not (closing r.kind)) (inner rs) h) g)

-- none of a layout's records does
abbrev Inner : Layout → Type 0
Inner P = (v : Where) (x : P.part.Of) → T (inner (P.part.book v x))

-- one without such kinds
inner_layout : (P : Layout) → T (open_kinds P.all) → Inner P
inner_layout P t v x = inner_among P.all t (P.only v x)

-- one after the other
and_inner : (P Q : Layout) → Inner P → Inner Q → Inner (P and Q)
and_inner P Q f g v (x, y) = inner_append (P.part.book v x) (Q.part.book (v on length (P.part.bytes x)) y) (f v x) (g (v on length (P.part.bytes x)) y)

class_inner : (c : Class) → Inner (layouts.class c)
unfolding layouts.class
class_inner Keys = inner_layout (layouts.class Keys) tt
class_inner Certificates = inner_layout (layouts.class Certificates) tt
class_inner Authentications = inner_layout (layouts.class Authentications) tt
class_inner Containers = inner_layout (layouts.class Containers) tt

type_inner : (t : ObjectType) → Inner (layouts.typed t)
unfolding layouts.insides
type_inner t = inner_layout (layouts.typed t) tt

-- what stands in an object closes none, and CIAInfo's records don't
pub contents_inner : (entry tag : ℕ) → Inner (layouts.contents entry tag)
unfolding layouts.contents layouts.common layouts.rules layouts.rule layouts.subclass
contents_inner entry tag =
    let a = due 0x30 layouts.common in
    let b = due 0x30 (layouts.class (class_of entry)) in
    let c = maybe 0xa0 layouts.subclass in
    let d = due 0xa1 (ended (apart (layouts.typed (type_of entry tag)))) in
    and_inner (a and b and c) d (and_inner (a and b) c (and_inner a b (inner_layout a tt) (λ v x. class_inner (class_of entry) _ x)) (inner_layout c tt)) (λ v x. type_inner (type_of entry tag) _ x)

pub info_inner : Inner layouts.cia
unfolding layouts.cia layouts.info
info_inner = inner_layout layouts.cia tt
