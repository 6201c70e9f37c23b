-- What a part of a card is, said once: its contents as data with their bytes, their records and what they must meet; how it is read; how it is rendered;
-- what is known of its records' kinds and of its tags; that all this fits together is in proofs/Sound. One definition for each way to put parts together.
use Rattle.std.specs.Prelude.{ℕ, ◌+◌, ◌-◌, ◌≤◌, List, [], ◌∷◌, ◌++◌, true, false, not, ◌≡◌, refl, length, ltb, leb, eqb, T}
use Rattle.std.proofs.Common.{le_refl}
use Rattle.std.proofs.Math.Seq.{slice}
use Rattle.elements.specs.Choice.{choose}
use Rattle.elements.specs.Sealed.{among, sealed_run}
use Rattle.rules.specs.declared.table.Need.{Need}
use Rattle.rules.specs.declared.table.Need.TheVariants.{Required, Optional}
use Rattle.rules.specs.declared.table.Row.{Row}
use Rattle.rules.specs.declared.table.Class.{Class}
use Rattle.rules.specs.declared.table.Class.TheVariants.{Keys, Certificates, Containers, Authentications}
use Rattle.rules.specs.declared.table.ObjectType.{ObjectType}
use Rattle.rules.specs.declared.table.ObjectType.TheVariants.{PrivateKey, Certificate, Password, Sealed}
use Rattle.rules.specs.Reading.{Rec, rec, Res, ◌then◌, Reader, Body}
use Rattle.rules.specs.Parts as parts
use Rattle.rules.specs.Parts.{component, components, repeat, to_end, keep}
use Rattle.rules.specs.Looks.{Look, look, seq_look, elem_look, offer_look, rest_look, least_look, join_look, rows_look, fill_look}
use Rattle.rules.specs.Rendering.{Renderer, ◌next◌, within, when, either, from, plain, r_rows, r_keep, r_all, r_fill}
use Rattle.rules.specs.Fills.{before_fill, only_fill}
use Rattle.rules.specs.Grammar as grammar
use Rattle.rules.specs.Grammar.{Where, Part, Item, SealedRun}
use Rattle.rules.specs.LookLaws.{avoids, bodily, repeats, under}
use Rattle.rules.specs.RenderLaws.{rows_fit}
use Rattle.rules.specs.GrammarLaws as exact
use Rattle.rules.specs.GrammarLaws.{tags, close, is_close, clear, slot_look, low_tag}
use Rattle.rules.specs.Rulings.{headed_by}
use Rattle.rules.specs.Kinds as kinds
use Rattle.rules.specs.Kinds.{Only, there, early, late, kinds_of, optional_only, and_only, slot_only, fields_only, least_only, or_only, raw_only, sealed_only, rest_only, fill_only}
use Rattle.rules.specs.Faces.{row_tags, rows_clear, Spot, itself, spot, any_tag, no_front, is_free, Solid, least_tags, is_not, plain_look}

-- a layout: a part and its faces
pub record Layout : Type 1 where
  pub part : Part
  -- read s own: from the dump s, inside the element at `own`
  pub read : List ℕ → ℕ → Reader
  pub render : Renderer
  pub kinds : Look
  pub tags : exact.Look
  -- the kinds of its records
  pub all : List ℕ
  pub only : Only part all
  -- tags of one byte, kinds of two, none taken for another
  pub Fine : Type 0

-- the same of one element, by its tag
pub record Single : Type 1 where
  pub item : Item
  pub body : List ℕ → ℕ → Body
  pub render : Renderer
  pub kinds : Look
  pub all : List ℕ
  pub only : Only (grammar.one item) all
  pub Fine : Type 0

-- the contents of an element
abbrev pub body_of : Layout → List ℕ → Body
body_of P s at a e = P.read s at e a

-- one after the other
abbrev pub ◌and◌ : Layout → Layout → Layout
◌and◌ P Q = record {
  part = grammar.◌and◌ P.part Q.part;
  read = λ s own. P.read s own then Q.read s own;
  render = P.render next Q.render;
  kinds = seq_look P.kinds Q.kinds;
  tags = exact.seq_look P.tags Q.tags;
  all = P.all ++ Q.all;
  only = and_only P.part Q.part P.only Q.only;
  Fine = P.Fine × Q.Fine × T (avoids Q.kinds.first P.kinds.stop) × T (clear Q.tags.first P.tags.stop);
}

-- the components of a table, in its order
abbrev pub fields : List Row → Layout
fields rs = record {
  part = grammar.fields rs;
  read = λ s own. components s rs;
  render = r_rows rs;
  kinds = rows_look rs;
  tags = row_tags rs;
  all = kinds_of rs;
  only = fields_only rs;
  Fine = T (rows_fit rs) × T (rows_clear rs);
}

-- "Rest means sealed elements after the listed components"
abbrev pub rest : ℕ → List ℕ → Layout
rest kind out = record {
  part = grammar.rest kind out;
  read = λ s own. parts.rest s kind out;
  render = r_keep kind;
  kinds = rest_look kind;
  tags = exact.look (λ t. not (among t out)) true close;
  all = kind ∷ [];
  only = rest_only kind out;
  Fine = T (ltb kind 65536);
}

-- and nothing more is due
abbrev pub ended : Layout → Layout
ended P = record {
  part = P.part;
  read = λ s own. P.read s own then parts.ended s;
  render = P.render;
  kinds = P.kinds;
  tags = exact.look P.tags.first P.tags.empty close;
  all = P.all;
  only = P.only;
  Fine = P.Fine;
}

-- what does not look at the place of its element
abbrev pub apart : Layout → Layout
apart P = record { part = P.part; read = λ s own. P.read s 0; render = P.render; kinds = P.kinds; tags = P.tags; all = P.all; only = P.only; Fine = P.Fine }

-- a tag of one byte, around contents that end with their container
abbrev pub Held : ℕ → Layout → Type 0
Held t P = T (bodily P.kinds) × T (low_tag t) × T (is_close P.tags.stop)

-- a component that is due, by what is inside it
abbrev pub due : ℕ → Layout → Layout
due t P = record {
  part = grammar.one (grammar.tagged t P.part);
  read = λ s own. component s t Required (body_of P s);
  render = within t P.render;
  kinds = elem_look P.kinds;
  tags = slot_look Required t;
  all = P.all;
  only = λ v x. P.only _ x;
  Fine = P.Fine × Held t P;
}

-- one that its kinds tell: it is due, or it may lack
abbrev pub offered : Need → ℕ → Layout → Layout
offered d t P = record {
  part = grammar.slot d (grammar.tagged t P.part);
  read = λ s own. component s t d (body_of P s);
  render = when P.kinds.first (within t P.render);
  kinds = offer_look d P.kinds;
  tags = slot_look d t;
  all = P.all;
  only = slot_only P.part d t P.only;
  Fine = P.Fine × T (not P.kinds.empty) × Held t P;
}

abbrev pub told : ℕ → Layout → Layout
told t P = offered Required t P

abbrev pub maybe : ℕ → Layout → Layout
maybe t P = offered Optional t P

-- at least one
abbrev pub at_least_one : Layout → Layout
at_least_one P = record {
  part = grammar.◌and◌ P.part (grammar.many P.part);
  read = λ s own. P.read s own then (λ end at. repeat to_end (λ _. P.read s own) (end - at) 0 end at);
  render = r_all P.kinds.first P.render;
  kinds = least_look P.kinds;
  tags = least_tags P.tags;
  all = P.all;
  only = least_only P.part P.only;
  Fine = P.Fine × T (repeats P.kinds) × T (not P.tags.empty) × T (is_free P.tags.stop) × T (clear P.tags.first P.tags.stop);
}

-- what is more to meet, of all that was read: f refuses at the sequence or at its end, or lets it pass
abbrev pub with_at : Spot → (P : Layout) (f : ℕ → Res → Res) (more : P.part.Of → Type 0) → Layout
with_at w P f more = record {
  part = grammar.with P.part more;
  read = λ s own end at. f (spot w own end) (P.read s own end at);
  render = P.render;
  kinds = P.kinds;
  tags = P.tags;
  all = P.all;
  only = P.only;
  Fine = P.Fine;
}

abbrev pub with : (P : Layout) (f : ℕ → Res → Res) (more : P.part.Of → Type 0) → Layout
with P f more = with_at itself P f more

-- behind a record that tells something of it, in at most so many bytes
abbrev pub headed : (kind most : ℕ) (by : List Rec → List ℕ) (P : Layout) (g : P.part.Of → List ℕ) → ((v : Where) (x : P.part.Of) → P.part.Meets x → by (P.part.book v x) ≡ g x) → ((x : P.part.Of) → length (g x) ≤ most) → Layout
headed kind most by P g same short = record {
  part = grammar.behind P.part (λ x. rec kind (g x));
  read = λ s own end at. headed_by kind by (P.read s own end at);
  render = from (λ k p. P.render);
  kinds = look (kind ∷ []) false P.kinds.stop (4 + most + P.kinds.credit);
  tags = P.tags;
  all = kind ∷ P.all;
  only = λ v x. there (kinds.itself kind P.all) (late (kind ∷ []) P.all (P.only v x));
  Fine = P.Fine × T (ltb kind 65536) × T (leb most 4);
}

-- an empty record in front
abbrev pub opened : ℕ → Layout → Layout
opened kind P = headed kind 0 (λ _. []) P (λ _. []) (λ _ _ _. refl) (λ _. le_refl 0)

-- sealed, of one tag, and it may lack
abbrev pub sealed_if : ℕ → ℕ → Layout
sealed_if t kind = record {
  part = grammar.optional (grammar.sealed_one (λ x. eqb x t) kind no_front);
  read = λ s own. component s t Optional (parts.sealed s kind [] t);
  render = r_keep kind;
  kinds = rest_look kind;
  tags = slot_look Optional t;
  all = kind ∷ [];
  only = optional_only kind (λ x. eqb x t);
  Fine = T (ltb kind 65536);
}

-- sealed contents, present even when empty
abbrev pub sealed_all : ℕ → Layout
sealed_all kind = record {
  part = grammar.raw (rec kind) (SealedRun 16 []);
  read = λ s own end at. keep (rec kind (slice at end s) ∷ []) end (sealed_run 16 s [] at end);
  render = r_keep kind;
  kinds = look (kind ∷ []) false (kind ∷ []) 8;
  tags = exact.look any_tag true close;
  all = kind ∷ [];
  only = raw_only kind (SealedRun 16 []);
  Fine = T (ltb kind 65536);
}

-- an element that must be there, by its tag
abbrev pub one : Single → Layout
one I = record {
  part = grammar.one I.item;
  read = λ s own. parts.element s (I.body s);
  render = I.render;
  kinds = I.kinds;
  tags = exact.look any_tag false (tags []);
  all = I.all;
  only = I.only;
  Fine = I.Fine;
}

-- sealed, whatever its tag
abbrev pub sealed_one : ℕ → Single
sealed_one kind = record {
  item = grammar.sealed_one any_tag kind no_front;
  body = λ s t. parts.sealed s kind [] t;
  render = plain;
  kinds = look (kind ∷ []) false [] 0;
  all = kind ∷ [];
  only = sealed_only kind any_tag no_front;
  Fine = T (ltb kind 65536);
}

-- the same, known by its kind
abbrev pub kept : ℕ → Layout
kept kind = record {
  part = grammar.one (grammar.sealed_one any_tag kind no_front);
  read = λ s own. parts.element s (parts.sealed s kind []);
  render = r_keep kind;
  kinds = look (kind ∷ []) false (kind ∷ []) 0;
  tags = exact.look any_tag false (tags []);
  all = kind ∷ [];
  only = sealed_only kind any_tag no_front;
  Fine = T (ltb kind 65536);
}

-- one of a tag, or else sealed
abbrev pub or_sealed : ℕ → Layout → ℕ → Single
or_sealed t P kind = record {
  item = grammar.◌or◌ (grammar.tagged t P.part) (grammar.sealed_one (is_not t) kind no_front);
  body = λ s v at a e. choose (eqb v t) (λ _. P.read s at e a) (λ _. parts.sealed s kind [] v at a e);
  render = either P.kinds.first (within t P.render) plain;
  kinds = join_look (elem_look P.kinds) (plain_look kind);
  all = P.all ++ kind ∷ [];
  only = or_only (grammar.tagged t P.part) (grammar.sealed_one (is_not t) kind no_front) (λ v x. P.only _ x) (sealed_only kind (is_not t) no_front);
  Fine = P.Fine × Held t P × T (not P.kinds.empty) × T (avoids (kind ∷ []) P.kinds.first) × T (ltb kind 65536);
}

-- one of several, known by what is common to all
abbrev pub class_kinds : (Class → Layout) → Look
class_kinds f = join_look (join_look (f Keys).kinds (f Certificates).kinds) (join_look (f Authentications).kinds (f Containers).kinds)

abbrev pub OfClass : Look → Layout → Type 0
OfClass M P = P.Fine × T (under P.kinds M) × T (is_close P.tags.stop)

abbrev pub by_class : (Class → Layout) → Class → Layout
by_class f c = record {
  part = (f c).part;
  read = (f c).read;
  render = (f c).render;
  kinds = class_kinds f;
  tags = exact.look any_tag true close;
  all = (f c).all;
  only = (f c).only;
  Fine = (d : Class) → OfClass (class_kinds f) (f d);
}

abbrev pub type_kinds : (ObjectType → Layout) → Look
type_kinds f = join_look (join_look (f PrivateKey).kinds (f Certificate).kinds) (join_look (f Password).kinds (f Sealed).kinds)

abbrev pub type_all : (ObjectType → Layout) → List ℕ
type_all f = (f PrivateKey).all ++ ((f Certificate).all ++ ((f Password).all ++ (f Sealed).all))

pub type_only : (f : ObjectType → Layout) (x : ObjectType) → Only (f x).part (type_all f)
type_only f PrivateKey v y = early (f PrivateKey).all ((f Certificate).all ++ ((f Password).all ++ (f Sealed).all)) ((f PrivateKey).only v y)
type_only f Certificate v y = late (f PrivateKey).all ((f Certificate).all ++ ((f Password).all ++ (f Sealed).all)) (early (f Certificate).all ((f Password).all ++ (f Sealed).all) ((f Certificate).only v y))
type_only f Password v y = late (f PrivateKey).all ((f Certificate).all ++ ((f Password).all ++ (f Sealed).all)) (late (f Certificate).all ((f Password).all ++ (f Sealed).all) (early (f Password).all (f Sealed).all ((f Password).only v y)))
type_only f Sealed v y = late (f PrivateKey).all ((f Certificate).all ++ ((f Password).all ++ (f Sealed).all)) (late (f Certificate).all ((f Password).all ++ (f Sealed).all) (late (f Password).all (f Sealed).all ((f Sealed).only v y)))

abbrev pub OfType : Look → Layout → Type 0
OfType M P = P.Fine × T (under P.kinds M) × T (is_free P.tags.stop) × T (not P.tags.empty)

abbrev pub by_type : (ObjectType → Layout) → ObjectType → Layout
by_type f x = record {
  part = (f x).part;
  read = (f x).read;
  render = (f x).render;
  kinds = type_kinds f;
  tags = exact.look any_tag false (tags []);
  all = type_all f;
  only = type_only f x;
  Fine = (y : ObjectType) → OfType (type_kinds f) (f y);
}

-- just one element, and then possibly fill
abbrev pub alone : (kind : ℕ) (P : Layout) → Layout
alone kind P = record {
  part = grammar.◌and◌ P.part (grammar.fill kind);
  read = λ s own. before_fill s (P.read s own) then only_fill s kind;
  render = P.render next r_fill kind;
  kinds = seq_look P.kinds (fill_look kind);
  tags = exact.look P.tags.first false close;
  all = P.all ++ kind ∷ [];
  only = and_only P.part (grammar.fill kind) P.only (fill_only kind);
  Fine = P.Fine × T (ltb kind 65536) × T (avoids (kind ∷ []) P.kinds.stop) × T (not P.tags.empty) × T (is_free P.tags.stop) × Solid P.tags.first;
}

infixl 20 ◌and◌
