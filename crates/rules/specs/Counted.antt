-- What holds objects, said once as a layout is: with what is counted in it, of so many in all, after those before it. And the layouts of files.
use Rattle.std.specs.Prelude.{ℕ, ◌+◌, ◌-◌, ◌*◌, ◌≤◌, List, [], ◌∷◌, Bool, true, false, not, ◌≡◌, length, get_or, ltb, T}
use Rattle.std.proofs.Math.Option.{Option}
use Rattle.elements.specs.declared.fault.Fault.{Fault}
use Rattle.elements.specs.declared.fault.Fault.TheVariants.{NotDue}
use Rattle.elements.specs.Choice.{choose}
use Rattle.rules.specs.Reading.{Rec, rec, fails, also, ◌then◌, Reader, Body}
use Rattle.rules.specs.Parts.{element, repeat, up_to, to_end}
use Rattle.rules.specs.Rulings.{counts}
use Rattle.rules.specs.Looks.{Look, look, seq_look, many_look, fill_look}
use Rattle.rules.specs.Rendering.{Renderer, ◌next◌, within, from, r_all, r_fill}
use Rattle.rules.specs.Fills.{to_fill, fill}
use Rattle.rules.specs.Grammar as grammar
use Rattle.rules.specs.Grammar.{Site, Where, here, Part, one, many, numbers, total}
use Rattle.rules.specs.ElementLaws.{LowTag}
use Rattle.rules.specs.FaultLaws.{of_reading}
use Rattle.rules.specs.LookLaws.{avoids, repeats, under, size}
use Rattle.rules.specs.GrammarLaws as exact
use Rattle.rules.specs.GrammarLaws.{tags, close, is_close, inside_law}
use Rattle.rules.specs.Faces.{is_free}
pub use Rattle.rules.specs.Faces.{front_of, ahead, r_ahead, part_ahead, ahead_look, Short, Solid}
use Rattle.rules.specs.Layout.{Layout}

-- a layout in which something is counted, `most` at most
pub record Counted : Type 1 where
  pub most : ℕ
  pub part : Part
  pub count : part.Of → ℕ
  -- read site s k: in that file of the dump s, after k that were counted
  pub read : Site → List ℕ → ℕ → Reader
  pub render : Renderer
  pub kinds : Look
  pub tags : exact.Look
  pub Fine : Type 0

-- the same of a file
pub record FileLayout : Type 1 where
  pub most : ℕ
  pub part : Part
  pub count : part.Of → ℕ
  pub read : Site → List ℕ → ℕ → Reader
  pub render : Renderer
  pub kinds : Look
  pub Fine : Type 0

-- one after the other, to the end of the container
abbrev pub listed : Counted → Counted
listed P = record {
  most = P.most;
  part = many P.part;
  count = total P.count;
  read = λ site s k end at. repeat to_end (P.read site s) (end - at) k end at;
  render = r_all P.kinds.first P.render;
  kinds = many_look P.kinds;
  tags = exact.look P.tags.first true close;
  Fine = P.Fine × T (repeats P.kinds) × T (not P.tags.empty) × T (is_free P.tags.stop);
}

-- a record in front, one after the other, and then possibly fill
abbrev pub filed : Option Rec → ℕ → Counted → FileLayout
filed f kind P = record {
  most = P.most;
  part = part_ahead f (grammar.◌and◌ (many P.part) (grammar.fill kind));
  count = λ x. total P.count x.0;
  read = λ site s k. ahead f (λ end at. repeat (to_fill s) (P.read site s) (end - at) k end at) then fill s kind;
  render = r_ahead f (r_all P.kinds.first P.render) next r_fill kind;
  kinds = seq_look (ahead_look f (many_look P.kinds)) (fill_look kind);
  Fine = P.Fine × Short f × T (repeats P.kinds) × T (not P.tags.empty) × T (is_free P.tags.stop) × Solid P.tags.first × T (ltb kind 65536) × T (avoids (kind ∷ []) (ahead_look f (many_look P.kinds)).stop);
}

-- the same of at most one: a second is g
abbrev pub single : Fault → Option Rec → ℕ → Counted → FileLayout
single g f kind P = record {
  most = P.most;
  part = grammar.with (filed f kind P).part (λ x. length x.0 ≤ 1);
  count = (filed f kind P).count;
  read = λ site s k. ahead f (λ end at. repeat (to_fill s) (up_to (k + 1) g (P.read site s)) (end - at) k end at) then fill s kind;
  render = (filed f kind P).render;
  kinds = (filed f kind P).kinds;
  Fine = (filed f kind P).Fine × ((x : P.part.Of) → P.count x ≡ 1) × T (of_reading g);
}

-- an element with one of these tags, behind a record that tells x, its tag and where it stands: counted by its place, and one too many is f
abbrev pub numbered_body : ℕ → (ℕ → Bool) → (ℕ → Layout) → ℕ → Site → List ℕ → ℕ → Body
numbered_body kind which P x site s t at a e = choose (which t) (λ _. counts at (also (rec kind (x ∷ t ∷ numbers (here site at)) ∷ []) [] ((P t).read s 0 e a))) (λ _. fails NotDue at)

-- what stands in it pays for the numbers in its record
abbrev pub Paid : Part → Type 0
Paid P = (v : Where) (i : P.Of) → P.Meets i → 2 + size (P.book v i) ≤ 4 * length (P.bytes i)

abbrev pub numbered : (most : ℕ) → Fault → (kind : ℕ) → (ℕ → Bool) → (ℕ → ℕ → Layout) → ℕ → Counted
numbered most f kind which P x = record {
  most = most;
  part = one (grammar.numbered kind which x (λ t. (P x t).part));
  count = λ _. 1;
  read = λ site s. up_to most f (λ _. element s (numbered_body kind which (P x) x site s));
  render = from (λ k p. within (get_or p 1 0) (P (get_or p 0 0) (get_or p 1 0)).render);
  kinds = look (kind ∷ []) false (P 0 0).kinds.stop 0;
  tags = exact.look which false (tags []);
  Fine = ((y t : ℕ) → (P y t).Fine × T (under (P y t).kinds (P 0 0).kinds) × T (is_close (P y t).tags.stop) × Paid (P y t).part) × ((t : ℕ) → which t ≡ true → LowTag t) × T (ltb kind 65536) × (1 ≤ most) × T (of_reading f);
}
