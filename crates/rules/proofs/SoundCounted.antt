-- The same of what holds objects: with what is counted in it, of so many in all.
use Rattle.std.specs.Prelude.{ℕ, ◌≤◌, [], ◌∷◌, Bool, true, false, ◌≡◌, get_or, ltb, T}
use Rattle.std.proofs.Math.Option.{Option}
use Rattle.std.proofs.Common.{arith}
use Rattle.elements.specs.declared.fault.Fault.{Fault}
use Rattle.elements.specs.declared.fault.Fault.TheVariants.{ManyObjects}
use Rattle.rules.specs.Reading.{Rec}
use Rattle.rules.specs.Parts.{element, up_to}
use Rattle.rules.specs.Looks.{look}
use Rattle.rules.specs.Rendering.{within, from}
use Rattle.rules.specs.Grammar as grammar
use Rattle.rules.specs.Grammar.{one}
use Rattle.rules.specs.ElementLaws.{LowTag}
use Rattle.rules.specs.FaultLaws.{of_reading}
use Rattle.rules.specs.LookLaws.{under}
use Rattle.rules.specs.RenderLaws.{weaken}
use Rattle.rules.specs.GrammarLaws as exact
use Rattle.rules.specs.GrammarLaws.{tags, is_close, inside_law}
use Rattle.rules.specs.NumberedLaws as laws
use Rattle.rules.specs.Bytewise.{b_get, within_b, from_b}
use Rattle.rules.specs.Layout.{Layout}
use Rattle.rules.specs.Layouts.{contents}
use Rattle.rules.specs.Counted.{Counted, FileLayout, listed, filed, single, numbered, numbered_body, Paid}
use Rattle.rules.specs.Entries.{object, object_tag}
use Rattle.rules.proofs.Lawful.{LawfulCounted, LawfulFile, closed, listed_lawful, filed_lawful, single_lawful}
use Rattle.rules.proofs.Sound.{Sound}
use Rattle.rules.proofs.SoundLayouts.{contents_sound}

-- of a layout in which something is counted
pub record SoundCounted (P : Counted) : Type 0 where
  pub lawful : P.Fine → LawfulCounted P.most P.part P.count P.read P.render P.kinds P.tags

-- the same of a file
pub record SoundFile (P : FileLayout) : Type 0 where
  pub lawful : P.Fine → LawfulFile P.most P.part P.count P.read P.render P.kinds

-- one after the other, to the end of the container
pub listed_sound : {P : Counted} → SoundCounted P → SoundCounted (listed P)
listed_sound f = record { lawful = λ z. listed_lawful (f.lawful z.0) z.1 z.2 z.3 }

-- a record in front, one after the other, and then possibly fill
pub filed_sound : {P : Counted} (f : Option Rec) (kind : ℕ) → SoundCounted P → SoundFile (filed f kind P)
filed_sound f kind x = record { lawful = λ z. filed_lawful (x.lawful z.0) f kind z.1 z.2 z.3 z.4 z.5 z.6 z.7 }

-- the same of at most one: a second is g
pub single_sound : {P : Counted} (g : Fault) (f : Option Rec) (kind : ℕ) → SoundCounted P → SoundFile (single g f kind P)
single_sound g f kind x = record { lawful = λ z. single_lawful (x.lawful z.0.0) f kind z.0.1 z.0.2 z.0.3 z.0.4 z.0.5 z.0.6 z.0.7 g z.1 z.2 }

-- an element with one of these tags, behind a record that tells where it stands
pub numbered_lawful : (most : ℕ) (f : Fault) (kind : ℕ) (which : ℕ → Bool) (P : ℕ → ℕ → Layout) (each : (y t : ℕ) → Sound (P y t)) (x : ℕ) → ((y t : ℕ) → (P y t).Fine × T (under (P y t).kinds (P 0 0).kinds) × T (is_close (P y t).tags.stop) × Paid (P y t).part) → ((t : ℕ) → which t ≡ true → LowTag t) →
    T (ltb kind 65536) → 1 ≤ most → T (of_reading f) →
    LawfulCounted most (one (grammar.numbered kind which x (λ t. (P x t).part))) (λ _. 1) (λ site s. up_to most f (λ _. element s (numbered_body kind which (P x) x site s)))
    (from (λ k p. within (get_or p 1 0) (P (get_or p 0 0) (get_or p 1 0)).render)) (look (kind ∷ []) false (P 0 0).kinds.stop 0) (exact.look which false (tags []))
numbered_lawful most f kind which P each x fine real z m told = record {
  exact = λ site s b l k h. laws.numbered_law kind which x (λ t. (P x t).part) real site s b l most f told (λ t. (P x t).read s 0) (λ t. inside_law (((each x t).lawful (fine x t).0).exact site s b l 0 (omega arith)) (closed (P x t).tags.stop (fine x t).2)) m k h;
  renders = laws.numbered_renders kind which x (λ t. (P x t).part) real (λ y t. (P y t).render) (P 0 0).kinds (λ t. weaken (P x t).kinds (P 0 0).kinds (fine x t).1 ((each x t).lawful (fine x t).0).renders) (λ t. (fine x t).3) z;
  clean = from_b (λ k p a. within_b (get_or p 1 0) (b_get p 1 a) ((each (get_or p 0 0) (get_or p 1 0)).lawful (fine (get_or p 0 0) (get_or p 1 0)).0).clean);
}

pub numbered_sound : (most : ℕ) (f : Fault) (kind : ℕ) (which : ℕ → Bool) (P : ℕ → ℕ → Layout) → ((y t : ℕ) → Sound (P y t)) → (x : ℕ) → SoundCounted (numbered most f kind which P x)
numbered_sound most f kind which P each x = record { lawful = λ z. numbered_lawful most f kind which P each x z.0 z.1 z.2 z.3 z.4 }

-- an object
pub object_sound : (entry : ℕ) → SoundCounted (object entry)
unfolding object
object_sound = numbered_sound 128 ManyObjects 0x0120 object_tag contents contents_sound
