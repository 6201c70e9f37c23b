-- Conditions: each sort said once, what it is, how it is read and how it is rendered.
use Rattle.std.specs.Prelude.{ℕ, zero, suc, ◌+◌, ◌-◌, ◌≤◌, List, [], ◌∷◌, Bool, true, false, ◌&&◌, length, ltb, eqb}
use Rattle.elements.specs.Choice.{choose}
use Rattle.elements.specs.Length.{wrap}
use Rattle.elements.specs.Put.{le16}
use Rattle.elements.specs.declared.fault.Fault.TheVariants.{BadNull, ManyConditions, Missing, TooDeep}
use Rattle.rules.specs.declared.table.Sort.{Sort}
use Rattle.rules.specs.declared.table.Sort.TheVariants.{Always, Identifier, Not, And, Or, Other}
use Rattle.rules.specs.Reading.{rec, took, fails, also, ◌then◌, Reader, Body, count}
use Rattle.rules.specs.Parts.{element, ended, sealed, repeat, to_end}
use Rattle.rules.specs.Tables.{tag_of, kind_of, sort_by}
use Rattle.rules.specs.Rulings.{counts, listed, identified}
use Rattle.rules.specs.Rendering.{gives, Renderer, nothing, within, from, r_times}
use Rattle.rules.specs.Grammar as grammar
use Rattle.rules.specs.Grammar.{Item, empty, one, tagged, with, behind, many, sealed_one, never, raw}

-- a condition: its element; how it is read, after k others of its list; how it is rendered
pub record Condition : Type 1 where
  pub item : Item
  pub read : List ℕ → ℕ → Reader
  pub render : Renderer

-- a sort of condition: its element; how many conditions are counted in it; how it is read once its header is; how it is rendered from its record's payload
pub record Sorted : Type 1 where
  pub item : Item
  pub inside : item.Of → ℕ
  pub body : List ℕ → ℕ → Body
  pub render : List ℕ → Renderer

-- nothing is inside
abbrev pub empty_handed : Sort → Sorted
empty_handed x = record {
  item = tagged (tag_of x) (behind empty (λ _. rec (kind_of x) []));
  inside = λ _. 0;
  body = λ s t at a e. took (rec (kind_of x) [] ∷ []) [] e;
  render = λ p rs. gives (wrap (tag_of x) []) rs;
}

-- "Identifiers are 0 to 255 bytes"
abbrev pub naming : Sorted
naming = record {
  item = tagged (tag_of Identifier) (raw (rec (kind_of Identifier)) (λ c. length c ≤ 255));
  inside = λ _. 0;
  body = λ s t at a e. identified s at a e;
  render = λ p rs. gives (wrap (tag_of Identifier) p) rs;
}

-- one is inside
abbrev pub around : Sort → Condition → Sorted
around x c = record {
  item = tagged (tag_of x) (behind (one c.item) (λ _. rec (kind_of x) []));
  inside = λ _. 1;
  body = λ s t at a e. also (rec (kind_of x) [] ∷ []) [] (((λ f i. c.read s 0 f i) then ended s) e a);
  render = λ p. within (tag_of x) (λ rs. c.render rs);
}

-- "each 2 to 255 inside, 2-byte count"
abbrev pub Several : {A : Type 0} → List A → Type 0
Several xs = (2 ≤ length xs) × (length xs ≤ 255)

abbrev pub several : Sort → Condition → Sorted
several x c = record {
  item = tagged (tag_of x) (behind (with (many (one c.item)) Several) (λ y. rec (kind_of x) (le16 (length y))));
  inside = λ _. 0;
  body = λ s t at a e. listed (kind_of x) e (repeat to_end (λ j f i. c.read s j f i) (e - a) 0 e a);
  render = λ p. within (tag_of x) (r_times (count p) (λ rs. c.render rs));
}

-- a tag of no other sort
abbrev pub is_other : Sort → Bool
is_other Always = false
is_other Identifier = false
is_other Not = false
is_other And = false
is_other Or = false
is_other Other = true

abbrev pub sealed_as : Sort → Sorted
sealed_as x = record {
  item = sealed_one (λ t. is_other (sort_by tag_of t)) (kind_of x) (λ _. []);
  inside = λ _. 0;
  body = λ s t at a e. sealed s (kind_of x) [] t at a e;
  render = λ p rs. gives p rs;
}

-- "Conditions in prefix order: 05 00 always 0126; 04 identifier 0127; A0 not, one inside, 0129; A1 and 012A, A2 or 012B, each 2 to 255 inside, 2-byte count; another tag, sealed 0128"
abbrev pub sorts : Condition → Sort → Sorted
sorts c Always = empty_handed Always
sorts c Identifier = naming
sorts c Not = around Not c
sorts c And = several And c
sorts c Or = several Or c
sorts c Other = sealed_as Other

-- "value, range, then contents": the header is read, it is the nth of its list
unfoldable pub body_by_sort : (Sort → Sorted) → List ℕ → ℕ → ℕ → Body
body_by_sort S s nth t at a e =
    choose (eqb t (tag_of Always) && ltb a e) (λ _. fails BadNull at)
    (λ _. choose (ltb 255 nth) (λ _. fails ManyConditions at)
    (λ _. (S (sort_by tag_of t)).body s t at a e))

-- by its tag, or by its record's kind
abbrev pub by_sort : (Sort → Sorted) → Condition
by_sort S = record {
  item = grammar.by_sort (λ x. (S x).item);
  read = λ s k end at. counts at (element s (body_by_sort S s (k + 1)) end at);
  render = from (λ k p. (S (sort_by kind_of k)).render p);
}

-- "At most 8 deep (house), a leaf at the top being 1": of at most so many levels
unfoldable pub condition : ℕ → Condition
condition zero = record { item = never; read = λ s k end at. choose (ltb at end) (λ _. fails TooDeep at) (λ _. fails Missing end); render = nothing }
condition (suc l) = by_sort (sorts (condition l))

-- what is inside has l levels
unfoldable pub condition_as : List ℕ → ℕ → Sort → ℕ → Body
condition_as s l x t at a e = (sorts (condition l) x).body s t at a e

unfoldable pub condition_body : List ℕ → ℕ → ℕ → ℕ → Body
condition_body s l nth t at a e = body_by_sort (sorts (condition l)) s nth t at a e

unfoldable pub r_condition_as : ℕ → Sort → List ℕ → Renderer
r_condition_as l x p rs = (sorts (condition l) x).render p rs
