-- Parts of a template that a function of the code reads: one after the other, as Layouts has them.
use Rattle.std.specs.Prelude.{ℕ, ◌-◌, Bool, false, ◌&&◌, List, [], ◌∷◌, eqb, Err, Ok}
use Rattle.std.proofs.Math.Seq.{slice}
use Rattle.elements.specs.declared.fault.Fault.TheVariants.{Missing}
use Rattle.elements.specs.Choice.{choose, pick}
use Rattle.elements.specs.Header.{header}
use Rattle.rules.specs.declared.table.Need.TheVariants.{Optional}
use Rattle.rules.specs.declared.table.Sequence.TheVariants.{Template, Discretionary, OdfPath, InfoPath}
use Rattle.rules.specs.Reading.{rec, Res, took, fails, also, and_then, Reader, Body, ◌then◌}
use Rattle.rules.specs.Parts.{component, components, element, repeat, rest, sealed}
use Rattle.rules.specs.Tables.{path_kind, template_rows, discretionary_rows, rest_of, kept_of}
use Rattle.rules.specs.Objects.{path_from}
use Rattle.rules.specs.Rulings.{ours, headed_by}
use Rattle.rules.specs.Files.{to_fill}
use Rattle.rules.specs.FileLayouts.{dir_body}
use Rattle.elements.specs.Answer.{Head}

-- "5 where a template of ours has neither path nor 73": it is ours, and neither moved the place from where its label ends, i, to where its path ends, j, and its 73, k
abbrev pub unreached_by : Bool → ℕ → ℕ → ℕ → Bool
unreached_by mine i j k = mine && (eqb i j && eqb j k)

abbrev pub settled : Bool → ℕ → ℕ → ℕ → ℕ → ℕ → Res
settled mine i j k end n = choose (unreached_by mine i j k) (λ _. fails Missing end) (λ _. took [] [] n)

module _ (s : List ℕ) where
  -- providerId and odf_path; ciaInfoPath; aid; the SET; the rest
  abbrev pub odf_path : Reader
  odf_path = component s 0x06 Optional (sealed s 0x0206 [] 0x06) then component s 0x30 Optional (path_from s (path_kind OdfPath))

  abbrev pub both_paths : Reader
  both_paths = odf_path then component s 0xa0 Optional (path_from s (path_kind InfoPath))

  abbrev pub with_aid : Reader
  with_aid = both_paths then components s discretionary_rows

  abbrev pub with_set : Reader
  with_set = with_aid then component s 0x31 Optional (sealed s 0x020e [] 0x31)

  abbrev pub discretionary : Reader
  discretionary = with_set then rest s (rest_of Discretionary) (kept_of Discretionary)

  -- a 73 behind its empty record
  abbrev pub opened : Reader
  opened end at = headed_by 0x0205 (λ _. []) (discretionary end at)

  abbrev pub opened_body : Body
  opened_body at a e = opened e a

  -- whether the element at a place begins as our identifiers do
  abbrev pub ours_in : Head → Bool
  ours_in (Err r) = false
  ours_in (Ok x) = ours (slice x.1 x.2 s)

  abbrev pub ours_at : ℕ → ℕ → Bool
  ours_at end at = ours_in (header s at end)

  -- its rest; a 73 and this; a path and these; identifier and label and these
  abbrev pub from_rest : Bool → ℕ → ℕ → Reader
  from_rest mine i j end k = and_then (rest s (rest_of Template) (kept_of Template) end k) (λ n. settled mine i j k end n)

  abbrev pub from_inner : Bool → ℕ → Reader
  from_inner mine i end j = and_then (component s 0x73 Optional opened_body end j) (λ k. from_rest mine i j end k)

  abbrev pub from_path : Bool → Reader
  from_path mine end i = and_then (components s (slice 2 3 template_rows) end i) (λ j. from_inner mine i end j)

  abbrev pub from_name : Bool → Reader
  from_name mine end at = and_then (components s (slice 0 2 template_rows) end at) (λ i. from_path mine end i)

  -- a template behind the record that tells whether it is ours
  abbrev pub template : Reader
  template end at = headed_by 0x0201 (λ _. pick (ours_at end at) 1 0 ∷ []) (from_name (ours_at end at) end at)

  -- an element of EF.DIR, its elements up to the fill, these behind the file's record
  abbrev pub item : Reader
  item = element s (dir_body s)

  abbrev pub items : Reader
  items end at = repeat (to_fill s) (λ _. item) (end - at) 0 end at

  abbrev pub headed_items : Reader
  headed_items end at = also (rec 0x0200 [] ∷ []) [] (items end at)
