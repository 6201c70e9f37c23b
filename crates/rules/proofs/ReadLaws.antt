-- What was read as a part of a card: where it ends, that its records are not too long, and that they fit a book.
use Rattle.std.specs.Prelude.{ℕ, ◌+◌, ◌-◌, ◌*◌, ◌≤◌, List, ◌≡◌, length}
use Rattle.std.proofs.Common.{ap, subst, ◌∙◌, arith, length-append}
use Rattle.std.proofs.Math.Seq.{slice, length-slice}
use Rattle.elements.specs.Lists.{Bytes}
use Rattle.rules.specs.Reading.{Rec, Res, took}
use Rattle.rules.specs.Looks.{Look}
use Rattle.rules.specs.Rendering.{Renderer}
use Rattle.rules.specs.LookLaws.{size, Laid}
use Rattle.rules.specs.RenderLaws.{Renders}
use Rattle.rules.specs.Grammar.{Site, site_of, here, Part}
use Rattle.rules.specs.GrammarLaws.{Stop, Facts, Reads, takes}
use Rattle.rules.specs.Layouts as layouts
use Rattle.rules.proofs.SoundLayouts.{cia_sound, cia_fine}
use Rattle.rules.proofs.SoundFiles.{od_sound, od_fine}
use Rattle.rules.specs.Files.{cia, od}

pub record Kept (s : List ℕ) (credit end at : ℕ) (rs : List Rec) (n : ℕ) : Type 0 where
  pub low : at ≤ n
  pub high : n ≤ end
  pub bound : size rs ≤ 4 * (n - at) + credit
  pub laid : Laid (length s) rs

pub facts_kept : {site : Site} {s : List ℕ} {P : Part} {q : Renderer} {L : Look} {c : P.Of → ℕ} {k N : ℕ} {t : Stop} {end at : ℕ} {rs : List Rec} {ms : List ℕ} {n : ℕ} → Renders P q L → end ≤ length s → Facts site s P c k N t end at rs ms n → Kept s L.credit end at rs n
facts_kept {site} {s} {P} {end = end} {at = at} {n = n} r l f =
    let x = f.it in
    let m : length (slice at end s) ≡ length (P.bytes x) + length (slice n end s) = ap length f.bytes ∙ length-append (P.bytes x) (slice n end s) in
    let v : length (P.bytes x) ≡ n - at = omega (arith, m, length-slice at end s l, length-slice n end s l, f.low, f.high) in
    record { low = f.low; high = f.high; bound = rw f.book (omega (arith, r.bound (here site at) x f.meets)); laid = rw f.book (r.laid (here site at) x f.meets (length s) (omega (arith, f.high))) }

-- what was taken, by its law
pub reads_facts : {site : Site} {s : List ℕ} {P : Part} {c : P.Of → ℕ} {k N : ℕ} {t : Stop} {end at : ℕ} {w : Res} {rs : List Rec} {ms : List ℕ} {n : ℕ} → Reads site s P c k N t end at w → w ≡ took rs ms n → Facts site s P c k N t end at rs ms n
reads_facts {site} {s} {P} {c} {k} {N} {t} {end} {at} {w} {rs} {ms} {n} o e = go (subst (Reads site s P c k N t end at) e o)
  where
    go : Reads site s P c k N t end at (took rs ms n) → Facts site s P c k N t end at rs ms n
    go (takes f) = f

module _ (s : List ℕ) (bytes : Bytes s) (small : length s ≤ 32768) (end at : ℕ) (h : at ≤ end) (l : end ≤ length s) {rs : List Rec} {ms : List ℕ} {n : ℕ} where
  pub cia_kept : cia s end at ≡ took rs ms n → Kept s 3 end at rs n
  unfolding layouts.cia
  cia_kept e = let x = cia_sound.lawful cia_fine in facts_kept x.renders l (reads_facts ((x.exact (site_of 0 at) s bytes small 0 (omega arith)).sound end at h l) e)

  pub od_kept : od s end at ≡ took rs ms n → Kept s 3 end at rs n
  unfolding od
  od_kept e = let x = od_sound.lawful od_fine in facts_kept x.renders l (reads_facts ((x.exact (site_of 0 at) s bytes small 0 (omega arith)).sound 0 at end (omega arith) h l) e)
