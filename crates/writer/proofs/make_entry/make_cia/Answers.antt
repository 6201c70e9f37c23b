use Rattle.rules.specs.Tables.{cia_rows}
use Rattle.rules.specs.Render.{Renderer, ◌next◌, within, r_rows, r_keep, r_fill}
use Rattle.makers.specs.MadeLaws.{enclosed, making, made_left_by, next_long, next_took}
use borrow.Author.Rules.{rules}
use Rattle.rules.specs.Layouts as layouts
use Rattle.writer.proofs.make_entry.make_cia.Goals as goal

abbrev info : Renderer
info = r_rows cia_rows next r_keep 0x0106

pub returns-in_err-made : goal.returns-in_err-made
unfolding layouts.cia layouts.info
returns-in_err-made c = made_left_by (next_long (within 0x30 info) (r_fill 0x0108) (enclosed info c.in_err-made.ensures (λ x out m out' g. search rules))) c.from_residual.ensures

pub make_fill-requires : goal.make_fill-requires
make_fill-requires c = making (enclosed info {b = c.args.b.now} c.in_ok-made.ensures (λ x out m out' g. search rules)) (search rules) (search rules)

pub returns : goal.returns
unfolding layouts.cia layouts.info
returns c = next_took (within 0x30 info) (r_fill 0x0108) (enclosed info c.in_ok-made.ensures (λ x out m out' g. search rules)) c.make_fill.ensures
