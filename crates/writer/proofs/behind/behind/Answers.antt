use mathlib.Core.Path.{refl}
use Rattle.elements.specs.AnswerLaws.{leaves}
use Rattle.makers.specs.MadeLaws.{front_grows, closed_none, closed_short, closed_front}
use Rattle.writer.proofs.behind.behind.Goals as goal

pub returns-in_err-made : goal.returns-in_err-made
returns-in_err-made g c = λ f t. (_, _, _, _, c.in_err-made.ensures, refl, c.opened.ensures.0, c.opened.ensures.2, rw (leaves c.from_residual.ensures) (closed_none (front_grows c.args.k f t.0)))

pub returns-then-made-o : goal.returns-then-made-o
returns-then-made-o g c = λ f t. (_, _, _, _, c.in_ok-made.ensures, refl, c.opened.ensures.0, c.opened.ensures.2, closed_short (front_grows c.args.k f t.0) c.if-made-o.true)

pub returns : goal.returns
returns g c = λ f t.
    let put = t.1 _ _ _ _ c.front.ensures in
    let ended = c.requires.ends_inside _ _ _ _ c.in_ok-made.ensures in
    (_, _, _, _, c.in_ok-made.ensures, refl, c.opened.ensures.0, c.opened.ensures.2, closed_front c.args.k f t.0 _ _ ended c.if-made-o.false put)
