use Rattle.std.proofs.Common.{◌&&◌, ◌||◌, not, ◌∙◌, sym}
use Rattle.class_table.specs.View.{number_image}
use Rattle.conditions.proofs.CodeAsked.{named-below}
use Rattle.conditions.proofs.code.is_variable_free.Goals as goal

pub returns : goal.returns
returns g c =
    let i = number_image c.args.image.now in
    let there = sym c.if-not-is_class.false ∙ c.is_class.ensures in
    let above = sym c.if-is_defined_above.false ∙ c.is_defined_above.ensures in
    let below = sym c.if-is_defined_below.false ∙ c.is_defined_below.ensures in
    let found = c.in_ok-found.ensures ∙ named-below i c.args.class c.args.variable in
    λ j. there j && not (above j || (below j || found j))
