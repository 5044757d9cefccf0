use Rattle.std.proofs.Common.{false, length, Option, refl, sym, ap, ◌∙◌}
use Rattle.std.specs.Option.{option_map_or}
use Rattle.tree_model.specs.Tree.{TreeOf}
use Rattle.st_tree.proofs.Putting.{nth_here, nth_past}
use Rattle.parameter_questions.specs.Codes.{means_in, may_be_dropped}
use Rattle.parameter_questions.proofs.code.is_dropped.Goals as goal

pub returns-in-None : goal.returns-in-None
returns-in-None c =
    let xs = c.args.arguments.now in
    ap (λ (o : Option (TreeOf _)). option_map_or (may_be_dropped (means_in c.args.image.now c.args.code.now c.args.path.now)) o false) (sym (nth_past xs xs c.args.number (length xs) refl refl c.in-None.ensures.lookup.3))

pub returns-in-Some : goal.returns-in-Some
returns-in-Some c =
    let xs = c.args.arguments.now in
    c.may_be_dropped.ensures
    ∙ ap (λ (o : Option (TreeOf _)). option_map_or (may_be_dropped (means_in c.args.image.now c.args.code.now c.args.path.now)) o false)
    (sym (nth_here xs xs c.args.number (length xs) c.in-Some.argument.now refl refl c.in-Some.ensures.lookup.3.0 c.in-Some.ensures.lookup.1))
