use Rattle.std.proofs.Common.{sym, ap, ◌∙◌}
use Rattle.std.specs.Option.{option_map}
use Rattle.rb_base.specs.Names.{name_at}
use Rattle.tree_model.specs.Tree.{map_literal, map_statements}
use Rattle.st_tree.specs.View.{statements_of}
use Rattle.script_model.specs.Parameters.{only_literal}
use Rattle.script_lang.proofs.PassedLiterals.{read-literal}
use Rattle.script_lang.proofs.parameters.literal_in.Goals as goal

pub returns-in-Some-clause-said : goal.returns-in-Some-clause-said
returns-in-Some-clause-said c =
    read-literal c.args.text.now c.in_ok-stands_alone.field-0 c.in_ok-stands_alone.ensures.alone _ _ (c.if-not-branch.false) c.in_ok-body.ensures.tree
    (ap (option_map (map_literal (name_at c.doit.new.names))) (sym c.in-Some.is) ∙ c.in_ok-literal.ensures.literal ∙ ap (λ ss. only_literal (map_statements (name_at c.doit.new.names) (statements_of ss))) c.as_slice.ensures)
