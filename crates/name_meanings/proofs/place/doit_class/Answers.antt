use Rattle.std.proofs.Common.{ap, sym, ◌∙◌}
use Rattle.std.specs.Prelude.{codes}
use Rattle.std.specs.Option.{option_and_then}
use Rattle.class_table.specs.View.{class_name}
use Rattle.name_meanings.proofs.DoItClass.{text-live, text-named}
use Rattle.name_meanings.proofs.place.doit_class.Goals as goal

pub returns-clause-live : goal.returns-clause-live
returns-clause-live c = λ k e. text-live c.args.image.now c.requires (codes "UndefinedObject") k (sym c.class_of_text.ensures ∙ e)

pub returns-clause-class : goal.returns-clause-class
returns-clause-class c =
    ap (option_and_then (class_name c.args.image.now.classes)) c.class_of_text.ensures ∙ text-named c.args.image.now c.requires (codes "UndefinedObject")
