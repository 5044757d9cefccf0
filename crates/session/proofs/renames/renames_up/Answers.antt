use Rattle.std.proofs.Common.{None, Some, sym, ◌∙◌}
use Rattle.session.proofs.Superclass.{superclass-known, moved-up}
use Rattle.session.proofs.renames.renames_up.Goals as goal

pub returns-in-Some-clause-renaming : goal.returns-in-Some-clause-renaming
returns-in-Some-clause-renaming c =
    moved-up c.args.image.now c.args.class c.requires.orderly c.args.variable (Some c.in-Some.to) c.requires.class (sym c.superclass_name.ensures ∙ c.in-Some.is)

pub returns-in-Some-clause-known : goal.returns-in-Some-clause-known
returns-in-Some-clause-known c =
    (c.requires.class, c.requires.variable, superclass-known c.args.image.now c.args.class c.requires.orderly c.in-Some.to (sym c.superclass_name.ensures ∙ c.in-Some.is))

pub returns-in-None-clause-renaming : goal.returns-in-None-clause-renaming
returns-in-None-clause-renaming c = moved-up c.args.image.now c.args.class c.requires.orderly c.args.variable None c.requires.class (sym c.superclass_name.ensures ∙ c.in-None.is)
