use Rattle.std.proofs.Common.{sym, ap, ◌∙◌}
use Rattle.st_tree.specs.View.{method_from}
use Rattle.st_tree.proofs.Back.{method_from-method_of}
use Rattle.abstract_plans.specs.Abstracted.{accessor_rec}
use Rattle.abstract_plans.proofs.Fits.{getter-known, setter-known}
use Rattle.abstract_plans.proofs.planning.accessors.Goals as goal

pub accessor-requires : goal.accessor-requires
accessor-requires c = getter-known c.args.image.now c.args.abstraction.now c.requires c.in_ok-reads.reads c.in_ok-reads.ensures

pub accessor-requires-2 : goal.accessor-requires-2
accessor-requires-2 c = setter-known c.args.image.now c.args.abstraction.now c.requires c.in_ok-writes.writes c.in_ok-writes.ensures

pub returns-clause-reader : goal.returns-clause-reader
returns-clause-reader c =
    c.in_ok-accessor.ensures
    ∙ ap (accessor_rec c.args.image.now.names c.args.class) (sym (method_from-method_of c.in_ok-reads.reads) ∙ ap method_from c.in_ok-reads.ensures)

pub returns-clause-writer : goal.returns-clause-writer
returns-clause-writer c =
    c.in_ok-accessor-2.ensures
    ∙ ap (accessor_rec c.args.image.now.names c.args.class) (sym (method_from-method_of c.in_ok-writes.writes) ∙ ap method_from c.in_ok-writes.ensures)
