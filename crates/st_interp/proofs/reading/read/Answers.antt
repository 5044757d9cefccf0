use Rattle.std.proofs.Common.{sym, ap, ◌∙◌}
use Rattle.rb_base.specs.Names.{name_at}
use Rattle.class_table.specs.View.{image_of}
use Rattle.st_meaning.specs.StoreView.{store_of}
use Rattle.st_interp.proofs.Naming.{read_bound}
use Rattle.st_interp.proofs.reading.read.Goals as goal

pub returns-in_ok-read_binding-in-Some : goal.returns-in_ok-read_binding-in-Some
returns-in_ok-read_binding-in-Some c =
    let i = image_of c.args.program.now in
    let s = store_of c.args.program.now.names c.args.store.now in
    let q = c.as_slice-text.ensures ∙ ap (λ z. name_at z c.args.name) c.names.ensures in
    read_bound i c.args.context.now _ _ c.in-Some.binding.now _ s q (sym c.is_pseudo.ensures ∙ c.if-is_pseudo.false) (sym c.in-Some.ensures) (c.in_ok-read_binding-in-Some.ensures c.args.program.now.names i c.args.context.now c.as_slice-text.result.now)
