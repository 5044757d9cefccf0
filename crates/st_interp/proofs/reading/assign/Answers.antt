use Rattle.std.proofs.Common.{sym, ap, ◌∙◌}
use Rattle.std.proofs.lemmas.Result.{IfOk-weaker}
use Rattle.rb_base.specs.Names.{name_at}
use Rattle.class_table.specs.View.{image_of}
use Rattle.scope_model.specs.SpecialNames.{is_pseudo_variable}
use Rattle.run_model.specs.Reading.{binding_of}
use Rattle.st_meaning.specs.StoreView.{store_of}
use Rattle.st_interp.proofs.Naming.{assign_bound}
use Rattle.st_interp.proofs.reading.assign.Goals as goal

pub returns-in-Some-clause-ended : goal.returns-in-Some-clause-ended
returns-in-Some-clause-ended c =
    let i = image_of c.args.program.now in
    let s = store_of c.args.program.now.names c.args.store.now in
    let q = c.in_ok-text.ensures ∙ ap (λ z. name_at z c.args.name) c.names.ensures in
    IfOk-weaker c.assign_binding.result _ _ (λ e h. assign_bound i c.args.context.now _ c.in_ok-text.text c.args.value c.in-Some.binding.now _ s q (ap is_pseudo_variable (sym c.as_slice.ensures) ∙ sym c.is_pseudo.ensures ∙ c.if-is_pseudo.false) (ap (binding_of c.args.context.now) (sym c.as_slice-2.ensures) ∙ sym c.in-Some.ensures) (h c.args.program.now.names i c.args.context.now)) c.assign_binding.ensures.ended
