use Rattle.std.proofs.Common.{◌∙◌, ap, subst}
use Rattle.std.specs.Option.{option_and_then}
use Rattle.std.proofs.lemmas.Result.{IfOk-weaker}
use Rattle.rb_base.specs.Names.{name_at}
use Rattle.class_table.specs.Slots.{Slots}
use Rattle.class_table.specs.Valid.{IsOrderly}
use Rattle.st_program.specs.Slots.{class_slot}
use Rattle.st_program.specs.Definers.{means_from}
use Rattle.st_program.proofs.Meant.{meant}
use Rattle.st_program.proofs.program.Program.meaning.Goals as goal

pub returns : goal.returns
returns c =
    let s = c.args.self.now in
    let f = c.args.context.now in
    let text = c.as_slice-text.ensures ∙ ap (λ z. name_at z c.args.name) c.self.invariant.names ∙ ap (λ (z : Slots). name_at z.names c.args.name) c.self.view_is in
    IfOk-weaker c.meaning_of_text.result _ _
    (λ found h. h ∙ ap (means_from s (option_and_then (class_slot s) f.home.class) f.home.meta) text ∙ meant s (subst IsOrderly c.self.view_is c.self.invariant.orderly) f.home.class f.home.meta (name_at s.names c.args.name))
    c.meaning_of_text.ensures
