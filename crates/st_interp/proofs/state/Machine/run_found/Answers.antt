use Rattle.std.proofs.Common.{sym, ap, ◌∙◌, option_map}
use Rattle.std.proofs.lemmas.Result.{IfOk-weaker}
use Rattle.rb_base.specs.Names.{name_at}
use Rattle.class_table.specs.View.{image_of}
use Rattle.run_model.specs.Acts.{acts}
use Rattle.run_model.specs.Eval.{does, runs_found, evaluates}
use Rattle.st_meaning.specs.StoreView.{store_of}
use Rattle.st_program.specs.Found.{entry_from}
use Rattle.st_interp.specs.Machine.{plug}
use Rattle.st_interp.proofs.state.Machine.run_found.Goals as goal

pub returns-in-None-clause-rest : goal.returns-in-None-clause-rest
returns-in-None-clause-rest c =
    let i = image_of c.args.program.now in
    let names = c.args.program.now.names in
    let s = store_of names c.args.self.now.store in
    IfOk-weaker c.not_understood.result _ _
    (λ n h. h i c.args.arguments.now ∙ ap (λ o. plug i names c.args.self.now.stack.items (runs_found acts i (evaluates i) (option_map (entry_from names) o) c.args.receiver (name_at names c.args.selector) c.args.arguments.now s)) (sym c.in-None.is))
    c.not_understood.ensures.rest

pub returns-in-Some-primitive-clause-rest : goal.returns-in-Some-primitive-clause-rest
returns-in-Some-primitive-clause-rest c =
    let i = image_of c.args.program.now in
    let names = c.args.program.now.names in
    let s = store_of names c.args.self.now.store in
    let m = entry_from names c.in-Some.found in
    IfOk-weaker c.primitive.result _ _
    (λ n h. h ∙ ap (λ p. plug i names c.args.self.now.stack.items (does acts i (evaluates i) p m c.args.receiver c.args.arguments.now s)) (sym c.in-Some-primitive.is)
    ∙ ap (λ o. plug i names c.args.self.now.stack.items (runs_found acts i (evaluates i) (option_map (entry_from names) o) c.args.receiver (name_at names c.args.selector) c.args.arguments.now s)) (sym c.in-Some.is))
    c.primitive.ensures.rest

pub returns-clause-rest : goal.returns-clause-rest
returns-clause-rest c =
    let i = image_of c.args.program.now in
    let names = c.args.program.now.names in
    let s = store_of names c.args.self.now.store in
    let m = entry_from names c.in-Some.found in
    IfOk-weaker c.activate.result _ _
    (λ n h. h i ∙ ap (λ p. plug i names c.args.self.now.stack.items (does acts i (evaluates i) p m c.args.receiver c.args.arguments.now s)) (sym c.in-None-primitive.is)
    ∙ ap (λ o. plug i names c.args.self.now.stack.items (runs_found acts i (evaluates i) (option_map (entry_from names) o) c.args.receiver (name_at names c.args.selector) c.args.arguments.now s)) (sym c.in-Some.is))
    c.activate.ensures.rest
