use Rattle.std.proofs.Common.{option_map, sym, ap, ◌∙◌}
use Rattle.std.proofs.lemmas.Result.{IfOk-weaker}
use Rattle.run_model.specs.Acts.{acts}
use Rattle.run_model.specs.Eval.{sequence, evaluates}
use Rattle.st_meaning.specs.StoreView.{closure_of, store_of}
use Rattle.st_interp.specs.Machine.{plug, rest}
use Rattle.st_interp.proofs.Plug.{closure_entered, no_closure}
use Rattle.st_interp.proofs.state.Machine.enter.Goals as goal

pub returns-in_default-clause-rest : goal.returns-in_default-clause-rest
returns-in_default-clause-rest c = λ i.
    let names = c.args.program.now.names in
    ap (rest i names c.args.self.now) c.fails.ensures
    ∙ no_closure i names c.args.self.now.stack.items c.args.closure c.args.arguments.now (store_of names c.args.self.now.store) (sym (c.closure.ensures names) ∙ ap (option_map (λ z. closure_of names z.now)) c.in_default.is)

pub returns-clause-rest : goal.returns-clause-rest
returns-clause-rest c =
    let names = c.args.program.now.names in
    let ks = c.args.self.now.stack.items in
    let s = store_of names c.args.self.now.store in
    let code = closure_of names c.in-Some.code.now in
    IfOk-weaker c.sequence.result _ _
    (λ n h i. h i ∙ ap (λ z. plug i names ks (sequence acts (evaluates i) z code.parameters c.args.arguments.now code.body s)) c.in_ok-context.ensures.cases ∙ closure_entered i names ks c.args.closure code c.args.arguments.now s (sym (c.in-Some.ensures names)))
    c.sequence.ensures.rest
