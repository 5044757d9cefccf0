use Rattle.std.proofs.Common.{ap, ◌∙◌}
use Rattle.rb_base.specs.Names.{name_at}
use Rattle.st_meaning.specs.StoreView.{store_of}
use Rattle.st_interp.specs.Machine.{rest}
use Rattle.st_interp.proofs.Plug.{no_method}
use Rattle.st_interp.proofs.state.Machine.not_understood.Goals as goal

pub returns-clause-rest : goal.returns-clause-rest
returns-clause-rest c = λ i args.
    let names = c.args.program.now.names in
    ap (rest i names c.args.self.now) c.fails.ensures
    ∙ no_method i names c.args.self.now.stack.items c.args.receiver.now _ _ (name_at names c.args.selector) _ args (store_of names c.args.self.now.store) (c.in_ok-class.ensures ∙ c.class_name-class.ensures) c.is_class.ensures (c.in_ok-text.ensures ∙ ap (λ z. name_at z c.args.selector) c.names.ensures)
