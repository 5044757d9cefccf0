use Rattle.std.proofs.Common.{◌≡◌, ◌++◌}
use Rattle.std.proofs.lemmas.Result.{IfOk-weaker}
use Rattle.tree_model.specs.Normal.{normal}
use Rattle.st_tree.specs.View.{sequence_of, method_of}
use Rattle.event_trees.specs.Stacks.{declared_by}
use Rattle.event_trees.specs.Naming.{Adds, AllPass}
use Rattle.event_trees.specs.Trees.{MethodIs, found_names, method_names}
use Rattle.event_trees.proofs.Known.{Adds-twice, AllPass-first, AllPass-second, Grows-Adds, Grows-twice, text_stays, texts_stay}
use Rattle.event_trees.proofs.Whole.{method_normal}
use Rattle.event_trees.proofs.sequences.method.Goals as goal

pub returns-clause-built : goal.returns-clause-built
returns-clause-built c =
    let found = c.args.found in
    let last = Grows-Adds c.in_ok-body.ensures.adds in
    let both = Grows-twice (Grows-Adds c.in_ok-arguments.ensures.adds) last in
    IfOk-weaker c.normalized.result
    (λ m. method_of m ≡ normal (record { selector = c.in_ok-selector.selector; arguments = c.in_ok-arguments.arguments; head = found.opening; primitive = found.primitive; body = sequence_of c.in_ok-body.body }))
    (λ m. MethodIs c.sequence.new.names found m)
    (λ m e. method_normal c.sequence.new.names found c.in_ok-selector.selector c.in_ok-arguments.arguments c.in_ok-body.body m (text_stays c.in_ok-selector.selector found.selector both c.in_ok-selector.ensures.number) (texts_stay c.in_ok-arguments.arguments found.arguments last c.in_ok-arguments.ensures.numbers) c.in_ok-body.ensures.built e)
    c.normalized.ensures

pub returns-clause-adds : goal.returns-clause-adds
returns-clause-adds c =
    let first = declared_by (λ t. t) c.args.found.arguments in
    let second = found_names c.args.found.body in
    let rest = Adds-twice {R = AllPass (first ++ second)} (λ p h. (AllPass-first p first second h, AllPass-second p first second h)) c.in_ok-arguments.ensures.adds c.in_ok-body.ensures.adds in
    IfOk-weaker c.normalized.result
    (λ m. method_of m ≡ normal (record { selector = c.in_ok-selector.selector; arguments = c.in_ok-arguments.arguments; head = c.args.found.opening; primitive = c.args.found.primitive; body = sequence_of c.in_ok-body.body }))
    (λ _. Adds c.args.names.now c.sequence.new.names (AllPass (method_names c.args.found))) (λ _ _. Adds-twice (λ p h. ((h.0, tt), h.1)) c.in_ok-selector.ensures.adds rest) c.normalized.ensures
