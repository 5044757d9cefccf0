use Rattle.std.proofs.lemmas.Result.{on_ok_weaker}
use Rattle.event_trees.specs.Stacks.{declared_by}
use Rattle.event_trees.proofs.Known.{Adds-twice, AllPass-first, AllPass-second, Grows-Adds, texts_stay}
use Rattle.event_trees.proofs.Making.{builds_scope}
use Rattle.event_trees.proofs.building.enter.Goals as goal

pub returns-clause-built : goal.returns-clause-built
returns-clause-built c = on_ok_weaker c.scope.result (builds_scope c.args.parameters.now c.args.temporaries.now c.in_ok-first.first c.in_ok-second.second (texts_stay c.in_ok-first.first c.args.parameters.now (Grows-Adds c.in_ok-second.ensures.adds) c.in_ok-first.ensures.numbers) c.in_ok-second.ensures.numbers) c.scope.ensures

pub returns-clause-adds : goal.returns-clause-adds
returns-clause-adds c =
    let first = declared_by (λ n. n) c.args.parameters.now in
    let second = declared_by (λ n. n) c.args.temporaries.now in
    on_ok_weaker c.scope.result (λ _. Adds-twice (λ p h. (AllPass-first p first second h, AllPass-second p first second h)) c.in_ok-first.ensures.adds c.in_ok-second.ensures.adds) c.scope.ensures
