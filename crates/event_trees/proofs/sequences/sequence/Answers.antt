use Rattle.event_trees.specs.Stacks.{declared_by, all_names}
use Rattle.event_trees.proofs.Known.{Adds-twice, AllPass-first, AllPass-second, Grows-Adds, Grows-twice, texts_stay}
use Rattle.event_trees.proofs.sequences.sequence.Goals as goal

pub returns-clause-built : goal.returns-clause-built
returns-clause-built c = record {
  named = λ final g i. record {
    temporaries = texts_stay c.in_ok-temporaries.temporaries c.args.found.temporaries (Grows-twice (Grows-Adds c.in_ok-statements.ensures.adds) g) c.in_ok-temporaries.ensures.numbers i;
    statements = c.in_ok-statements.ensures.built final g i;
    tail = c.args.found.tail;
  };
}

pub returns-clause-adds : goal.returns-clause-adds
returns-clause-adds c =
    let first = declared_by (λ t. t) c.args.found.temporaries in
    let second = all_names c.args.found.events in
    Adds-twice (λ p h. (AllPass-first p first second h, AllPass-second p first second h)) c.in_ok-temporaries.ensures.adds c.in_ok-statements.ensures.adds
