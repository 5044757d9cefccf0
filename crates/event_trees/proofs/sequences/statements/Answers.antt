use Rattle.std.proofs.Common.{◌≡◌, List, [], ◌∷◌, length, Some, slice_get, sym, ap, ◌∙◌}
use Rattle.std.proofs.lemmas.List.{map-id}
use Rattle.std.proofs.lemmas.Iterator.Consumers.{YieldsList-end}
use Rattle.std.proofs.lemmas.Iterator.Adapters.{YieldsList-from_vec}
use Rattle.tree_model.specs.Tree.{map_statements}
use Rattle.st_tree.specs.View.{statements_of}
use Rattle.parse_events.specs.declared.event.Event.{Event}
use Rattle.event_trees.specs.Stacks.{nothing, step, steps, statements_in}
use Rattle.event_trees.specs.Held.{map_stacks}
use Rattle.event_trees.specs.Naming.{AllPass}
use Rattle.event_trees.proofs.Known.{Adds-none, Adds-twice, Grows-Adds, Grows-twice, AllPass-event}
use Rattle.event_trees.proofs.Making.{statements_held}
use Rattle.event_trees.proofs.Runs.{steps-append}
use Rattle.event_trees.proofs.sequences.statements.Goals as goal

pub loop-event-init : goal.loop-event-init
loop-event-init c = record {
  built = λ final g. ap (map_stacks (slice_get final)) c.in_ok-stacks.ensures;
  adds = Adds-none c.args.names.now (AllPass []);
}

pub loop-event-preserved : goal.loop-event-preserved
loop-event-preserved c = record {
  built = λ final g.
      c.in_ok-build.ensures.built.named final g ∙
      ap (λ s. step (λ t. Some t) s c.in-Some.event) (c.loop-event.invariant.built final (Grows-twice (Grows-Adds c.in_ok-build.ensures.adds) g)) ∙
      sym (steps-append (λ t. Some t) nothing c.loop-event.yielded (c.in-Some.event ∷ []));
  adds = Adds-twice (λ p h. AllPass-event p c.loop-event.yielded c.in-Some.event h) c.loop-event.invariant.adds c.in_ok-build.ensures.adds;
}

pub returns-clause-built : goal.returns-clause-built
returns-clause-built c =
    let gives = c.into_iter-event-iterator.ensures.into_iter_gives in
    let all = YieldsList-end (YieldsList-from_vec {s = c.into_iter-event-iterator.result} c.args.events (gives.0 ∙ c.into_vec-event-items.ensures) (gives.1 ∙ c.into_vec-event-items.result.ok.0 ∙ ap length c.into_vec-event-items.ensures)) c.loop-event.yielded c.loop-event.event-iterator c.loop-event.yielded_by c.next.result c.next.new.self c.in-None.is c.next.ensures.steps in
    let whole : c.loop-event.yielded ≡ c.args.events = sym (map-id c.loop-event.yielded) ∙ all.0 in
    λ final g.
    ap (λ ss. map_statements (slice_get final) (statements_of ss)) c.from_vec.ensures ∙ statements_held (slice_get final) c.loop-event.stacks ∙
    ap (λ s. statements_in s.statements) (c.loop-event.invariant.built final g) ∙
    ap (λ (es : List Event). statements_in (steps (λ t. Some t) nothing es).statements) whole
