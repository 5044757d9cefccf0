use Rattle.std.proofs.Common.{ℕ, List, sym, ap, subst, ◌∙◌}
use Rattle.std.specs.Prelude.{nat_eq}
use Rattle.std.proofs.lemmas.List.{map-id}
use Rattle.std.proofs.lemmas.Iterator.Adapters.{YieldsList-from_vec}
use Rattle.std.proofs.lemmas.Iterator.Consumers.{YieldsList-so_far, YieldsList-turn}
use Rattle.image_model.specs.Image.{ClassOf}
use Rattle.image_model.specs.Valid.{SuperclassesStandBefore}
use Rattle.file_model.specs.Hierarchy.{has_class}
use Rattle.image_draft.specs.Names.{NamesDiffer}
use Rattle.image_building.proofs.Turns.{at_turn, name_next, superclass_next}
use Rattle.image_building.proofs.classes.add_classes.Goals as goal

pub add_class-requires-clause-name_is_new : goal.add_class-requires-clause-name_is_new
add_class-requires-clause-name_is_new c =
    let gives = c.into_iter-class-iterator.ensures.into_iter_gives in
    let road = YieldsList-from_vec {s = c.into_iter-class-iterator.result} c.args.classes.items gives.0 (gives.1 ∙ c.args.classes.ok.0) in
    let past = YieldsList-so_far road c.loop-class.yielded c.loop-class.class-iterator c.loop-class.yielded_by in
    let next = YieldsList-turn road c.loop-class.yielded c.loop-class.class-iterator c.loop-class.yielded_by c.next.result c.next.new.self c.in-Some.class c.in-Some.is c.next.ensures.steps in
    let turn = at_turn c.args.classes.items c.loop-class.yielded c.in-Some.class (sym (map-id c.loop-class.yielded) ∙ past) next.0 next.1 in
    ap (λ (cs : List (ClassOf ℕ)). has_class nat_eq cs c.in-Some.class.name) c.loop-class.invariant.classes ∙ name_next c.loop-class.yielded c.in-Some.class turn.0 (subst NamesDiffer turn.1 c.requires.names_differ)

pub add_class-requires-clause-superclass_there : goal.add_class-requires-clause-superclass_there
add_class-requires-clause-superclass_there c = λ n e.
    let gives = c.into_iter-class-iterator.ensures.into_iter_gives in
    let road = YieldsList-from_vec {s = c.into_iter-class-iterator.result} c.args.classes.items gives.0 (gives.1 ∙ c.args.classes.ok.0) in
    let past = YieldsList-so_far road c.loop-class.yielded c.loop-class.class-iterator c.loop-class.yielded_by in
    let next = YieldsList-turn road c.loop-class.yielded c.loop-class.class-iterator c.loop-class.yielded_by c.next.result c.next.new.self c.in-Some.class c.in-Some.is c.next.ensures.steps in
    let turn = at_turn c.args.classes.items c.loop-class.yielded c.in-Some.class (sym (map-id c.loop-class.yielded) ∙ past) next.0 next.1 in
    ap (λ (cs : List (ClassOf ℕ)). has_class nat_eq cs n) c.loop-class.invariant.classes ∙ superclass_next c.loop-class.yielded c.in-Some.class turn.0 (subst (λ (cs : List (ClassOf ℕ)). SuperclassesStandBefore cs) turn.1 c.requires.superclasses_before) n e
