use Rattle.std.proofs.Common.{◌≡◌, ◌<◌, length, subst}
use Rattle.std.proofs.lemmas.Result.{IfOk-weaker, on_ok_weaker}
use Rattle.tree_model.specs.Tree.{map_method}
use Rattle.tree_model.specs.AllNames.{MethodNames}
use Rattle.grammar_model.specs.Spanned.{SpannedMethod, plain_method}
use Rattle.rb_base.specs.Names.{name_at}
use Rattle.parse_events.specs.declared.event.MethodEvents.{MethodEvents}
use Rattle.parse_events.specs.Found.{method_events}
use Rattle.st_tree.specs.View.{method_of}
use Rattle.event_trees.specs.Naming.{Adds, AllPass}
use Rattle.event_trees.specs.Trees.{MethodIs, method_names}
use Rattle.event_trees.proofs.Whole.{method_is, method_known, method_adds}
use Rattle.event_trees.proofs.sequences.build_method.Goals as goal

pub returns-clause-tree : goal.returns-clause-tree
returns-clause-tree c =
    let names = c.method.new.names in
    IfOk-weaker c.method.result (MethodIs names c.args.found) (λ b. (s : SpannedMethod) → c.args.found ≡ method_events s → map_method (name_at names) (method_of b) ≡ plain_method s)
    (λ b h s e. method_is names s b (subst (λ (f : MethodEvents). MethodIs names f b) e h)) c.method.ensures.built

pub returns-clause-known : goal.returns-clause-known
returns-clause-known c =
    let names = c.method.new.names in
    IfOk-weaker c.method.result (MethodIs names c.args.found) (λ b. (s : SpannedMethod) → c.args.found ≡ method_events s → MethodNames (λ n. n < length names) (method_of b))
    (λ b h s e. method_known names s b (subst (λ (f : MethodEvents). MethodIs names f b) e h)) c.method.ensures.built

pub returns-clause-adds : goal.returns-clause-adds
returns-clause-adds c =
    on_ok_weaker c.method.result (λ a s e. method_adds s (subst (λ (f : MethodEvents). Adds c.args.names.now c.method.new.names (AllPass (method_names f))) e a)) c.method.ensures.adds
