use Rattle.std.proofs.Common.{◌≡◌, List, ap, ◌∙◌}
use Rattle.std.proofs.lemmas.Result.{IfOk-weaker}
use Rattle.rb_base.specs.Names.{name_at}
use Rattle.tree_model.specs.Tree.{map_names}
use Rattle.grammar_model.specs.Terminal.{Text}
use Rattle.pattern_model.specs.Named.{map_pattern}
use Rattle.pattern_model.specs.Spelled as model
use Rattle.patterns.specs.Names.{PatternNames}
use Rattle.event_trees.specs.Naming.{Grows}
use Rattle.event_trees.proofs.Known.{Grows-none}
use Rattle.pattern_trees.specs.Reading.{Known, IsPattern}
use Rattle.pattern_trees.proofs.Growing.{same_tree}
use Rattle.pattern_trees.proofs.walk.pattern_of.Goals as goal

pub returns-clause-pattern : goal.returns-clause-pattern
returns-clause-pattern c =
    let new : List Text = c.node_pattern.new.names in
    let t = c.args.tree.now in
    IfOk-weaker c.node_pattern.result (λ p. (final : List Text) → Grows new final → IsPattern final t p) (λ p. map_pattern (name_at new) p ≡ model.pattern_of (map_names (name_at c.args.names.now) t))
    (λ p h. (h new (Grows-none new)).same ∙ ap model.pattern_of (same_tree c.node_pattern.ensures.grows t c.requires)) c.node_pattern.ensures.read

pub returns-clause-known : goal.returns-clause-known
returns-clause-known c =
    let new : List Text = c.node_pattern.new.names in
    IfOk-weaker c.node_pattern.result (λ p. (final : List Text) → Grows new final → IsPattern final c.args.tree.now p) (λ p. PatternNames (Known new) p) (λ p h. (h new (Grows-none new)).known) c.node_pattern.ensures.read
