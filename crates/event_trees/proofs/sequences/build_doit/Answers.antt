use Rattle.std.proofs.Common.{◌≡◌, ◌<◌, length, subst}
use Rattle.std.proofs.lemmas.Result.{IfOk-weaker, on_ok_weaker}
use Rattle.tree_model.specs.Tree.{map_sequence}
use Rattle.tree_model.specs.AllNames.{SequenceNames}
use Rattle.grammar_model.specs.Spanned.{SpannedSequence, plain_sequence}
use Rattle.rb_base.specs.Names.{name_at}
use Rattle.parse_events.specs.declared.event.SequenceEvents.{SequenceEvents}
use Rattle.parse_events.specs.Found.{sequence_events}
use Rattle.st_tree.specs.View.{sequence_of}
use Rattle.event_trees.specs.Naming.{Adds, AllPass}
use Rattle.event_trees.specs.Trees.{SequenceIs, found_names}
use Rattle.event_trees.proofs.Whole.{sequence_is, sequence_known, sequence_adds}
use Rattle.event_trees.proofs.sequences.build_doit.Goals as goal

pub returns-clause-tree : goal.returns-clause-tree
returns-clause-tree c =
    let names = c.sequence.new.names in
    IfOk-weaker c.sequence.result (SequenceIs names c.args.found) (λ b. (s : SpannedSequence) → c.args.found ≡ sequence_events s → map_sequence (name_at names) (sequence_of b) ≡ plain_sequence s)
    (λ b h s e. sequence_is names s b (subst (λ (f : SequenceEvents). SequenceIs names f b) e h)) c.sequence.ensures.built

pub returns-clause-known : goal.returns-clause-known
returns-clause-known c =
    let names = c.sequence.new.names in
    IfOk-weaker c.sequence.result (SequenceIs names c.args.found) (λ b. (s : SpannedSequence) → c.args.found ≡ sequence_events s → SequenceNames (λ n. n < length names) (sequence_of b))
    (λ b h s e. sequence_known names s b (subst (λ (f : SequenceEvents). SequenceIs names f b) e h)) c.sequence.ensures.built

pub returns-clause-adds : goal.returns-clause-adds
returns-clause-adds c =
    on_ok_weaker c.sequence.result (λ a s e. sequence_adds s (subst (λ (f : SequenceEvents). Adds c.args.names.now c.sequence.new.names (AllPass (found_names f))) e a)) c.sequence.ensures.adds
