-- The tree that is built is that of the pattern.
use Rattle.std.proofs.Common.{refl, sym, subst}
use Rattle.std.specs.Prelude.{IsTrue}
use Rattle.tree_model.specs.Tree.{SequenceOf}
use Rattle.tree_model.specs.AllNames.{SequenceNames}
use Rattle.grammar_model.specs.Terminal.{Text}
use Rattle.grammar_model.specs.Spanned.{plain_tree}
use Rattle.grammar_model.specs.Whole.{alone}
use Rattle.event_trees.specs.Naming.{Adds}
use Rattle.st_parser.proofs.pattern.parse_pattern.Goals as goal

pub returns-clause-tree : goal.returns-clause-tree
returns-clause-tree c =
    let f = c.in_ok-found.ensures.found in
    record {
      tree = plain_tree f.tree;
      spells = record { spanned = f.tree; spells = f.spells; same = refl };
      same = c.in_ok-body.ensures.tree (alone f.spells.tokens f.tree) f.same;
    }

pub returns-clause-known : goal.returns-clause-known
returns-clause-known c =
    let f = c.in_ok-found.ensures.found in
    c.in_ok-body.ensures.known (alone f.spells.tokens f.tree) f.same

pub returns-clause-adds : goal.returns-clause-adds
returns-clause-adds c =
    let f = c.in_ok-found.ensures.found in
    subst (λ (s : SequenceOf Text). Adds c.args.names.now c.build_doit.new.names (λ p. SequenceNames (λ t. IsTrue (p t)) s)) (sym (c.in_ok-body.ensures.tree (alone f.spells.tokens f.tree) f.same))
    (c.in_ok-body.ensures.adds (alone f.spells.tokens f.tree) f.same)
