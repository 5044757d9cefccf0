-- The body of a method whose statements are rewritten.
use Rattle.std.proofs.Common.{◌≡◌, ℕ, List, map, sym, ap, subst, ◌∙◌}
use Rattle.std.specs.List.{AllByRecursion, concat}
use Rattle.rb_base.specs.Names.{name_at}
use Rattle.tree_model.specs.Tree.{map_sequence}
use Rattle.tree_model.specs.AllNames.{SequenceNames}
use Rattle.st_tree.specs.View.{sequence_of}
use Rattle.st_tree.specs.declared.tree.Sequence.{Sequence}
use Rattle.st_tree.specs.declared.tree.Statement.{Statement}
use Rattle.event_trees.specs.Naming.{Grows}
use Rattle.pattern_model.specs.Words.{text_pattern_words}
use Rattle.pattern_model.specs.Rewritten.{rewritten_sequence}
use Rattle.patterns.specs.declared.tree.Rule.{Rule}
use Rattle.rewritten_code.specs.Changed.{Paired, Known, rule_at, becomes, IsStatementChanged}
use Rattle.rewritten_code.proofs.PatternsSame.{names_imply}
use Rattle.rewritten_code.proofs.Growing.{still_known}
use Rattle.rewritten_code.proofs.Written.{statements_changed}

module _ (names : List (List ℕ)) (r : Rule) (b c : Sequence) (is : c ≡ b) (us : List Statement) (h : Paired (IsStatementChanged names (becomes names r)) c.statements us) where
  rewritten : map_sequence (name_at names) (sequence_of (record c { statements = us })) ≡ rewritten_sequence text_pattern_words concat (rule_at names r) (map_sequence (name_at names) (sequence_of c))
  unfolding becomes
  rewritten =
      let all = statements_changed names (becomes names r) c.statements us h in
      λ i. record { temporaries = map (name_at names) c.temporaries; statements = all.0 i; tail = c.tail }

  pub body_rewritten : map_sequence (name_at names) (sequence_of (record c { statements = us })) ≡ rewritten_sequence text_pattern_words concat (rule_at names r) (map_sequence (name_at names) (sequence_of b))
  body_rewritten = rewritten ∙ ap (λ (d : Sequence). rewritten_sequence text_pattern_words concat (rule_at names r) (map_sequence (name_at names) (sequence_of d))) is

  pub body_known : (before : List (List ℕ)) → Grows before names → SequenceNames (Known before) (sequence_of b) → SequenceNames (Known names) (sequence_of (record c { statements = us }))
  body_known before g k = record {
    temporaries = names_imply (Known before) (Known names) (still_known g) c.temporaries (subst (λ (d : Sequence). AllByRecursion (Known before) d.temporaries) (sym is) k.temporaries);
    statements = (statements_changed names (becomes names r) c.statements us h).1;
  }
