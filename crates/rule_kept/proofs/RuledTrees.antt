-- Methods and do-its that are rewritten by a rule with a certificate are well formed, where they are no higher than they may be.
use Rattle.std.proofs.Common.{◌≡◌, ◌≤◌, List, [], ◌++◌, refl, ◌∙◌}
use Rattle.std.specs.Prelude.{false, true}
use Rattle.std.specs.List.{concat}
use Rattle.tree_model.specs.Tree.{Notes, StatementsOf, no_statements, more_statements, SequenceOf, MethodOf}
use Rattle.tree_model.specs.Measure.{sequence_height}
use Rattle.tree_model.specs.Normal.{leading_of}
use Rattle.grammar_model.specs.Checks.{Known}
use Rattle.reread_law.specs.Declarations.{known_names}
use Rattle.reread_law.specs.WholeTrees.{WellFormedDoIt, WellFormedMethod}
use Rattle.pattern_model.specs.Patterns.{PatternOf}
use Rattle.pattern_model.specs.Words.{text_pattern_words, AreWords}
use Rattle.pattern_model.specs.Matches.{IsLawful}
use Rattle.pattern_model.specs.Rewritten.{RuleOf, each_statement, rewritten, rewritten_sequence, rewritten_method}
use Rattle.certified_model.specs.Marks.{Text}
use Rattle.certified_model.specs.Certificates.{CertStep, derives}
use Rattle.code_effect_laws.proofs.Proper.{AreProperStatements, statements_proper, statements_well, statements_once, statements_free}
use Rattle.code_effect_laws.proofs.Methods.{IsProperSequence, IsProperMethod, method_proper, method_well}
use Rattle.rule_kept.specs.PatternComments.{HasComments}
use Rattle.rule_kept.proofs.Comments.{lines_bare, lines_notes, lines_noted}
use Rattle.rule_kept.proofs.RewrittenKept.{lines_rewritten}
use Rattle.rule_kept.proofs.CommentsKept.{statements_rewritten}

module _ (known : AreWords text_pattern_words concat) (p q : PatternOf Text) (lawful : IsLawful p) (comments : HasComments q) (xs : List CertStep) (derived : derives xs p q ≡ true) where
  abbrev the_rule : RuleOf Text
  the_rule = record { pattern = p; replacement = q }

  abbrev changed : StatementsOf Text → StatementsOf Text
  changed ss = each_statement (rewritten text_pattern_words concat the_rule) ss

  still_proper : (ks : List Known) (ss : StatementsOf Text) → AreProperStatements ks ss → AreProperStatements ks (changed ss)
  still_proper ks ss h =
      lines_noted (changed ss) ks ((lines_rewritten text_pattern_words concat known p q lawful xs derived ss).proper ks (lines_bare ss ks h))
      (statements_rewritten text_pattern_words concat known p q lawful comments ss (lines_notes ss ks h))

  leading_kept : (ss : StatementsOf Text) (tail : Notes) → leading_of (changed ss) tail ≡ leading_of ss tail
  leading_kept no_statements tail = refl
  leading_kept (more_statements c t ss) tail = refl

  sequence_kept : (ks : List Known) (ps : List Text) (b : SequenceOf Text) → IsProperSequence ks ps b → IsProperSequence ks ps (rewritten_sequence text_pattern_words concat the_rule b)
  sequence_kept ks ps b h = record { words = h.words; once = h.once; statements = still_proper (known_names ps b.temporaries ++ ks) b.statements h.statements; notes = h.notes }

  proper_kept : (m : MethodOf Text) → IsProperMethod m → IsProperMethod (rewritten_method text_pattern_words concat the_rule m)
  proper_kept m h = record { pattern = h.pattern; head = h.head; body = sequence_kept [] m.arguments m.body h.body; primitive = h.primitive }

  pub method_kept : (m : MethodOf Text) → WellFormedMethod false m → sequence_height (rewritten_method text_pattern_words concat the_rule m).body ≤ 200 → WellFormedMethod false (rewritten_method text_pattern_words concat the_rule m)
  method_kept m w low =
      method_well (rewritten_method text_pattern_words concat the_rule m) (proper_kept m (method_proper m w)) (λ none. leading_kept m.body.statements m.body.tail ∙ w.normal none) low

  pub doit_kept : (b : SequenceOf Text) → WellFormedDoIt b → sequence_height (rewritten_sequence text_pattern_words concat the_rule b) ≤ 200 → WellFormedDoIt (rewritten_sequence text_pattern_words concat the_rule b)
  doit_kept b w low =
      let ks : List Known = known_names [] b.temporaries in
      let h = still_proper ks b.statements (statements_proper b.statements ks w.statements w.once_inside w.assigned) in
      record {
        words = w.words;
        statements = statements_well (changed b.statements) ks h;
        notes = w.notes;
        height = low;
        once = w.once;
        once_inside = statements_once (changed b.statements) ks h;
        assigned = statements_free (changed b.statements) ks h;
      }
