-- What holds of each name in code and of the new name holds of each name in the code after.
use Rattle.std.proofs.Common.{ℕ, Bool, true, false, List}
use Rattle.std.specs.Prelude.{if◌then◌else◌}
use Rattle.tree_model.specs.Tree.{SequenceOf, MethodOf}
use Rattle.tree_model.specs.AllNames.{SequenceNames, MethodNames}
use Rattle.image_model.specs.Image.{EntryOf, DoItOf, ImageOf}
use Rattle.image_model.specs.Words.{WordsOf}
use Rattle.image_model.specs.Means.{MeaningOf, means, means_in_doit}
use Rattle.image_model.specs.Uses.{is_that_class}
use Rattle.rename_model.specs.ClassRenamed.{WritingOf, named_anew}
use Rattle.rename_model.specs.VariableRenamed.{is_it, variable_anew}
use Rattle.rename_model.specs.SelectorRenamed.{selector_renamed_to}
use Rattle.renamed_code.specs.Anew.{RenamedOf, of_a_class, of_a_variable, of_a_selector, entry_after, doit_after}
use Rattle.renamed_code.proofs.Known.{names-renamed_statements, names-statements_anew}

module _ {N : Type 0} (P : N → Type 0) (w : WordsOf N) (writing : WritingOf N) (i : ImageOf N) (to : N) (known : P to) where
  -- one of two names
  either : (b : Bool) (n : N) → P n → P (if b then to else n)
  either true n p = known
  either false n p = p

  -- of a method
  pub names-entry_after : (what : RenamedOf N) (m : EntryOf N) → MethodNames P m.tree → MethodNames P (entry_after w writing i to what m).tree
  names-entry_after (of_a_class c) m p = record {
    selector = p.selector;
    arguments = p.arguments;
    body = record {
      temporaries = p.body.temporaries;
      statements =
          names-renamed_statements P (λ path n. named_anew w writing i c to (means w i m path n) n) 0 m.tree.body.statements
          (λ path n q. either (is_that_class w.tests.same c (means w i m path n)) n q) p.body.statements;
    };
  }
  names-entry_after (of_a_variable kind c x) m p = record {
    selector = p.selector;
    arguments = p.arguments;
    body = record {
      temporaries = p.body.temporaries;
      statements =
          names-renamed_statements P (λ path n. variable_anew w writing i kind c x to (means w i m path n) n) 0 m.tree.body.statements
          (λ path n q. either (is_it w writing i kind c x to (means w i m path n) n) n q) p.body.statements;
    };
  }
  names-entry_after (of_a_selector s) m p = record {
    selector = either (w.tests.same s m.tree.selector) m.tree.selector p.selector;
    arguments = p.arguments;
    body = record {
      temporaries = p.body.temporaries;
      statements = names-statements_anew P (selector_renamed_to w.tests.same writing i s to) (λ t q. either (w.tests.same s t) t q) m.tree.body.statements p.body.statements;
    };
  }

  -- of a do-it
  pub names-doit_after : (what : RenamedOf N) (d : DoItOf N) → SequenceNames P d.body → SequenceNames P (doit_after w writing i to what d).body
  names-doit_after (of_a_class c) d p = record {
    temporaries = p.temporaries;
    statements =
        names-renamed_statements P (λ path n. named_anew w writing i c to (means_in_doit w i d path n) n) 0 d.body.statements
        (λ path n q. either (is_that_class w.tests.same c (means_in_doit w i d path n)) n q) p.statements;
  }
  names-doit_after (of_a_variable kind c x) d p = record {
    temporaries = p.temporaries;
    statements =
        names-renamed_statements P (λ path n. variable_anew w writing i kind c x to (means_in_doit w i d path n) n) 0 d.body.statements
        (λ path n q. either (is_it w writing i kind c x to (means_in_doit w i d path n) n) n q) p.statements;
  }
  names-doit_after (of_a_selector s) d p = record {
    temporaries = p.temporaries;
    statements = names-statements_anew P (selector_renamed_to w.tests.same writing i s to) (λ t q. either (w.tests.same s t) t q) d.body.statements p.statements;
  }
