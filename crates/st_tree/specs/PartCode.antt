-- Messages and statements are told apart by their fields.
use Rattle.std.specs.Prelude.{ℕ, List, refl}
use Rattle.std.specs.Coded.{Coded, code_by, coded×, coded_ℕ, coded_list}
use Rattle.tree_model.specs.Tree.{Notes, TreeOf}
use Rattle.tree_model.specs.TreeCode.{coded_tree}
use Rattle.st_tree.specs.declared.tree.Message.{Message}
use Rattle.st_tree.specs.declared.tree.Statement.{Statement}

-- the code of messages
abbrev pub coded_message : Coded Message
coded_message =
    code_by (ℕ × List (TreeOf ℕ)) (coded× coded_ℕ (coded_list coded_tree)) (λ m. (m.selector, m.arguments))
    (λ p. record { selector = p.0; arguments = p.1 }) (λ _. refl)

-- the code of statements
abbrev pub coded_statement : Coded Statement
coded_statement =
    code_by (Notes × TreeOf ℕ) (coded× (coded_list (coded_list coded_ℕ)) coded_tree) (λ s. (s.comments, s.node))
    (λ p. record { comments = p.0; node = p.1 }) (λ _. refl)
