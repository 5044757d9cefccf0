-- Statements that are cut and joined are proper.
use Rattle.std.proofs.Common.{◌≡◌, ℕ, zero, suc, List, Some}
use Rattle.tree_model.specs.Tree.{Notes, TreeOf, StatementsOf, no_statements, more_statements}
use Rattle.tree_model.specs.Path.{nth, statement_trees}
use Rattle.scope_model.specs.FreeNames.{take_statements, drop_statements}
use Rattle.grammar_model.specs.Checks.{Known}
use Rattle.reread_law.specs.WellFormed.{AllNotes, IsValue}
use Rattle.reread_law.proofs.Sound.{notes_append}
use Rattle.command_model.specs.Sequences.{joined, noted, noted_tail, first_notes}
use Rattle.file_model.specs.Filing.{Text}
use Rattle.code_effect_laws.proofs.Proper.{AreProperStatements}
use Rattle.code_effect_laws.proofs.Stands.{IsEnd, value_statement, statement_before}

-- each statement has a value: none is a return
abbrev pub HaveValues : StatementsOf Text → Type 0
HaveValues no_statements = Unit {0}
HaveValues (more_statements c t ss) = IsValue t × HaveValues ss

-- where there is a statement of a number, statements are left there
pub not_end : (ss : StatementsOf Text) (k : ℕ) (c : TreeOf Text) → nth (statement_trees ss) k ≡ Some c → IsEnd (drop_statements k ss) → ⊥
not_end no_statements k c e h = absurd (cc)
not_end (more_statements n t ss) zero c e h = h
not_end (more_statements n t ss) (suc k) c e h = not_end ss k c e h

-- statements end after others where both end
joined_end : (ss rs : StatementsOf Text) → IsEnd ss → IsEnd rs → IsEnd (joined ss rs)
joined_end no_statements rs h g = g
joined_end (more_statements c t ss) rs h g = absurd h

module _ (ks : List Known) where
  pub drop_proper : (k : ℕ) (ss : StatementsOf Text) → AreProperStatements ks ss → AreProperStatements ks (drop_statements k ss)
  drop_proper zero ss p = p
  drop_proper (suc k) no_statements p = p
  drop_proper (suc k) (more_statements c t ss) p = drop_proper k ss p.3

  -- the first so many
  taken_end : (k : ℕ) (ss rs : StatementsOf Text) → (IsEnd (drop_statements k ss) → IsEnd rs) → IsEnd ss → IsEnd (joined (take_statements k ss) rs)
  taken_end zero ss rs ends h = ends h
  taken_end (suc k) no_statements rs ends h = ends h
  taken_end (suc k) (more_statements c t ss) rs ends h = absurd h

  -- before others, which end where nothing was left
  pub taken_proper : (k : ℕ) (ss rs : StatementsOf Text) → AreProperStatements ks ss → AreProperStatements ks rs → (IsEnd (drop_statements k ss) → IsEnd rs) → AreProperStatements ks (joined (take_statements k ss) rs)
  taken_proper zero ss rs p q ends = q
  taken_proper (suc k) no_statements rs p q ends = q
  taken_proper (suc k) (more_statements c t ss) rs p q ends =
      (p.0, p.1, statement_before t ss (joined (take_statements k ss) rs) (taken_end k ss rs ends) p.2, taken_proper k ss rs p.3 q ends)

  -- statements with values before others
  pub values_proper : (ss rs : StatementsOf Text) → AreProperStatements ks ss → HaveValues ss → AreProperStatements ks rs → AreProperStatements ks (joined ss rs)
  values_proper no_statements rs p v q = q
  values_proper (more_statements c t ss) rs p v q = (p.0, p.1, value_statement t (joined ss rs) v.0, values_proper ss rs p.3 v.1 q)

  -- comments before the first one
  pub noted_proper : (notes : Notes) (ss : StatementsOf Text) → AllNotes notes → AreProperStatements ks ss → AreProperStatements ks (noted notes ss)
  noted_proper notes no_statements n p = p
  noted_proper notes (more_statements c t ss) n p = (notes_append notes c n p.0, p.1, p.2, p.3)

  pub first_proper : (ss : StatementsOf Text) → AreProperStatements ks ss → AllNotes (first_notes ss)
  first_proper no_statements p = tt
  first_proper (more_statements c t ss) p = p.0

-- or at the end
pub tail_proper : (notes : Notes) (ss : StatementsOf Text) (tail : Notes) → AllNotes notes → AllNotes tail → AllNotes (noted_tail notes ss tail)
tail_proper notes no_statements tail n t = notes_append notes tail n t
tail_proper notes (more_statements c u ss) tail n t = t
