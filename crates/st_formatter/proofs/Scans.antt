-- Steps of a scan over the bytes of keywords, and cases of statements.
use Rattle.std.proofs.Common.{◌≡◌, refl, ℕ, zero, suc, ◌<◌, ◌≤◌, true, false, List, [], ◌∷◌, length, get_or, drop, arith, codes}
use Rattle.std.proofs.lemmas.List.{drop_more}
use Rattle.token_model.specs.Bytes.{is_letter, is_word}
use Rattle.tree_model.specs.Tree.{StatementsOf, no_statements, more_statements, map_statements}
use Rattle.st_tree.specs.View.{statements_of}
use Rattle.st_tree.specs.declared.tree.Statement.{Statement}
use Rattle.text_model.specs.Pieces.{is_colon}
use Rattle.text_model.specs.Expressions.{period_before}
use Rattle.text_model.proofs.KeywordRows.{are_keywords, keywords_row}
use Rattle.st_formatter.specs.Bodies.{is_bare_row}

-- no letter begins the next keyword
pub no_letter : (t : List ℕ) (i : ℕ) → i < length t → is_letter (get_or t i 0) ≡ false → are_keywords true (drop i t) ≡ false
no_letter t i h e = rw (drop_more t i 0 h, e) refl

-- neither a colon nor a letter nor a digit goes on
pub no_word : (t : List ℕ) (i : ℕ) → i < length t → is_colon (get_or t i 0) ≡ false → is_word (get_or t i 0) ≡ false → are_keywords false (drop i t) ≡ false
no_word t i h c e = rw (drop_more t i 0 h, c, e) refl

-- two statements are no bare row
pub is_bare_row-many : (ss : List Statement) → 2 ≤ length ss → is_bare_row (statements_of ss) ≡ false
is_bare_row-many [] h = absurd (omega arith)
is_bare_row-many (s ∷ []) h = absurd (omega arith)
is_bare_row-many (s ∷ r ∷ ss) h = refl

-- another statement follows
pub period_before-drop : (ss : List Statement) (i : ℕ) → i < length ss → period_before (statements_of (drop i ss)) ≡ codes "."
period_before-drop [] i h = absurd (omega arith)
period_before-drop (s ∷ ss) zero h = refl
period_before-drop (s ∷ ss) (suc i) h = period_before-drop ss i (omega arith)

-- the names in statements do not count
pub period_before-map : {M N : Type 0} (f : M → N) (ss : StatementsOf M) → period_before (map_statements f ss) ≡ period_before ss
period_before-map f no_statements = refl
period_before-map f (more_statements c t ss) = refl

pub ruleset scan_rules = (keywords_row, no_letter, no_word)

pub ruleset statement_rules = (is_bare_row-many, period_before-drop)
