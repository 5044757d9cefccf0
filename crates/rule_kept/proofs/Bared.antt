-- Filled patterns without comments.
use Rattle.std.proofs.Common.{◌≡◌, ℕ, List, [], Option, Some, None, refl, ap, ◌∙◌}
use Rattle.std.specs.Option.{option_map_or}
use Rattle.tree_model.specs.Tree.{Notes, TreeOf, StatementsOf, no_statements, more_statements}
use Rattle.tree_model.specs.Bare.{bare, bare_statements}
use Rattle.pattern_model.specs.Patterns.{MetaOf, PatternOf, StatementsLike, more_statements_like, list_meta}
use Rattle.pattern_model.specs.Bindings.{BoundOf}
use Rattle.pattern_model.specs.Fill.{run_in, append_statements, noted, filled, statements_filled}
use Rattle.file_model.specs.Filing.{Text}
use Rattle.rule_kept.proofs.Kept.{Kept, KeptLines, lines_more}
use Rattle.code_effect_laws.proofs.Stands.{statement_before}

pub bare_noted : (c : Notes) (ss : StatementsOf Text) (e : Notes) → bare_statements (noted c ss e).0 ≡ bare_statements ss
bare_noted c no_statements e = refl
bare_noted c (more_statements d t ss) e = refl

pub bare_append : (ss rs : StatementsOf Text) → bare_statements (append_statements ss rs) ≡ append_statements (bare_statements ss) (bare_statements rs)
bare_append no_statements rs = refl
bare_append (more_statements c t ss) rs = ap (λ (xs : StatementsOf Text). more_statements [] (bare t) xs) (bare_append ss rs)

-- a statement, or the run that is bound, before others
abbrev pub line_bare : (MetaOf Text → BoundOf Text) → Option (MetaOf Text) → TreeOf Text → StatementsOf Text → StatementsOf Text
line_bare bound o t rest = option_map_or (λ m. append_statements (bare_statements (run_in (bound m))) rest) o (more_statements [] t rest)

module _ (bound : MetaOf Text → BoundOf Text) (joined : List (List ℕ) → Text) where
  -- what a pattern is filled to
  abbrev pub filled_bare : PatternOf Text → TreeOf Text
  filled_bare p = bare (filled bound joined p)

  abbrev pub lines_bare : StatementsLike Text → Notes → StatementsOf Text
  lines_bare ss e = bare_statements (statements_filled bound joined ss e).0

  one_line : (o : Option (MetaOf Text)) (t : TreeOf Text) (rest : StatementsOf Text) →
      bare_statements (option_map_or (λ m. append_statements (run_in (bound m)) rest) o (more_statements [] t rest)) ≡ line_bare bound o (bare t) (bare_statements rest)
  one_line None t rest = refl
  one_line (Some m) t rest = bare_append (run_in (bound m)) rest

  pub line_of : (c : Notes) (p : PatternOf Text) (ss : StatementsLike Text) (e : Notes) → lines_bare (more_statements_like c p ss) e ≡ line_bare bound (list_meta p) (filled_bare p) (lines_bare ss e)
  line_of c p ss e =
      let rest = statements_filled bound joined ss e in
      bare_noted c (option_map_or (λ m. append_statements (run_in (bound m)) rest.0) (list_meta p) (more_statements [] (filled bound joined p) rest.0)) rest.1
      ∙ one_line (list_meta p) (filled bound joined p) rest.0

-- statements before others
pub run_before : (ss xs ys : StatementsOf Text) → KeptLines xs ys → KeptLines (append_statements ss xs) (append_statements ss ys)
run_before no_statements xs ys k = k
run_before (more_statements c t ss) xs ys k =
    let rest = run_before ss xs ys k in
    record {
      proper = λ ks h. (h.0, h.1, statement_before t (append_statements ss xs) (append_statements ss ys) rest.ends h.2, rest.proper ks h.3);
      ends = λ e. e;
    }

pub line_kept : (bound : MetaOf Text → BoundOf Text) (o : Option (MetaOf Text)) (t u : TreeOf Text) (xs ys : StatementsOf Text) → Kept t u → KeptLines xs ys → KeptLines (line_bare bound o t xs) (line_bare bound o u ys)
line_kept bound None t u xs ys h k = lines_more t u xs ys h k
line_kept bound (Some m) t u xs ys h k = run_before (bare_statements (run_in (bound m))) xs ys k
