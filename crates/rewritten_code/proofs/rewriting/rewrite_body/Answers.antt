use Rattle.std.proofs.Common.{refl, sym, subst}
use Rattle.std.proofs.lemmas.Result.{IfOk-weaker}
use Rattle.std.proofs.Common.{◌≡◌, ℕ, List}
use Rattle.std.specs.List.{concat}
use Rattle.rb_base.specs.Names.{name_at}
use Rattle.tree_model.specs.Tree.{map_sequence}
use Rattle.tree_model.specs.AllNames.{SequenceNames}
use Rattle.st_tree.specs.View.{sequence_of}
use Rattle.st_tree.specs.declared.tree.Sequence.{Sequence}
use Rattle.st_tree.specs.declared.tree.Statement.{Statement}
use Rattle.event_trees.proofs.Known.{Grows-none}
use Rattle.pattern_model.specs.Words.{text_pattern_words}
use Rattle.pattern_model.specs.Rewritten.{rewritten_sequence}
use Rattle.rewritten_code.specs.Changed.{Paired, Known, rule_at, becomes, IsStatementChanged}
use Rattle.rewritten_code.proofs.Bodies.{body_rewritten, body_known}
use Rattle.rewritten_code.proofs.rewriting.rewrite_body.Goals as goal

pub returns-clause-rewritten : goal.returns-clause-rewritten
returns-clause-rewritten c =
    let names : List (List ℕ) = c.rewritten_statements.new.names in
    let b : Sequence = c.args.body.now in
    let us : List Statement = c.in_ok-statements.statements in
    let changed : Paired (IsStatementChanged names (becomes names c.args.rule.now)) b.statements us =
    subst (λ (ss : List Statement). Paired (IsStatementChanged names (becomes names c.args.rule.now)) ss us) c.as_slice-statements.ensures (c.in_ok-statements.ensures.changed names (Grows-none names)) in
    IfOk-weaker c.with_statements.result (λ v. v ≡ record b { statements = us })
    (λ v. map_sequence (name_at names) (sequence_of v) ≡ rewritten_sequence text_pattern_words concat (rule_at names c.args.rule.now) (map_sequence (name_at names) (sequence_of b)))
    (λ v e. subst (λ (d : Sequence). map_sequence (name_at names) (sequence_of d) ≡ rewritten_sequence text_pattern_words concat (rule_at names c.args.rule.now) (map_sequence (name_at names) (sequence_of b))) (sym e)
    (body_rewritten names c.args.rule.now b b refl us changed))
    c.with_statements.ensures

pub returns-clause-known : goal.returns-clause-known
returns-clause-known c =
    let names : List (List ℕ) = c.rewritten_statements.new.names in
    let b : Sequence = c.args.body.now in
    let us : List Statement = c.in_ok-statements.statements in
    let changed : Paired (IsStatementChanged names (becomes names c.args.rule.now)) b.statements us =
    subst (λ (ss : List Statement). Paired (IsStatementChanged names (becomes names c.args.rule.now)) ss us) c.as_slice-statements.ensures (c.in_ok-statements.ensures.changed names (Grows-none names)) in
    IfOk-weaker c.with_statements.result (λ v. v ≡ record b { statements = us }) (λ v. SequenceNames (Known names) (sequence_of v))
    (λ v e. subst (λ (d : Sequence). SequenceNames (Known names) (sequence_of d)) (sym e)
    (body_known names c.args.rule.now b b refl us changed c.args.names.now c.rewritten_statements.ensures.grows c.requires.body))
    c.with_statements.ensures
