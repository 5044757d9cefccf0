-- The pattern that is read is the one that the text says.
use Rattle.std.proofs.Common.{◌≡◌, false, List, ◌∷◌, length, None, sym, ap, ◌∙◌, arith, rules}
use Rattle.std.proofs.lemmas.Grind.{common_steps}
use Rattle.std.proofs.lemmas.Result.{err_from_is_err_and}
use Rattle.rb_base.specs.Names.{name_at}
use Rattle.st_tree.specs.declared.tree.Statement.{Statement}
use Rattle.grammar_model.specs.Whole.{alone}
use Rattle.st_faults.specs.Faults.{fault_of}
use Rattle.pattern_model.specs.Spelled.{pattern_of}
use Rattle.rewrite_model.specs.Saying.{by_lists}
use Rattle.pattern_faults.specs.Lists.{spells_list, state_of, walked}
use Rattle.pattern_faults.proofs.Said.{grammar_told, has_statement, same_node, node_known, second_list}
use Rattle.pattern_faults.proofs.reading.read_pattern.Goals as goal

pub returns-in_err-found-clause-fault : goal.returns-in_err-found-clause-fault
returns-in_err-found-clause-fault c =
    let p = err_from_is_err_and c.from_residual.result c.from_residual.ensures.1 in
    rw (p.1, p.2) (grammar_told c.args.text.now (fault_of c.in_err-found.field-0.0) c.in_err-found.ensures.fault)

pub unreachable-requires : goal.unreachable-requires
unreachable-requires c =
    let f = c.in_ok-found.ensures.found in
    let none : length c.as_slice.result.now ≡ 0 = rw c.in_default.is at c.split_first.ensures.cases in
    has_statement c.build_doit.new.names f.spells.tokens f.tree c.in_ok-body.body (c.in_ok-body.ensures.tree (alone f.spells.tokens f.tree) f.same) (ap length (sym c.as_slice.ensures) ∙ none)

pub returns-in-Some-found-clause-fault : goal.returns-in-Some-found-clause-fault
returns-in-Some-found-clause-fault c =
    let f = c.in_ok-found.ensures.found in
    let s : Statement = c.in-Some.statement.now in
    let rest : List Statement = c.in-Some.field-0-1.now in
    let first : c.as_slice.result.now ≡ s ∷ rest = first_of (search rules, grind (arith, common_steps), cc) in
    let spans = c.as_slice-2.ensures ∙ c.in_ok-spans.ensures (alone f.spells.tokens f.tree) (c.in_ok-places.ensures (alone f.spells.tokens f.tree) f.same) in
    let found =
    second_list c.build_doit.new.names f.spells.tokens f.tree c.in_ok-body.body (c.in_ok-body.ensures.tree (alone f.spells.tokens f.tree) f.same) s rest (sym c.as_slice.ensures ∙ first) (state_of c.walk_node.new.search)
    (c.walk_node.ensures ∙ (λ i. walked (λ n. spells_list (name_at c.build_doit.new.names n)) false s.node (spans i, None))) in
    by_lists f.tree c.in-Some-found.at f.spells (sym found ∙ c.in-Some-found.is)

pub pattern_of-requires : goal.pattern_of-requires
pattern_of-requires c =
    let f = c.in_ok-found.ensures.found in
    let s : Statement = c.in-Some.statement.now in
    let rest : List Statement = c.in-Some.field-0-1.now in
    let first : c.as_slice.result.now ≡ s ∷ rest = first_of (search rules, grind (arith, common_steps), cc) in
    node_known c.build_doit.new.names f.spells.tokens f.tree c.in_ok-body.body (c.in_ok-body.ensures.tree (alone f.spells.tokens f.tree) f.same) s rest (sym c.as_slice.ensures ∙ first)
    (c.in_ok-body.ensures.known (alone f.spells.tokens f.tree) f.same)

pub returns-clause-said : goal.returns-clause-said
returns-clause-said c =
    let f = c.in_ok-found.ensures.found in
    let s : Statement = c.in-Some.statement.now in
    let rest : List Statement = c.in-Some.field-0-1.now in
    let first : c.as_slice.result.now ≡ s ∷ rest = first_of (search rules, grind (arith, common_steps), cc) in
    let built = c.in_ok-body.ensures.tree (alone f.spells.tokens f.tree) f.same in
    let spans = c.as_slice-2.ensures ∙ c.in_ok-spans.ensures (alone f.spells.tokens f.tree) (c.in_ok-places.ensures (alone f.spells.tokens f.tree) f.same) in
    let found =
    second_list c.build_doit.new.names f.spells.tokens f.tree c.in_ok-body.body built s rest (sym c.as_slice.ensures ∙ first) (state_of c.walk_node.new.search)
    (c.walk_node.ensures ∙ (λ i. walked (λ n. spells_list (name_at c.build_doit.new.names n)) false s.node (spans i, None))) in
    record {
      tree = f.tree;
      spells = f.spells;
      one_list = sym found ∙ c.in_default-found.is;
      same = c.in_ok-pattern.ensures.pattern ∙ ap pattern_of (same_node c.build_doit.new.names f.spells.tokens f.tree c.in_ok-body.body built s rest (sym c.as_slice.ensures ∙ first));
    }
