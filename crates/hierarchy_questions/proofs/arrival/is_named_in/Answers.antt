use Rattle.std.proofs.Common.{rules, tests, ◌≡◌, ℕ, ◌||◌, false, Bor, ap, sym, ◌∙◌}
use Rattle.std.specs.Prelude.{nat_eq}
use Rattle.std.specs.List.{list_any}
use Rattle.std.proofs.lemmas.Iterator.{YieldsList-from_slice}
use Rattle.std.proofs.lemmas.Iterator.Search.{any_from_yields_List}
use Rattle.tree_model.specs.Tree.{TreeOf}
use Rattle.tree_model.specs.Nodes.{Placed, nodes}
use Rattle.st_tree.specs.View.{method_of}
use Rattle.rename_model.specs.NamesThere.{is_named_by}
use Rattle.code_questions.proofs.Witnesses.{any-mapped}
use Rattle.hierarchy_questions.proofs.arrival.is_named_in.Goals as goal

pub returns : goal.returns
returns c =
    let n = c.args.name in
    let t = method_of c.args.tree.now in
    let arguments : false ≡ list_any (nat_eq n) t.arguments = sym c.if-is_among.false ∙ c.is_among.ensures ∙ ap (list_any (nat_eq n)) c.as_slice.ensures in
    let temporaries : false ≡ list_any (nat_eq n) t.body.temporaries = sym c.if-is_among-2.false ∙ c.is_among-else-is_among.ensures ∙ ap (list_any (nat_eq n)) c.as_slice-else-is_among.ensures in
    let any : c.any.result ≡ list_any (λ (r : Bor (TreeOf ℕ)). is_named_by nat_eq n r.now) c.deref.result.now =
    any_from_yields_List (λ (r : Bor (TreeOf ℕ)). is_named_by nat_eq n r.now) _ _ c.any.result c.any.ensures.ran (YieldsList-from_slice c.deref.result.now (cc)) (λ x b q k. search (rules, tests)) in
    let found =
    any ∙ ap (list_any (λ (r : Bor (TreeOf ℕ)). is_named_by nat_eq n r.now)) c.deref.ensures.value
    ∙ sym (any-mapped (λ (r : Bor (TreeOf ℕ)). r.now) (is_named_by nat_eq n) c.in_ok-nodes.nodes.items)
    ∙ ap (list_any (is_named_by nat_eq n)) c.in_ok-nodes.ensures
    ∙ any-mapped (λ (e : Placed ℕ). e.1) (is_named_by nat_eq n) (nodes t.body) in
    λ i. arguments i || (temporaries i || found i)
