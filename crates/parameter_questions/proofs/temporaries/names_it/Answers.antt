use Rattle.std.proofs.Common.{◌≡◌, ℕ, ◌||◌, Bool, false, sym, ap, ◌∙◌}
use Rattle.std.specs.Prelude.{nat_eq}
use Rattle.std.specs.List.{list_any}
use Rattle.std.specs.Option.{option_map_or}
use Rattle.tree_model.specs.Tree.{TreeOf}
use Rattle.image_model.specs.Uses.{name_used}
use Rattle.st_tree.specs.View.{method_of}
use Rattle.mentions.specs.Listing.{pointed}
use Rattle.command_model.specs.Temporaries.{declared_in}
use Rattle.parameter_questions.proofs.Declared.{declared-there, named-there}
use Rattle.parameter_questions.proofs.temporaries.names_it.Goals as goal

pub returns-then-is_among : goal.returns-then-is_among
returns-then-is_among c =
    let m = method_of c.args.tree.now in
    let n = c.args.name in
    let ns = c.as_slice-nodes.result.now in
    let nodes = ap pointed c.as_slice-nodes.ensures.value ∙ c.in_ok-found.ensures in
    let declares : c.is_among.result ≡ list_any (nat_eq n) (declared_in m) =
    c.is_among.ensures ∙ ap (list_any (nat_eq n)) (c.as_slice.ensures ∙ c.in_ok-declared.ensures ∙ declared-there m ns nodes) in
    ap (λ (b : Bool). b || list_any (λ (t : TreeOf ℕ). option_map_or (nat_eq n) (name_used t) false) (pointed ns)) (sym c.if-is_among.true ∙ declares) ∙ named-there n m ns nodes

pub returns : goal.returns
returns c =
    let m = method_of c.args.tree.now in
    let n = c.args.name in
    let ns = c.as_slice-nodes.result.now in
    let nodes = ap pointed c.as_slice-nodes.ensures.value ∙ c.in_ok-found.ensures in
    let declares : c.is_among.result ≡ list_any (nat_eq n) (declared_in m) =
    c.is_among.ensures ∙ ap (list_any (nat_eq n)) (c.as_slice.ensures ∙ c.in_ok-declared.ensures ∙ declared-there m ns nodes) in
    c.is_any_use.ensures
    ∙ ap (λ (b : Bool). b || list_any (λ (t : TreeOf ℕ). option_map_or (nat_eq n) (name_used t) false) (pointed ns)) (sym c.if-is_among.false ∙ declares) ∙ named-there n m ns nodes
