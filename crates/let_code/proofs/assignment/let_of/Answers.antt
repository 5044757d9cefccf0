use Rattle.std.proofs.Common.{◌≡◌, ℕ, ◌<◌, Bool, true, List, length, map, filter, Option, None, Some, option_map, sym, ap, ◌∙◌}
use Rattle.std.specs.Option.{option_and_then}
use Rattle.std.proofs.lemmas.Result.{IfOk-weaker}
use Rattle.tree_model.specs.Nodes.{Placed, nodes}
use Rattle.st_tree.specs.View.{method_of}
use Rattle.command_model.specs.Asked.{no_parts}
use Rattle.command_model.specs.Numbers.{number_asked}
use Rattle.command_model.specs.Temporaries.{only, is_declared_once, let_of}
use Rattle.let_code.specs.Uses.{as_placed, is_assigned, let_at}
use Rattle.let_code.proofs.KnownLets.{let-is, let-known}
use Rattle.let_code.proofs.assignment.let_of.Goals as goal

pub returns-in-None-clause-found : goal.returns-in-None-clause-found
returns-in-None-clause-found c =
    let names = c.args.names.now in
    let m = method_of c.args.method.now in
    let x = c.args.variable in
    let e : Placed ℕ = as_placed c.in-Some.placed.now in
    let once : is_declared_once (number_asked names 0 no_parts) m x ≡ true = sym c.in_ok-declares_once.ensures ∙ c.if-not-branch.false in
    let there : Some e ≡ only (filter (is_assigned names m x) (nodes m.body)) =
    c.in-Some.ensures ∙ ap (λ (es : List (Placed ℕ)). only (filter (is_assigned names m x) es)) (ap (map as_placed) c.as_slice.ensures.value ∙ c.in_ok-nodes.ensures) in
    ap (option_and_then (let_at e)) c.in-None.ensures ∙ let-is (λ n. n < length names) names m x e once there

pub returns-clause-found : goal.returns-clause-found
returns-clause-found c =
    let names = c.args.names.now in
    let m = method_of c.args.method.now in
    let x = c.args.variable in
    let e : Placed ℕ = as_placed c.in-Some.placed.now in
    let once : is_declared_once (number_asked names 0 no_parts) m x ≡ true = sym c.in_ok-declares_once.ensures ∙ c.if-not-branch.false in
    let there : Some e ≡ only (filter (is_assigned names m x) (nodes m.body)) =
    c.in-Some.ensures ∙ ap (λ (es : List (Placed ℕ)). only (filter (is_assigned names m x) es)) (ap (map as_placed) c.as_slice.ensures.value ∙ c.in_ok-nodes.ensures) in
    IfOk-weaker c.let_at.result _ _ (λ found is. is ∙ ap (option_and_then (let_at e)) c.in-Some-assigned_scope.ensures ∙ let-is (λ n. n < length names) names m x e once there) c.let_at.ensures

pub returns-clause-known : goal.returns-clause-known
returns-clause-known c =
    let names = c.args.names.now in
    let m = method_of c.args.method.now in
    let x = c.args.variable in
    let e : Placed ℕ = as_placed c.in-Some.placed.now in
    let once : is_declared_once (number_asked names 0 no_parts) m x ≡ true = sym c.in_ok-declares_once.ensures ∙ c.if-not-branch.false in
    let there : Some e ≡ only (filter (is_assigned names m x) (nodes m.body)) =
    c.in-Some.ensures ∙ ap (λ (es : List (Placed ℕ)). only (filter (is_assigned names m x) es)) (ap (map as_placed) c.as_slice.ensures.value ∙ c.in_ok-nodes.ensures) in
    IfOk-weaker c.let_at.result _ _
    (λ found is. let-known (λ n. n < length names) names m x found (is ∙ ap (option_and_then (let_at e)) c.in-Some-assigned_scope.ensures ∙ let-is (λ n. n < length names) names m x e once there))
    c.let_at.ensures
