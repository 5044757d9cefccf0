use Rattle.std.proofs.Common.{◌≡◌, ℕ, ◌<◌, List, length, take, get_or, Some, slice_get, sym, ap, subst, ◌∙◌, arith}
use Rattle.std.proofs.lemmas.Option.{slice_get-get_or}
use Rattle.tree_model.specs.Tree.{TreeOf, var, MethodOf}
use Rattle.tree_model.specs.AllNames.{AllNames, MethodNames}
use Rattle.tree_model.specs.Normal.{normal}
use Rattle.tree_model.specs.Path.{part_in, method_replaced}
use Rattle.image_model.specs.ImageNames.{OptionNames}
use Rattle.wider_slots.proofs.Trees.{part_in-names}
use Rattle.st_tree.specs.View.{method_of}
use Rattle.st_tree.specs.declared.tree.Method.{Method}
use Rattle.command_model.specs.Places.{innermost, sequence_round, statement_round}
use Rattle.command_model.specs.Sequences.{sequence_changed}
use Rattle.let_code.specs.declared.extracting.Declaring.{Declaring}
use Rattle.let_code.specs.Changes.{declaring}
use Rattle.let_code.proofs.Known.{extracted-names}
use Rattle.let_code.proofs.Put.{made, extracted}
use Rattle.let_code.proofs.extracting.temporary_extracted.Goals as goal

-- what is made
made-is : (c : goal.After-drop-sequence-2) → method_of c.in_ok-normalized.field-0 ≡ normal (made (method_of c.args.method.now) c.args.path.now c.args.variable c.in-Some.value.now (get_or c.as_slice-steps.result.now c.innermost-scope.result 0))
made-is c =
    let m = method_of c.args.method.now in
    let path = c.args.path.now in
    let same : c.as_slice-steps.result.now ≡ path = c.as_slice-steps.ensures in
    let scope : c.innermost-scope.result ≡ innermost m path = c.innermost-scope.ensures in
    let it : Declaring = record { variable = c.args.variable; number = get_or c.as_slice-steps.result.now c.innermost-scope.result 0; value = c.in-Some.value } in
    let round : c.from_vec-sequence.result ≡ sequence_round m path =
    c.from_vec-sequence.ensures ∙ c.in_ok-from_slice.ensures.items ∙ ap (take c.innermost-scope.result) same ∙ ap (λ (k : ℕ). take k path) scope in
    let mid : method_of c.put_at.new.method ≡ method_replaced m path (var c.args.variable) = c.put_at.ensures.after ∙ ap (λ (n : Method). method_replaced (method_of n) path (var c.args.variable)) c.in_ok-after.ensures in
    let out : method_of c.change_sequence.new.method ≡ sequence_changed (declaring it) c.from_vec-sequence.result (method_of c.put_at.new.method) = c.in_ok-change_sequence.ensures in
    c.in_ok-normalized.ensures ∙ ap normal (out ∙ (λ j. sequence_changed (declaring it) (round j) (mid j)))

pub returns-clause-tree : goal.returns-clause-tree
returns-clause-tree c =
    let m = method_of c.args.method.now in
    let path = c.args.path.now in
    let same : c.as_slice-steps.result.now ≡ path = c.as_slice-steps.ensures in
    let scope : c.innermost-scope.result ≡ innermost m path = c.innermost-scope.ensures in
    let lt : c.innermost-scope.result < length path = omega (arith, ap length same) in
    let step : statement_round m path ≡ Some (get_or c.as_slice-steps.result.now c.innermost-scope.result 0) =
    ap (slice_get path) (sym scope) ∙ slice_get-get_or path c.innermost-scope.result 0 lt ∙ ap (λ (ks : List ℕ). Some (get_or ks c.innermost-scope.result 0)) (sym same) in
    λ a. extracted a m path c.args.variable c.in-Some.value.now (get_or c.as_slice-steps.result.now c.innermost-scope.result 0) (method_of c.in_ok-normalized.field-0) (sym c.in-Some.ensures) step (made-is c)

pub returns-clause-known : goal.returns-clause-known
returns-clause-known c =
    let m = method_of c.args.method.now in
    let path = c.args.path.now in
    λ k below known x is.
    let P = λ (n : ℕ). n < k in
    let value : AllNames P c.in-Some.value.now = subst (λ o. OptionNames (AllNames P) o) (sym c.in-Some.ensures) (part_in-names P m.body path known.body) in
    let same : c.in_ok-normalized.field-0 ≡ x = cc in
    subst (λ (n : Method). MethodNames P (method_of n)) same
    (subst (λ (n : MethodOf ℕ). MethodNames P n) (sym (made-is c))
    (extracted-names P c.args.variable (get_or c.as_slice-steps.result.now c.innermost-scope.result 0) c.in-Some.value.now path (sequence_round m path) m below value known))
