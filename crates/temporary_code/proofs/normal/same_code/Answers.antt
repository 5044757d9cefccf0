use Rattle.std.proofs.Common.{◌≡◌, ℕ, Bool, ap, subst, ◌∙◌, rules}
use Rattle.std.specs.Prelude.{nat_eq, IsTrue, ◌↔◌, ◌&&◌}
use Rattle.std.specs.Option.{option_eq}
use Rattle.tree_model.specs.Tree.{TreeOf, MethodOf}
use Rattle.tree_model.specs.Bare.{bare}
use Rattle.st_tree.specs.View.{method_of}
use Rattle.temporary_code.specs.Block.{as_block}
use Rattle.temporary_code.proofs.SameMethods.{same-methods}
use Rattle.temporary_code.proofs.normal.same_code.Goals as goal
use Rattle.temporary_code.proofs.normal.same_code.Goals.{then-eq, else-eq, then-eq-2, else-eq-2}

pub returns : goal.returns
returns c =
    let m : MethodOf ℕ = method_of c.args.method.now in
    let n : MethodOf ℕ = method_of c.args.other.now in
    let told : IsTrue c.same-blocks.result ↔ (bare (as_block m) ≡ bare (as_block n)) =
    subst (λ (t : TreeOf ℕ). IsTrue c.same-blocks.result ↔ (bare t ≡ bare (as_block n))) c.in_ok-one.ensures
    (subst (λ (t : TreeOf ℕ). IsTrue c.same-blocks.result ↔ (bare c.in_ok-one.one ≡ bare t)) c.in_ok-another.ensures c.same-blocks.ensures) in
    let heads : c.if-eq.value ≡ (nat_eq m.selector n.selector && option_eq nat_eq m.primitive n.primitive) =
    elim c.if-eq.branch [
      | then-eq w ↦ search rules
      | else-eq w ↦ search rules
    ] in
    let all : c.if-eq-2.result ≡ (c.if-eq.value && c.same-blocks.result) =
    elim c.if-eq-2.branch [
      | then-eq-2 w ↦ search rules
      | else-eq-2 w ↦ search rules
    ] in
    all ∙ ap (λ (b : Bool). b && c.same-blocks.result) heads ∙ same-methods m n c.same-blocks.result told
