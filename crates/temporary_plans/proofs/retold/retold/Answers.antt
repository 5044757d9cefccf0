use Rattle.std.proofs.Common.{ℕ, ◌<◌, List, length, sym, subst}
use Rattle.tree_model.specs.AllNames.{MethodNames}
use Rattle.st_tree.specs.View.{method_of}
use Rattle.temporary_plans.proofs.retold.retold.Goals as goal

pub format_method-requires : goal.format_method-requires
format_method-requires g c = subst (λ (names : List (List ℕ)). MethodNames (λ n. n < length names) (method_of c.args.tree.now)) (sym c.names.ensures) c.requires.known
