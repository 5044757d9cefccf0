-- Primitives that have been done in the store of the machine.
use Rattle.std.proofs.Common.{◌≡◌, ℕ, List, sym, ap, ◌∙◌}
use Rattle.class_table.specs.Slots.{Slots}
use Rattle.class_table.specs.View.{image_of}
use Rattle.run_model.specs.Values.{Name, Value}
use Rattle.run_model.specs.Store.{Store}
use Rattle.run_model.specs.Acts.{acts}
use Rattle.run_model.specs.Eval.{Evaluator, does_primitive, evaluates}
use Rattle.prim_calls.specs.declared.outcome.PrimResult.{PrimResult}
use Rattle.prim_calls.specs.Replies.{ends_as}
use Rattle.st_interp.specs.declared.state.Pending.{Pending}
use Rattle.st_interp.specs.Machine.{plug}

-- what the primitive has come to, with the stack
pub primitive_done : (a b : Slots) (names : List Name) (ks : List Pending) (n : ℕ) (v : Value) (vs : List Value) (p q : PrimResult) (s s' : Store) → p ≡ q → b ≡ a
    → ((go : Evaluator acts) → ends_as go vs p s' ≡ does_primitive acts (image_of b) go n v vs s)
    → plug (image_of a) names ks (ends_as (evaluates (image_of a)) vs q s') ≡ plug (image_of a) names ks (does_primitive acts (image_of a) (evaluates (image_of a)) n v vs s)
primitive_done a b names ks n v vs p q s s' e h d =
    ap (plug (image_of a) names ks)
    (ap (λ z. ends_as (evaluates (image_of a)) vs z s') (sym e)
    ∙ d (evaluates (image_of a))
    ∙ ap (λ z. does_primitive acts (image_of z) (evaluates (image_of a)) n v vs s) h)
