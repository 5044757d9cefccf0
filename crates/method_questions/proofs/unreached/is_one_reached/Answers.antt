use Rattle.std.proofs.Common.{◌≡◌, Bool, ◌∙◌}
use Rattle.std.proofs.lemmas.Result.{IfOk-weaker}
use Rattle.method_questions.specs.Moves.{finds_another}
use Rattle.method_questions.specs.Unreached.{is_one_reached}
use Rattle.method_questions.proofs.Unchanged.{one-apart, one-covered, none-reaches, finds-reached}
use Rattle.method_questions.proofs.unreached.is_one_reached.Goals as goal

pub returns-then-not-is_concerned : goal.returns-then-not-is_concerned
returns-then-not-is_concerned g c =
    one-apart c.args.image.now c.requires.orderly c.args.moved.now c.args.class c.in-Some.rec.now c.is_concerned.result c.in-Some.ensures c.is_concerned.ensures c.if-not-is_concerned.true

pub returns-then-is_covered : goal.returns-then-is_covered
returns-then-is_covered g c =
    one-covered c.args.image.now c.requires.orderly c.args.moved.now c.args.owners.now c.requires.owners c.args.class c.in-Some.rec.now c.is_covered.result c.in-Some.ensures c.is_covered.ensures c.if-is_covered.true

pub returns-then-not-branch : goal.returns-then-not-branch
returns-then-not-branch g c =
    none-reaches c.args.image.now c.requires.orderly c.args.moved.now c.args.class c.in-Some.rec.now _ c.in-Some.ensures c.in_ok-is_reached.ensures c.if-not-branch.true

pub returns : goal.returns
returns g c =
    let s = c.args.image.now in
    let v = c.args.moved.now in
    let k = c.args.class in
    IfOk-weaker c.finds_another.result (λ (is : Bool). is ≡ finds_another s v k) (λ (is : Bool). is ≡ is_one_reached s v k)
    (λ is h. h ∙ finds-reached s c.requires.orderly v k c.in-Some.rec.now _ c.in-Some.ensures c.in_ok-is_reached.ensures c.if-not-branch.false) c.finds_another.ensures
