use Rattle.std.proofs.Common.{◌∙◌, ap, FitsSigned, rules}
use Rattle.std.specs.Int.{w64}
use Rattle.std.proofs.lemmas.Int.{to_z-of_z}
use Rattle.run_model.specs.Calls.{argument, demands, as_integer}
use Rattle.run_model.specs.SequencePrimitives.{part_of, gives_part}
use Rattle.prim_calls.specs.Calls.{call_of, sequence_of}
use Rattle.prim_calls.specs.Replies.{reply_of}
use Rattle.sequence_prims.proofs.Steps.{replied}
use Rattle.sequence_prims.proofs.parts.gives_part.Goals as goal

pub returns-in_default-integer : goal.returns-in_default-integer
returns-in_default-integer c w =
    let cc = call_of w c.args.call.now in
    ap (reply_of c.args.call.now.heap.now) c.bad_argument-in_default-integer.ensures
    ∙ (λ i. demands cc (c.in-Some.ensures i) (λ q. demands cc (c.in_default-integer.ensures w i) (λ a. demands cc (as_integer (argument cc 1)) (λ b. part_of cc q a b))))

pub returns-in_default-integer-2 : goal.returns-in_default-integer-2
returns-in_default-integer-2 c w =
    let cc = call_of w c.args.call.now in
    ap (reply_of c.args.call.now.heap.now) c.bad_argument-in_default-integer-2.ensures
    ∙ (λ i. demands cc (c.in-Some.ensures i) (λ q. demands cc (c.in-Some-integer.ensures w i) (λ a. demands cc (c.in_default-integer-2.ensures w i) (λ b. part_of cc q a b))))

pub returns : goal.returns
returns c =
    let f : FitsSigned w64 c.in-Some-integer.first = search rules in
    let g : FitsSigned w64 c.in-Some-integer-2.last = search rules in
    replied c.args.call.now.heap.now _ (λ w. gives_part (call_of w c.args.call.now)) c.part.result
    (λ w.
    (λ i. part_of (call_of w c.args.call.now) (sequence_of c.in-Some.items) (to_z-of_z w64 c.in-Some-integer.first f i) (to_z-of_z w64 c.in-Some-integer-2.last g i))
    ∙ (λ i. demands (call_of w c.args.call.now) (c.in-Some.ensures i) (λ q. demands (call_of w c.args.call.now) (c.in-Some-integer.ensures w i) (λ a. demands (call_of w c.args.call.now) (c.in-Some-integer-2.ensures w i) (λ b. part_of (call_of w c.args.call.now) q a b)))))
    c.part.ensures
