use Rattle.std.proofs.Common.{◌∙◌, ap, sym, FitsSigned, rules}
use Rattle.std.specs.Int.{w64}
use Rattle.std.proofs.lemmas.Int.{to_z-of_z}
use Rattle.run_model.specs.Calls.{at_once, demands}
use Rattle.run_model.specs.SequencePrimitives.{within, value_at}
use Rattle.prim_calls.specs.Calls.{call_of, sequence_of}
use Rattle.prim_calls.specs.Replies.{reply_of}
use Rattle.sequence_prims.proofs.items.gives_item.Goals as goal

pub returns-in_default-integer : goal.returns-in_default-integer
returns-in_default-integer c w =
    let cc = call_of w c.args.call.now in
    ap (reply_of c.args.call.now.heap.now) c.bad_argument-in_default-integer.ensures
    ∙ (λ i. demands cc (c.in-Some.ensures i) (λ q. demands cc (c.in_default-integer.ensures w i) (λ z. within (value_at q z) (λ v. at_once cc v))))

pub returns-in-Some-2 : goal.returns-in-Some-2
returns-in-Some-2 c w =
    let cc = call_of w c.args.call.now in
    let f : FitsSigned w64 c.in-Some-integer.number = search rules in
    ap (reply_of c.args.call.now.heap.now) c.at_once.ensures
    ∙ ap (λ o. within o (λ v. at_once cc v)) (sym c.in-Some-2.is ∙ c.in_ok-value.ensures ∙ ap (value_at (sequence_of c.in-Some.items)) (to_z-of_z w64 c.in-Some-integer.number f))
    ∙ (λ i. demands cc (c.in-Some.ensures i) (λ q. demands cc (c.in-Some-integer.ensures w i) (λ z. within (value_at q z) (λ v. at_once cc v))))

pub returns-in-None : goal.returns-in-None
returns-in-None c w =
    let cc = call_of w c.args.call.now in
    let f : FitsSigned w64 c.in-Some-integer.number = search rules in
    ap (reply_of c.args.call.now.heap.now) c.fault.ensures
    ∙ ap (λ o. within o (λ v. at_once cc v)) (sym c.in-None.is ∙ c.in_ok-value.ensures ∙ ap (value_at (sequence_of c.in-Some.items)) (to_z-of_z w64 c.in-Some-integer.number f))
    ∙ (λ i. demands cc (c.in-Some.ensures i) (λ q. demands cc (c.in-Some-integer.ensures w i) (λ z. within (value_at q z) (λ v. at_once cc v))))
