use Rattle.std.proofs.Common.{◌∙◌, ap, FitsSigned, rules}
use Rattle.std.specs.Prelude.{None, set}
use Rattle.std.specs.Int.{w64}
use Rattle.std.proofs.lemmas.Int.{to_z-of_z}
use Rattle.run_model.specs.Views.{elements}
use Rattle.run_model.specs.Calls.{argument, answers, demands}
use Rattle.run_model.specs.SequencePrimitives.{place_of, within, item_at, with_item}
use Rattle.prim_calls.specs.Calls.{call_of}
use Rattle.prim_calls.specs.Replies.{reply_of}
use Rattle.sequence_prims.proofs.Steps.{mapped_none, mapped_some}
use Rattle.sequence_prims.proofs.items.stores_item.Goals as goal

pub returns-in_default-integer : goal.returns-in_default-integer
returns-in_default-integer c w =
    let cc = call_of w c.args.call.now in
    ap (reply_of c.args.call.now.heap.now) c.bad_argument-in_default-integer.ensures
    ∙ (λ i. demands cc (c.in-Some.ensures i) (λ k. demands cc (c.in_default-integer.ensures w i) (λ z. within (item_at (elements cc.heap k) z) (λ old. answers 0 None (argument cc 1) (with_item cc.heap k z (argument cc 1))))))

pub returns-in_default-place_within : goal.returns-in_default-place_within
returns-in_default-place_within c w =
    let cc = call_of w c.args.call.now in
    let f : FitsSigned w64 c.in-Some-integer.number = search rules in
    let n = mapped_none _ _ c.in_default-place_within.ensures ∙ (λ i. item_at (c.elements.ensures i) (to_z-of_z w64 c.in-Some-integer.number f i)) in
    ap (reply_of c.args.call.now.heap.now) c.fault.ensures
    ∙ ap (λ o. within o (λ old. answers 0 None (argument cc 1) (with_item cc.heap c.in-Some.array c.in-Some-integer.number (argument cc 1)))) n
    ∙ (λ i. demands cc (c.in-Some.ensures i) (λ k. demands cc (c.in-Some-integer.ensures w i) (λ z. within (item_at (elements cc.heap k) z) (λ old. answers 0 None (argument cc 1) (with_item cc.heap k z (argument cc 1))))))

pub returns : goal.returns
returns c w =
    let cc = call_of w c.args.call.now in
    let f : FitsSigned w64 c.in-Some-integer.number = search rules in
    let z = to_z-of_z w64 c.in-Some-integer.number f in
    let h = mapped_some _ _ _ c.in-Some-place_within.ensures in
    let e = h.1 ∙ (λ i. item_at (c.elements.ensures i) (z i)) in
    let a = h.2 ∙ ap place_of z in
    let u = c.in_ok-value.ensures w in
    let v = c.in_ok-share.ensures ∙ u in
    (λ i. answers 0 None (v i) (record cc.heap { arrays = set cc.heap.arrays c.in-Some.array (set (elements cc.heap c.in-Some.array) (a i) (u i)) }))
    ∙ ap (λ o. within o (λ old. answers 0 None (argument cc 1) (with_item cc.heap c.in-Some.array c.in-Some-integer.number (argument cc 1)))) e
    ∙ (λ i. demands cc (c.in-Some.ensures i) (λ k. demands cc (c.in-Some-integer.ensures w i) (λ z. within (item_at (elements cc.heap k) z) (λ old. answers 0 None (argument cc 1) (with_item cc.heap k z (argument cc 1))))))
