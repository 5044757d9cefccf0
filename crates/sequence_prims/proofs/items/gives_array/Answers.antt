use Rattle.std.proofs.Common.{◌∙◌, ap, sym, replicate, FitsSigned, rules}
use Rattle.std.specs.Prelude.{None, length, pos, int_lt, nat_abs}
use Rattle.std.specs.Int.{w64}
use Rattle.std.proofs.lemmas.Int.{to_z-of_z}
use Rattle.run_model.specs.Values.{nil_value, array_value}
use Rattle.run_model.specs.Store.{with_array}
use Rattle.run_model.specs.Calls.{argument, answers, demands, makes_array, as_integer}
use Rattle.run_model.specs.SequencePrimitives.{length_of}
use Rattle.prim_calls.specs.Calls.{call_of}
use Rattle.prim_calls.specs.Replies.{reply_of}
use Rattle.sequence_prims.proofs.Steps.{is_array, is_length, is_no_length, is_too_long, nils, nils_made}
use Rattle.sequence_prims.proofs.items.gives_array.Goals as goal

pub returns-in_default : goal.returns-in_default
returns-in_default c w =
    let cc = call_of w c.args.call.now in
    is_array cc (λ d. demands cc (as_integer (argument cc 0)) (λ z. demands cc (length_of z) (λ n. nils cc n))) (reply_of c.args.call.now.heap.now c.bad_argument-in_default.result) c.if-not-is_array_class.ensures
    (λ d. ap (reply_of c.args.call.now.heap.now) c.bad_argument-in_default.ensures ∙ (λ i. demands cc (c.in_default.ensures w i) (λ z. demands cc (length_of z) (λ n. nils cc n))))

pub returns-then-length-lt0 : goal.returns-then-length-lt0
returns-then-length-lt0 c w =
    let cc = call_of w c.args.call.now in
    let f : FitsSigned w64 c.in-Some.length = search rules in
    let z = to_z-of_z w64 c.in-Some.length f in
    is_array cc (λ d. demands cc (as_integer (argument cc 0)) (λ z. demands cc (length_of z) (λ n. nils cc n))) (reply_of c.args.call.now.heap.now c.bad_argument-then-length-lt0.result) c.if-not-is_array_class.ensures
    (λ d. ap (reply_of c.args.call.now.heap.now) c.bad_argument-then-length-lt0.ensures
    ∙ is_no_length cc c.in-Some.length (nils cc) (ap (λ u. int_lt u (pos 0)) (sym z) ∙ c.if-length-lt0.true)
    ∙ (λ i. demands cc (c.in-Some.ensures w i) (λ z. demands cc (length_of z) (λ n. nils cc n))))

pub returns-then-length-gt65535 : goal.returns-then-length-gt65535
returns-then-length-gt65535 c w =
    let cc = call_of w c.args.call.now in
    let f : FitsSigned w64 c.in-Some.length = search rules in
    let z = to_z-of_z w64 c.in-Some.length f in
    let n = nat_abs c.in-Some.length in
    is_array cc (λ d. demands cc (as_integer (argument cc 0)) (λ z. demands cc (length_of z) (λ n. nils cc n))) (reply_of c.args.call.now.heap.now c.fault.result) c.if-not-is_array_class.ensures
    (λ d. ap (reply_of c.args.call.now.heap.now) c.fault.ensures
    ∙ is_too_long c.in-Some.length (answers n None (array_value (length cc.heap.arrays)) (with_array cc.heap (replicate n nil_value))) (ap (int_lt (pos 65535)) (sym z) ∙ c.if-length-gt65535.true)
    ∙ is_length cc c.in-Some.length (nils cc) (ap (λ u. int_lt u (pos 0)) (sym z) ∙ c.if-length-lt0.false)
    ∙ (λ i. demands cc (c.in-Some.ensures w i) (λ z. demands cc (length_of z) (λ n. nils cc n))))

pub returns : goal.returns
returns c w =
    let cc = call_of w c.args.call.now in
    let f : FitsSigned w64 c.in-Some.length = search rules in
    let z = to_z-of_z w64 c.in-Some.length f in
    is_array cc (λ d. demands cc (as_integer (argument cc 0)) (λ z. demands cc (length_of z) (λ n. nils cc n))) (reply_of c.args.call.now.heap.now c.array.result) c.if-not-is_array_class.ensures
    (λ d. c.array.ensures w ∙ ap (makes_array cc) (c.in_ok-nils.ensures ∙ ap (λ u. replicate (nat_abs u) nil_value) z)
    ∙ nils_made cc (nat_abs c.in-Some.length)
    ∙ is_length cc c.in-Some.length (nils cc) (ap (λ u. int_lt u (pos 0)) (sym z) ∙ c.if-length-lt0.false)
    ∙ (λ i. demands cc (c.in-Some.ensures w i) (λ z. demands cc (length_of z) (λ n. nils cc n))))
