use Rattle.std.proofs.Common.{◌≡◌, ℕ, ◌+◌, ◌-◌, ◌<◌, ◌≤◌, suc, length, refl, sym, ap, ◌∙◌, codes, arith}
use Rattle.std.proofs.lemmas.Grind.{common_steps}
use Rattle.std.proofs.lemmas.List.{take_all, drop_all}
use Rattle.rb_base.specs.Names.{name_at}
use Rattle.tree_model.specs.Measure.{messages_weight}
use Rattle.st_tree.specs.View.{messages_of}
use Rattle.text_model.specs.Pieces.{keywords_of}
use Rattle.st_formatter.proofs.Items.{message_weight-item, ArgumentNames-item, selector-item}
use Rattle.st_formatter.proofs.Turned.{items_at-within, items_at-beyond, and-true, arguments-turned, flat-turned, brace_whole}
use Rattle.st_formatter.proofs.Words.{items-left, length-left}
use Rattle.st_formatter.proofs.trees.+tree.Goals as goal

pub write_argument-returns-then-at-arguments-clause-text : goal.write_argument-returns-then-at-arguments-clause-text
write_argument-returns-then-at-arguments-clause-text t c = rw (items_at-beyond c.args.arguments.now c.args.at c.if-at-arguments.true) refl

pub write_argument-returns-then-at-arguments-clause-flat : goal.write_argument-returns-then-at-arguments-clause-flat
write_argument-returns-then-at-arguments-clause-flat t c = rw (items_at-beyond c.args.arguments.now c.args.at c.if-at-arguments.true) refl

pub write_argument-returns-clause-text : goal.write_argument-returns-clause-text
write_argument-returns-clause-text t c =
    rw (items_at-within c.args.arguments.now c.args.at c.index-arguments-at.result (omega arith) c.index-arguments-at.is) (grind (arith, common_steps))

pub write_argument-returns-clause-flat : goal.write_argument-returns-clause-flat
write_argument-returns-clause-flat t c =
    rw (items_at-within c.args.arguments.now c.args.at c.index-arguments-at.result (omega arith) c.index-arguments-at.is) (grind (arith, common_steps, and-true))

pub write_brace-returns-in_ok-put_byte-in-Some-2-clause-text : goal.write_brace-returns-in_ok-put_byte-in-Some-2-clause-text
write_brace-returns-in_ok-put_byte-in-Some-2-clause-text t c =
    let none : c.loop-at.at ≡ 0 = omega arith in
    let others = rw none at c.loop-at.invariant.out in
    rw (c.in-Some.ensures.cases.0)
    (brace_whole _ _ _ _ _ _ _ c.in_ok-put_byte-in-Some-2.ensures c.in_ok-one-in-Some-2.ensures.text others c.in_ok-put_byte-in-Some.ensures)

pub write_message-loop-at-init : goal.write_message-loop-at-init
write_message-loop-at-init t c =
    let pieces = keywords_of c.text_of-text.result.now in
    let counted : length pieces ≤ c.max-at.result = omega arith in
    let arguments = drop_all c.max-at.result c.args.arguments.now (omega arith) in
    record {
      flat = rw arguments refl;
      words = sym (take_all c.max-at.result pieces counted);
      out = rw (arguments, drop_all c.max-at.result pieces counted) refl;
    }

pub write_message-write_keyword-requires : goal.write_message-write_keyword-requires
write_message-write_keyword-requires t c =
    let f : c.loop-at.at ≡ suc (c.loop-at.at - 1) = omega arith in
    let words = rw f at c.loop-at.invariant.words in
    let left = length-left _ _ (c.loop-at.at - 1) _ words c.count_keywords-count.ensures in
    record { last = left.0; none = left.1 }

pub write_message-loop-at-preserved : goal.write_message-loop-at-preserved
write_message-loop-at-preserved t c =
    let e : c.loop-at.at ≡ c.loop-at.at - 1 + 1 = omega arith in
    let f : c.loop-at.at ≡ suc (c.loop-at.at - 1) = omega arith in
    let out = rw e at c.loop-at.invariant.out in
    let flat = rw f at c.loop-at.invariant.flat in
    let words = rw f at c.loop-at.invariant.words in
    let left = items-left _ _ (c.loop-at.at - 1) words in
    let turn = arguments-turned (codes " ") c.args.level c.args.message (name_at c.args.names.now) (keywords_of c.text_of-text.result.now) c.args.arguments.now (c.loop-at.at - 1) c.args.out.now in
    let both = flat-turned (name_at c.args.names.now) c.args.arguments.now (c.loop-at.at - 1) in
    record {
      flat = cc (both, flat, c.both-flat.ensures, c.in_ok-one.ensures.flat);
      words = c.in_ok-words.ensures.rest ∙ left.1;
      out = cc (turn, out, left.0, c.in_ok-words.ensures.text, c.in_ok-one.ensures.text);
    }

pub write_messages-write_next-requires : goal.write_messages-write_next-requires
write_messages-write_next-requires t c =
    let within : c.loop-at.at - 1 < length c.in-Some.rest.now = omega arith in
    let lighter = message_weight-item c.in-Some.rest.now (c.loop-at.at - 1) c.index-rest-at.result within c.index-rest-at.is in
    let whole = ap (λ ms. messages_weight (messages_of ms)) c.in-Some.ensures.cases.0 in
    let names = rw (c.in-Some.ensures.cases.0) at c.requires in
    let P : ℕ → Type 0 = λ n. n < length c.args.names.now in (
      omega (arith, lighter, whole),
      (
        selector-item (length c.args.names.now) c.in-Some.rest.now (c.loop-at.at - 1) c.index-rest-at.result within c.index-rest-at.is names.2,
        ArgumentNames-item P c.in-Some.rest.now (c.loop-at.at - 1) c.index-rest-at.result within c.index-rest-at.is names.2,
      ),
    )

pub write_messages-returns-in_ok-one-in-Some-2-clause-text : goal.write_messages-returns-in_ok-one-in-Some-2-clause-text
write_messages-returns-in_ok-one-in-Some-2-clause-text t c = rw (c.in-Some.ensures.cases.0) (grind (arith, common_steps))
