use Rattle.std.proofs.Common.{ap, sym, ◌∙◌, ◌+◌, drop}
use Rattle.st_tree.specs.LiteralView.{literal_of}
use Rattle.st_meaning.specs.StoreView.{store_of}
use Rattle.st_literals.proofs.Items.{left, left_step, left_none, left_over}
use Rattle.st_literals.proofs.Arms.{is_string, is_symbol, is_char, is_word, is_bytes, is_array, is_kept}
use Rattle.st_literals.proofs.literals.+literal.Goals as goal

pub literal-returns-in_ok-string-in-Str-clause-value : goal.literal-returns-in_ok-string-in-Str-clause-value
literal-returns-in_ok-string-in-Str-clause-value t c =
    is_string c.args.names.now c.args.literal.now _ c.in-Str.text _ _ (sym c.literal.view_is ∙ ap literal_of c.in-Str.is) c.in_ok-string-in-Str.ensures c.as_slice-in-Str.ensures

pub literal-returns-in_ok-symbol-in-Symbol-clause-value : goal.literal-returns-in_ok-symbol-in-Symbol-clause-value
literal-returns-in_ok-symbol-in-Symbol-clause-value t c =
    is_symbol c.args.names.now c.args.literal.now _ c.in-Symbol.text _ _ (sym c.literal.view_is ∙ ap literal_of c.in-Symbol.is) c.in_ok-symbol-in-Symbol.ensures c.as_slice-in-Symbol.ensures

pub literal-returns-in-Char-clause-value : goal.literal-returns-in-Char-clause-value
literal-returns-in-Char-clause-value t c = is_char c.args.names.now c.args.literal.now _ c.in-Char.byte _ (sym c.literal.view_is ∙ ap literal_of c.in-Char.is) c.new.ensures

pub literal-returns-in-Word-clause-value : goal.literal-returns-in-Word-clause-value
literal-returns-in-Word-clause-value t c =
    is_word c.args.names.now c.args.literal.now _ c.in-Word.name _ _ (sym c.literal.view_is ∙ ap literal_of c.in-Word.is) c.word.ensures c.as_slice-in-Word.ensures

pub literal-returns-in-Bytes-clause-value : goal.literal-returns-in-Bytes-clause-value
literal-returns-in-Bytes-clause-value t c = is_bytes c.args.names.now c.args.literal.now _ _ (sym c.literal.view_is ∙ ap literal_of c.in-Bytes.is)

pub literal-returns-in_ok-new_array-in-Some-clause-value : goal.literal-returns-in_ok-new_array-in-Some-clause-value
literal-returns-in_ok-new_array-in-Some-clause-value t c =
    is_array c.args.names.now c.args.literal.now _ c.in-Array.items _ (store_of c.args.names.now c.literals.new.store) _ c.in-Some.values _ _ (sym c.literal.view_is ∙ ap literal_of c.in-Array.is)
    c.as_slice-in-Array.ensures c.in_ok-values-in-Array.ensures.value c.in-Some.is c.in_ok-new_array-in-Some.ensures.value (c.in_ok-new_array-in-Some.ensures.store c.args.names.now)

pub literal-returns-in-None-clause-value : goal.literal-returns-in-None-clause-value
literal-returns-in-None-clause-value t c =
    is_kept c.args.names.now c.args.literal.now _ c.in-Array.items _ (store_of c.args.names.now c.literals.new.store) _ (sym c.literal.view_is ∙ ap literal_of c.in-Array.is)
    c.as_slice-in-Array.ensures c.in_ok-values-in-Array.ensures.value c.in-None.is

pub literals-loop-item-preserved : goal.literals-loop-item-preserved
literals-loop-item-preserved t c =
    let names = c.args.names.now in
    record {
      left =
          ap (λ vs. left names vs (drop (c.loop-item.item-index + 1) c.args.items.now) (store_of names c.literal.new.store)) c.in_ok-push-in-Some.ensures.ok
          ∙ left_step names c.loop-item.values _ c.in-Some.value c.args.items.now c.loop-item.item-index c.item-item.result _ _ c.loop-item-test.true c.item-item.is c.in_ok-value.ensures.value c.in-Some.is
          ∙ c.loop-item.invariant.left;
      ticks = c.in_ok-value.ensures.ticks ∙ c.loop-item.invariant.ticks;
    }

pub literals-returns-in-None-clause-value : goal.literals-returns-in-None-clause-value
literals-returns-in-None-clause-value t c =
    left_none c.args.names.now c.loop-item.values _ c.args.items.now c.loop-item.item-index c.item-item.result _ _ c.loop-item-test.true c.item-item.is c.in_ok-value.ensures.value c.in-None.is
    ∙ c.loop-item.invariant.left

pub literals-returns-clause-value : goal.literals-returns-clause-value
literals-returns-clause-value t c =
    left_over c.args.names.now c.loop-item.values c.args.items.now c.loop-item.item-index _ c.loop-item-test.false ∙ c.loop-item.invariant.left
