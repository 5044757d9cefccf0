use Rattle.std.proofs.Common.{◌≡◌, ◌++◌, ◌+◌, ◌∙◌, sym, ap, append-nil, None, option_map, drop}
use Rattle.file_model.specs.Written.{methods_text}
use Rattle.image_file.specs.Runs.{run_text, user_entries}
use Rattle.image_file.proofs.Written.{item_at, method_step, kernel_step, methods_end, open_run, no_run}
use Rattle.image_file.proofs.method_texts.write_methods.Goals as goal
use Rattle.image_file.proofs.method_texts.write_methods.Goals.{in-None, in-Some+in_ok-write_opening-in-Some+in_ok-write_ended_chunk-in-Some}

pub loop-slot-preserved : goal.loop-slot-preserved
loop-slot-preserved c =
    let s = c.args.image.now in
    let items = c.methods-slot-items.result.now in
    let i = c.loop-slot.slot-index in
    let k = c.slot-item.result in
    let there = item_at items i k c.loop-slot-test.true c.slot-item.is in
    elim c.match-user_method.branch [
      | in-None w ↦
          ap (λ t. t ++ methods_text (option_map run_text c.match-user_method.before) (user_entries s (drop (i + 1) items))) w.out-is
          ∙ ap (λ b. c.loop-slot.out ++ methods_text (option_map run_text b) (user_entries s (drop (i + 1) items))) w.before-is
          ∙ kernel_step s items i k c.loop-slot.before c.loop-slot.out _ there w.in-None.ensures c.loop-slot.invariant
      | in-Some+in_ok-write_opening-in-Some+in_ok-write_ended_chunk-in-Some w ↦
          ap (λ b. c.match-user_method.out ++ methods_text (option_map run_text b) (user_entries s (drop (i + 1) items))) w.before-is
          ∙ method_step s items i k c.loop-slot.before w.in-Some.method c.loop-slot.out w.write_opening.new.out c.match-user_method.out _ there w.in-Some.ensures c.loop-slot.invariant
          w.in_ok-write_opening-in-Some.ensures (w.out-is ∙ w.in_ok-write_ended_chunk-in-Some.ensures)
    ]

pub returns-in_ok-push_slice : goal.returns-in_ok-push_slice
returns-in_ok-push_slice c =
    c.in_ok-push_slice.ensures.ok
    ∙ ap (λ t. c.loop-slot.out ++ t) (sym (open_run c.loop-slot.before (sym c.is_some.ensures ∙ c.if-is_some.true)))
    ∙ methods_end c.args.image.now c.methods-slot-items.result.now c.loop-slot.slot-index c.loop-slot.before c.loop-slot.out _ c.loop-slot-test.false c.loop-slot.invariant
    ∙ ap (λ ks. c.args.out.now ++ methods_text None (user_entries c.args.image.now ks)) c.methods-slot-items.ensures.value

pub returns-else-is_some : goal.returns-else-is_some
returns-else-is_some c =
    sym (append-nil c.loop-slot.out)
    ∙ ap (λ t. c.loop-slot.out ++ t) (sym (no_run c.loop-slot.before (sym c.is_some.ensures ∙ c.if-is_some.false)))
    ∙ methods_end c.args.image.now c.methods-slot-items.result.now c.loop-slot.slot-index c.loop-slot.before c.loop-slot.out _ c.loop-slot-test.false c.loop-slot.invariant
    ∙ ap (λ ks. c.args.out.now ++ methods_text None (user_entries c.args.image.now ks)) c.methods-slot-items.ensures.value
