use Rattle.std.proofs.Common.{[], ◌++◌, ◌∙◌, ap, sym, Bool}
use Rattle.change_file.specs.Shown.{key_text}
use Rattle.change_file.proofs.MethodTexts.{key_done}
use Rattle.change_file.proofs.methods.key_of.Goals as goal
use Rattle.change_file.proofs.methods.key_of.Goals.{then-item+in_ok-push_slice-2, else-item+in_ok-push_slice-3}

pub returns : goal.returns
returns c =
    let m = c.args.item.now in
    let class = m.method.class.now in
    let key = c.loop-byte.key in
    elim c.if-item.branch [
      | then-item+in_ok-push_slice-2 w ↦
          key_done class m.method.meta m.selector.now c.loop-byte.byte-index key c.if-item.key _ c.loop-byte-test.false c.loop-byte.invariant
          (w.key-is ∙ w.in_ok-push_slice-2.ensures.ok ∙ ap (λ (b : Bool). key ++ key_text [] b []) (sym w.if-item.true)) c.in_ok-push_slice-4.ensures.ok
      | else-item+in_ok-push_slice-3 w ↦
          key_done class m.method.meta m.selector.now c.loop-byte.byte-index key c.if-item.key _ c.loop-byte-test.false c.loop-byte.invariant
          (w.key-is ∙ w.in_ok-push_slice-3.ensures.ok ∙ ap (λ (b : Bool). key ++ key_text [] b []) (sym w.if-item.false)) c.in_ok-push_slice-4.ensures.ok
    ]
