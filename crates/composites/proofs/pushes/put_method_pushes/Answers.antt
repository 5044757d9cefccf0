use Rattle.std.proofs.Common.{ℕ, false, ◌++◌, [], option_map, sym, ap, ◌∙◌}
use Rattle.std.specs.List.{cons_option}
use Rattle.std.proofs.lemmas.List.{append-nil}
use Rattle.commands.specs.declared.command.Command.{Command}
use Rattle.commands.specs.declared.command.Command.TheVariants as command
use Rattle.composites.specs.Pushed.{slot_push}
use Rattle.composites.proofs.Listed.{missing-same}
use Rattle.composites.proofs.Lists.{found-more}
use Rattle.composites.proofs.pushes.put_method_pushes.Goals as goal
use Rattle.composites.proofs.pushes.put_method_pushes.Goals.{in-Some+in_ok-put, in_default}

pub loop-slot-preserved-then-not-is_listed : goal.loop-slot-preserved-then-not-is_listed
loop-slot-preserved-then-not-is_listed g c =
    let s = c.args.image.now in
    let k = c.slot-item.result in
    let before = c.loop-slot.commands.items in
    found-more (slot_push s c.args.class c.args.variable) c.methods-slot-items.result.now c.loop-slot.slot-index k c.args.commands.now.items before before
    c.loop-slot-test.true c.slot-item.is c.loop-slot.invariant
    (missing-same s c.args.index.now c.requires c.args.class c.args.variable k c.listed.result.now c.listed.ensures before c.as_slice-own.result.now c.in_ok-slots.slots.items c.is_listed.result
    c.as_slice-own.ensures.value c.in_ok-slots.ensures c.is_listed.ensures c.if-not-is_listed.true)

pub loop-slot-preserved : goal.loop-slot-preserved
loop-slot-preserved g c =
    let up : ℕ → Command = λ selector. command.PushUpMethod (record { class = c.args.class; meta = false; selector = selector }) in
    found-more (slot_push c.args.image.now c.args.class c.args.variable) c.methods-slot-items.result.now c.loop-slot.slot-index c.slot-item.result c.args.commands.now.items c.loop-slot.commands.items c.match-found.commands.items
    c.loop-slot-test.true c.slot-item.is c.loop-slot.invariant (
    elim c.match-found.branch [
      | in-Some+in_ok-put w ↦
          ap (λ v. v.items) w.commands-is ∙ w.in_ok-put.ensures ∙ ap (λ o. c.loop-slot.commands.items ++ cons_option o []) (ap (option_map up) (sym w.in-Some.is) ∙ c.in_ok-found.ensures)
      | in_default w ↦
          ap (λ v. v.items) w.commands-is ∙ sym (append-nil c.loop-slot.commands.items)
          ∙ ap (λ o. c.loop-slot.commands.items ++ cons_option o []) (ap (option_map up) (sym w.in_default.is) ∙ c.in_ok-found.ensures)
    ])
