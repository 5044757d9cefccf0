use Rattle.std.proofs.Common.{◌∙◌, ap}
use Rattle.prim_calls.specs.Calls.{call_of}
use Rattle.std.specs.Prelude.{[], codes, if◌then◌else◌}
use Rattle.std.specs.List.{list_any}
use Rattle.rb_base.specs.Names.{text_eq}
use Rattle.run_model.specs.Values.{string_value, bad_argument}
use Rattle.run_model.specs.Calls.{faults, at_once, makes_array}
use Rattle.run_model.specs.ObjectPrimitives.{value_classes, new_object}
use Rattle.st_prims.proofs.objects.instance_of.Goals as goal

pub returns-then-same_text : goal.returns-then-same_text
returns-then-same_text c w =
    let cc = call_of w c.args.call.now in
    let d = c.args.class.now in
    c.array.ensures w ∙ ap (makes_array cc) c.new.ensures
    ∙ ap (λ b. if b then makes_array cc [] else if text_eq d (codes "String") then at_once cc (string_value []) else if list_any (text_eq d) value_classes then faults (bad_argument cc.number) else new_object cc d)
    (c.if-same_text.ensures ∙ ap (λ u. text_eq u (codes "Array")) c.as_slice.ensures)
