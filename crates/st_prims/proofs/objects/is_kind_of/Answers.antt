use Rattle.std.proofs.Common.{◌∙◌, ap}
use Rattle.prim_calls.specs.Calls.{call_of}
use Rattle.prim_calls.specs.Replies.{reply_of}
use Rattle.std.specs.Prelude.{Some}
use Rattle.std.specs.List.{list_any}
use Rattle.rb_base.specs.Names.{text_eq}
use Rattle.image_model.specs.Image.{ClassOf}
use Rattle.image_model.specs.Chain.{chain}
use Rattle.run_model.specs.Values.{Name}
use Rattle.run_model.specs.Calls.{at_once, demands, truth}
use Rattle.run_model.specs.ObjectPrimitives.{instance_class, is_on_chain}
use Rattle.class_table.specs.View.{image_of}
use Rattle.st_prims.specs.Closures.{world_of}
use Rattle.st_prims.proofs.objects.is_kind_of.Goals as goal

pub returns-in_default : goal.returns-in_default
returns-in_default c closures =
    let w = world_of closures c.args.image.now in
    let cc = call_of w c.args.call.now in
    ap (reply_of c.args.call.now.heap.now) c.bad_argument.ensures
    ∙ (λ i. demands cc (c.in_default.ensures w i) (λ d. at_once cc (is_on_chain w.classes d (instance_class cc.heap cc.receiver))))

pub returns : goal.returns
returns c closures =
    let w = world_of closures c.args.image.now in
    let cc = call_of w c.args.call.now in
    ap (reply_of c.args.call.now.heap.now) c.at_once.ensures
    ∙ ap (at_once cc) (c.truth.ensures ∙ ap truth (c.is_on_chain.ensures ∙ (λ i. list_any (λ (k : ClassOf Name). text_eq (c.as_slice.ensures i) k.name) (chain text_eq (image_of c.args.image.now).classes (Some (c.instance_class-name.ensures i))))))
    ∙ (λ i. demands cc (c.in-Some.ensures w i) (λ d. at_once cc (is_on_chain w.classes d (instance_class cc.heap cc.receiver))))
