use Rattle.std.proofs.Common.{◌≡◌, ◌++◌, ◌∙◌, ap}
use Rattle.std.specs.Prelude.{codes}
use Rattle.rb_base.specs.Names.{name_at}
use Rattle.std.proofs.lemmas.Result.{on_ok_weaker}
use Rattle.image_file.proofs.Joined.{joined3}
use Rattle.image_file.proofs.class_texts.write_head.Goals as goal

pub returns : goal.returns
returns c =
    on_ok_weaker c.write_name.result
    (λ e. joined3 c.args.out.now c.push_slice.new.self c.push_slice-2.new.self c.write_name.new.out _ _ _
    (c.in_ok-push_slice.ensures.ok ∙ ap (λ t. c.args.out.now ++ t) c.superclass_name.ensures)
    c.in_ok-push_slice-2.ensures.ok
    (e ∙ ap (λ ns. c.push_slice-2.new.self ++ name_at ns c.args.rec.now.name) c.names.ensures))
    c.write_name.ensures
