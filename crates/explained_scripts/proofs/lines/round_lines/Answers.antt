use Rattle.std.proofs.Common.{refl, sym, ap, ◌∙◌}
use Rattle.std.specs.Prelude.{option_map}
use Rattle.std.proofs.lemmas.Result.{IfOk-weaker}
use Rattle.rb_base.specs.Names.{name_at}
use Rattle.image_model.specs.Image.{map_entry}
use Rattle.class_table.specs.View.{image_of}
use Rattle.users_methods.specs.Users.{entry_in}
use Rattle.explained_scripts.proofs.AtTexts.{law-at, round-none, round-some, users-titled}
use Rattle.explained_scripts.proofs.lines.round_lines.Goals as goal

pub returns-in_default : goal.returns-in_default
returns-in_default g c =
    let s = c.args.image.now in
    round-none s (law-at c.witnesses_by_numbers.ensures s c.requires.orderly c.requires.self_known) c.args.part.now c.requires.class c.requires.selector
    (sym (ap (option_map (entry_in s.classes)) c.in_default.is) ∙ c.users_method.ensures.method) c.new.result.items c.new.ensures.items

pub returns : goal.returns
returns g c =
    let s = c.args.image.now in
    let part = c.args.part.now in
    let method = c.in-Some.method in
    let law = law-at c.witnesses_by_numbers.ensures s c.requires.orderly c.requires.self_known in
    IfOk-weaker c.round_nodes.result _ _
    (λ lines h. round-some s law part c.requires.class c.requires.selector method (sym (ap (option_map (entry_in s.classes)) c.in-Some.is) ∙ c.users_method.ensures.method) lines.items
    (h (image_of s) (map_entry (name_at s.names) (entry_in s.classes method))
    (users-titled s law part c.requires.class c.requires.selector method (c.in-Some.ensures.named method refl) _ (c.as_slice.ensures ∙ c.in_ok-title.ensures))))
    c.round_nodes.ensures
