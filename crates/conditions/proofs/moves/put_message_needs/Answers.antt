use Rattle.std.proofs.Common.{◌≡◌, ℕ, [], ◌++◌, map, Some, option_map, sym, ap, ◌∙◌}
use Rattle.std.specs.Option.{option_map_or}
use Rattle.st_tree.specs.View.{method_of}
use Rattle.command_model.specs.Places.{SendOf, sent_by}
use Rattle.commands.specs.Views.{condition_of}
use Rattle.part_questions.specs.Parts.{part_of}
use Rattle.inlined_code.specs.Sending.{send_of}
use Rattle.inline_questions.specs.Codes.{code_alone, entry_in}
use Rattle.conditions.proofs.Messages.{target, sent_needs, put-same, put-none, put-lost, put-found}
use Rattle.conditions.specs.Messages.{found_needs}
use Rattle.conditions.proofs.moves.put_message_needs.Goals as goal

pub returns-in_default : goal.returns-in_default
returns-in_default g c =
    let f = c.args.found.now in
    put-none c.args.image.now c.args.part.now (map condition_of c.args.conditions.now.items) (sent_by (method_of f.method.tree.now) (part_of f.part))
    (sym (ap (option_map send_of) c.in_default.is) ∙ c.sent_of.ensures.sent)

pub returns-in_default-target_of : goal.returns-in_default-target_of
returns-in_default-target_of g c =
    let s = c.args.image.now in
    let p = c.args.part.now in
    let f = c.args.found.now in
    let e : SendOf ℕ = send_of c.in-Some.sent in
    let one : Some e ≡ sent_by (method_of f.method.tree.now) (part_of f.part) = sym (ap (option_map send_of) c.in-Some.is) ∙ c.sent_of.ensures.sent in
    put-lost s p (map condition_of c.args.conditions.now.items) (map condition_of c.put_all.new.conditions.items) e (sent_by (method_of f.method.tree.now) (part_of f.part)) one
    (sym (ap (option_map (entry_in s)) c.in_default-target_of.is) ∙ c.target_of.ensures.target p.method.class c.requires.named) c.in_ok-put_all.ensures

pub returns : goal.returns
returns g c =
    let s = c.args.image.now in
    let p = c.args.part.now in
    let f = c.args.found.now in
    let e : SendOf ℕ = send_of c.in-Some.sent in
    let one : Some e ≡ sent_by (method_of f.method.tree.now) (part_of f.part) = sym (ap (option_map send_of) c.in-Some.is) ∙ c.sent_of.ensures.sent in
    let found : Some (entry_in s c.in-Some-target_of.target) ≡ option_map code_alone (target s p e) =
    sym (ap (option_map (entry_in s)) c.in-Some-target_of.is) ∙ c.target_of.ensures.target p.method.class c.requires.named in
    let old = map condition_of c.args.conditions.now.items in
    let new = map condition_of c.put_all.new.conditions.items in
    let sent = sent_by (method_of f.method.tree.now) (part_of f.part) in
    put-same c.put_target_needs.result (map condition_of c.put_target_needs.new.conditions.items) (new ++ found_needs p e.selector (entry_in s c.in-Some-target_of.target)) (old ++ option_map_or (sent_needs s p) sent [])
    (put-found s p old new e sent (entry_in s c.in-Some-target_of.target) one found c.in_ok-put_all.ensures) c.put_target_needs.ensures
