use Rattle.std.proofs.Common.{◌≡◌, ℕ, List, [], ◌∷◌, ◌++◌, map, Option, Some, None, option_map, sym, ap, ◌∙◌}
use Rattle.std.specs.Option.{option_map_or}
use Rattle.image_model.specs.Image.{EntryOf}
use Rattle.st_tree.specs.View.{method_of}
use Rattle.command_model.specs.Places.{sent_by}
use Rattle.command_model.specs.Conditions.{ConditionOf, NoReflection, IsUserClass, Implements, SelfSend}
use Rattle.command_model.specs.Parts.{Part}
use Rattle.commands.specs.Views.{condition_of}
use Rattle.part_questions.specs.Parts.{part_of}
use Rattle.part_lookup.specs.Found.{found_in}
use Rattle.users_methods.specs.Users.{entry_in}
use Rattle.conditions.proofs.Messages.{users_part, sent_needs, no_part, one_part}
use Rattle.conditions.proofs.moves.needs_of_message.Goals as goal

pub returns-in_default : goal.returns-in_default
returns-in_default g c =
    let s = c.args.image.now in
    let p = c.args.part.now in
    let there : ◌≡◌ {A = Option (EntryOf ℕ × Part)} None (users_part s p) = sym (ap (option_map (found_in s.classes)) c.in_default.is) ∙ c.in_ok-found.ensures.part in
    ap (map condition_of) c.in_ok-conditions.ensures.items
    ∙ ap (λ (cs : List (ConditionOf ℕ)). NoReflection ∷ IsUserClass p.method.class ∷ Implements p.method.class p.method.meta p.method.selector ∷ SelfSend p.method.class p.method.meta p.method.selector p.from p.to ∷ cs) (no_part s p there)

pub returns : goal.returns
returns g c =
    let s = c.args.image.now in
    let p = c.args.part.now in
    let f = c.in-Some.found in
    let there : ◌≡◌ {A = Option (EntryOf ℕ × Part)} (Some (found_in s.classes f)) (users_part s p) = sym (ap (option_map (found_in s.classes)) c.in-Some.is) ∙ c.in_ok-found.ensures.part in
    c.in_ok-put_message_needs.ensures
    ∙ ap (λ (cs : List (ConditionOf ℕ)). cs ++ option_map_or (sent_needs s p) (sent_by (method_of f.method.tree.now) (part_of f.part)) []) (ap (map condition_of) c.in_ok-conditions.ensures.items)
    ∙ ap (λ (cs : List (ConditionOf ℕ)). NoReflection ∷ IsUserClass p.method.class ∷ Implements p.method.class p.method.meta p.method.selector ∷ SelfSend p.method.class p.method.meta p.method.selector p.from p.to ∷ cs)
    (one_part s p (entry_in s.classes f.method) (part_of f.part) there)
