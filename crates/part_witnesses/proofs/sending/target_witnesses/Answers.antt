use Rattle.std.proofs.Common.{◌≡◌, ℕ, Bool, List, ◌++◌, Some, Option, OnOk, option_map, sym, ap, subst, ◌∙◌}
use Rattle.image_model.specs.Image.{EntryOf}
use Rattle.command_model.specs.Parts.{Part}
use Rattle.part_questions.specs.Parts.{part_of}
use Rattle.code_conditions.specs.Trees.{users_part}
use Rattle.code_conditions.proofs.Sends.{side-found}
use Rattle.refusal_witnesses.specs.Witnesses.{WitnessOf}
use Rattle.witness_lists.specs.Views.{shown}
use Rattle.part_witnesses.specs.Held.{held_as}
use Rattle.part_witnesses.specs.Standing.{found_as, sent_standing, target_standing}
use Rattle.part_witnesses.proofs.Pushed.{nothing}
use Rattle.part_witnesses.proofs.Sends.{any-message, class-found, no-part, of_sent}
use Rattle.part_witnesses.proofs.sending.target_witnesses.Goals as goal

pub returns-in-None : goal.returns-in-None
returns-in-None g c =
    let s = c.args.image.now in
    let p = c.args.part.now in
    nothing (shown s c.args.found.now.items) _
    (no-part s p (of_sent s p (target_standing s p.method.class c.args.condition.now)) (sym (ap (option_map (found_as s.classes)) c.in-None.is) ∙ c.in_ok-found_part.ensures.part))

pub sent_witnesses-requires-clause-held : goal.sent_witnesses-requires-clause-held
sent_witnesses-requires-clause-held g c = c.in_ok-found_part.ensures.held c.in-Some.there c.in-Some.is

pub sent_witnesses-requires-clause-class : goal.sent_witnesses-requires-clause-class
sent_witnesses-requires-clause-class g c =
    let s = c.args.image.now in
    let f = c.in-Some.there in
    class-found s c.args.part.now (held_as s.classes f.method) (part_of f.part) (sym (ap (option_map (found_as s.classes)) c.in-Some.is) ∙ c.in_ok-found_part.ensures.part)

pub returns-in-Some : goal.returns-in-Some
returns-in-Some g c =
    let s = c.args.image.now in
    let p = c.args.part.now in
    let f = c.in-Some.there in
    let k = c.args.condition.now in
    let m : EntryOf ℕ = held_as s.classes f.method in
    let there : ◌≡◌ {A = Option (EntryOf ℕ × Part)} (Some (found_as s.classes f)) (users_part s p) = sym (ap (option_map (found_as s.classes)) c.in-Some.is) ∙ c.in_ok-found_part.ensures.part in
    subst (λ (ws : List (WitnessOf ℕ)). OnOk c.sent_witnesses.result (shown s c.sent_witnesses.new.found.items ≡ shown s c.args.found.now.items ++ ws))
    (ap (λ (b : Bool). sent_standing s p.method.class b k m (part_of f.part)) (side-found s p m (part_of f.part) there)
    ∙ any-message s p (of_sent s p (target_standing s p.method.class k)) m (part_of f.part) there)
    c.sent_witnesses.ensures
