use Rattle.std.proofs.Common.{◌≡◌, Some, [], ◌∷◌, ◌++◌, nat_eq, ap, ◌∙◌}
use Rattle.std.specs.Prelude.{if◌then◌else◌}
use Rattle.file_model.specs.Hierarchy.{has_class}
use Rattle.placed_draft.proofs.Answered.{whole_after, stated_answer, stated_order}
use Rattle.placed_draft.proofs.placed_draft.PlacedDraft.define_kept.Goals as goal

pub returns-clause-made : goal.returns-clause-made
returns-clause-made c =
    let classes = c.args.self.now.draft.classes in
    let noted : c.note.new.order ≡ Some (if has_class nat_eq classes c.args.definition.name then c.args.order else c.args.order ++ c.args.definition.name ∷ []) =
    c.note.ensures ∙ ap Some (c.in_ok-names.ensures ∙ (λ i. if (c.has_class-is_there.ensures ∙ ap (has_class nat_eq classes) c.name_of-name.ensures) i then c.args.order else c.args.order ++ c.name_of-name.ensures i ∷ [])) in
    stated_answer c.change.result c.args.kernel c.args.self.now.draft c.change.new.self c.args.order c.requires.draft c.requires.order c.note.new.order c.args.definition noted c.change.ensures.made

pub returns-clause-whole : goal.returns-clause-whole
returns-clause-whole c =
    let classes = c.args.self.now.draft.classes in
    let noted : c.note.new.order ≡ Some (if has_class nat_eq classes c.args.definition.name then c.args.order else c.args.order ++ c.args.definition.name ∷ []) =
    c.note.ensures ∙ ap Some (c.in_ok-names.ensures ∙ (λ i. if (c.has_class-is_there.ensures ∙ ap (has_class nat_eq classes) c.name_of-name.ensures) i then c.args.order else c.args.order ++ c.name_of-name.ensures i ∷ [])) in
    whole_after c.change.result (record { draft = c.change.new.self; order = c.note.new.order; places = c.args.self.now.places }) c.change.ensures.whole
    (stated_order c.change.result c.args.kernel c.args.self.now.draft c.change.new.self c.args.order c.requires.draft c.requires.order c.note.new.order c.args.definition noted c.change.ensures.made)
