use Rattle.std.proofs.Common.{Bool, cond, Some, None, is_some, sym, ap, ◌∙◌}
use Rattle.std.proofs.lemmas.Bool.{le-leb, lt-leb}
use Rattle.std.specs.HashMap.{get}
use Rattle.file_model.specs.Causes.{TooMany}
use Rattle.file_model.specs.Refusals.{method_limit}
use Rattle.image_draft.specs.MethodSlots.{same_key, key_of, those_there}
use Rattle.image_draft.proofs.SlotMethods.{refusals-last, has-unlisted, with-new}
use Rattle.image_draft.proofs.method_slots.MethodSlots.put_new.Goals as goal

pub returns-then-self-ge-METHOD_LIMIT-clause-cause : goal.returns-then-self-ge-METHOD_LIMIT-clause-cause
returns-then-self-ge-METHOD_LIMIT-clause-cause c =
    sym (refusals-last c.args.self.now c.requires.keeps c.args.method (ap (get same_key c.args.self.now.places) c.requires.its ∙ c.requires.is_new)
    ∙ ap (λ (b : Bool). cond b (Some TooMany) None) (le-leb method_limit c.args.self.now.count c.if-self-ge-METHOD_LIMIT.true))

pub returns-then-self-ge-METHOD_LIMIT-clause-some : goal.returns-then-self-ge-METHOD_LIMIT-clause-some
returns-then-self-ge-METHOD_LIMIT-clause-some c =
    sym (ap is_some (refusals-last c.args.self.now c.requires.keeps c.args.method (ap (get same_key c.args.self.now.places) c.requires.its ∙ c.requires.is_new)
    ∙ ap (λ (b : Bool). cond b (Some TooMany) None) (le-leb method_limit c.args.self.now.count c.if-self-ge-METHOD_LIMIT.true)))

pub returns-clause-cause : goal.returns-clause-cause
returns-clause-cause c =
    sym (refusals-last c.args.self.now c.requires.keeps c.args.method (ap (get same_key c.args.self.now.places) c.requires.its ∙ c.requires.is_new)
    ∙ ap (λ (b : Bool). cond b (Some TooMany) None) (lt-leb method_limit c.args.self.now.count c.if-self-ge-METHOD_LIMIT.false))

pub returns-clause-some : goal.returns-clause-some
returns-clause-some c =
    sym (ap is_some (refusals-last c.args.self.now c.requires.keeps c.args.method (ap (get same_key c.args.self.now.places) c.requires.its ∙ c.requires.is_new)
    ∙ ap (λ (b : Bool). cond b (Some TooMany) None) (lt-leb method_limit c.args.self.now.count c.if-self-ge-METHOD_LIMIT.false)))

pub returns-clause-changed : goal.returns-clause-changed
returns-clause-changed c =
    with-new c.args.method (those_there c.args.self.now.slots.items) (those_there c.add.new.self.slots.items)
    (has-unlisted c.args.self.now c.requires.keeps (key_of c.args.method) (ap (get same_key c.args.self.now.places) c.requires.its ∙ c.requires.is_new)) c.in_ok-add.ensures.added
