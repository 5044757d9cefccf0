use Rattle.std.proofs.Common.{refl, sym, ap, ◌∙◌}
use Rattle.std.proofs.lemmas.Result.{err_from_is_err_and}
use Rattle.image_model.specs.Image.{ImageOf}
use Rattle.run_model.specs.Values.{Name}
use Rattle.rename_model.specs.CommandWords.{text_command_words}
use Rattle.rename_model.specs.Conditions.{has_no_reflection}
use Rattle.command_model.specs.Conditions.{NoReflection}
use Rattle.rule_model.specs.RuleCommands.{RuleCommand, Unmet, Derived, is_derived}
use Rattle.wider_slots.proofs.StepLemmas.{wider-same}
use Rattle.certificates.specs.Asked.{command_in}
use Rattle.commands.specs.declared.condition.Condition.TheVariants as condition
use Rattle.session.specs.History.{version_behind}
use Rattle.session.specs.declared.refusal.RuleRefusal.TheVariants as refusal
use Rattle.session.proofs.Room.{room-image}
use Rattle.session.proofs.UnderWay.{under_way-room}
use Rattle.session.proofs.Made.{made-wanting}
use Rattle.session.proofs.RuledSteps.{quiet-texts, wider-names, same-command, known-later, ruling, telling, rule-reflective, rule-underived, rule-refused, rule-since}
use Rattle.session.proofs.ruling.perform_rule.Goals as goal

pub has_no_reflection-requires-clause-orderly : goal.has_no_reflection-requires-clause-orderly
has_no_reflection-requires-clause-orderly g c = c.requires.under_way.1.orderly

pub has_no_reflection-requires-clause-index : goal.has_no_reflection-requires-clause-index
has_no_reflection-requires-clause-index g c = c.requires.under_way.1.index_of

pub returns-in_err-has_no_reflection : goal.returns-in_err-has_no_reflection
returns-in_err-has_no_reflection g c =
    let s = c.args.image.now in
    let r = c.args.request.now in
    let q = err_from_is_err_and c.from_residual.result c.from_residual.ensures.1 in
    rw (q.1, q.2) (
    made-wanting s c.args.index.now c.args.done.now (ruling s.names r) (telling r) s c.args.index.now c.args.done.now refusal.Memory (wider-same s c.requires.under_way.1.closed) refl refl (λ names. refl))

pub returns-then-not-branch : goal.returns-then-not-branch
returns-then-not-branch g c =
    let s = c.args.image.now in
    let r = c.args.request.now in
    let way = c.requires.under_way.1 in
    let loud = quiet-texts c.commands_by_numbers.ensures.holds s way.orderly c.requires.self_known ∙ sym c.in_ok-has_no_reflection.ensures ∙ c.if-not-branch.true in
    rule-refused s c.args.index.now c.args.done.now r s (refusal.Condition condition.NoReflection) (Unmet NoReflection) (wider-same s way.closed) refl
    (λ q. rule-reflective (version_behind s q c.args.done.now.commands) (command_in s.names r) loud)

pub returns-in_err-is_derived : goal.returns-in_err-is_derived
returns-in_err-is_derived g c =
    let s = c.args.image.now in
    let p = c.is_derived.new.image in
    let r = c.args.request.now in
    let told = c.in_err-is_derived.ensures in
    let q = err_from_is_err_and c.from_residual-in_err-is_derived.result c.from_residual-in_err-is_derived.ensures.1 in
    rw (q.1, q.2) (
    made-wanting s c.args.index.now c.args.done.now (ruling s.names r) (telling r) p c.args.index.now c.args.done.now refusal.Memory (wider-names s p c.requires.under_way.1.closed told.rest told.grows told.once) refl refl (λ names. refl))

pub returns-then-not-branch-2 : goal.returns-then-not-branch-2
returns-then-not-branch-2 g c =
    let s = c.args.image.now in
    let p = c.is_derived.new.image in
    let r = c.args.request.now in
    let way = c.requires.under_way.1 in
    let told = c.in_ok-is_derived.ensures in
    let quiet = quiet-texts c.commands_by_numbers.ensures.holds s way.orderly c.requires.self_known ∙ sym c.in_ok-has_no_reflection.ensures ∙ c.if-not-branch.false in
    rule-refused s c.args.index.now c.args.done.now r p refusal.NotDerived (Derived (command_in s.names r).certificate) (wider-names s p way.closed told.rest told.grows told.once) refl
    (λ q. rule-underived (version_behind s q c.args.done.now.commands) (command_in s.names r) quiet (sym told.exact ∙ c.if-not-branch-2.true))

pub rewrite-requires-clause-under_way : goal.rewrite-requires-clause-under_way
rewrite-requires-clause-under_way g c =
    let s = c.args.image.now in
    let p = c.is_derived.new.image in
    let way = c.requires.under_way in
    let told = c.in_ok-is_derived.ensures in
    (way.0, under_way-room way.0 s p c.args.index.now c.args.done.now (wider-names s p way.1.closed told.rest told.grows told.once) way.1)

pub rewrite-requires-clause-known : goal.rewrite-requires-clause-known
rewrite-requires-clause-known g c = known-later c.args.image.now.names c.is_derived.new.image.names c.args.request.now c.in_ok-is_derived.ensures.grows c.requires.known

pub rewrite-requires-clause-quiet : goal.rewrite-requires-clause-quiet
rewrite-requires-clause-quiet g c =
    let s = c.args.image.now in
    let p = c.is_derived.new.image in
    let way = c.requires.under_way.1 in
    let told = c.in_ok-is_derived.ensures in
    ap (λ (i : ImageOf Name). has_no_reflection text_command_words i) (room-image s p (wider-names s p way.closed told.rest told.grows told.once))
    ∙ quiet-texts c.commands_by_numbers.ensures.holds s way.orderly c.requires.self_known ∙ sym c.in_ok-has_no_reflection.ensures ∙ c.if-not-branch.false

pub rewrite-requires-clause-derived : goal.rewrite-requires-clause-derived
rewrite-requires-clause-derived g c =
    let told = c.in_ok-is_derived.ensures in
    ap (λ (d : RuleCommand). is_derived d) (same-command c.args.image.now.names c.is_derived.new.image.names c.args.request.now told.grows c.requires.known) ∙ sym told.exact ∙ c.if-not-branch-2.false

pub returns : goal.returns
returns g c =
    let s = c.args.image.now in
    let p = c.is_derived.new.image in
    let way = c.requires.under_way in
    let told = c.in_ok-is_derived.ensures in
    let new = c.rewrite.new in
    rule-since s p c.args.index.now c.args.done.now c.args.request.now way.0 way.1 c.requires.known (wider-names s p way.1.closed told.rest told.grows told.once) told.grows new.image new.index new.done c.rewrite.result c.rewrite.ensures
