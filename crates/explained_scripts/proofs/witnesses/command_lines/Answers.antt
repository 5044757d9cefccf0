use Rattle.std.proofs.Common.{◌≡◌, false, Option, Some, subst}
use Rattle.std.proofs.lemmas.Result.{IfOk-weaker}
use Rattle.class_table.specs.Slots.{Slots}
use Rattle.commands.specs.declared.command.MethodPart.{MethodPart}
use Rattle.commands.specs.declared.condition.Condition.{Condition}
use Rattle.commands.specs.declared.condition.Condition.TheVariants as condition
use Rattle.explained_scripts.specs.Refused.{is_part_there, IsMissing}
use Rattle.explained_scripts.proofs.AtTexts.{law-at}
use Rattle.explained_scripts.proofs.CommandLines.{lines-there, part-known, lines-round}
use Rattle.explained_scripts.proofs.witnesses.command_lines.Goals as goal

-- what is known of a part that is missing
missing : (s : Slots) (q : Condition) (o : Option MethodPart) (p : MethodPart) → o ≡ Some p → IsMissing s q o → (q ≡ condition.PartIs p) × (is_part_there s p ≡ false)
missing s q o p is h = subst (IsMissing s q) is h

pub round_lines-requires-clause-class : goal.round_lines-requires-clause-class
round_lines-requires-clause-class g c = (part-known c.args.image.now c.args.refused.now c.requires.known c.in-Some.part (missing c.args.image.now c.args.refused.now.condition _ c.in-Some.part c.in-Some.is c.in_ok-part.ensures).0).0

pub round_lines-requires-clause-selector : goal.round_lines-requires-clause-selector
round_lines-requires-clause-selector g c = (part-known c.args.image.now c.args.refused.now c.requires.known c.in-Some.part (missing c.args.image.now c.args.refused.now.condition _ c.in-Some.part c.in-Some.is c.in_ok-part.ensures).0).1

pub returns-in-Some : goal.returns-in-Some
returns-in-Some g c =
    let s = c.args.image.now in
    let law = law-at c.witnesses_by_numbers.ensures s c.requires.orderly c.requires.self_known in
    IfOk-weaker c.round_lines.result _ _
    (λ lines are. lines-round s law c.args.refused.now lines.items c.requires.known c.in-Some.part (missing c.args.image.now c.args.refused.now.condition _ c.in-Some.part c.in-Some.is c.in_ok-part.ensures).0 (missing c.args.image.now c.args.refused.now.condition _ c.in-Some.part c.in-Some.is c.in_ok-part.ensures).1 are) c.round_lines.ensures

pub returns-in-None : goal.returns-in-None
returns-in-None g c =
    let s = c.args.image.now in
    let law = law-at c.witnesses_by_numbers.ensures s c.requires.orderly c.requires.self_known in
    IfOk-weaker c.all_lines.result _ _
    (λ lines are. lines-there s law c.args.refused.now lines.items c.requires.known (subst (IsMissing c.args.image.now c.args.refused.now.condition) c.in-None.is c.in_ok-part.ensures) are) c.all_lines.ensures
