use Rattle.std.proofs.Common.{ℕ, List, [], ◌∷◌, ◌++◌, map, Option, ap, ◌∙◌, append_assoc}
use Rattle.std.specs.Option.{option_map_or}
use Rattle.command_model.specs.Conditions.{AtPart, ConditionOf, Inlinable, PlainActuals, NoCapture, NoNewControl, Shallow}
use Rattle.commands.specs.Views.{condition_of}
use Rattle.inline_questions.specs.Codes.{entry_in}
use Rattle.conditions.specs.Messages.{found_needs}
use Rattle.conditions.proofs.Messages.{put-same}
use Rattle.conditions.proofs.moves.put_target_needs.Goals as goal

pub returns : goal.returns
returns c =
    let p = c.args.part.now in
    let meta = c.args.target.now.code.meta in
    let old = map condition_of c.args.conditions.now.items in
    let inlinable = λ (o : Option ℕ). option_map_or {U = List (ConditionOf ℕ)} (λ d. Inlinable d meta c.args.selector ∷ []) o [] in
    let behind : List (ConditionOf ℕ) =
    PlainActuals p.method.class p.method.meta p.method.selector p.from p.to ∷ NoCapture p.method.class p.method.meta p.method.selector (AtPart p.from p.to)
    ∷ NoNewControl p.method.class p.method.meta p.method.selector (AtPart p.from p.to) ∷ Shallow ∷ [] in
    put-same c.put_all.result (map condition_of c.put_all.new.conditions.items) (map condition_of c.put_inlinable.new.conditions.items ++ behind)
    (old ++ found_needs p c.args.selector (entry_in c.args.image.now c.args.target.now))
    (ap (λ (cs : List (ConditionOf ℕ)). cs ++ behind) c.in_ok-put_inlinable.ensures
    ∙ append_assoc old (inlinable c.name_of_class-class.result) behind
    ∙ ap (λ (o : Option ℕ). old ++ (inlinable o ++ behind)) c.name_of_class-class.ensures) c.put_all.ensures
