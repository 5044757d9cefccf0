use Rattle.std.proofs.Common.{ℕ, [], ◌∷◌, ◌++◌, map, Option, sym, ap, ◌∙◌, append-nil}
use Rattle.std.specs.Option.{option_map_or}
use Rattle.command_model.specs.Conditions.{Inlinable}
use Rattle.commands.specs.Views.{condition_of}
use Rattle.conditions.proofs.Messages.{put-same}
use Rattle.conditions.proofs.moves.put_inlinable.Goals as goal

pub returns-in-None : goal.returns-in-None
returns-in-None c =
    let old = map condition_of c.args.conditions.now.items in
    sym (append-nil old) ∙ ap (λ (o : Option ℕ). old ++ option_map_or (λ d. Inlinable d c.args.meta c.args.selector ∷ []) o []) (sym c.in-None.is)

pub returns-in-Some : goal.returns-in-Some
returns-in-Some c =
    let old = map condition_of c.args.conditions.now.items in
    put-same c.put_all.result (map condition_of c.put_all.new.conditions.items) (old ++ Inlinable c.in-Some.class c.args.meta c.args.selector ∷ [])
    (old ++ option_map_or (λ d. Inlinable d c.args.meta c.args.selector ∷ []) c.args.class [])
    (ap (λ (o : Option ℕ). old ++ option_map_or (λ d. Inlinable d c.args.meta c.args.selector ∷ []) o []) (sym c.in-Some.is)) c.put_all.ensures
