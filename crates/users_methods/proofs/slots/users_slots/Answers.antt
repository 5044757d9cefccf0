use Rattle.std.proofs.Common.{ap, rules, ◌∙◌}
use Rattle.std.specs.Prelude.{nat_eq}
use Rattle.std.specs.List.{list_any}
use Rattle.std.proofs.lemmas.Fn.{filter_same}
use Rattle.users_methods.specs.Users.{is_users}
use Rattle.users_methods.proofs.Places.{users-listed}
use Rattle.users_methods.proofs.slots.users_slots.Goals as goal

pub returns : goal.returns
returns c k =
    let s = c.args.image.now in
    let m = c.args.method.now in
    ap (list_any (nat_eq k)) (filter_same _ (is_users s m) _ (λ x b f j. search rules) _ _ c.retain.ensures.filtered)
    ∙ users-listed s m c.in_ok-found.found.items c.in_ok-found.ensures k
