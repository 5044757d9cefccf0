-- The plan of a command is carried out behind others.
use Rattle.std.proofs.Common.{◌≡◌, ◌<◌, List, [], ◌∷◌, length, None, Ok, sym, subst}
use Rattle.rb_base.specs.Names.{name_at}
use Rattle.run_model.specs.Values.{Name}
use Rattle.class_table.specs.declared.record.Place.{Place}
use Rattle.class_table.specs.Slots.{Slots}
use Rattle.class_table.specs.View.{number_image, image_of}
use Rattle.change_set.specs.Changes.{all_applied, inverses}
use Rattle.wider_slots.specs.Logs.{CanDoAgain}
use Rattle.wider_slots.specs.Wider.{Wider}
use Rattle.command_model.specs.Commands.{CommandOf}
use Rattle.command_model.specs.Judged.{first_false}
use Rattle.command_model.specs.Renamings.{renaming_of}
use Rattle.command_numbers.specs.CommandNames.{CommandNames}
use Rattle.command_numbers.specs.MappedCommands.{map_command}
use Rattle.commands.specs.Views.{command_of, HasSelf, asked_by}
use Rattle.commands.specs.declared.command.Command.{Command}
use Rattle.plans.specs.Plan.{IsPlan}
use Rattle.reference_index.specs.Mentioned.{Mentioned}
use Rattle.session.specs.Log.{DoneCommand, Done, with_command, RenamesNames}
use Rattle.session.specs.History.{renamed_by}
use Rattle.session.specs.Stepping.{IsUnderWay, IsCarriedOut}
use Rattle.session.proofs.Judging.{Accepts, accepted-texts}
use Rattle.session.proofs.UnderWay.{Follows, carried-one}

pub carried-planned : Accepts → (first s p t : Slots) (x y : Mentioned) (d e : Done) (c : Command) (k : DoneCommand) (places : List Place) → IsUnderWay first s x d → HasSelf s.names → CommandNames (λ n. n < length s.names) (command_of c) → Wider s p → p.names ≡ s.names
    → first_false (asked_by s.names) (number_image s) (command_of c) ≡ None → IsPlan p (command_of c) k.changes places → RenamesNames (λ n. n < length s.names) k.renames → renamed_by s k ≡ renaming_of (image_of s) (map_command (name_at s.names) (command_of c))
    → t ≡ all_applied p k.changes → e ≡ with_command d (record { changes = inverses p k.changes; renames = k.renames }) places → Follows t x y places
    → IsCarriedOut s x d (map_command (name_at s.names) (command_of c) ∷ []) t y e (Ok tt)
carried-planned law first s p t x y d e c k places is has known room names none plan named renamed made left follows =
    let command : CommandOf Name = map_command (name_at s.names) (command_of c) in
    let u : Slots = all_applied p k.changes in
    let can : CanDoAgain p k.changes = record { can = plan.can; fit = plan.fit; orderly = plan.orderly } in
    let there : Follows u x y places = subst (λ (z : Slots). Follows z x y places) made follows in
    subst (λ (z : Done). IsCarriedOut s x d (command ∷ []) t y z (Ok tt)) (sym left) (
    subst (λ (z : Slots). IsCarriedOut s x d (command ∷ []) z y (with_command d (record { changes = inverses p k.changes; renames = k.renames }) places) (Ok tt)) (sym made) (
    carried-one s x d command p y k places room can named names is.back is.known plan.touched there (accepted-texts s c is.orderly has known law p u room names none plan.effect plan.names) renamed))
