-- What commands that move code ask has the same answer once the names are changed.
use Rattle.std.specs.Prelude.{◌≡◌}
use Rattle.command_model.specs.Asked.{AskedOf}
use Rattle.command_numbers.specs.KeepsAsked.{KeepsAsked}

-- all that conditions ask of these names, one of which is `self`; and parts of sources are looked up the same
pub record KeepsMoves {M N : Type 0} (P : M → Type 0) (f : M → N) (before : AskedOf M) (after : AskedOf N) : Type 0 where
  pub asked : KeepsAsked P f before after
  pub self_known : P before.self_name
  pub self_name : after.self_name ≡ f before.self_name
  pub part_of : after.part_of ≡ before.part_of
