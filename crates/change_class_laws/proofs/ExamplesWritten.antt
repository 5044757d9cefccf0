-- The texts of the examples are computed.
use Rattle.std.proofs.Common.{◌≡◌, refl}
use Rattle.std.specs.Fmt.{digits}
use Rattle.change_model.specs.Text.{change_text}
use Rattle.change_class_laws.specs.Examples.{renamed, all_kinds}

pub writes_renamed : change_text renamed.before renamed.after ≡ renamed.text
unfolding digits
writes_renamed = refl

pub writes_all_kinds : change_text all_kinds.before all_kinds.after ≡ all_kinds.text
unfolding digits
writes_all_kinds = refl
