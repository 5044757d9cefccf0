-- Names that may be declared.
use Rattle.std.proofs.Common.{◌≡◌, length}
use Rattle.std.specs.Prelude.{true, false, nat_le}
use Rattle.text_model.specs.Literals.{is_identifier}
use Rattle.scope_model.specs.SpecialNames.{is_pseudo_variable}
use Rattle.run_model.specs.Values.{Name}
use Rattle.run_model.proofs.Finite.{and-true_right}
use Rattle.rename_model.specs.CommandWords.{may_be_declared}
use Rattle.rename_laws.proofs.Unnamed.{neither_left, denied}

-- a name that may be declared is no pseudo-variable
pub proper-name : (n : Name) → may_be_declared n ≡ true → is_pseudo_variable n ≡ false
proper-name n e = neither_left (is_pseudo_variable n) _ (denied _ (and-true_right (is_identifier n) _ (and-true_right (nat_le (length n) 200) _ e)))
