-- How a getter and a setter are called.
use Rattle.std.specs.Prelude.{◌≡◌, false}
use Rattle.rb_base.specs.Names.{text_eq}
use Rattle.scope_model.specs.SpecialNames.{is_pseudo_variable}
use Rattle.run_model.specs.Values.{Name}

-- The setter has another selector than the getter, which is called as the variable; and the name of its argument is neither that of the variable nor that of a pseudo-variable.
pub record AreAccessorNames (x setter given : Name) : Type 0 where
  pub other_selector : text_eq setter x ≡ false
  pub other_name : text_eq x given ≡ false
  pub plain_name : is_pseudo_variable given ≡ false
