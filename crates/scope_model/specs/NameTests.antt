-- What is asked of names, and changes of names that keep the answers.
use Rattle.std.specs.Prelude.{◌≡◌, ℕ, Bool, List, nat_eq}
use Rattle.rb_base.specs.Names.{text_eq, name_at}
use Rattle.scope_model.specs.declared.local.ControlForm.{ControlForm}
use Rattle.scope_model.specs.SpecialNames.{is_pseudo_variable, control_form}

-- whether two names are the same, whether a name is a pseudo-variable's, and which blocks a selector demands
pub record NameTests (N : Type 0) : Type 0 where
  pub same : N → N → Bool
  pub is_pseudo : N → Bool
  pub form : N → ControlForm

-- the questions asked of texts
abbrev pub text_tests : NameTests (List ℕ)
text_tests = record { same = text_eq; is_pseudo = is_pseudo_variable; form = control_form }

-- whether the name of a number is a pseudo-variable's
abbrev pub is_pseudo_in : List (List ℕ) → ℕ → Bool
is_pseudo_in names n = is_pseudo_variable (name_at names n)

-- which blocks the selector of a number demands
abbrev pub form_in : List (List ℕ) → ℕ → ControlForm
form_in names n = control_form (name_at names n)

-- the questions asked of numbers in a table of names
abbrev pub number_tests : List (List ℕ) → NameTests ℕ
number_tests names = record { same = nat_eq; is_pseudo = is_pseudo_in names; form = form_in names }

-- each question about names of which P holds has the same answer once they are changed; so the change is one to one on them
pub record KeepsAnswers {M N : Type 0} (P : M → Type 0) (f : M → N) (before : NameTests M) (after : NameTests N) : Type 0 where
  pub same : (j k : M) → P j → P k → after.same (f j) (f k) ≡ before.same j k
  pub is_pseudo : (n : M) → P n → after.is_pseudo (f n) ≡ before.is_pseudo n
  pub form : (n : M) → P n → after.form (f n) ≡ before.form n
