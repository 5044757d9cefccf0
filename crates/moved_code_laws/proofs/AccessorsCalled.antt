-- The getter and the setter of a variable, as they are called for it.
use Rattle.std.proofs.Common.{◌≡◌, ◌+◌, ◌++◌, length, refl, sym, ap, ◌∙◌, arith}
use Rattle.std.specs.Prelude.{Bool, true, false, if◌then◌else◌, codes}
use Rattle.std.proofs.lemmas.List.{length-append}
use Rattle.rb_base.specs.Names.{text_eq}
use Rattle.scope_model.specs.SpecialNames.{is_pseudo_variable}
use Rattle.run_model.specs.Values.{Name}
use Rattle.run_model.proofs.Finite.{by_cases}
use Rattle.run_model.proofs.RenamingLemmas.{text-same}
use Rattle.command_model.specs.Accessors.{setter_selector, setter_argument}
use Rattle.moved_code_laws.specs.AccessorNames.{AreAccessorNames}

-- a name with a colon behind it is another name
longer : (x : Name) → x ++ codes ":" ≡ x → ⊥
longer x e =
    let more : length x + 1 ≡ length x = sym (length-append x (codes ":")) ∙ ap length e in
    omega (arith, more)

-- the argument of the setter
argument-apart : (x : Name) (b : Bool) → text_eq x (codes "anObject") ≡ b → text_eq x (if b then codes "aValue" else codes "anObject") ≡ false
argument-apart x true e = ap (λ y. text_eq y (codes "aValue")) (text-same x (codes "anObject") e)
argument-apart x false e = e

argument-plain : (b : Bool) → is_pseudo_variable (if b then codes "aValue" else codes "anObject") ≡ false
unfolding is_pseudo_variable
argument-plain true = refl
argument-plain false = refl

pub accessors-called : (x : Name) → AreAccessorNames x (setter_selector x) (setter_argument x)
accessors-called x = record {
  other_selector = by_cases (text_eq (setter_selector x) x) (λ t. absurd (longer x (text-same (setter_selector x) x t))) (λ f. f);
  other_name = argument-apart x (text_eq x (codes "anObject")) refl;
  plain_name = argument-plain (text_eq x (codes "anObject"));
}
