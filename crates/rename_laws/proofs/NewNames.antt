-- One class is called by a name that no other has.
use Rattle.std.proofs.Common.{◌≡◌, sym, ap, ◌∙◌}
use Rattle.std.specs.Prelude.{true, false, if◌then◌else◌}
use Rattle.std.proofs.lemmas.Bool.{false≢true}
use Rattle.rb_base.specs.Names.{text_eq}
use Rattle.rb_base.proofs.NamesLemmas.{text_eq-refl}
use Rattle.run_model.specs.Values.{Name}
use Rattle.run_model.proofs.Finite.{by_cases}
use Rattle.run_model.proofs.RenamingLemmas.{text-same}
use Rattle.mapped_model.specs.NameMaps.{NameMaps}

module _ (c d : Name) where
  -- the new name of a class
  abbrev pub new : Name → Name
  new n = if text_eq c n then d else n

  -- the maps of names: that of the class, and of its class variables
  abbrev pub maps : NameMaps
  maps = record { class = new; selector = λ s. s; shared = λ k. (new k.0, k.1); instance = λ k. k.1; class_side = λ k. k.1 }

  -- a name other than the new one
  abbrev pub Other : Name → Type 0
  Other n = text_eq d n ≡ false

  -- the class, and anything else
  pub new-class : (n : Name) → text_eq c n ≡ true → new n ≡ d
  new-class n e = ap (λ b. if b then d else n) e

  pub new-other : (n : Name) → text_eq c n ≡ false → new n ≡ n
  new-other n e = ap (λ b. if b then d else n) e

  -- the new name is no other
  apart : {P : Type 0} (n : Name) → Other n → d ≡ n → P
  apart n o e = absurd (false≢true (sym o ∙ ap (text_eq d) (sym e) ∙ text_eq-refl d))

  -- no two names become one
  pub new-one : (x y : Name) → Other x → Other y → new x ≡ new y → x ≡ y
  new-one x y o p e =
      by_cases (text_eq c x)
      (λ s. by_cases (text_eq c y) (λ t. sym (text-same c x s) ∙ text-same c y t) (λ t. apart y p (sym (new-class x s) ∙ e ∙ new-other y t)))
      (λ s. by_cases (text_eq c y) (λ t. apart x o (sym (new-class y t) ∙ sym e ∙ new-other x s)) (λ t. sym (new-other x s) ∙ e ∙ new-other y t))

  -- so that they are told apart as before
  pub same-after : (x y : Name) → Other x → Other y → text_eq (new x) (new y) ≡ text_eq x y
  same-after x y o p =
      by_cases (text_eq x y)
      (λ t. ap (λ z. text_eq (new x) (new z)) (sym (text-same x y t)) ∙ text_eq-refl (new x) ∙ sym t)
      (λ t. by_cases (text_eq (new x) (new y))
      (λ u. absurd (false≢true (sym t ∙ ap (text_eq x) (sym (new-one x y o p (text-same (new x) (new y) u))) ∙ text_eq-refl x)))
      (λ u. u ∙ sym t))
