-- What the law of `extractTemp` asks of an image holds of each valid one.
use Rattle.std.proofs.Common.{◌≡◌, List, [], ◌∷◌}
use Rattle.std.specs.Prelude.{true, false, IsTrue}
use Rattle.std.specs.List.{AllByRecursion}
use Rattle.std.proofs.lemmas.Bool.{false≢true}
use Rattle.rb_base.specs.Names.{text_eq}
use Rattle.image_model.specs.Image.{ClassOf}
use Rattle.image_model.specs.Valid.{GivesNames}
use Rattle.file_model.specs.Words.{may_name}
use Rattle.run_model.specs.Values.{Name}
use Rattle.run_model.proofs.Finite.{by_cases}
use Rattle.run_model.proofs.RenamingLemmas.{text-same}

-- a name that may be given is not empty
not-empty : (n : Name) → may_name n ≡ true → text_eq [] n ≡ false
not-empty n h = by_cases (text_eq [] n) (λ t. absurd (none n (text-same [] n t) h)) (λ f. f)
  where
    none : (n : Name) → [] ≡ n → may_name n ≡ true → ⊥
    none [] e h = false≢true h
    none (b ∷ n) e h = absurd (cc)

pub names-there : (classes : List (ClassOf Name)) → AllByRecursion (GivesNames (λ n. IsTrue (may_name n))) classes → AllByRecursion (λ (c : ClassOf Name). text_eq [] c.name ≡ false) classes
names-there [] a = tt
names-there (c ∷ cs) a = (not-empty c.name a.0.name, names-there cs a.1)
