-- One more do-it goes along.
use Rattle.std.proofs.Common.{◌≡◌, List, [], ◌∷◌, ◌++◌, map, refl, ap}
use Rattle.image_model.specs.Image.{DoItOf, ImageOf, plus}
use Rattle.certified_model.specs.Marks.{Text}
use Rattle.rewrite_model.specs.Rewritten.{rewritten_doit}
use Rattle.rule_model.specs.RuleCommands.{RuleCommand, rule_effect}
use Rattle.rule_model.specs.Beside.{doit_after}

last_mapped : (c : RuleCommand) (ds : List (DoItOf Text)) (e : DoItOf Text) → map (rewritten_doit c.rule) (ds ++ e ∷ []) ≡ map (rewritten_doit c.rule) ds ++ doit_after c e ∷ []
last_mapped c [] e = refl
last_mapped c (d ∷ ds) e = ap (λ (es : List (DoItOf Text)). rewritten_doit c.rule d ∷ es) (last_mapped c ds e)

pub goes_along : (c : RuleCommand) (i : ImageOf Text) (e : DoItOf Text) → rule_effect c (plus i e) ≡ plus (rule_effect c i) (doit_after c e)
goes_along c i e = ap (λ (es : List (DoItOf Text)). record (rule_effect c i) { doits = es }) (last_mapped c i.doits e)
