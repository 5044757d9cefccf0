use Rattle.std.proofs.Common.{◌≡◌, ℕ, List, Bor, drop}
use Rattle.std.specs.List.{list_any}
use Rattle.conditions.specs.Reflection.{is_text_found}
use Rattle.conditions.proofs.reflection.is_one_found.Given as goal

abbrev pub invariant-loop-text : goal.invariant-loop-text
invariant-loop-text g l =
    list_any (λ (t : Bor (List ℕ)). is_text_found l.image l.what t.now) (drop l.text-index l.texts)
    ≡ list_any (λ (t : Bor (List ℕ)). is_text_found l.image l.what t.now) l.texts
