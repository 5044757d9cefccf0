use Rattle.std.proofs.Common.{◌≡◌, List, find, take, None, ℕ}
use Rattle.std.specs.Borrow.{Bor}
use Rattle.rb_base.specs.Names.{text_eq}
use Rattle.script_lang.specs.declared.verb.Verb.{Verb}
use Rattle.script_lang.proofs.verb.find_verb.Given as goal

abbrev pub invariant-loop-text : goal.invariant-loop-text
invariant-loop-text l = find (λ (r : Bor (List ℕ) × Verb). text_eq l.word r.0.now) (take l.text-index l.rows) ≡ None
